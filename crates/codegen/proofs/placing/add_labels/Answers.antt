use Rattle.std.proofs.Common.{get_or, false}
use Rattle.codegen.proofs.EmitLaws.{labels_step, labels_few}
use Rattle.codegen.proofs.placing.add_labels.Goals as goal

pub loop-marked-preserved : goal.loop-marked-preserved
loop-marked-preserved c = record {
  added = labels_step c.args.marks.now c.loop-marked.marked-index c.args.frag.now c.loop-marked.frag c.label_if.new.frag c.loop-marked-test.true c.in_ok-label_if.ensures c.loop-marked.invariant.added;
  few = labels_few (get_or c.args.marks.now c.loop-marked.marked-index false) c.loop-marked.marked-index c.loop-marked.frag c.label_if.new.frag c.in_ok-label_if.ensures c.loop-marked.invariant.few;
}
