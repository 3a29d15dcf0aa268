use Rattle.std.proofs.Common.{ap, ◌∙◌}
use Rattle.code_frag.specs.Words.{FragState}
use Rattle.codegen.proofs.EmitLaws.{branches_step}
use Rattle.codegen.proofs.placing.emit_branches.Goals as goal

pub loop-item-preserved : goal.loop-item-preserved
loop-item-preserved c = record {
  items = branches_step c.loop-item.item c.item_label.result c.args.frag.now.items c.loop-item.frag c.branch-frag.new.self c.item_label.ensures c.in_ok-branch.ensures.ok c.loop-item.invariant.items;
  places = ap (λ (f : FragState). f.places) c.in_ok-branch.ensures.ok ∙ c.loop-item.invariant.places;
}
