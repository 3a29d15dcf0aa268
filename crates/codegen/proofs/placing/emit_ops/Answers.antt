use Rattle.std.proofs.Common.{sym, subst, ◌∙◌, get_or, pos}
use Rattle.bas_ir.specs.declared.op.Op.TheVariants as o
use Rattle.bas_ir.specs.Places.{marks_in}
use Rattle.codegen.specs.Emission.{LeadsInto}
use Rattle.codegen.specs.Program.{named_text}
use Rattle.codegen.specs.Placing.{with_ops}
use Rattle.codegen.proofs.EmitLaws.{op_at, code_more, unplaced_more, items_more}
use Rattle.codegen.proofs.placing.emit_ops.Goals as goal

pub emit_marked-requires-clause-leads : goal.emit_marked-requires-clause-leads
emit_marked-requires-clause-leads c =
    subst (λ n. LeadsInto n (get_or c.as_slice-ops.result.now c.loop-pc.pc (o.Push (pos 0)))) (sym c.loop-pc.invariant.labels) (c.requires.leads c.loop-pc.pc (get_or c.as_slice-ops.result.now c.loop-pc.pc (o.Push (pos 0))) (op_at c.args.ir.now.ops c.as_slice-ops.result.now c.loop-pc.pc (o.Push (pos 0)) c.as_slice-ops.ensures c.loop-pc-test.true))

pub loop-pc-preserved : goal.loop-pc-preserved
loop-pc-preserved c =
    let ir = c.args.ir.now in
    let ops = c.as_slice-ops.result.now in
    let marks = c.as_slice-marks.result.now in
    record {
      code = code_more ir ops marks c.loop-pc.pc c.loop-pc.item c.in_ok-item.item c.address_of-text_address.result c.args.branches (o.Push (pos 0)) c.loop-pc.frag c.emit_marked.new.frag c.as_slice-ops.ensures c.as_slice-marks.ensures c.loop-pc-test.true c.requires.marks
          c.in_ok-item.ensures.code c.in_ok-item.ensures.next
          (with_ops (named_text ir) c.args.branches ir.ops ir.marks 0 c.args.frag.now) c.address_of-text_address.ensures c.loop-pc.invariant.code;
      unplaced = unplaced_more ir ops marks c.loop-pc.pc c.loop-pc.item c.in_ok-item.item c.address_of-text_address.result c.args.branches (o.Push (pos 0)) c.loop-pc.frag c.emit_marked.new.frag c.as_slice-ops.ensures c.as_slice-marks.ensures c.loop-pc-test.true c.requires.marks
          c.in_ok-item.ensures.code c.in_ok-item.ensures.next c.loop-pc.invariant.unplaced;
      items = items_more ir ops marks c.loop-pc.pc c.loop-pc.item c.in_ok-item.item c.address_of-text_address.result c.args.branches (o.Push (pos 0)) c.loop-pc.frag c.emit_marked.new.frag c.as_slice-ops.ensures c.as_slice-marks.ensures c.loop-pc-test.true c.requires.marks
          c.in_ok-item.ensures.code c.in_ok-item.ensures.next (marks_in ir.marks) c.loop-pc.invariant.items;
      labels = c.in_ok-item.ensures.labels ∙ c.loop-pc.invariant.labels;
    }
