use Rattle.std.proofs.Common.{◌≡◌, OnOk, length, subst}
use Rattle.codegen.proofs.WholeProgram.{leads, with_program-is}
use Rattle.codegen.proofs.program.emit_program.Goals as goal

pub emit_ops-requires-clause-leads : goal.emit_ops-requires-clause-leads
emit_ops-requires-clause-leads c = leads c.args.ir.now c.requires.laid_out (length c.args.frag.now.places) c.requires.labels

pub returns : goal.returns
returns c =
    subst (λ f. OnOk c.emit_end.result (c.emit_end.new.frag ≡ f))
    (with_program-is c.args.ir.now c.args.branches c.in_ok-items.items c.item_label.result.number c.args.frag.now c.emit_ops.new.frag c.place.new.self c.requires.branches c.in_ok-items.ensures.code c.in_ok-items.ensures.items c.item_label.ensures c.place.ensures)
    c.emit_end.ensures
