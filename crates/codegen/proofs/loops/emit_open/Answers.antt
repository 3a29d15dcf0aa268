use Rattle.std.proofs.Common.{◌≡◌, OnOk, subst}
use Rattle.code_frag.specs.Instructions.{num, mov}
use Rattle.codegen.specs.Operations.{open_entry}
use Rattle.codegen.proofs.EmitLaws.{two_pieces}
use Rattle.codegen.proofs.loops.emit_open.Goals as goal

pub returns : goal.returns
returns c =
    subst (λ f. OnOk c.emit_open_entry.result (c.emit_open_entry.new.frag ≡ f))
    (two_pieces (mov 1 (num c.args.kind)) (open_entry c.args.back c.args.line) c.args.frag.now c.emit_process.new.frag c.in_ok-emit_process.ensures)
    c.emit_open_entry.ensures
