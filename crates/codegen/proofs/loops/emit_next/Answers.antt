use Rattle.std.proofs.Common.{◌≡◌, OnOk, subst}
use Rattle.codegen.specs.Operations.{find_variable, turn}
use Rattle.codegen.proofs.EmitLaws.{two_pieces}
use Rattle.codegen.proofs.loops.emit_next.Goals as goal

pub returns : goal.returns
returns c =
    subst (λ f. OnOk c.emit_turn.result (c.emit_turn.new.frag ≡ f))
    (two_pieces (find_variable c.args.counter) (turn c.args.line) c.args.frag.now c.emit_find_variable.new.frag c.in_ok-emit_find_variable.ensures)
    c.emit_turn.ensures
