use Rattle.std.proofs.Common.{◌≡◌, OnOk, subst}
use Rattle.codegen.proofs.WholeProgram.{with_beginning-is}
use Rattle.codegen.proofs.program.emit_beginning.Goals as goal

pub returns : goal.returns
returns c =
    subst (λ f. OnOk c.emit_prologue.result (c.emit_prologue.new.frag ≡ f))
    (with_beginning-is c.args.first c.args.frag.now c.place.new.self c.branch-frag.new.self c.place-2.new.self c.place.ensures c.in_ok-branch.ensures.ok c.place-2.ensures)
    c.emit_prologue.ensures
