use Rattle.std.proofs.Common.{◌≡◌, OnOk, subst}
use Rattle.code_frag.specs.Instructions.{num, mov, sub}
use Rattle.code_frag.specs.Language.{Skip, LeaveTo, ◌⨾◌}
use Rattle.codegen.specs.Operations.{close_entry}
use Rattle.codegen.proofs.EmitLaws.{two_pieces}
use Rattle.codegen.proofs.loops.emit_end_while.Goals as goal

pub returns : goal.returns
returns c =
    subst (λ f. OnOk c.emit_all.result (c.emit_all.new.self ≡ f))
    (two_pieces (mov 1 (num 2) ⨾ close_entry c.args.line) (sub 2 2 (num 4) ⨾ LeaveTo 2 ⨾ Skip) c.args.frag.now c.emit_close.new.frag c.in_ok-emit_close.ensures)
    c.emit_all.ensures.ok
