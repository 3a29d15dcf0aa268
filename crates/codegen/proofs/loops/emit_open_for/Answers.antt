use Rattle.std.proofs.Common.{◌≡◌, ◌∙◌, OnOk, subst}
use Rattle.code_frag.specs.Instructions.{reg, mov, pull}
use Rattle.code_frag.specs.Language.{Skip, ◌⨾◌}
use Rattle.codegen.specs.Operations.{drop, find_variable, open_entry}
use Rattle.codegen.proofs.EmitLaws.{two_pieces}
use Rattle.codegen.proofs.loops.emit_open_for.Goals as goal

pub returns : goal.returns
returns c =
    let values = mov 4 (reg 0) ⨾ pull 3 12 ⨾ drop ⨾ Skip in
    let address = find_variable c.args.counter in
    subst (λ f. OnOk c.emit_open_entry.result (c.emit_open_entry.new.frag ≡ f))
    (two_pieces (values ⨾ address) (open_entry c.args.back c.args.line) c.args.frag.now c.emit_find_variable.new.frag
    (c.in_ok-emit_find_variable.ensures ∙ two_pieces values address c.args.frag.now c.emit_all.new.self c.in_ok-emit_all.ensures.ok))
    c.emit_open_entry.ensures
