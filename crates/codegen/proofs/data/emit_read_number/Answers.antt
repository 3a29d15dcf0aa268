use Rattle.std.proofs.Common.{◌≡◌, ◌∙◌, OnOk, subst}
use Rattle.code_frag.specs.Language.{◌⨾◌}
use Rattle.runtime_lib.specs.Entries as library
use Rattle.codegen.specs.Operations.{make_room, operate}
use Rattle.codegen.proofs.EmitLaws.{two_pieces}
use Rattle.codegen.proofs.data.emit_read_number.Goals as goal

pub returns : goal.returns
returns c =
    let next = operate library.NextItem c.args.line in
    subst (λ f. OnOk c.emit_operate-2.result (c.emit_operate-2.new.frag ≡ f))
    (two_pieces (make_room ⨾ next) (operate library.ItemNumber c.args.line) c.args.frag.now c.emit_operate.new.frag (c.in_ok-emit_operate.ensures ∙ two_pieces make_room next c.args.frag.now c.emit_all.new.self c.in_ok-emit_all.ensures.ok))
    c.emit_operate-2.ensures
