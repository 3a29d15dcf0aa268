use Rattle.std.proofs.Common.{◌≡◌, OnOk, subst}
use Rattle.code_frag.specs.Language.{Skip, Call, ◌⨾◌}
use Rattle.codegen.specs.Operations.{load, raise_if_failed}
use Rattle.codegen.proofs.EmitLaws.{two_pieces}
use Rattle.codegen.proofs.loops.emit_open_entry.Goals as goal

pub returns : goal.returns
returns c =
    subst (λ f. OnOk c.emit_operate.result (c.emit_operate.new.frag ≡ f))
    (two_pieces (load 2 c.args.back) (Call 14 ⨾ raise_if_failed c.args.line ⨾ Skip) c.args.frag.now c.emit_load.new.frag c.in_ok-emit_load.ensures)
    c.emit_operate.ensures
