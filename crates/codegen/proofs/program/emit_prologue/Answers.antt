use Rattle.std.proofs.Common.{◌≡◌, ◌+◌, ◌*◌, ◌/◌, ◌^◌, OnOk, true, subst}
use Rattle.code_frag.specs.Instructions.{mov}
use Rattle.code_frag.specs.Regions.{residents_start, numbers_end, texts_end, stack_end}
use Rattle.codegen.specs.Operations.{load, restore}
use Rattle.codegen.proofs.WholeProgram.{five_pieces}
use Rattle.codegen.proofs.program.emit_prologue.Goals as goal

pub returns : goal.returns
returns c =
    subst (λ f. OnOk c.emit_restore.result (c.emit_restore.new.frag ≡ f))
    (five_pieces (mov 11 (record { imm = true; field = 8 * 2 ^ 8 + residents_start / 2 ^ 16 })) (load 12 numbers_end) (load 9 texts_end) (load 13 stack_end) (restore c.args.first)
    c.args.frag.now c.emit_process.new.frag c.emit_load.new.frag c.emit_load-2.new.frag c.emit_load-3.new.frag c.in_ok-emit_process.ensures c.in_ok-emit_load.ensures c.in_ok-emit_load-2.ensures c.in_ok-emit_load-3.ensures)
    c.emit_restore.ensures
