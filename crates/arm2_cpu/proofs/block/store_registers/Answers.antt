use Rattle.std.proofs.Common.{arith, sym, ◌∙◌}
use Rattle.arm2_cpu.proofs.BlockLoops.{storing_skips, storing_takes, storing_may, storing_ends}
use Rattle.arm2_cpu.proofs.block.store_registers.Goals as goal

pub registers-preserved-then-not-is_listed : goal.registers-preserved-then-not-is_listed
registers-preserved-then-not-is_listed g c =
    storing_skips _ _ _ _ _ _ _ _ _ _ c.registers.invariant (omega arith) (sym c.is_listed.ensures ∙ c.if-not-is_listed.true)

pub set_word_of-requires-clause-allowed : goal.set_word_of-requires-clause-allowed
set_word_of-requires-clause-allowed g c =
    storing_may _ _ _ _ _ _ _ _ _ _ c.registers.invariant (omega arith) (sym c.is_listed.ensures ∙ c.if-not-is_listed.false)

pub registers-preserved : goal.registers-preserved
registers-preserved g c =
    storing_takes _ _ _ _ _ _ _ _ _ _ _ _ c.registers.invariant (omega arith) (sym c.is_listed.ensures ∙ c.if-not-is_listed.false) c.stored_value.ensures c.set_word_of.ensures

pub returns : goal.returns
returns g c = storing_ends _ _ _ _ _ _ _ _ _ _ c.registers.invariant (omega arith)
