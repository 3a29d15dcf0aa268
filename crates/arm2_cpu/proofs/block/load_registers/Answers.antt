use Rattle.std.proofs.Common.{arith, sym, ◌∙◌}
use Rattle.arm2_cpu.proofs.BlockLoops.{loading_skips, loading_takes, loading_may, loading_ends}
use Rattle.arm2_cpu.proofs.block.load_registers.Goals as goal

pub registers-preserved-then-not-is_listed : goal.registers-preserved-then-not-is_listed
registers-preserved-then-not-is_listed g c =
    loading_skips _ _ _ _ _ _ _ _ _ _ c.registers.invariant (omega arith) (sym c.is_listed.ensures ∙ c.if-not-is_listed.true)

pub word_of-requires-clause-allowed : goal.word_of-requires-clause-allowed
word_of-requires-clause-allowed g c =
    loading_may _ _ _ _ _ _ _ _ _ _ c.registers.invariant (omega arith) (sym c.is_listed.ensures ∙ c.if-not-is_listed.false)

pub registers-preserved : goal.registers-preserved
registers-preserved g c =
    loading_takes _ _ _ _ _ _ _ _ _ _ _ _ c.registers.invariant (omega arith) (sym c.is_listed.ensures ∙ c.if-not-is_listed.false) c.word_of.ensures c.set_banked.ensures

pub returns : goal.returns
returns g c = loading_ends _ _ _ _ _ _ _ _ _ _ c.registers.invariant (omega arith)
