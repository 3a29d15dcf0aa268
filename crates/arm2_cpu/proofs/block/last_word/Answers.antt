use Rattle.std.proofs.Common.{arith}
use Rattle.arm2_cpu.proofs.BlockLaws.{last_allowed}
use Rattle.arm2_cpu.proofs.block.last_word.Goals as goal

pub word_of-requires-clause-allowed : goal.word_of-requires-clause-allowed
word_of-requires-clause-allowed g c = last_allowed _ _ _ _ _ (omega arith) c.requires.listed c.requires.allowed c.count_low.ensures.value
