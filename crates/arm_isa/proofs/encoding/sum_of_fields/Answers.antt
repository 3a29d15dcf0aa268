use Rattle.std.proofs.Common.{refl}
use Rattle.arm_isa.specs.Words.{word_of}
use Rattle.arm_isa.proofs.encoding.sum_of_fields.Goals as goal

pub returns-in-Single : goal.returns-in-Single
unfolding word_of
returns-in-Single c = rw (c.single.ensures, c.transfer-flags.ensures, c.in-Single.is) refl

pub returns-in-Block : goal.returns-in-Block
unfolding word_of
returns-in-Block c = rw (c.block.ensures, c.transfer-flags-in-Block.ensures, c.in-Block.is) refl

pub returns-in-Undefined : goal.returns-in-Undefined
unfolding word_of
returns-in-Undefined c = rw c.in-Undefined.is refl
