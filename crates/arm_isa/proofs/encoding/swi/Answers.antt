use Rattle.arm_isa.specs.Words.{word_of}
use Rattle.arm_isa.proofs.Sums.{swi_sum}
use Rattle.arm_isa.proofs.encoding.swi.Goals as goal

pub returns : goal.returns
unfolding word_of
returns c = rw c.nibble.ensures (swi_sum c.args.cond c.args.number c.requires.1)
