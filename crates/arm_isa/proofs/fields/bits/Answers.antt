use Rattle.std.proofs.Common.{refl}
use Rattle.arm_isa.proofs.FieldLemmas.{bits_by_mask}
use Rattle.arm_isa.proofs.fields.bits.Goals as goal

pub returns : goal.returns
returns c = bits_by_mask c.args.word c.args.high c.args.low _ c.requires.order c.requires.top refl
