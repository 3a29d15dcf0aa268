use Rattle.bv_num.proofs.Operations.{multiplies_wide}
use Rattle.bv_num.proofs.arithmetic.mul.Goals as goal

pub returns : goal.returns
returns c = multiplies_wide c.args.a c.args.b _ _ _ c.ranges.a c.ranges.b c.from.ensures c.from-2.ensures c.narrow.ensures
