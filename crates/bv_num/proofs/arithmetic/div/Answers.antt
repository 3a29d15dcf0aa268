use Rattle.bv_num.proofs.Operations.{divides_wide}
use Rattle.bv_num.proofs.arithmetic.div.Goals as goal

pub returns : goal.returns
returns c = divides_wide c.args.a c.args.b _ _ _ c.ranges.a c.ranges.b c.if-b-eq0.false c.from.ensures c.from-2.ensures c.narrow.ensures
