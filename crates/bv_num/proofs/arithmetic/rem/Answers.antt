use Rattle.bv_num.proofs.OperationLaws.{remainder_leaves}
use Rattle.bv_num.proofs.Operations.{remains_wide}
use Rattle.bv_num.proofs.arithmetic.rem.Goals as goal

pub returns-clause-value : goal.returns-clause-value
returns-clause-value c = remains_wide c.args.a c.args.b _ _ _ c.ranges.a c.ranges.b c.if-b-eq0.false c.from.ensures c.from-2.ensures c.narrow.ensures

pub returns-clause-whole : goal.returns-clause-whole
returns-clause-whole c = remainder_leaves c.args.a c.args.b _ (returns-clause-value c)
