use Rattle.std.proofs.Common.{nat_le, sym, ◌∙◌}
use Rattle.arm2_alu.proofs.ValueLaws.{minus, subtracted-compared}
use Rattle.arm2_alu.proofs.operations.subtract.Goals as goal

pub returns : goal.returns
returns c =
    (λ i. record { value = minus c.args.a c.args.b; carry = nat_le c.args.b c.args.a; overflow = c.difference_overflows.ensures i })
    ∙ sym (subtracted-compared c.args.a c.args.b c.ranges.a.fits c.ranges.b.fits)
