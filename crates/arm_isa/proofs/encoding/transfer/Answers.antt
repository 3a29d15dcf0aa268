use Rattle.arm_isa.proofs.FieldLemmas.{from_bool-lt}
use Rattle.arm_isa.proofs.Sums.{transfer_sum}
use Rattle.arm_isa.proofs.encoding.transfer.Goals as goal

pub returns : goal.returns
returns c =
    rw (c.flag.ensures, c.flag-2.ensures, c.flag-3.ensures, c.flag-4.ensures, c.flag-5.ensures)
    (transfer_sum _ _ _ _ _ (from_bool-lt c.args.pre) (from_bool-lt c.args.up) (from_bool-lt c.args.third) (from_bool-lt c.args.wb) (from_bool-lt c.args.load))
