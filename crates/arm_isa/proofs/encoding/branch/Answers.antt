use Rattle.arm_isa.specs.Words.{word_of}
use Rattle.arm_isa.proofs.FieldLemmas.{from_bool-lt, offset_field-lt}
use Rattle.arm_isa.proofs.Sums.{branch_sum, distance_bits}
use Rattle.arm_isa.proofs.encoding.branch.Goals as goal

pub returns : goal.returns
unfolding word_of
returns c =
    let r = c.requires in
    rw (c.nibble.ensures, c.flag.ensures, c.cast_unsigned.ensures, distance_bits c.args.words r.1 c.ranges.words)
    (branch_sum c.args.cond _ _ (from_bool-lt c.args.link) (offset_field-lt c.args.words r.1))
