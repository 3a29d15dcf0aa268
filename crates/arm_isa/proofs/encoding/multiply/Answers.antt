use Rattle.arm_isa.specs.Words.{word_of}
use Rattle.arm_isa.proofs.FieldLemmas.{from_bool-lt}
use Rattle.arm_isa.proofs.Sums.{multiply_sum}
use Rattle.arm_isa.proofs.encoding.multiply.Goals as goal

pub returns : goal.returns
unfolding word_of
returns c =
    let r = c.requires in
    rw (c.nibble.ensures, c.flag.ensures, c.flag-2.ensures, c.nibble-2.ensures, c.nibble-3.ensures, c.nibble-4.ensures, c.from.ensures)
    (multiply_sum c.args.cond _ _ c.args.rd c.args.rn c.args.rs c.args.rm (from_bool-lt c.args.acc) (from_bool-lt c.args.s) r.1 r.2 r.3 r.4)
