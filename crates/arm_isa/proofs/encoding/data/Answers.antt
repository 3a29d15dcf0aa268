use Rattle.arm_isa.specs.Words.{word_of}
use Rattle.arm_isa.proofs.FieldLemmas.{from_bool-lt}
use Rattle.arm_isa.proofs.Sums.{data_sum}
use Rattle.arm_isa.proofs.encoding.data.Goals as goal

pub returns : goal.returns
unfolding word_of
returns c =
    let r = c.requires in
    rw (c.nibble.ensures, c.flag.ensures, c.nibble-2.ensures, c.flag-2.ensures, c.nibble-3.ensures, c.nibble-4.ensures, c.from.ensures)
    (data_sum c.args.cond _ c.args.op _ c.args.rn c.args.rd c.args.op2 (from_bool-lt c.args.imm) r.1 (from_bool-lt c.args.s) r.2 r.3 r.4)
