use Rattle.arm_isa.proofs.FieldLemmas.{from_bool-lt}
use Rattle.arm_isa.proofs.Sums.{single_sum}
use Rattle.arm_isa.proofs.encoding.single.Goals as goal

pub returns : goal.returns
returns c =
    let r = c.requires.fields in
    let f = c.requires.flags in
    rw (c.nibble.ensures, c.flag.ensures, c.nibble-2.ensures, c.nibble-3.ensures, c.from.ensures)
    (single_sum c.args.cond _ c.args.flags c.args.rn c.args.rd c.args.offset (from_bool-lt c.args.reg) f.0 f.1 r.1 r.2 r.3)
