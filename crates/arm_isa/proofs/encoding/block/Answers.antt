use Rattle.arm_isa.proofs.Sums.{block_sum}
use Rattle.arm_isa.proofs.encoding.block.Goals as goal

pub returns : goal.returns
returns c =
    let r = c.requires.fields in
    let f = c.requires.flags in
    rw (c.nibble.ensures, c.nibble-2.ensures, c.from.ensures)
    (block_sum c.args.cond c.args.flags c.args.rn c.args.list f.0 f.1 r.1 c.ranges.list.fits)
