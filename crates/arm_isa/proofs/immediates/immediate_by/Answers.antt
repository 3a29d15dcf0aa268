use Rattle.std.proofs.Common.{arith, refl}
use Rattle.arm_isa.proofs.ImmediateLaws.{gives_turned, byte_of_field}
use Rattle.arm_isa.proofs.immediates.immediate_by.Goals as goal

pub returns-then-byte-lt256-clause-some : goal.returns-then-byte-lt256-clause-some
returns-then-byte-lt256-clause-some c =
    gives_turned c.args.n c.args.turns c.rotate_left-byte.result _ c.ranges.n.fits c.requires c.rotate_left-byte.ensures c.if-byte-lt256.true refl

pub returns-else-byte-lt256-clause-none : goal.returns-else-byte-lt256-clause-none
returns-else-byte-lt256-clause-none c field gives is =
    let small = byte_of_field c.args.n c.args.turns field c.ranges.n.fits c.requires gives is in
    omega (arith, small, c.rotate_left-byte.ensures, c.if-byte-lt256.false)
