use Rattle.std.proofs.Common.{arith}
use Rattle.std.proofs.lemmas.Int.{ints}
use Rattle.arm_isa.proofs.FieldLemmas.{from_bool-lt}
use Rattle.arm2_alu.proofs.operations.exact_signed_sum.Goals as goal

pub returns : goal.returns
returns c =
    let small = from_bool-lt c.args.carry in
    omega (arith, ints, small)
