use Rattle.std.proofs.Common.{◌<◌, true, false, arith}
use Rattle.arm_isa.specs.Numbers.{AL}
use Rattle.arm_isa.proofs.ValidLaws.{valid-single_immediate}
use Rattle.codegen.proofs.instructions.emit_transfer.Goals as goal

pub emit-requires : goal.emit-requires
emit-requires c =
    let condition : AL < 16 = omega arith in
    valid-single_immediate AL c.args.rn c.args.rd c.args.offset true true false false c.args.load condition c.requires.rn c.requires.rd c.requires.offset
