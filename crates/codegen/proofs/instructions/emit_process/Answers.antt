use Rattle.std.proofs.Common.{false}
use Rattle.arm_isa.proofs.ValidLaws.{valid-data_immediate}
use Rattle.codegen.proofs.instructions.emit_process.Goals as goal

pub emit-requires : goal.emit-requires
emit-requires c = valid-data_immediate c.args.cond c.args.op c.args.rn c.args.rd c.args.field false c.requires.cond c.requires.op c.requires.rn c.requires.rd c.requires.field
