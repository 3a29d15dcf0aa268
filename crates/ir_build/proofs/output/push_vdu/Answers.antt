use Rattle.std.proofs.Common.{sym}
use Rattle.ir_build.proofs.Equations.{vdu_end}
use Rattle.ir_build.proofs.output.push_vdu.Goals as goal

pub returns : goal.returns
returns c = sym (vdu_end c.args.prog.now c.args.line c.args.parts.now c.loop-i.i c.loop-i.ops _ c.loop-i-test.false c.loop-i.invariant)
