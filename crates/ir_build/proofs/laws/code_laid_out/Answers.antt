use Rattle.ir_build.proofs.LaidOut.{laid_out}
use Rattle.ir_build.proofs.laws.code_laid_out.Goals as goal

pub returns : goal.returns
returns c = laid_out c.args.prog.now
