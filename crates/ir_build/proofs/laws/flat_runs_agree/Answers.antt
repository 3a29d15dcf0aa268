use Rattle.ir_build.proofs.Agreement.{runs_agree}
use Rattle.ir_build.proofs.laws.flat_runs_agree.Goals as goal

pub returns : goal.returns
returns c = runs_agree c.args.prog.now
