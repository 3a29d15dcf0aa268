use Rattle.ir_build.proofs.Equality.{runs_within}
use Rattle.ir_build.proofs.laws.steps_alike.Goals as goal

pub returns : goal.returns
returns c = runs_within c.args.prog.now
