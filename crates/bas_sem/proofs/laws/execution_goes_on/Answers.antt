use Rattle.bas_sem.proofs.Runs.{goes_on}
use Rattle.bas_sem.proofs.laws.execution_goes_on.Goals as goal

pub returns : goal.returns
returns c = goes_on c.args.prog.now
