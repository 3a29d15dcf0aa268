use Rattle.bv_run.proofs.RunLaws.{run-going, run-ended}
use Rattle.bv_run.proofs.laws.bounds_add_up.Goals as goal

pub returns-clause-goes_on : goal.returns-clause-goes_on
returns-clause-goes_on g c = run-going

pub returns-clause-stays_ended : goal.returns-clause-stays_ended
returns-clause-stays_ended g c = run-ended
