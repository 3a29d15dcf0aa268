use Rattle.bas_sem.proofs.Runs.{bound_kept}
use Rattle.bas_sem.proofs.laws.bound_kept.Goals as goal

pub returns : goal.returns
returns c = bound_kept c.args.prog.now
