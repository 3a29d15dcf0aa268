use Rattle.bas_sem.proofs.Runs.{outermost_ends}
use Rattle.bas_sem.proofs.laws.outermost_ends.Goals as goal

pub returns : goal.returns
returns c = outermost_ends c.args.prog.now
