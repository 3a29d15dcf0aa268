use Rattle.bas_sem.proofs.Runs.{end_unique}
use Rattle.bas_sem.proofs.laws.end_unique.Goals as goal

pub returns : goal.returns
returns c = end_unique c.args.prog.now
