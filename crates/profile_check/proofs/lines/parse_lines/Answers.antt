use Rattle.profile_check.proofs.LineSteps.{lines_end}
use Rattle.profile_check.proofs.lines.parse_lines.Goals as goal

pub returns-clause-ok : goal.returns-clause-ok
returns-clause-ok c = (lines_end _ _ _ _ _ c.loop-i.invariant c.loop-i-test.false).0
