use Rattle.profile_check.proofs.Cuts.{IsCutTo}
use Rattle.profile_check.proofs.cutting.cut_lines.Given as goal

abbrev pub invariant-loop-line : goal.invariant-loop-line
invariant-loop-line l = IsCutTo l.lines l.cut l.asm l.line-index
