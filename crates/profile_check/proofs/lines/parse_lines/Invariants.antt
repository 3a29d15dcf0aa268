use Rattle.profile_check.proofs.LineSteps.{AreLinesTo}
use Rattle.profile_check.specs.Tables.{lists_of}
use Rattle.profile_check.proofs.lines.parse_lines.Given as goal

abbrev pub invariant-loop-i : goal.invariant-loop-i
invariant-loop-i l = AreLinesTo l.labels l.lines l.progs l.i (lists_of l.tables)
