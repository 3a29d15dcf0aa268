use Rattle.std.proofs.Common.{◌≡◌, ◌≤◌, length, drop}
use Rattle.bas_rules.specs.Structures.{first_unclosed, items_of}
use Rattle.bas_rules.specs.Ends as spec
use Rattle.bas_rules.proofs.structures.find_unclosed.Given as goal

abbrev pub invariant-lines : goal.invariant-lines
invariant-lines l = (l.i ≤ length l.lines) × (l.first ≡ first_unclosed (drop l.i l.lines)) × (l.ends ≡ spec.ends_from spec.no_ends (items_of (drop l.i l.lines)))

abbrev pub decreases-lines : goal.decreases-lines
decreases-lines l = l.i
