use Rattle.std.proofs.Common.{◌≡◌, ◌≤◌, length, drop}
use Rattle.bas_rules.specs.Ends as spec
use Rattle.bas_rules.proofs.structures.line_ends.Given as goal

abbrev pub invariant-items : goal.invariant-items
invariant-items l = (l.i ≤ length l.items) × (l.closed ≡ spec.closed_from l.fn.after (drop l.i l.items)) × (l.ends ≡ spec.ends_from l.fn.after (drop l.i l.items))

abbrev pub decreases-items : goal.decreases-items
decreases-items l = l.i
