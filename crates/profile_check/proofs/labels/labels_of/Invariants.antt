use Rattle.std.proofs.Common.{◌≡◌, ◌++◌, drop}
use Rattle.profile_check.specs.Cutting.{cuts_of}
use Rattle.profile_check.specs.Programs as spec
use Rattle.profile_check.proofs.labels.labels_of.Given as goal

abbrev pub invariant-loop-i : goal.invariant-loop-i
invariant-loop-i l = spec.labels_of (cuts_of l.lines) ≡ l.labels ++ spec.labels_of (cuts_of (drop l.i l.lines))
