use Rattle.std.proofs.Common.{◌≡◌, drop}
use Rattle.std.specs.List.{list_all}
use Rattle.bas_rules.specs.Profile as spec
use Rattle.bas_rules.proofs.profile.in_profile.Given as goal

abbrev pub invariant-loop-i : goal.invariant-loop-i
invariant-loop-i l = list_all spec.in_profile l.items ≡ list_all spec.in_profile (drop l.i l.items)
