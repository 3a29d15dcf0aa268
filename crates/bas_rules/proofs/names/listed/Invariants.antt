use Rattle.std.proofs.Common.{◌≡◌, take}
use Rattle.bas_rules.specs.Names as spec
use Rattle.bas_rules.proofs.names.listed.Given as goal

abbrev pub invariant-loop-place : goal.invariant-loop-place
invariant-loop-place l = l.list ≡ spec.names_of (take l.place l.names.keys)
