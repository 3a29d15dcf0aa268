use Rattle.std.proofs.Common.{◌≡◌, length}
use Rattle.bas_rules.specs.Texts as spec
use Rattle.bas_rules.proofs.texts.without_spaces.Given as goal

abbrev pub invariant-spaces : goal.invariant-spaces
invariant-spaces l = spec.without_spaces l.bytes ≡ spec.without_spaces l.rest

abbrev pub decreases-spaces : goal.decreases-spaces
decreases-spaces l = length l.rest
