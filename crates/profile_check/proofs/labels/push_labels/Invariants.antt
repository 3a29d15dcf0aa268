use Rattle.std.proofs.Common.{◌≡◌, ◌++◌, drop}
use Rattle.profile_check.specs.Programs as spec
use Rattle.profile_check.proofs.labels.push_labels.Given as goal

abbrev pub invariant-loop-symbol : goal.invariant-loop-symbol
invariant-loop-symbol l = l.initial.labels ++ spec.labels_in l.text l.symbols ≡ l.labels ++ spec.labels_in l.text (drop l.symbol-index l.symbols)
