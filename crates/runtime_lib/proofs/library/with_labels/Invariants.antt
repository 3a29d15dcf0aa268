use Rattle.std.proofs.Common.{◌≡◌, [], None, replicate}
use Rattle.runtime_lib.proofs.library.with_labels.Given as goal

-- as many labels as turns
abbrev pub invariant-loop : goal.invariant-loop
invariant-loop l = l.frag ≡ record { items = []; places = replicate l.counter None }
