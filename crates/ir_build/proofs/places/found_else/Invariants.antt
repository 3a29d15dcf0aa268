use Rattle.std.proofs.Common.{◌≡◌, ◌+◌, drop}
use Rattle.bas_sem.specs.Places as spec
use Rattle.ir_build.proofs.places.found_else.Given as goal

abbrev pub invariant-loop-i : goal.invariant-loop-i
invariant-loop-i l = spec.found_else l.items l.place ≡ spec.found_else (drop l.i l.items) (l.place + l.i)
