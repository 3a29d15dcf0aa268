use Rattle.std.proofs.Common.{◌≡◌, drop}
use Rattle.bas_sem.specs.Places as spec
use Rattle.ir_build.proofs.places.line_place.Given as goal

abbrev pub invariant-loop-i : goal.invariant-loop-i
invariant-loop-i l = spec.line_place l.prog l.number ≡ spec.line_among (drop l.i l.lines) l.number l.place
