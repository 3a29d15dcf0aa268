use Rattle.std.proofs.Common.{◌≡◌, drop}
use Rattle.bas_sem.specs.Places as spec
use Rattle.ir_build.proofs.places.line_of_number.Given as goal

abbrev pub invariant-loop-i : goal.invariant-loop-i
invariant-loop-i l = spec.line_of_number l.prog l.number ≡ spec.number_among (drop l.i l.lines) l.number l.i
