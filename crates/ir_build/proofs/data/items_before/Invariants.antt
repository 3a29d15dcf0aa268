use Rattle.std.proofs.Common.{◌≡◌, ◌+◌, drop}
use Rattle.bas_sem.specs.Data as spec
use Rattle.ir_build.proofs.data.items_before.Given as goal

abbrev pub invariant-loop-i : goal.invariant-loop-i
invariant-loop-i l = spec.items_before l.items l.line ≡ l.i + spec.items_before (drop l.i l.items) l.line
