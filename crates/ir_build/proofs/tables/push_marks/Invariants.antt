use Rattle.std.proofs.Common.{◌≡◌, ◌++◌, drop}
use Rattle.ir_build.specs.Code as spec
use Rattle.ir_build.proofs.TableSteps.{marks_left}
use Rattle.ir_build.proofs.tables.push_marks.Given as goal

abbrev pub invariant-loop-i : goal.invariant-loop-i
invariant-loop-i l = l.initial.marks ++ spec.marks_of l.code ≡ l.marks ++ marks_left l.is_first (drop l.i l.code)
