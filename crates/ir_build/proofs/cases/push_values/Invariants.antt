use Rattle.std.proofs.Common.{◌≡◌, ◌++◌, drop}
use Rattle.ir_build.specs.Code as spec
use Rattle.ir_build.proofs.cases.push_values.Given as goal

abbrev pub invariant-loop-i : goal.invariant-loop-i
invariant-loop-i l = l.initial.ops ++ spec.values_code l.prog l.line l.after l.values ≡ l.ops ++ spec.values_code l.prog l.line l.after (drop l.i l.values)
