use Rattle.std.proofs.Common.{◌≡◌, ◌++◌, drop}
use Rattle.ir_build.specs.Code as spec
use Rattle.ir_build.proofs.output.push_vdu.Given as goal

abbrev pub invariant-loop-i : goal.invariant-loop-i
invariant-loop-i l = l.initial.ops ++ spec.vdu_code l.prog l.line l.parts ≡ l.ops ++ spec.vdu_code l.prog l.line (drop l.i l.parts)
