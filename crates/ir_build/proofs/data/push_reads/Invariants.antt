use Rattle.std.proofs.Common.{◌≡◌, ◌++◌, drop}
use Rattle.ir_build.specs.Code as spec
use Rattle.ir_build.proofs.data.push_reads.Given as goal

abbrev pub invariant-loop-i : goal.invariant-loop-i
invariant-loop-i l = l.initial.ops ++ spec.reads_code l.prog l.line l.targets ≡ l.ops ++ spec.reads_code l.prog l.line (drop l.i l.targets)
