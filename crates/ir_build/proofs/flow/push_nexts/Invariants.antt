use Rattle.std.proofs.Common.{◌≡◌, ◌++◌, drop}
use Rattle.ir_build.specs.Code as spec
use Rattle.ir_build.proofs.flow.push_nexts.Given as goal

abbrev pub invariant-loop-name : goal.invariant-loop-name
invariant-loop-name l = l.initial.ops ++ spec.nexts_code l.prog l.line l.names ≡ l.ops ++ spec.nexts_code l.prog l.line (drop l.name-index l.names)
