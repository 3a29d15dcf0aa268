use Rattle.std.proofs.Common.{◌≡◌, ◌++◌, Some, drop}
use Rattle.bas_ir.specs.Heights.{empty_height}
use Rattle.ir_build.specs.Code as spec
use Rattle.ir_build.proofs.heights.push_heights.Given as goal

abbrev pub invariant-loop-op : goal.invariant-loop-op
invariant-loop-op l = l.initial.heights ++ spec.heights_of (Some empty_height) l.code ≡ l.heights ++ spec.heights_of l.height (drop l.op-index l.code)
