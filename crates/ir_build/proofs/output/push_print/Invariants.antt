use Rattle.std.proofs.Common.{◌≡◌, ◌++◌, drop}
use Rattle.std.specs.Prelude.{true}
use Rattle.ir_build.specs.Code as spec
use Rattle.ir_build.proofs.output.push_print.Given as goal

abbrev pub invariant-loop-i : goal.invariant-loop-i
invariant-loop-i l =
    l.initial.ops ++ spec.print_code l.prog l.line true true l.parts ≡ l.ops ++ spec.print_code l.prog l.line l.spacing.padded l.spacing.new_line (drop l.i l.parts)
