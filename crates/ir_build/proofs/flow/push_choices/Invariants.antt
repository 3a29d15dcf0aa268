use Rattle.std.proofs.Common.{◌≡◌, ◌++◌, drop}
use Rattle.ir_build.specs.Code as spec
use Rattle.ir_build.proofs.flow.push_choices.Given as goal

abbrev pub invariant-loop-number : goal.invariant-loop-number
invariant-loop-number l =
    l.initial.ops ++ spec.choices_code l.prog l.line l.jump l.numbers ≡ l.ops ++ spec.choices_code l.prog l.line l.jump (drop l.number-index l.numbers)
