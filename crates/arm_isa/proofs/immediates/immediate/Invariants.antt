use Rattle.std.proofs.Common.{ℕ, ◌≤◌}
use Rattle.arm_isa.specs.Immediates.{turns_of, Gives}
use Rattle.arm_isa.proofs.immediates.immediate.Given as goal

abbrev pub invariant-rotations : goal.invariant-rotations
invariant-rotations l = (other : ℕ) → Gives other l.n → l.turns ≤ turns_of other
