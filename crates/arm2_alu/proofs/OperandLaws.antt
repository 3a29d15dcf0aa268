-- The immediate operand that the code makes.
use Rattle.std.proofs.Common.{◌≡◌, ℕ, ◌*◌, ◌/◌, ◌%◌, ◌<◌, ◌∙◌, arith}
use Rattle.std.specs.Int.{w32, rotate_right}
use Rattle.arm_isa.specs.Fields.{bits}
use Rattle.arm_isa.specs.Immediates.{rotated, immediate_value, turns_of}
use Rattle.arm_isa.proofs.Rotations.{rotate_right-rotated}

pub immediate_turned : (op2 : ℕ) → op2 < 4096 → rotate_right w32 (op2 % 256) (2 * (op2 / 256)) ≡ immediate_value op2
immediate_turned op2 small =
    let turns : op2 / 256 ≡ turns_of op2 = omega (arith, small) in
    let byte : op2 % 256 ≡ bits op2 7 0 = omega arith in
    rotate_right-rotated (op2 % 256) (2 * (op2 / 256)) (omega arith) (omega (arith, small)) ∙ (λ i. rotated (byte i) (2 * turns i))

pub ruleset immediate_laws = (immediate_turned)
