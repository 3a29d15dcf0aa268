-- The rotation of a word that is read.
use Rattle.std.proofs.Common.{◌≡◌, ℕ, ◌*◌, ◌%◌, ◌^◌, ◌<◌, arith}
use Rattle.std.specs.Int.{w32, rotate_right}
use Rattle.arm_isa.specs.Immediates.{rotated}
use Rattle.arm_isa.proofs.Rotations.{rotate_right-rotated}

pub turned_to : (n at : ℕ) → n < 2 ^ 32 → rotate_right w32 n (8 * (at % 4)) ≡ rotated n (8 * (at % 4))
turned_to n at small = rotate_right-rotated n (8 * (at % 4)) (omega (arith, small)) (omega arith)

pub ruleset rotation_laws = (turned_to)
