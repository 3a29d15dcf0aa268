-- The target of a branch: computed with words that wrap, and by the distance ahead or back.
use Rattle.std.proofs.Common.{◌≡◌, ℕ, ◌+◌, ◌-◌, ◌*◌, ◌%◌, ◌^◌, ◌<◌, ◌≤◌, ℤ, pos, negsuc, arith}
use Rattle.std.specs.Int.{w32, cast_unsigned}
use Rattle.arm_isa.specs.Fields.{offset_field}
use Rattle.arm_isa.specs.Words.{FitsOffset}
use Rattle.arm2_alu.specs.declared.regs.Regs.{Regs}
use Rattle.arm2_cpu.specs.Branch.{branch_target}

pub target_is : (pc : ℕ) (words : ℤ) → FitsOffset words → (pc + (cast_unsigned w32 words * 4 % 2 ^ 32 + 8) % 2 ^ 32) % 2 ^ 26 ≡ (pc + 8 + 4 * offset_field words) % 2 ^ 26
target_is pc (pos n) fits = omega (arith, fits)
target_is pc (negsuc n) fits = omega (arith, fits)

pub ruleset target_laws = (target_is)

pub target-ahead : (r : Regs) (words : ℕ) → r.pc + 8 + 4 * words < 2 ^ 26 → branch_target r (pos words) ≡ r.pc + 8 + 4 * words
target-ahead r words low = omega (arith, low)

-- n + 1 words back, of which one leads to the next instruction
pub target-back : (r : Regs) (words : ℕ) → 4 * (words + 1) ≤ r.pc + 8 → words < 2 ^ 23 → r.pc + 4 < 2 ^ 26 → branch_target r (negsuc words) ≡ r.pc + 8 - 4 * (words + 1)
target-back r words enough fits low = omega (arith, enough, fits, low)
