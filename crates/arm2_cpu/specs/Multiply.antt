-- MUL and MLA (VL86C010 (ARM2) data manual, multiply and multiply-accumulate).
use Rattle.std.specs.Prelude.{ℕ, ◌+◌, ◌*◌, ◌%◌, ◌^◌, Bool, if◌then◌else◌}
use Rattle.arm2_alu.specs.declared.regs.Regs.{Regs}
use Rattle.arm2_alu.specs.Conditions.{carry, overflow}
use Rattle.arm2_alu.specs.Results.{flagged}
use Rattle.arm2_cpu.specs.Outcomes.{Done, ran}
use Rattle.arm2_alu.specs.Registers.{register, with_register, at_next}

-- the low 32 bits of Rm times Rs, and of Rn more for MLA
unfoldable pub product : Regs → Bool → ℕ → ℕ → ℕ → ℕ
product r acc rn rs rm = (register r rm * register r rs + (if acc then register r rn else 0)) % 2 ^ 32

-- S sets N and Z; that C and V stay is this project's own
unfoldable pub multiplied : Regs → Bool → ℕ → ℕ → Regs
multiplied r s rd value =
    at_next (with_register (if s then flagged (record { value = value; carry = carry r; overflow = overflow r }) r else r) rd value)

unfoldable pub multiply_step : Regs → Bool → Bool → ℕ → ℕ → ℕ → ℕ → Done
multiply_step r acc s rd rn rs rm = ran (multiplied r s rd (product r acc rn rs rm))
