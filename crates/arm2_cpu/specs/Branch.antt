-- B and BL (VL86C010 (ARM2) data manual, branch and branch with link).
use Rattle.std.specs.Prelude.{ℕ, ◌+◌, ◌*◌, ◌%◌, ◌^◌, ℤ, Bool, if◌then◌else◌}
use Rattle.arm_isa.specs.Fields.{offset_field}
use Rattle.arm_isa.specs.Numbers.{R14}
use Rattle.arm2_alu.specs.declared.regs.Regs.{Regs}
use Rattle.arm2_cpu.specs.Outcomes.{Done, ran}
use Rattle.arm2_alu.specs.Registers.{with_register, r15}

-- where a branch leads: the distance in words from the address plus 8, modulo 2^26
abbrev pub branch_target : Regs → ℤ → ℕ
branch_target r words = (r.pc + 8 + 4 * offset_field words) % 2 ^ 26

-- BL puts the address plus 4 into R14, with the flags and the mode
abbrev pub linked : Bool → Regs → Regs
linked link r = if link then with_register r R14 (r15 r 4) else r

unfoldable pub branch_step : Regs → Bool → ℤ → Done
branch_step r link words = ran (record (linked link r) { pc = branch_target r words })
