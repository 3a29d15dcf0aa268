-- What registers and flags take of a result.
use Rattle.std.specs.Prelude.{ℕ, ◌==◌, if◌then◌else◌}
use Rattle.arm_isa.specs.Fields.{bit}
use Rattle.arm_isa.specs.Numbers.{R15}
use Rattle.arm2_alu.specs.declared.operations.Computed.{Computed}
use Rattle.arm2_alu.specs.declared.regs.Regs.{Regs}
use Rattle.arm2_alu.specs.Conditions.{with_flags}
use Rattle.arm2_alu.specs.Registers.{with_register, at_next, jumped}

-- N and Z by a result, C and V as it says
abbrev pub flagged : Computed → Regs → Regs
flagged x r = with_flags (bit x.value 31) (x.value == 0) x.carry x.overflow r

-- a register takes a value: R15 is a jump
unfoldable pub loaded : Regs → ℕ → ℕ → Regs
loaded r rd value = if rd == R15 then jumped r value else at_next (with_register r rd value)
