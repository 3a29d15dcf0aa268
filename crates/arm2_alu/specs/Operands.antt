-- The operands of data processing (VL86C010 (ARM2) data manual, data processing; R15 as an operand).
use Rattle.std.specs.Prelude.{ℕ, ◌%◌, ◌^◌, ◌==◌, ◌&&◌, not, Bool, if◌then◌else◌}
use Rattle.arm_isa.specs.Fields.{bits, bit}
use Rattle.arm_isa.specs.Immediates.{turns_of, immediate_value}
use Rattle.arm2_alu.specs.declared.regs.Regs.{Regs}
use Rattle.arm_isa.specs.Numbers.{R15}
use Rattle.arm2_alu.specs.declared.shifts.Shifted.{Shifted}
use Rattle.arm2_alu.specs.Conditions.{carry}
use Rattle.arm2_alu.specs.Registers.{register, pc_ahead, r15}
use Rattle.arm2_alu.specs.Shifts.{shifted, shifted_by_field}

-- a register operand with its amount in a register
abbrev pub by_register : Bool → ℕ → Bool
by_register imm op2 = not imm && bit op2 4

-- how many bytes ahead of the instruction R15 reads
abbrev pub ahead_of : Bool → ℕ → ℕ
ahead_of imm op2 = if by_register imm op2 then 12 else 8

-- the value of a register as Rn: of R15 the address alone
unfoldable pub first_operand : Regs → ℕ → ℕ → ℕ
first_operand r ahead n = if n == R15 then pc_ahead r ahead else register r n

-- the value of a register as Rm, or as one that is stored: of R15 the flags and the mode too
unfoldable pub whole_operand : Regs → ℕ → ℕ → ℕ
whole_operand r ahead n = if n == R15 then r15 r ahead else register r n

-- an immediate: C is bit 31 of the value, unless the rotation is 0
unfoldable pub immediate_operand : ℕ → Bool → Shifted
immediate_operand op2 c = record { value = immediate_value op2; carry = if turns_of op2 == 0 then c else bit (immediate_value op2) 31 }

-- a register, shifted by an amount of five bits
unfoldable pub amount_operand : Regs → ℕ → Shifted
amount_operand r op2 = shifted_by_field (bits op2 6 5) (whole_operand r 8 (bits op2 3 0)) (bits op2 11 7) (carry r)

-- a register, shifted by the low byte of another
unfoldable pub register_operand : Regs → ℕ → Shifted
register_operand r op2 = shifted (bits op2 6 5) (whole_operand r 12 (bits op2 3 0)) (register r (bits op2 11 8) % 2 ^ 8) (carry r)

-- the second operand
unfoldable pub second_operand : Regs → Bool → ℕ → Shifted
second_operand r imm op2 =
    if imm then immediate_operand op2 (carry r)
    else if bit op2 4 then register_operand r op2
    else amount_operand r op2
