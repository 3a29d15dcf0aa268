-- Shifts of the second operand (VL86C010 (ARM2) data manual, shifts): the value, and the carry out.
use Rattle.std.specs.Prelude.{ℕ, ◌+◌, ◌-◌, ◌*◌, ◌/◌, ◌%◌, ◌^◌, ◌==◌, not, Bool, if◌then◌else◌}
use Rattle.std.specs.Int.{from_bool}
use Rattle.arm_isa.specs.Immediates.{rotated}
use Rattle.arm2_alu.specs.declared.shifts.Shifted.{Shifted}
use Rattle.arm_isa.specs.Numbers.{LSL, LSR, ASR}
use Rattle.arm_isa.specs.Fields.{bit}

-- a word with each of its bits turned over
abbrev pub complement : ℕ → ℕ
complement n = 2 ^ 32 - 1 - n

-- LSL by 1 or more: the low 32 bits, and the last bit that went out above them
unfoldable pub shifted_left : ℕ → ℕ → Shifted
shifted_left n by = record { value = n * 2 ^ by % 2 ^ 32; carry = bit (n * 2 ^ by) 32 }

-- LSR by 1 or more: the quotient, and the last bit that went out below
unfoldable pub shifted_right : ℕ → ℕ → Shifted
shifted_right n by = record { value = n / 2 ^ by; carry = bit n (by - 1) }

-- the complement of a shifted word
abbrev pub complemented : Shifted → Shifted
complemented s = record { value = complement s.value; carry = not s.carry }

-- ASR by 1 or more fills with the sign: a negative word is shifted as its complement, which fills with zeros
unfoldable pub shifted_signed : ℕ → ℕ → Shifted
shifted_signed n by = if bit n 31 then complemented (shifted_right (complement n) by) else shifted_right n by

-- ROR by 1 or more, modulo 32: the last bit that went round is the highest
unfoldable pub turned_right : ℕ → ℕ → Shifted
turned_right n by = let value = rotated n (by % 32) in record { value = value; carry = bit value 31 }

-- LSL, LSR, ASR or ROR by a number of bits from 0 to 255: by 0 the value and C stay
unfoldable pub shifted : ℕ → ℕ → ℕ → Bool → Shifted
shifted kind n by c =
    if by == 0 then record { value = n; carry = c }
    else if kind == LSL then shifted_left n by
    else if kind == LSR then shifted_right n by
    else if kind == ASR then shifted_signed n by
    else turned_right n by

-- RRX: a rotation by one bit through the carry
unfoldable pub rotated_through_carry : ℕ → Bool → Shifted
rotated_through_carry n c = record { value = from_bool c * 2 ^ 31 + n / 2; carry = bit n 0 }

-- a shift by an amount of five bits in the instruction: LSR #0 and ASR #0 mean 32, ROR #0 is RRX, LSL #0 changes nothing
unfoldable pub shifted_by_field : ℕ → ℕ → ℕ → Bool → Shifted
shifted_by_field kind n by c =
    if by == 0 then (if kind == LSL then record { value = n; carry = c } else if kind == LSR then shifted LSR n 32 c else if kind == ASR then shifted ASR n 32 c else rotated_through_carry n c)
    else shifted kind n by c
