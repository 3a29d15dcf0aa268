-- The immediates of data processing (VL86C010 (ARM2) data manual, immediate operand rotates).
use Rattle.std.specs.Prelude.{◌≡◌, ℕ, ◌+◌, ◌-◌, ◌*◌, ◌/◌, ◌%◌, ◌^◌, ◌<◌}
use Rattle.arm_isa.specs.Fields.{bits}

-- a word rotated right by a number of bits below 32
abbrev pub rotated : ℕ → ℕ → ℕ
rotated n by = n / 2 ^ by + n % 2 ^ by * 2 ^ (32 - by)

-- how often a field rotates its number by two bits: its top four bits
abbrev pub turns_of : ℕ → ℕ
turns_of field = bits field 11 8

-- the value of a field: its low eight bits, rotated right by twice its top four
abbrev pub immediate_value : ℕ → ℕ
immediate_value field = rotated (bits field 7 0) (2 * turns_of field)

-- a field of twelve bits that gives a number
pub record Gives (field n : ℕ) : Type 0 where
  pub range : field < 2 ^ 12
  pub value : immediate_value field ≡ n
