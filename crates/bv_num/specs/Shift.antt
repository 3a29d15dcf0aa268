-- The shifts of BBC BASIC V (BBC BASIC Reference Manual, operators), by products and quotients of powers of two.
use Rattle.std.specs.Prelude.{ℕ, ◌*◌, ◌/◌, ◌%◌, ◌^◌, ℤ, pos, negsuc}
use Rattle.bv_num.specs.declared.shifts.ShiftKind.{ShiftKind}
use Rattle.bv_num.specs.declared.shifts.ShiftKind.TheVariants.{Left, Right, RightLogical}
use Rattle.bv_num.specs.Bits.{pattern, signed}

-- division by a positive number, rounded down
abbrev pub floor_quotient : ℤ → ℕ → ℤ
floor_quotient (pos n) d = pos (n / d)
floor_quotient (negsuc n) d = negsuc (n / d)

-- two to the power of an amount's low byte
abbrev pub factor : ℤ → ℕ
factor amount = 2 ^ (pattern amount % 256)

-- `<<` keeps the low 32 bits of the product, `>>` rounds the quotient down, `>>>` is the quotient of the 32 bits
abbrev pub shifted : ShiftKind → ℤ → ℤ → ℤ
shifted Left a amount = signed (pattern a * factor amount % 2 ^ 32)
shifted Right a amount = floor_quotient a (factor amount)
shifted RightLogical a amount = signed (pattern a / factor amount)
