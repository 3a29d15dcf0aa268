-- Numbers as rows of 32 bits.
use Rattle.std.specs.Prelude.{ℕ, ℤ}
use Rattle.std.specs.Int.{w32, cast_signed, cast_unsigned}

-- the 32 bits of a signed number, as a number below 2^32: a negative one counts from 2^32 down
abbrev pub pattern : ℤ → ℕ
pattern z = cast_unsigned w32 z

-- a number below 2^32 as the signed one with the same 32 bits: from 2^31 on it counts from 2^32 down
abbrev pub signed : ℕ → ℤ
signed n = cast_signed w32 n

-- AND, OR and EOR: the number whose bits an operation on bits makes of those of two numbers
abbrev pub bitwise : (ℕ → ℕ → ℕ) → ℤ → ℤ → ℤ
bitwise on_bits a b = signed (on_bits (pattern a) (pattern b))
