-- The digits of numbers: which bytes they are, and those that PRINT and the listing write. A digit's value is std's
-- `digit_value`: 0 to 9 for `0` to `9`, and from 10 on for letters of either case.
use Rattle.std.specs.Prelude.{ℕ, suc, ◌+◌, ◌/◌, ◌%◌, Bool, List, [], ◌∷◌, ◌++◌, map, nat_lt, ℤ, pos, negsuc, if◌then◌else◌}
use Rattle.std.specs.Char.{digit_value}
use Rattle.std.specs.Int.Digits.{digits_of}

-- whether a byte is a digit of a base of at most 36
abbrev pub is_digit : ℕ → ℕ → Bool
is_digit base byte = nat_lt (digit_value byte) base

-- the byte of a digit below 16: 0 to 9, then A to F
abbrev pub digit_byte : ℕ → ℕ
digit_byte d = if nat_lt d 10 then 48 + d else 55 + d

-- The digits of a number in a base, highest first: those of its quotient by the base, of which `digits_of` of std gives
-- none where that is 0, and then its remainder. So no zero leads, and 0 has one digit.
unfoldable pub digits : ℕ → ℕ → List ℕ
digits base n = map digit_byte (digits_of base (n / base) ++ n % base ∷ [])

-- in decimal
abbrev pub decimal_digits : ℕ → List ℕ
decimal_digits n = digits 10 n

-- in hexadecimal, in upper case
abbrev pub hex_digits : ℕ → List ℕ
hex_digits n = digits 16 n

-- a signed number in decimal: a minus sign before the digits of a negative one
abbrev pub decimal_text : ℤ → List ℕ
decimal_text (pos n) = decimal_digits n
decimal_text (negsuc n) = 45 ∷ decimal_digits (suc n)
