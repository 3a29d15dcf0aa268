-- The bytes of names (BBC BASIC Reference Manual, variables).
use Rattle.std.specs.Prelude.{ℕ, Bool, ◌||◌, ◌==◌}
use Rattle.std.specs.Char.{is_ascii_alphabetic, is_ascii_digit}

abbrev pub underscore : ℕ
underscore = 0x5f

-- the pound sign, in Acorn's character set
abbrev pub pound_sign : ℕ
pound_sign = 0x60

-- a letter, `_` or the pound sign
abbrev pub begins_name : ℕ → Bool
begins_name c = is_ascii_alphabetic c || (c == underscore || c == pound_sign)

-- a letter, a digit, `_` or the pound sign
abbrev pub is_in_name : ℕ → Bool
is_in_name c = begins_name c || is_ascii_digit c
