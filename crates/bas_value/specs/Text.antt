-- How a string is kept.
use Rattle.std.specs.Prelude.{◌≡◌, ℕ, ◌-◌, List, ◌++◌, length, take, replicate}
use Rattle.bas_value.specs.declared.string.Str.TheInside.{Inside}

-- the greatest number of bytes in a string (BBC BASIC Reference Manual, strings)
abbrev pub longest_string : ℕ
longest_string = 255

-- the bytes at the front
abbrev pub text_of : Inside → List ℕ
text_of inside = take inside.len inside.bytes

-- a text at the front, with zeros up to the end
abbrev pub placed : List ℕ → Inside
placed text = record { bytes = text ++ replicate (longest_string - length text) 0; len = length text }

-- zeros stand from the text on, and its length is kept
abbrev pub IsPlaced : Inside → Type 0
IsPlaced inside = ((placed (text_of inside)).bytes ≡ inside.bytes) × ((placed (text_of inside)).len ≡ inside.len)

-- so the text gives back how it is kept
pub placed-text_of : (inside : Inside) → IsPlaced inside → placed (text_of inside) ≡ inside
placed-text_of inside is = λ i. record { bytes = is.0 i; len = is.1 i }
