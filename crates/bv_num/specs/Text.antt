-- How a number's text is kept.
use Rattle.std.specs.Prelude.{◌≡◌, ℕ, ◌-◌, List, ◌++◌, length, take, drop, replicate}
use Rattle.bv_num.specs.declared.digits.Digits.TheInside.{Inside}

-- the greatest number of bytes in a number's text: a minus sign and ten digits
abbrev pub longest_number : ℕ
longest_number = 11

-- the bytes at the front
abbrev pub text_of : Inside → List ℕ
text_of inside = take inside.len inside.bytes

-- a text at the front, with zeros up to the end
abbrev pub placed : List ℕ → Inside
placed text = record { bytes = text ++ replicate (longest_number - length text) 0; len = length text }

-- zeros fill the rest from the text on, and its length is kept
abbrev pub IsPlaced : Inside → Type 0
IsPlaced inside = ((placed (text_of inside)).bytes ≡ inside.bytes) × ((placed (text_of inside)).len ≡ inside.len)

-- so the text gives back how it is kept
pub placed-text_of : (inside : Inside) → IsPlaced inside → placed (text_of inside) ≡ inside
placed-text_of inside is = λ i. record { bytes = is.0 i; len = is.1 i }

-- the bytes at the end of an array
abbrev pub text_at_end : List ℕ → ℕ → List ℕ
text_at_end bytes len = drop (longest_number - len) bytes
