-- The fields of a word, which is a number below 2^32.
use Rattle.std.specs.Prelude.{ℕ, ◌+◌, ◌-◌, ◌/◌, ◌%◌, ◌^◌, Bool, ◌==◌, ◌&&◌, nat_lt, if◌then◌else◌, ℤ, pos, negsuc}

-- bits high to low of a word, as a number
abbrev pub bits : ℕ → ℕ → ℕ → ℕ
bits word high low = word / 2 ^ low % 2 ^ (high + 1 - low)

-- whether a bit of a word is 1
abbrev pub bit : ℕ → ℕ → Bool
bit word at = word / 2 ^ at % 2 == 1

-- bits 7 and 4 of a word are both 1, which no register operand of data processing has
abbrev pub has_bits_7_and_4 : ℕ → Bool
has_bits_7_and_4 word = bit word 7 && bit word 4

-- a field of 24 bits as a signed number: from 2^23 on it is 2^24 less
abbrev pub signed_offset : ℕ → ℤ
signed_offset n = if nat_lt n (2 ^ 23) then pos n else negsuc (2 ^ 24 - 1 - n)

-- a signed number as a field of 24 bits: below 0 it is 2^24 more
abbrev pub offset_field : ℤ → ℕ
offset_field (pos n) = n
offset_field (negsuc n) = 2 ^ 24 - 1 - n
