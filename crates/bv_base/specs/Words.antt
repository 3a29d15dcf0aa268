-- Words of 32 bits in lists of bytes, the lowest byte first, as the ARM2 has them (VL86C010 (ARM2) data manual).
use Rattle.std.specs.Prelude.{ℕ, ◌+◌, ◌*◌, ◌/◌, ◌%◌, ◌^◌, ◌<◌, List, [], ◌∷◌, ◌++◌, take, drop, length, slice_index}

-- the four bytes of a word, the lowest first
abbrev pub word_bytes : ℕ → List ℕ
word_bytes w = (w % 2 ^ 8) ∷ (w / 2 ^ 8 % 2 ^ 8) ∷ (w / 2 ^ 16 % 2 ^ 8) ∷ (w / 2 ^ 24 % 2 ^ 8) ∷ []

-- the word of the four bytes from an index of a list on
unfoldable pub word_at : List ℕ → ℕ → ℕ
word_at bytes i =
    slice_index bytes i + slice_index bytes (i + 1) * 2 ^ 8 + slice_index bytes (i + 2) * 2 ^ 16 + slice_index bytes (i + 3) * 2 ^ 24

-- the list with other bytes in place of its own from an index on
unfoldable pub put_at : List ℕ → ℕ → List ℕ → List ℕ
put_at bytes i new = take i bytes ++ new ++ drop (i + length new) bytes

-- words, each below 2^32
abbrev pub AreWords : List ℕ → Type 0
AreWords [] = Unit {0}
AreWords (w ∷ ws) = (w < 2 ^ 32) × AreWords ws
