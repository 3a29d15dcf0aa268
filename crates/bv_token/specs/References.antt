-- References to lines, as Acorn's BASIC V writes a line number after GOTO and its like: the byte 0x8d and three bytes,
-- all of them from 0x40 to 0x7f, so that a reference holds no byte that could be taken for a line's end.
use Rattle.std.specs.Prelude.{ℕ, ◌+◌, ◌*◌, ◌/◌, ◌%◌, List, [], ◌∷◌, bit_and, bit_or, bit_xor}

-- the byte that begins a reference
abbrev pub line_reference : ℕ
line_reference = 0x8d

-- the three bytes of a line number: first the top two bits of its low and of its high byte, with some bits turned, then
-- the six other bits of each
abbrev pub reference_of_bytes : ℕ → ℕ → List ℕ
reference_of_bytes low high =
    bit_xor (bit_or (bit_and low 0xc0 / 4) (bit_and high 0xc0 / 16)) 0x54 ∷ bit_or (bit_and low 0x3f) 0x40 ∷ bit_or (bit_and high 0x3f) 0x40 ∷ []

abbrev pub reference_of : ℕ → List ℕ
reference_of number = reference_of_bytes (number % 256) (number / 256)

-- the low and the high byte of the line number of three bytes
abbrev pub low_byte : ℕ → ℕ → ℕ
low_byte first second = bit_xor second (bit_and (first * 4) 0xc0)

abbrev pub high_byte : ℕ → ℕ → ℕ
high_byte first third = bit_xor third (bit_and (first * 16) 0xc0)

-- the line number of three bytes
abbrev pub referred : ℕ → ℕ → ℕ → ℕ
referred first second third = high_byte first third * 256 + low_byte first second
