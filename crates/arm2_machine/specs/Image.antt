-- Image files. This project's own.
use Rattle.std.specs.Prelude.{◌≡◌, ◌≢◌, ℕ, ◌+◌, ◌*◌, ◌<◌, ◌≤◌, min, List, [], ◌∷◌, ◌++◌, length, take, flat_map, slice_get}
use Rattle.arm2_machine.specs.declared.image.ImageError.{ImageError}
use Rattle.arm2_machine.specs.declared.image.ImageError.TheVariants as errors
use Rattle.bv_base.specs.Limits.{image_words}
use Rattle.bv_base.specs.Words.{word_bytes, word_at, AreWords}

-- the first bytes of an image file: BVA2
abbrev pub magic : List ℕ
magic = 66 ∷ 86 ∷ 65 ∷ 50 ∷ []

-- Those bytes, the number of words, and the words, each with its lowest byte first.
pub record ImageOf (bytes words : List ℕ) : Type 0 where
  pub spelled : bytes ≡ magic ++ (word_bytes (length words) ++ flat_map word_bytes words)
  pub short : length words ≤ image_words

-- the number of words that a file says it has
abbrev pub word_count : List ℕ → ℕ
word_count bytes = word_at bytes 4

-- The bytes begin as an image file does, up to this place, which is 4 or the first that differs.
pub record MagicEnds (bytes : List ℕ) (at : ℕ) : Type 0 where
  pub within : at ≤ 4
  pub same : take at bytes ≡ take at magic
  pub differs : at < 4 → slice_get bytes at ≢ slice_get magic at

-- Why bytes are no image, at a place: one of the first four is wrong or missing there; or the number of words is cut
-- off, at the bytes' end; or they end before or after the words that they should have, at the smaller of the two ends.
pub data NotImage (bytes : List ℕ) (at : ℕ) : Type 0 where
  Unlike : MagicEnds bytes at → at < 4 → NotImage bytes at
  CutOff : MagicEnds bytes 4 → length bytes < 8 → at ≡ length bytes → NotImage bytes at
  OtherEnd : MagicEnds bytes 4 → 8 ≤ length bytes → word_count bytes ≤ image_words → length bytes ≢ 8 + 4 * word_count bytes → at ≡ min (length bytes) (8 + 4 * word_count bytes) → NotImage bytes at

-- the bytes begin an image of too many words
pub record IsTooLong (bytes : List ℕ) : Type 0 where
  pub magic : MagicEnds bytes 4
  pub whole : 8 ≤ length bytes
  pub long : image_words < word_count bytes

-- the bytes have the magic, a number of words, and as many bytes after it as the words have
pub record IsWhole (bytes : List ℕ) (count : ℕ) : Type 0 where
  pub magic : MagicEnds bytes 4
  pub is_count : count ≡ word_count bytes
  pub fits : count ≤ image_words
  pub ends : length bytes ≡ 8 + 4 * count

-- when each error comes: running out of memory is free
abbrev pub ExplainsImage : List ℕ → ImageError → Type 0
ExplainsImage bytes (errors.NotImage at) = NotImage bytes at
ExplainsImage bytes errors.TooLong = IsTooLong bytes
ExplainsImage bytes errors.NoMemory = Unit {0}

-- the bytes are an image of these words and of no others, and are not refused
pub record HasOneImage (bytes words : List ℕ) : Type 0 where
  pub only : (other : List ℕ) → AreWords other → ImageOf bytes other → other ≡ words
  pub is_image : (at : ℕ) → NotImage bytes at → ⊥
  pub fits : IsTooLong bytes → ⊥
