-- A memory: one list of bytes for both modes, and which addresses each mode may use.
use Rattle.std.specs.Prelude.{◌≡◌, ℕ, ◌+◌, ◌-◌, ◌*◌, ◌/◌, ◌<◌, ◌≤◌, Bool, true, if◌then◌else◌, List, [], ◌∷◌, slice_index, Option, Some, None}
use Rattle.bv_base.specs.Words.{word_bytes, word_at, put_at}

-- the address of the first byte, the number of bytes, and the addresses that user mode (true) and supervisor mode may use
pub record Space : Type 0 where
  pub base : ℕ
  pub size : ℕ
  pub allows : Bool → ℕ → Bool

-- the address of the word in which an address lies
abbrev pub word_address : ℕ → ℕ
word_address at = at / 4 * 4

-- What a mode may use lies in the memory, and a word may be used whole or not at all.
pub record IsLawful (s : Space) : Type 0 where
  pub within : (user : Bool) (at : ℕ) → s.allows user at ≡ true → (s.base ≤ at) × (at < s.base + s.size)
  pub whole_words : (user : Bool) (at : ℕ) → s.allows user at ≡ s.allows user (word_address at)

-- the byte at an address
unfoldable pub byte_at : Space → List ℕ → ℕ → ℕ
byte_at s bytes at = slice_index bytes (at - s.base)

-- the word at an address
abbrev pub word_in : Space → List ℕ → ℕ → ℕ
word_in s bytes at = word_at bytes (at - s.base)

-- the memory with other bytes from an address on
abbrev pub with_bytes : Space → List ℕ → ℕ → List ℕ → List ℕ
with_bytes s bytes at new = put_at bytes (at - s.base) new

-- the memory with another byte, or another word, at an address
abbrev pub with_byte : Space → List ℕ → ℕ → ℕ → List ℕ
with_byte s bytes at value = with_bytes s bytes at (value ∷ [])

abbrev pub with_word : Space → List ℕ → ℕ → ℕ → List ℕ
with_word s bytes at value = with_bytes s bytes at (word_bytes value)

-- what a read gives: nothing where the mode may not use the address
unfoldable pub read_byte : Space → List ℕ → Bool → ℕ → Option ℕ
read_byte s bytes user at = if s.allows user at then Some (byte_at s bytes at) else None

unfoldable pub read_word : Space → List ℕ → Bool → ℕ → Option ℕ
read_word s bytes user at = if s.allows user at then Some (word_in s bytes at) else None

-- what a write leaves: a refused one changes nothing
unfoldable pub wrote_byte : Space → List ℕ → Bool → ℕ → ℕ → List ℕ
wrote_byte s bytes user at value = if s.allows user at then with_byte s bytes at value else bytes

unfoldable pub wrote_word : Space → List ℕ → Bool → ℕ → ℕ → List ℕ
wrote_word s bytes user at value = if s.allows user at then with_word s bytes at value else bytes
