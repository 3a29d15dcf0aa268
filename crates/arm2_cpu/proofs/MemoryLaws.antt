-- Reads and writes of a memory.
use Rattle.std.proofs.Common.{◌≡◌, ℕ, ◌+◌, ◌-◌, ◌*◌, ◌^◌, ◌<◌, ◌≤◌, ◌⊎◌, Bool, true, Some, refl, List, length, slice_index, inl, inr, sym, ap, ◌∙◌, arith}
use Rattle.bv_base.specs.Words.{word_at}
use Rattle.bv_base.proofs.Words.{length-put_at, put_at_inside, put_at_below, put_at_above, word_at-put_at}
use Rattle.arm2_cpu.specs.Memory.{Space, byte_at, word_in, with_bytes, with_word, read_byte, read_word}

-- a memory keeps its size
pub length-with_bytes : (s : Space) (bytes : List ℕ) (at : ℕ) (new : List ℕ) → at - s.base + length new ≤ length bytes → length (with_bytes s bytes at new) ≡ length bytes
length-with_bytes s bytes at new fits = length-put_at bytes new (at - s.base) fits

-- a word or a byte that a mode may read, and the four bytes of a word
pub read-word : (s : Space) (bytes : List ℕ) (user : Bool) (at : ℕ) → s.allows user at ≡ true → read_word s bytes user at ≡ Some (word_in s bytes at)
unfolding read_word
read-word s bytes user at allowed = rw allowed refl

pub read-byte : (s : Space) (bytes : List ℕ) (user : Bool) (at : ℕ) → s.allows user at ≡ true → read_byte s bytes user at ≡ Some (byte_at s bytes at)
unfolding read_byte
read-byte s bytes user at allowed = rw allowed refl

pub word-by_bytes : (s : Space) (bytes : List ℕ) (at : ℕ) → s.base ≤ at
    → word_in s bytes at ≡ byte_at s bytes at + byte_at s bytes (at + 1) * 2 ^ 8 + byte_at s bytes (at + 2) * 2 ^ 16 + byte_at s bytes (at + 3) * 2 ^ 24
unfolding word_at byte_at
word-by_bytes s bytes at low =
    let first : at - s.base + 1 ≡ at + 1 - s.base = omega (arith, low) in
    let second : at - s.base + 2 ≡ at + 2 - s.base = omega (arith, low) in
    let third : at - s.base + 3 ≡ at + 3 - s.base = omega (arith, low) in
    (λ i. slice_index bytes (at - s.base) + slice_index bytes (first i) * 2 ^ 8 + slice_index bytes (second i) * 2 ^ 16 + slice_index bytes (third i) * 2 ^ 24)

-- bytes elsewhere stay
pub byte_kept : (s : Space) (bytes : List ℕ) (at : ℕ) (new : List ℕ) (a : ℕ) → at - s.base + length new ≤ length bytes → (a - s.base < at - s.base) ⊎ (at - s.base + length new ≤ a - s.base) → byte_at s (with_bytes s bytes at new) a ≡ byte_at s bytes a
unfolding byte_at
byte_kept s bytes at new a fits (inl before) = put_at_below bytes new (at - s.base) (a - s.base) before (omega (arith, fits))
byte_kept s bytes at new a fits (inr after) = put_at_above bytes new (at - s.base) (a - s.base) after fits

-- what is read is what was written
pub byte_written : (s : Space) (bytes : List ℕ) (at : ℕ) (new : List ℕ) (a k : ℕ) → at - s.base + length new ≤ length bytes → k < length new → a - s.base ≡ at - s.base + k → byte_at s (with_bytes s bytes at new) a ≡ slice_index new k
unfolding byte_at
byte_written s bytes at new a k fits within is =
    ap (slice_index (with_bytes s bytes at new)) is ∙ put_at_inside bytes new (at - s.base) k (omega (arith, fits)) within

-- a word that was written is read as it was
pub word_written : (s : Space) (bytes : List ℕ) (at value : ℕ) → s.base ≤ at → at + 4 ≤ s.base + length bytes → value < 2 ^ 32 → word_in s (with_word s bytes at value) at ≡ value
word_written s bytes at value from to small = word_at-put_at bytes (at - s.base) value (omega (arith, from, to)) small

-- a word apart from what was written stays
pub word_kept : (s : Space) (bytes : List ℕ) (at : ℕ) (new : List ℕ) (a : ℕ) → s.base ≤ a → s.base ≤ at → at + length new ≤ s.base + length bytes → (a + 4 ≤ at) ⊎ (at + length new ≤ a) → word_in s (with_bytes s bytes at new) a ≡ word_in s bytes a
word_kept s bytes at new a low from to apart =
    let fits : at - s.base + length new ≤ length bytes = omega (arith, from, to) in
    let b0 = byte_kept s bytes at new a fits (first apart) in
    let b1 = byte_kept s bytes at new (a + 1) fits (each 1 (omega arith) apart) in
    let b2 = byte_kept s bytes at new (a + 2) fits (each 2 (omega arith) apart) in
    let b3 = byte_kept s bytes at new (a + 3) fits (each 3 (omega arith) apart) in
    word-by_bytes s (with_bytes s bytes at new) a low ∙ (λ i. b0 i + b1 i * 2 ^ 8 + b2 i * 2 ^ 16 + b3 i * 2 ^ 24) ∙ sym (word-by_bytes s bytes a low)
  where
    first : (a + 4 ≤ at) ⊎ (at + length new ≤ a) → (a - s.base < at - s.base) ⊎ (at - s.base + length new ≤ a - s.base)
    first (inl before) = inl (omega (arith, before, low, from))
    first (inr after) = inr (omega (arith, after, low, from))

    each : (k : ℕ) → k < 4 → (a + 4 ≤ at) ⊎ (at + length new ≤ a) → (a + k - s.base < at - s.base) ⊎ (at - s.base + length new ≤ a + k - s.base)
    each k small (inl before) = inl (omega (arith, before, low, from))
    each k small (inr after) = inr (omega (arith, after, low, from))
