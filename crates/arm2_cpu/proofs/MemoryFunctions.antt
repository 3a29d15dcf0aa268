-- A memory as a function from addresses to bytes.
use Rattle.std.proofs.Common.{◌≡◌, ◌≢◌, ℕ, ◌+◌, ◌*◌, ◌/◌, ◌%◌, ◌^◌, ◌<◌, ◌≤◌, ◌⊎◌, ◌==◌, nat_le, Bool, true, false, if◌then◌else◌, List, [], ◌∷◌, length, slice_index, inl, inr, refl, sym, ◌∙◌, arith, eqb-true, leb-true, leb-false, le-leb}
use Rattle.std.proofs.lemmas.Bool.{eqb-false}
use Rattle.bv_base.specs.Words.{word_bytes}
use Rattle.arm2_cpu.specs.Memory.{Space, byte_at, word_in, with_bytes, with_byte, with_word}
use Rattle.arm2_cpu.proofs.MemoryLaws.{byte_kept, byte_written, word-by_bytes}
use Rattle.arm2_alu.proofs.RegisterLaws.{updated}

-- the byte at each address, and 0 below the memory
abbrev pub bytes_of : Space → List ℕ → ℕ → ℕ
bytes_of s bytes a = if nat_le s.base a then byte_at s bytes a else 0

-- the word at an address by the function
pub word-by_bytes_of : (s : Space) (bytes : List ℕ) (at : ℕ) → s.base ≤ at
    → word_in s bytes at ≡ bytes_of s bytes at + bytes_of s bytes (at + 1) * 2 ^ 8 + bytes_of s bytes (at + 2) * 2 ^ 16 + bytes_of s bytes (at + 3) * 2 ^ 24
word-by_bytes_of s bytes at low =
    rw (le-leb s.base at low, le-leb s.base (at + 1) (omega (arith, low)), le-leb s.base (at + 2) (omega (arith, low)), le-leb s.base (at + 3) (omega (arith, low)))
    (word-by_bytes s bytes at low)

below_memory : (s : Space) (bytes : List ℕ) (a : ℕ) → nat_le s.base a ≡ false → bytes_of s bytes a ≡ 0
below_memory s bytes a e = rw e refl

in_memory : (s : Space) (bytes : List ℕ) (a : ℕ) → nat_le s.base a ≡ true → bytes_of s bytes a ≡ byte_at s bytes a
in_memory s bytes a e = rw e refl

apart_sides : (a b : ℕ) → a ≢ b → (a < b) ⊎ (b + 1 ≤ a)
apart_sides a b apart = cases (nat_le b a) refl
  where
    cases : (t : Bool) → nat_le b a ≡ t → (a < b) ⊎ (b + 1 ≤ a)
    cases true e = let h = leb-true b a e in inr (omega (arith, h, apart))
    cases false e = let h = leb-false b a e in inl (omega (arith, h))

far : (a b : ℕ) → a ≢ b + 3 → a ≢ b + 2 → a ≢ b + 1 → a ≢ b → (a < b) ⊎ (b + 4 ≤ a)
far a b n3 n2 n1 n0 = cases (nat_le b a) refl
  where
    cases : (t : Bool) → nat_le b a ≡ t → (a < b) ⊎ (b + 4 ≤ a)
    cases true e = let h = leb-true b a e in inr (omega (arith, h, n3, n2, n1, n0))
    cases false e = let h = leb-false b a e in inl (omega (arith, h))

-- a byte of what was written, and any other byte
pub bytes-inside : (s : Space) (bytes : List ℕ) (at : ℕ) (new : List ℕ) (a k : ℕ) → s.base ≤ at → at + length new ≤ s.base + length bytes → k < length new → a ≡ at + k → bytes_of s (with_bytes s bytes at new) a ≡ slice_index new k
bytes-inside s bytes at new a k low fits within is =
    in_memory s (with_bytes s bytes at new) a (le-leb s.base a (omega (arith, low, is)))
    ∙ byte_written s bytes at new a k (omega (arith, low, fits)) within (omega (arith, low, is))

pub bytes-outside : (s : Space) (bytes : List ℕ) (at : ℕ) (new : List ℕ) (a : ℕ) → s.base ≤ at → at + length new ≤ s.base + length bytes → (a < at) ⊎ (at + length new ≤ a) → bytes_of s (with_bytes s bytes at new) a ≡ bytes_of s bytes a
bytes-outside s bytes at new a low fits apart = cases (nat_le s.base a) refl apart
  where
    cases : (b : Bool) → nat_le s.base a ≡ b → (a < at) ⊎ (at + length new ≤ a) → bytes_of s (with_bytes s bytes at new) a ≡ bytes_of s bytes a
    cases false e side = below_memory s (with_bytes s bytes at new) a e ∙ sym (below_memory s bytes a e)
    cases true e (inl before) =
        let from = leb-true s.base a e in
        in_memory s (with_bytes s bytes at new) a e
        ∙ byte_kept s bytes at new a (omega (arith, low, fits)) (inl (omega (arith, before, from, low)))
        ∙ sym (in_memory s bytes a e)
    cases true e (inr after) =
        let from = leb-true s.base a e in
        in_memory s (with_bytes s bytes at new) a e
        ∙ byte_kept s bytes at new a (omega (arith, low, fits)) (inr (omega (arith, after, from, low)))
        ∙ sym (in_memory s bytes a e)

-- a write changes the function at its addresses
pub bytes-with_byte : (s : Space) (bytes : List ℕ) (at value : ℕ) → s.base ≤ at → at < s.base + length bytes
    → bytes_of s (with_byte s bytes at value) ≡ updated (bytes_of s bytes) at value
bytes-with_byte s bytes at value low fits = λ i a. each a (a == at) refl i
  where
    each : (a : ℕ) (b : Bool) → (a == at) ≡ b → bytes_of s (with_byte s bytes at value) a ≡ updated (bytes_of s bytes) at value a
    each a true e =
        let is = eqb-true a at e in
        bytes-inside s bytes at (value ∷ []) a 0 low (omega (arith, fits)) (omega arith) (omega (arith, is)) ∙ rw e refl
    each a false e =
        let apart = eqb-false a at e in
        bytes-outside s bytes at (value ∷ []) a low (omega (arith, fits)) (apart_sides a at apart) ∙ rw e refl

pub bytes-with_word : (s : Space) (bytes : List ℕ) (at value : ℕ) → s.base ≤ at → at + 4 ≤ s.base + length bytes
    → bytes_of s (with_word s bytes at value)
    ≡ updated (updated (updated (updated (bytes_of s bytes) at (value % 2 ^ 8)) (at + 1) (value / 2 ^ 8 % 2 ^ 8)) (at + 2) (value / 2 ^ 16 % 2 ^ 8)) (at + 3) (value / 2 ^ 24 % 2 ^ 8)
bytes-with_word s bytes at value low fits = λ i a. each a (a == at + 3) refl (a == at + 2) refl (a == at + 1) refl (a == at) refl i
  where
    each : (a : ℕ) (b3 : Bool) → (a == at + 3) ≡ b3 → (b2 : Bool) → (a == at + 2) ≡ b2 → (b1 : Bool) → (a == at + 1) ≡ b1 → (b0 : Bool) → (a == at) ≡ b0
        → bytes_of s (with_word s bytes at value) a
        ≡ updated (updated (updated (updated (bytes_of s bytes) at (value % 2 ^ 8)) (at + 1) (value / 2 ^ 8 % 2 ^ 8)) (at + 2) (value / 2 ^ 16 % 2 ^ 8)) (at + 3) (value / 2 ^ 24 % 2 ^ 8) a
    each a true e3 b2 e2 b1 e1 b0 e0 = bytes-inside s bytes at (word_bytes value) a 3 low fits (omega arith) (eqb-true a (at + 3) e3) ∙ rw e3 refl
    each a false e3 true e2 b1 e1 b0 e0 = bytes-inside s bytes at (word_bytes value) a 2 low fits (omega arith) (eqb-true a (at + 2) e2) ∙ rw (e3, e2) refl
    each a false e3 false e2 true e1 b0 e0 = bytes-inside s bytes at (word_bytes value) a 1 low fits (omega arith) (eqb-true a (at + 1) e1) ∙ rw (e3, e2, e1) refl
    each a false e3 false e2 false e1 true e0 = bytes-inside s bytes at (word_bytes value) a 0 low fits (omega arith) (eqb-true a at e0 ∙ omega arith) ∙ rw (e3, e2, e1, e0) refl
    each a false e3 false e2 false e1 false e0 =
        bytes-outside s bytes at (word_bytes value) a low fits (far a at (eqb-false a (at + 3) e3) (eqb-false a (at + 2) e2) (eqb-false a (at + 1) e1) (eqb-false a at e0)) ∙ rw (e3, e2, e1, e0) refl
