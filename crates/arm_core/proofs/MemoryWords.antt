-- Words and bytes in a memory that is a function: reads after writes, and the words of the board's list.
use Rattle.std.proofs.Common.{◌≡◌, ℕ, ◌+◌, ◌*◌, ◌/◌, ◌%◌, ◌^◌, ◌<◌, ◌≤◌, ◌⊎◌, false, if◌then◌else◌, Some, inl, inr, refl, sym, ap, ◌∙◌, arith, eq-eqb}
use Rattle.std.proofs.lemmas.Bool.{ne_eqb}
use Rattle.bv_base.specs.MemoryMap.{ram_end}
use Rattle.bv_base.proofs.Words.{word_from_bytes}
use Rattle.arm2_alu.proofs.RegisterLaws.{updated}
use Rattle.arm2_cpu.specs.Memory.{word_in}
use Rattle.arm2_cpu.proofs.MemoryLaws.{read-word}
use Rattle.arm2_machine.specs.Machine.{Machine, board_space, fetched}
use Rattle.arm_core.specs.Core.{Core, word, put_word, IsAt}
use Rattle.arm_core.proofs.States.{allows, reads-word}

-- ---- a function with another value at a number

pub updated-same : (f : ℕ → ℕ) (n x m : ℕ) → m ≡ n → updated f n x m ≡ x
updated-same f n x m is = ap (λ b. if b then x else f m) (eq-eqb m n is)

pub updated-other : (f : ℕ → ℕ) (n x m : ℕ) → (m ≡ n → ⊥) → updated f n x m ≡ f m
updated-other f n x m apart = ap (λ b. if b then x else f m) (ne_eqb m n apart)

-- ---- words

-- the memory after the first, second and third of the four bytes
abbrev first_put : (ℕ → ℕ) → ℕ → ℕ → ℕ → ℕ
first_put m a x = updated m a (x % 2 ^ 8)

abbrev second_put : (ℕ → ℕ) → ℕ → ℕ → ℕ → ℕ
second_put m a x = updated (first_put m a x) (a + 1) (x / 2 ^ 8 % 2 ^ 8)

abbrev third_put : (ℕ → ℕ) → ℕ → ℕ → ℕ → ℕ
third_put m a x = updated (second_put m a x) (a + 2) (x / 2 ^ 16 % 2 ^ 8)

kept_first : (m : ℕ → ℕ) (a x b : ℕ) → (b ≡ a → ⊥) → first_put m a x b ≡ m b
kept_first m a x b apart = updated-other m a (x % 2 ^ 8) b apart

kept_second : (m : ℕ → ℕ) (a x b : ℕ) → (b ≡ a + 1 → ⊥) → second_put m a x b ≡ first_put m a x b
kept_second m a x b apart = updated-other (first_put m a x) (a + 1) (x / 2 ^ 8 % 2 ^ 8) b apart

kept_third : (m : ℕ → ℕ) (a x b : ℕ) → (b ≡ a + 2 → ⊥) → third_put m a x b ≡ second_put m a x b
kept_third m a x b apart = updated-other (second_put m a x) (a + 2) (x / 2 ^ 16 % 2 ^ 8) b apart

kept_last : (m : ℕ → ℕ) (a x b : ℕ) → (b ≡ a + 3 → ⊥) → put_word m a x b ≡ third_put m a x b
unfolding put_word
kept_last m a x b apart = updated-other (third_put m a x) (a + 3) (x / 2 ^ 24 % 2 ^ 8) b apart

-- another byte than those of a word that was put
pub byte-put_other : (m : ℕ → ℕ) (a x b : ℕ) → (b < a) ⊎ (a + 4 ≤ b) → put_word m a x b ≡ m b
byte-put_other m a x b (inl below) =
    kept_last m a x b (λ e. omega (arith, e, below)) ∙ kept_third m a x b (λ e. omega (arith, e, below))
    ∙ kept_second m a x b (λ e. omega (arith, e, below)) ∙ kept_first m a x b (λ e. omega (arith, e, below))
byte-put_other m a x b (inr above) =
    kept_last m a x b (λ e. omega (arith, e, above)) ∙ kept_third m a x b (λ e. omega (arith, e, above))
    ∙ kept_second m a x b (λ e. omega (arith, e, above)) ∙ kept_first m a x b (λ e. omega (arith, e, above))

-- the four bytes of a word that was put
byte_0 : (m : ℕ → ℕ) (a x : ℕ) → put_word m a x a ≡ x % 2 ^ 8
byte_0 m a x =
    kept_last m a x a (λ e. omega (arith, e)) ∙ kept_third m a x a (λ e. omega (arith, e))
    ∙ kept_second m a x a (λ e. omega (arith, e)) ∙ updated-same m a (x % 2 ^ 8) a refl

byte_1 : (m : ℕ → ℕ) (a x : ℕ) → put_word m a x (a + 1) ≡ x / 2 ^ 8 % 2 ^ 8
byte_1 m a x =
    kept_last m a x (a + 1) (λ e. omega (arith, e)) ∙ kept_third m a x (a + 1) (λ e. omega (arith, e))
    ∙ updated-same (first_put m a x) (a + 1) (x / 2 ^ 8 % 2 ^ 8) (a + 1) refl

byte_2 : (m : ℕ → ℕ) (a x : ℕ) → put_word m a x (a + 2) ≡ x / 2 ^ 16 % 2 ^ 8
byte_2 m a x =
    kept_last m a x (a + 2) (λ e. omega (arith, e)) ∙ updated-same (second_put m a x) (a + 2) (x / 2 ^ 16 % 2 ^ 8) (a + 2) refl

byte_3 : (m : ℕ → ℕ) (a x : ℕ) → put_word m a x (a + 3) ≡ x / 2 ^ 24 % 2 ^ 8
unfolding put_word
byte_3 m a x = updated-same (third_put m a x) (a + 3) (x / 2 ^ 24 % 2 ^ 8) (a + 3) refl

-- the word that was put
pub word-put_same : (m : ℕ → ℕ) (a x : ℕ) → x < 2 ^ 32 → word (put_word m a x) a ≡ x
word-put_same m a x small =
    (λ i. byte_0 m a x i + byte_1 m a x i * 2 ^ 8 + byte_2 m a x i * 2 ^ 16 + byte_3 m a x i * 2 ^ 24) ∙ word_from_bytes x small

-- another word
pub word-put_other : (m : ℕ → ℕ) (a x b : ℕ) → (b + 4 ≤ a) ⊎ (a + 4 ≤ b) → word (put_word m a x) b ≡ word m b
word-put_other m a x b (inl below) =
    (λ i. byte-put_other m a x b (inl (omega (arith, below))) i + byte-put_other m a x (b + 1) (inl (omega (arith, below))) i * 2 ^ 8
    + byte-put_other m a x (b + 2) (inl (omega (arith, below))) i * 2 ^ 16 + byte-put_other m a x (b + 3) (inl (omega (arith, below))) i * 2 ^ 24)
word-put_other m a x b (inr above) =
    (λ i. byte-put_other m a x b (inr above) i + byte-put_other m a x (b + 1) (inr (omega (arith, above))) i * 2 ^ 8
    + byte-put_other m a x (b + 2) (inr (omega (arith, above))) i * 2 ^ 16 + byte-put_other m a x (b + 3) (inr (omega (arith, above))) i * 2 ^ 24)

-- a word after a byte that isn't in it
pub word-updated_other : (m : ℕ → ℕ) (a x b : ℕ) → (b + 4 ≤ a) ⊎ (a < b) → word (updated m a x) b ≡ word m b
word-updated_other m a x b (inl below) =
    (λ i. updated-other m a x b (λ e. omega (arith, e, below)) i + updated-other m a x (b + 1) (λ e. omega (arith, e, below)) i * 2 ^ 8
    + updated-other m a x (b + 2) (λ e. omega (arith, e, below)) i * 2 ^ 16 + updated-other m a x (b + 3) (λ e. omega (arith, e, below)) i * 2 ^ 24)
word-updated_other m a x b (inr above) =
    (λ i. updated-other m a x b (λ e. omega (arith, e, above)) i + updated-other m a x (b + 1) (λ e. omega (arith, e, above)) i * 2 ^ 8
    + updated-other m a x (b + 2) (λ e. omega (arith, e, above)) i * 2 ^ 16 + updated-other m a x (b + 3) (λ e. omega (arith, e, above)) i * 2 ^ 24)

-- words whose bytes are the same
pub word-same : (m k : ℕ → ℕ) (a : ℕ) → ((b : ℕ) → a ≤ b → b < a + 4 → m b ≡ k b) → word m a ≡ word k a
word-same m k a same =
    (λ i. same a (omega arith) (omega arith) i + same (a + 1) (omega arith) (omega arith) i * 2 ^ 8
    + same (a + 2) (omega arith) (omega arith) i * 2 ^ 16 + same (a + 3) (omega arith) (omega arith) i * 2 ^ 24)

-- ---- the board's list

-- a word that the supervisor fetches is the core's
pub word-fetched : (s : Core) (pc : ℕ) (m : Machine) (a w : ℕ) → IsAt s pc m → a < ram_end → fetched m.ram a ≡ Some w → word s.mem a ≡ w
word-fetched s pc m a w is inside there =
    let read = read-word board_space m.ram false a (allows false a refl inside) in
    let same : Some (word_in board_space m.ram a) ≡ Some w = sym read ∙ there in
    sym (reads-word s pc m is a) ∙ (let e : word_in board_space m.ram a ≡ w = cc in e)
