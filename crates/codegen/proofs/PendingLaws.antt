-- What is pending, after stores.
use Rattle.std.proofs.Common.{◌≡◌, ℕ, ◌+◌, ◌*◌, ◌^◌, ◌<◌, ◌≤◌, inr, ℤ, List, [], ◌∷◌, length, sym, subst, arith}
use Rattle.arm_core.specs.Core.{word, put_word}
use Rattle.arm_core.proofs.MemoryWords.{byte-put_other, word-put_same, word-same}
use Rattle.code_frag.specs.Regions.{numbers_end, texts_end}
use Rattle.codegen.specs.StandsFor.{Numbers, Texts}

-- where a stack begins by what is on it
pub numbers_room : (m : ℕ → ℕ) (p r : ℕ) (values : List ℤ) → Numbers m p r values → p + 4 * length values ≡ numbers_end
numbers_room m p r [] n = omega (arith, n)
numbers_room m p r (value ∷ values) n = let rest = numbers_room m (p + 4) (word m p) values n.1 in omega (arith, rest)

pub texts_room : (code m : ℕ → ℕ) (p r : ℕ) (texts : List (List ℕ)) → Texts code m p r texts → p + 4 * length texts ≡ texts_end
texts_room code m p r [] n = omega (arith, n)
texts_room code m p r (text ∷ texts) n = let rest = texts_room code m (p + 4) (word m p) texts n.1 in omega (arith, rest)

-- a memory that is the same from the stack's place on
pub numbers_kept : (m k : ℕ → ℕ) (p r : ℕ) (values : List ℤ) → Numbers m p r values → ((a : ℕ) → p ≤ a → a < numbers_end → k a ≡ m a) → Numbers k p r values
numbers_kept m k p r [] n same = n
numbers_kept m k p r (value ∷ values) n same =
    let rest = numbers_room m (p + 4) (word m p) values n.1 in (
      n.0,
      subst (λ w. Numbers k (p + 4) w values) (word-same m k p (λ b low high. sym (same b low (omega (arith, high, rest)))))
          (numbers_kept m k (p + 4) (word m p) values n.1 (λ a low high. same a (omega (arith, low)) high)),
    )

pub texts_kept : (code m k : ℕ → ℕ) (p r : ℕ) (texts : List (List ℕ)) → Texts code m p r texts → ((a : ℕ) → p ≤ a → a < texts_end → k a ≡ m a) → Texts code k p r texts
texts_kept code m k p r [] n same = n
texts_kept code m k p r (text ∷ texts) n same =
    let rest = texts_room code m (p + 4) (word m p) texts n.1 in (
      n.0,
      subst (λ w. Texts code k (p + 4) w texts) (word-same m k p (λ b low high. sym (same b low (omega (arith, high, rest)))))
          (texts_kept code m k (p + 4) (word m p) texts n.1 (λ a low high. same a (omega (arith, low)) high)),
    )

-- the topmost number goes to the word before the stack
pub numbers_pushed : (m : ℕ → ℕ) (q p r : ℕ) (values : List ℤ) → Numbers m p r values → q + 4 ≡ p → r < 2 ^ 32 → Numbers (put_word m q r) (q + 4) (word (put_word m q r) q) values
numbers_pushed m q p r values n next small =
    subst (λ w. Numbers (put_word m q r) (q + 4) w values) (sym (word-put_same m q r small))
    (numbers_kept m (put_word m q r) (q + 4) r values (subst (λ a. Numbers m a r values) (sym next) n) (λ a low high. byte-put_other m q r a (inr low)))

pub texts_pushed : (code m : ℕ → ℕ) (q p r : ℕ) (texts : List (List ℕ)) → Texts code m p r texts → q + 4 ≡ p → r < 2 ^ 32 → Texts code (put_word m q r) (q + 4) (word (put_word m q r) q) texts
texts_pushed code m q p r texts n next small =
    subst (λ w. Texts code (put_word m q r) (q + 4) w texts) (sym (word-put_same m q r small))
    (texts_kept code m (put_word m q r) (q + 4) r texts (subst (λ a. Texts code m a r texts) (sym next) n) (λ a low high. byte-put_other m q r a (inr low)))
