-- Rows of bytes at the front of a text that pass a test: their number, and what all of them pass.
use Rattle.std.proofs.Common.{◌≡◌, ℕ, ◌+◌, ◌<◌, ◌≤◌, Bool, true, false, cond, List, [], ◌∷◌, ◌++◌, length, take, drop, take_while, get_or, refl, sym, ap, subst, ◌∙◌, arith}
use Rattle.std.specs.List.{AllByRecursion, prefix_len}
use Rattle.std.proofs.lemmas.List.{at_drop_more, length-take}
use Rattle.std.proofs.lemmas.List.Sums.{take_while-cons}

-- what a count of the bytes of a row knows at a place
pub record IsCounted (test : ℕ → Bool) (text : List ℕ) (at count : ℕ) : Type 0 where
  pub counted : count ≡ at
  pub row : at + length (take_while test (drop at text)) ≡ length (take_while test text)

pub count_first : (test : ℕ → Bool) (text : List ℕ) → IsCounted test text 0 0
count_first test text = record { counted = refl; row = omega arith }

pub passes : (test : ℕ → Bool) (b : ℕ) (rest : List ℕ) → test b ≡ true → take_while test (b ∷ rest) ≡ b ∷ take_while test rest
passes test b rest is = take_while-cons test b rest ∙ ap (λ t. cond t (b ∷ take_while test rest) []) is

pub fails : (test : ℕ → Bool) (b : ℕ) (rest : List ℕ) → test b ≡ false → take_while test (b ∷ rest) ≡ []
fails test b rest is = take_while-cons test b rest ∙ ap (λ t. cond t (b ∷ take_while test rest) []) is

pub count_more : (test : ℕ → Bool) (text : List ℕ) (at count b : ℕ) → at < length text → b ≡ get_or text at 0 → test b ≡ true → IsCounted test text at count → IsCounted test text (at + 1) (count + 1)
count_more test text at count b within is_b is so_far = record {
  counted = omega (arith, so_far.counted);
  row = omega (arith, so_far.row, at_drop_more (λ l. length (take_while test l)) text at 0 within, ap (λ n. length (take_while test (n ∷ drop (at + 1) text))) is_b, ap length (passes test b (drop (at + 1) text) is));
}

pub count_stops : (test : ℕ → Bool) (text : List ℕ) (at count b : ℕ) → at < length text → b ≡ get_or text at 0 → test b ≡ false → IsCounted test text at count → count ≡ length (take_while test text)
count_stops test text at count b within is_b is so_far =
    omega (arith, so_far.counted, so_far.row, at_drop_more (λ l. length (take_while test l)) text at 0 within, ap (λ n. length (take_while test (n ∷ drop (at + 1) text))) is_b, ap length (fails test b (drop (at + 1) text) is))

-- a row is no longer than its text
pub row_within : (test : ℕ → Bool) (text : List ℕ) → length (take_while test text) ≤ length text
row_within test text = omega (arith, length-take (prefix_len test text) text)

-- the bytes that are counted are the row
pub row_is : (test : ℕ → Bool) (text : List ℕ) → take (length (take_while test text)) text ≡ take_while test text
row_is test [] = refl
row_is test (b ∷ text) = cases (test b) refl (row_is test text)
  where
    cases : (t : Bool) → test b ≡ t → take (length (take_while test text)) text ≡ take_while test text → take (length (take_while test (b ∷ text))) (b ∷ text) ≡ take_while test (b ∷ text)
    cases true is later =
        let row = passes test b text is in
        ap (λ l. take (length l) (b ∷ text)) row ∙ ap (λ l. b ∷ l) later ∙ sym row
    cases false is later = let none = fails test b text is in ap (λ l. take (length l) (b ∷ text)) none ∙ sym none

-- each byte of a row passes the test
pub row_passes : (test : ℕ → Bool) (text : List ℕ) → AllByRecursion (λ b. test b ≡ true) (take_while test text)
row_passes test [] = tt
row_passes test (b ∷ text) = cases (test b) refl (row_passes test text)
  where
    cases : (t : Bool) → test b ≡ t → AllByRecursion (λ c. test c ≡ true) (take_while test text) → AllByRecursion (λ c. test c ≡ true) (take_while test (b ∷ text))
    cases true is later = subst (AllByRecursion (λ c. test c ≡ true)) (sym (passes test b text is)) (is, later)
    cases false is later = subst (AllByRecursion (λ c. test c ≡ true)) (sym (fails test b text is)) tt

-- what holds of each element of a list, where one fact gives another
pub all_map : (P Q : ℕ → Type 0) → ((x : ℕ) → P x → Q x) → (xs : List ℕ) → AllByRecursion P xs → AllByRecursion Q xs
all_map P Q f [] all = tt
all_map P Q f (x ∷ xs) all = (f x all.0, all_map P Q f xs all.1)

pub all_append : (P : ℕ → Type 0) (xs ys : List ℕ) → AllByRecursion P xs → AllByRecursion P ys → AllByRecursion P (xs ++ ys)
all_append P [] ys all others = others
all_append P (x ∷ xs) ys all others = (all.0, all_append P xs ys all.1 others)
