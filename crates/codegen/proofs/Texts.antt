-- The texts of an image are in the memory of its board.
use Rattle.std.proofs.Common.{◌≡◌, ℕ, zero, suc, ◌+◌, ◌*◌, ◌^◌, ◌<◌, ◌≤◌, List, [], ◌∷◌, ◌++◌, length, take, flat_map, slice_index, slice_index_or, refl, sym, ap, subst, ◌∙◌, arith}
use Rattle.std.proofs.lemmas.List.{length-append}
use Rattle.arm_isa.specs.Words.{means, word_of}
use Rattle.arm_isa.proofs.RoundTrip.{word_of-means}
use Rattle.arm_core.specs.Core.{word}
use Rattle.code_frag.specs.Runs.{Stands}
use Rattle.code_frag.proofs.Branches.{stands_first, stands_rest}
use Rattle.runtime_lib.specs.Entries.{bytes_from, text_at}
use Rattle.codegen.specs.Agrees.{AreBytes}
use Rattle.codegen.specs.Program.{packed, data_items, text_bytes}

-- bytes one by one
pub are_bytes : (bytes : List ℕ) → ((k : ℕ) → slice_index bytes k < 2 ^ 8) → AreBytes bytes
are_bytes [] each = tt
are_bytes (b ∷ bytes) each = (each 0, are_bytes bytes (λ k. each (suc k)))

-- the word of an item that is no code
word-is : (code : ℕ → ℕ) (a w : ℕ) → ((b : ℕ) → code b < 2 ^ 8) → w < 2 ^ 32 → means (word code a) ≡ means w → word code a ≡ w
word-is code a w good small is =
    let first = good a in
    let second = good (a + 1) in
    let third = good (a + 2) in
    let fourth = good (a + 3) in
    sym (word_of-means (word code a) (omega (arith, first, second, third, fourth))) ∙ ap word_of is ∙ word_of-means w small

module _ (code entry : ℕ → ℕ) (good : (b : ℕ) → code b < 2 ^ 8) where
  -- packed bytes are in memory one after another
  pub packed_in : (bytes : List ℕ) (a : ℕ) → AreBytes bytes → Stands (data_items (packed bytes)) code entry a → bytes_from code a (length bytes) ≡ bytes
  packed_in [] a each h = refl
  packed_in (x ∷ []) a each h =
      let w = word-is code a x good (let p = each.0 in omega (arith, p)) (stands_first _ _ code entry a h) in
      let p = each.0 in
      let first : code a ≡ x = omega (arith, w, p, good a, good (a + 1), good (a + 2), good (a + 3)) in
      (λ i. first i ∷ [])
  packed_in (x ∷ y ∷ []) a each h =
      let p = each.0 in
      let q = each.1.0 in
      let w = word-is code a (x + y * 2 ^ 8) good (omega (arith, p, q)) (stands_first _ _ code entry a h) in
      let first : code a ≡ x = omega (arith, w, p, q, good a, good (a + 1), good (a + 2), good (a + 3)) in
      let second : code (a + 1) ≡ y = omega (arith, w, p, q, good a, good (a + 1), good (a + 2), good (a + 3)) in
      (λ i. first i ∷ second i ∷ [])
  packed_in (x ∷ y ∷ z ∷ []) a each h =
      let p = each.0 in
      let q = each.1.0 in
      let r = each.1.1.0 in
      let w = word-is code a (x + y * 2 ^ 8 + z * 2 ^ 16) good (omega (arith, p, q, r)) (stands_first _ _ code entry a h) in
      let first : code a ≡ x = omega (arith, w, p, q, r, good a, good (a + 1), good (a + 2), good (a + 3)) in
      let second : code (a + 1) ≡ y = omega (arith, w, p, q, r, good a, good (a + 1), good (a + 2), good (a + 3)) in
      let third : code (a + 2) ≡ z = omega (arith, w, p, q, r, good a, good (a + 1), good (a + 2), good (a + 3)) in
      let next : code (a + 1 + 1) ≡ code (a + 2) = ap code (omega arith) in
      (λ i. first i ∷ second i ∷ (next ∙ third) i ∷ [])
  packed_in (x ∷ y ∷ z ∷ u ∷ bytes) a each h =
      let p = each.0 in
      let q = each.1.0 in
      let r = each.1.1.0 in
      let t = each.1.1.1.0 in
      let w = word-is code a (x + y * 2 ^ 8 + z * 2 ^ 16 + u * 2 ^ 24) good (omega (arith, p, q, r, t)) (stands_first _ _ code entry a h) in
      let first : code a ≡ x = omega (arith, w, p, q, r, t, good a, good (a + 1), good (a + 2), good (a + 3)) in
      let second : code (a + 1) ≡ y = omega (arith, w, p, q, r, t, good a, good (a + 1), good (a + 2), good (a + 3)) in
      let third : code (a + 1 + 1) ≡ z = ap code (let e : a + 1 + 1 ≡ a + 2 = omega arith in e) ∙ omega (arith, w, p, q, r, t, good a, good (a + 1), good (a + 2), good (a + 3)) in
      let fourth : code (a + 1 + 1 + 1) ≡ u = ap code (let e : a + 1 + 1 + 1 ≡ a + 3 = omega arith in e) ∙ omega (arith, w, p, q, r, t, good a, good (a + 1), good (a + 2), good (a + 3)) in
      let rest = packed_in bytes (a + 4) each.1.1.1.1 (stands_rest _ _ code entry a h) in
      let place : a + 1 + 1 + 1 + 1 ≡ a + 4 = omega arith in
      (λ i. first i ∷ second i ∷ third i ∷ fourth i ∷ (ap (λ b. bytes_from code b (length bytes)) place ∙ rest) i)

-- bytes in memory, in two parts
bytes_front : (m : ℕ → ℕ) (xs ys : List ℕ) (a : ℕ) → bytes_from m a (length (xs ++ ys)) ≡ xs ++ ys → bytes_from m a (length xs) ≡ xs
bytes_front m [] ys a h = refl
bytes_front m (x ∷ xs) ys a h =
    let first : m a ≡ x = cc h in
    let rest : bytes_from m (a + 1) (length (xs ++ ys)) ≡ xs ++ ys = cc h in
    (λ i. first i ∷ bytes_front m xs ys (a + 1) rest i)

bytes_back : (m : ℕ → ℕ) (xs ys : List ℕ) (a : ℕ) → bytes_from m a (length (xs ++ ys)) ≡ xs ++ ys → bytes_from m (a + length xs) (length ys) ≡ ys
bytes_back m [] ys a h = ap (λ b. bytes_from m b (length ys)) (omega arith) ∙ h
bytes_back m (x ∷ xs) ys a h =
    let rest : bytes_from m (a + 1) (length (xs ++ ys)) ≡ xs ++ ys = cc h in
    ap (λ b. bytes_from m b (length ys)) (omega arith) ∙ bytes_back m xs ys (a + 1) rest

pub front_in : (m : ℕ → ℕ) (xs ys : List ℕ) (a : ℕ) → bytes_from m a (length (xs ++ ys)) ≡ xs ++ ys → bytes_from m a (length xs) ≡ xs
front_in = bytes_front

-- the byte after others
pub byte_in : (m : ℕ → ℕ) (xs : List ℕ) (x a : ℕ) → bytes_from m a (length (xs ++ x ∷ [])) ≡ xs ++ x ∷ [] → m (a + length xs) ≡ x
byte_in m xs x a h = let e : bytes_from m (a + length xs) 1 ≡ x ∷ [] = bytes_back m xs (x ∷ []) a h in cc e

-- a text that is in memory after its length
pub record HasText (m : ℕ → ℕ) (a : ℕ) (text : List ℕ) : Type 0 where
  pub count : m a ≡ length text
  pub is : text_at m a ≡ text

-- a text among texts
pub text_in : (m : ℕ → ℕ) (front : List ℕ) (texts : List (List ℕ)) (number a : ℕ) → number < length texts → bytes_from m a (length (front ++ flat_map text_bytes texts)) ≡ front ++ flat_map text_bytes texts
    → HasText m (a + length front + length (flat_map text_bytes (take number texts))) (slice_index_or texts number [])
text_in m front texts number a low h = among texts number (a + length front) low (bytes_back m front (flat_map text_bytes texts) a h)
  where
    whole : (text : List ℕ) (b : ℕ) → bytes_from m b (length (text_bytes text)) ≡ text_bytes text → HasText m b text
    whole text b e =
        let count : m b ≡ length text = cc e in
        let rest : bytes_from m (b + 1) (length text) ≡ text = cc e in
        record { count = count; is = ap (bytes_from m (b + 1)) count ∙ rest }

    among : (texts : List (List ℕ)) (number b : ℕ) → number < length texts → bytes_from m b (length (flat_map text_bytes texts)) ≡ flat_map text_bytes texts → HasText m (b + length (flat_map text_bytes (take number texts))) (slice_index_or texts number [])
    among [] number b low e = absurd (omega (arith, low))
    among (text ∷ texts) zero b low e = subst (λ c. HasText m c text) (omega arith) (whole text b (bytes_front m (text_bytes text) (flat_map text_bytes texts) b e))
    among (text ∷ texts) (suc number) b low e =
        let n = length-append (text_bytes text) (flat_map text_bytes (take number texts)) in
        subst (λ c. HasText m c (slice_index_or texts number [])) (let q : b + length (text_bytes text) + length (flat_map text_bytes (take number texts)) ≡ b + length (text_bytes text ++ flat_map text_bytes (take number texts)) = omega (arith, n) in q)
        (among texts number (b + length (text_bytes text)) (omega (arith, low)) (bytes_back m (text_bytes text) (flat_map text_bytes texts) b e))

-- four bytes a word
pub length-packed : (bytes : List ℕ) → length bytes ≤ 4 * length (packed bytes)
length-packed [] = omega arith
length-packed (x ∷ []) = omega arith
length-packed (x ∷ y ∷ []) = omega arith
length-packed (x ∷ y ∷ z ∷ []) = omega arith
length-packed (x ∷ y ∷ z ∷ u ∷ bytes) = let rest = length-packed bytes in omega (arith, rest)
