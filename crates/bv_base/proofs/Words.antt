-- Laws of words in lists of bytes, and of bytes that were put in their place.
use Rattle.std.proofs.Common.{◌≡◌, ℕ, zero, suc, ◌+◌, ◌*◌, ◌/◌, ◌%◌, ◌^◌, ◌<◌, ◌≤◌, List, [], ◌∷◌, ◌++◌, length, take, drop, flat_map, slice_index, slice_set, refl, sym, ap, ◌∙◌, arith, add-zero, append_assoc, length-append, inl, inr}
use Rattle.std.proofs.lemmas.Bool.{cases_lt}
use Rattle.std.proofs.lemmas.Grind.{common_steps}
use Rattle.bv_base.specs.Words.{word_bytes, word_at, put_at, AreWords}

pub length-put_at : (bytes new : List ℕ) (i : ℕ) → i + length new ≤ length bytes → length (put_at bytes i new) ≡ length bytes
unfolding put_at
length-put_at bytes new i inside = grind (arith, common_steps)

-- a byte that was put
pub put_at_inside : (bytes new : List ℕ) (i k : ℕ) → i ≤ length bytes → k < length new → slice_index (put_at bytes i new) (i + k) ≡ slice_index new k
unfolding put_at
put_at_inside bytes new i k inside below = grind (arith, common_steps)

-- the bytes below and above stay
pub put_at_below : (bytes new : List ℕ) (i k : ℕ) → k < i → i ≤ length bytes → slice_index (put_at bytes i new) k ≡ slice_index bytes k
unfolding put_at
put_at_below bytes new i k below inside = grind (arith, common_steps)

pub put_at_above : (bytes new : List ℕ) (i k : ℕ) → i + length new ≤ k → i + length new ≤ length bytes → slice_index (put_at bytes i new) k ≡ slice_index bytes k
unfolding put_at
put_at_above bytes new i k above inside = grind (arith, common_steps)

-- one byte that was set is one that was put
pub slice_set_is_put : (bytes : List ℕ) (i byte : ℕ) → i < length bytes → slice_set bytes i byte ≡ put_at bytes i (byte ∷ [])
unfolding put_at
slice_set_is_put [] i byte inside = absurd (omega (arith, inside))
slice_set_is_put (x ∷ xs) zero byte inside = refl
slice_set_is_put (x ∷ xs) (suc i) byte inside =
    let next : suc (i + 1) ≡ suc i + 1 = omega arith in
    ap (λ l. x ∷ l) (slice_set_is_put xs i byte (omega (arith, inside))) ∙ ap (λ k. take (suc i) (x ∷ xs) ++ (byte ∷ []) ++ drop k (x ∷ xs)) next

-- the number of a word's four bytes
pub word_from_bytes : (w : ℕ) → w < 2 ^ 32 → w % 2 ^ 8 + w / 2 ^ 8 % 2 ^ 8 * 2 ^ 8 + w / 2 ^ 16 % 2 ^ 8 * 2 ^ 16 + w / 2 ^ 24 % 2 ^ 8 * 2 ^ 24 ≡ w
word_from_bytes w small = omega arith

-- a word that was put is read again
pub word_at-put_at : (bytes : List ℕ) (i w : ℕ) → i + 4 ≤ length bytes → w < 2 ^ 32 → word_at (put_at bytes i (word_bytes w)) i ≡ w
unfolding word_at
word_at-put_at bytes i w inside small =
    let here : i ≤ length bytes = omega (arith, inside) in
    let new = put_at bytes i (word_bytes w) in
    let byte : (k : ℕ) → k < 4 → slice_index new (i + k) ≡ slice_index (word_bytes w) k = λ k below. put_at_inside bytes (word_bytes w) i k here below in
    let first : slice_index new i ≡ w % 2 ^ 8 = ap (slice_index new) (sym (add-zero i)) ∙ byte 0 (omega arith) in
    (λ t. first t + byte 1 (omega arith) t * 2 ^ 8 + byte 2 (omega arith) t * 2 ^ 16 + byte 3 (omega arith) t * 2 ^ 24) ∙ word_from_bytes w small

-- another word stays
stays_below : (bytes : List ℕ) (i j w : ℕ) → i + 4 ≤ j → j + 4 ≤ length bytes → word_at (put_at bytes j (word_bytes w)) i ≡ word_at bytes i
unfolding word_at
stays_below bytes i j w below inside =
    let byte : (k : ℕ) → k < j → slice_index (put_at bytes j (word_bytes w)) k ≡ slice_index bytes k = λ k under. put_at_below bytes (word_bytes w) j k under (omega (arith, inside)) in
    (λ t. byte i (omega arith) t + byte (i + 1) (omega arith) t * 2 ^ 8 + byte (i + 2) (omega arith) t * 2 ^ 16 + byte (i + 3) (omega arith) t * 2 ^ 24)

stays_above : (bytes : List ℕ) (i j w : ℕ) → j + 4 ≤ i → j + 4 ≤ length bytes → word_at (put_at bytes j (word_bytes w)) i ≡ word_at bytes i
unfolding word_at
stays_above bytes i j w above inside =
    let byte : (k : ℕ) → j + 4 ≤ k → slice_index (put_at bytes j (word_bytes w)) k ≡ slice_index bytes k = λ k over. put_at_above bytes (word_bytes w) j k over inside in
    (λ t. byte i (omega arith) t + byte (i + 1) (omega arith) t * 2 ^ 8 + byte (i + 2) (omega arith) t * 2 ^ 16 + byte (i + 3) (omega arith) t * 2 ^ 24)

pub word_at-put_at_elsewhere : (bytes : List ℕ) (i j w : ℕ) → i % 4 ≡ 0 → j % 4 ≡ 0 → ¬ (i ≡ j) → j + 4 ≤ length bytes
    → word_at (put_at bytes j (word_bytes w)) i ≡ word_at bytes i
word_at-put_at_elsewhere bytes i j w even even' apart inside = elim (cases_lt i j) [
  | inl below ↦ stays_below bytes i j w (omega arith) inside
  | inr over ↦ stays_above bytes i j w (let above : j < i = elim (cases_lt j i) [ inl l ↦ l | inr under ↦ absurd (apart (omega arith)) ] in omega arith) inside
]

pub length-flat_map-word_bytes : (words : List ℕ) → length (flat_map word_bytes words) ≡ 4 * length words
length-flat_map-word_bytes [] = refl
length-flat_map-word_bytes (w ∷ ws) = omega (arith, length-append (word_bytes w) (flat_map word_bytes ws), length-flat_map-word_bytes ws)

-- the bytes of one word more
pub flat_map-more : (words : List ℕ) (w : ℕ) → flat_map word_bytes (words ++ w ∷ []) ≡ flat_map word_bytes words ++ word_bytes w
flat_map-more [] w = refl
flat_map-more (v ∷ vs) w = ap (λ l. word_bytes v ++ l) (flat_map-more vs w) ∙ sym (append_assoc (word_bytes v) _ (word_bytes w))

-- equal bytes are those of equal words
pub same_words : (a b : List ℕ) → AreWords a → AreWords b → flat_map word_bytes a ≡ flat_map word_bytes b → a ≡ b
same_words [] [] a_small b_small same = refl
same_words [] (w ∷ ws) a_small b_small same = absurd (omega (arith, ap length same, length-flat_map-word_bytes (w ∷ ws)))
same_words (w ∷ ws) [] a_small b_small same = absurd (omega (arith, ap length same, length-flat_map-word_bytes (w ∷ ws)))
same_words (w ∷ ws) (v ∷ vs) a_small b_small same =
    let at : (k : ℕ) → slice_index (flat_map word_bytes (w ∷ ws)) k ≡ slice_index (flat_map word_bytes (v ∷ vs)) k = λ k. ap (λ l. slice_index l k) same in
    let number : w ≡ v = sym (word_from_bytes w a_small.0) ∙ (λ i. at 0 i + at 1 i * 2 ^ 8 + at 2 i * 2 ^ 16 + at 3 i * 2 ^ 24) ∙ word_from_bytes v b_small.0 in
    let others = same_words ws vs a_small.1 b_small.1 (ap (drop 4) same) in
    (λ i. number i ∷ others i)

pub one_word_more : (words : List ℕ) (w : ℕ) → w < 2 ^ 32 → AreWords words → AreWords (words ++ w ∷ [])
one_word_more [] w small are = (small, tt)
one_word_more (v ∷ vs) w small are = (are.0, one_word_more vs w small are.1)

pub words_of : (xs : List ℕ) → ((k : ℕ) → slice_index xs k < 2 ^ 32) → AreWords xs
words_of [] small = tt
words_of (x ∷ xs) small = (small 0, words_of xs (λ k. small (suc k)))
