-- The words of fragments: where their branches lead, and that they are the words of their pieces in a memory.
use Rattle.std.proofs.Common.{◌≡◌, ℕ, zero, suc, ◌+◌, ◌-◌, ◌*◌, ◌%◌, ◌^◌, ◌<◌, ◌≤◌, ◌⊎◌, ◌&&◌, nat_lt, nat_le, Bool, true, List, [], ◌∷◌, ◌++◌, length, drop, get_or, Option, Some, None, inl, inr, pos, negsuc, refl, sym, ap, subst, ◌∙◌, arith, ltb-true, leb-true, append_assoc, mod-eq_of_lt}
use Rattle.std.specs.List.{list_all}
use Rattle.std.proofs.lemmas.Bool.{and_parts, cases_lt}
use Rattle.std.proofs.lemmas.Int.{ints}
use Rattle.bv_base.specs.Words.{AreWords}
use Rattle.arm_isa.specs.declared.instruction.Instr.{Instr}
use Rattle.arm_isa.specs.declared.instruction.Instr.TheVariants.{Branch}
use Rattle.arm_isa.specs.Fields.{offset_field}
use Rattle.arm_isa.specs.Valid.{is_valid}
use Rattle.arm_isa.specs.Words.{IsValid, FitsOffset}
use Rattle.arm_isa.proofs.RoundTrip.{means_at, word_of-lt}
use Rattle.arm_isa.proofs.ValidLaws.{valid-branch}
use Rattle.arm_isa.proofs.ValidTest.{valid_by_test}
use Rattle.arm_core.specs.Core.{word}
use Rattle.arm_core.specs.Made.{target_of}
use Rattle.code_frag.specs.declared.item.Item.{Item}
use Rattle.code_frag.specs.declared.item.Item.TheVariants.{Ins, Jump}
use Rattle.code_frag.specs.Runs.{Stands}
use Rattle.code_frag.specs.Words.{FragState, IsFrag, most_words, item_fits, place_fits, place_of, distance, item_word, words_from, words_of, ReachesFrom, Reaches}
use Rattle.code_frag.proofs.FragLaws.{all_implies, place_fits-more}
-- the words in a memory, and the addresses of labels: the laws are read with them
pub use Rattle.code_frag.specs.Words.{HasWords, label_address}

-- ---- distances

distance_ahead : (at to : ℕ) → at + 2 ≤ to → distance at to ≡ pos (to - (at + 2))
distance_ahead at to ahead = omega (arith, ints, ahead)

distance_back : (at to : ℕ) → to < at + 2 → distance at to ≡ negsuc (at + 1 - to)
distance_back at to back = omega (arith, ints, back)

pub distance-fits : (at to : ℕ) → at ≤ most_words → to ≤ most_words → FitsOffset (distance at to)
distance-fits at to few within = each (cases_lt to (at + 2))
  where
    each : (to < at + 2) ⊎ (at + 2 ≤ to) → FitsOffset (distance at to)
    each (inl back) = subst FitsOffset (sym (distance_back at to back)) (let e : at + 1 - to < 2 ^ 23 = omega (arith, few) in e)
    each (inr ahead) = subst FitsOffset (sym (distance_ahead at to ahead)) (let e : to - (at + 2) < 2 ^ 23 = omega (arith, within) in e)

-- a branch from one place to another leads from its address to the other's, modulo 2^26
pub distance-reaches : (base at to : ℕ) → at ≤ most_words → to ≤ most_words → target_of (base + 4 * at) (offset_field (distance at to)) ≡ (base + 4 * to) % 2 ^ 26
distance-reaches base at to few within = each (cases_lt to (at + 2))
  where
    each : (to < at + 2) ⊎ (at + 2 ≤ to) → target_of (base + 4 * at) (offset_field (distance at to)) ≡ (base + 4 * to) % 2 ^ 26
    each (inl back) =
        ap (λ d. target_of (base + 4 * at) (offset_field d)) (distance_back at to back)
        ∙ (let e : (base + 4 * at + 8 + 4 * (2 ^ 24 - 1 - (at + 1 - to))) % 2 ^ 26 ≡ (base + 4 * to) % 2 ^ 26 = omega (arith, back, few, within) in e)
    each (inr ahead) =
        ap (λ d. target_of (base + 4 * at) (offset_field d)) (distance_ahead at to ahead)
        ∙ (let e : (base + 4 * at + 8 + 4 * (to - (at + 2))) % 2 ^ 26 ≡ (base + 4 * to) % 2 ^ 26 = omega (arith, ahead) in e)

-- ---- places

-- the place of a label is among the items
pub place-within : (k : ℕ) (places : List (Option ℕ)) (l : ℕ) → list_all (place_fits k) places ≡ true → place_of places l ≤ k
place-within k [] l fit = omega arith
place-within k (None ∷ ps) zero fit = omega arith
place-within k (Some p ∷ ps) zero fit = leb-true p k (and_parts (nat_le p k) (list_all (place_fits k) ps) fit).0
place-within k (p ∷ ps) (suc l) fit = place-within k ps l (and_parts (place_fits k p) (list_all (place_fits k) ps) fit).1

-- ---- words

pub valid_item : (i : Instr) (n : ℕ) → item_fits n (Ins i) ≡ true → IsValid i
valid_item i n fits = valid_by_test i fits

pub valid_jump : (n k : ℕ) (link : Bool) (l at to : ℕ) → item_fits n (Jump k link (record { number = l })) ≡ true → at ≤ most_words → to ≤ most_words → IsValid (Branch k link (distance at to))
valid_jump n k link l at to fits few within =
    valid-branch k link (distance at to) (ltb-true k 16 (and_parts (nat_lt k 16) (nat_lt l n) fits).0) (distance-fits at to few within)

pub all_at : {X : Type 0} (p : X → Bool) (xs : List X) (i : ℕ) (d : X) → list_all p xs ≡ true → i < length xs → p (get_or xs i d) ≡ true
all_at p [] i d all within = absurd (omega (arith, within))
all_at p (x ∷ xs) zero d all within = (and_parts (p x) (list_all p xs) all).0
all_at p (x ∷ xs) (suc i) d all within = all_at p xs i d (and_parts (p x) (list_all p xs) all).1 (omega (arith, within))

-- one word more
pub words_step : (is : List Item) (places : List (Option ℕ)) (k at : ℕ) (ws all : List ℕ) (d : Item) → k < length is → ws ++ words_from (drop k is) places at ≡ all
    → (ws ++ item_word places at (get_or is k d) ∷ []) ++ words_from (drop (k + 1) is) places (at + 1) ≡ all
words_step [] places k at ws all d within so = absurd (omega (arith, within))
words_step (i ∷ is) places zero at ws all d within so = append_assoc ws (item_word places at i ∷ []) (words_from is places (at + 1)) ∙ so
words_step (i ∷ is) places (suc k) at ws all d within so =
    ap (λ n. (ws ++ item_word places at (get_or is k d) ∷ []) ++ words_from (drop n (i ∷ is)) places (at + 1)) (let e : suc k + 1 ≡ suc (k + 1) = omega arith in e)
    ∙ words_step is places k at ws all d (omega (arith, within)) so

-- ---- branches reach their labels

reaches_from : (is : List Item) (places : List (Option ℕ)) (base at : ℕ) → list_all (place_fits most_words) places ≡ true → at + length is ≤ most_words → ReachesFrom is (words_from is places at) places base at
reaches_from [] places base at fit few = refl
reaches_from (Ins i ∷ is) places base at fit few = (refl, reaches_from is places base (at + 1) fit (omega (arith, few)))
reaches_from (Jump k link to ∷ is) places base at fit few = (
  (distance at (place_of places to.number), refl, distance-reaches base at (place_of places to.number) (omega (arith, few)) (place-within most_words places to.number fit)),
  reaches_from is places base (at + 1) fit (omega (arith, few)),
)

pub words-reach : (f : FragState) (base : ℕ) → IsFrag f → length f.items ≤ most_words → Reaches f base (words_of f)
unfolding words_of
words-reach f base good few = record {
  each = reaches_from f.items f.places base 0
      (all_implies (place_fits (length f.items)) (place_fits most_words) fits f.places good.places) (omega (arith, few));
}
  where
    fits : (p : Option ℕ) → place_fits (length f.items) p ≡ true → place_fits most_words p ≡ true
    fits p is = place_fits-more (length f.items) most_words few p is

-- ---- the words of a fragment in a memory

stands_from : (is : List Item) (n : ℕ) (places : List (Option ℕ)) (code : ℕ → ℕ) (base at : ℕ) → list_all (item_fits n) is ≡ true → list_all (place_fits most_words) places ≡ true
    → at + length is ≤ most_words → base + 4 * most_words < 2 ^ 26 → HasWords (words_from is places at) code (base + 4 * at) → Stands is code (label_address places base) (base + 4 * at)
unfolding Stands
stands_from [] n places code base at fits fit few low has = tt
stands_from (Ins i ∷ is) n places code base at fits fit few low has =
    let parts = and_parts (is_valid i) (list_all (item_fits n) is) fits in
    let next : base + 4 * at + 4 ≡ base + 4 * (at + 1) = omega arith in (
      means_at (word code (base + 4 * at)) i (valid_item i n parts.0) has.0,
      subst (Stands is code (label_address places base)) (sym next) (stands_from is n places code base (at + 1) parts.1 fit (omega (arith, few)) low (subst (HasWords (words_from is places (at + 1)) code) next has.1)),
    )
stands_from (Jump k link to ∷ is) n places code base at fits fit few low has =
    let parts = and_parts (nat_lt k 16 && nat_lt to.number n) (list_all (item_fits n) is) fits in
    let next : base + 4 * at + 4 ≡ base + 4 * (at + 1) = omega arith in
    let p = place_of places to.number in
    let within = place-within most_words places to.number fit in
    let d = distance at p in (
      (
        d,
        means_at (word code (base + 4 * at)) (Branch k link d) (valid_jump n k link to.number at p parts.0 (omega (arith, few)) within) has.0,
        distance-reaches base at p (omega (arith, few)) within ∙ mod-eq_of_lt (let e : base + 4 * p < 2 ^ 26 = omega (arith, within, low) in e),
      ),
      subst (Stands is code (label_address places base)) (sym next) (stands_from is n places code base (at + 1) parts.1 fit (omega (arith, few)) low (subst (HasWords (words_from is places (at + 1)) code) next has.1)),
    )

-- where the words of a fragment stand from a base on, its items do
pub stands-words : (f : FragState) (code : ℕ → ℕ) (base : ℕ) → IsFrag f → length f.items ≤ most_words → base + 4 * most_words < 2 ^ 26 → HasWords (words_of f) code base → Stands f.items code (label_address f.places base) base
unfolding words_of
stands-words f code base good few low has =
    let first : base ≡ base + 4 * 0 = omega arith in
    subst (Stands f.items code (label_address f.places base)) (sym first)
    (stands_from f.items (length f.places) f.places code base 0 good.items
    (all_implies (place_fits (length f.items)) (place_fits most_words) (place_fits-more (length f.items) most_words few) f.places good.places)
    (omega (arith, few)) low (subst (HasWords (words_from f.items f.places 0) code) first has))

-- ---- as words of an image

words_from-length : (is : List Item) (places : List (Option ℕ)) (at : ℕ) → length (words_from is places at) ≡ length is
words_from-length [] places at = refl
words_from-length (i ∷ is) places at = ap suc (words_from-length is places (at + 1))

-- a fragment has as many words as items
pub length-words_of : (f : FragState) → length (words_of f) ≡ length f.items
unfolding words_of
length-words_of f = words_from-length f.items f.places 0

are_words_from : (is : List Item) (n : ℕ) (places : List (Option ℕ)) (at : ℕ) → list_all (item_fits n) is ≡ true → list_all (place_fits most_words) places ≡ true → at + length is ≤ most_words → AreWords (words_from is places at)
are_words_from [] n places at fits fit few = tt
are_words_from (Ins i ∷ is) n places at fits fit few =
    let parts = and_parts (is_valid i) (list_all (item_fits n) is) fits in
    (word_of-lt i (valid_item i n parts.0).fits, are_words_from is n places (at + 1) parts.1 fit (omega (arith, few)))
are_words_from (Jump k link to ∷ is) n places at fits fit few =
    let parts = and_parts (nat_lt k 16 && nat_lt to.number n) (list_all (item_fits n) is) fits in
    let p = place_of places to.number in (
      word_of-lt (Branch k link (distance at p)) (valid_jump n k link to.number at p parts.0 (omega (arith, few)) (place-within most_words places to.number fit)).fits,
      are_words_from is n places (at + 1) parts.1 fit (omega (arith, few)),
    )

pub are-words : (f : FragState) → IsFrag f → length f.items ≤ most_words → AreWords (words_of f)
unfolding words_of
are-words f good few =
    are_words_from f.items (length f.places) f.places 0 good.items
    (all_implies (place_fits (length f.items)) (place_fits most_words) (place_fits-more (length f.items) most_words few) f.places good.places) (omega (arith, few))
