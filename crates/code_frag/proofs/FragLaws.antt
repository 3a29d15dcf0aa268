-- Fragments stay fragments: after an item, a label, a place, and another fragment.
use Rattle.std.proofs.Common.{◌≡◌, ℕ, zero, suc, ◌+◌, ◌≤◌, nat_lt, Bool, true, List, [], ◌∷◌, ◌++◌, length, map, slice_set, Option, Some, None, refl, ap, ◌∙◌, arith, length-append, lt-ltb, ltb-true, le-leb, leb-true}
use Rattle.std.specs.List.{list_all}
use Rattle.std.proofs.lemmas.Bool.{and_parts, and_from}
use Rattle.std.proofs.lemmas.List.Folds.{list_all-append}
use Rattle.arm_isa.specs.declared.instruction.Instr.{Instr}
use Rattle.arm_isa.specs.Valid.{is_valid}
use Rattle.arm_isa.specs.Words.{IsValid}
use Rattle.arm_isa.proofs.ValidTest.{test_of_valid}
use Rattle.code_frag.specs.declared.item.Item.{Item}
use Rattle.code_frag.specs.declared.item.Item.TheVariants.{Ins, Jump}
use Rattle.code_frag.specs.Words.{FragState, IsFrag, item_fits, place_fits, shifted_item, shifted_place, joined}

-- a test of each element that implies another
pub all_implies : {X : Type 0} (p q : X → Bool) → ((x : X) → p x ≡ true → q x ≡ true) → (xs : List X) → list_all p xs ≡ true → list_all q xs ≡ true
all_implies p q implies [] all = refl
all_implies p q implies (x ∷ xs) all =
    let parts = and_parts (p x) (list_all p xs) all in
    and_from (q x) (list_all q xs) (implies x parts.0) (all_implies p q implies xs parts.1)

all_set : {X : Type 0} (p : X → Bool) (x : X) → p x ≡ true → (xs : List X) (i : ℕ) → list_all p xs ≡ true → list_all p (slice_set xs i x) ≡ true
all_set p x passes [] i all = refl
all_set p x passes (y ∷ ys) zero all = and_from (p x) (list_all p ys) passes (and_parts (p y) (list_all p ys) all).1
all_set p x passes (y ∷ ys) (suc i) all =
    let parts = and_parts (p y) (list_all p ys) all in
    and_from (p y) (list_all p (slice_set ys i x)) parts.0 (all_set p x passes ys i parts.1)

all_both : {X : Type 0} (p : X → Bool) (xs ys : List X) → list_all p xs ≡ true → list_all p ys ≡ true → list_all p (xs ++ ys) ≡ true
all_both p xs ys first second = list_all-append p xs ys ∙ and_from (list_all p xs) (list_all p ys) first second

-- more labels, and more items
pub item_fits-more : (n m : ℕ) → n ≤ m → (i : Item) → item_fits n i ≡ true → item_fits m i ≡ true
item_fits-more n m more (Ins i) fits = fits
item_fits-more n m more (Jump k link to) fits =
    let parts = and_parts (nat_lt k 16) (nat_lt to.number n) fits in
    and_from (nat_lt k 16) (nat_lt to.number m) parts.0 (lt-ltb to.number m (let low = ltb-true to.number n parts.1 in omega (arith, low, more)))

pub place_fits-more : (n m : ℕ) → n ≤ m → (p : Option ℕ) → place_fits n p ≡ true → place_fits m p ≡ true
place_fits-more n m more None fits = refl
place_fits-more n m more (Some p) fits = le-leb p m (let low = leb-true p n fits in omega (arith, low, more))

pub frag-items : (f : FragState) (is : List Item) → IsFrag f → list_all (item_fits (length f.places)) is ≡ true → IsFrag (record { items = f.items ++ is; places = f.places })
frag-items f is good fits = record {
  items = all_both (item_fits (length f.places)) f.items is good.items fits;
  places = all_implies (place_fits (length f.items)) (place_fits (length (f.items ++ is))) (place_fits-more (length f.items) (length (f.items ++ is)) (omega (arith, length-append f.items is))) f.places good.places;
}

pub frag-instruction : (f : FragState) (i : Instr) → IsFrag f → IsValid i → IsFrag (record { items = f.items ++ Ins i ∷ []; places = f.places })
frag-instruction f i good valid = frag-items f (Ins i ∷ []) good (and_from (is_valid i) true (test_of_valid i valid) refl)

pub frag-label : (f : FragState) → IsFrag f → IsFrag (record { items = f.items; places = f.places ++ None ∷ [] })
frag-label f good = record {
  items = all_implies (item_fits (length f.places)) (item_fits (length (f.places ++ None ∷ []))) (item_fits-more (length f.places) (length (f.places ++ None ∷ [])) (omega (arith, length-append f.places (None ∷ [])))) f.items good.items;
  places = all_both (place_fits (length f.items)) f.places (None ∷ []) good.places refl;
}

length_set : {X : Type 0} (xs : List X) (i : ℕ) (x : X) → length (slice_set xs i x) ≡ length xs
length_set [] i x = refl
length_set (y ∷ ys) zero x = refl
length_set (y ∷ ys) (suc i) x = ap suc (length_set ys i x)

pub frag-place : (f : FragState) (l : ℕ) → IsFrag f → IsFrag (record { items = f.items; places = slice_set f.places l (Some (length f.items)) })
frag-place f l good = record {
  items = ap (λ n. list_all (item_fits n) f.items) (length_set f.places l (Some (length f.items))) ∙ good.items;
  places = all_set (place_fits (length f.items)) (Some (length f.items)) (le-leb (length f.items) (length f.items) (omega arith)) f.places l good.places;
}

-- ---- joins

length_map : {X Y : Type 0} (g : X → Y) (xs : List X) → length (map g xs) ≡ length xs
length_map g [] = refl
length_map g (x ∷ xs) = ap suc (length_map g xs)

all_map : {X Y : Type 0} (q : Y → Bool) (p : X → Bool) (g : X → Y) → ((x : X) → p x ≡ true → q (g x) ≡ true) → (xs : List X) → list_all p xs ≡ true → list_all q (map g xs) ≡ true
all_map q p g implies [] all = refl
all_map q p g implies (x ∷ xs) all =
    let parts = and_parts (p x) (list_all p xs) all in
    and_from (q (g x)) (list_all q (map g xs)) (implies x parts.0) (all_map q p g implies xs parts.1)

shifted_fits : (a b c : ℕ) → a + b ≤ c → (i : Item) → item_fits b i ≡ true → item_fits c (shifted_item a i) ≡ true
shifted_fits a b c sum (Ins i) fits = fits
shifted_fits a b c sum (Jump k link to) fits =
    let parts = and_parts (nat_lt k 16) (nat_lt to.number b) fits in
    and_from (nat_lt k 16) (nat_lt (to.number + a) c) parts.0 (lt-ltb (to.number + a) c (let low = ltb-true to.number b parts.1 in omega (arith, low, sum)))

shifted_place_fits : (a b c : ℕ) → a + b ≤ c → (p : Option ℕ) → place_fits b p ≡ true → place_fits c (shifted_place a p) ≡ true
shifted_place_fits a b c sum None fits = refl
shifted_place_fits a b c sum (Some p) fits = le-leb (p + a) c (let low = leb-true p b fits in omega (arith, low, sum))

pub frag-joined : (a b : FragState) → IsFrag a → IsFrag b → IsFrag (joined a b)
frag-joined a b good other =
    let labels : length (joined a b).places ≡ length a.places + length b.places = length-append a.places (map (shifted_place (length a.items)) b.places) ∙ ap (λ n. length a.places + n) (length_map (shifted_place (length a.items)) b.places) in
    let items : length (joined a b).items ≡ length a.items + length b.items = length-append a.items (map (shifted_item (length a.places)) b.items) ∙ ap (λ n. length a.items + n) (length_map (shifted_item (length a.places)) b.items) in
    record {
      items = all_both (item_fits (length (joined a b).places)) a.items (map (shifted_item (length a.places)) b.items)
          (all_implies (item_fits (length a.places)) (item_fits (length (joined a b).places)) (item_fits-more (length a.places) (length (joined a b).places) (omega (arith, labels))) a.items good.items)
          (all_map (item_fits (length (joined a b).places)) (item_fits (length b.places)) (shifted_item (length a.places)) (shifted_fits (length a.places) (length b.places) (length (joined a b).places) (omega (arith, labels))) b.items other.items);
      places = all_both (place_fits (length (joined a b).items)) a.places (map (shifted_place (length a.items)) b.places)
          (all_implies (place_fits (length a.items)) (place_fits (length (joined a b).items)) (place_fits-more (length a.items) (length (joined a b).items) (omega (arith, items))) a.places good.places)
          (all_map (place_fits (length (joined a b).items)) (place_fits (length b.items)) (shifted_place (length a.items)) (shifted_place_fits (length a.items) (length b.items) (length (joined a b).items) (omega (arith, items))) b.places other.places);
    }
