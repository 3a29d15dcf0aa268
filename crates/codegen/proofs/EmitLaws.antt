-- How labels, operations and addresses follow one another in a program's fragment.
use Rattle.std.proofs.Common.{◌≡◌, ◌≢◌, ℕ, zero, suc, ◌+◌, ◌-◌, min, ◌<◌, ◌≤◌, Bool, true, false, List, [], ◌∷◌, ◌++◌, length, get_or, take, drop, replicate, slice_get, slice_set, Some, None, refl, sym, ap, subst, ◌∙◌, arith, append_assoc, length-append}
use Rattle.std.specs.Prelude.{slice_index, slice_index_or, flat_map}
use Rattle.std.proofs.lemmas.List.{take_more, drop_more, drop_all, replicate-append-replicate}
use Rattle.std.proofs.lemmas.Option.{slice_get-get_or}
use Rattle.bas_ir.specs.declared.ir.Ir.{Ir}
use Rattle.bas_ir.specs.declared.op.Op.{Op}
use Rattle.bas_ir.specs.Places.{marks_in}
use Rattle.arm_isa.specs.Numbers.{AL}
use Rattle.code_frag.specs.declared.item.Item.{Item}
use Rattle.code_frag.specs.declared.item.Item.TheVariants.{Jump}
use Rattle.code_frag.specs.declared.item.Label.{Label}
use Rattle.code_frag.specs.Language.{Piece, ◌⨾◌, items}
use Rattle.code_frag.specs.Words.{FragState}
use Rattle.codegen.specs.Operations.{item_label}
use Rattle.codegen.specs.Program.{branch_items, item_after, all_texts, text_bytes, text_address, named_text}
use Rattle.codegen.specs.Emission.{with_code}
use Rattle.codegen.specs.Placing.{addresses_from, addresses, texts_start, with_labels, with_place_if, with_op, with_ops, AreOpen}

-- ---- addresses of texts

pub addresses_more : (texts : List (List ℕ)) (i at next : ℕ) (text : List ℕ) (before after all : List ℕ) → i < length texts → text ≡ slice_index_or texts i [] → next ≡ at + length (text_bytes text) → after ≡ before ++ at ∷ []
    → before ++ addresses_from at (drop i texts) ≡ all → after ++ addresses_from next (drop (i + 1) texts) ≡ all
addresses_more texts i at next text before after all within is moved more so_far =
    let first : drop i texts ≡ text ∷ drop (i + 1) texts = drop_more texts i [] within ∙ ap (λ t. t ∷ drop (i + 1) texts) (sym is) in
    (λ j. more j ++ addresses_from (moved j) (drop (i + 1) texts)) ∙ append_assoc before (at ∷ []) (addresses_from (at + length (text_bytes text)) (drop (i + 1) texts)) ∙ sym (ap (λ rest. before ++ addresses_from at rest) first) ∙ so_far

pub addresses_end : (ir : Ir) (i at : ℕ) (before after : List ℕ) → length (all_texts ir) ≤ i → after ≡ before ++ at ∷ []
    → before ++ addresses_from at (drop i (all_texts ir)) ≡ addresses_from texts_start (all_texts ir) → after ≡ addresses ir
unfolding addresses
addresses_end ir i at before after past more so_far =
    let none : drop i (all_texts ir) ≡ [] = drop_all i (all_texts ir) past in
    more ∙ sym (ap (λ rest. before ++ addresses_from at rest) none) ∙ so_far

some_addresses : (at : ℕ) (texts : List (List ℕ)) → 0 < length (addresses_from at texts)
some_addresses at [] = omega arith
some_addresses at (text ∷ texts) = omega arith

pub addresses-some : (ir : Ir) → 0 < length (addresses ir)
unfolding addresses
addresses-some ir = some_addresses texts_start (all_texts ir)

-- the address of a number in such a table
abbrev address_in : List ℕ → ℕ → ℕ
address_in table number = slice_index table (min number (length table - 1))

address_after : (a : ℕ) (rest : List ℕ) (n : ℕ) → 0 < length rest → address_in (a ∷ rest) (suc n) ≡ address_in rest n
address_after a rest n some = ap (slice_index (a ∷ rest)) (let e : min (suc n) (length (a ∷ rest) - 1) ≡ suc (min n (length rest - 1)) = omega (arith, some) in e)

address_from : (at : ℕ) (texts : List (List ℕ)) (n : ℕ) → address_in (addresses_from at texts) n ≡ at + length (flat_map text_bytes (take n texts))
address_from at [] zero = omega arith
address_from at [] (suc n) = ap (slice_index (at ∷ [])) (let e : min (suc n) (length (at ∷ []) - 1) ≡ 0 = omega arith in e) ∙ (let e : at ≡ at + 0 = omega arith in e)
address_from at (text ∷ texts) zero =
    ap (slice_index (addresses_from at (text ∷ texts))) (let e : min zero (length (addresses_from at (text ∷ texts)) - 1) ≡ 0 = omega arith in e) ∙ (let e : at ≡ at + 0 = omega arith in e)
address_from at (text ∷ texts) (suc n) =
    address_after at (addresses_from (at + length (text_bytes text)) texts) n (some_addresses (at + length (text_bytes text)) texts)
    ∙ address_from (at + length (text_bytes text)) texts n
    ∙ (let e = length-append (text_bytes text) (flat_map text_bytes (take n texts)) in omega (arith, e))

pub address-is : (ir : Ir) (n : ℕ) → slice_index (addresses ir) (min n (length (addresses ir) - 1)) ≡ text_address ir n
unfolding addresses
address-is ir n = address_from texts_start (all_texts ir) n

-- ---- pieces one after another

pub two_pieces : (a b : Piece) (f g : FragState) → g ≡ with_code a f → with_code b g ≡ with_code (a ⨾ b) f
two_pieces a b f g first = ap (with_code b) first ∙ (λ i. record { items = append_assoc f.items (items a) (items b) i; places = f.places })

-- ---- labels

marks_in-more : (xs : List Bool) (mark : Bool) → marks_in (xs ++ mark ∷ []) ≡ marks_in xs + item_after mark 0
marks_in-more [] true = refl
marks_in-more [] false = refl
marks_in-more (true ∷ xs) mark = let e = marks_in-more xs mark in omega (arith, e)
marks_in-more (false ∷ xs) mark = marks_in-more xs mark

with_labels-more : (n m : ℕ) (f : FragState) → with_labels m (with_labels n f) ≡ with_labels (n + m) f
with_labels-more n m f = λ i. record { items = f.items; places = (append_assoc f.places (replicate n None) (replicate m None) ∙ ap (λ rest. f.places ++ rest) (replicate-append-replicate n m None)) i }

pub labels_step : (xs : List Bool) (i : ℕ) (f g h : FragState) → i < length xs → h ≡ with_labels (item_after (get_or xs i false) 0) g → g ≡ with_labels (1 + marks_in (take i xs)) f
    → h ≡ with_labels (1 + marks_in (take (i + 1) xs)) f
labels_step xs i f g h within added so_far =
    let count : 1 + marks_in (take i xs) + item_after (get_or xs i false) 0 ≡ 1 + marks_in (take (i + 1) xs) = omega (arith, ap marks_in (take_more xs i false within), marks_in-more (take i xs) (get_or xs i false)) in
    added ∙ ap (with_labels (item_after (get_or xs i false) 0)) so_far ∙ with_labels-more (1 + marks_in (take i xs)) (item_after (get_or xs i false) 0) f ∙ ap (λ n. with_labels n f) count

-- ---- branches to items

-- one branch more
branches-more : (n item : ℕ) → branch_items (suc n) item ≡ branch_items n item ++ branch_items 1 (item + n)
branches-more zero item = ap (λ k. branch_items 1 k) (let e : item ≡ item + 0 = omega arith in e)
branches-more (suc n) item =
    let next = Jump AL false (record { number = item_label item }) in
    ap (λ rest. next ∷ rest) (branches-more n (item + 1) ∙ ap (λ k. branch_items n (item + 1) ++ branch_items 1 k) (let e : item + 1 + n ≡ item + suc n = omega arith in e))

pub branches_step : (item : ℕ) (to : Label) (first : List Item) (f g : FragState) → to.number ≡ item_label item → g ≡ record { items = f.items ++ Jump AL false to ∷ []; places = f.places } → f.items ≡ first ++ branch_items item 0
    → g.items ≡ first ++ branch_items (item + 1) 0
branches_step item to first f g number made so_far =
    ap (λ (s : FragState). s.items) made ∙ (λ i. so_far i ++ Jump AL false (record { number = number i }) ∷ []) ∙ append_assoc first (branch_items item 0) (branch_items 1 item)
    ∙ ap (λ k. first ++ (branch_items item 0 ++ branch_items 1 k)) (let e : item ≡ 0 + item = omega arith in e) ∙ ap (λ rest. first ++ rest) (sym (branches-more item 0))
    ∙ ap (λ n. first ++ branch_items n 0) (let e : suc item ≡ item + 1 = omega arith in e)

-- ---- operations

pub ops_step : (texts : Op → ℕ) (branches : ℕ) (ops : List Op) (xs : List Bool) (pc item : ℕ) (op : Op) (f g all : FragState) → pc < length ops → pc < length xs → op ≡ get_or ops pc op → g ≡ with_op (texts op) branches op (get_or xs pc false) item f
    → with_ops texts branches (drop pc ops) (drop pc xs) item f ≡ all → with_ops texts branches (drop (pc + 1) ops) (drop (pc + 1) xs) (item_after (get_or xs pc false) item) g ≡ all
ops_step texts branches ops xs pc item op f g all within also is made so_far =
    let first : drop pc ops ≡ op ∷ drop (pc + 1) ops = drop_more ops pc op within ∙ ap (λ x. x ∷ drop (pc + 1) ops) (sym is) in
    ap (with_ops texts branches (drop (pc + 1) ops) (drop (pc + 1) xs) (item_after (get_or xs pc false) item)) made ∙ sym (λ j. with_ops texts branches (first j) (drop_more xs pc false also j) item f) ∙ so_far

marks_in-first : (mark : Bool) (xs : List Bool) (item : ℕ) → item_after mark item + marks_in xs ≡ item + marks_in (mark ∷ xs)
marks_in-first true xs item = omega arith
marks_in-first false xs item = refl

pub items_step : (xs : List Bool) (pc item all : ℕ) → pc < length xs → item + marks_in (drop pc xs) ≡ all → item_after (get_or xs pc false) item + marks_in (drop (pc + 1) xs) ≡ all
items_step xs pc item all within so_far = marks_in-first (get_or xs pc false) (drop (pc + 1) xs) item ∙ sym (ap (λ ys. item + marks_in ys) (drop_more xs pc false within)) ∙ so_far

pub get_set_other : {X : Type 0} (xs : List X) (i k : ℕ) (x : X) → k ≢ i → slice_get (slice_set xs i x) k ≡ slice_get xs k
get_set_other [] i k x apart = refl
get_set_other (y ∷ ys) zero zero x apart = absurd (apart refl)
get_set_other (y ∷ ys) zero (suc k) x apart = refl
get_set_other (y ∷ ys) (suc i) zero x apart = refl
get_set_other (y ∷ ys) (suc i) (suc k) x apart = get_set_other ys i k x (λ e. apart (ap suc e))

pub length_set : {X : Type 0} (xs : List X) (i : ℕ) (x : X) → length (slice_set xs i x) ≡ length xs
length_set [] i x = refl
length_set (y ∷ ys) zero x = refl
length_set (y ∷ ys) (suc i) x = ap suc (length_set ys i x)

-- the labels of the items after one that was placed are still open
open_after : (mark : Bool) (item : ℕ) (f : FragState) → AreOpen item f → AreOpen (item_after mark item) (with_place_if mark item f)
open_after true item f free k from within =
    get_set_other f.places (item_label item) (item_label k) (Some (length f.items)) (λ e. omega (arith, e, from))
    ∙ free k (omega (arith, from)) (let e = length_set f.places (item_label item) (Some (length f.items)) in omega (arith, e, within))
open_after false item f free k from within = free k from within

pub open_step : (text branches : ℕ) (op : Op) (mark : Bool) (item : ℕ) (f g : FragState) → g ≡ with_op text branches op mark item f → AreOpen item f → AreOpen (item_after mark item) g
open_step text branches op mark item f g made free = subst (AreOpen (item_after mark item)) (sym made) (open_after mark item f free)

pub labels_few : (mark : Bool) (i : ℕ) (g h : FragState) → h ≡ with_labels (item_after mark 0) g → length g.places ≤ item_label i → length h.places ≤ item_label (i + 1)
labels_few true i g h added few = omega (arith, ap (λ (f : FragState). length f.places) added, length-append g.places (None ∷ []), few)
labels_few false i g h added few = omega (arith, ap (λ (f : FragState). length f.places) added, length-append g.places [], few)

-- ---- one operation more

same_read : {X : Type 0} (xs : List X) (i : ℕ) (d e : X) → i < length xs → get_or xs i d ≡ get_or xs i e
same_read [] i d e within = absurd (omega (arith, within))
same_read (x ∷ xs) zero d e within = refl
same_read (x ∷ xs) (suc i) d e within = same_read xs i d e (omega (arith, within))

pub op_at : (ops ys : List Op) (pc : ℕ) (d : Op) → ys ≡ ops → pc < length ys → slice_get ops pc ≡ Some (get_or ys pc d)
op_at ops ys pc d same within = sym (ap (λ xs. slice_get xs pc) same) ∙ slice_get-get_or ys pc d within

module _ (ir : Ir) (ys : List Op) (ms : List Bool) (pc item next address branches : ℕ) (d : Op) (f g : FragState) (same_ops : ys ≡ ir.ops) (same_marks : ms ≡ ir.marks) (within : pc < length ys) (laid_out : length ir.marks ≡ length ir.ops)
    (made : g ≡ with_op address branches (get_or ys pc d) (get_or ms pc false) item f) (moved : next ≡ item_after (get_or ms pc false) item) where
  in_ops : pc < length ir.ops
  in_ops = let e = ap length same_ops in omega (arith, e, within)

  in_marks : pc < length ir.marks
  in_marks = omega (arith, in_ops, laid_out)

  mark_is : get_or ms pc false ≡ get_or ir.marks pc false
  mark_is = ap (λ xs. get_or xs pc false) same_marks

  pub code_more : (all : FragState) → address ≡ named_text ir (get_or ys pc d) → with_ops (named_text ir) branches (drop pc ir.ops) (drop pc ir.marks) item f ≡ all
      → with_ops (named_text ir) branches (drop (pc + 1) ir.ops) (drop (pc + 1) ir.marks) next g ≡ all
  code_more all address_is so_far =
      let op = get_or ys pc d in
      let made_there : g ≡ with_op (named_text ir op) branches op (get_or ir.marks pc false) item f = made ∙ (λ j. with_op (address_is j) branches op (mark_is j) item f) in
      ap (λ n. with_ops (named_text ir) branches (drop (pc + 1) ir.ops) (drop (pc + 1) ir.marks) n g) (moved ∙ ap (λ m. item_after m item) mark_is)
      ∙ ops_step (named_text ir) branches ir.ops ir.marks pc item op f g all in_ops in_marks (op_is) made_there so_far
    where
      op_is : get_or ys pc d ≡ get_or ir.ops pc (get_or ys pc d)
      op_is = same_read ys pc d (get_or ys pc d) within ∙ ap (λ xs. get_or xs pc (get_or ys pc d)) same_ops

  pub unplaced_more : AreOpen item f → AreOpen next g
  unplaced_more free = subst (λ n. AreOpen n g) (sym moved) (open_step address branches (get_or ys pc d) (get_or ms pc false) item f g made free)

  pub items_more : (all : ℕ) → item + marks_in (drop pc ir.marks) ≡ all → next + marks_in (drop (pc + 1) ir.marks) ≡ all
  items_more all so_far = ap (λ n. n + marks_in (drop (pc + 1) ir.marks)) (moved ∙ ap (λ m. item_after m item) mark_is) ∙ items_step ir.marks pc item all in_marks so_far
