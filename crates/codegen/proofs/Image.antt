-- The code of a program in the memory of a board that was loaded with it.
use Rattle.std.proofs.Common.{◌≡◌, ℕ, zero, suc, ◌+◌, ◌*◌, ◌<◌, true, List, [], ◌∷◌, ◌++◌, length, map, take, Option, Some, refl, ap, subst, ◌∙◌, arith}
use Rattle.std.specs.Prelude.{slice_get}
use Rattle.std.proofs.lemmas.List.{length-append, length-map}
use Rattle.bas_ir.specs.declared.ir.Ir.{Ir}
use Rattle.bas_ir.specs.declared.op.Op.{Op}
use Rattle.bas_ir.specs.Places.{is_marked, item_from, marks_in}
use Rattle.arm_isa.specs.Words.{means}
use Rattle.code_frag.specs.declared.item.Item.{Item}
use Rattle.code_frag.specs.declared.item.Item.TheVariants.{Ins}
use Rattle.code_frag.specs.Language.{Leave, items, size}
use Rattle.code_frag.specs.Runs.{Stands}
use Rattle.code_frag.specs.Words.{place_of, place_in, shifted_item, shifted_place}
use Rattle.code_frag.proofs.Branches.{stands_front, stands_after}
use Rattle.code_frag.proofs.JoinLaws.{shifted_there}
use Rattle.code_frag.proofs.WordLaws.{label_address}
use Rattle.runtime_lib.specs.Library.{library}
use Rattle.runtime_lib.specs.Routines.{routines_count}
use Rattle.runtime_lib.proofs.LibraryLaws.{library-labels, library-placed, placed_there}
use Rattle.codegen.specs.Operations.{main_label, raise_label, item_label}
use Rattle.codegen.specs.Program.{program, header, data_items, packed, data_bytes, raiser, prologue, last_piece, branch_items, all_op_items, ops_size, item_places, library_place, branches_place, branches_start, raise_place, main_place, op_place, named_text, first_item}
use Rattle.codegen.proofs.PlacedOps.{length-op_items, place_of_mark, length-item_places}

-- the parts of a program's items, one after another, where they stand in a memory
pub record PartsStand (ir : Ir) (code entry : ℕ → ℕ) (base : ℕ) : Type 0 where
  pub begin : Stands header code entry base
  pub texts : Stands (data_items (packed (data_bytes ir))) code entry (base + 4 * 3)
  pub routines : Stands (map (shifted_item 1) library.items) code entry (base + 4 * library_place ir)
  pub branches : Stands (branch_items (marks_in ir.marks + 1) 0) code entry (base + 4 * branches_place ir)
  pub raising : Stands (items raiser) code entry (base + 4 * raise_place ir)
  pub main : Stands (items (prologue (first_item ir))) code entry (base + 4 * main_place ir)
  pub ops : Stands (all_op_items ir ++ items last_piece) code entry (base + 4 * (main_place ir + size (prologue (first_item ir))))

-- the second of two lists, after some others
next_part : (n : ℕ) (xs ys : List Item) (code entry : ℕ → ℕ) (base : ℕ) → Stands (xs ++ ys) code entry (base + 4 * n) → Stands ys code entry (base + 4 * (n + length xs))
next_part n xs ys code entry base h = subst (Stands ys code entry) (let e : base + 4 * n + 4 * length xs ≡ base + 4 * (n + length xs) = omega arith in e) (stands_after xs ys code entry (base + 4 * n) h)

-- the items of texts, of the library and of branches are as many as they are
length-data : (words : List ℕ) → length (data_items words) ≡ length words
length-data words = length-map words (λ w. Ins (means w))

length-routines : length (map (shifted_item 1) library.items) ≡ length library.items
length-routines = length-map library.items (shifted_item 1)

pub length-branches : (n item : ℕ) → length (branch_items n item) ≡ n
length-branches zero item = refl
length-branches (suc n) item = ap suc (length-branches n (item + 1))

moved : (is : List Item) (code entry : ℕ → ℕ) (base x y : ℕ) → x ≡ y → Stands is code entry (base + 4 * x) → Stands is code entry (base + 4 * y)
moved is code entry base x y e = subst (λ n. Stands is code entry (base + 4 * n)) e

pub parts_stand : (ir : Ir) (code entry : ℕ → ℕ) (base : ℕ) → Stands (program ir).items code entry base → PartsStand ir code entry base
unfolding program
parts_stand ir code entry base h =
    let texts = data_items (packed (data_bytes ir)) in
    let routines = map (shifted_item 1) library.items in
    let branches = branch_items (marks_in ir.marks + 1) 0 in
    let last = all_op_items ir ++ items last_piece in
    let h1 = next_part 0 header (texts ++ (routines ++ (branches ++ (items raiser ++ (items (prologue (first_item ir)) ++ last))))) code entry base (subst (Stands (header ++ (texts ++ (routines ++ (branches ++ (items raiser ++ (items (prologue (first_item ir)) ++ last)))))) code entry) (let e : base ≡ base + 4 * 0 = omega arith in e) h) in
    let h2 = next_part (length header) texts (routines ++ (branches ++ (items raiser ++ (items (prologue (first_item ir)) ++ last)))) code entry base h1 in
    let h3 = next_part (length header + length texts) routines (branches ++ (items raiser ++ (items (prologue (first_item ir)) ++ last))) code entry base h2 in
    let h4 = next_part (length header + length texts + length routines) branches (items raiser ++ (items (prologue (first_item ir)) ++ last)) code entry base h3 in
    let h5 = next_part (length header + length texts + length routines + length branches) (items raiser) (items (prologue (first_item ir)) ++ last) code entry base h4 in
    let h6 = next_part (length header + length texts + length routines + length branches + length (items raiser)) (items (prologue (first_item ir))) last code entry base h5 in
    let b = length-data (packed (data_bytes ir)) in
    let c = length-routines in
    let d = length-branches (marks_in ir.marks + 1) 0 in
    record {
      begin = stands_front header (texts ++ (routines ++ (branches ++ (items raiser ++ (items (prologue (first_item ir)) ++ last))))) code entry base h;
      texts = stands_front texts (routines ++ (branches ++ (items raiser ++ (items (prologue (first_item ir)) ++ last)))) code entry (base + 4 * 3) h1;
      routines = moved _ code entry base _ _ (omega (arith, b)) (stands_front routines (branches ++ (items raiser ++ (items (prologue (first_item ir)) ++ last))) code entry (base + 4 * (length header + length texts)) h2);
      branches = moved _ code entry base _ _ (omega (arith, b, c)) (stands_front branches (items raiser ++ (items (prologue (first_item ir)) ++ last)) code entry (base + 4 * (length header + length texts + length routines)) h3);
      raising = moved _ code entry base _ _ (omega (arith, b, c, d)) (stands_front (items raiser) (items (prologue (first_item ir)) ++ last) code entry (base + 4 * (length header + length texts + length routines + length branches)) h4);
      main = moved _ code entry base _ _ (omega (arith, b, c, d)) (stands_front (items (prologue (first_item ir))) last code entry (base + 4 * (length header + length texts + length routines + length branches + length (items raiser))) h5);
      ops = moved _ code entry base _ _ (omega (arith, b, c, d)) h6;
    }

-- the branch to an item stands among those to all
pub branch_stands : (n first k : ℕ) (code entry : ℕ → ℕ) (a : ℕ) → k < n → Stands (branch_items n first) code entry a → Stands (items (Leave (item_label (first + k)))) code entry (a + 4 * k)
branch_stands zero first k code entry a few h = absurd (omega (arith, few))
branch_stands (suc n) first zero code entry a few h =
    subst (λ item. Stands (items (Leave (item_label item))) code entry (a + 4 * 0)) (let e : first ≡ first + 0 = omega arith in e)
    (subst (Stands (items (Leave (item_label first))) code entry) (let e : a ≡ a + 4 * 0 = omega arith in e) (stands_front (items (Leave (item_label first))) (branch_items n (first + 1)) code entry a h))
branch_stands (suc n) first (suc k) code entry a few h =
    let rest = branch_stands n (first + 1) k code entry (a + 4 * 1) (omega (arith, few)) (stands_after (items (Leave (item_label first))) (branch_items n (first + 1)) code entry a h) in
    subst (λ item. Stands (items (Leave (item_label item))) code entry (a + 4 * suc k)) (let e : first + 1 + k ≡ first + suc k = omega arith in e)
    (subst (Stands (items (Leave (item_label (first + 1 + k)))) code entry) (let e : a + 4 * 1 + 4 * k ≡ a + 4 * suc k = omega arith in e) rest)

-- how many items there are
seven_lengths : (a b c d e f g : List Item) → length (a ++ (b ++ (c ++ (d ++ (e ++ (f ++ g)))))) ≡ length a + length b + length c + length d + length e + length f + length g
seven_lengths a b c d e f g =
    let h1 = length-append a (b ++ (c ++ (d ++ (e ++ (f ++ g))))) in
    let h2 = length-append b (c ++ (d ++ (e ++ (f ++ g)))) in
    let h3 = length-append c (d ++ (e ++ (f ++ g))) in
    let h4 = length-append d (e ++ (f ++ g)) in
    let h5 = length-append e (f ++ g) in
    let h6 = length-append f g in
    omega (arith, h1, h2, h3, h4, h5, h6)

pub take_whole : (ops : List Op) → take (length ops) ops ≡ ops
take_whole [] = refl
take_whole (x ∷ ops) = ap (λ l. x ∷ l) (take_whole ops)

-- all operations have their words
pub whole-size : (ops : List Op) → ops_size (take (length ops) ops) ≡ ops_size ops
whole-size ops = ap ops_size (take_whole ops)

pub length-program : (ir : Ir) → length ir.marks ≡ length ir.ops → length (program ir).items ≡ op_place ir (length ir.ops) + size last_piece
unfolding program
length-program ir long =
    let texts = data_items (packed (data_bytes ir)) in
    let routines = map (shifted_item 1) library.items in
    let branches = branch_items (marks_in ir.marks + 1) 0 in
    let all = seven_lengths header texts routines branches (items raiser) (items (prologue (first_item ir))) (all_op_items ir ++ items last_piece) in
    let ops = length-append (all_op_items ir) (items last_piece) in
    let own = length-op_items (named_text ir) (branches_start ir) ir.ops ir.marks 0 long in
    let b = length-data (packed (data_bytes ir)) in
    let c = length-routines in
    let d = length-branches (marks_in ir.marks + 1) 0 in
    let whole = whole-size ir.ops in
    omega (arith, all, ops, own, b, c, d, whole)

-- ---- the places of labels

get_front : {X : Type 0} (xs ys : List X) (i : ℕ) → i < length xs → slice_get (xs ++ ys) i ≡ slice_get xs i
get_front [] ys i low = absurd (omega (arith, low))
get_front (x ∷ xs) ys zero low = refl
get_front (x ∷ xs) ys (suc i) low = get_front xs ys i (omega (arith, low))

get_after : {X : Type 0} (xs ys : List X) (i k : ℕ) → i ≡ length xs + k → slice_get (xs ++ ys) i ≡ slice_get ys k
get_after [] ys i k e = ap (slice_get ys) (omega (arith, e))
get_after (x ∷ xs) ys zero k e = absurd (omega (arith, e))
get_after (x ∷ xs) ys (suc i) k e = get_after xs ys i k (omega (arith, e))

-- the list of places, in two parts
module _ (ir : Ir) where
  abbrev routine_places : List (Option ℕ)
  routine_places = map (shifted_place (library_place ir)) library.places

  abbrev item_part : List (Option ℕ)
  item_part = item_places ir.ops ir.marks (op_place ir 0)

  abbrev rest_places : List (Option ℕ)
  rest_places = Some (raise_place ir) ∷ (item_part ++ Some (op_place ir (length ir.ops)) ∷ [])

  places_are : (program ir).places ≡ Some (main_place ir) ∷ (routine_places ++ rest_places)
  unfolding program
  places_are = refl

  length-routine_places : length routine_places ≡ routines_count
  length-routine_places = length-map library.places (shifted_place (library_place ir)) ∙ library-labels

  pub main-address : (base : ℕ) → label_address (program ir).places base main_label ≡ base + 4 * main_place ir
  main-address base = ap (λ ps. label_address ps base main_label) places_are

  pub raise-address : (base : ℕ) → label_address (program ir).places base raise_label ≡ base + 4 * raise_place ir
  raise-address base =
      ap (λ ps. label_address ps base raise_label) places_are
      ∙ ap (λ p. base + 4 * place_in p) (get_after routine_places rest_places routines_count 0 (omega (arith, length-routine_places)))

  pub routine-address : (base label : ℕ) → label < routines_count → label_address (program ir).places base (label + 1) ≡ base + 4 * library_place ir + 4 * place_of library.places label
  routine-address base label low =
      let there = shifted_there library.places (library_place ir) label (place_of library.places label) (placed_there library.places label library-placed (omega (arith, low, library-labels))) in
      let place = ap (λ ps. place_of ps (label + 1)) places_are ∙ ap (place_of (Some (main_place ir) ∷ (routine_places ++ rest_places))) (let e : label + 1 ≡ suc label = omega arith in e)
      ∙ ap place_in (get_front routine_places rest_places label (omega (arith, low, length-routine_places))) ∙ there in
      omega (arith, place)

  -- a place after those of the library
  after_routines : (k : ℕ) → slice_get (program ir).places (k + raise_label) ≡ slice_get rest_places k
  after_routines k =
      ap (λ ps. slice_get ps (k + raise_label)) places_are
      ∙ get_after (Some (main_place ir) ∷ routine_places) rest_places (k + raise_label) k (let n = length-routine_places in omega (arith, n))

  pub item-address : (base item : ℕ) → length ir.marks ≡ length ir.ops → (pc : ℕ) → is_marked ir pc ≡ true → item_from ir pc ≡ item → item < marks_in ir.marks → label_address (program ir).places base (item_label item) ≡ base + 4 * op_place ir pc
  unfolding is_marked item_from
  item-address base item long pc marked counted low =
      let many = length-item_places ir.ops ir.marks (op_place ir 0) long in
      let there = ap (slice_get (program ir).places) (let e : item_label item ≡ suc item + raise_label = omega arith in e) ∙ after_routines (suc item)
      ∙ get_front item_part (Some (op_place ir (length ir.ops)) ∷ []) item (omega (arith, low, many))
      ∙ place_of_mark ir.ops ir.marks (op_place ir 0) pc item long marked counted in
      ap (λ p. base + 4 * place_in p) there ∙ omega arith

  pub end-address : (base : ℕ) → length ir.marks ≡ length ir.ops → label_address (program ir).places base (item_label (marks_in ir.marks)) ≡ base + 4 * op_place ir (length ir.ops)
  end-address base long =
      let many = length-item_places ir.ops ir.marks (op_place ir 0) long in
      let there = ap (slice_get (program ir).places) (let e : item_label (marks_in ir.marks) ≡ suc (marks_in ir.marks) + raise_label = omega arith in e) ∙ after_routines (suc (marks_in ir.marks))
      ∙ get_after item_part (Some (op_place ir (length ir.ops)) ∷ []) (marks_in ir.marks) 0 (omega (arith, many)) in
      ap (λ p. base + 4 * place_in p) there
