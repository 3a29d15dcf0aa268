-- What is put together step by step is the whole code of a program.
use Rattle.std.proofs.Common.{◌≡◌, ℕ, zero, suc, ◌+◌, ◌*◌, ◌<◌, ◌≤◌, Bool, true, false, List, [], ◌∷◌, ◌++◌, length, map, get_or, take, replicate, slice_get, slice_set, Option, Some, None, refl, sym, ap, ◌∙◌, arith, append_assoc, append-nil, length-append}
use Rattle.std.proofs.Math.Seq.{set-append_seam}
use Rattle.std.specs.List.{list_all}
use Rattle.std.proofs.lemmas.Bool.{false≢true, and_from}
use Rattle.std.proofs.lemmas.List.Folds.{list_all-append}
use Rattle.std.proofs.lemmas.List.{length-map, length-replicate}
use Rattle.bas_ir.specs.declared.ir.Ir.{Ir}
use Rattle.bas_ir.specs.declared.op.Op.{Op}
use Rattle.bas_ir.specs.declared.op.Op.TheVariants as o
use Rattle.bas_ir.specs.Places.{marks_in, is_marked, item_from, start_of}
use Rattle.bas_ir.specs.WellFormed.{IsLaidOut}
use Rattle.bv_base.specs.MemoryMap.{image_start}
use Rattle.arm_isa.specs.Words.{means}
use Rattle.code_frag.specs.declared.item.Item.{Item}
use Rattle.code_frag.specs.declared.item.Item.TheVariants.{Ins}
use Rattle.code_frag.specs.Language.{Piece, ◌⨾◌, items, size}
use Rattle.code_frag.specs.Words.{FragState, IsOpen, AllPlaced, is_placed, shifted_item, shifted_place, joined}
use Rattle.code_frag.proofs.Branches.{length-items}
use Rattle.code_frag.proofs.JoinLaws.{placed-shifted}
use Rattle.runtime_lib.specs.Library.{library}
use Rattle.runtime_lib.specs.Routines.{routines_count}
use Rattle.codegen.specs.Operations.{Named, main_label, raise_label, item_label, op_code}
use Rattle.codegen.specs.Program.{data_bytes, packed, data_items, header, prologue, raiser, last_piece, branch_items, named, op_items, op_size, all_op_items, named_text, first_item, library_place, branches_place, branches_start, raise_place, main_place, op_place, item_places, program}
use Rattle.codegen.specs.Emission.{LeadsInto, with_code}
use Rattle.codegen.specs.Placing.{with_labels, with_place, with_op, with_ops, front, with_library, with_branches, with_beginning, with_program, AreOpen}
use Rattle.codegen.proofs.EmitLaws.{get_set_other, length_set}
use Rattle.codegen.proofs.Image.{length-branches, whole-size}
use Rattle.codegen.proofs.OpFacts.{size-named}
use Rattle.codegen.proofs.PlacedOps.{length-op_items, length-item_places}

-- ---- each item has a mark

marked_more : (xs : List Bool) (p : ℕ) → get_or xs p false ≡ true → marks_in (take p xs) + 1 ≤ marks_in xs
marked_more [] p is = absurd (false≢true is)
marked_more (true ∷ xs) zero is = omega arith
marked_more (false ∷ xs) zero is = absurd (false≢true is)
marked_more (true ∷ xs) (suc p) is = let e = marked_more xs p is in omega (arith, e)
marked_more (false ∷ xs) (suc p) is = marked_more xs p is

starts_marked : (ir : Ir) (n : ℕ) → IsLaidOut ir → length ir.starts ≡ n → n ≤ marks_in ir.marks
unfolding is_marked item_from
starts_marked ir zero laid is = omega arith
starts_marked ir (suc n) laid is =
    let start = laid.starts n (omega (arith, is)) in
    let more = marked_more ir.marks (start_of ir n) start.0 in
    omega (arith, start.1, more)

-- an operation goes on at an item or at the end
pub leads : (ir : Ir) → IsLaidOut ir → (n : ℕ) → n ≡ item_label (marks_in ir.marks) + 1 → (pc : ℕ) (op : Op) → slice_get ir.ops pc ≡ Some op → LeadsInto n op
leads ir laid n labels pc (o.Go item) there = let few = starts_marked ir (length ir.starts) laid refl in omega (arith, labels, few, laid.reached pc (o.Go item) there)
leads ir laid n labels pc (o.GoIfZero item) there = let few = starts_marked ir (length ir.starts) laid refl in omega (arith, labels, few, laid.reached pc (o.GoIfZero item) there)
leads ir laid n labels pc (o.GoUnless relation item) there = let few = starts_marked ir (length ir.starts) laid refl in omega (arith, labels, few, laid.reached pc (o.GoUnless relation item) there)
leads ir laid n labels pc (o.GoUnlessWith relation item number) there = let few = starts_marked ir (length ir.starts) laid refl in omega (arith, labels, few, laid.reached pc (o.GoUnlessWith relation item number) there)
leads ir laid n labels pc (o.GoIfOne item) there = let few = starts_marked ir (length ir.starts) laid refl in omega (arith, labels, few, laid.reached pc (o.GoIfOne item) there)
leads ir laid n labels pc (o.GosubIfOne line item) there = let few = starts_marked ir (length ir.starts) laid refl in omega (arith, labels, few, laid.reached pc (o.GosubIfOne line item) there)
leads ir laid n labels pc (o.Gosub line item) there = let few = starts_marked ir (length ir.starts) laid refl in omega (arith, labels, few, laid.reached pc (o.Gosub line item) there)
leads ir laid n labels pc (o.GoIfEqual item) there = let few = starts_marked ir (length ir.starts) laid refl in omega (arith, labels, few, laid.reached pc (o.GoIfEqual item) there)
leads ir laid n labels pc (o.Push value) there = tt
leads ir laid n labels pc o.PushColumn there = tt
leads ir laid n labels pc (o.PushResident index) there = tt
leads ir laid n labels pc (o.PushInteger name line) there = tt
leads ir laid n labels pc (o.PushText text) there = tt
leads ir laid n labels pc (o.Unary op line) there = tt
leads ir laid n labels pc (o.Binary op line) there = tt
leads ir laid n labels pc (o.BinaryWith op line number) there = tt
leads ir laid n labels pc (o.BinaryWithResident op resident line) there = tt
leads ir laid n labels pc (o.ChangeResident op resident line number) there = tt
leads ir laid n labels pc (o.StoreResident index) there = tt
leads ir laid n labels pc (o.StoreInteger name) there = tt
leads ir laid n labels pc (o.WriteNumber padded format) there = tt
leads ir laid n labels pc o.WriteText there = tt
leads ir laid n labels pc (o.Write part) there = tt
leads ir laid n labels pc (o.WriteMark mark) there = tt
leads ir laid n labels pc o.Discard there = tt
leads ir laid n labels pc (o.RaiseIfOne error line) there = tt
leads ir laid n labels pc (o.OpenFor counter line) there = tt
leads ir laid n labels pc (o.OpenRepeat line) there = tt
leads ir laid n labels pc (o.OpenWhile line) there = tt
leads ir laid n labels pc (o.Next counter line) there = tt
leads ir laid n labels pc (o.NextAny line) there = tt
leads ir laid n labels pc (o.Until line) there = tt
leads ir laid n labels pc (o.EndWhile line) there = tt
leads ir laid n labels pc (o.Return line) there = tt
leads ir laid n labels pc (o.ReadNumber line) there = tt
leads ir laid n labels pc (o.Restore item) there = tt
leads ir laid n labels pc (o.Raise error line) there = tt
leads ir laid n labels pc o.End there = tt
leads ir laid n labels pc (o.Enter kind routine line) there = tt
leads ir laid n labels pc (o.LeaveProcedure line) there = tt
leads ir laid n labels pc (o.NeedFunction line) there = tt
leads ir laid n labels pc o.LeaveNumber there = tt
leads ir laid n labels pc o.LeaveText there = tt
leads ir laid n labels pc (o.HandleAll item) there = tt
leads ir laid n labels pc (o.HandleHere item) there = tt
leads ir laid n labels pc o.HandleNone there = tt

-- ---- operations one after another

-- a fragment by its parts
abbrev pub the_state : List Item → List (Option ℕ) → FragState
the_state is places = record { items = is; places = places }

length_code : (n : Named) (op : Op) (is : List Item) → length (is ++ items (op_code n op)) ≡ length is + op_size op
length_code n op is = length-append is (items (op_code n op)) ∙ ap (λ k. length is + k) (length-items (op_code n op) ∙ size-named n op)

-- labels without places
abbrev nones : ℕ → List (Option ℕ)
nones n = replicate n None

with_ops-is : (texts : Op → ℕ) (branches : ℕ) (ops : List Op) (xs : List Bool) (item : ℕ) (placed : List (Option ℕ)) (f : FragState) → length placed ≡ item_label item → f.places ≡ placed ++ nones (marks_in xs + 1) → length xs ≡ length ops
    → with_ops texts branches ops xs item f ≡ record { items = f.items ++ op_items texts branches ops xs item; places = placed ++ (item_places ops xs (length f.items) ++ None ∷ []) }
with_ops-is texts branches [] [] item placed f count places laid = λ i. record { items = sym (append-nil f.items) i; places = places i }
with_ops-is texts branches [] (mark ∷ xs) item placed f count places laid = absurd (omega (arith, laid))
with_ops-is texts branches (op ∷ ops) [] item placed f count places laid = absurd (omega (arith, laid))
with_ops-is texts branches (op ∷ ops) (true ∷ xs) item placed f count places laid =
    let here : Option ℕ = Some (length f.items) in
    let code = op_code (named (texts op) branches (item + 1)) op in
    let first : nones (marks_in (true ∷ xs) + 1) ≡ None ∷ nones (marks_in xs + 1) = ap nones (let e : marks_in (true ∷ xs) + 1 ≡ suc (marks_in xs + 1) = omega arith in e) in
    let label : length (placed ++ here ∷ []) ≡ item_label (item + 1) = omega (arith, length-append placed (here ∷ []), count) in
    let set_there : slice_set f.places (item_label item) here ≡ (placed ++ here ∷ []) ++ nones (marks_in xs + 1) =
    (λ i. slice_set ((places ∙ ap (λ rest. placed ++ rest) first) i) (sym count i) here) ∙ set-append_seam placed None (nones (marks_in xs + 1)) here ∙ sym (append_assoc placed (here ∷ []) (nones (marks_in xs + 1))) in
    with_ops-is texts branches ops xs (item + 1) (placed ++ here ∷ []) (with_op (texts op) branches op true item f) label set_there (omega (arith, laid))
    ∙ (λ i. record {
      items = append_assoc f.items (items code) (op_items texts branches ops xs (item + 1)) i;
      places = (append_assoc placed (here ∷ []) (item_places ops xs (length (f.items ++ items code)) ++ None ∷ [])
          ∙ ap (λ n. placed ++ (here ∷ (item_places ops xs n ++ None ∷ []))) (length_code (named (texts op) branches (item + 1)) op f.items)) i;
    })
with_ops-is texts branches (op ∷ ops) (false ∷ xs) item placed f count places laid =
    with_ops-is texts branches ops xs item placed (with_op (texts op) branches op false item f) count places (omega (arith, laid))
    ∙ (λ i. record {
      items = append_assoc f.items (items (op_code (named (texts op) branches item) op)) (op_items texts branches ops xs item) i;
      places = placed ++ (item_places ops xs (length_code (named (texts op) branches item) op f.items i) ++ None ∷ []);
    })

-- ---- pieces one after another

pub five_pieces : (a b c d e : Piece) (f g h k l : FragState) → g ≡ with_code a f → h ≡ with_code b g → k ≡ with_code c h → l ≡ with_code d k → with_code e l ≡ with_code (a ⨾ b ⨾ c ⨾ d ⨾ e) f
five_pieces a b c d e f g h k l first second third fourth =
    ap (with_code e) (fourth ∙ ap (with_code d) (third ∙ ap (with_code c) (second ∙ ap (with_code b) first)))
    ∙ (λ i. record {
      items = (append_assoc (((f.items ++ items a) ++ items b) ++ items c) (items d) (items e) ∙ append_assoc ((f.items ++ items a) ++ items b) (items c) (items d ++ items e)
          ∙ append_assoc (f.items ++ items a) (items b) (items c ++ (items d ++ items e)) ∙ append_assoc f.items (items a) (items b ++ (items c ++ (items d ++ items e)))) i;
      places = f.places;
    })

-- ---- the front, and the library after it

pub front-is : (ir : Ir) (bytes : List ℕ) (f g h : FragState) → f ≡ record { items = []; places = [] } → g ≡ record { items = f.items; places = f.places ++ None ∷ [] } → h ≡ record { items = g.items ++ header; places = g.places } → bytes ≡ data_bytes ir
    → (the_state (h.items ++ data_items (packed bytes)) h.places) ≡ front ir
unfolding front
front-is ir bytes f g h first second third same =
    let there : h ≡ record { items = header; places = None ∷ [] } = third ∙ ap (λ (s : FragState). the_state (s.items ++ header) s.places) (second ∙ ap (λ (s : FragState). the_state s.items (s.places ++ None ∷ [])) first) in
    λ i. the_state ((there i).items ++ data_items (packed (same i))) (there i).places

pub with_library-is : (ir : Ir) (marks : List Bool) (f g lib : FragState) → marks ≡ ir.marks → f ≡ front ir → lib ≡ library → g ≡ joined f lib → with_labels (marks_in marks + 2) g ≡ with_library ir
unfolding with_library
with_library-is ir marks f g lib same first second third = λ i. with_labels (marks_in (same i) + 2) ((third ∙ (λ j. joined (first j) (second j))) i)

count_library : length library.places ≡ routines_count
unfolding library
count_library = refl

-- the places of the library's labels
abbrev moved : ℕ → List (Option ℕ)
moved n = map (shifted_place n) library.places

count_moved : (n : ℕ) → length (moved n) ≡ routines_count
count_moved n = length-map library.places (shifted_place n) ∙ count_library

-- the places of all labels before any item has its own
library_labels : (ir : Ir) → (with_library ir).places ≡ (None ∷ moved (length (front ir).items)) ++ nones (marks_in ir.marks + 2)
unfolding with_library front
library_labels ir = refl

count_nones : (n : ℕ) → length (nones n) ≡ n
count_nones n = length-replicate n None

get_after : (ps qs : List (Option ℕ)) (k : ℕ) → slice_get (ps ++ qs) (length ps + k) ≡ slice_get qs k
get_after [] qs k = ap (slice_get qs) (let e : 0 + k ≡ k = omega arith in e)
get_after (p ∷ ps) qs k = ap (slice_get ((p ∷ ps) ++ qs)) (let e : length (p ∷ ps) + k ≡ suc (length ps + k) = omega arith in e) ∙ get_after ps qs k

get_none : (n k : ℕ) → k < n → slice_get (nones n) k ≡ Some None
get_none zero k few = absurd (omega (arith, few))
get_none (suc n) zero few = refl
get_none (suc n) (suc k) few = get_none n k (omega (arith, few))

pub count_labels : (ir : Ir) → length (with_library ir).places ≡ item_label (marks_in ir.marks) + 1
count_labels ir =
    let first = count_moved (length (front ir).items) in
    ap length (library_labels ir) ∙ length-append (None ∷ moved (length (front ir).items)) (nones (marks_in ir.marks + 2)) ∙ (let e = count_nones (marks_in ir.marks + 2) in omega (arith, first, e))

open_from : (ir : Ir) (k : ℕ) → k < marks_in ir.marks + 2 → IsOpen (with_library ir) (raise_label + k)
open_from ir k few =
    let first = count_moved (length (front ir).items) in
    ap (λ ps. slice_get ps (raise_label + k)) (library_labels ir)
    ∙ ap (slice_get ((None ∷ moved (length (front ir).items)) ++ nones (marks_in ir.marks + 2))) (let e : raise_label + k ≡ length (None ∷ moved (length (front ir).items)) + k = omega (arith, first) in e)
    ∙ get_after (None ∷ moved (length (front ir).items)) (nones (marks_in ir.marks + 2)) k ∙ get_none (marks_in ir.marks + 2) k few

pub raise_open : (ir : Ir) → IsOpen (with_library ir) raise_label
raise_open ir = open_from ir 0 (omega arith)

pub main_open : (ir : Ir) → IsOpen (with_library ir) main_label
main_open ir = ap (λ ps. slice_get ps main_label) (library_labels ir)

-- ---- the beginning

pub with_beginning-is : (first : ℕ) (f g h k : FragState) → g ≡ with_place raise_label f → h ≡ with_code raiser g → k ≡ with_place main_label h → with_code (prologue first) k ≡ with_beginning first f
unfolding with_beginning
with_beginning-is first f g h k raising raiser_is main = ap (with_code (prologue first)) (main ∙ ap (with_place main_label) (raiser_is ∙ ap (with_code raiser) raising))

begun_labels : (first : ℕ) (f : FragState) → (with_beginning first f).places ≡ slice_set (slice_set f.places raise_label (Some (length f.items))) main_label (Some (length (f.items ++ items raiser)))
unfolding with_beginning
begun_labels first f = refl

pub begun_count : (first : ℕ) (f : FragState) → length (with_beginning first f).places ≡ length f.places
begun_count first f = ap length (begun_labels first f) ∙ length_set (slice_set f.places raise_label (Some (length f.items))) main_label (Some (length (f.items ++ items raiser))) ∙ length_set f.places raise_label (Some (length f.items))

-- the labels of items are open where a fragment has the labels of the library's
pub items_open : (ir : Ir) (first : ℕ) (f : FragState) → f.places ≡ (with_library ir).places → AreOpen 0 (with_beginning first f)
items_open ir first f same k from within =
    let count = begun_count first f ∙ ap length same ∙ count_labels ir in
    let before : IsOpen f (raise_label + (k + 1)) = ap (λ ps. slice_get ps (raise_label + (k + 1))) same ∙ open_from ir (k + 1) (omega (arith, within, count)) in
    ap (λ ps. slice_get ps (item_label k)) (begun_labels first f)
    ∙ get_set_other (slice_set f.places raise_label (Some (length f.items))) main_label (item_label k) (Some (length (f.items ++ items raiser))) (λ e. omega (arith, e))
    ∙ get_set_other f.places raise_label (item_label k) (Some (length f.items)) (λ e. omega (arith, e))
    ∙ ap (slice_get f.places) (let e : item_label k ≡ raise_label + (k + 1) = omega arith in e) ∙ before

-- ---- the whole

module _ (A B : List Item) (Q : List (Option ℕ)) (m first : ℕ) (count : length Q ≡ routines_count) where
  -- where the raising of errors and the program begin
  abbrev raise_at : Option ℕ
  raise_at = Some (length (A ++ B))

  abbrev main_at : Option ℕ
  main_at = Some (length ((A ++ B) ++ items raiser))

  abbrev before : FragState
  before = the_state (A ++ B) ((None ∷ Q) ++ nones (m + 2))

  begun_places : (with_beginning first before).places ≡ (main_at ∷ (Q ++ raise_at ∷ [])) ++ nones (m + 1)
  unfolding with_beginning
  begun_places =
      let next : nones (m + 2) ≡ None ∷ nones (m + 1) = ap nones (let e : m + 2 ≡ suc (m + 1) = omega arith in e) in
      let label : raise_label ≡ length (None ∷ Q) = omega (arith, count) in
      ap (λ ps. slice_set ps main_label main_at) ((λ i. slice_set ((None ∷ Q) ++ next i) (label i) raise_at) ∙ set-append_seam (None ∷ Q) None (nones (m + 1)) raise_at)
      ∙ ap (λ ps. main_at ∷ ps) (sym (append_assoc Q (raise_at ∷ []) (nones (m + 1))))

  begun_items : (with_beginning first before).items ≡ ((A ++ B) ++ items raiser) ++ items (prologue first)
  unfolding with_beginning
  begun_items = refl

  module _ (texts : Op → ℕ) (branches : ℕ) (ops : List Op) (xs : List Bool) (laid : length xs ≡ length ops) (marks : marks_in xs ≡ m) where
    abbrev start : ℕ
    start = length (((A ++ B) ++ items raiser) ++ items (prologue first))

    abbrev placed : List (Option ℕ)
    placed = main_at ∷ (Q ++ raise_at ∷ [])

    count_placed : length placed ≡ item_label 0
    count_placed = omega (arith, length-append Q (raise_at ∷ []), count)

    ops-are : with_ops texts branches ops xs 0 (with_beginning first before)
        ≡ the_state ((((A ++ B) ++ items raiser) ++ items (prologue first)) ++ op_items texts branches ops xs 0) (placed ++ (item_places ops xs start ++ None ∷ []))
    ops-are =
        with_ops-is texts branches ops xs 0 placed (with_beginning first before) count_placed (begun_places ∙ (λ i. placed ++ nones (sym marks i + 1))) laid
        ∙ (λ i. the_state (begun_items i ++ op_items texts branches ops xs 0) (placed ++ (item_places ops xs (length (begun_items i)) ++ None ∷ [])))

    -- the end after the operations
    abbrev end_at : Option ℕ
    end_at = Some (length ((((A ++ B) ++ items raiser) ++ items (prologue first)) ++ op_items texts branches ops xs 0))

    ended : with_code last_piece (with_place (item_label m) (with_ops texts branches ops xs 0 (with_beginning first before)))
        ≡ the_state (A ++ (B ++ (items raiser ++ (items (prologue first) ++ (op_items texts branches ops xs 0 ++ items last_piece))))) (main_at ∷ (Q ++ (raise_at ∷ (item_places ops xs start ++ end_at ∷ []))))
    ended =
        let front_places = placed ++ item_places ops xs start in
        let label : item_label m ≡ length front_places = omega (arith, length-append placed (item_places ops xs start), count_placed, length-item_places ops xs start laid, marks) in
        let there : slice_set (placed ++ (item_places ops xs start ++ None ∷ [])) (item_label m) end_at ≡ placed ++ (item_places ops xs start ++ end_at ∷ []) =
        (λ i. slice_set (sym (append_assoc placed (item_places ops xs start) (None ∷ [])) i) (label i) end_at) ∙ set-append_seam front_places None [] end_at ∙ append_assoc placed (item_places ops xs start) (end_at ∷ []) in
        ap (λ f. with_code last_piece (with_place (item_label m) f)) ops-are
        ∙ (λ i. the_state
        ((append_assoc (((A ++ B) ++ items raiser) ++ items (prologue first)) (op_items texts branches ops xs 0) (items last_piece)
        ∙ append_assoc ((A ++ B) ++ items raiser) (items (prologue first)) (op_items texts branches ops xs 0 ++ items last_piece)
        ∙ append_assoc (A ++ B) (items raiser) (items (prologue first) ++ (op_items texts branches ops xs 0 ++ items last_piece))
        ∙ append_assoc A B (items raiser ++ (items (prologue first) ++ (op_items texts branches ops xs 0 ++ items last_piece)))) i)
        ((there ∙ ap (λ ps. main_at ∷ ps) (append_assoc Q (raise_at ∷ []) (item_places ops xs start ++ end_at ∷ []))) i))

-- the library's items where its labels come after that of the beginning
abbrev moved_items : List Item
moved_items = map (shifted_item 1) library.items

abbrev front_items : Ir → List Item
front_items ir = header ++ data_items (packed (data_bytes ir))

-- the branches to items and to the end
abbrev branches_of : Ir → List Item
branches_of ir = branch_items (marks_in ir.marks + 1) 0

-- all that comes before the raising of errors
abbrev first_items : Ir → List Item
first_items ir = front_items ir ++ (moved_items ++ branches_of ir)

with_branches-parts : (ir : Ir) → with_branches (marks_in ir.marks) (with_library ir) ≡ the_state (first_items ir) ((None ∷ moved (length (front_items ir))) ++ nones (marks_in ir.marks + 2))
unfolding with_library front
with_branches-parts ir = λ i. the_state (append_assoc (front_items ir) moved_items (branches_of ir) i) ((None ∷ moved (length (front_items ir))) ++ nones (marks_in ir.marks + 2))

pub with_branches-is : (ir : Ir) (n : ℕ) (f g : FragState) → f ≡ with_library ir → n ≡ length ir.starts → marks_in ir.marks ≡ length ir.starts → g ≡ with_branches n f → g ≡ with_branches (marks_in ir.marks) (with_library ir)
with_branches-is ir n f g built count marked made = made ∙ (λ i. with_branches ((count ∙ sym marked) i) (built i))

library_at : (ir : Ir) → length (front_items ir) ≡ library_place ir
library_at ir = omega (arith, length-append header (data_items (packed (data_bytes ir))), length-map (packed (data_bytes ir)) (λ w. Ins (means w)))

-- the branches are where their address says
branches_at : (ir : Ir) → length (front_items ir ++ moved_items) ≡ branches_place ir
branches_at ir = omega (arith, length-append (front_items ir) moved_items, library_at ir, length-map library.items (shifted_item 1))

pub branches_start-is : (ir : Ir) → image_start + 4 * length (with_library ir).items ≡ branches_start ir
unfolding with_library front
branches_start-is ir = ap (λ n. image_start + 4 * n) (branches_at ir)

raise_is : (ir : Ir) → length (first_items ir) ≡ raise_place ir
raise_is ir =
    let all = length-append (front_items ir) (moved_items ++ branches_of ir) in
    let both = length-append moved_items (branches_of ir) in
    omega (arith, all, both, library_at ir, length-map library.items (shifted_item 1), length-branches (marks_in ir.marks + 1) 0)

main_is : (ir : Ir) → length (first_items ir ++ items raiser) ≡ main_place ir
main_is ir = omega (arith, length-append (first_items ir) (items raiser), raise_is ir, length-items raiser)

start_is : (ir : Ir) → length ((first_items ir ++ items raiser) ++ items (prologue (first_item ir))) ≡ op_place ir 0
start_is ir =
    let size_is = length-append (first_items ir ++ items raiser) (items (prologue (first_item ir))) ∙ (λ i. main_is ir i + length-items (prologue (first_item ir)) i) in
    size_is ∙ (let e : main_place ir + size (prologue (first_item ir)) ≡ op_place ir 0 = omega arith in e)

end_is : (ir : Ir) → length ir.marks ≡ length ir.ops → length (((first_items ir ++ items raiser) ++ items (prologue (first_item ir))) ++ all_op_items ir) ≡ op_place ir (length ir.ops)
end_is ir laid =
    let all = length-op_items (named_text ir) (branches_start ir) ir.ops ir.marks 0 laid ∙ sym (whole-size ir.ops) in
    length-append ((first_items ir ++ items raiser) ++ items (prologue (first_item ir))) (all_op_items ir)
    ∙ (λ i. (length-append (first_items ir ++ items raiser) (items (prologue (first_item ir))) ∙ (λ j. main_is ir j + length-items (prologue (first_item ir)) j)) i + all i)

pub program-is : (ir : Ir) → length ir.marks ≡ length ir.ops → with_program ir (with_beginning (first_item ir) (with_branches (marks_in ir.marks) (with_library ir))) ≡ program ir
unfolding with_program program
program-is ir laid =
    let last = items raiser ++ (items (prologue (first_item ir)) ++ (all_op_items ir ++ items last_piece)) in
    ap (λ f. with_code last_piece (with_place (item_label (marks_in ir.marks)) (with_ops (named_text ir) (branches_start ir) ir.ops ir.marks 0 (with_beginning (first_item ir) f)))) (with_branches-parts ir)
    ∙ ended (front_items ir) (moved_items ++ branches_of ir) (moved (length (front_items ir))) (marks_in ir.marks) (first_item ir) (count_moved (length (front_items ir))) (named_text ir) (branches_start ir) ir.ops ir.marks laid refl
    ∙ (λ i. the_state
    ((append_assoc header (data_items (packed (data_bytes ir))) ((moved_items ++ branches_of ir) ++ last) ∙ ap (λ rest. header ++ (data_items (packed (data_bytes ir)) ++ rest)) (append_assoc moved_items (branches_of ir) last)) i)
    (Some (main_is ir i) ∷ (moved (library_at ir i) ++ (Some (raise_is ir i) ∷ (item_places ir.ops ir.marks (start_is ir i) ++ Some (end_is ir laid i) ∷ [])))))

pub with_program-is : (ir : Ir) (branches item label : ℕ) (f g h : FragState) → branches ≡ branches_start ir → g ≡ with_ops (named_text ir) branches ir.ops ir.marks 0 f → item ≡ marks_in ir.marks → label ≡ item_label item → h ≡ with_place label g
    → with_code last_piece h ≡ with_program ir f
unfolding with_program
with_program-is ir branches item label f g h address ops item_is label_is placed_is =
    ap (with_code last_piece) (placed_is ∙ (λ i. with_place ((label_is ∙ ap item_label item_is) i) ((ops ∙ ap (λ a. with_ops (named_text ir) a ir.ops ir.marks 0 f) address) i)))

-- ---- each label has its place

items_placed : (ops : List Op) (xs : List Bool) (at : ℕ) → list_all is_placed (item_places ops xs at) ≡ true
items_placed [] xs at = refl
items_placed (op ∷ ops) [] at = refl
items_placed (op ∷ ops) (true ∷ xs) at = items_placed ops xs (at + op_size op)
items_placed (op ∷ ops) (false ∷ xs) at = items_placed ops xs (at + op_size op)

library_placed : list_all is_placed library.places ≡ true
unfolding library
library_placed = refl

all_both : (ps qs : List (Option ℕ)) → list_all is_placed ps ≡ true → list_all is_placed qs ≡ true → list_all is_placed (ps ++ qs) ≡ true
all_both ps qs first second = list_all-append is_placed ps qs ∙ and_from (list_all is_placed ps) (list_all is_placed qs) first second

pub all_placed : (ir : Ir) → AllPlaced (program ir)
unfolding program
all_placed ir =
    all_both (map (shifted_place (library_place ir)) library.places) (Some (raise_place ir) ∷ (item_places ir.ops ir.marks (op_place ir 0) ++ Some (op_place ir (length ir.ops)) ∷ []))
    (placed-shifted (library_place ir) library.places ∙ library_placed)
    (all_both (item_places ir.ops ir.marks (op_place ir 0)) (Some (op_place ir (length ir.ops)) ∷ []) (items_placed ir.ops ir.marks (op_place ir 0)) refl)
