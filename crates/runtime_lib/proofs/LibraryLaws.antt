-- Wherever the library stands, each routine meets its contract.
use Rattle.std.proofs.Common.{◌≡◌, ℕ, zero, suc, ◌+◌, ◌-◌, ◌*◌, ◌<◌, ◌≤◌, List, [], ◌∷◌, ◌++◌, length, map, nat_lt, true, slice_get, Option, Some, None, refl, sym, subst, ◌∙◌, arith, ltb-true, length-append}
use Rattle.std.specs.List.{list_all}
use Rattle.std.proofs.lemmas.Bool.{false≢true, and_parts}
use Rattle.std.proofs.lemmas.List.{length-map}
use Rattle.arm_core.specs.Core.{Core}
use Rattle.code_frag.specs.declared.item.Item.{Item}
use Rattle.code_frag.specs.Demands.{ToLabel, Out, Leaves}
use Rattle.code_frag.specs.Language.{items, jump_to, size}
use Rattle.code_frag.specs.Runs.{Stands, IsCode, Meets, MeetEach}
use Rattle.code_frag.specs.Words.{FragState, AllPlaced, is_placed, place_of, shifted_item, joined}
use Rattle.code_frag.proofs.Branches.{stands_front, stands_after, length-items}
use Rattle.code_frag.proofs.JoinLaws.{stands_shifted, stands-joined, address-joined, meets-moved}
use Rattle.code_frag.proofs.Sound.{entered}
use Rattle.code_frag.proofs.WordLaws.{label_address}
use Rattle.runtime_lib.specs.Digits.{decimal_number, hexadecimal_number}
use Rattle.runtime_lib.specs.Entries.{Routine, Product, Quotient, Modulus, DecimalNumber, HexadecimalNumber, SomeSpaces, LineEnd, StringOut, ClosingText, ToField, ToTab, Run, Division, Opening, ClosingWord, Turning, NextItem, ItemNumber, label_of, routine_of, does_at, LibraryAsks, LibraryDoes}
use Rattle.runtime_lib.specs.Library.{piece_of, numbers, writers, loops, readers, routines, most_library_words, with_routine, with_routines, no_routines, library, library_labels, labels_from, LibraryStands, LibraryMeets, AsksAfter, DoesAfter}
use Rattle.runtime_lib.specs.Routines.{routines_count, routine_items}
use Rattle.runtime_lib.specs.Loops.{opening, closing_word, turning}
use Rattle.runtime_lib.specs.Reading.{next_item, item_number}
use Rattle.runtime_lib.specs.Numbers.{product, quotient, modulus, division}
use Rattle.runtime_lib.specs.Writing.{some_spaces, line_end, string_out, closing_text, to_field, to_tab, run}
use Rattle.runtime_lib.proofs.LineEndProof.{line_end_owes}
use Rattle.runtime_lib.proofs.StringOutProof.{string_out_owes}
use Rattle.runtime_lib.proofs.SomeSpacesProof.{some_spaces_owes}
use Rattle.runtime_lib.proofs.ToFieldProof.{to_field_owes}
use Rattle.runtime_lib.proofs.ToTabProof.{to_tab_owes}
use Rattle.runtime_lib.proofs.ClosingTextProof.{closing_text_owes}
use Rattle.runtime_lib.proofs.RunProof.{run_owes}
use Rattle.runtime_lib.proofs.NumberProof.{decimal_owes, hexadecimal_owes}
use Rattle.runtime_lib.proofs.DivisionProof.{division_owes}
use Rattle.runtime_lib.proofs.ProductProof.{product_owes}
use Rattle.runtime_lib.proofs.OpeningProof.{opening_owes}
use Rattle.runtime_lib.proofs.ClosingWordProof.{closing_word_owes}
use Rattle.runtime_lib.proofs.TurningProof.{turning_owes}
use Rattle.runtime_lib.proofs.NextItemProof.{next_item_owes}
use Rattle.runtime_lib.proofs.ItemNumberProof.{item_number_owes}
use Rattle.runtime_lib.proofs.QuotientProof.{quotient_owes, modulus_owes}

-- ---- where each routine stands

-- a routine has a word more than its piece
length-routine : (r : Routine) (f : FragState) → length (with_routine r f).items ≡ length f.items + (size (piece_of r) + 1)
length-routine r f = omega (arith, length-append f.items (routine_items (piece_of r)), length-append (items (piece_of r)) (jump_to 14 ∷ []), length-items (piece_of r))

length-more : (rs : List Routine) (f : FragState) → length f.items ≤ length (with_routines rs f).items
length-more [] f = omega arith
length-more (r ∷ rs) f = omega (arith, length-more rs (with_routine r f), length-routine r f)

module _ (code entry : ℕ → ℕ) where
  -- a routine's words lie at its label's address
  record Placed (r : Routine) : Type 0 where
    lies : IsCode (entry (label_of r)) (size (piece_of r) + 1)
    stands : Stands (routine_items (piece_of r)) code entry (entry (label_of r))

  abbrev AreAllPlaced : List Routine → Type 0
  AreAllPlaced [] = Unit {0}
  AreAllPlaced (r ∷ rs) = Placed r × AreAllPlaced rs

module _ (code entry : ℕ → ℕ) (base : ℕ) where
  -- the items before routines that are added
  stands_before : (rs : List Routine) (f : FragState) → Stands (with_routines rs f).items code entry base → Stands f.items code entry base
  stands_before [] f stands = stands
  stands_before (r ∷ rs) f stands = stands_front f.items (routine_items (piece_of r)) code entry base (stands_before rs (with_routine r f) stands)

  -- the labels of routines have the addresses of their places
  abbrev EntriesOf : List Routine → FragState → Type 0
  EntriesOf [] f = Unit {0}
  EntriesOf (r ∷ rs) f = (entry (label_of r) ≡ base + 4 * length f.items) × EntriesOf rs (with_routine r f)

  all_placed : (rs : List Routine) (f : FragState) → IsCode base (length (with_routines rs f).items) → Stands (with_routines rs f).items code entry base → EntriesOf rs f → AreAllPlaced code entry rs
  all_placed [] f lies stands entries = tt
  all_placed (r ∷ rs) f lies stands entries =
      let here = entries.0 in
      let within = length-more rs (with_routine r f) in
      let size_is = length-routine r f in (
        record {
          lies = record { low = omega (arith, here, lies.low); aligned = omega (arith, here, lies.aligned); high = omega (arith, here, lies.high, within, size_is) };
          stands = subst (Stands (routine_items (piece_of r)) code entry) (sym here) (stands_after f.items (routine_items (piece_of r)) code entry base (stands_before rs (with_routine r f) stands));
        },
        all_placed rs (with_routine r f) lies stands entries.1,
      )

  library_placed : IsCode base (length library.items) → Stands library.items code entry base → ((label : ℕ) → label < routines_count → entry label ≡ base + 4 * place_of library.places label) → AreAllPlaced code entry routines
  unfolding library
  library_placed lies stands at = all_placed routines no_routines lies stands (at 0 (omega arith), (at 1 (omega arith), (at 2 (omega arith), (at 3 (omega arith), (at 4 (omega arith), (at 5 (omega arith), (at 6 (omega arith), (at 7 (omega arith), (at 8 (omega arith), (at 9 (omega arith), (at 10 (omega arith), (at 11 (omega arith), (at 12 (omega arith), (at 13 (omega arith), (at 14 (omega arith), (at 15 (omega arith), (at 16 (omega arith), (at 17 (omega arith), tt))))))))))))))))))

-- ---- each routine meets its contract

module _ (code entry : ℕ → ℕ) where
  abbrev MeetsContract : ℕ → Type 0
  MeetsContract label = Meets code entry LibraryAsks LibraryDoes label

  -- those that call no others
  run_meets : Placed code entry Run → MeetsContract 11
  run_meets p = entered code entry LibraryAsks LibraryDoes 11 run refl tt p.lies p.stands (λ s good asked. (run_owes s good).by)

  division_meets : Placed code entry Division → MeetsContract 12
  division_meets p = entered code entry LibraryAsks LibraryDoes 12 division refl tt p.lies p.stands (λ s good asked. (division_owes {Asks = LibraryAsks} {Does = LibraryDoes} s good asked).by)

  product_meets : Placed code entry Product → MeetsContract 0
  product_meets p = entered code entry LibraryAsks LibraryDoes 0 product refl tt p.lies p.stands (λ s good asked. (product_owes s good).by)

  line_end_meets : Placed code entry LineEnd → MeetsContract 6
  line_end_meets p = entered code entry LibraryAsks LibraryDoes 6 line_end refl tt p.lies p.stands (λ s good asked. (line_end_owes s good asked).by)

  string_out_meets : Placed code entry StringOut → MeetsContract 7
  string_out_meets p = entered code entry LibraryAsks LibraryDoes 7 string_out refl tt p.lies p.stands (λ s good asked. (string_out_owes s good asked.0 asked.1).by)

  opening_meets : Placed code entry Opening → MeetsContract 13
  opening_meets p = entered code entry LibraryAsks LibraryDoes 13 opening refl tt p.lies p.stands (λ s good asked. (opening_owes s good asked).by)

  closing_word_meets : Placed code entry ClosingWord → MeetsContract 14
  closing_word_meets p = entered code entry LibraryAsks LibraryDoes 14 closing_word refl tt p.lies p.stands (λ s good asked. (closing_word_owes s good asked).by)

  turning_meets : Placed code entry Turning → MeetsContract 15
  turning_meets p = entered code entry LibraryAsks LibraryDoes 15 turning refl tt p.lies p.stands (λ s good asked. (turning_owes s good asked).by)

  next_item_meets : Placed code entry NextItem → MeetsContract 16
  next_item_meets p = entered code entry LibraryAsks LibraryDoes 16 next_item refl tt p.lies p.stands (λ s good asked. (next_item_owes s good asked).by)

  item_number_meets : Placed code entry ItemNumber → MeetsContract 17
  item_number_meets p = entered code entry LibraryAsks LibraryDoes 17 item_number refl tt p.lies p.stands (λ s good asked. (item_number_owes s good asked).by)

  -- those that write spaces
  module _ (runs : MeetsContract 11) where
    some_spaces_meets : Placed code entry SomeSpaces → MeetsContract 5
    some_spaces_meets p = entered code entry LibraryAsks LibraryDoes 5 some_spaces refl (runs, tt) p.lies p.stands (λ s good asked. (some_spaces_owes s good asked).by)

    to_field_meets : Placed code entry ToField → MeetsContract 9
    to_field_meets p = entered code entry LibraryAsks LibraryDoes 9 to_field refl (runs, tt) p.lies p.stands (λ s good asked. (to_field_owes s good asked).by)

    to_tab_meets : Placed code entry ToTab → MeetsContract 10
    to_tab_meets p = entered code entry LibraryAsks LibraryDoes 10 to_tab refl (runs, tt) p.lies p.stands (λ s good asked. (to_tab_owes s good asked).by)

    decimal_number_meets : Placed code entry DecimalNumber → MeetsContract 3
    decimal_number_meets p = entered code entry LibraryAsks LibraryDoes 3 decimal_number refl (runs, tt) p.lies p.stands (λ s good asked. (decimal_owes s good asked).by)

    hexadecimal_number_meets : Placed code entry HexadecimalNumber → MeetsContract 4
    hexadecimal_number_meets p = entered code entry LibraryAsks LibraryDoes 4 hexadecimal_number refl (runs, tt) p.lies p.stands (λ s good asked. (hexadecimal_owes s good asked).by)

  -- those that divide
  module _ (divides : MeetsContract 12) where
    quotient_meets : Placed code entry Quotient → MeetsContract 1
    quotient_meets p = entered code entry LibraryAsks LibraryDoes 1 quotient refl (divides, tt) p.lies p.stands (λ s good asked. (quotient_owes s good).by)

    modulus_meets : Placed code entry Modulus → MeetsContract 2
    modulus_meets p = entered code entry LibraryAsks LibraryDoes 2 modulus refl (divides, tt) p.lies p.stands (λ s good asked. (modulus_owes s good).by)

  closing_text_meets : MeetsContract 3 → Placed code entry ClosingText → MeetsContract 8
  closing_text_meets writes p = entered code entry LibraryAsks LibraryDoes 8 closing_text refl (writes, tt) p.lies p.stands (λ s good asked. (closing_text_owes s good asked).by)

  -- all of them
  all_meet : AreAllPlaced code entry routines → MeetEach code entry LibraryAsks LibraryDoes library_labels
  all_meet p0 =
      let p1 = p0.1 in
      let p2 = p1.1 in
      let p3 = p2.1 in
      let p4 = p3.1 in
      let p5 = p4.1 in
      let p6 = p5.1 in
      let p7 = p6.1 in
      let p8 = p7.1 in
      let p9 = p8.1 in
      let p10 = p9.1 in
      let p11 = p10.1 in
      let p12 = p11.1 in
      let p13 = p12.1 in
      let p14 = p13.1 in
      let p15 = p14.1 in
      let p16 = p15.1 in
      let p17 = p16.1 in
      let runs = run_meets p11.0 in
      let divides = division_meets p12.0 in
      let decimal = decimal_number_meets runs p3.0 in
      (product_meets p0.0, (quotient_meets divides p1.0, (modulus_meets divides p2.0, (decimal, (hexadecimal_number_meets runs p4.0, (some_spaces_meets runs p5.0, (line_end_meets p6.0, (string_out_meets p7.0, (closing_text_meets decimal p8.0, (to_field_meets runs p9.0, (to_tab_meets runs p10.0, (runs, (divides, (opening_meets p13.0, (closing_word_meets p14.0, (turning_meets p15.0, (next_item_meets p16.0, (item_number_meets p17.0, tt))))))))))))))))))

-- ---- under other labels

-- a routine leads to no label
leads_to_none : (r : Option Routine) (s : Core) (k : ℕ) (t : Core) → does_at r s (Leaves (ToLabel k)) t → ⊥
leads_to_none None s k t d = d
leads_to_none (Some Product) s k t d = let f = d.falls in cc
leads_to_none (Some Quotient) s k t d = let f = d.falls in cc
leads_to_none (Some Modulus) s k t d = let f = d.falls in cc
leads_to_none (Some DecimalNumber) s k t d = let f = d.falls in cc
leads_to_none (Some HexadecimalNumber) s k t d = let f = d.falls in cc
leads_to_none (Some SomeSpaces) s k t d = let f = d.falls in cc
leads_to_none (Some LineEnd) s k t d = let f = d.falls in cc
leads_to_none (Some StringOut) s k t d = let f = d.falls in cc
leads_to_none (Some ClosingText) s k t d = let f = d.ends in cc
leads_to_none (Some ToField) s k t d = let f = d.falls in cc
leads_to_none (Some ToTab) s k t d = let f = d.falls in cc
leads_to_none (Some Run) s k t d = let f = d.falls in cc
leads_to_none (Some Division) s k t d = let f = d.falls in cc
leads_to_none (Some Opening) s k t d = let f = d.comes_back.falls in cc
leads_to_none (Some ClosingWord) s k t d = let f = d.comes_back.falls in cc
leads_to_none (Some Turning) s k t d = let f = d.comes_back.falls in cc
leads_to_none (Some NextItem) s k t d = let f = d.falls in cc
leads_to_none (Some ItemNumber) s k t d = let f = d.falls in cc

-- one of some labels
one_meets : (code entry : ℕ → ℕ) (n first label : ℕ) → label < n → MeetEach code entry LibraryAsks LibraryDoes (labels_from n first) → Meets code entry LibraryAsks LibraryDoes (first + label)
one_meets code entry zero first label within all = absurd (omega (arith, within))
one_meets code entry (suc n) first zero within all = subst (Meets code entry LibraryAsks LibraryDoes) (let e : first ≡ first + 0 = omega arith in e) all.0
one_meets code entry (suc n) first (suc label) within all =
    subst (Meets code entry LibraryAsks LibraryDoes) (let e : first + 1 + label ≡ first + suc label = omega arith in e) (one_meets code entry n (first + 1) label (omega (arith, within)) all.1)

-- Where the library's labels come after n others, each routine meets its contract, and each contract that asks more and says less.
pub library-meets : (B : ℕ → Core → Type 0) (E : ℕ → Core → Out → Core → Type 0) (code entry : ℕ → ℕ) (base n : ℕ) → ((label : ℕ) (s : Core) → B (label + n) s → LibraryAsks label s)
    → ((label : ℕ) (s : Core) (o : Out) (t : Core) → LibraryDoes label s o t → E (label + n) s o t) → LibraryStands code entry base n → (label : ℕ) → label < routines_count → Meets code entry B E (label + n)
library-meets B E code entry base n asks does stands label within =
    let under : ℕ → ℕ = λ k. entry (k + n) in
    meets-moved code under entry LibraryAsks B LibraryDoes E label (label + n) refl (asks label) (does label) (leads_to_none (routine_of label))
    (subst (Meets code under LibraryAsks LibraryDoes) (let e : 0 + label ≡ label = omega arith in e)
    (one_meets code under routines_count 0 label within (all_meet code under (library_placed code under base stands.lies stands.stands stands.entries))))

-- the same of some of its labels, as those that a piece calls
pub library-meet_each : (B : ℕ → Core → Type 0) (E : ℕ → Core → Out → Core → Type 0) (code entry : ℕ → ℕ) (base n : ℕ) → ((label : ℕ) (s : Core) → B (label + n) s → LibraryAsks label s)
    → ((label : ℕ) (s : Core) (o : Out) (t : Core) → LibraryDoes label s o t → E (label + n) s o t) → LibraryStands code entry base n → (labels : List ℕ) → list_all (λ label. nat_lt label routines_count) labels ≡ true
    → MeetEach code entry B E (map (λ label. label + n) labels)
library-meet_each B E code entry base n asks does stands [] below = tt
library-meet_each B E code entry base n asks does stands (label ∷ labels) below =
    let parts = and_parts (nat_lt label routines_count) (list_all (λ k. nat_lt k routines_count) labels) below in
    (library-meets B E code entry base n asks does stands label (ltb-true label routines_count parts.0), library-meet_each B E code entry base n asks does stands labels parts.1)

pub library_meets : LibraryMeets
library_meets code entry base n stands label within =
    let same : (k : ℕ) → k + n - n ≡ k = λ k. omega arith in
    library-meets (AsksAfter n) (DoesAfter n) code entry base n (λ k s asked. subst (λ j. LibraryAsks j s) (same k) asked) (λ k s o t done. subst (λ j. LibraryDoes j s o t) (sym (same k)) done) stands label within

-- ---- after other code

pub placed_there : (places : List (Option ℕ)) (label : ℕ) → list_all is_placed places ≡ true → label < length places → slice_get places label ≡ Some (Some (place_of places label))
placed_there [] label all within = absurd (omega (arith, within))
placed_there (None ∷ ps) label all within = absurd (false≢true all)
placed_there (Some p ∷ ps) zero all within = refl
placed_there (Some p ∷ ps) (suc label) all within = placed_there ps label all (omega (arith, within))

pub library-made : with_routines readers (with_routines loops (with_routines writers (with_routines numbers no_routines))) ≡ library
unfolding library
library-made = refl

pub library-few : length library.items ≤ most_library_words
unfolding library
library-few = omega arith

pub library-placed : AllPlaced library
unfolding library
library-placed = refl

pub library-labels : length library.places ≡ routines_count
unfolding library
library-labels = refl

-- the library stands where its items, with labels after n others, stand among those of other code
pub library-within : (front back : List Item) (n : ℕ) (code entry : ℕ → ℕ) (base : ℕ) → IsCode base (length (front ++ (map (shifted_item n) library.items ++ back))) → Stands (front ++ (map (shifted_item n) library.items ++ back)) code entry base
    → ((label : ℕ) → label < routines_count → entry (label + n) ≡ base + 4 * (length front + place_of library.places label)) → LibraryStands code entry (base + 4 * length front) n
library-within front back n code entry base lies stands at =
    let mine = map (shifted_item n) library.items in
    let count = length-append front (mine ++ back) in
    let counts = length-append mine back in
    let same = length-map library.items (shifted_item n) in
    record {
      lies = record { low = omega (arith, lies.low); aligned = omega (arith, lies.aligned); high = omega (arith, lies.high, count, counts, same) };
      stands = stands_shifted library.items n code entry (base + 4 * length front) (stands_front mine back code entry (base + 4 * length front) (stands_after front (mine ++ back) code entry base stands));
      entries = λ label within. at label within ∙ (let e : base + 4 * (length front + place_of library.places label) ≡ base + 4 * length front + 4 * place_of library.places label = omega arith in e);
    }

-- the library stands where it is joined to other code whose items stand
pub library-joined : (a : FragState) (code : ℕ → ℕ) (base : ℕ) → IsCode base (length (joined a library).items) → Stands (joined a library).items code (label_address (joined a library).places base) base
    → LibraryStands code (label_address (joined a library).places base) (base + 4 * length a.items) (length a.places)
library-joined a code base lies stands =
    let count = length-append a.items (map (shifted_item (length a.places)) library.items) in
    let same = length-map library.items (shifted_item (length a.places)) in
    record {
      lies = record { low = omega (arith, lies.low); aligned = omega (arith, lies.aligned); high = omega (arith, lies.high, count, same) };
      stands = (stands-joined a library code (label_address (joined a library).places base) base stands).1;
      entries = λ label within. address-joined a.places library.places (length a.items) base label (place_of library.places label) (placed_there library.places label library-placed (omega (arith, library-labels, within)));
    }
