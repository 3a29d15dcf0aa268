-- The library: all routines, one after another. This project's own.
use Rattle.std.specs.Prelude.{◌≡◌, ℕ, zero, suc, ◌+◌, ◌-◌, ◌*◌, ◌<◌, List, [], ◌∷◌, ◌++◌, length, replicate, slice_set, Some, None}
use Rattle.arm_core.specs.Core.{Core}
use Rattle.code_frag.specs.declared.entries.Entry.{Entry}
use Rattle.code_frag.specs.Demands.{Out}
use Rattle.code_frag.specs.Language.{Piece}
use Rattle.code_frag.specs.Runs.{Stands, IsCode, Meets}
use Rattle.code_frag.specs.Words.{FragState, place_of}
use Rattle.runtime_lib.specs.Digits.{decimal_number, hexadecimal_number}
use Rattle.runtime_lib.specs.Entries.{Routine, Product, Quotient, Modulus, DecimalNumber, HexadecimalNumber, SomeSpaces, LineEnd, StringOut, ClosingText, ToField, ToTab, Run, Division, Opening, ClosingWord, Turning, NextItem, ItemNumber, label_of, LibraryAsks, LibraryDoes}
use Rattle.runtime_lib.specs.Loops.{opening, closing_word, turning}
use Rattle.runtime_lib.specs.Numbers.{product, quotient, modulus, division}
use Rattle.runtime_lib.specs.Reading.{next_item, item_number}
use Rattle.runtime_lib.specs.Routines.{routines_count, with_piece}
use Rattle.runtime_lib.specs.Writing.{some_spaces, line_end, string_out, closing_text, to_field, to_tab, run}

-- the piece of a routine
abbrev pub piece_of : Routine → Piece
piece_of Product = product
piece_of Quotient = quotient
piece_of Modulus = modulus
piece_of DecimalNumber = decimal_number
piece_of HexadecimalNumber = hexadecimal_number
piece_of SomeSpaces = some_spaces
piece_of LineEnd = line_end
piece_of StringOut = string_out
piece_of ClosingText = closing_text
piece_of ToField = to_field
piece_of ToTab = to_tab
piece_of Run = run
piece_of Division = division
piece_of Opening = opening
piece_of ClosingWord = closing_word
piece_of Turning = turning
piece_of NextItem = next_item
piece_of ItemNumber = item_number

-- the routines in the order of their labels: those on numbers, those that write, with those that they call, those on open loops and
-- GOSUBs, and those on the items of DATA
abbrev pub numbers : List Routine
numbers = Product ∷ Quotient ∷ Modulus ∷ DecimalNumber ∷ HexadecimalNumber ∷ []

abbrev pub writers : List Routine
writers = SomeSpaces ∷ LineEnd ∷ StringOut ∷ ClosingText ∷ ToField ∷ ToTab ∷ Run ∷ Division ∷ []

abbrev pub loops : List Routine
loops = Opening ∷ ClosingWord ∷ Turning ∷ []

abbrev pub readers : List Routine
readers = NextItem ∷ ItemNumber ∷ []

abbrev pub routines : List Routine
routines = numbers ++ (writers ++ (loops ++ readers))

-- a fragment with a routine at its end, where the routine's label has its place
abbrev pub with_routine : Routine → FragState → FragState
with_routine r f = with_piece (piece_of r) (record { items = f.items; places = slice_set f.places (label_of r) (Some (length f.items)) })

-- and with more of them, one after another
abbrev pub with_routines : List Routine → FragState → FragState
with_routines [] f = f
with_routines (r ∷ rs) f = with_routines rs (with_routine r f)

-- the routines' labels, before they have places
abbrev pub no_routines : FragState
no_routines = record { items = []; places = replicate routines_count None }

-- all routines. The library stays closed, so that no goal shows its items.
unfoldable pub library : FragState
library = with_routines routines no_routines

-- its words are no more than these
abbrev pub most_library_words : ℕ
most_library_words = 1024

-- an entry's number and its label
abbrev pub entry_of : ℕ → Routine → Entry
entry_of id r = record { id = id; at = record { number = label_of r } }

-- the entries
abbrev pub library_entries : List Entry
library_entries =
    entry_of 1 Product ∷ entry_of 2 Quotient ∷ entry_of 3 Modulus ∷ entry_of 4 DecimalNumber ∷ entry_of 5 HexadecimalNumber ∷ entry_of 6 SomeSpaces ∷ entry_of 7 LineEnd
    ∷ entry_of 8 StringOut ∷ entry_of 9 ClosingText ∷ entry_of 10 Opening ∷ entry_of 11 ClosingWord ∷ entry_of 14 NextItem ∷ entry_of 15 ItemNumber ∷ entry_of 17 ToField ∷ entry_of 18 ToTab ∷ entry_of 19 Turning ∷ []

-- ---- the library in a memory

-- n labels from one on
abbrev pub labels_from : ℕ → ℕ → List ℕ
labels_from zero first = []
labels_from (suc n) first = first ∷ labels_from n (first + 1)

-- the library's labels
abbrev pub library_labels : List ℕ
library_labels = labels_from routines_count 0

-- Its items stand in a memory from an address on, where its labels come after n others, and each label has the address of its
-- place.
pub record LibraryStands (code entry : ℕ → ℕ) (base n : ℕ) : Type 0 where
  pub lies : IsCode base (length library.items)
  pub stands : Stands library.items code (λ label. entry (label + n)) base
  pub entries : (label : ℕ) → label < routines_count → entry (label + n) ≡ base + 4 * place_of library.places label

-- the contracts of the library's labels where they come after n others
abbrev pub AsksAfter : ℕ → ℕ → Core → Type 0
AsksAfter n label s = LibraryAsks (label - n) s

abbrev pub DoesAfter : ℕ → ℕ → Core → Out → Core → Type 0
DoesAfter n label s o t = LibraryDoes (label - n) s o t

-- wherever the library stands, each routine meets its contract
abbrev pub LibraryMeets : Type 0
LibraryMeets = (code entry : ℕ → ℕ) (base n : ℕ) → LibraryStands code entry base n → (label : ℕ) → label < routines_count → Meets code entry (AsksAfter n) (DoesAfter n) (label + n)
