-- The items of DATA, which READ takes one after another (BBC BASIC Reference Manual: DATA, READ, RESTORE).
use Rattle.std.specs.Prelude.{ℕ, suc, ◌+◌, ℤ, List, [], ◌∷◌, Option, None, Some, map, nat_lt, slice_get, if◌then◌else◌}
use Rattle.bas_ast.specs.declared.program.DataItem.{DataItem}
use Rattle.bas_ast.specs.declared.program.Prog.{Prog}
use Rattle.bas_value.specs.Errors.{no_such_line, out_of_data}
use Rattle.bv_num.specs.Value.{data_value}
use Rattle.bas_sem.specs.Course.{Value, Action, ◌>>=◌}
use Rattle.bas_sem.specs.Actions.{raise, or_raise}
use Rattle.bas_sem.specs.Places.{line_of_number}

-- the texts of a program's items
abbrev pub data_texts : Prog → List (List ℕ)
data_texts prog = map (λ d. d.text) prog.data_items

-- ---- READ

-- an item is taken, where there is one, and else there is an error at a line
abbrev pub item_taken : Option (List ℕ) → ℕ → Action (List ℕ)
item_taken None line = raise out_of_data line
item_taken (Some text) line = λ s. Value text (record s { data_place = s.data_place + 1 })

-- the place of the next item
abbrev pub place_now : Action ℕ
place_now = λ s. Value s.data_place s

-- the next of these items is taken
abbrev pub next_item : List (List ℕ) → ℕ → Action (List ℕ)
next_item texts line = place_now >>= (λ place. item_taken (slice_get texts place) line)

-- The number of the next item. The item is taken, also where its number is an error.
abbrev pub next_number : List (List ℕ) → ℕ → Action ℤ
next_number texts line = next_item texts line >>= (λ text. or_raise line (data_value text))

-- ---- RESTORE

-- the item that is taken next from now on
abbrev pub restore_to : ℕ → Action (Unit {0})
restore_to place = λ s. Value tt (record s { data_place = place })

-- the number of items in lines before the one at a place among the lines
abbrev pub items_before : List DataItem → ℕ → ℕ
items_before [] line = 0
items_before (d ∷ ds) line = if nat_lt d.line line then suc (items_before ds line) else 0

-- the first item in a line or behind it, where the program has the line
abbrev pub first_behind : List DataItem → Option ℕ → Option ℕ
first_behind items None = None
first_behind items (Some line) = Some (items_before items line)

-- where RESTORE leads: to the first item, or to the first in its line or behind it
abbrev pub restored : Prog → Option ℕ → Option ℕ
restored prog None = Some 0
restored prog (Some number) = first_behind prog.data_items (line_of_number prog number)

-- RESTORE, or the error at a line that it names a line that the program doesn't have
abbrev pub restore : Option ℕ → ℕ → Action (Unit {0})
restore None line = raise no_such_line line
restore (Some place) line = restore_to place
