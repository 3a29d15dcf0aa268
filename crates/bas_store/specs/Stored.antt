-- What a run stores beside the arena: cells, arrays, saved values and open loops and GOSUBs. This project's own, but for the
-- variables and the words that open and close (BBC BASIC Reference Manual: variables, LOCAL, FOR, REPEAT, WHILE, GOSUB).
use Rattle.std.specs.Prelude.{ℕ, ◌+◌, ◌-◌, ◌==◌, ℤ, pos, Bool, List, [], ◌∷◌, Option, None, Some, length, drop, replicate, slice_index_or, slice_set, nat_lt, if◌then◌else◌}
use Rattle.bas_ast.specs.declared.program.Name.{Name}
use Rattle.bas_store.specs.Cells.{Value, Number, Text, Cell, Resident, Integer, Slot, OfNumber, OfText, residents}

-- Who takes an error: the items of ON ERROR from a place on; or those of ON ERROR LOCAL, in the call that set it, which had
-- this number of entries open.
pub data Handler : Type 0 where
  ForAll : (at : ℕ) → Handler
  ForCall : (call opened at : ℕ) → Handler

-- An array: its bounds, and its elements in order, the last subscript going fastest.
pub record Array : Type 0 where
  pub bounds : List ℕ
  pub elements : List Value

-- What is saved: a variable's value, or the handler.
pub data Kept : Type 0 where
  Old : (slot : Slot) (value : Value) → Kept
  Handling : (handler : Option Handler) → Kept

-- a saved value, with the depth of the call that saved it
pub record Saved : Type 0 where
  pub call : ℕ
  pub kept : Kept

-- An open loop or GOSUB: the FOR of a cell with its limit and step, REPEAT, WHILE or GOSUB.
pub data Opening : Type 0 where
  For : (cell : Cell) (limit step : ℤ) → Opening
  Repeat : Opening
  While : Opening
  Gosub : Opening

-- An open entry, with the depth of its call and the place after the item that opened it: NEXT, UNTIL and RETURN go on there, and
-- ENDWHILE at the WHILE before it.
pub record Entry : Type 0 where
  pub call : ℕ
  pub opening : Opening
  pub at : ℕ

-- All that is stored. A cell and an array have the place of their name, and None where they were never made.
pub record Stored : Type 0 where
  pub residents : List ℤ
  pub integers : List (Option ℤ)
  pub strings : List (Option (List ℕ))
  pub arrays : List (Option Array)
  -- the bytes of array room in use
  pub array_room : ℕ
  -- the latest first
  pub saved : List Saved
  -- the latest first
  pub opened : List Entry

-- at the start of a run: residents are 0, and nothing else is made, saved or open
abbrev pub nothing_stored : List Name → Stored
nothing_stored names = record {
  residents = replicate residents (pos 0);
  integers = replicate (length names) None;
  strings = replicate (length names) None;
  arrays = replicate (length names) None;
  array_room = 0;
  saved = [];
  opened = [];
}

-- the greatest number of open calls
abbrev pub most_calls : ℕ
most_calls = 512

-- the greatest number of saved values
abbrev pub most_saved : ℕ
most_saved = 8192

-- the greatest number of open entries
abbrev pub most_opened : ℕ
most_opened = 4096

-- the number in a cell, None where it was never made
abbrev pub number_in : Cell → Stored → Option ℤ
number_in (Resident index) s = Some (slice_index_or s.residents index (pos 0))
number_in (Integer name) s = slice_index_or s.integers name None

-- the string of a name, None where it was never made
abbrev pub string_in : ℕ → Stored → Option (List ℕ)
string_in name s = slice_index_or s.strings name None

-- a number is stored in a cell, which makes it
abbrev pub with_number : Cell → ℤ → Stored → Stored
with_number (Resident index) v s = record s { residents = slice_set s.residents index v }
with_number (Integer name) v s = record s { integers = slice_set s.integers name (Some v) }

-- a string is stored under a name, which makes it
abbrev pub with_string : ℕ → List ℕ → Stored → Stored
with_string name v s = record s { strings = slice_set s.strings name (Some v) }

-- a value of its kind is stored in a variable
abbrev pub with_value : Slot → Value → Stored → Stored
with_value (OfNumber cell) (Number v) s = with_number cell v s
with_value (OfText name) (Text v) s = with_string name v s
with_value (OfNumber cell) (Text v) s = s
with_value (OfText name) (Number v) s = s

-- the value of a variable, 0 or the empty string where it was never made
abbrev pub or_zero : Option ℤ → ℤ
or_zero None = pos 0
or_zero (Some v) = v

-- the string that may be there, or else the empty one
abbrev pub or_empty : Option (List ℕ) → List ℕ
or_empty None = []
or_empty (Some v) = v

-- the value of a variable, 0 or the empty string where it was never made
abbrev pub value_in : Slot → Stored → Value
value_in (OfNumber cell) s = Number (or_zero (number_in cell s))
value_in (OfText name) s = Text (or_empty (string_in name s))

-- 0 or the empty string, by the kind of a variable
abbrev pub blank : Slot → Value
blank (OfNumber cell) = Number (pos 0)
blank (OfText name) = Text []

-- a variable that was never made is made, with 0 or the empty string
abbrev pub made : Slot → Stored → Stored
made slot s = with_value slot (value_in slot s) s

-- whether n more values can be saved
abbrev pub can_save : ℕ → Stored → Bool
can_save n s = nat_lt (length s.saved + n) (most_saved + 1)

-- a call at this depth saves something
abbrev pub with_saved : ℕ → Kept → Stored → Stored
with_saved depth kept s = record s { saved = record { call = depth; kept = kept } ∷ s.saved }

-- a call saves the value of a variable, which is made before
abbrev pub slot_saved : ℕ → Slot → Stored → Stored
slot_saved depth slot s = with_saved depth (Old slot (value_in slot s)) (made slot s)

-- a saved variable gets its value back
abbrev pub put_back : Kept → Stored → Stored
put_back (Old slot value) s = with_value slot value s
put_back (Handling handler) s = s

-- what a call saved goes back, the latest first
abbrev pub all_put_back : ℕ → List Saved → Stored → Stored
all_put_back depth [] s = s
all_put_back depth (x ∷ xs) s = if x.call == depth then all_put_back depth xs (put_back x.kept s) else s

-- what is saved without what a call saved
abbrev pub saved_below : ℕ → List Saved → List Saved
saved_below depth [] = []
saved_below depth (x ∷ xs) = if x.call == depth then saved_below depth xs else (x ∷ xs)

-- the open entries without those of a call
abbrev pub opened_below : ℕ → List Entry → List Entry
opened_below depth [] = []
opened_below depth (e ∷ es) = if e.call == depth then opened_below depth es else (e ∷ es)

-- the number of a call's open entries
abbrev pub opened_in : ℕ → List Entry → ℕ
opened_in depth [] = 0
opened_in depth (e ∷ es) = if e.call == depth then opened_in depth es + 1 else 0

-- the open entries where those of a call are cut to a number, if there are more
abbrev pub opened_cut : ℕ → ℕ → List Entry → List Entry
opened_cut depth kept es = drop (opened_in depth es - kept) es

-- the end of a call: its cells are restored, and its saved values and open entries are dropped
abbrev pub call_dropped : ℕ → Stored → Stored
call_dropped depth s =
    let restored : Stored = all_put_back depth s.saved s in
    record restored { saved = saved_below depth s.saved; opened = opened_below depth s.opened }

-- the earliest handler that a call still has saved
abbrev pub or_later : Option (Option Handler) → Kept → Option (Option Handler)
or_later (Some earliest) kept = Some earliest
or_later None (Old slot value) = None
or_later None (Handling handler) = Some handler

-- the earliest handler that a call still has saved, if it has one
abbrev pub first_handler : ℕ → List Saved → Option (Option Handler)
first_handler depth [] = None
first_handler depth (x ∷ xs) = if x.call == depth then or_later (first_handler depth xs) x.kept else None
