-- How the store in memory stands for what is stored. This project's own.
use Rattle.std.specs.Prelude.{ℕ, ◌<◌, ℤ, List, [], Option, None, Some, Result, Ok, Err, length, replicate}
use Rattle.bas_store.specs.declared.cell.BasValue.{BasValue}
use Rattle.bas_store.specs.declared.cell.BasValue.TheVariants as held
use Rattle.bas_store.specs.declared.cell.Variable.{Variable}
use Rattle.bas_store.specs.declared.cell.Variable.TheVariants as variable
use Rattle.bas_store.specs.declared.store.Store.{Store}
use Rattle.bas_value.specs.Errors.{unknown_variable}
use Rattle.bas_store.specs.Cells.{Value, Number, Text, Resident, Integer, Slot, OfNumber, OfText, residents}
use Rattle.bas_store.specs.Stored.{Stored, number_in, string_in}

-- what a store stands for: there are no arrays and saved values in it yet
abbrev pub stored_of : Store → Stored
stored_of store = record {
  residents = store.residents;
  integers = store.integers;
  strings = store.strings;
  arrays = replicate (length store.integers) None;
  array_room = 0;
  saved = [];
  opened = store.opened;
}

-- where a variable is kept
abbrev pub slot_of : Variable → Slot
slot_of (variable.Resident index) = OfNumber (Resident index)
slot_of (variable.Integer name) = OfNumber (Integer name)
slot_of (variable.Text name) = OfText name

-- a value in memory
abbrev pub content_of : BasValue → Value
content_of (held.Num v) = Number v
content_of (held.Text v) = Text v

-- the number that may be there, or the error that the variable was never made
abbrev pub number_answer : Option ℤ → Result BasValue ℕ
number_answer None = Err unknown_variable
number_answer (Some v) = Ok (held.Num v)

-- the string that may be there, or that error
abbrev pub text_answer : Option (List ℕ) → Result BasValue ℕ
text_answer None = Err unknown_variable
text_answer (Some v) = Ok (held.Text v)

-- what reading a variable answers
abbrev pub answer_in : Variable → Stored → Result BasValue ℕ
answer_in (variable.Resident index) s = number_answer (number_in (Resident index) s)
answer_in (variable.Integer name) s = number_answer (number_in (Integer name) s)
answer_in (variable.Text name) s = text_answer (string_in name s)

-- The store has room for a variable.
abbrev pub IsKept : Variable → Store → Type 0
IsKept (variable.Resident index) store = index < residents
IsKept (variable.Integer name) store = name < length store.integers
IsKept (variable.Text name) store = name < length store.strings
