-- The small actions that items and expressions are made of. The flat code's operations are made of the same.
use Rattle.std.specs.Prelude.{ℕ, zero, suc, ◌==◌, ℤ, pos, Bool, true, false, List, [], ◌++◌, Option, None, Some, Result, Ok, Err, if◌then◌else◌}
use Rattle.std.specs.Ordering.{int_eq}
use Rattle.bas_store.specs.Cells.{Cell, Slot}
use Rattle.bas_store.specs.Stored as store
use Rattle.bas_store.specs.Stored.{Stored, Handler, ForAll, ForCall, Saved}
use Rattle.bas_value.specs.Errors.{error_text, unknown_variable, no_room}
use Rattle.bas_value.specs.Output.{Part, Closing, part_bytes, column_after}
use Rattle.bv_run.specs.declared.report.Report.TheVariants.{Done, Failed}
use Rattle.bas_sem.specs.State.{State}
use Rattle.bas_sem.specs.Course.{Value, Raised, Over, Spent, Action, ◌>>=◌, ◌>>◌, give, over}

-- A form that has no meaning yet: the run is over.
abbrev pub outside : {A : Type 0} → Action A
outside = over Done

-- a part of the output is written
abbrev pub wrote : Part → State → State
wrote part s = record s { output = s.output ++ part_bytes part s.column; column = column_after part s.column }

-- a part of the output is written at the column
abbrev pub write : Part → Action (Unit {0})
write part = λ s. Value tt (wrote part s)

-- COUNT
abbrev pub column_now : Action ℕ
column_now = λ s. Value s.column s

-- what is stored is looked at
abbrev pub look : {A : Type 0} → (Stored → A) → Action A
look f = λ s. Value (f s.stored) s

-- what is stored is changed
abbrev pub change : (Stored → Stored) → Action (Unit {0})
change f = λ s. Value tt (record s { stored = f s.stored })

-- The handler that takes an error, if one does. The error of STOP is never handled.
abbrev pub taker : Bool → Option Handler → Option Handler
taker true handler = None
taker false handler = handler

-- an error sets ERR, ERL and the text
abbrev pub noted : ℤ → List ℕ → ℕ → State → State
noted error text line s = record s { err = error; erl = line; text = text }

-- the error goes to its handler; with none the closing text is written and the run is over
abbrev pub raised_to : {A : Type 0} → Option Handler → ℤ → List ℕ → ℕ → Action A
raised_to None error text line = λ s. Over (Failed error line) (wrote (Closing text line) (noted error text line s))
raised_to (Some handler) error text line = λ s. Raised handler (noted error text line s)

-- an error with a text, at a line (BBC BASIC Reference Manual, ERROR)
abbrev pub raise_text : {A : Type 0} → ℤ → List ℕ → ℕ → Action A
raise_text error text line = λ s. raised_to (taker (int_eq error (pos 0)) s.handler) error text line s

-- an error of the language's own, at a line
abbrev pub raise : {A : Type 0} → ℕ → ℕ → Action A
raise error line = raise_text (pos error) (error_text error) line

-- a result, or its error at a line
abbrev pub or_raise : ℕ → Result ℤ ℕ → Action ℤ
or_raise line (Ok v) = give v
or_raise line (Err error) = raise error line

-- the number that is there, or the error that the variable was never made
abbrev pub or_unknown : ℕ → Option ℤ → Action ℤ
or_unknown line None = raise unknown_variable line
or_unknown line (Some v) = give v

-- the number in a cell, at a line
abbrev pub read : ℕ → Cell → Action ℤ
read line cell = look (store.number_in cell) >>= or_unknown line

-- a number is stored in a cell
abbrev pub assign : Cell → ℤ → Action (Unit {0})
assign cell v = change (store.with_number cell v)

-- One step, where one is left, which executes the item at a place, or none.
abbrev pub spend : Option ℕ → ℕ → Action (Unit {0})
spend place zero = λ s. Spent s
spend place (suc n) = λ s. Value tt (record s { left = n; latest = place })

-- one step is taken, where one is left
abbrev pub take_step : Option ℕ → Action (Unit {0})
take_step place = λ s. spend place s.left s

-- who takes errors
abbrev pub handler_now : Action (Option Handler)
handler_now = λ s. Value s.handler s

-- who takes errors from now on
abbrev pub set_handler : Option Handler → Action (Unit {0})
set_handler handler = λ s. Value tt (record s { handler = handler })

-- A call at this depth makes a variable and then saves it, if there is room for one more value.
abbrev pub save_if : Bool → ℕ → Slot → ℕ → Action (Unit {0})
save_if false depth slot line = raise no_room line
save_if true depth slot line = change (store.slot_saved depth slot)

-- a variable is made, and then saved for the call at a depth, or there is no room: error 37 at a line
abbrev pub save : ℕ → Slot → ℕ → Action (Unit {0})
save depth slot line = change (store.made slot) >> (look (store.can_save 1) >>= (λ fits. save_if fits depth slot line))

-- The handler after a call: the earliest that the call still has saved, or else the one that is set; in place of a local
-- handler of the call itself, the one at its entry (BBC BASIC Reference Manual, LOCAL ERROR).
abbrev pub or_set : Option (Option Handler) → Option Handler → Option Handler
or_set None set = set
or_set (Some saved) set = saved

-- in place of a local handler of the call at a depth, the one at its entry
abbrev pub unless_own : ℕ → Option Handler → Option Handler → Option Handler
unless_own depth entry None = None
unless_own depth entry (Some (ForAll at)) = Some (ForAll at)
unless_own depth entry (Some (ForCall call opened at)) = if call == depth then entry else Some (ForCall call opened at)

-- the handler after the call at a depth
abbrev pub handler_after : ℕ → Option Handler → List Saved → Option Handler → Option Handler
handler_after depth entry saved set = unless_own depth entry (or_set (store.first_handler depth saved) set)

-- An error passes out of a call: on its way to a local handler the call is dropped, and its cells are restored; on its way to
-- the global one nothing is.
abbrev pub passed : Handler → ℕ → Stored → Stored
passed (ForAll at) depth s = s
passed (ForCall call opened at) depth s = store.call_dropped depth s

-- A handler takes an error: the global one drops all that is saved and open, a local one cuts its call's open entries to
-- those that were open when it was set.
abbrev pub taken : Handler → Stored → Stored
taken (ForAll at) s = record s { saved = []; opened = [] }
taken (ForCall call opened at) s = record s { opened = store.opened_cut call opened s.opened }

-- where a handler's items begin
abbrev pub place_of : Handler → ℕ
place_of (ForAll at) = at
place_of (ForCall call opened at) = at

-- the depth of the call in which a handler goes on: the outermost level has depth 0
abbrev pub owner_of : Handler → ℕ
owner_of (ForAll at) = 0
owner_of (ForCall call opened at) = call
