-- Calls of procedures and functions (BBC BASIC Reference Manual: DEF, PROC, FN, LOCAL). The limits are this project's own.
use Rattle.std.specs.Prelude.{ℕ, suc, Bool, true, false, ◌&&◌, List, [], ◌∷◌, Option, None, length, nat_lt, nat_le}
use Rattle.bas_store.specs.Cells.{Value as Content, Slot}
use Rattle.bas_store.specs.Stored as store
use Rattle.bas_store.specs.Stored.{Stored, Handler}
use Rattle.bas_value.specs.Errors.{no_room}
use Rattle.bas_sem.specs.Course.{Course, Value, Raised, Over, Spent, Action, ◌>>=◌, ◌>>◌, give}
use Rattle.bas_sem.specs.Actions.{change, look, raise, take_step, handler_now, handler_after, passed, taken, place_of, owner_of}

-- Of which kind the call is that runs. The outermost level is no call.
pub data Kind : Type 0 where
  Outermost Procedure NumberFunction StringFunction : Kind

-- a call that runs: its kind, and the number of calls that are open with it
pub record Level : Type 0 where
  pub kind : Kind
  pub depth : ℕ

-- the outermost level
abbrev pub outermost : Level
outermost = record { kind = Outermost; depth = 0 }

-- the body of a definition: the place of its first item, and its formals
pub record Body : Type 0 where
  pub at : ℕ
  pub formals : List Slot

-- What the calls of an expression or an item do, at a line: a body is called with values, and gives a function's value.
abbrev pub Calls : Type 0
Calls = ℕ → Kind → Body → List Content → Action (Option Content)

-- What follows an item: a place in the same call, or the call is left with a function's value.
pub data Next : Type 0 where
  GoOn : (place : ℕ) → Next
  Leave : (value : Option Content) → Next

-- goes on at a place
abbrev pub go_on : ℕ → Action Next
go_on place = give (GoOn place)

-- from a place, or with the value that the call is left with
abbrev pub onward : (ℕ → Action (Option Content)) → Next → Action (Option Content)
onward from (GoOn place) = from place
onward from (Leave value) = give value

-- An error that an item raised goes on at its handler's place, unless the handler is that of a call further out.
abbrev pub taken_here : Bool → Handler → Action Next
taken_here true handler = λ s. Value (GoOn (place_of handler)) (record s { stored = taken handler s.stored })
taken_here false handler = λ s. Raised handler s

-- what an item came to, where errors for the call that runs are taken
abbrev pub handled : Level → Course Next → Course Next
handled level (Value next s) = Value next s
handled level (Raised handler s) = taken_here (nat_le level.depth (owner_of handler)) handler s
handled level (Over report s) = Over report s
handled level (Spent s) = Spent s

-- an item, where errors for the call that runs are taken
abbrev pub handling : Level → Action Next → Action Next
handling level m = λ s. handled level (m s)

-- The end of the call at a depth, with the handler at its entry: it is dropped with its cells restored; an error passes out.
abbrev pub call_ended : ℕ → Option Handler → Course (Option Content) → Course (Option Content)
call_ended depth entry (Value value s) =
    Value value (record s { stored = store.call_dropped depth s.stored; handler = handler_after depth entry s.stored.saved s.handler })
call_ended depth entry (Raised handler s) = Raised handler (record s { stored = passed handler depth s.stored })
call_ended depth entry (Over report s) = Over report s
call_ended depth entry (Spent s) = Spent s

-- a body, and the end of its call
abbrev pub ended : ℕ → Option Handler → Action (Option Content) → Action (Option Content)
ended depth entry m = λ s. call_ended depth entry (m s)

-- the formals are saved for the call at a depth, left to right
abbrev pub slots_saved : ℕ → List Slot → Stored → Stored
slots_saved depth [] s = s
slots_saved depth (slot ∷ slots) s = slots_saved depth slots (store.slot_saved depth slot s)

-- and assigned, left to right
abbrev pub values_assigned : List Slot → List Content → Stored → Stored
values_assigned (slot ∷ slots) (value ∷ values) s = values_assigned slots values (store.with_value slot value s)
values_assigned [] values s = s
values_assigned slots [] s = s

-- whether one more call can be open, with its formals saved
abbrev pub has_room : ℕ → ℕ → Stored → Bool
has_room depth formals s = nat_lt depth store.most_calls && store.can_save formals s

-- A call, where there is room for it: all formals are saved, then assigned; one step; then the body is executed until the
-- call is left.
abbrev pub enter : Bool → (Level → ℕ → Action (Option Content)) → Level → Calls
enter false execute level line kind body values = raise no_room line
enter true execute level line kind body values = do
  change (λ s. values_assigned body.formals values (slots_saved (suc level.depth) body.formals s))
  entry ← handler_now
  ended (suc level.depth) entry (take_step None >> execute (record { kind = kind; depth = suc level.depth }) body.at)

-- a call, where there is room for it, and else the error 37
abbrev pub call : (Level → ℕ → Action (Option Content)) → Level → Calls
call execute level line kind body values =
    look (has_room level.depth (length body.formals)) >>= (λ fits. enter fits execute level line kind body values)
