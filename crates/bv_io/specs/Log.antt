-- The calls that a shelf or a sink was given, each with its answer, the newest first. This project's own.
use Rattle.std.specs.Prelude.{◌≡◌, ℕ, ◌==◌, if◌then◌else◌, List, [], ◌∷◌, ◌++◌, Result, Ok, Err, Vec, refl}
use Rattle.std.proofs.Common.{Global}
use Rattle.std.specs.Coded.{Coded, code_by, coded×, coded_ℕ, coded_list}
use Rattle.bv_io.specs.declared.shelf.TakeError.{TakeError}
use Rattle.bv_io.specs.declared.shelf.TakeError.TheVariants as take_errors
use Rattle.bv_io.specs.declared.shelf.PutError.{PutError}
use Rattle.bv_io.specs.declared.shelf.PutError.TheVariants as put_errors
use Rattle.bv_io.specs.declared.sink.SinkFault.{SinkFault}

-- A take gave these bytes under a name or did not, a put was handed bytes for a name and stored them or did not, a write
-- was handed bytes and accepted them or did not.
pub data Event : Type 0 where
  Took : (name bytes : List ℕ) → Event
  NotTaken : (name : List ℕ) (error : TakeError) → Event
  Put : (name bytes : List ℕ) → Event
  NotPut : (name bytes : List ℕ) (error : PutError) → Event
  Wrote : (bytes : List ℕ) → Event
  NotWritten : (bytes : List ℕ) → Event

-- a take by its answer
abbrev pub take_event : List ℕ → Result (Vec ℕ Global) TakeError → Event
take_event name (Ok bytes) = Took name bytes.items
take_event name (Err error) = NotTaken name error

-- a put by its answer
abbrev pub put_event : List ℕ → List ℕ → Result Unit PutError → Event
put_event name bytes (Ok _) = Put name bytes
put_event name bytes (Err error) = NotPut name bytes error

-- a write by its answer
abbrev pub write_event : List ℕ → Result Unit SinkFault → Event
write_event bytes (Ok _) = Wrote bytes
write_event bytes (Err _) = NotWritten bytes

-- the bytes of all writes that were accepted, in the order in which they came
abbrev pub accepted : List Event → List ℕ
accepted [] = []
accepted (Wrote bytes ∷ before) = accepted before ++ bytes
accepted (event ∷ before) = accepted before

-- an event is stored as a number for its kind and its error, a name and bytes
abbrev Parts : Type 0
Parts = ℕ × (List ℕ × List ℕ)

abbrev to_parts : Event → Parts
to_parts (Took name bytes) = (0, (name, bytes))
to_parts (NotTaken name take_errors.Missing) = (1, (name, []))
to_parts (NotTaken name take_errors.Failed) = (2, (name, []))
to_parts (NotTaken name take_errors.TooLong) = (3, (name, []))
to_parts (NotTaken name take_errors.NoMemory) = (4, (name, []))
to_parts (Put name bytes) = (5, (name, bytes))
to_parts (NotPut name bytes put_errors.Failed) = (6, (name, bytes))
to_parts (NotPut name bytes put_errors.NoMemory) = (7, (name, bytes))
to_parts (Wrote bytes) = (8, ([], bytes))
to_parts (NotWritten bytes) = (9, ([], bytes))

abbrev from_parts : Parts → Event
from_parts (kind, (name, bytes)) =
    if kind == 0 then Took name bytes
    else if kind == 1 then NotTaken name take_errors.Missing
    else if kind == 2 then NotTaken name take_errors.Failed
    else if kind == 3 then NotTaken name take_errors.TooLong
    else if kind == 4 then NotTaken name take_errors.NoMemory
    else if kind == 5 then Put name bytes
    else if kind == 6 then NotPut name bytes put_errors.Failed
    else if kind == 7 then NotPut name bytes put_errors.NoMemory
    else if kind == 8 then Wrote bytes
    else NotWritten bytes

pub from_parts-to_parts : (event : Event) → from_parts (to_parts event) ≡ event
from_parts-to_parts (Took name bytes) = refl
from_parts-to_parts (NotTaken name take_errors.Missing) = refl
from_parts-to_parts (NotTaken name take_errors.Failed) = refl
from_parts-to_parts (NotTaken name take_errors.TooLong) = refl
from_parts-to_parts (NotTaken name take_errors.NoMemory) = refl
from_parts-to_parts (Put name bytes) = refl
from_parts-to_parts (NotPut name bytes put_errors.Failed) = refl
from_parts-to_parts (NotPut name bytes put_errors.NoMemory) = refl
from_parts-to_parts (Wrote bytes) = refl
from_parts-to_parts (NotWritten bytes) = refl

abbrev pub log_code : Coded (List Event)
log_code = coded_list (code_by Parts (coded× coded_ℕ (coded× (coded_list coded_ℕ) (coded_list coded_ℕ))) to_parts from_parts from_parts-to_parts)
