-- A shelf in memory. This project's own.
use Rattle.std.specs.Prelude.{ℕ, List, [], ◌∷◌, Contains, Result, Ok, Err, Vec, refl}
use Rattle.std.proofs.Common.{Global}
use Rattle.std.specs.Coded.{Coded, code_by, coded×, coded_ℕ, coded_list}
use Rattle.std.specs.FinMap as map
use Rattle.bv_io.specs.declared.shelf.TakeError.{TakeError}
use Rattle.bv_io.specs.declared.shelf.TakeError.TheVariants as take_errors
use Rattle.bv_io.specs.declared.shelf.PutError.{PutError}
use Rattle.bv_io.specs.declared.shelf.PutError.TheVariants as put_errors
use Rattle.bv_io.specs.Files.{Held, held_code}
use Rattle.bv_io.specs.Shelf.{counted}
use Rattle.bv_io.specs.Log.{Event, log_code}
use Rattle.bv_io.specs.Answers.{AnswersContent}

-- the contents by their names, the number of calls made so far, the numbers of the calls that are to fail, the two counts
-- of faults, and the log
pub record MemShelfState : Type 0 where
  pub held : Held
  pub calls : ℕ
  pub failing : List ℕ
  pub take_faults : ℕ
  pub put_faults : ℕ
  pub log : List Event

-- a shelf's state is stored as the tuple of its parts
abbrev pub state_code : Coded MemShelfState
state_code =
    code_by (Held × (ℕ × (List ℕ × (ℕ × (ℕ × List Event))))) (coded× held_code (coded× coded_ℕ (coded× (coded_list coded_ℕ) (coded× coded_ℕ (coded× coded_ℕ log_code)))))
    (λ s. (s.held, (s.calls, (s.failing, (s.take_faults, (s.put_faults, s.log))))))
    (λ p. record { held = p.0; calls = p.1.0; failing = p.1.1.0; take_faults = p.1.1.1.0; put_faults = p.1.1.1.1.0; log = p.1.1.1.1.1 })
    (λ _. refl)

-- nothing is held, nothing was called, and nothing is to fail
abbrev pub empty_shelf : MemShelfState
empty_shelf = record { held = map.empty; calls = 0; failing = []; take_faults = 0; put_faults = 0; log = [] }

-- the number of the next call
abbrev pub next_call : MemShelfState → ℕ
next_call s = counted s.calls

-- the state after a call
abbrev pub with_call : MemShelfState → MemShelfState
with_call s = record s { calls = next_call s }

-- the state with an event more in its log
abbrev pub with_event : MemShelfState → Event → MemShelfState
with_event s event = record s { log = event ∷ s.log }

-- the next call is to fail
abbrev pub FailsNext : MemShelfState → Type 0
FailsNext s = Contains s.failing (next_call s)

-- the state after a take, by its answer: a fault is counted just where it is one, and a take without memory is no call
abbrev pub state_taken : MemShelfState → Result (Vec ℕ Global) TakeError → MemShelfState
state_taken old (Err take_errors.Failed) = record (with_call old) { take_faults = counted old.take_faults }
state_taken old (Err take_errors.NoMemory) = old
state_taken old answer = with_call old

-- What a take answers: it fails just where it is to fail, and else it gives what is held.
abbrev pub AnswersTake : MemShelfState → List ℕ → ℕ → Result (Vec ℕ Global) TakeError → Type 0
AnswersTake old name max (Err take_errors.Failed) = FailsNext old
AnswersTake old name max answer = ¬ FailsNext old × AnswersContent (map.get old.held name) max answer

-- the state after a put, by its answer: a fault is counted just where it is one, and a put without memory is no call
abbrev pub state_put : MemShelfState → List ℕ → List ℕ → Result Unit PutError → MemShelfState
state_put old name bytes (Ok _) = record (with_call old) { held = map.insert old.held name bytes }
state_put old name bytes (Err put_errors.Failed) = record (with_call old) { put_faults = counted old.put_faults }
state_put old name bytes (Err put_errors.NoMemory) = old

-- What a put answers: it fails just where it is to fail.
abbrev pub AnswersPut : MemShelfState → Result Unit PutError → Type 0
AnswersPut old (Err put_errors.Failed) = FailsNext old
AnswersPut old answer = ¬ FailsNext old
