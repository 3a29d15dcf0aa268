-- A sink in memory. This project's own.
use Rattle.std.specs.Prelude.{ℕ, ◌+◌, ◌≤◌, List, [], ◌∷◌, ◌++◌, length, Contains, refl}
use Rattle.std.specs.Coded.{Coded, code_by, coded×, coded_ℕ, coded_list}
use Rattle.bv_io.specs.Shelf.{counted}
use Rattle.bv_io.specs.Log.{Event, Wrote, NotWritten, log_code}

-- what was written, the greatest number of bytes, the number of writes made so far, the numbers of the writes that are
-- to fail, the count of faults, and the log
pub record MemSinkState : Type 0 where
  pub bytes : List ℕ
  pub room : ℕ
  pub writes : ℕ
  pub failing : List ℕ
  pub faults : ℕ
  pub log : List Event

-- a sink's state is stored as the tuple of its parts
abbrev pub state_code : Coded MemSinkState
state_code =
    code_by (List ℕ × (ℕ × (ℕ × (List ℕ × (ℕ × List Event))))) (coded× (coded_list coded_ℕ) (coded× coded_ℕ (coded× coded_ℕ (coded× (coded_list coded_ℕ) (coded× coded_ℕ log_code)))))
    (λ s. (s.bytes, (s.room, (s.writes, (s.failing, (s.faults, s.log))))))
    (λ p. record { bytes = p.0; room = p.1.0; writes = p.1.1.0; failing = p.1.1.1.0; faults = p.1.1.1.1.0; log = p.1.1.1.1.1 })
    (λ _. refl)

-- nothing was written, and nothing is to fail
abbrev pub empty_sink : ℕ → MemSinkState
empty_sink room = record { bytes = []; room = room; writes = 0; failing = []; faults = 0; log = [] }

-- the number of the next write
abbrev pub next_write : MemSinkState → ℕ
next_write s = counted s.writes

-- the next write isn't to fail, and n bytes have room
abbrev pub MayWrite : MemSinkState → ℕ → Type 0
MayWrite s count = (length s.bytes + count ≤ s.room) × ¬ Contains s.failing (next_write s)

-- the state after a write that was accepted
abbrev pub state_written : MemSinkState → List ℕ → MemSinkState
state_written s bytes = record s { bytes = s.bytes ++ bytes; writes = next_write s; log = Wrote bytes ∷ s.log }

-- the state after a write that failed
abbrev pub state_failed : MemSinkState → List ℕ → MemSinkState
state_failed s bytes = record s { writes = next_write s; faults = counted s.faults; log = NotWritten bytes ∷ s.log }
