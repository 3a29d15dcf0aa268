-- What a command that runs something promises of its status, whatever it is that runs. This project's own.
use Rattle.std.specs.Prelude.{◌≡◌, ◌≢◌, ◌⊎◌, ℕ, ◌<◌, ◌≤◌, List, [], ◌∷◌, ◌++◌, length, Option, Some, None}
use Rattle.bv_base.specs.Limits.{input_bytes}
use Rattle.bv_io.specs.declared.shelf.TakeError.TheVariants as take_errors
use Rattle.bv_io.specs.Log.{Event, Took, NotTaken, Put}
use Rattle.bv_io.specs.Shelf.{Rose, Tells}
use Rattle.bv_run.specs.Outcome.{Outcome}
use Rattle.basv_top.specs.declared.status.Status.{Status}
use Rattle.basv_top.specs.declared.status.Status.TheVariants as statuses
use Rattle.basv_top.specs.Ending.{Ending, status_of, end_status}
use Rattle.basv_top.specs.Running.{Runner, end_of, arena_left, WritesRun}
use Rattle.basv_top.specs.Seen.{SeenShelf, SeenSink, Silent, Same}
use Rattle.basv_top.specs.Taking.{IsContent, CannotRead}
use Rattle.basv_words.specs.Command.{Options}

-- a run that came to its end, or to its bound, has one of these statuses
abbrev pub IsRunStatus : Status → Type 0
IsRunStatus statuses.Done = Unit {0}
IsRunStatus statuses.Failed = Unit {0}
IsRunStatus statuses.Bound = Unit {0}
IsRunStatus statuses.Stray = Unit {0}
IsRunStatus statuses.InputEnded = Unit {0}
IsRunStatus statuses.Broken = Unit {0}
IsRunStatus status = ⊥

-- the output of a run was written, and the status is that of its end
abbrev pub HasRun : Outcome → SeenSink → SeenSink → Status → Type 0
HasRun outcome before after status = (status ≡ end_status (end_of outcome)) × WritesRun outcome before after

-- the log of a shelf that gave these bytes, after this one
abbrev pub after_input : Option (List ℕ) → List ℕ → List Event → List Event
after_input None input log = log
after_input (Some name) input log = Took name input ∷ log

-- and that was handed the arena, after this one
abbrev pub after_arena : Option (List ℕ) → List ℕ → List Event → List Event
after_arena None arena log = log
after_arena (Some name) arena log = Put name arena ∷ log

-- the input is what the shelf tells of its name, or empty where it has none
abbrev pub InputTold : SeenShelf → Option (List ℕ) → List ℕ → Type 0
InputTold before None input = input ≡ []
InputTold before (Some name) input = Tells (before.content name) (Some input) × (length input ≤ input_bytes)

-- the arena is what the shelf tells of its name
abbrev pub ArenaTold : SeenShelf → Option (List ℕ) → List ℕ → Type 0
ArenaTold after None arena = Unit {0}
ArenaTold after (Some name) arena = Tells (after.content name) (Some arena)

-- the shelf gave these bytes under a name, when it was asked for the second time
abbrev pub GaveNext : SeenShelf → SeenShelf → Event → List ℕ → List ℕ → Type 0
GaveNext before after first name bytes = (later : List Event) × (after.log ≡ later ++ Took name bytes ∷ first ∷ before.log)

-- These bytes are the input for this call: the shelf gave them after this event, or it holds them and failed at no take;
-- or there is none.
abbrev pub IsInput : SeenShelf → SeenShelf → Event → Option (List ℕ) → List ℕ → Type 0
IsInput before after first None input = input ≡ []
IsInput before after first (Some name) input =
    (length input ≤ input_bytes)
    × (GaveNext before after first name input ⊎ ((before.content name ≡ Some (Some input)) × (Rose before.take_faults after.take_faults → ⊥)))

-- Nothing is held under the input's name, or the shelf failed to give it. It was asked once, after this event.
abbrev pub CannotReadInput : SeenShelf → SeenShelf → Event → Option (List ℕ) → Type 0
CannotReadInput before after first None = ⊥
CannotReadInput before after first (Some name) =
    ((after.log ≡ NotTaken name take_errors.Missing ∷ first ∷ before.log) × (before.content name ≡ Some None))
    ⊎ ((after.log ≡ NotTaken name take_errors.Failed ∷ first ∷ before.log) × Rose before.take_faults after.take_faults)

-- What such a command promises of the content of a name, where `RunsAs` says which bytes run, and how, and `Refuses` which
-- are refused.
pub record RunPromises (RunsAs : List ℕ → Runner → Type 0) (Refuses : List ℕ → Ending → Type 0) (before after : SeenShelf) (out_before out_after : SeenSink) (name : List ℕ) (options : Options) (status : Status) : Type 0 where
  -- Where the run came to its end or to its bound, it is that of what the name holds, on the input; the status and the
  -- output are those of the run; and the shelf gave these contents and was handed the arena, and nothing else.
  pub ran : IsRunStatus status
      → (bytes input : List ℕ) × (runner : Runner) × RunsAs bytes runner × Tells (before.content name) (Some bytes) × InputTold before options.input input
      × HasRun (runner input options.steps) out_before out_after status
      × (after.log ≡ after_arena options.arena (arena_left (runner input options.steps)) (after_input options.input input (Took name bytes ∷ before.log)))
      × ArenaTold after options.arena (arena_left (runner input options.steps))
  -- what can run is run, where neither the output failed nor a put, and there was memory
  pub complete : (bytes input : List ℕ) (runner : Runner) → RunsAs bytes runner → IsContent before after name bytes → IsInput before after (Took name bytes) options.input input
      → (Rose out_before.faults out_after.faults → ⊥) → (Rose before.put_faults after.put_faults → ⊥)
      → HasRun (runner input options.steps) out_before out_after status ⊎ (status ≡ statuses.NoMemory)
  -- bytes that are refused are refused for that, where there was memory
  pub refused : (bytes : List ℕ) (ending : Ending) → IsContent before after name bytes → Refuses bytes ending
      → (status ≡ status_of ending) ⊎ (status ≡ statuses.NoMemory)
  -- and an input that is too long
  pub long_input : (bytes input i : List ℕ) (runner : Runner) → RunsAs bytes runner → IsContent before after name bytes → options.input ≡ Some i → before.content i ≡ Some (Some input)
      → (Rose before.take_faults after.take_faults → ⊥) → input_bytes < length input → (status ≡ statuses.Limit) ⊎ (status ≡ statuses.NoMemory)
  -- what isn't there can't be read
  pub missing : before.content name ≡ Some None → (status ≡ statuses.ReadFault) ⊎ (status ≡ statuses.NoMemory)
  pub no_input : (bytes i : List ℕ) (runner : Runner) → RunsAs bytes runner → IsContent before after name bytes → options.input ≡ Some i → before.content i ≡ Some None
      → (status ≡ statuses.ReadFault) ⊎ (status ≡ statuses.NoMemory)
  -- the input is what can't be read only where the bytes of the name can run
  pub unreadable : status ≡ statuses.ReadFault
      → CannotRead before after name ⊎ ((bytes : List ℕ) × (runner : Runner) × RunsAs bytes runner × CannotReadInput before after (Took name bytes) options.input)
  -- nothing is put after a fault of the output
  pub unwritten : status ≡ statuses.WriteFault
      → (Rose out_before.faults out_after.faults × ((bytes input : List ℕ) × (after.log ≡ after_input options.input input (Took name bytes ∷ before.log))))
      ⊎ Rose before.put_faults after.put_faults
  -- no name changes but that of the arena, and that only where the arena came to be written
  pub others : (n : List ℕ) → options.arena ≢ Some n → after.content n ≡ before.content n
  pub same : (IsRunStatus status → ⊥) → (status ≡ statuses.WriteFault → ⊥) → Same before after
  -- the output is as it was unless the run began
  pub silent : (IsRunStatus status → ⊥) → (status ≡ statuses.WriteFault → ⊥) → (status ≡ statuses.NoMemory → options.arena ≡ None) → Silent out_before out_after
