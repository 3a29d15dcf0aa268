-- Running what has an outcome for every input and bound: taking its input, the run, and putting its arena. Why a run
-- ends as it does. This project's own.
use Rattle.std.specs.Prelude.{◌≡◌, ◌≢◌, ◌⊎◌, ℕ, ◌≤◌, List, [], ◌∷◌, length, Option, Some, None}
use Rattle.bv_base.specs.Limits.{input_bytes}
use Rattle.bv_io.specs.declared.shelf.PutError.TheVariants as put_errors
use Rattle.bv_io.specs.Log.{Put, NotPut}
use Rattle.bv_io.specs.Shelf.{Rose, Tells}
use Rattle.bv_io.specs.Sink.{with_bytes, WritesPart}
use Rattle.bv_run.specs.declared.report.RunEnd.{RunEnd}
use Rattle.bv_run.specs.declared.report.RunEnd.TheVariants as ends
use Rattle.bv_run.specs.Outcome.{Outcome, Over, Going, Broken, output_of}
use Rattle.bv_io.specs.Writes.{byte_writes, FailsAtByte}
use Rattle.profile_check.specs.declared.refusal.Refusal.{Refusal}
use Rattle.profile_check.specs.declared.refusal.Refusal.TheVariants as refusals
use Rattle.basv_top.specs.Ending.{Ending, Refused, WriteFault, Ran, long_input}
use Rattle.basv_top.specs.Seen.{SeenShelf, SeenSink, Silent, Same}
use Rattle.basv_top.specs.Taking.{TakeFails, Takes, Calm}
use Rattle.basv_words.specs.Command.{Options}

-- what is run: for an input and a bound it has an outcome
abbrev pub Runner : Type 0
Runner = List ℕ → ℕ → Outcome

-- how a run ended that shows this
abbrev pub end_of : Outcome → RunEnd
end_of (Over out arena report) = ends.Over report
end_of (Going out arena) = ends.Going
end_of (Broken out arena kind address) = ends.Broken kind address

-- the arena that a run left
abbrev pub arena_left : Outcome → List ℕ
arena_left (Over out arena report) = arena
arena_left (Going out arena) = arena
arena_left (Broken out arena kind address) = arena

-- the run's output was written, each byte by a write of its own
abbrev pub WritesRun : Outcome → SeenSink → SeenSink → Type 0
WritesRun outcome before after =
    (after.written ≡ with_bytes before.written (output_of outcome)) × (after.log ≡ byte_writes (output_of outcome) before.log)

-- the output failed, and has a first part of what the run writes, byte by byte
abbrev pub FaultsRun : Outcome → SeenSink → SeenSink → Type 0
FaultsRun outcome before after =
    WritesPart before.written (output_of outcome) after.written × FailsAtByte (output_of outcome) before.log after.log × Rose before.faults after.faults

-- no name but this one changed
abbrev pub OthersSame : SeenShelf → SeenShelf → List ℕ → Type 0
OthersSame before after name = (n : List ℕ) → n ≢ name → after.content n ≡ before.content n

-- the input was taken under its name, or is empty where it has none
abbrev pub TakesInput : SeenShelf → SeenShelf → Option (List ℕ) → List ℕ → Type 0
TakesInput before after None input = (after ≡ before) × (input ≡ [])
TakesInput before after (Some name) input = Takes before after name input × (length input ≤ input_bytes)

-- why it could not be taken
abbrev pub InputFails : SeenShelf → SeenShelf → Option (List ℕ) → Ending → Type 0
InputFails before after None ending = ⊥
InputFails before after (Some name) ending = TakeFails before after name input_bytes long_input ending

-- the arena was put under its name, or nowhere where it has none
abbrev pub PutsArena : SeenShelf → SeenShelf → Option (List ℕ) → List ℕ → Type 0
PutsArena before after None arena = after ≡ before
PutsArena before after (Some name) arena =
    (after.log ≡ Put name arena ∷ before.log) × Tells (after.content name) (Some arena) × OthersSame before after name

-- memory ran out for that
abbrev pub ArenaUnput : SeenShelf → SeenShelf → Option (List ℕ) → List ℕ → Type 0
ArenaUnput before after None arena = ⊥
ArenaUnput before after (Some name) arena = (after.log ≡ NotPut name arena put_errors.NoMemory ∷ before.log) × Same before after

-- the shelf failed at that
abbrev pub ArenaFaults : SeenShelf → SeenShelf → Option (List ℕ) → List ℕ → Type 0
ArenaFaults before after None arena = ⊥
ArenaFaults before after (Some name) arena =
    (after.log ≡ NotPut name arena put_errors.Failed ∷ before.log) × Rose before.put_faults after.put_faults × OthersSame before after name

-- Why a run with this outcome ends so, from where its input was taken. Memory ran out before it began; or for putting
-- the arena, once all output was written; the output failed, and the arena wasn't put; the shelf failed at the arena; or
-- the run came to its end or to the bound, and its output and its arena are outside.
abbrev pub RunEnds : Outcome → Option (List ℕ) → ℕ → SeenShelf → SeenShelf → SeenSink → SeenSink → Ending → Type 0
RunEnds outcome arena bound before after out_before out_after ending =
    ((ending ≡ Refused refusals.NoMemory) × (after ≡ before) × Silent out_before out_after)
    ⊎ (((ending ≡ Refused refusals.NoMemory) × WritesRun outcome out_before out_after × ArenaUnput before after arena (arena_left outcome))
    ⊎ (((ending ≡ WriteFault) × FaultsRun outcome out_before out_after × (after ≡ before))
    ⊎ (((ending ≡ WriteFault) × WritesRun outcome out_before out_after × ArenaFaults before after arena (arena_left outcome))
    ⊎ ((ending ≡ Ran (end_of outcome) bound) × WritesRun outcome out_before out_after × PutsArena before after arena (arena_left outcome)))))

-- Why a command with these options ends so, from where its program or image was taken and found good: its input could
-- not be taken, or it was, and the run on it ended.
abbrev pub RunsWith : Runner → Options → SeenShelf → SeenShelf → SeenSink → SeenSink → Ending → Type 0
RunsWith runner options before after out_before out_after ending =
    (InputFails before after options.input ending × Calm before after × Silent out_before out_after)
    ⊎ ((input : List ℕ) × (ready : SeenShelf) × TakesInput before ready options.input input × Calm before ready
    × RunEnds (runner input options.steps) options.arena options.steps ready after out_before out_after ending)

-- Why a command that runs the content of a name ends so, where `RunsAs` says which bytes run, and how, `Refuses` which
-- are refused, and `max` how many there may be: the content could not be taken; or it was, and it runs; or it was, and is
-- refused, or memory ran out for it.
abbrev pub EndsRunning : (List ℕ → Runner → Type 0) → (List ℕ → Ending → Type 0) → ℕ → Refusal → SeenShelf → SeenShelf → SeenSink → SeenSink → List ℕ → Options → Ending → Type 0
EndsRunning RunsAs Refuses max too_long before after out_before out_after name options ending =
    (TakeFails before after name max too_long ending × Calm before after × Silent out_before out_after)
    ⊎ ((bytes : List ℕ) × (taken : SeenShelf) × Takes before taken name bytes × Calm before taken × (length bytes ≤ max)
    × (((runner : Runner) × RunsAs bytes runner × RunsWith runner options taken after out_before out_after ending)
    ⊎ ((Refuses bytes ending ⊎ (ending ≡ Refused refusals.NoMemory)) × (after ≡ taken) × Silent out_before out_after)))
