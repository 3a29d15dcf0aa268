-- The board: a machine with the count of its steps, and what a run of it says.
use Rattle.std.specs.Prelude.{◌≡◌, ℕ, ◌+◌, ◌-◌, ◌^◌, ◌<◌, min, Option, Bool, true, false, List, []}
use Rattle.bv_run.specs.declared.report.RunEnd.{RunEnd}
use Rattle.bv_run.specs.declared.report.RunEnd.TheVariants as ends
use Rattle.bv_run.specs.Runs.{Goes, End, Over, Broken, Progress, Going, Ended, run}
use Rattle.bv_io.specs.Sink.{with_bytes, WritesPart}
use Rattle.arm2_machine.specs.Machine.{Machine}
use Rattle.arm2_machine.specs.Step.{board_step}

-- a board as its callers see it: its machine, the number of instructions made, and whether its run has ended
pub record BoardState : Type 0 where
  pub machine : Machine
  pub steps : ℕ
  pub closed : Bool

-- a run by its answer, the state that it leaves, and what it wrote
abbrev pub progress_of : RunEnd → Machine → List ℕ → Progress Machine End
progress_of ends.Going m out = Going m out
progress_of (ends.Over report) m out = Ended m out (Over report)
progress_of (ends.Broken kind address) m out = Ended m out (Broken kind address)

-- a board is closed once its run has come to an end
abbrev pub is_end : RunEnd → Bool
is_end ends.Going = false
is_end (ends.Over report) = true
is_end (ends.Broken kind address) = true

-- The sink failed at an instruction within the bound. Those before it were made and what they write was written; it was made
-- and counted too, and a first part of what it writes was written.
pub record HasFaulted (bound : ℕ) (old new : BoardState) (before after : Option (List ℕ)) : Type 0 where
  pub made : ℕ
  pub machine : Machine
  pub out : List ℕ
  pub last : List ℕ
  pub within : made < bound
  pub stands : run board_step made old.machine [] ≡ Going machine out
  pub goes : board_step machine ≡ Goes new.machine last
  pub part : WritesPart (with_bytes before out) last after
  pub counted : new.steps ≡ min (old.steps + (made + 1)) (2 ^ 64 - 1)
