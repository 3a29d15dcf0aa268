-- What a run under a bound shows, and when two runs agree. This project's own.
use Rattle.std.specs.Prelude.{◌≡◌, ◌≢◌, ℕ, List, ◌++◌}
use Rattle.bv_run.specs.declared.report.Report.{Report}
use Rattle.bv_run.specs.declared.report.Trap.{Trap}

-- The run is over, goes on, or its machine broke, with what was written and the arena.
pub data Outcome : Type 0 where
  Over : (out arena : List ℕ) (report : Report) → Outcome
  Going : (out arena : List ℕ) → Outcome
  Broken : (out arena : List ℕ) (kind : Trap) (address : ℕ) → Outcome

-- what was written
abbrev pub output_of : Outcome → List ℕ
output_of (Over out arena report) = out
output_of (Going out arena) = out
output_of (Broken out arena kind address) = out

-- the second list begins with the first
abbrev pub IsPrefix : List ℕ → List ℕ → Type 0
IsPrefix xs ys = (more : List ℕ) × (ys ≡ xs ++ more)

-- Two runs, each given by its outcomes at every bound, end alike or go on alike. The bounds need not be equal.
pub record RunsAgree (source target : ℕ → Outcome) : Type 0 where
  -- where the source is over, the target comes to be over with the same output, arena and report
  pub ends : (n : ℕ) (out arena : List ℕ) (report : Report) → source n ≡ Over out arena report → (m : ℕ) × (target m ≡ Over out arena report)
  -- the other way round
  pub ends_only : (m : ℕ) (out arena : List ℕ) (report : Report) → target m ≡ Over out arena report → (n : ℕ) × (source n ≡ Over out arena report)
  -- what the source has written while it goes on, the target comes to write
  pub writes : (n : ℕ) (out arena : List ℕ) → source n ≡ Going out arena → (m : ℕ) × IsPrefix out (output_of (target m))
  -- the other way round
  pub writes_only : (m : ℕ) (out arena : List ℕ) → target m ≡ Going out arena → (n : ℕ) × IsPrefix out (output_of (source n))
  -- the target never breaks
  pub never_broken : (m : ℕ) (out arena : List ℕ) (kind : Trap) (address : ℕ) → target m ≢ Broken out arena kind address
