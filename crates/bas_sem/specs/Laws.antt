-- The laws of the meaning. This project's own.
use Rattle.std.specs.Prelude.{◌≡◌, ℕ, ◌+◌, List, Option, Some}
use Rattle.bas_ast.specs.declared.program.Prog.{Prog}
use Rattle.bas_store.specs.Cells.{Value as Content}
use Rattle.bv_run.specs.Outcome.{Outcome, Over, Going, Broken, IsPrefix, output_of}
use Rattle.bv_run.specs.declared.report.Report.{Report}
use Rattle.bas_sem.specs.State.{State, start}
use Rattle.bas_sem.specs.Course.{Course, Action, ◌>>=◌, ◌>>◌}
use Rattle.bas_sem.specs.Course as courses
use Rattle.bas_sem.specs.Actions.{take_step}
use Rattle.bas_sem.specs.Calls.{Level, outermost, call, handling, onward}
use Rattle.bas_sem.specs.Items.{execute_item}
use Rattle.bas_sem.specs.Meaning.{at_row, execute, source_run}
use Rattle.bas_sem.specs.Places.{row_at}

-- A run that is over stays as it is under a greater bound, and one that goes on has written the front of what it then has.
abbrev pub IsKept : Outcome → Outcome → Type 0
IsKept (Over out arena report) longer = longer ≡ Over out arena report
IsKept (Going out arena) longer = IsPrefix out (output_of longer)
IsKept (Broken out arena kind address) longer = ⊥

-- a greater bound keeps an end, and extends the output of a run that goes on
abbrev pub BoundKept : Prog → Type 0
BoundKept prog = (input : List ℕ) (n more : ℕ) → IsKept (source_run prog input n) (source_run prog input (n + more))

-- two bounds never give two ends
abbrev pub EndUnique : Prog → Type 0
EndUnique prog = (input : List ℕ) (m n : ℕ) (out arena out' arena' : List ℕ) (report report' : Report)
    → source_run prog input m ≡ Over out arena report → source_run prog input n ≡ Over out' arena' report'
    → Over out arena report ≡ Over out' arena' report'

-- executing from a place with the steps that are left, whatever their number
abbrev pub executed : Prog → Level → ℕ → Action (Option Content)
executed prog level place = λ s. execute prog s.left level place s

-- It executes the item at the place, for one step, and goes on in the same call.
abbrev pub GoesOn : Prog → Type 0
GoesOn prog = (level : Level) (place : ℕ) (s : State) → executed prog level place s
    ≡ at_row (row_at prog place) (λ row. take_step (Some place)
    >> (handling level (execute_item prog (call (executed prog) level) level place row.line row.item) >>= onward (executed prog level))) s

-- the run is over, or no step is left
abbrev pub IsEnd : Course (Option Content) → Type 0
IsEnd (courses.Value value s) = ⊥
IsEnd (courses.Raised handler s) = ⊥
IsEnd (courses.Over report s) = Unit {0}
IsEnd (courses.Spent s) = Unit {0}

-- the outermost level is never left, and no error passes it
abbrev pub OutermostEnds : Prog → Type 0
OutermostEnds prog = (input : List ℕ) (n : ℕ) → IsEnd (execute prog n outermost 0 (start prog.names input n))
