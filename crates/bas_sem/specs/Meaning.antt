-- What a program does, and what it shows of itself after at most n steps. The counting of steps is this project's own.
use Rattle.std.specs.Prelude.{ℕ, zero, suc, List, Option, None, Some}
use Rattle.bas_ast.specs.declared.program.Prog.{Prog}
use Rattle.bas_store.specs.Cells.{Value as Content}
use Rattle.bv_run.specs.Outcome.{Outcome}
use Rattle.bv_run.specs.Outcome as outcomes
use Rattle.bv_run.specs.declared.report.Report.TheVariants.{Done}
use Rattle.bas_sem.specs.State.{State, start}
use Rattle.bas_sem.specs.Course.{Course, Value, Raised, Over, Spent, Action, ◌>>=◌, ◌>>◌, over}
use Rattle.bas_sem.specs.Actions.{take_step}
use Rattle.bas_sem.specs.Calls.{Level, outermost, call, handling, onward}
use Rattle.bas_sem.specs.Items.{execute_item}
use Rattle.bas_sem.specs.Places.{Row, row_at}

-- the item at a place, or the end after the last line, which takes no step
abbrev pub at_row : {A : Type 0} → Option Row → (Row → Action A) → Action A
at_row None then_do = over Done
at_row (Some row) then_do = then_do row

-- Executes the item at a place, for one step, and goes on in the same call until it is left, with at most fuel items in a
-- row. The fuel is for the recursion alone: it is at least the steps that are left, so it never runs out before them.
unfoldable pub execute : Prog → ℕ → Level → ℕ → Action (Option Content)
execute prog zero level place = at_row (row_at prog place) (λ _ s. Spent s)
execute prog (suc fuel) level place = at_row (row_at prog place) (λ row. do
  take_step (Some place)
  next ← handling level (execute_item prog (call (execute prog fuel) level) level place row.line row.item)
  onward (execute prog fuel level) next)

-- What a run shows of itself. The first two cases never come: the outermost level is never left, and takes each error that
-- has a handler.
abbrev pub outcome_of : Course (Option Content) → Outcome
outcome_of (Value value s) = outcomes.Over s.output s.arena Done
outcome_of (Raised handler s) = outcomes.Over s.output s.arena Done
outcome_of (Over report s) = outcomes.Over s.output s.arena report
outcome_of (Spent s) = outcomes.Going s.output s.arena

-- the run of a program on an input, at a bound of n steps
unfoldable pub source_run : Prog → List ℕ → ℕ → Outcome
source_run prog input n = outcome_of (execute prog n outermost 0 (start prog.names input n))

-- the state of what a piece of a run came to
abbrev pub state_of : {A : Type 0} → Course A → State
state_of (Value value s) = s
state_of (Raised handler s) = s
state_of (Over report s) = s
state_of (Spent s) = s

-- The place of the item that the latest of the first n steps of a run executed, if it executed one: where the run has not ended
-- before, that is the item which step n executes.
unfoldable pub latest_place : Prog → List ℕ → ℕ → Option ℕ
latest_place prog input n = (state_of (execute prog n outermost 0 (start prog.names input n))).latest
