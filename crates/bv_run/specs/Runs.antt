-- Runs of a machine that is given by its step. This project's own.
use Rattle.std.specs.Prelude.{ℕ, zero, suc, List, ◌++◌}
use Rattle.bv_run.specs.declared.report.Report.{Report}
use Rattle.bv_run.specs.declared.report.Trap.{Trap}
use Rattle.bv_run.specs.Outcome.{Outcome}
use Rattle.bv_run.specs.Outcome as outcomes

-- A step goes on to a state, or ends the run in one. It may write bytes.
pub data Turn (S E : Type 0) : Type 0 where
  Goes : (state : S) (bytes : List ℕ) → Turn S E
  Ends : (state : S) (bytes : List ℕ) (end : E) → Turn S E

-- how far a run has come after some steps, with all that it wrote: it is going, or it has ended
pub data Progress (S E : Type 0) : Type 0 where
  Going : (state : S) (out : List ℕ) → Progress S E
  Ended : (state : S) (out : List ℕ) (end : E) → Progress S E

-- what follows a step: a run that goes on from its state, after what was written
abbrev pub after_turn : {S E : Type 0} → Turn S E → (S → List ℕ → Progress S E) → List ℕ → Progress S E
after_turn (Goes state bytes) next out = next state (out ++ bytes)
after_turn (Ends state bytes end) next out = Ended state (out ++ bytes) end

-- At most n steps from a state, after what was written. It stays closed, so that no proof counts through a bound.
unfoldable pub run : {S E : Type 0} → (S → Turn S E) → ℕ → S → List ℕ → Progress S E
run step zero state out = Going state out
run step (suc n) state out = after_turn (step state) (run step n) out

-- one more than the steps that follow a step, if it goes on
abbrev pub steps_of_turn : {S E : Type 0} → Turn S E → (S → ℕ) → ℕ
steps_of_turn (Goes state bytes) rest = suc (rest state)
steps_of_turn (Ends state bytes end) rest = 1

-- The number of steps that are taken from a state within n: n, or fewer where one of them ends the run.
unfoldable pub steps_made : {S E : Type 0} → (S → Turn S E) → ℕ → S → ℕ
steps_made step zero state = 0
steps_made step (suc n) state = steps_of_turn (step state) (steps_made step n)

-- the progress of a run whose steps came after others that had written this
abbrev pub with_front : {S E : Type 0} → List ℕ → Progress S E → Progress S E
with_front front (Going state out) = Going state (front ++ out)
with_front front (Ended state out end) = Ended state (front ++ out) end

-- what a run has written
abbrev pub output_so_far : {S E : Type 0} → Progress S E → List ℕ
output_so_far (Going state out) = out
output_so_far (Ended state out end) = out

-- how a machine of the project ends: its program is over, with a report, or the machine broke at an address
pub data End : Type 0 where
  Over : (report : Report) → End
  Broken : (kind : Trap) (address : ℕ) → End

-- what a run shows of itself, where the arena is a part of its machine's state
abbrev pub outcome_of : {S : Type 0} → (S → List ℕ) → Progress S End → Outcome
outcome_of arena (Going state out) = outcomes.Going out (arena state)
outcome_of arena (Ended state out (Over report)) = outcomes.Over out (arena state) report
outcome_of arena (Ended state out (Broken kind address)) = outcomes.Broken out (arena state) kind address
