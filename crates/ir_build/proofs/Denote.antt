-- What the meaning makes of a place of the machine: the operations of its item that are left, the items that follow, and then
-- the calls outwards.
use Rattle.std.specs.Prelude.{ℕ, suc, List, [], ◌∷◌, Option, None, Some, length}
use Rattle.bas_ast.specs.declared.program.Prog.{Prog}
use Rattle.bas_ir.specs.declared.ir.Ir.{Ir}
use Rattle.bas_ir.specs.declared.op.Op.{Op}
use Rattle.bas_ir.specs.Effects.{Effect, Falls, Goes, Opens, Enters, effect}
use Rattle.bas_ir.specs.Places.{Pending, result_pushed, Frame, Place, level_of, item_from, front}
use Rattle.bas_store.specs.Cells.{Value as Content}
use Rattle.bv_run.specs.Outcome.{Outcome}
use Rattle.bv_run.specs.Outcome as outcomes
use Rattle.bv_run.specs.declared.report.Report.TheVariants.{Done}
use Rattle.bas_sem.specs.State.{State}
use Rattle.bas_sem.specs.Course.{Course, Value, Raised, Over, Spent, Action, on_value, ◌>>=◌, ◌>>◌, give}
use Rattle.bas_sem.specs.Calls.{Calls, Level, Next, GoOn, call, call_ended, handled, onward}
use Rattle.bas_sem.specs.Laws.{executed}
use Rattle.bas_sem.specs.Loops.{opens}
use Rattle.bas_sem.specs.Meaning.{outcome_of}

module _ (prog : Prog) (ir : Ir) where
  abbrev pub calls_at : Level → Calls
  calls_at level = call (executed prog) level

  -- where an entry that opened leads: on in the item, or to another item
  abbrev pub opened_then : (Pending → Action Next) → Option ℕ → Pending → Action Next
  opened_then then_do None pending = then_do pending
  opened_then then_do (Some to) pending = give (GoOn to)

  -- what follows an effect, where this is what follows in the item, and this item is the next
  abbrev pub carry : Level → ℕ → (Pending → Action Next) → Effect → Action Next
  carry level item then_do (Falls pending) = then_do pending
  carry level item then_do (Goes next) = give next
  carry level item then_do (Opens line opening to pending) = opens level.depth line opening item >> opened_then then_do to pending
  carry level item then_do (Enters line kind body values pending) =
      calls_at level line kind body values >>= (λ value. then_do (result_pushed kind value pending))

  -- operations, on what is pending, before an item
  abbrev pub den : Level → ℕ → List Op → Pending → Action Next
  den level item [] pending = give (GoOn item)
  den level item (op ∷ ops) pending = effect ir level op pending >>= carry level item (den level item ops)

  -- the call that runs goes on after an item
  abbrev pub goes_on_from : Level → Course Next → Course (Option Content)
  goes_on_from level r = on_value (handled level r) (onward (executed prog level))

  -- what the run comes to, where the latest call comes to this
  abbrev pub resume : List Frame → Course (Option Content) → Outcome
  resume [] r = outcome_of r
  resume (frame ∷ frames) r = resume frames (goes_on_from (level_of frames)
      (on_value (call_ended (suc (length frames)) frame.entry r)
      (λ value. den (level_of frames) (item_from ir frame.back) (front ir frame.back) (result_pushed frame.kind value frame.pending))))

  -- operations of the call that runs, before an item
  abbrev pub piece : List Frame → ℕ → List Op → Pending → State → Outcome
  piece frames item ops pending s = resume frames (goes_on_from (level_of frames) (den (level_of frames) item ops pending s))

  -- a place of the machine
  abbrev pub denote : Place → State → Outcome
  denote place s = piece place.frames (item_from ir place.pc) (front ir place.pc) place.pending s

  -- what a step leads to
  abbrev pub after : Course Place → Outcome
  after (Value place s) = denote place s
  after (Raised handler s) = outcomes.Over s.output s.arena Done
  after (Over report s) = outcomes.Over s.output s.arena report
  after (Spent s) = outcomes.Going s.output s.arena
