-- A step of the machine keeps what the meaning makes of its place.
use Rattle.std.proofs.Common.{◌≡◌, inl, inr, ℕ, zero, suc, ◌+◌, List, [], ◌∷◌, Option, None, Some, refl, sym, ap, ◌∙◌, length, arith}
use Rattle.std.specs.Prelude.{ℤ, pos, Bool, true, false, nat_le}
use Rattle.bas_ast.specs.declared.program.Prog.{Prog}
use Rattle.bas_ir.specs.declared.op.Op.{Op}
use Rattle.bas_ir.specs.Effects.{Effect, Falls, Goes, Opens, Enters, effect}
use Rattle.bas_ir.specs.Machine.{at_item, left, entered, opened_to, follow, thrown_if, thrown, caught, performed, begun, at_op, flat_step}
use Rattle.bas_ir.specs.Places.{Pending, nothing, result_pushed, Frame, Place, level_of, item_from, is_marked, front}
use Rattle.bas_store.specs.Cells.{Value as Content}
use Rattle.bas_store.specs.Opened.{can_open, with_opened}
use Rattle.bas_store.specs.Stored.{Handler, Opening}
use Rattle.bas_value.specs.Errors.{no_room, error_text}
use Rattle.bv_run.specs.Outcome.{Outcome}
use Rattle.bv_run.specs.Outcome as outcomes
use Rattle.bv_run.specs.declared.report.Report.{Report}
use Rattle.bv_run.specs.declared.report.Report.TheVariants.{Done}
use Rattle.bas_sem.specs.State.{State}
use Rattle.bas_sem.specs.Course.{Course, Value, Raised, Over, Spent, Action, on_value, ◌>>=◌, ◌>>◌, give, over}
use Rattle.bas_sem.specs.Actions.{spend, take_step, raised_to, taker, passed, taken, place_of, owner_of}
use Rattle.bas_sem.specs.Calls.{Kind, Level, Body, Next, GoOn, Leave, call, enter, handling, onward, taken_here, slots_saved, values_assigned, has_room}
use Rattle.bas_sem.specs.Items.{execute_item}
use Rattle.bas_sem.specs.Laws.{executed}
use Rattle.bas_sem.specs.Loops.{open_if}
use Rattle.bas_sem.specs.Meaning.{at_row}
use Rattle.bas_sem.specs.Places.{Row, row_at}
use Rattle.bas_sem.proofs.Runs.{goes_on, zero_least}
use Rattle.std.specs.Ordering.{int_eq}
use Rattle.ir_build.specs.Code.{row_code, flat_code}
use Rattle.ir_build.proofs.Denote.{carry, opened_then, den, goes_on_from, resume, piece, denote, after}
use Rattle.ir_build.proofs.ItemDenotes.{row_den}
use Rattle.ir_build.proofs.Spots.{Spot, Past, Inside, Begins, spot, IsItemOf, front_at_start, item_at_start}

module _ (prog : Prog) where
  -- the parts of the denotation, for this program's code
  abbrev resumed : List Frame → Course (Option Content) → Outcome
  resumed frames r = resume prog (flat_code prog) frames r

  abbrev from : List Frame → Course Next → Course (Option Content)
  from frames r = goes_on_from prog (flat_code prog) (level_of frames) r

  abbrev comes_to : Course Place → Outcome
  comes_to r = after prog (flat_code prog) r

  -- the calls don't see an end
  resume_over : (frames : List Frame) (r : Report) (s : State) → resumed frames (Over r s) ≡ outcomes.Over s.output s.arena r
  resume_over [] r s = refl
  resume_over (frame ∷ frames) r s = resume_over frames r s

  resume_spent : (frames : List Frame) (s : State) → resumed frames (Spent s) ≡ outcomes.Going s.output s.arena
  resume_spent [] s = refl
  resume_spent (frame ∷ frames) s = resume_spent frames s

  -- where no item is, the run is over
  executed-none : (level : Level) (item : ℕ) (s : State) → row_at prog item ≡ None → executed prog level item s ≡ Over Done s
  executed-none level item s none =
      goes_on prog level item s
      ∙ ap (λ o. at_row o (λ row. take_step (Some item)
      >> (handling level (execute_item prog (call (executed prog) level) level item row.line row.item) >>= onward (executed prog level))) s) none

  same_item : (level : Level) (item found : ℕ) (s : State) → IsItemOf prog item found → executed prog level found s ≡ executed prog level item s
  same_item level item found s (inl is) = ap (λ k. executed prog level k s) is
  same_item level item found s (inr none) = executed-none level found s none.1 ∙ sym (executed-none level item s none.0)

  -- an item's start is going on with the item
  pub item_denote : (frames : List Frame) (item : ℕ) (s : State)
      → denote prog (flat_code prog) (at_item (flat_code prog) item frames) s ≡ resumed frames (executed prog (level_of frames) item s)
  item_denote frames item s =
      ap (λ ops. piece prog (flat_code prog) frames (item_from (flat_code prog) (at_item (flat_code prog) item frames).pc) ops nothing s) (front_at_start prog item)
      ∙ ap (resumed frames) (same_item (level_of frames) item _ s (item_at_start prog item))

  -- an error goes to its handler
  taken_denote : (here : Bool) (frames : List Frame) (h : Handler) (outwards : State → Course Place) (s : State)
      → resumed frames (Raised h s) ≡ comes_to (outwards s)
      → resumed frames (on_value (taken_here here h s) (onward (executed prog (level_of frames)))) ≡ comes_to (thrown_if here (flat_code prog) h frames outwards s)
  taken_denote true frames h outwards s out = sym (item_denote frames (place_of h) (record s { stored = taken h s.stored }))
  taken_denote false frames h outwards s out = out

  thrown_denote : (frames : List Frame) (h : Handler) (s : State) → resumed frames (from frames (Raised h s)) ≡ comes_to (thrown (flat_code prog) h frames s)
  thrown_denote [] h s =
      ap (λ here. resumed [] (on_value (taken_here here h s) (onward (executed prog (level_of []))))) (zero_least (owner_of h))
      ∙ taken_denote true [] h (over Done) s refl
  thrown_denote (frame ∷ frames) h s =
      taken_denote (nat_le (suc (length frames)) (owner_of h)) (frame ∷ frames) h
      (λ t. thrown (flat_code prog) h frames (record t { stored = passed h (suc (length frames)) t.stored })) s
      (thrown_denote frames h (record s { stored = passed h (suc (length frames)) s.stored }))

  raised_denote : (h : Option Handler) (frames : List Frame) (error : ℤ) (text : List ℕ) (line : ℕ) (then_do : Option Content → Action Next) (s : State)
      → resumed frames (from frames ((raised_to h error text line >>= then_do) s)) ≡ comes_to (caught (flat_code prog) frames (raised_to h error text line s))
  raised_denote None frames error text line then_do s = resume_over frames _ _
  raised_denote (Some h) frames error text line then_do s = thrown_denote frames h _

  -- what follows in the item
  abbrev rest_of : Place → Pending → Action Next
  rest_of place q = den prog (flat_code prog) (level_of place.frames) (item_from (flat_code prog) (suc place.pc)) (front (flat_code prog) (suc place.pc)) q

  -- the call is left
  left_denote : (frames : List Frame) (value : Option Content) (s : State) → resumed frames (Value value s) ≡ comes_to (caught (flat_code prog) frames (left value frames s))
  left_denote [] value s = refl
  left_denote (frame ∷ frames) value s = refl

  -- a step, and then a body's first item
  entry_denote : (frames : List Frame) (item n : ℕ) (s : State)
      → resumed frames (on_value (spend None n s) (λ _. executed prog (level_of frames) item))
      ≡ comes_to (on_value (spend None n s) (λ _. give (at_item (flat_code prog) item frames)))
  entry_denote frames item zero s = resume_spent frames s
  entry_denote frames item (suc n) s = sym (item_denote frames item (record s { left = n; latest = None }))

  caught_step : (outer frames : List Frame) (item n : ℕ) (s : State)
      → caught (flat_code prog) outer (on_value (spend None n s) (λ _. give (at_item (flat_code prog) item frames))) ≡ on_value (spend None n s) (λ _. give (at_item (flat_code prog) item frames))
  caught_step outer frames item zero s = refl
  caught_step outer frames item (suc n) s = refl

  enters_denote : (fits : Bool) (place : Place) (line : ℕ) (kind : Kind) (body : Body) (values : List Content) (q : Pending) (s : State)
      → resumed place.frames (from place.frames ((enter fits (executed prog) (level_of place.frames) line kind body values >>= (λ value. rest_of place (result_pushed kind value q))) s))
      ≡ comes_to (caught (flat_code prog) place.frames (entered fits (flat_code prog) place line kind body values q s))
  enters_denote false place line kind body values q s =
      raised_denote (taker (int_eq (pos no_room) (pos 0)) s.handler) place.frames (pos no_room) (error_text no_room) line (λ value. rest_of place (result_pushed kind value q)) s
  enters_denote true place line kind body values q s =
      let t : State = record s { stored = values_assigned body.formals values (slots_saved (suc (length place.frames)) body.formals s.stored) } in
      let inner : List Frame = record { kind = kind; entry = s.handler; back = suc place.pc; pending = q } ∷ place.frames in
      entry_denote inner body.at s.left t ∙ sym (ap comes_to (caught_step place.frames inner body.at s.left t))

  -- an entry opens, with the item after the operation's own as its place
  no_room_denote : (h : Option Handler) (place : Place) (error : ℤ) (text : List ℕ) (line : ℕ) (one : Unit {0} → Action Next) (other : Unit {0} → Action Place) (s : State)
      → resumed place.frames (from place.frames ((raised_to h error text line >>= one) s))
      ≡ comes_to (caught (flat_code prog) place.frames ((raised_to h error text line >>= other) s))
  no_room_denote None place error text line one other s = resume_over place.frames _ _
  no_room_denote (Some h) place error text line one other s = thrown_denote place.frames h _

  opened_denote : (place : Place) (to : Option ℕ) (q : Pending) (s : State)
      → resumed place.frames (from place.frames (opened_then prog (flat_code prog) (rest_of place) to q s)) ≡ comes_to (Value (opened_to (flat_code prog) place to q) s)
  opened_denote place None q s = refl
  opened_denote place (Some item) q s = sym (item_denote place.frames item s)

  opens_denote : (fits : Bool) (place : Place) (line : ℕ) (opening : Opening) (to : Option ℕ) (q : Pending) (s : State)
      → resumed place.frames (from place.frames ((open_if fits (length place.frames) line opening (item_from (flat_code prog) (suc place.pc))
      >> opened_then prog (flat_code prog) (rest_of place) to q) s))
      ≡ comes_to (caught (flat_code prog) place.frames ((open_if fits (length place.frames) line opening (item_from (flat_code prog) (suc place.pc))
      >> give (opened_to (flat_code prog) place to q)) s))
  opens_denote false place line opening to q s =
      no_room_denote (taker (int_eq (pos no_room) (pos 0)) s.handler) place (pos no_room) (error_text no_room) line (λ _. opened_then prog (flat_code prog) (rest_of place) to q)
      (λ _. give (opened_to (flat_code prog) place to q)) s
  opens_denote true place line opening to q s =
      opened_denote place to q (record s { stored = with_opened (length place.frames) opening (item_from (flat_code prog) (suc place.pc)) s.stored })

  -- what an operation's effect leads to
  effect_denote : (place : Place) (r : Course Effect)
      → resumed place.frames (from place.frames (on_value r (carry prog (flat_code prog) (level_of place.frames) (item_from (flat_code prog) (suc place.pc)) (rest_of place))))
      ≡ comes_to (caught (flat_code prog) place.frames (on_value r (follow (flat_code prog) place)))
  effect_denote place (Value (Falls q) s) = refl
  effect_denote place (Value (Goes (GoOn item)) s) = sym (item_denote place.frames item s)
  effect_denote place (Value (Goes (Leave value)) s) = left_denote place.frames value s
  effect_denote place (Value (Opens line opening to q) s) = opens_denote (can_open s.stored) place line opening to q s
  effect_denote place (Value (Enters line kind body values q) s) =
      enters_denote (has_room (length place.frames) (length body.formals) s.stored) place line kind body values q s
  effect_denote place (Raised h s) = thrown_denote place.frames h s
  effect_denote place (Over r s) = resume_over place.frames r s
  effect_denote place (Spent s) = resume_spent place.frames s

  performed_denote : (place : Place) (op : Op) (s : State)
      → piece prog (flat_code prog) place.frames (item_from (flat_code prog) (suc place.pc)) (op ∷ front (flat_code prog) (suc place.pc)) place.pending s
      ≡ comes_to (performed (flat_code prog) place op s)
  performed_denote place op s = effect_denote place (effect (flat_code prog) (level_of place.frames) op place.pending s)

  -- an item, after its step
  begun_denote : (place : Place) (op : Op) (row : Row) (item n : ℕ) (s : State) → place.pending ≡ nothing
      → row_code prog item row ≡ op ∷ front (flat_code prog) (suc place.pc) → item_from (flat_code prog) (suc place.pc) ≡ suc item
      → resumed place.frames (on_value (spend (Some item) n s)
      (λ _. handling (level_of place.frames) (execute_item prog (call (executed prog) (level_of place.frames)) (level_of place.frames) item row.line row.item)
      >>= onward (executed prog (level_of place.frames))))
      ≡ comes_to (on_value (spend (Some item) n s) (λ _. performed (flat_code prog) place op))
  begun_denote place op row item zero s rest code next = resume_spent place.frames s
  begun_denote place op row item (suc n) s rest code next =
      let t : State = record s { left = n; latest = Some item } in
      let one : item + 1 ≡ item_from (flat_code prog) (suc place.pc) = omega (arith, next) in
      ap (λ r. resumed place.frames (from place.frames r)) (sym (row_den prog (level_of place.frames) item row t))
      ∙ ap (λ ops. piece prog (flat_code prog) place.frames (item + 1) ops nothing t) code
      ∙ ap (λ k. piece prog (flat_code prog) place.frames k (op ∷ front (flat_code prog) (suc place.pc)) nothing t) one
      ∙ ap (λ q. piece prog (flat_code prog) place.frames (item_from (flat_code prog) (suc place.pc)) (op ∷ front (flat_code prog) (suc place.pc)) q t) (sym rest)
      ∙ performed_denote place op t

  -- nothing is pending before an item
  abbrev pub AtRest : Place → Type 0
  AtRest place = is_marked (flat_code prog) place.pc ≡ true → place.pending ≡ nothing

  step_at : (place : Place) (s : State) → AtRest place → Spot prog place.pc → denote prog (flat_code prog) place s ≡ comes_to (flat_step (flat_code prog) place s)
  step_at place s rest (Past none empty row) =
      ap (λ ops. piece prog (flat_code prog) place.frames (item_from (flat_code prog) place.pc) ops place.pending s) empty
      ∙ ap (resumed place.frames) (executed-none (level_of place.frames) _ s row)
      ∙ resume_over place.frames Done s
      ∙ sym (ap (λ o. comes_to (at_op (flat_code prog) place o s)) none)
  step_at place s rest (Inside op is plain ops same) =
      ap (λ l. piece prog (flat_code prog) place.frames (item_from (flat_code prog) place.pc) l place.pending s) ops
      ∙ ap (λ k. piece prog (flat_code prog) place.frames k (op ∷ front (flat_code prog) (suc place.pc)) place.pending s) (sym same)
      ∙ performed_denote place op s
      ∙ sym (ap (λ o. comes_to (at_op (flat_code prog) place o s)) is
      ∙ ap (λ b. comes_to ((begun b (item_from (flat_code prog) place.pc) >> performed (flat_code prog) place op) s)) plain)
  step_at place s rest (Begins op row is marked empty found code next) =
      ap (λ ops. piece prog (flat_code prog) place.frames (item_from (flat_code prog) place.pc) ops place.pending s) empty
      ∙ ap (resumed place.frames) (goes_on prog (level_of place.frames) (item_from (flat_code prog) place.pc) s
      ∙ ap (λ o. at_row o (λ r. take_step (Some (item_from (flat_code prog) place.pc))
      >> (handling (level_of place.frames) (execute_item prog (call (executed prog) (level_of place.frames)) (level_of place.frames) (item_from (flat_code prog) place.pc) r.line r.item)
      >>= onward (executed prog (level_of place.frames)))) s) found)
      ∙ begun_denote place op row (item_from (flat_code prog) place.pc) s.left s (rest marked) code next
      ∙ sym (ap (λ o. comes_to (at_op (flat_code prog) place o s)) is
      ∙ ap (λ b. comes_to ((begun b (item_from (flat_code prog) place.pc) >> performed (flat_code prog) place op) s)) marked)

  pub step_denote : (place : Place) (s : State) → AtRest place → denote prog (flat_code prog) place s ≡ comes_to (flat_step (flat_code prog) place s)
  step_denote place s rest = step_at place s rest (spot prog place.pc)
