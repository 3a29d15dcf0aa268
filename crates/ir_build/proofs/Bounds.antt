-- A number that falls at each operation of the machine, and what is pending at each place.
use Rattle.std.proofs.Common.{◌≡◌, ℕ, zero, suc, ◌+◌, ◌*◌, ◌<◌, ◌≤◌, List, [], ◌∷◌, Option, None, Some, refl, sym, ap, subst, length, drop, arith, length-drop}
use Rattle.std.specs.Prelude.{ℤ, pos, Bool, true, false, nat_le}
use Rattle.std.specs.Ordering.{int_eq}
use Rattle.std.proofs.Math.Nat.{mul-le-mul_right, suc-mul}
use Rattle.bas_ast.specs.declared.program.Prog.{Prog}
use Rattle.bas_ir.specs.declared.ir.Height.{Height}
use Rattle.bas_ir.specs.declared.op.Op.{Op}
use Rattle.bas_ir.specs.Effects.{Effect, Falls, Goes, Opens, Enters, effect}
use Rattle.bas_ir.specs.Heights.{Suffices, height_of, empty_height, with_result, height_after}
use Rattle.bas_ir.specs.Machine.{at_item, left, entered, opened_to, follow, thrown_if, thrown, caught, performed, begun, at_op, flat_step}
use Rattle.bas_ir.specs.Places.{Pending, nothing, result_pushed, Frame, Place, level_of, item_from, unmarked, front, start_of}
use Rattle.bas_ir.proofs.EffectHeights.{Leaves, effect_leaves}
use Rattle.bas_store.specs.Cells.{Value as Content}
use Rattle.bas_store.specs.Opened.{can_open, with_opened}
use Rattle.bas_store.specs.Stored.{Handler, Opening}
use Rattle.bas_value.specs.Errors.{no_room, error_text}
use Rattle.bas_sem.specs.State.{State}
use Rattle.bas_sem.specs.Course.{Course, Value, Raised, Over, Spent, Action, on_value, ◌>>=◌, ◌>>◌, give}
use Rattle.bas_sem.specs.Actions.{spend, raised_to, taker, passed, taken, owner_of, place_of}
use Rattle.bas_sem.specs.Calls.{slots_saved, values_assigned, Kind, Outermost, Procedure, NumberFunction, StringFunction, Body, GoOn, Leave, has_room}
use Rattle.bas_sem.specs.Loops.{open_if}
use Rattle.ir_build.specs.Code.{flat_code}
use Rattle.ir_build.proofs.Sufficiency.{Enough, row_suffices}
use Rattle.ir_build.proofs.Spots.{Spot, Past, Inside, Begins, spot, front_at_start}

-- what a call is left with is pending
result_height : (kind : Kind) (value : Option Content) (p : Pending) → height_of (result_pushed kind value p) ≡ with_result kind (height_of p)
result_height Outermost value p = refl
result_height Procedure value p = refl
result_height NumberFunction value p = refl
result_height StringFunction value p = refl

unmarked_short : (ops : List Op) (marks : List Bool) → length (unmarked ops marks) ≤ length ops
unmarked_short [] marks = omega arith
unmarked_short (op ∷ ops) [] = omega arith
unmarked_short (op ∷ ops) (true ∷ marks) = omega arith
unmarked_short (op ∷ ops) (false ∷ marks) = omega (arith, unmarked_short ops marks)

none_of : {A : Type 0} (xs : List A) → length xs ≡ 0 → xs ≡ []
none_of [] none = refl
none_of (x ∷ xs) none = absurd (omega (arith, none))

module _ (prog : Prog) where
  -- one more than the number of operations
  abbrev all : ℕ
  all = length (flat_code prog).ops + 1

  front_short : (pc : ℕ) → length (front (flat_code prog) pc) < all
  unfolding front
  front_short pc = omega (arith, unmarked_short (drop pc (flat_code prog).ops) (drop pc (flat_code prog).marks), length-drop pc (flat_code prog).ops)

  -- the operations that the callers have left
  abbrev pub owed : List Frame → ℕ
  owed [] = 0
  owed (frame ∷ frames) = length (front (flat_code prog) frame.back) + owed frames

  -- a number that falls at each operation
  abbrev pub potential : Place → State → ℕ
  potential place s = s.left * all + owed place.frames + length (front (flat_code prog) place.pc)

  -- the callers find what they take, once the call is left
  abbrev pub FramesSuffice : List Frame → Type 0
  FramesSuffice [] = Unit {0}
  FramesSuffice (frame ∷ frames) = Enough (front (flat_code prog) frame.back) (with_result frame.kind (height_of frame.pending)) × FramesSuffice frames

  -- the operations of a place find what they take
  pub record PlaceSuffices (place : Place) : Type 0 where
    pub here : Enough (front (flat_code prog) place.pc) (height_of place.pending)
    pub frames : FramesSuffice place.frames

  -- what a step leads to finds what it takes, and is below a limit
  abbrev pub Good : ℕ → Course Place → Type 0
  Good limit (Value place s) = PlaceSuffices place × (potential place s < limit)
  Good limit (Raised handler s) = Unit {0}
  Good limit (Over report s) = Unit {0}
  Good limit (Spent s) = Unit {0}

  -- an item's start
  item_suffices : (frames : List Frame) (item : ℕ) → FramesSuffice frames → PlaceSuffices (at_item (flat_code prog) item frames)
  item_suffices frames item suffices = record {
    here = subst (λ ops. Enough ops empty_height) (sym (front_at_start prog item)) (refl, refl);
    frames = suffices;
  }

  item_good : (limit : ℕ) (frames : List Frame) (item : ℕ) (s : State) → FramesSuffice frames → s.left * all + owed frames < limit
      → Good limit (Value (at_item (flat_code prog) item frames) s)
  item_good limit frames item s suffices below =
      let none : length (front (flat_code prog) (start_of (flat_code prog) item)) ≡ 0 = ap length (front_at_start prog item) in
      (item_suffices frames item suffices, omega (arith, none, below))

  less_steps : (n m : ℕ) → n ≤ m → n * all ≤ m * all
  less_steps n m few = mul-le-mul_right all few

  taken_good : (here : Bool) (limit : ℕ) (frames : List Frame) (h : Handler) (outwards : State → Course Place) (s : State) → FramesSuffice frames
      → s.left * all + owed frames < limit → Good limit (outwards s) → Good limit (thrown_if here (flat_code prog) h frames outwards s)
  taken_good true limit frames h outwards s suffices below out = item_good limit frames (place_of h) (record s { stored = taken h s.stored }) suffices below
  taken_good false limit frames h outwards s suffices below out = out

  thrown_good : (limit : ℕ) (frames : List Frame) (h : Handler) (s : State) → FramesSuffice frames → s.left * all + owed frames < limit
      → Good limit (thrown (flat_code prog) h frames s)
  thrown_good limit [] h s suffices below = item_good limit [] (place_of h) (record s { stored = taken h s.stored }) suffices below
  thrown_good limit (frame ∷ frames) h s suffices below =
      taken_good (nat_le (suc (length frames)) (owner_of h)) limit (frame ∷ frames) h
      (λ t. thrown (flat_code prog) h frames (record t { stored = passed h (suc (length frames)) t.stored })) s suffices below
      (thrown_good limit frames h (record s { stored = passed h (suc (length frames)) s.stored }) suffices.1 (omega (arith, below)))

  raised_good : (to : Option Handler) (limit : ℕ) (frames : List Frame) (error : ℤ) (text : List ℕ) (line : ℕ) (s : State) → FramesSuffice frames
      → s.left * all + owed frames < limit → Good limit (caught (flat_code prog) frames (raised_to to error text line s))
  raised_good None limit frames error text line s suffices below = tt
  raised_good (Some h) limit frames error text line s suffices below = thrown_good limit frames h (record s { err = error; erl = line; text = text }) suffices below

  -- a step is worth as much as all operations
  step_worth : (n : ℕ) → suc n * all ≡ n * all + all
  step_worth n = suc-mul n all

  entry_good : (limit : ℕ) (outer frames : List Frame) (item n : ℕ) (s : State) → FramesSuffice frames → n * all + owed frames < limit + all
      → Good limit (caught (flat_code prog) outer (on_value (spend None n s) (λ _. give (at_item (flat_code prog) item frames))))
  entry_good limit outer frames item zero s suffices below = tt
  entry_good limit outer frames item (suc n) s suffices below =
      item_good limit frames item (record s { left = n; latest = None }) suffices (omega (arith, step_worth n, below))

  left_good : (limit : ℕ) (frames : List Frame) (value : Option Content) (s : State) → FramesSuffice frames → s.left * all + owed frames < limit
      → Good limit (caught (flat_code prog) frames (left value frames s))
  left_good limit [] value s suffices below = tt
  left_good limit (frame ∷ frames) value s suffices below = (
    record {
      here = subst (λ h. Enough (front (flat_code prog) frame.back) h) (sym (result_height frame.kind value frame.pending)) suffices.0;
      frames = suffices.1;
    },
    omega (arith, below),
  )

  -- what an operation's effect leads to, where this follows in the item
  abbrev Following : Place → Option Height → Type 0
  Following place h = Suffices [] (front (flat_code prog) (suc place.pc)) h

  entered_good : (fits : Bool) (limit : ℕ) (place : Place) (line : ℕ) (kind : Kind) (body : Body) (values : List Content) (q : Pending) (s : State)
      → Following place (Some (with_result kind (height_of q))) → FramesSuffice place.frames
      → s.left * all + owed place.frames + length (front (flat_code prog) (suc place.pc)) < limit
      → Good limit (caught (flat_code prog) place.frames (entered fits (flat_code prog) place line kind body values q s))
  entered_good false limit place line kind body values q s follows suffices below =
      raised_good (taker (int_eq (pos no_room) (pos 0)) s.handler) limit place.frames (pos no_room) (error_text no_room) line s suffices (omega (arith, below))
  entered_good true limit place line kind body values q s follows suffices below =
      entry_good limit place.frames (record { kind = kind; entry = s.handler; back = suc place.pc; pending = q } ∷ place.frames) body.at s.left
      (record s { stored = values_assigned body.formals values (slots_saved (suc (length place.frames)) body.formals s.stored) }) (follows, suffices) (omega (arith, below))

  no_room_good : (to : Option Handler) (limit : ℕ) (frames : List Frame) (error : ℤ) (text : List ℕ) (line : ℕ) (other : Unit {0} → Action Place) (s : State)
      → FramesSuffice frames → s.left * all + owed frames < limit → Good limit (caught (flat_code prog) frames ((raised_to to error text line >>= other) s))
  no_room_good None limit frames error text line other s suffices below = tt
  no_room_good (Some h) limit frames error text line other s suffices below =
      thrown_good limit frames h (record s { err = error; erl = line; text = text }) suffices below

  opens_good : (fits : Bool) (limit : ℕ) (place : Place) (line : ℕ) (opening : Opening) (to : Option ℕ) (q : Pending) (s : State) → FramesSuffice place.frames
      → s.left * all + owed place.frames < limit
      → ((t : State) → t.left ≡ s.left → Good limit (Value (opened_to (flat_code prog) place to q) t))
      → Good limit (caught (flat_code prog) place.frames ((open_if fits (length place.frames) line opening (item_from (flat_code prog) (suc place.pc))
      >> give (opened_to (flat_code prog) place to q)) s))
  opens_good false limit place line opening to q s suffices below opened =
      no_room_good (taker (int_eq (pos no_room) (pos 0)) s.handler) limit place.frames (pos no_room) (error_text no_room) line (λ _. give (opened_to (flat_code prog) place to q)) s
      suffices below
  opens_good true limit place line opening to q s suffices below opened =
      opened (record s { stored = with_opened (length place.frames) opening (item_from (flat_code prog) (suc place.pc)) s.stored }) refl

  effect_good : (limit n : ℕ) (place : Place) (h : Option Height) (r : Course Effect) → Leaves h n r → Following place h → FramesSuffice place.frames
      → n * all + owed place.frames + length (front (flat_code prog) (suc place.pc)) < limit
      → Good limit (caught (flat_code prog) place.frames (on_value r (follow (flat_code prog) place)))
  effect_good limit n place h (Value (Falls q) s) leaves follows suffices below =
      (record { here = subst (Following place) leaves.0 follows; frames = suffices }, omega (arith, less_steps s.left n leaves.1, below))
  effect_good limit n place h (Value (Goes (GoOn item)) s) leaves follows suffices below =
      item_good limit place.frames item s suffices (omega (arith, less_steps s.left n leaves, below))
  effect_good limit n place h (Value (Goes (Leave value)) s) leaves follows suffices below =
      left_good limit place.frames value s suffices (omega (arith, less_steps s.left n leaves, below))
  effect_good limit n place h (Value (Opens line opening None q) s) leaves follows suffices below =
      opens_good (can_open s.stored) limit place line opening None q s suffices (omega (arith, less_steps s.left n leaves.1, below))
      (λ t same. (
        record { here = subst (Following place) leaves.0 follows; frames = suffices },
        omega (arith, ap (λ k. k * all) same, less_steps s.left n leaves.1, below),
      ))
  effect_good limit n place h (Value (Opens line opening (Some item) q) s) leaves follows suffices below =
      opens_good (can_open s.stored) limit place line opening (Some item) q s suffices (omega (arith, less_steps s.left n leaves, below))
      (λ t same. item_good limit place.frames item t suffices (omega (arith, ap (λ k. k * all) same, less_steps s.left n leaves, below)))
  effect_good limit n place h (Value (Enters line kind body values q) s) leaves follows suffices below =
      entered_good (has_room (length place.frames) (length body.formals) s.stored) limit place line kind body values q s
      (subst (Following place) leaves.0 follows) suffices (omega (arith, less_steps s.left n leaves.1, below))
  effect_good limit n place h (Raised handler s) leaves follows suffices below =
      thrown_good limit place.frames handler s suffices (omega (arith, less_steps s.left n leaves, below))
  effect_good limit n place h (Over report s) leaves follows suffices below = tt
  effect_good limit n place h (Spent s) leaves follows suffices below = tt

  performed_good : (limit : ℕ) (place : Place) (op : Op) (s : State) → Enough (op ∷ front (flat_code prog) (suc place.pc)) (height_of place.pending) → FramesSuffice place.frames
      → s.left * all + owed place.frames + length (front (flat_code prog) (suc place.pc)) < limit → Good limit (performed (flat_code prog) place op s)
  performed_good limit place op s here suffices below =
      effect_good limit s.left place (height_after [] op (height_of place.pending)) (effect (flat_code prog) (level_of place.frames) op place.pending s)
      (effect_leaves (flat_code prog) (level_of place.frames) op place.pending s) here suffices below

  begun_good : (limit : ℕ) (place : Place) (op : Op) (item n : ℕ) (s : State) → Enough (op ∷ front (flat_code prog) (suc place.pc)) (height_of place.pending)
      → FramesSuffice place.frames → n * all + owed place.frames ≤ limit
      → Good limit (on_value (spend (Some item) n s) (λ _. performed (flat_code prog) place op))
  begun_good limit place op item zero s here suffices below = tt
  begun_good limit place op item (suc n) s here suffices below =
      performed_good limit place op (record s { left = n; latest = Some item }) here suffices (omega (arith, step_worth n, below, front_short (suc place.pc)))

  -- nothing is pending where no operation is left before a mark
  none_pending : (p : Pending) → Enough [] (height_of p) → p ≡ nothing
  none_pending p suffices = λ i. record { numbers = none_of p.numbers suffices.0 i; texts = none_of p.texts suffices.1 i }

  pub pending_none : (place : Place) → PlaceSuffices place → front (flat_code prog) place.pc ≡ [] → place.pending ≡ nothing
  pending_none place suffices empty = none_pending place.pending (subst (λ ops. Enough ops (height_of place.pending)) empty suffices.here)

  step_at : (place : Place) (s : State) → PlaceSuffices place → Spot prog place.pc → Good (potential place s) (flat_step (flat_code prog) place s)
  step_at place s suffices (Past none empty row) = subst (λ o. Good (potential place s) (at_op (flat_code prog) place o s)) (sym none) tt
  step_at place s suffices (Inside op is plain ops same) =
      let here : Enough (op ∷ front (flat_code prog) (suc place.pc)) (height_of place.pending) = subst (λ l. Enough l (height_of place.pending)) ops suffices.here in
      let long : length (front (flat_code prog) place.pc) ≡ suc (length (front (flat_code prog) (suc place.pc))) = ap length ops in
      subst (λ o. Good (potential place s) (at_op (flat_code prog) place o s)) (sym is)
      (subst (λ b. Good (potential place s) ((begun b (item_from (flat_code prog) place.pc) >> performed (flat_code prog) place op) s)) (sym plain)
      (performed_good (potential place s) place op s here suffices.frames (omega (arith, long))))
  step_at place s suffices (Begins op row is marked empty found code next) =
      let rest : place.pending ≡ nothing = pending_none place suffices empty in
      let starts : Enough (op ∷ front (flat_code prog) (suc place.pc)) empty_height = subst (λ l. Enough l empty_height) code (row_suffices prog (item_from (flat_code prog) place.pc) row) in
      let here : Enough (op ∷ front (flat_code prog) (suc place.pc)) (height_of place.pending) =
      subst (λ q. Enough (op ∷ front (flat_code prog) (suc place.pc)) (height_of q)) (sym rest) starts in
      subst (λ o. Good (potential place s) (at_op (flat_code prog) place o s)) (sym is)
      (subst (λ b. Good (potential place s) ((begun b (item_from (flat_code prog) place.pc) >> performed (flat_code prog) place op) s)) (sym marked)
      (begun_good (potential place s) place op (item_from (flat_code prog) place.pc) s.left s here suffices.frames (omega arith)))

  -- A step of the machine keeps what is pending right, and the number falls.
  pub step_good : (place : Place) (s : State) → PlaceSuffices place → Good (potential place s) (flat_step (flat_code prog) place s)
  step_good place s suffices = step_at place s suffices (spot prog place.pc)

  pub first_suffices : PlaceSuffices (at_item (flat_code prog) 0 [])
  first_suffices = item_suffices [] 0 tt
