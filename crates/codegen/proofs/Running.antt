-- The board does what the flat machine does, run by run.
use Rattle.std.proofs.Common.{◌≡◌, ℕ, zero, suc, ◌+◌, ◌*◌, ◌<◌, ◌≤◌, ◌⊎◌, inl, inr, Bool, true, false, ℤ, pos, List, [], ◌∷◌, ◌++◌, length, Option, None, Some, refl, sym, ap, subst, ◌∙◌, arith, append_assoc}
use Rattle.std.specs.Prelude.{slice_get}
use Rattle.std.proofs.lemmas.Bool.{cases_lt}
use Rattle.std.proofs.lemmas.List.{get_or_past}
use Rattle.std.proofs.lemmas.Option.{slice_get_within}
use Rattle.bas_ir.specs.declared.ir.Ir.{Ir}
use Rattle.bas_ir.specs.declared.op.Op.{Op}
use Rattle.bas_ir.specs.declared.op.Op.TheVariants as o
use Rattle.bas_ir.specs.Effects.{Effect, Falls, Goes, Opens, Enters, effect}
use Rattle.bas_ir.specs.Heights.{height_of, height_after, empty_height, one_more}
use Rattle.bas_ir.specs.Machine.{flat_from, and_on, shown, performed, begun, at_op, caught, opened_to, follow}
use Rattle.bas_ir.specs.Places.{Pending, nothing, Place, start_of, item_from, is_marked}
use Rattle.bas_ir.specs.WellFormed.{height_at, IsLaidOut}
use Rattle.bas_ir.proofs.EffectHeights as heights
use Rattle.bas_ir.proofs.EffectHeights.{effect_leaves}
use Rattle.bas_sem.specs.Actions.{spend, taker, raised_to}
use Rattle.bas_sem.specs.Loops.{open_if, opens}
use Rattle.bas_store.specs.Opened.{can_open}
use Rattle.bas_store.specs.Stored.{Handler, Opening}
use Rattle.bas_value.specs.Errors.{error_text, no_room}
use Rattle.std.specs.Ordering.{int_eq}
use Rattle.bas_sem.specs.Calls.{outermost, GoOn, Leave}
use Rattle.bas_sem.specs.Course.{Course, Value, Raised, Over, Spent, on_value, give}
use Rattle.bas_sem.specs.State.{State}
use Rattle.bv_run.specs.declared.report.Report.{Report}
use Rattle.bv_run.specs.declared.report.Report.TheVariants as reports
use Rattle.bv_run.specs.Outcome as outcomes
use Rattle.bv_run.specs.Runs.{outcome_of}
use Rattle.bv_run.proofs.RunLaws.{run-zero, Leads, leads-leads}
use Rattle.arm2_machine.specs.Machine.{Machine, arena_of}
use Rattle.arm2_machine.specs.Step.{board_step}
use Rattle.arm_core.specs.Core.{Core, IsAt}
use Rattle.arm_core.proofs.Arena.{arena-is}
use Rattle.code_frag.specs.Demands as demands
use Rattle.code_frag.specs.Demands.{Out, Post, Leaves, ToLabel}
use Rattle.code_frag.specs.Language as language
use Rattle.code_frag.specs.Language.{Leave, size, is_flat}
use Rattle.code_frag.specs.Rows.{Row}
use Rattle.code_frag.specs.Runs.{IsCode, SameCode, Comes, Moved, EndsAt}
use Rattle.code_frag.proofs.RowLaws.{row_leads}
use Rattle.code_frag.proofs.Sound.{sound}
use Rattle.bas_ir.specs.Coded.{LeavesNothing}
use Rattle.codegen.specs.Fitting.{CanGenerate}
use Rattle.codegen.specs.Operations.{op_code, item_label}
use Rattle.codegen.specs.Outcomes.{Ends, Raises, LeadsTo, ComesOpened, Arrives}
use Rattle.codegen.specs.Program.{op_place, op_size, named_at, text_address, branches_start, last_piece}
use Rattle.codegen.specs.StandsFor.{Site, IsNamed, AreEntries, StandsFor}
use Rattle.codegen.proofs.Arriving.{CodeAsks, CodeDoes}
use Rattle.codegen.proofs.EffectFacts.{Facts, IsItem, effect_facts}
use Rattle.codegen.proofs.LeavingOps.{end_owes}
use Rattle.codegen.proofs.OpFacts.{op-formed, op-calls, op-size, size-named}
use Rattle.codegen.proofs.OpOwes.{Fits, JumpsEmpty, op_owes}
use Rattle.codegen.proofs.Simulate.{Placed, site_at, Follows, later, over_follows}

-- what is pending where nothing is
none_pending : (numbers : List ℤ) (texts : List (List ℕ)) → height_of (record { numbers = numbers; texts = texts }) ≡ empty_height → (numbers ≡ []) × (texts ≡ [])
none_pending [] [] e = (refl, refl)
none_pending [] (text ∷ texts) e = absurd (let n = ap (λ h. h.texts) e in omega (arith, n))
none_pending (value ∷ numbers) texts e = absurd (let n = ap (λ h. h.numbers) e in omega (arith, n))

-- and with one number more
one_left : (numbers : List ℤ) (texts : List (List ℕ)) → one_more (height_of (record { numbers = numbers; texts = texts })) ≡ one_more empty_height → height_of (record { numbers = numbers; texts = texts }) ≡ empty_height
one_left numbers texts e = (let n = ap (λ h. h.numbers) e in let t = ap (λ h. h.texts) e in λ i. record { numbers = (let m : length numbers ≡ 0 = omega (arith, n) in m) i; texts = t i })

-- an operation is at each place before the end
operation_there : (ops : List Op) (pc : ℕ) → pc < length ops → (x : Op) × (slice_get ops pc ≡ Some x)
operation_there [] pc low = absurd (omega (arith, low))
operation_there (x ∷ ops) zero low = (x, refl)
operation_there (x ∷ ops) (suc pc) low = operation_there ops pc (omega (arith, low))

-- a row of steps to another address has one
pub made_some : (places : List ℕ) (m last : Machine) (bytes : List ℕ) (s t : Core) (from to : ℕ) → Row places m bytes last → IsAt s from m → IsAt t to last → from < to → 0 < length places
made_some [] m last bytes s t from to row is there less = absurd (let e = sym is.pc ∙ ap (λ k. k.regs.pc) row.1 ∙ there.pc in omega (arith, e, less))
made_some (p ∷ places) m last bytes s t from to row is there less = omega arith

-- the state of a value
abbrev valued : State → Course (Unit {0})
valued st = Value tt st

value_of : {s t : State} → valued s ≡ valued t → s ≡ t
value_of e = cc e

-- an error comes to no value
no_value : (handler : Option Handler) (line : ℕ) (st next : State) → raised_to {A = Unit {0}} handler (pos no_room) (error_text no_room) line st ≡ Value tt next → ⊥
no_value None line st next e = cc e
no_value (Some handler) line st next e = cc e

module _ (ir : Ir) (code entry : ℕ → ℕ) (base : ℕ) (can : CanGenerate ir) (placed : Placed ir code entry base) where
  -- the address of an operation
  abbrev pub at : ℕ → ℕ
  at pc = base + 4 * op_place ir pc

  -- what it finds in the image: for what a state stands for, the next item doesn't matter
  abbrev pub image : ℕ → Site
  image pc = site_at ir code pc

  laid : IsLaidOut ir
  laid = can.well_formed.laid_out

  -- The board is where the flat machine is, and stands for its state, after bytes that were written.
  pub record Stands (pc : ℕ) (p : Pending) (st : State) (s : Core) (m : Machine) (before : List ℕ) : Type 0 where
    pub inside : pc ≤ length ir.ops
    pub heights : height_of p ≡ height_at ir pc
    pub names : length st.stored.integers ≡ length ir.names
    pub entries : AreEntries (length ir.names) (length ir.starts) st.stored.opened
    pub same : SameCode code s.mem
    pub stands_for : StandsFor (image pc) p st s
    pub is : IsAt s (at pc) m
    pub written : s.out ≡ before

  -- it doesn't know of steps
  stands_taken : (pc : ℕ) (p : Pending) (st : State) (s : Core) (m : Machine) (before : List ℕ) (left : ℕ) (latest : Option ℕ) → Stands pc p st s m before → Stands pc p (record st { left = left; latest = latest }) s m before
  stands_taken pc p st s m before left latest f =
      let h = f.stands_for.holds in
      record {
        inside = f.inside;
        heights = f.heights;
        names = f.names;
        entries = f.entries;
        same = f.same;
        stands_for = record {
          holds = record {
            base_is = h.base_is;
            stack_is = h.stack_is;
            has_residents = h.has_residents;
            has_integers = h.has_integers;
            has_opened = h.has_opened;
            depth = h.depth;
            column = h.column;
            column_small = h.column_small;
            few_taken = h.few_taken;
            next_item = h.next_item;
            has_arena = h.has_arena;
            out_is = h.out_is;
            unhandled = h.unhandled;
          };
          numbers = f.stands_for.numbers;
          texts = f.stands_for.texts;
        };
        is = f.is;
        written = f.written;
      }

  -- the place of the flat machine outside calls
  abbrev pub place_at : ℕ → Pending → Place
  place_at pc p = record { pc = pc; pending = p; frames = [] }

  -- a run of k operations from every place
  abbrev pub Runs : ℕ → Type 0
  Runs k = (pc : ℕ) (p : Pending) (st : State) (s : Core) (m : Machine) (before : List ℕ) → Stands pc p st s m before → 2 * k ≤ st.left → Follows k (shown (flat_from ir k (place_at pc p) st)) m before

  -- ---- where an item begins

  -- a place that is marked is one of an operation
  marked_within : (pc : ℕ) → is_marked ir pc ≡ true → pc < length ir.ops
  unfolding is_marked
  marked_within pc e = by (cases_lt pc (length ir.ops))
    where
      by : (pc < length ir.ops) ⊎ (length ir.ops ≤ pc) → pc < length ir.ops
      by (inl less) = less
      by (inr high) = absurd (cc (sym (get_or_past ir.marks pc false (let n = laid.marks in omega (arith, high, n))) ∙ e))

  -- the place after all items is that after all operations
  end_place : (item : ℕ) → length ir.starts ≤ item → start_of ir item ≡ length ir.ops
  unfolding start_of
  end_place item high = get_or_past ir.starts item (length ir.ops) high

  -- nothing is pending there
  pub start_height : (item : ℕ) → item ≤ length ir.starts → (start_of ir item ≤ length ir.ops) × (empty_height ≡ height_at ir (start_of ir item))
  start_height item there = by (cases_lt item (length ir.starts))
    where
      by : (item < length ir.starts) ⊎ (length ir.starts ≤ item) → (start_of ir item ≤ length ir.ops) × (empty_height ≡ height_at ir (start_of ir item))
      by (inl low) =
          let marked = laid.starts item low in
          let within = marked_within (start_of ir item) marked.0 in
          let op = operation_there ir.ops (start_of ir item) within in
          (omega (arith, within), sym ((laid.flows (start_of ir item) op.0 op.1).begins marked.0))
      by (inr high) =
          let is = end_place item high in
          (omega (arith, is), sym (get_or_past ir.heights (start_of ir item) empty_height (let n = laid.heights in omega (arith, is, n))))

  -- ---- one operation

  -- what an operation fits
  fits_at : (pc : ℕ) (x : Op) (p : Pending) (st : State) (s : Core) (m : Machine) (before : List ℕ) → slice_get ir.ops pc ≡ Some x → Stands pc p st s m before → Fits ir x p.numbers p.texts st
  fits_at pc x p st s m before there f =
      let finds = (laid.flows pc x there).finds in
      record {
        coded = can.have_code pc x there;
        widths = can.widths pc x there;
        there = can.well_formed.there pc x there;
        after = height_at ir (suc pc);
        finds = ap (height_after ir.routines x) f.heights ∙ finds;
        short = (let few = can.well_formed.few_pending pc in let n = ap (λ h. h.numbers) f.heights in let t = ap (λ h. h.texts) f.heights in omega (arith, few, n, t));
        names = f.names;
        entries = subst (λ n. AreEntries n (length ir.starts) st.stored.opened) (sym f.names) f.entries;
        jumps = jumps x p.numbers p.texts f.heights finds (can.in_items.jumps pc x there);
      }
    where
      jumps : (x : Op) (numbers : List ℤ) (texts : List (List ℕ)) → height_of (record { numbers = numbers; texts = texts }) ≡ height_at ir pc → height_after ir.routines x (height_at ir pc) ≡ Some (height_at ir (suc pc)) → LeavesNothing ir pc x → JumpsEmpty x numbers texts
      jumps (o.Go item) numbers texts is finds none = none_pending numbers texts (is ∙ none)
      jumps (o.GoIfZero item) [] texts is finds none = tt
      jumps (o.GoIfZero item) (value ∷ numbers) texts is finds none =
          none_pending numbers texts (let e = ap (height_after ir.routines (o.GoIfZero item)) is ∙ finds in let h : height_of (record { numbers = numbers; texts = texts }) ≡ height_at ir (suc pc) = cc e in h ∙ none)
      jumps (o.GoUnless relation item) [] texts is finds none = tt
      jumps (o.GoUnless relation item) (y ∷ []) texts is finds none = tt
      jumps (o.GoUnless relation item) (y ∷ x ∷ numbers) texts is finds none =
          none_pending numbers texts (let e = ap (height_after ir.routines (o.GoUnless relation item)) is ∙ finds in let h : height_of (record { numbers = numbers; texts = texts }) ≡ height_at ir (suc pc) = cc e in h ∙ none)
      jumps (o.GoUnlessWith relation item number) [] texts is finds none = tt
      jumps (o.GoUnlessWith relation item number) (value ∷ numbers) texts is finds none =
          none_pending numbers texts (let e = ap (height_after ir.routines (o.GoUnlessWith relation item number)) is ∙ finds in let h : height_of (record { numbers = numbers; texts = texts }) ≡ height_at ir (suc pc) = cc e in h ∙ none)
      jumps o.Discard numbers texts is finds none = tt
      jumps (o.GoIfOne item) [] texts is finds none = tt
      jumps (o.GoIfOne item) (value ∷ numbers) texts is finds none =
          none_pending numbers texts (one_left numbers texts (let e = ap (height_after ir.routines (o.GoIfOne item)) is ∙ finds in let h : one_more (height_of (record { numbers = numbers; texts = texts })) ≡ height_at ir (suc pc) = cc e in h ∙ none))
      jumps (o.GosubIfOne line item) [] texts is finds none = tt
      jumps (o.GosubIfOne line item) (value ∷ numbers) texts is finds none =
          none_pending numbers texts
          (one_left numbers texts (let e = ap (height_after ir.routines (o.GosubIfOne line item)) is ∙ finds in let h : one_more (height_of (record { numbers = numbers; texts = texts })) ≡ height_at ir (suc pc) = cc e in h ∙ none))
      jumps (o.RaiseIfOne error line) numbers texts is finds none = tt
      jumps (o.GoIfEqual item) [] texts is finds none = tt
      jumps (o.GoIfEqual item) (y ∷ []) texts is finds none = tt
      jumps (o.GoIfEqual item) (y ∷ x ∷ numbers) texts is finds none =
          none_pending numbers texts (one_left numbers texts (let e = ap (height_after ir.routines (o.GoIfEqual item)) is ∙ finds in let h : one_more (height_of (record { numbers = numbers; texts = texts })) ≡ height_at ir (suc pc) = cc e in h ∙ none))
      jumps (o.OpenFor counter line) numbers texts is finds none = tt
      jumps (o.OpenRepeat line) numbers texts is finds none = tt
      jumps (o.OpenWhile line) numbers texts is finds none = tt
      jumps (o.Gosub line item) numbers texts is finds none = none_pending numbers texts (is ∙ none)
      jumps (o.Next counter line) numbers texts is finds none = none_pending numbers texts (is ∙ none)
      jumps (o.NextAny line) numbers texts is finds none = none_pending numbers texts (is ∙ none)
      jumps (o.Until line) [] texts is finds none = tt
      jumps (o.Until line) (value ∷ numbers) texts is finds none =
          none_pending numbers texts (let e = ap (height_after ir.routines (o.Until line)) is ∙ finds in let h : height_of (record { numbers = numbers; texts = texts }) ≡ height_at ir (suc pc) = cc e in h ∙ none)
      jumps (o.EndWhile line) numbers texts is finds none = none_pending numbers texts (is ∙ none)
      jumps (o.Return line) numbers texts is finds none = none_pending numbers texts (is ∙ none)
      jumps (o.Push value) numbers texts is finds none = tt
      jumps o.PushColumn numbers texts is finds none = tt
      jumps (o.PushResident index) numbers texts is finds none = tt
      jumps (o.PushInteger name line) numbers texts is finds none = tt
      jumps (o.PushText number) numbers texts is finds none = tt
      jumps (o.Unary y line) numbers texts is finds none = tt
      jumps (o.BinaryWith y line number) numbers texts is finds none = tt
      jumps (o.BinaryWithResident y resident line) numbers texts is finds none = tt
      jumps (o.ChangeResident y resident line number) numbers texts is finds none = tt
      jumps (o.Binary y line) numbers texts is finds none = tt
      jumps (o.StoreResident index) numbers texts is finds none = tt
      jumps (o.StoreInteger name) numbers texts is finds none = tt
      jumps (o.WriteNumber padded format) numbers texts is finds none = tt
      jumps o.WriteText numbers texts is finds none = tt
      jumps (o.Write y) numbers texts is finds none = tt
      jumps (o.WriteMark y) numbers texts is finds none = tt
      jumps (o.ReadNumber line) numbers texts is finds none = tt
      jumps (o.Restore item) numbers texts is finds none = tt
      jumps (o.Raise error line) numbers texts is finds none = tt
      jumps o.End numbers texts is finds none = tt
      jumps (o.Enter kind routine line) numbers texts is finds none = tt
      jumps (o.LeaveProcedure line) numbers texts is finds none = tt
      jumps (o.NeedFunction line) numbers texts is finds none = tt
      jumps o.LeaveNumber numbers texts is finds none = tt
      jumps o.LeaveText numbers texts is finds none = tt
      jumps (o.HandleAll item) numbers texts is finds none = tt
      jumps (o.HandleHere item) numbers texts is finds none = tt
      jumps o.HandleNone numbers texts is finds none = tt

  -- the piece of an operation, and how many words it has
  abbrev pub piece : ℕ → Op → language.Piece
  piece pc x = op_code (named_at ir pc x) x

  words : (pc : ℕ) (x : Op) → size (piece pc x) ≡ op_size x
  words pc x = size-named (named_at ir pc x) x

  -- what it owed
  abbrev pub Done : ℕ → Op → (Q : Post) → Core → Machine → Type 0
  Done pc x Q s m = EndsAt code entry (is_flat (piece pc x)) Q (at pc) (at pc + 4 * size (piece pc x)) s m

  -- a core stands for the same wherever the machine is
  moved : (a b : ℕ) (p : Pending) (st : State) (s : Core) → StandsFor (image a) p st s → StandsFor (image b) p st s
  moved a b p st s f = record { holds = f.holds; numbers = f.numbers; texts = f.texts }

  -- the steps that are left, and what is named
  record Kept (k : ℕ) (st : State) : Type 0 where
    few : 2 * k ≤ st.left
    names : length st.stored.integers ≡ length ir.names
    entries : AreEntries (length ir.names) (length ir.starts) st.stored.opened

  -- a branch leads to its item, and changes nothing
  record Stays (new : State) (before t : Core) : Type 0 where
    stands : StandsFor (image 0) nothing new t
    out : t.out ≡ before.out

  abbrev Branched : ℕ → State → Core → Post
  Branched item new before o t = (o ≡ Leaves (ToLabel (item_label item))) × Stays new before t

  -- what an opening comes to is a value or an end
  over_opened : (pc : ℕ) (to : Option ℕ) (q : Pending) (report : Report) (st : State) (o : Out) (t : Core) → ComesOpened (image pc) to q (Over report st) o t → Ends report st o t ⊎ Raises report st o t
  over_opened pc None q report st o t c = c
  over_opened pc (Some item) q report st o t c = c

  never_raised : (pc : ℕ) (to : Option ℕ) (q : Pending) (handler : Handler) (st : State) (o : Out) (t : Core) → ComesOpened (image pc) to q (Raised handler st) o t → ⊥
  never_raised pc None q handler st o t c = c
  never_raised pc (Some item) q handler st o t c = c

  never_spent : (pc : ℕ) (to : Option ℕ) (q : Pending) (st : State) (o : Out) (t : Core) → ComesOpened (image pc) to q (Spent st) o t → ⊥
  never_spent pc None q st o t c = c
  never_spent pc (Some item) q st o t c = c

  -- the board is where a row of steps led
  record Led (m : Machine) (before : List ℕ) (to : ℕ) (p : Pending) (st : State) : Type 0 where
    core : Core
    machine : Machine
    bytes : List ℕ
    leads : Leads board_step m machine bytes
    is : IsAt core to machine
    stands : StandsFor (image 0) p st core
    same : SameCode code core.mem
    written : core.out ≡ before ++ bytes

  -- it goes on with an operation
  on_from : (k : ℕ) → Runs k → (to pc : ℕ) (p : Pending) (st : State) (m : Machine) (before : List ℕ) → Led m before to p st → to ≡ at pc → pc ≤ length ir.ops → height_of p ≡ height_at ir pc → Kept k st
      → Follows (suc k) (shown (flat_from ir k (place_at pc p) st)) m before
  on_from k runs to pc p st m before led is inside pending kept =
      later k _ m led.machine before led.bytes led.leads
      (runs pc p st led.core led.machine (before ++ led.bytes) (record {
        inside = inside;
        heights = pending;
        names = kept.names;
        entries = kept.entries;
        same = led.same;
        stands_for = moved 0 pc p st led.core led.stands;
        is = subst (λ a. IsAt led.core a led.machine) is led.is;
        written = led.written;
      }) kept.few)

  -- after an operation that falls through
  fell : (pc : ℕ) (x : Op) (Q : Post) (q : Pending) (new : State) (s : Core) (m : Machine) (before : List ℕ) → (after : Done pc x Q s m) → IsAt s (at pc) m → s.out ≡ before → after.out ≡ demands.Falls → StandsFor (image pc) q new after.end
      → Led m before (at pc + 4 * op_size x) q new
  fell pc x Q q new s m before after is written out stands =
      let to : IsAt after.end (at pc + 4 * op_size x) after.machine =
      subst (λ n. IsAt after.end (at pc + 4 * n) after.machine) (words pc x) (subst (λ o. Comes entry o (at pc + 4 * size (piece pc x)) after.end after.machine) out after.comes) in
      let some = made_some after.places m after.machine after.bytes s after.end (at pc) (at pc + 4 * op_size x) after.row is to (let n = (op-size x).0 in omega (arith, n)) in
      record {
        core = after.end;
        machine = after.machine;
        bytes = after.bytes;
        leads = row_leads after.places m after.machine after.bytes after.row some;
        is = to;
        stands = moved pc 0 q new after.end stands;
        same = after.same;
        written = after.writes ∙ ap (λ l. l ++ after.bytes) written;
      }

  falls_on : (k : ℕ) → Runs k → (pc : ℕ) (x : Op) (Q : Post) (q : Pending) (new : State) (s : Core) (m : Machine) (before : List ℕ) → slice_get ir.ops pc ≡ Some x → (after : Done pc x Q s m) → IsAt s (at pc) m → s.out ≡ before
      → after.out ≡ demands.Falls → StandsFor (image pc) q new after.end → height_of q ≡ height_at ir (suc pc) → Kept k new → Follows (suc k) (shown (flat_from ir k (place_at (suc pc) q) new)) m before
  falls_on k runs pc x Q q new s m before there after is written out stands pending kept =
      let next = placed.next pc x there in
      let within = slice_get_within ir.ops pc x there in
      on_from k runs (at pc + 4 * op_size x) (suc pc) q new m before (fell pc x Q q new s m before after is written out stands) (omega (arith, next)) (omega (arith, within)) pending kept

  -- after one that leads to an item, by its label or by the branch to it
  led_by : (pc : ℕ) (x : Op) (Q : Post) (item : ℕ) (new : State) (s : Core) (m : Machine) (before : List ℕ) → (after : Done pc x Q s m) → s.out ≡ before → LeadsTo (image pc) item after.out → StandsFor (image pc) nothing new after.end
      → Led m before (entry (item_label item)) nothing new
  led_by pc x Q item new s m before after written (inl out) stands =
      let to : IsAt after.end (entry (item_label item)) after.machine = subst (λ o. Comes entry o (at pc + 4 * size (piece pc x)) after.end after.machine) out after.comes in
      let some : 0 < length after.places = subst (λ o. Moved o after.places) out after.moved in
      record {
        core = after.end;
        machine = after.machine;
        bytes = after.bytes;
        leads = row_leads after.places m after.machine after.bytes after.row some;
        is = to;
        stands = moved pc 0 nothing new after.end stands;
        same = after.same;
        written = after.writes ∙ ap (λ l. l ++ after.bytes) written;
      }
  led_by pc x Q item new s m before after written (inr (out, within)) stands =
      let branch = branches_start ir + 4 * item in
      let to : IsAt after.end branch after.machine = subst (λ o. Comes entry o (at pc + 4 * size (piece pc x)) after.end after.machine) out after.comes in
      let some : 0 < length after.places = subst (λ o. Moved o after.places) out after.moved in
      let second = sound code entry CodeAsks CodeDoes (Leave (item_label item)) refl tt (Branched item new after.end) branch after.end after.machine (placed.branch_lies item within) (placed.branch_stands item within) after.same to
      (refl, record { stands = moved pc 0 nothing new after.end stands; out = refl }) in
      let there : IsAt second.end (entry (item_label item)) second.machine = subst (λ o. Comes entry o (branch + 4 * 1) second.end second.machine) second.holds.0 second.comes in
      let more : 0 < length second.places = subst (λ o. Moved o second.places) second.holds.0 second.moved in
      record {
        core = second.end;
        machine = second.machine;
        bytes = after.bytes ++ second.bytes;
        leads = leads-leads board_step m after.machine second.machine after.bytes second.bytes (row_leads after.places m after.machine after.bytes after.row some) (row_leads second.places after.machine second.machine second.bytes second.row more);
        is = there;
        stands = second.holds.1.stands;
        same = second.same;
        written = second.writes ∙ ap (λ l. l ++ second.bytes) (after.writes ∙ ap (λ l. l ++ after.bytes) written) ∙ append_assoc before after.bytes second.bytes;
      }

  goes_on : (k : ℕ) → Runs k → (pc : ℕ) (x : Op) (Q : Post) (item : ℕ) (new : State) (s : Core) (m : Machine) (before : List ℕ) → (after : Done pc x Q s m) → s.out ≡ before → LeadsTo (image pc) item after.out
      → StandsFor (image pc) nothing new after.end → item ≤ length ir.starts → Kept k new → Follows (suc k) (shown (flat_from ir k (place_at (start_of ir item) nothing) new)) m before
  goes_on k runs pc x Q item new s m before after written leads stands within kept =
      let begins = start_height item within in
      on_from k runs (entry (item_label item)) (start_of ir item) nothing new m before (led_by pc x Q item new s m before after written leads stands) (placed.item item within) begins.0 begins.1 kept

  -- how much is pending where an operation falls through
  abbrev Pended : ℕ → Course Effect → Type 0
  Pended pc (Value (Falls q) new) = height_of q ≡ height_at ir (suc pc)
  Pended pc (Value (Opens line opening None q) new) = height_of q ≡ height_at ir (suc pc)
  Pended pc _ = Unit {0}

  -- a run that is over
  stops_on : (k pc : ℕ) (x : Op) (Q : Post) (report : Report) (new : State) (s : Core) (m : Machine) (before : List ℕ) → (after : Done pc x Q s m) → s.out ≡ before
      → (Ends report new after.out after.end ⊎ Raises report new after.out after.end) → Follows (suc k) (outcomes.Over new.output new.arena report) m before
  stops_on k pc x Q report new s m before after written over =
      over_follows ir code entry base can placed (suc k) (at pc) (at pc + 4 * size (piece pc x)) (is_flat (piece pc x)) Q report new s m before after written over

  -- after an entry opened, or the error that there is no room for it
  opened_on : (k : ℕ) → Runs k → (pc : ℕ) (x : Op) (Q : Post) (line : ℕ) (opening : Opening) (to : Option ℕ) (q : Pending) (new : State) (s : Core) (m : Machine) (before : List ℕ) → slice_get ir.ops pc ≡ Some x → (after : Done pc x Q s m)
      → IsAt s (at pc) m → s.out ≡ before → (c : Course (Unit {0})) → ((next : State) → c ≡ Value tt next → Kept k next) → ComesOpened (image pc) to q c after.out after.end → IsItem ir to
      → Pended pc (Value (Opens line opening to q) new)
      → Follows (suc k) (shown (and_on (flat_from ir k) (caught ir [] (on_value c (λ _. give (opened_to ir (place_at pc nothing) to q)))))) m before
  opened_on k runs pc x Q line opening None q new s m before there after is written (Value _ next) kept comes item pended = falls_on k runs pc x Q q next s m before there after is written comes.0 comes.1 pended (kept next refl)
  opened_on k runs pc x Q line opening (Some item) q new s m before there after is written (Value _ next) kept comes within pended = goes_on k runs pc x Q item next s m before after written comes.0 comes.1 within (kept next refl)
  opened_on k runs pc x Q line opening to q new s m before there after is written (Over report next) kept comes item pended = stops_on k pc x Q report next s m before after written (over_opened pc to q report next after.out after.end comes)
  opened_on k runs pc x Q line opening to q new s m before there after is written (Raised handler next) kept comes item pended = absurd (never_raised pc to q handler next after.out after.end comes)
  opened_on k runs pc x Q line opening to q new s m before there after is written (Spent next) kept comes item pended = absurd (never_spent pc to q next after.out after.end comes)

  -- what names and steps are after an entry opened
  opened_kept : (k pc : ℕ) (x : Op) (line : ℕ) (opening : Opening) (new : State) → slice_get ir.ops pc ≡ Some x → IsNamed (length ir.names) opening → Kept k new → (next : State) → opens 0 line opening (item_from ir (suc pc)) new ≡ Value tt next → Kept k next
  opened_kept k pc x line opening new there named kept next is = by (can_open new.stored) is
    where
      by : (fits : Bool) → open_if fits 0 line opening (item_from ir (suc pc)) new ≡ Value tt next → Kept k next
      by true e =
          let site = placed.sites pc x there in
          subst (Kept k) (value_of e) (record { few = kept.few; names = kept.names; entries = (record { named = named; after = site.after; within = site.within }, kept.entries) })
      by false e = absurd (no_value (taker (int_eq (pos no_room) (pos 0)) new.handler) line new next e)

  -- after an operation
  onward : (k : ℕ) → Runs k → (pc : ℕ) (p : Pending) (x : Op) (c : Course Effect) (st : State) (s : Core) (m : Machine) (before : List ℕ) → slice_get ir.ops pc ≡ Some x
      → (after : Done pc x (Arrives (image pc) c) s m) → IsAt s (at pc) m → s.out ≡ before → Facts ir st.left (length ir.names) c → Pended pc c → 2 * k ≤ st.left
      → Follows (suc k) (shown (and_on (flat_from ir k) (caught ir [] (on_value c (follow ir (place_at pc p)))))) m before
  onward k runs pc p x (Value (Falls q) new) st s m before there after is written facts pended few =
      falls_on k runs pc x _ q new s m before there after is written after.holds.by.0 after.holds.by.1 pended (record { few = (let left = facts.0 in omega (arith, few, left)); names = facts.1; entries = facts.2 })
  onward k runs pc p x (Value (Goes (GoOn item)) new) st s m before there after is written facts pended few =
      goes_on k runs pc x _ item new s m before after written after.holds.by.0 after.holds.by.1 facts.0 (record { few = (let left = facts.1.0 in omega (arith, few, left)); names = facts.1.1; entries = facts.1.2 })
  onward k runs pc p x (Value (Opens line opening to q) new) st s m before there after is written facts pended few =
      opened_on k runs pc x _ line opening to q new s m before there after is written (opens 0 line opening (item_from ir (suc pc)) new)
      (opened_kept k pc x line opening new there facts.1 (record { few = (let left = facts.2.0 in omega (arith, few, left)); names = facts.2.1; entries = facts.2.2 })) after.holds.by facts.0 pended
  onward k runs pc p x (Value (Goes (Leave value)) new) st s m before there after is written facts pended few = absurd after.holds.by
  onward k runs pc p x (Value (Enters line kind body values q) new) st s m before there after is written facts pended few = absurd after.holds.by
  onward k runs pc p x (Raised handler new) st s m before there after is written facts pended few = absurd after.holds.by
  onward k runs pc p x (Over report new) st s m before there after is written facts pended few = stops_on k pc x _ report new s m before after written after.holds.by
  onward k runs pc p x (Spent new) st s m before there after is written facts pended few = absurd after.holds.by

  -- what is pending after an operation that falls through
  pended : (pc : ℕ) (x : Op) (p : Pending) (st : State) → slice_get ir.ops pc ≡ Some x → height_of p ≡ height_at ir pc → Pended pc (effect ir outermost x p st)
  pended pc x p st there is = by (effect ir outermost x p st) (effect_leaves ir outermost x p st)
    where
      by : (c : Course Effect) → heights.Leaves (height_after ir.routines x (height_of p)) st.left c → Pended pc c
      by (Value (Falls q) new) leaves = (let e = sym leaves.0 ∙ ap (height_after ir.routines x) is ∙ (laid.flows pc x there).finds in cc e)
      by (Value (Goes next) new) leaves = tt
      by (Value (Opens line opening None q) new) leaves = (let e = sym leaves.0 ∙ ap (height_after ir.routines x) is ∙ (laid.flows pc x there).finds in cc e)
      by (Value (Opens line opening (Some item) q) new) leaves = tt
      by (Value (Enters line kind body values q) new) leaves = tt
      by (Raised handler new) leaves = tt
      by (Over report new) leaves = tt
      by (Spent new) leaves = tt

  -- an operation
  performs : (k : ℕ) → Runs k → (pc : ℕ) (x : Op) (p : Pending) (st : State) (s : Core) (m : Machine) (before : List ℕ) → slice_get ir.ops pc ≡ Some x → Stands pc p st s m before → 2 * k ≤ st.left
      → Follows (suc k) (shown (and_on (flat_from ir k) (performed ir (place_at pc p) x st))) m before
  performs k runs pc x p st s m before there f few =
      onward k runs pc p x (effect ir outermost x p st) st s m before there
      (sound code entry CodeAsks CodeDoes (piece pc x) (op-formed (named_at ir pc x) x) (op-calls code entry placed.meets (named_at ir pc x) x)
      (Arrives (image pc) (effect ir outermost x p st)) (at pc) s m (subst (IsCode (at pc)) (sym (words pc x)) (placed.lies pc x there)) (placed.stands pc x there) f.same f.is
      (op_owes (image pc) (named_at ir pc x) ir (placed.sites pc x there) (text_address ir) refl refl refl placed.literals x refl p.numbers p.texts st s (fits_at pc x p st s m before there f) f.stands_for f.is.good f.same).by)
      f.is f.written
      (effect_facts ir st.left (length ir.names) outermost x p.numbers p.texts st (can.have_code pc x there) (laid.reached pc x there) refl (can.well_formed.there pc x there) (refl, f.names, f.entries)) (pended pc x p st there f.heights) few

  -- the first operation of an item takes a step
  begins : (k : ℕ) → Runs k → (marked : Bool) (item pc : ℕ) (x : Op) (p : Pending) (st : State) (s : Core) (m : Machine) (before : List ℕ) → slice_get ir.ops pc ≡ Some x → Stands pc p st s m before → 2 * suc k ≤ st.left
      → Follows (suc k) (shown (and_on (flat_from ir k) (on_value (begun marked item st) (λ _. performed ir (place_at pc p) x)))) m before
  begins k runs false item pc x p st s m before there f few = performs k runs pc x p st s m before there f (omega (arith, few))
  begins k runs true item pc x p st s m before there f few = by st.left refl
    where
      by : (left : ℕ) → st.left ≡ left → Follows (suc k) (shown (and_on (flat_from ir k) (on_value (spend (Some item) left st) (λ _. performed ir (place_at pc p) x)))) m before
      by zero e = absurd (omega (arith, few, e))
      by (suc left) e = performs k runs pc x p (record st { left = left; latest = Some item }) s m before there (stands_taken pc p st s m before left (Some item) f) (omega (arith, few, e))

  -- ---- a run

  -- the place after all operations
  last_place : (pc : ℕ) → slice_get ir.ops pc ≡ None → pc ≤ length ir.ops → (pc < length ir.ops) ⊎ (length ir.ops ≤ pc) → pc ≡ length ir.ops
  last_place pc none inside (inl low) = absurd (let x = operation_there ir.ops pc low in cc (sym x.1 ∙ none))
  last_place pc none inside (inr high) = omega (arith, inside, high)

  over_end : (k : ℕ) (p : Pending) (st : State) (s : Core) (m : Machine) (before : List ℕ) → Stands (length ir.ops) p st s m before → Follows (suc k) (outcomes.Over st.output st.arena reports.Done) m before
  over_end k p st s m before f =
      let after = sound code entry CodeAsks CodeDoes last_piece refl tt (Arrives (image (length ir.ops)) (Over reports.Done st)) (at (length ir.ops)) s m placed.last_lies placed.last_stands f.same f.is (end_owes (named_at ir (length ir.ops) o.End) p f.stands_for).by in
      over_follows ir code entry base can placed (suc k) (at (length ir.ops)) _ _ (Arrives (image (length ir.ops)) (Over reports.Done st)) reports.Done st s m before after f.written after.holds.by

  by_op : (k : ℕ) → Runs k → (op : Option Op) (pc : ℕ) (p : Pending) (st : State) (s : Core) (m : Machine) (before : List ℕ) → slice_get ir.ops pc ≡ op → Stands pc p st s m before → 2 * suc k ≤ st.left
      → Follows (suc k) (shown (and_on (flat_from ir k) (at_op ir (place_at pc p) op st))) m before
  by_op k runs None pc p st s m before there f few = over_end k p st s m before (subst (λ a. Stands a p st s m before) (last_place pc there f.inside (cases_lt pc (length ir.ops))) f)
  by_op k runs (Some x) pc p st s m before there f few = begins k runs (is_marked ir pc) (item_from ir pc) pc x p st s m before there f few

  pub follow_run : (k : ℕ) → Runs k
  unfolding flat_from
  follow_run zero pc p st s m before f few =
      (0, omega arith, ap (outcome_of (λ n. arena_of n.ram)) (run-zero board_step m before) ∙ (λ i. outcomes.Going ((sym f.written ∙ f.stands_for.holds.out_is) i) (arena-is s (at pc) m st.arena f.is f.stands_for.holds.has_arena.count f.stands_for.holds.has_arena.each i)))
  follow_run (suc k) pc p st s m before f few = by_op k (follow_run k) (slice_get ir.ops pc) pc p st s m before refl f few
