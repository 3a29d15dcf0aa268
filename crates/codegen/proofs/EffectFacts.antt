-- What an operation leaves alone: the steps that are left, and which names there are; and where it leads.
use Rattle.std.proofs.Common.{◌≡◌, ℕ, ◌+◌, ◌-◌, ◌≤◌, ◌==◌, if◌then◌else◌, Bool, true, false, ℤ, List, [], ◌∷◌, Option, None, Some, length, slice_index_or, Result, Ok, Err, refl, ◌∙◌, arith}
use Rattle.std.proofs.lemmas.List.{length-set}
use Rattle.std.specs.Ordering.{int_eq}
use Rattle.std.specs.Prelude.{pos, slice_get}
use Rattle.bas_ir.specs.declared.ir.Ir.{Ir}
use Rattle.bas_ir.specs.declared.op.Op.{Op}
use Rattle.bas_ir.specs.declared.op.Op.TheVariants as o
use Rattle.bas_ir.specs.Coded.{HasCode}
use Rattle.bas_store.specs.Entries.{cell_of}
use Rattle.bas_store.specs.declared.cell.IntegerCell.{IntegerCell}
use Rattle.bas_store.specs.declared.cell.IntegerCell.TheVariants as cells
use Rattle.bas_ir.specs.Effects.{Effect, Falls, Goes, Opens, falls, go_if, go_if_one, go_if_equal, gosub_if_one, raise_if_one, round_or_on, effect}
use Rattle.bas_ir.specs.Places.{Pending, pushed}
use Rattle.bas_ir.specs.WellFormed.{IsReached, IsThere, IsCounter}
use Rattle.bas_sem.specs.Actions.{taker, raised_to, raise, assign, or_raise, or_unknown}
use Rattle.bas_sem.specs.Calls.{Level, GoOn}
use Rattle.bas_sem.specs.Data.{item_taken}
use Rattle.bas_sem.specs.Course.{Course, Value, on_value, ◌>>◌, give}
use Rattle.bas_sem.specs.Loops.{found_or, leave_open, settle, goes_round, turned}
use Rattle.bas_sem.specs.Operators.{of_one, of_two, comparison}
use Rattle.bas_sem.specs.State.{State}
use Rattle.bas_store.specs.Cells.{Cell, Resident, Integer}
use Rattle.bas_store.specs.Opened as store
use Rattle.bas_store.specs.Opened.{Closer, AnyNext, NextOf, Until, EndWhile, Return, Found, closes}
use Rattle.bas_store.specs.Stored.{Handler, Opening, For, Repeat, While, Gosub, Entry, number_in, or_zero, with_number}
use Rattle.bv_num.specs.Operation.{operation, exact, Add}
use Rattle.bv_num.specs.Value.{data_value}
use Rattle.codegen.specs.StandsFor.{IsNamed, IsEntry, AreEntries}
use Rattle.bas_value.specs.Errors.{error_text, unknown_variable, no_for, no_repeat, no_while, no_subroutine, out_of_data}

-- the steps that are left, the number of names with integers, and what open entries name
abbrev Same : Ir → ℕ → ℕ → State → Type 0
Same ir left names st = (st.left ≡ left) × (length st.stored.integers ≡ names) × AreEntries names (length ir.starts) st.stored.opened

-- an item that may be there
abbrev pub IsItem : Ir → Option ℕ → Type 0
IsItem ir None = Unit {0}
IsItem ir (Some item) = item ≤ length ir.starts

-- what holds where an operation comes to
abbrev pub Facts : Ir → (left names : ℕ) → Course Effect → Type 0
Facts ir left names (Value (Falls p) st) = Same ir left names st
Facts ir left names (Value (Goes (GoOn item)) st) = (item ≤ length ir.starts) × Same ir left names st
Facts ir left names (Value (Opens line opening to p) st) = IsItem ir to × IsNamed names opening × Same ir left names st
Facts ir left names _ = Unit {0}

-- the entry that a word closes, and those below it, are among the open ones
abbrev FitsFound : (names items : ℕ) → Option Found → Type 0
FitsFound names items None = Unit {0}
FitsFound names items (Some f) = IsEntry names items f.entry × AreEntries names items f.below

nearest_fits : (names items depth : ℕ) (closer : Closer) (es : List Entry) → AreEntries names items es → FitsFound names items (store.nearest depth closer es)
nearest_fits names items depth closer [] are = tt
nearest_fits names items depth closer (e ∷ es) are = by (e.call == depth) (closes closer e.opening) (nearest_fits names items depth closer es are.1)
  where
    by : (a b : Bool) → FitsFound names items (store.nearest depth closer es)
        → FitsFound names items (if a then (if b then Some (record { entry = e; below = es }) else store.nearest depth closer es) else None)
    by true true rest = are
    by true false rest = rest
    by false b rest = tt

module _ (ir : Ir) (left names : ℕ) where
  -- an error comes to no value
  by_handler : {A : Type 0} (f : A → State → Course Effect) (handler : Option Handler) (error : ℤ) (text : List ℕ) (line : ℕ) (st : State) → Facts ir left names (on_value (raised_to {A = A} handler error text line st) f)
  by_handler f None error text line st = tt
  by_handler f (Some handler) error text line st = tt

  by_raise : {A : Type 0} (f : A → State → Course Effect) (error line : ℕ) (st : State) → Facts ir left names (on_value (raise {A = A} error line st) f)
  by_raise f error line st = by_handler f (taker (int_eq (pos error) (pos 0)) st.handler) (pos error) (error_text error) line st

  raised_facts : (handler : Option Handler) (error : ℤ) (text : List ℕ) (line : ℕ) (st : State) → Facts ir left names (raised_to {A = Effect} handler error text line st)
  raised_facts None error text line st = tt
  raised_facts (Some handler) error text line st = tt

  -- a result or its error, and a cell that may never have been made
  by_result : (line : ℕ) (p : Pending) (result : Result ℤ ℕ) (st : State) → Same ir left names st → Facts ir left names (on_value (or_raise line result st) (λ value. falls (pushed value p)))
  by_result line p (Ok value) st same = same
  by_result line p (Err error) st same = by_raise (λ value. falls (pushed value p)) error line st

  by_change : (line resident : ℕ) (p : Pending) (result : Result ℤ ℕ) (st : State) → Same ir left names st → Facts ir left names (on_value (or_raise line result st) (λ value. assign (Resident resident) value >> falls p))
  by_change line resident p (Ok value) st same = same
  by_change line resident p (Err error) st same = by_raise (λ value. assign (Resident resident) value >> falls p) error line st

  by_cell : (line : ℕ) (p : Pending) (cell : Option ℤ) (st : State) → Same ir left names st → Facts ir left names (on_value (or_unknown line cell st) (λ value. falls (pushed value p)))
  by_cell line p None st same = by_raise (λ value. falls (pushed value p)) unknown_variable line st
  by_cell line p (Some value) st same = same

  by_zero : (zero : Bool) (item : ℕ) (p : Pending) (st : State) → item ≤ length ir.starts → Same ir left names st → Facts ir left names (Value (go_if zero item p) st)
  by_zero true item p st there same = (there, same)
  by_zero false item p st there same = same

  by_one : (one : Bool) (item : ℕ) (value : ℤ) (p : Pending) (st : State) → item ≤ length ir.starts → Same ir left names st → Facts ir left names (Value (go_if_one one item value p) st)
  by_one true item value p st there same = (there, same)
  by_one false item value p st there same = same

  by_gosub : (one : Bool) (item line : ℕ) (value : ℤ) (p : Pending) (st : State) → item ≤ length ir.starts → Same ir left names st → Facts ir left names (Value (gosub_if_one one item line value p) st)
  by_gosub true item line value p st there same = (there, tt, same)
  by_gosub false item line value p st there same = same

  by_equal : (equal : Bool) (item : ℕ) (value : ℤ) (p : Pending) (st : State) → item ≤ length ir.starts → Same ir left names st → Facts ir left names (Value (go_if_equal equal item value p) st)
  by_equal true item value p st there same = (there, same)
  by_equal false item value p st there same = same

  by_raise_one : (one : Bool) (error line : ℕ) (value : ℤ) (p : Pending) (st : State) → Same ir left names st → Facts ir left names (raise_if_one one error line value p st)
  by_raise_one true error line value p st same = raised_facts (taker (int_eq (pos error) (pos 0)) st.handler) (pos error) (error_text error) line st
  by_raise_one false error line value p st same = same

  -- an error within what is done with an entry or an item of DATA
  raised_within : {A B : Type 0} (f : A → State → Course B) (g : B → State → Course Effect) (error line : ℕ) (st : State) → Facts ir left names (on_value (on_value (raise {A = A} error line st) f) g)
  raised_within {A} f g error line st = by (taker (int_eq (pos error) (pos 0)) st.handler)
    where
      by : (handler : Option Handler) → Facts ir left names (on_value (on_value (raised_to {A = A} handler (pos error) (error_text error) line st) f) g)
      by None = tt
      by (Some handler) = tt

  -- READ
  by_read : (line : ℕ) (p : Pending) (item : Option (List ℕ)) (st : State) → Same ir left names st
      → Facts ir left names (on_value (on_value (item_taken item line st) (λ text. or_raise line (data_value text))) (λ value. falls (pushed value p)))
  by_read line p None st same = raised_within _ _ out_of_data line st
  by_read line p (Some text) st same = by_result line p (data_value text) (record st { data_place = st.data_place + 1 }) same

  -- a closing word that leads on at an item, by the entry that is found
  by_closing : (error line : ℕ) (to : ℕ → ℕ) → ((n : ℕ) → to n ≤ n) → (f : Option Found) (st : State) → FitsFound names (length ir.starts) f → Same ir left names st
      → Facts ir left names (on_value (on_value (found_or error line f st) (λ x. leave_open x.below >> give x.entry.at)) (λ after. give (Goes (GoOn (to after)))))
  by_closing error line to less None st fits same = raised_within _ _ error line st
  by_closing error line to less (Some f) st fits same = (let within = fits.0.within in let n = less f.entry.at in omega (arith, within, n), (same.0, same.1, fits.1))

  -- a loop goes round again, or is closed
  by_settle : (again : Bool) (f : Found) (p : Pending) (st : State) → FitsFound names (length ir.starts) (Some f) → (st.left ≡ left) × (length st.stored.integers ≡ names)
      → Facts ir left names (on_value (settle again f st) (λ back. give (round_or_on p back)))
  by_settle true f p st fits same = (fits.0.within, (same.0, same.1, fits))
  by_settle false f p st fits same = (same.0, same.1, fits.1)

  by_until : (error line : ℕ) (again : Bool) (p : Pending) (f : Option Found) (st : State) → FitsFound names (length ir.starts) f → Same ir left names st
      → Facts ir left names (on_value (on_value (found_or error line f st) (settle again)) (λ back. give (round_or_on p back)))
  by_until error line again p None st fits same = raised_within _ _ error line st
  by_until error line again p (Some f) st fits same = by_settle again f p st fits (same.0, same.1)

  -- NEXT
  numbered : (cell : Cell) (new : ℤ) (st : State) → length (with_number cell new st.stored).integers ≡ length st.stored.integers
  numbered (Resident index) new st = refl
  numbered (Integer name) new st = length-set st.stored.integers name (Some new)

  by_turned : (line : ℕ) (o : Opening) (f : Found) (p : Pending) (st : State) → FitsFound names (length ir.starts) (Some f) → Same ir left names st
      → Facts ir left names (on_value (turned line o f st) (λ back. give (round_or_on p back)))
  by_turned line (For cell limit step) f p st fits same = by (operation Add (or_zero (number_in cell st.stored)) step)
    where
      by : (result : Result ℤ ℕ) → Facts ir left names (on_value (on_value (or_raise line result st) (λ new. assign cell new >> settle (goes_round limit step new) f)) (λ back. give (round_or_on p back)))
      by (Ok new) = by_settle (goes_round limit step new) f p (record st { stored = with_number cell new st.stored }) fits (same.0, numbered cell new st ∙ same.1)
      by (Err error) = raised_within _ _ error line st
  by_turned line Repeat f p st fits same = tt
  by_turned line While f p st fits same = tt
  by_turned line Gosub f p st fits same = tt

  by_next : (error line : ℕ) (p : Pending) (f : Option Found) (st : State) → FitsFound names (length ir.starts) f → Same ir left names st
      → Facts ir left names (on_value (on_value (found_or error line f st) (λ x. turned line x.entry.opening x)) (λ back. give (round_or_on p back)))
  by_next error line p None st fits same = raised_within _ _ error line st
  by_next error line p (Some f) st fits same = by_turned line f.entry.opening f p st fits same

  named_counter : (counter : IntegerCell) (limit step : ℤ) → names ≡ length ir.names → IsCounter ir counter → IsNamed names (For (cell_of counter) limit step)
  named_counter (cells.Resident index) limit step count there = there
  named_counter (cells.Named name) limit step count there = omega (arith, count, there)

  -- what a word closes
  abbrev Nearest : ℕ → Closer → State → Option Found
  Nearest depth closer st = store.nearest depth closer st.stored.opened

  fits_nearest : (depth : ℕ) (closer : Closer) (st : State) → Same ir left names st → FitsFound names (length ir.starts) (Nearest depth closer st)
  fits_nearest depth closer st same = nearest_fits names (length ir.starts) depth closer st.stored.opened same.2

  pub effect_facts : (level : Level) (x : Op) (numbers : List ℤ) (texts : List (List ℕ)) (st : State) → HasCode x → IsReached ir x → names ≡ length ir.names → IsThere ir x → Same ir left names st → Facts ir left names (effect ir level x (record { numbers = numbers; texts = texts }) st)
  effect_facts level (o.Push value) numbers texts st coded there count is same = same
  effect_facts level o.PushColumn numbers texts st coded there count is same = same
  effect_facts level (o.PushResident index) numbers texts st coded there count is same = same
  effect_facts level (o.PushInteger name line) numbers texts st coded there count is same = by_cell line (record { numbers = numbers; texts = texts }) (slice_index_or st.stored.integers name None) st same
  effect_facts level (o.PushText number) numbers texts st coded there count is same = same
  effect_facts level (o.Unary x line) [] texts st coded there count is same = tt
  effect_facts level (o.Unary x line) (value ∷ numbers) texts st coded there count is same = by_result line (record { numbers = numbers; texts = texts }) (of_one x value) st same
  effect_facts level (o.Binary x line) [] texts st coded there count is same = tt
  effect_facts level (o.Binary x line) (value ∷ []) texts st coded there count is same = tt
  effect_facts level (o.Binary x line) (y ∷ z ∷ numbers) texts st coded there count is same = by_result line (record { numbers = numbers; texts = texts }) (of_two x z y) st same
  effect_facts level (o.BinaryWith x line number) [] texts st coded there count is same = tt
  effect_facts level (o.BinaryWith x line number) (y ∷ numbers) texts st coded there count is same = by_result line (record { numbers = numbers; texts = texts }) (of_two x y number) st same
  effect_facts level (o.BinaryWithResident x resident line) [] texts st coded there count is same = tt
  effect_facts level (o.BinaryWithResident x resident line) (y ∷ numbers) texts st coded there count is same =
      by_result line (record { numbers = numbers; texts = texts }) (of_two x y (or_zero (number_in (Resident resident) st.stored))) st same
  effect_facts level (o.ChangeResident x resident line number) numbers texts st coded there count is same =
      by_change line resident (record { numbers = numbers; texts = texts }) (of_two x (or_zero (number_in (Resident resident) st.stored)) number) st same
  effect_facts level (o.StoreResident index) [] texts st coded there count is same = tt
  effect_facts level (o.StoreResident index) (value ∷ numbers) texts st coded there count is same = same
  effect_facts level (o.StoreInteger name) [] texts st coded there count is same = tt
  effect_facts level (o.StoreInteger name) (value ∷ numbers) texts st coded there count is same = (same.0, length-set st.stored.integers name (Some value) ∙ same.1, same.2)
  effect_facts level (o.WriteNumber padded format) [] texts st coded there count is same = tt
  effect_facts level (o.WriteNumber padded format) (value ∷ numbers) texts st coded there count is same = same
  effect_facts level o.WriteText numbers [] st coded there count is same = tt
  effect_facts level o.WriteText numbers (text ∷ texts) st coded there count is same = same
  effect_facts level (o.Write x) [] texts st coded there count is same = tt
  effect_facts level (o.Write x) (value ∷ numbers) texts st coded there count is same = same
  effect_facts level (o.WriteMark x) numbers texts st coded there count is same = same
  effect_facts level (o.Go item) numbers texts st coded there count is same = (there, same)
  effect_facts level (o.GoIfZero item) [] texts st coded there count is same = tt
  effect_facts level (o.GoIfZero item) (value ∷ numbers) texts st coded there count is same = by_zero (int_eq value (pos 0)) item (record { numbers = numbers; texts = texts }) st there same
  effect_facts level (o.GoUnless relation item) [] texts st coded there count is same = tt
  effect_facts level (o.GoUnless relation item) (y ∷ []) texts st coded there count is same = tt
  effect_facts level (o.GoUnless relation item) (y ∷ x ∷ numbers) texts st coded there count is same =
      by_zero (int_eq (exact (comparison relation) x y) (pos 0)) item (record { numbers = numbers; texts = texts }) st there same
  effect_facts level (o.GoUnlessWith relation item number) [] texts st coded there count is same = tt
  effect_facts level (o.GoUnlessWith relation item number) (x ∷ numbers) texts st coded there count is same =
      by_zero (int_eq (exact (comparison relation) x number) (pos 0)) item (record { numbers = numbers; texts = texts }) st there same
  effect_facts level o.Discard [] texts st coded there count is same = tt
  effect_facts level o.Discard (value ∷ numbers) texts st coded there count is same = same
  effect_facts level (o.GoIfOne item) [] texts st coded there count is same = tt
  effect_facts level (o.GoIfOne item) (value ∷ numbers) texts st coded there count is same = by_one (int_eq value (pos 1)) item value (record { numbers = numbers; texts = texts }) st there same
  effect_facts level (o.GosubIfOne line item) [] texts st coded there count is same = tt
  effect_facts level (o.GosubIfOne line item) (value ∷ numbers) texts st coded there count is same = by_gosub (int_eq value (pos 1)) item line value (record { numbers = numbers; texts = texts }) st there same
  effect_facts level (o.RaiseIfOne error line) [] texts st coded there count is same = tt
  effect_facts level (o.RaiseIfOne error line) (value ∷ numbers) texts st coded there count is same = by_raise_one (int_eq value (pos 1)) error line value (record { numbers = numbers; texts = texts }) st same
  effect_facts level (o.GoIfEqual item) [] texts st coded there count is same = tt
  effect_facts level (o.GoIfEqual item) (y ∷ []) texts st coded there count is same = tt
  effect_facts level (o.GoIfEqual item) (y ∷ x ∷ numbers) texts st coded there count is same = by_equal (int_eq y x) item x (record { numbers = numbers; texts = texts }) st there same
  effect_facts level (o.OpenFor counter line) [] texts st coded there count is same = tt
  effect_facts level (o.OpenFor counter line) (step ∷ []) texts st coded there count is same = tt
  effect_facts level (o.OpenFor counter line) (step ∷ limit ∷ numbers) texts st coded there count is same = (tt, named_counter counter limit step count is, same)
  effect_facts level (o.OpenRepeat line) numbers texts st coded there count is same = (tt, tt, same)
  effect_facts level (o.OpenWhile line) numbers texts st coded there count is same = (tt, tt, same)
  effect_facts level (o.Gosub line item) numbers texts st coded there count is same = (there, tt, same)
  effect_facts level (o.Next counter line) numbers texts st coded there count is same =
      by_next (store.closing_error level.depth (NextOf (cell_of counter)) st.stored.opened) line (record { numbers = numbers; texts = texts }) (Nearest level.depth (NextOf (cell_of counter)) st) st (fits_nearest level.depth (NextOf (cell_of counter)) st same) same
  effect_facts level (o.NextAny line) numbers texts st coded there count is same =
      by_next no_for line (record { numbers = numbers; texts = texts }) (Nearest level.depth AnyNext st) st (fits_nearest level.depth AnyNext st same) same
  effect_facts level (o.Until line) [] texts st coded there count is same = tt
  effect_facts level (o.Until line) (value ∷ numbers) texts st coded there count is same =
      by_until no_repeat line (int_eq value (pos 0)) (record { numbers = numbers; texts = texts }) (Nearest level.depth Until st) st (fits_nearest level.depth Until st same) same
  effect_facts level (o.EndWhile line) numbers texts st coded there count is same =
      by_closing no_while line (λ after. after - 1) (λ n. omega arith) (Nearest level.depth EndWhile st) st (fits_nearest level.depth EndWhile st same) same
  effect_facts level (o.Return line) numbers texts st coded there count is same =
      by_closing no_subroutine line (λ after. after) (λ n. omega arith) (Nearest level.depth Return st) st (fits_nearest level.depth Return st same) same
  effect_facts level (o.ReadNumber line) numbers texts st coded there count is same = by_read line (record { numbers = numbers; texts = texts }) (slice_get ir.data_items st.data_place) st same
  effect_facts level (o.Restore item) numbers texts st coded there count is same = same
  effect_facts level (o.Raise error line) numbers texts st coded there count is same = raised_facts (taker (int_eq (pos error) (pos 0)) st.handler) (pos error) (error_text error) line st
  effect_facts level o.End numbers texts st coded there count is same = tt
  effect_facts level (o.Enter kind routine line) numbers texts st coded there count is same = absurd coded
  effect_facts level (o.LeaveProcedure line) numbers texts st coded there count is same = absurd coded
  effect_facts level (o.NeedFunction line) numbers texts st coded there count is same = absurd coded
  effect_facts level o.LeaveNumber numbers texts st coded there count is same = absurd coded
  effect_facts level o.LeaveText numbers texts st coded there count is same = absurd coded
  effect_facts level (o.HandleAll item) numbers texts st coded there count is same = absurd coded
  effect_facts level (o.HandleHere item) numbers texts st coded there count is same = absurd coded
  effect_facts level o.HandleNone numbers texts st coded there count is same = absurd coded
