-- NEXT.
use Rattle.std.proofs.Common.{◌≡◌, ℕ, suc, ◌+◌, ◌*◌, ◌<◌, ◌≤◌, ◌==◌, inl, inr, nat_le, if◌then◌else◌, Bool, true, false, ℤ, pos, ◌+ℤ◌, List, ◌∷◌, length, Option, None, Some, Result, Ok, Err, slice_index_or, refl, sym, ap, subst, ◌∙◌, arith, eqb-true}
use Rattle.std.proofs.Math.Path.{transport}
use Rattle.std.proofs.lemmas.Bool.{eqb-false, not-true, not-false, le-leb, lt-leb}
use Rattle.bas_store.specs.Entries.{cell_of}
use Rattle.bas_store.specs.declared.cell.IntegerCell.{IntegerCell}
use Rattle.bas_store.specs.declared.cell.IntegerCell.TheVariants as cells
use Rattle.bas_ir.specs.declared.op.Op.TheVariants as o
use Rattle.bas_ir.specs.Coded.{HasCounterWidth}
use Rattle.bas_ir.specs.Effects.{Effect, round_or_on}
use Rattle.bas_ir.specs.Places.{nothing}
use Rattle.bas_sem.specs.Actions.{or_raise, assign}
use Rattle.bas_sem.specs.Course.{Course, Value, on_value, ◌>>◌, give}
use Rattle.bas_sem.specs.Loops.{found_or, kept_if, again_at, settle, goes_round, turned}
use Rattle.bas_sem.specs.State.{State}
use Rattle.bas_store.specs.Cells.{Cell, Resident, Integer}
use Rattle.bas_store.specs.Opened as store
use Rattle.bas_store.specs.Opened.{Closer, AnyNext, NextOf, Until, EndWhile, Return, Found, closes, next_error}
use Rattle.bas_store.specs.Stored.{Opening, For, Repeat, While, Gosub, Entry, number_in, or_zero, with_number}
use Rattle.bv_num.specs.Bits.{signed}
use Rattle.bv_num.specs.Operation.{operation, Add, in_range, too_big}
use Rattle.arm_isa.specs.Numbers.{NE}
use Rattle.arm2_alu.proofs.ValueLaws.{compared}
use Rattle.arm_core.specs.Core.{Core, IsGood, put, word}
use Rattle.arm_core.specs.Effects.{flagged_by, return_place}
use Rattle.arm_core.proofs.Comparisons.{after-ne}
use Rattle.code_frag.specs.Demands as demands
use Rattle.code_frag.specs.Demands.{Post, Leaves, ToLabel, ToPlace, Owes}
use Rattle.code_frag.specs.Language as language
use Rattle.code_frag.specs.Language.{Skip, When, LeaveTo, ◌⨾◌}
use Rattle.code_frag.specs.Instructions.{num, cmp}
use Rattle.code_frag.specs.Regions.{cells_start, arrays_start, opened_count_at}
use Rattle.code_frag.proofs.Rules.{end_here, seq_then, skip_then, set_then, test_then, when_then, call_then}
use Rattle.runtime_lib.specs.Opened.{opened_count, IsApart, IsVariable, variable_size, nearest, latest, next_number, goes_on, kind_of, step_of, limit_of, code_of, ComesBack, Turned, TurnsBy, TurnsEntry, turning_error}
use Rattle.codegen.specs.Operations.{Named, op_code, raise_if_failed, turn, variable_address}
use Rattle.codegen.specs.Outcomes.{Arrives}
use Rattle.codegen.specs.StandsFor.{ItemTable, Site, IsSite, IsCell, cell_at, cell_word, opening_word, HasLimits, HasEntries, HasOpened, IsNamed, AreEntries, Holds, StandsFor}
use Rattle.codegen.proofs.Arriving.{CodeAsks, CodeDoes, load_then, over_by, raise_over, raised}
use Rattle.codegen.proofs.CellLaws.{holds_resident_by, holds_integer_by}
use Rattle.codegen.proofs.EntryLaws.{wanted, IsCloser, IsFound, SameFound, find_nearest}
use Rattle.codegen.proofs.LoopOps.{branch_place, variable-is, address-low}
use Rattle.codegen.proofs.OpenOps.{check_then, pending_after, holds_same}
use Rattle.codegen.proofs.StateLaws.{entries_kept}

-- ---- the variable of an entry

-- a cell's word is a variable's
is_variable : (names : ℕ) (cell : Cell) → names ≤ 4096 → IsNamed names (For cell (pos 0) (pos 0)) → IsVariable (cell_word cell)
is_variable names (Resident index) few fits = inl (omega arith, omega arith, omega (arith, fits))
is_variable names (Integer name) few fits = inr (omega arith, omega arith, omega (arith, few, fits))

named_cell : (names : ℕ) (cell : Cell) (limit step : ℤ) → IsNamed names (For cell limit step) → IsNamed names (For cell (pos 0) (pos 0))
named_cell names (Resident index) limit step fits = fits
named_cell names (Integer name) limit step fits = fits

-- its number, 0 where it was never made
number-is : (branches : ℕ) (table : ItemTable) (st : State) (base stack : ℕ) (m : ℕ → ℕ) (out : List ℕ) (cell : Cell) → Holds branches table st base stack m out → IsNamed (length st.stored.integers) (For cell (pos 0) (pos 0))
    → signed (word m (cell_word cell)) ≡ or_zero (number_in cell st.stored)
number-is branches table st base stack m out (Resident index) h fits = h.has_residents.each index fits
number-is branches table st base stack m out (Integer name) h fits = by (slice_index_or st.stored.integers name None) (h.has_integers.each name fits)
  where
    by : (value : Option ℤ) → IsCell (word m (cell_at name + 4)) (signed (word m (cell_at name))) value → signed (word m (cell_at name)) ≡ or_zero value
    by None is = is.1
    by (Some value) is = is.1

-- the state after its number is another and other entries are open
abbrev pub turned_state : Cell → ℤ → List Entry → State → State
turned_state cell v es st = record st { stored = record (with_number cell v st.stored) { opened = es } }

holds_turned : (branches : ℕ) (table : ItemTable) (st : State) (base stack : ℕ) (m k : ℕ → ℕ) (out : List ℕ) (cell : Cell) (v : ℤ) (es : List Entry) → Holds branches table st base stack m out → IsNamed (length st.stored.integers) (For cell (pos 0) (pos 0))
    → signed (word k (cell_word cell)) ≡ v → (cells_start ≤ cell_word cell → word k (cell_word cell + 4) ≡ 1) → HasOpened branches k es
    → ((a : ℕ) → IsApart opened_count_at 4 a → IsApart (cell_word cell) (variable_size (cell_word cell)) a → k a ≡ m a) → Holds branches table (turned_state cell v es st) base stack k out
holds_turned branches table st base stack m k out (Resident index) v es h fits number made opened same =
    let small : variable_size (cell_word (Resident index)) ≡ 4 = ap (λ b. if b then 8 else 4) (lt-leb cells_start (cell_word (Resident index)) (omega (arith, fits))) in
    holds_resident_by st base stack m k out index v es h fits number opened (λ a low count apart. same a count (subst (λ n. IsApart (cell_word (Resident index)) n a) (sym small) apart))
holds_turned branches table st base stack m k out (Integer name) v es h fits number made opened same =
    let large : variable_size (cell_word (Integer name)) ≡ 8 = ap (λ b. if b then 8 else 4) (le-leb cells_start (cell_word (Integer name)) (omega arith)) in
    holds_integer_by st base stack m k out name v es h fits number (made (omega arith)) opened (λ a low count apart. same a count (subst (λ n. IsApart (cell_word (Integer name)) n a) (sym large) apart))

-- a closer of FORs
abbrev pub IsNext : Closer → Type 0
IsNext AnyNext = Unit {0}
IsNext (NextOf cell) = Unit {0}
IsNext _ = ⊥

-- it closes nothing but FORs
closes_for : (closer : Closer) (o : Opening) → IsNext closer → closes closer o ≡ true → (cell : Cell) × (limit : ℤ) × (step : ℤ) × (o ≡ For cell limit step)
closes_for AnyNext (For cell limit step) next closed = (cell, limit, step, refl)
closes_for (NextOf named) (For cell limit step) next closed = (cell, limit, step, refl)
closes_for AnyNext Repeat next closed = absurd (cc closed)
closes_for AnyNext While next closed = absurd (cc closed)
closes_for AnyNext Gosub next closed = absurd (cc closed)
closes_for (NextOf named) Repeat next closed = absurd (cc closed)
closes_for (NextOf named) While next closed = absurd (cc closed)
closes_for (NextOf named) Gosub next closed = absurd (cc closed)
closes_for Until o next closed = absurd next
closes_for EndWhile o next closed = absurd next
closes_for Return o next closed = absurd next

-- ---- what NEXT comes to, by the entry that is found

abbrev pub Nexts : State → ℕ → ℕ → Option Found → Course Effect
Nexts st line error e = on_value (on_value (found_or error line e st) (λ f. turned line f.entry.opening f)) (λ back. give (round_or_on nothing back))

-- a FOR of a cell: its number is another, or its error ends the run
abbrev pub Turning : State → ℕ → Cell → (limit step : ℤ) → Found → Result ℤ ℕ → Course Effect
Turning st line cell limit step f result =
    on_value (on_value (or_raise line result st) (λ new. assign cell new >> settle (goes_round limit step new) f)) (λ back. give (round_or_on nothing back))

turning_is : (st : State) (line error : ℕ) (f : Found) (cell : Cell) (limit step : ℤ) → f.entry.opening ≡ For cell limit step
    → Nexts st line error (Some f) ≡ Turning st line cell limit step f (operation Add (or_zero (number_in cell st.stored)) step)
turning_is st line error f cell limit step is = ap (λ o. on_value (turned line o f st) (λ back. give (round_or_on nothing back))) is

-- what follows on the call
abbrev Rest : ℕ → language.Piece
Rest line = raise_if_failed line ⨾ cmp 2 (num 0) ⨾ When NE (LeaveTo 2) ⨾ Skip

-- to the address in a register, at a piece's end
leave_to_end : {rm : ℕ} {Q : Post} {s : Core} (a : ℕ) → return_place (s.regs rm) ≡ a → Q (Leaves (ToPlace a)) s → Owes CodeAsks CodeDoes (LeaveTo rm) Q s
leave_to_end {rm} {Q} {s} a is q = record { by = subst (λ p. Q (Leaves (ToPlace p)) s) (sym is) q }

-- ---- after the call

-- the loop goes round again, or is over
turned_end : {image : Site} {t : Core} {out : demands.Out} (st : State) (line : ℕ) (cell : Cell) (limit step new : ℤ) (f : Found) (b : Bool) → goes_round limit step new ≡ b
    → Arrives image (Value (round_or_on nothing (again_at b f)) (turned_state cell new (kept_if b f) st)) out t → Arrives image (Turning st line cell limit step f (Ok new)) out t
turned_end {image} {t} {out} st line cell limit step new f b is a =
    subst (λ c. Arrives image (Value (round_or_on nothing (again_at c f)) (turned_state cell new (kept_if c f) st)) out t) (sym is) a

over_end : (st : State) (line : ℕ) (cell : Cell) (limit step : ℤ) (f : Found) (error : ℕ) → st.handler ≡ None → Turning st line cell limit step f (Err error) ≡ over_by error line st
over_end st line cell limit step f error unhandled =
    ap (λ c. on_value (on_value c (λ new. assign cell new >> settle (goes_round limit step new) f)) (λ back. give (round_or_on nothing back))) (raise_over {A = ℤ} error line st unhandled)

-- the error of a sum
sum_error : (z : ℤ) (error : ℕ) → in_range z ≡ Err error → error ≡ too_big
sum_error z error e = by _ e
  where
    by : (t : Bool) → (if t then Ok z else Err too_big) ≡ Err error → error ≡ too_big
    by true e = absurd (cc e)
    by false e = sym (cc e)

module _ (image : Site) (st : State) (s t : Core) (site : IsSite image) (line : ℕ) (fits : line < 65536) (h : StandsFor image nothing st s) (good : IsGood t) (back : ComesBack s demands.Falls t)
    (closer : Closer) (f : Found) (k : ℕ) (cell : Cell) (limit step : ℤ) (found : IsFound image.branches (length st.stored.integers) image.items s.mem closer st.stored.opened f k) (is : f.entry.opening ≡ For cell limit step) where
  names : IsNamed (length st.stored.integers) (For cell (pos 0) (pos 0))
  names = named_cell (length st.stored.integers) cell limit step (subst (IsNamed (length st.stored.integers)) is found.fits.named)

  kind : kind_of s.mem k ≡ cell_word cell
  kind = ap (kind_of s.mem) found.index ∙ found.entry.kind ∙ ap opening_word is

  limits : HasLimits s.mem (length f.below) (For cell limit step)
  limits = subst (HasLimits s.mem (length f.below)) is found.entry.limits

  limit_is : signed (limit_of s.mem k) ≡ limit
  limit_is = (λ i. signed (limit_of s.mem (found.index i))) ∙ limits.0

  step_is : signed (step_of s.mem k) ≡ step
  step_is = (λ i. signed (step_of s.mem (found.index i))) ∙ limits.1

  abbrev old : ℤ
  old = or_zero (number_in cell st.stored)

  next_is : next_number s.mem k ≡ in_range (old +ℤ step)
  next_is = λ i. in_range ((ap (λ a. signed (word s.mem a)) kind ∙ number-is image.branches image.table st (s.regs 11) (s.regs 13) s.mem s.out cell h.holds names) i +ℤ step_is i)

  low : cell_word cell + 8 ≤ arrays_start
  low = by (is_variable (length st.stored.integers) cell h.holds.has_integers.few names)
    where
      by : IsVariable (cell_word cell) → cell_word cell + 8 ≤ arrays_start
      by (inl a) = let high = a.2 in omega (arith, high)
      by (inr a) = let high = a.2 in let aligned = a.0 in omega (arith, high, aligned)

  -- the state after it
  turned_stands : (new : ℤ) (es : List Entry) → TurnsEntry k new s t → HasEntries image.branches s.mem es → length es ≤ 4096 → opened_count t.mem ≡ length es → StandsFor image nothing (turned_state cell new es st) t
  turned_stands new es d entries few count =
      let apart : (a : ℕ) → arrays_start ≤ a → IsApart (kind_of s.mem k) (variable_size (kind_of s.mem k)) a = λ a high. away a high in
      let pending = pending_after image.bytes nothing back (omega arith) (λ a from to. d.mem a (inr (omega (arith, from))) (apart a from)) h.numbers h.texts in
      record {
        holds = transport (λ i. Holds image.branches image.table (turned_state cell new es st) (sym (back.kept 11 (omega arith) (omega arith)) i) (sym (back.kept 13 (omega arith) (omega arith)) i) t.mem (sym back.out i))
            (holds_turned image.branches image.table st (s.regs 11) (s.regs 13) s.mem t.mem s.out cell new es h.holds names ((λ i. signed (word t.mem (sym kind i))) ∙ d.variable)
            (λ named. (λ i. word t.mem (sym kind i + 4)) ∙ d.made (let e = kind in omega (arith, named, e)))
            (record { count = count; few = few; entries = entries_kept image.branches s.mem t.mem es entries (λ a from to. d.mem a (inr (omega (arith, from))) (apart a (omega (arith, from)))) })
            (λ a count_apart there. d.mem a count_apart (subst (λ w. IsApart w (variable_size w) a) (sym kind) there)));
        numbers = pending.0;
        texts = pending.1;
      }
    where
      sized : (w : ℕ) → variable_size w ≤ 8
      sized w = by (nat_le cells_start w)
        where
          by : (b : Bool) → (if b then 8 else 4) ≤ 8
          by true = omega arith
          by false = omega arith

      away : (a : ℕ) → arrays_start ≤ a → IsApart (kind_of s.mem k) (variable_size (kind_of s.mem k)) a
      away a high = inr (let n = sized (kind_of s.mem k) in let e = kind in omega (arith, n, e, low, high))

  few_below : suc (length f.below) ≤ 4096
  few_below = let few = found.few in let all = h.holds.has_opened.few in omega (arith, few, all)

  turned_owes : (result : Result ℤ ℕ) → in_range (old +ℤ step) ≡ result → TurnsBy k result s t → Owes CodeAsks CodeDoes (Rest line) (Arrives image (Turning st line cell limit step f result)) t
  turned_owes (Err error) from d =
      let known = sum_error (old +ℤ step) error from in
      check_then line fits (good.regs 1)
      (λ none. absurd (let e = d.error_is in omega (arith, none, e, known)))
      (λ some. raised (Turning st line cell limit step f (Err error)) error line (over_end st line cell limit step f error h.holds.unhandled) (omega (arith, known)) fits (holds_same st s demands.Falls t h.holds back d.mem) d.error_is refl)
  turned_owes (Ok new) from d =
      check_then line fits (good.regs 1)
      (λ none. test_then (compared (t.regs 2) 0) refl refl (by (goes_round limit step new) refl
      (d.code ∙ (λ i. if goes_on (step_is i) (limit_is i) new then code_of s.mem k else 0)) (d.count ∙ (λ i. if goes_on (step_is i) (limit_is i) new then k + 1 else k))))
      (λ some. absurd (some d.no_error))
    where
      called : Core
      called = flagged_by (compared (t.regs 2) 0) (flagged_by (compared (t.regs 1) 0) t)

      by : (b : Bool) → goes_round limit step new ≡ b → t.regs 2 ≡ (if goes_round limit step new then code_of s.mem k else 0) → opened_count t.mem ≡ (if goes_round limit step new then k + 1 else k)
          → Owes CodeAsks CodeDoes (When NE (LeaveTo 2) ⨾ Skip) (Arrives image (Turning st line cell limit step f (Ok new))) called
      by true goes code count =
          let there : t.regs 2 ≡ image.branches + 4 * f.entry.at = code ∙ ap (λ b. if b then code_of s.mem k else 0) goes ∙ ap (code_of s.mem) found.index ∙ found.entry.code in
          let many : opened_count t.mem ≡ length (f.entry ∷ f.below) = count ∙ ap (λ b. if b then k + 1 else k) goes ∙ (let n = found.index in omega (arith, n)) in
          let low = site.low in
          let q = turned_stands new (f.entry ∷ f.below) d (found.entry, found.below) few_below many in
          when_then
          (λ e. leave_to_end (image.branches + 4 * f.entry.at) (branch_place image site (t.regs 2) f.entry.at there found.fits.within)
          (turned_end st line cell limit step new f true goes (record { by = (inr (refl, found.fits.within), record { holds = q.holds; numbers = q.numbers; texts = q.texts }) })))
          (λ e. absurd (let z = eqb-true (t.regs 2) 0 (not-false (t.regs 2 == 0) (sym (after-ne (t.regs 2) 0 (flagged_by (compared (t.regs 1) 0) t) (good.regs 2) (omega arith)) ∙ e)) in omega (arith, z, there, low)))
      by false goes code count =
          let there : t.regs 2 ≡ 0 = code ∙ ap (λ b. if b then code_of s.mem k else 0) goes in
          let many : opened_count t.mem ≡ length f.below = count ∙ ap (λ b. if b then k + 1 else k) goes ∙ found.index in
          let q = turned_stands new f.below d found.below (let few = few_below in omega (arith, few)) many in
          when_then
          (λ e. absurd (eqb-false (t.regs 2) 0 (not-true (t.regs 2 == 0) (sym (after-ne (t.regs 2) 0 (flagged_by (compared (t.regs 1) 0) t) (good.regs 2) (omega arith)) ∙ e)) there))
          (λ e. end_here (turned_end st line cell limit step new f false goes (record { by = (refl, record { holds = q.holds; numbers = q.numbers; texts = q.texts }) })))

-- ---- NEXT

-- the errors of NEXT
errors-same : (branches count items : ℕ) (m : ℕ → ℕ) (es : List Entry) (a : Option Found) (b : Option ℕ) → SameFound branches count items m AnyNext es a b → turning_error b ≡ next_error a
errors-same branches count items m es None None same = refl
errors-same branches count items m es (Some f) (Some k) same = refl
errors-same branches count items m es None (Some k) same = absurd same
errors-same branches count items m es (Some f) None same = absurd same

error_known : (a : Option Found) → (0 < next_error a) × (next_error a < 256)
error_known None = (omega arith, omega arith)
error_known (Some f) = (omega arith, omega arith)

-- where no entry is found, the error is by the FORs of any variable
error_is : (closer : Closer) (es : List Entry) → IsNext closer → store.nearest 0 closer es ≡ None → store.closing_error 0 closer es ≡ next_error (store.nearest 0 AnyNext es)
error_is AnyNext es next none = sym (ap next_error none)
error_is (NextOf cell) es next none = refl
error_is Until es next none = absurd next
error_is EndWhile es next none = absurd next
error_is Return es next none = absurd next

module _ {image : Site} {st : State} {s : Core} (site : IsSite image) (are : AreEntries (length st.stored.integers) image.items st.stored.opened) (line : ℕ) (fits : line < 65536) (f : StandsFor image nothing st s)
    (closer : Closer) (next : IsNext closer) (named : IsCloser (length st.stored.integers) closer) (what : s.regs 1 ≡ wanted closer) where
  abbrev Same : Closer → Option Found → Option ℕ → Type 0
  Same c a b = SameFound image.branches (length st.stored.integers) image.items s.mem c st.stored.opened a b

  search_is : (w : ℕ) → latest s.mem w ≡ nearest s.mem 0 w (length st.stored.opened)
  search_is w = λ i. nearest s.mem (f.holds.depth i) w (f.holds.has_opened.count i)

  same_found : (c : Closer) → IsCloser (length st.stored.integers) c → Same c (store.nearest 0 c st.stored.opened) (latest s.mem (wanted c))
  same_found c fit =
      subst (Same c (store.nearest 0 c st.stored.opened)) (sym (search_is (wanted c)))
      (find_nearest image.branches (length st.stored.integers) image.items s.mem 0 c fit st.stored.opened f.holds.has_opened.entries are)

  found_here : Same closer (store.nearest 0 closer st.stored.opened) (latest s.mem (s.regs 1))
  found_here = subst (λ w. Same closer (store.nearest 0 closer st.stored.opened) (latest s.mem w)) (sym what) (same_found closer named)

  variable_there : (a : Option Found) (k : ℕ) → Same closer a (Some k) → IsVariable (kind_of s.mem k)
  variable_there None k same = absurd same
  variable_there (Some x) k same =
      let fors = closes_for closer x.entry.opening next same.closed in
      let cell = fors.0 in
      let is = fors.3 in
      subst IsVariable (sym (ap (kind_of s.mem) same.index ∙ same.entry.kind ∙ ap opening_word is))
      (is_variable (length st.stored.integers) cell f.holds.has_integers.few (named_cell (length st.stored.integers) cell fors.1 fors.2 (subst (IsNamed (length st.stored.integers)) is same.fits.named)))

  after_call : (r : ℕ) (t : Core) → IsGood t → ComesBack (put 14 r s) demands.Falls t → (a : Option Found) → store.nearest 0 closer st.stored.opened ≡ a → (b : Option ℕ) → Same closer a b → Turned b (put 14 r s) t
      → Owes CodeAsks CodeDoes (Rest line) (Arrives image (Nexts st line (store.closing_error 0 closer st.stored.opened) a)) t
  after_call r t good back None none None same d =
      let error = store.closing_error 0 closer st.stored.opened in
      let any = errors-same image.branches (length st.stored.integers) image.items s.mem st.stored.opened _ _ (same_found AnyNext tt) in
      let is : t.regs 1 ≡ error = d.error_is ∙ any ∙ sym (error_is closer st.stored.opened next none) in
      let known : (0 < error) × (error < 256) = subst (λ e. (0 < e) × (e < 256)) (sym (error_is closer st.stored.opened next none)) (error_known (store.nearest 0 AnyNext st.stored.opened)) in
      check_then line fits (good.regs 1)
      (λ zero. absurd (omega (arith, zero, is, known)))
      (λ some. raised (Nexts st line error None) error line
      (ap (λ c. on_value (on_value c (λ x. turned line x.entry.opening x)) (λ back. give (round_or_on nothing back))) (raise_over {A = Found} error line st f.holds.unhandled)) (omega (arith, known)) fits
      (holds_same st (put 14 r s) demands.Falls t f.holds back d.mem) is refl)
  after_call r t good back (Some x) some (Some k) same d =
      let fors = closes_for closer x.entry.opening next same.closed in
      let cell = fors.0 in
      let limit = fors.1 in
      let step = fors.2 in
      let is = fors.3 in
      let u = put 14 r s in
      let h : StandsFor image nothing st u = record { holds = f.holds; numbers = f.numbers; texts = f.texts } in
      subst (λ c. Owes CodeAsks CodeDoes (Rest line) (Arrives image c) t) (sym (turning_is st line (store.closing_error 0 closer st.stored.opened) x cell limit step is))
      (turned_owes image st u t site line fits h good back closer x k cell limit step same is _ refl
      (subst (λ n. TurnsBy k n u t) (next_is image st u t site line fits h good back closer x k cell limit step same is) d))
  after_call r t good back None none (Some k) same d = absurd same
  after_call r t good back (Some x) some None same d = absurd same

  pub turn_owes : Owes CodeAsks CodeDoes (turn line) (Arrives image (Nexts st line (store.closing_error 0 closer st.stored.opened) (store.nearest 0 closer st.stored.opened))) s
  turn_owes =
      call_then {e = 16}
      (λ r small. record {
        entries = record { base = f.holds.base_is; few = (let n = f.holds.has_opened.count in let m = f.holds.has_opened.few in omega (arith, n, m)) };
        variable = λ k there. variable_there (store.nearest 0 closer st.stored.opened) k (subst (Same closer (store.nearest 0 closer st.stored.opened)) there found_here);
      })
      (λ r t small good d. after_call r t good d.comes_back (store.nearest 0 closer st.stored.opened) refl (latest s.mem (s.regs 1)) found_here d.turned)
      (λ r l t small good d. absurd (let e = d.comes_back.falls in cc e))

-- NEXT of a variable, and of any
module _ {image : Site} {st : State} {s : Core} (site : IsSite image) (named : Named) (are : AreEntries (length st.stored.integers) image.items st.stored.opened) (line : ℕ) (fits : line < 65536) (f : StandsFor image nothing st s) where
  pub next_any_owes : Owes CodeAsks CodeDoes (op_code named (o.NextAny line)) (Arrives image (Nexts st line (store.closing_error 0 AnyNext st.stored.opened) (store.nearest 0 AnyNext st.stored.opened))) s
  next_any_owes = set_then 0 refl refl (turn_owes site are line fits (record { holds = f.holds; numbers = f.numbers; texts = f.texts }) AnyNext tt tt refl)

  pub next_owes : (counter : IntegerCell) → HasCounterWidth counter → IsCloser (length st.stored.integers) (NextOf (cell_of counter))
      → Owes CodeAsks CodeDoes (op_code named (o.Next counter line)) (Arrives image (Nexts st line (store.closing_error 0 (NextOf (cell_of counter)) st.stored.opened) (store.nearest 0 (NextOf (cell_of counter)) st.stored.opened))) s
  next_owes (cells.Resident index) width there =
      seq_then (set_then (variable_address (cells.Resident index)) refl (variable-is index (s.regs 11) f.holds.base_is there)
      (skip_then (turn_owes site are line fits (record { holds = f.holds; numbers = f.numbers; texts = f.texts }) (NextOf (Resident index)) tt there refl)))
  next_owes (cells.Named name) width there =
      load_then 1 (variable_address (cells.Named name)) (address-low (cells.Named name) width)
      (turn_owes site are line fits (record { holds = f.holds; numbers = f.numbers; texts = f.texts }) (NextOf (Integer name)) tt there refl)
