-- The operations that open and close loops and GOSUBs, other than NEXT, and those of ON.
use Rattle.std.proofs.Common.{◌≡◌, ℕ, zero, suc, ◌+◌, ◌%◌, ◌-◌, ◌*◌, ◌^◌, ◌<◌, ◌≤◌, ◌==◌, inl, inr, Bool, true, false, ℤ, pos, negsuc, ◌∷◌, length, Option, None, Some, refl, sym, ap, subst, ◌∙◌, arith, lt-ltb, ltb-true, ltb-false, ◌-ℤ◌}
use Rattle.std.proofs.lemmas.Int.{ints}
use Rattle.std.specs.Int.Signed.{lt_z}
use Rattle.std.specs.Ordering.{int_eq}
use Rattle.bas_store.specs.Entries.{cell_of}
use Rattle.bas_store.specs.declared.cell.IntegerCell.{IntegerCell}
use Rattle.bas_store.specs.declared.cell.IntegerCell.TheVariants as cells
use Rattle.bas_ir.specs.declared.op.Op.TheVariants as o
use Rattle.bas_ir.specs.Coded.{HasCounterWidth}
use Rattle.bas_ir.specs.Effects.{Effect, Falls, Goes, Opens, counted_down, go_if_one, go_if_equal, gosub_if_one, raise_if_one, round_or_on}
use Rattle.bas_ir.specs.Places.{Pending, nothing, pushed}
use Rattle.bas_sem.specs.Actions.{raise}
use Rattle.bas_sem.specs.Calls.{GoOn}
use Rattle.bas_sem.specs.Course.{Course, Value, on_value, ◌>>◌, give}
use Rattle.bas_sem.specs.Loops.{opens, found_or, settle, leave_open}
use Rattle.bas_sem.specs.State.{State}
use Rattle.bas_store.specs.Opened as store
use Rattle.bas_store.specs.Opened.{NextOf, Until, EndWhile, Return, Found}
use Rattle.bas_store.specs.Stored.{Opening, For, Repeat, While, Gosub}
use Rattle.bas_value.specs.Errors.{no_room, no_repeat, no_while, no_subroutine}
use Rattle.bv_num.specs.Bits.{signed}
use Rattle.arm_isa.specs.Immediates.{immediate_value}
use Rattle.arm_isa.proofs.ImmediateLaws.{immediate_value-byte}
use Rattle.bas_store.specs.Cells.{residents, Resident, Integer}
use Rattle.arm2_alu.specs.Operations.{is_signed_word}
use Rattle.arm2_alu.proofs.ValueLaws.{compared, minus}
use Rattle.arm_core.specs.Core.{Core, IsGood, put, word, put_word}
use Rattle.arm_core.specs.Effects.{flagged_by, return_place}
use Rattle.arm_core.proofs.Comparisons.{after-eq, after-gt}
use Rattle.arm_core.proofs.MemoryWords.{byte-put_other, word-put_same}
use Rattle.code_frag.specs.Demands as demands
use Rattle.code_frag.specs.Demands.{Post, Leaves, ToLabel, ToPlace, Owes}
use Rattle.code_frag.specs.Language as language
use Rattle.code_frag.specs.Language.{Skip, LeaveTo, ◌⨾◌}
use Rattle.code_frag.specs.Regions.{residents_start, opened_count_at}
use Rattle.code_frag.proofs.Rules as rules
use Rattle.code_frag.proofs.Rules.{end_here, seq_then, skip_then, set_then, set_where_then, skip_where_then, test_then, when_then, store_then, pull_then, leave_then, leave_to_then}
use Rattle.code_frag.specs.Language.{◌⨾◌}
use Rattle.codegen.specs.Operations.{Named, op_code, raise_label, item_label, drop, count_down, variable_address, find_variable, open_entry}
use Rattle.codegen.specs.Outcomes.{LeadsTo, ComesOpened, Arrives}
use Rattle.codegen.specs.StandsFor.{Site, IsSite, AreEntries, cell_word, StandsFor}
use Rattle.codegen.proofs.Arriving.{CodeAsks, CodeDoes, Free, IsShort, without_top, free_room, load_then, drop_end, over_by, raise_over, raise_by}
use Rattle.codegen.proofs.EntryLaws.{IsCloser, eqb-by}
use Rattle.codegen.proofs.NumberFacts.{difference-is, equal_by}
use Rattle.codegen.proofs.PendingLaws.{numbers_room}
use Rattle.codegen.proofs.OpenOps.{opened_state, open_end, open_then, left_open, IsClosed, close_then, holds_opened}
use Rattle.codegen.proofs.StateLaws.{entry_kept, entries_kept}

-- ---- a number that is another

-- as the comparison of their registers says it, the other way round
equal_other : (a b : ℕ) (x y : ℤ) → a < 2 ^ 32 → b < 2 ^ 32 → signed a ≡ x → signed b ≡ y → int_eq x y ≡ (b == a)
equal_other a b x y low high first second = equal_by a b x y low high first second ∙ eqb-by a b b a (λ e. sym e) (λ e. sym e)

-- ---- a number that counts down

-- one less, where it is above 1
counted-is : (r : ℕ) (value : ℤ) → r < 2 ^ 32 → signed r ≡ value → lt_z (signed 1) (signed r) ≡ true → signed (minus r 1) ≡ counted_down value
counted-is r (pos zero) small is above = absurd (let n = ltb-true 1 0 (sym (ap (lt_z (signed 1)) is) ∙ above) in omega (arith, n))
counted-is r (pos (suc zero)) small is above = absurd (let n = ltb-true 1 1 (sym (ap (lt_z (signed 1)) is) ∙ above) in omega (arith, n))
counted-is r (pos (suc (suc n))) small is above =
    let e : signed r -ℤ signed 1 ≡ pos (suc n) = omega (arith, ints, is) in
    let word : is_signed_word (signed r -ℤ signed 1) ≡ true = ap is_signed_word e ∙ lt-ltb (suc n) (2 ^ 31) (omega (arith, ints, is, small)) in
    difference-is r 1 small (omega arith) word ∙ e
counted-is r (negsuc n) small is above = absurd (cc (sym (ap (lt_z (signed 1)) is) ∙ above))

-- and the same where it isn't
not_counted : (r : ℕ) (value : ℤ) → signed r ≡ value → lt_z (signed 1) (signed r) ≡ false → value ≡ counted_down value
not_counted r (pos zero) is above = refl
not_counted r (pos (suc zero)) is above = refl
not_counted r (pos (suc (suc n))) is above = absurd (let low = ltb-false 1 (suc (suc n)) (sym (ap (lt_z (signed 1)) is) ∙ above) in omega (arith, low))
not_counted r (negsuc n) is above = refl

count_end : {image : Site} {p : Pending} {st : State} {s : Core} {Q : Post} (value : ℤ) → StandsFor image (pushed value p) st s → IsGood s
    → ((t : Core) → StandsFor image (pushed (counted_down value) p) st t → Q demands.Falls t) → Owes CodeAsks CodeDoes count_down Q (flagged_by (compared (s.regs 0) 1) s)
count_end {image} {p} {st} {s} {Q} value f good fine = by (lt_z (signed 1) (signed (s.regs 0))) refl
  where
    r : ℕ
    r = s.regs 0

    by : (b : Bool) → lt_z (signed 1) (signed r) ≡ b → Owes CodeAsks CodeDoes count_down Q (flagged_by (compared r 1) s)
    by true e =
        set_where_then (minus r 1) (after-gt r 1 s (good.regs 0) (omega arith) ∙ e) refl refl
        (end_here (fine _ (record { holds = f.holds; numbers = (counted-is r value (good.regs 0) f.numbers.0 e, f.numbers.1); texts = f.texts })))
    by false e =
        skip_where_then (after-gt r 1 s (good.regs 0) (omega arith) ∙ e)
        (end_here (fine _ (record { holds = f.holds; numbers = (f.numbers.0 ∙ not_counted r value f.numbers.0 e, f.numbers.1); texts = f.texts })))

-- ---- where entries open

-- the topmost number is dropped, and something follows
pub drop_then : {image : Site} {p : Pending} {st : State} {rest : language.Piece} {Q : Post} {s : Core} → Free image p st s → ((t : Core) → StandsFor image p st t → Owes CodeAsks CodeDoes rest Q t) → Owes CodeAsks CodeDoes (drop ⨾ rest) Q s
drop_then {image} {p} {st} {rest} {Q} {s} f owes =
    let room = free_room f in
    pull_then (s.regs 12) (word s.mem (s.regs 12)) (s.regs 12 + 4) refl refl (omega (arith, room)) (omega (arith, room)) (omega (arith, room))
    (λ small. owes _ (record { holds = f.holds; numbers = f.numbers; texts = f.texts }))

-- where there is no room, and where the machine goes on after an entry opened
opened_full : {image : Site} {st : State} {t : Core} {out : demands.Out} (line : ℕ) (opening : Opening) (to : Option ℕ) (p : Pending) → opens 0 line opening image.next st ≡ over_by no_room line st
    → Arrives image (over_by no_room line st) out t → Arrives image (Value (Opens line opening to p) st) out t
opened_full {image} {st} {t} {out} line opening None p over a = record { by = subst (λ c. ComesOpened image None p c out t) (sym over) a.by }
opened_full {image} {st} {t} {out} line opening (Some item) p over a = record { by = subst (λ c. ComesOpened image (Some item) p c out t) (sym over) a.by }

opened_falls : {image : Site} {st : State} {t : Core} (line : ℕ) (opening : Opening) (p : Pending) → opens 0 line opening image.next st ≡ Value tt (opened_state image opening st) → StandsFor image p (opened_state image opening st) t
    → Arrives image (Value (Opens line opening None p) st) demands.Falls t
opened_falls {image} {st} {t} line opening p is f = record { by = subst (λ c. ComesOpened image None p c demands.Falls t) (sym is) (refl, f) }

opened_goes : {image : Site} {st : State} {t : Core} (line : ℕ) (opening : Opening) (item : ℕ) (p : Pending) → opens 0 line opening image.next st ≡ Value tt (opened_state image opening st)
    → StandsFor image nothing (opened_state image opening st) t → Arrives image (Value (Opens line opening (Some item) p) st) (Leaves (ToLabel (item_label item))) t
opened_goes {image} {st} {t} line opening item p is f = record { by = subst (λ c. ComesOpened image (Some item) p c (Leaves (ToLabel (item_label item))) t) (sym is) (inl refl, f) }

-- the address of the branch to the next item
back_low : (image : Site) → IsSite image → image.branches + 4 * image.next < 2 ^ 32
back_low image site = let high = site.high in let within = site.within in omega (arith, high, within)

back_small : (image : Site) (named : Named) → IsSite image → named.back ≡ image.branches + 4 * image.next → named.back < 2 ^ 32
back_small image named site back = let low = back_low image site in omega (arith, back, low)

-- the address of a branch as a place to go to
pub branch_place : (image : Site) → IsSite image → (x item : ℕ) → x ≡ image.branches + 4 * item → item ≤ image.items → return_place x ≡ image.branches + 4 * item
branch_place image site x item is within = let aligned = site.aligned in let high = site.high in omega (arith, is, within, aligned, high)

-- what a closing word comes to that leads on at an item
abbrev pub Closing : State → ℕ → ℕ → (ℕ → ℕ) → Option Found → Course Effect
Closing st line error to e = on_value (on_value (found_or error line e st) (λ f. leave_open f.below >> give f.entry.at)) (λ after. give (Goes (GoOn (to after))))

no_entry : (st : State) (line error : ℕ) (to : ℕ → ℕ) → st.handler ≡ None → Closing st line error to None ≡ over_by error line st
no_entry st line error to unhandled =
    ap (λ c. on_value (on_value c (λ f. leave_open f.below >> give f.entry.at)) (λ after. give (Goes (GoOn (to after))))) (raise_over {A = Found} error line st unhandled)

-- UNTIL, with its value
abbrev pub Ending : State → ℕ → ℤ → Option Found → Course Effect
Ending st line value e = on_value (on_value (found_or no_repeat line e st) (settle (int_eq value (pos 0)))) (λ back. give (round_or_on nothing back))

-- it goes round again, or on
ending_back : {image : Site} {t : Core} {out : demands.Out} (st : State) (line : ℕ) (value : ℤ) (e : Found) → int_eq value (pos 0) ≡ true → LeadsTo image e.entry.at out → StandsFor image nothing (left_open (e.entry ∷ e.below) st) t
    → Arrives image (Ending st line value (Some e)) out t
ending_back {image} {t} {out} st line value e none leads f =
    subst (λ b. Arrives image (on_value (settle b e st) (λ back. give (round_or_on nothing back))) out t) (sym none) (record { by = (leads, f) })

ending_on : {image : Site} {t : Core} (st : State) (line : ℕ) (value : ℤ) (e : Found) → int_eq value (pos 0) ≡ false → StandsFor image nothing (left_open e.below st) t → Arrives image (Ending st line value (Some e)) demands.Falls t
ending_on {image} {t} st line value e some f =
    subst (λ b. Arrives image (on_value (settle b e st) (λ back. give (round_or_on nothing back))) demands.Falls t) (sym some) (record { by = (refl, f) })

-- the entry stays open
reopened : (image : Site) (st : State) (e : Found) (t : Core) → IsClosed image nothing st e t → StandsFor image nothing (left_open (e.entry ∷ e.below) st) (record t { mem = put_word t.mem opened_count_at (length e.below + 1) })
reopened image st e t c =
    let room = c.room in
    let k = put_word t.mem opened_count_at (length e.below + 1) in
    record {
      holds = holds_opened (left_open e.below st) t demands.Falls (record t { mem = k }) (e.entry ∷ e.below) c.stands.holds (record { falls = refl; first = refl; kept = λ j low high. refl; out = refl; input = refl })
          (record {
            count = word-put_same t.mem opened_count_at (length e.below + 1) (omega (arith, room)) ∙ omega arith;
            few = room;
            entries = (
              entry_kept image.branches t.mem k (length e.below) e.entry c.entry (λ a low high. byte-put_other t.mem opened_count_at (length e.below + 1) a (inr (omega (arith, low)))),
              entries_kept image.branches t.mem k e.below c.stands.holds.has_opened.entries (λ a low high. byte-put_other t.mem opened_count_at (length e.below + 1) a (inr (omega (arith, low)))),
            );
          })
          (λ a low apart. byte-put_other t.mem opened_count_at (length e.below + 1) a apart);
      numbers = c.stands.numbers;
      texts = c.stands.texts;
    }

-- a variable's address is that of its cell, and a word
pub address-is : (counter : IntegerCell) → variable_address counter ≡ cell_word (cell_of counter)
address-is (cells.Resident index) = refl
address-is (cells.Named name) = refl

-- a resident's comes from the residents' address
pub variable-is : (index base : ℕ) → base ≡ residents_start → index < residents → (base + immediate_value (4 * index)) % 2 ^ 32 ≡ variable_address (cells.Resident index)
variable-is index base is inside = let b = immediate_value-byte (4 * index) (omega (arith, inside)) in (λ i. (is i + b i) % 2 ^ 32) ∙ omega (arith, inside)

pub address-low : (counter : IntegerCell) → HasCounterWidth counter → variable_address counter < 2 ^ 32
address-low (cells.Resident index) w = omega (arith, w)
address-low (cells.Named name) w = omega (arith, w)

module _ {image : Site} {st : State} {s : Core} (site : IsSite image) (named : Named) (back : named.back ≡ image.branches + 4 * image.next) where
  -- ---- ON

  -- the number that is left is dropped
  pub discard_owes : (p : Pending) (value : ℤ) → StandsFor image (pushed value p) st s → Owes CodeAsks CodeDoes (op_code named o.Discard) (Arrives image (Value (Falls p) st)) s
  discard_owes p value f = drop_end (without_top f)

  pub go_if_one_owes : (item : ℕ) (value : ℤ) → StandsFor image (pushed value nothing) st s → IsGood s
      → Owes CodeAsks CodeDoes (op_code named (o.GoIfOne item)) (Arrives image (Value (go_if_one (int_eq value (pos 1)) item value nothing) st)) s
  go_if_one_owes item value f good =
      let is = after-eq (s.regs 0) 1 s (good.regs 0) (omega arith) in
      let one = equal_by (s.regs 0) 1 value (pos 1) (good.regs 0) (omega arith) f.numbers.0 refl in
      let g = without_top f in
      test_then (compared (s.regs 0) 1) refl refl
      (when_then
      (λ e. drop_then {p = nothing} {st = st} (record { holds = g.holds; numbers = g.numbers; texts = g.texts })
      (λ t h. leave_then (subst (λ b. Arrives image (Value (go_if_one b item value nothing) st) (Leaves (ToLabel (item_label item))) t) (sym (one ∙ sym is ∙ e)) (record { by = (inl refl, h) }))))
      (λ e. count_end {p = nothing} value f good
      (λ t h. subst (λ b. Arrives image (Value (go_if_one b item value nothing) st) demands.Falls t) (sym (one ∙ sym is ∙ e)) (record { by = (refl, h) }))))

  -- the number below the topmost one is left where they differ
  pub go_if_equal_owes : (item : ℕ) (y x : ℤ) → StandsFor image (pushed y (pushed x nothing)) st s → IsGood s
      → Owes CodeAsks CodeDoes (op_code named (o.GoIfEqual item)) (Arrives image (Value (go_if_equal (int_eq y x) item x nothing) st)) s
  go_if_equal_owes item y x f good =
      let a = s.regs 12 in
      let r = word s.mem a in
      let room = free_room (without_top f) in
      pull_then a r (a + 4) refl refl (omega (arith, room)) (omega (arith, room)) (omega (arith, room))
      (λ small.
      let is = after-eq r (s.regs 0) (put 1 r (put 12 (a + 4) s)) small (good.regs 0) in
      let same = equal_other (s.regs 0) r y x (good.regs 0) small f.numbers.0 f.numbers.1.0 in
      test_then (compared r (s.regs 0)) refl refl
      (set_then r refl refl
      (when_then
      (λ e. drop_then {image = image} {p = nothing} {st = st} (record { holds = f.holds; numbers = f.numbers.1.1; texts = f.texts })
      (λ t h. leave_then (subst (λ b. Arrives image (Value (go_if_equal b item x nothing) st) (Leaves (ToLabel (item_label item))) t) (sym (same ∙ sym is ∙ e)) (record { by = (inl refl, h) }))))
      (λ e. end_here (subst (λ b. Arrives image (Value (go_if_equal b item x nothing) st) demands.Falls (put 0 r (flagged_by (compared r (s.regs 0)) (put 1 r (put 12 (a + 4) s))))) (sym (same ∙ sym is ∙ e))
      (record { by = (refl, record { holds = f.holds; numbers = f.numbers.1; texts = f.texts }) }))))))

  pub raise_if_one_owes : (p : Pending) (error line : ℕ) (value : ℤ) → error < 256 → line < 65536 → StandsFor image (pushed value p) st s → IsGood s
      → Owes CodeAsks CodeDoes (op_code named (o.RaiseIfOne error line)) (Arrives image (raise_if_one (int_eq value (pos 1)) error line value p st)) s
  raise_if_one_owes p error line value known fits f good =
      let is = after-eq (s.regs 0) 1 s (good.regs 0) (omega arith) in
      let one = equal_by (s.regs 0) 1 value (pos 1) (good.regs 0) (omega arith) f.numbers.0 refl in
      test_then (compared (s.regs 0) 1) refl refl
      (when_then
      (λ e. raise_by (raise {A = Effect} error line st) error line (raise_over {A = Effect} error line st f.holds.unhandled) known fits f.holds
      (λ t a. subst (λ b. Arrives image (raise_if_one b error line value p st) (Leaves (ToLabel raise_label)) t) (sym (one ∙ sym is ∙ e)) a))
      (λ e. count_end {p = p} value f good
      (λ t h. subst (λ b. Arrives image (raise_if_one b error line value p st) demands.Falls t) (sym (one ∙ sym is ∙ e)) (record { by = (refl, h) }))))

  pub gosub_if_one_owes : (item line : ℕ) (value : ℤ) → line < 65536 → StandsFor image (pushed value nothing) st s → IsGood s
      → Owes CodeAsks CodeDoes (op_code named (o.GosubIfOne line item)) (Arrives image (Value (gosub_if_one (int_eq value (pos 1)) item line value nothing) st)) s
  gosub_if_one_owes item line value fits f good =
      let is = after-eq (s.regs 0) 1 s (good.regs 0) (omega arith) in
      let one = equal_by (s.regs 0) 1 value (pos 1) (good.regs 0) (omega arith) f.numbers.0 refl in
      let g = without_top f in
      test_then (compared (s.regs 0) 1) refl refl
      (when_then
      (λ e. drop_then {image = image} {p = nothing} {st = st} (record { holds = g.holds; numbers = g.numbers; texts = g.texts })
      (λ t h. set_then 3 refl refl
      (open_then Gosub line named.back fits (record { holds = h.holds; numbers = h.numbers; texts = h.texts }) (omega arith) refl (back_small image named site back) back tt
      (λ over u a. subst (λ b. Arrives image (Value (gosub_if_one b item line value nothing) st) (Leaves (ToLabel raise_label)) u) (sym (one ∙ sym is ∙ e)) (opened_full line Gosub (Some item) nothing over a))
      (λ fine u k. leave_then (subst (λ b. Arrives image (Value (gosub_if_one b item line value nothing) st) (Leaves (ToLabel (item_label item))) u) (sym (one ∙ sym is ∙ e)) (opened_goes line Gosub item nothing fine k))))))
      (λ e. count_end {p = nothing} value f good
      (λ t h. subst (λ b. Arrives image (Value (gosub_if_one b item line value nothing) st) demands.Falls t) (sym (one ∙ sym is ∙ e)) (record { by = (refl, h) }))))

  -- ---- what opens

  pub open_repeat_owes : (p : Pending) (line : ℕ) → line < 65536 → IsShort p → StandsFor image p st s → Owes CodeAsks CodeDoes (op_code named (o.OpenRepeat line)) (Arrives image (Value (Opens line Repeat None p) st)) s
  open_repeat_owes p line fits short f =
      set_then 1 refl refl
      (open_end Repeat line named.back fits (record { holds = f.holds; numbers = f.numbers; texts = f.texts }) short refl (back_small image named site back) back tt
      (λ over t a. opened_full line Repeat None p over a) (λ fine t h. opened_falls line Repeat p fine h))

  pub open_while_owes : (p : Pending) (line : ℕ) → line < 65536 → IsShort p → StandsFor image p st s → Owes CodeAsks CodeDoes (op_code named (o.OpenWhile line)) (Arrives image (Value (Opens line While None p) st)) s
  open_while_owes p line fits short f =
      set_then 2 refl refl
      (open_end While line named.back fits (record { holds = f.holds; numbers = f.numbers; texts = f.texts }) short refl (back_small image named site back) back tt
      (λ over t a. opened_full line While None p over a) (λ fine t h. opened_falls line While p fine h))

  pub gosub_owes : (item line : ℕ) → line < 65536 → StandsFor image nothing st s → Owes CodeAsks CodeDoes (op_code named (o.Gosub line item)) (Arrives image (Value (Opens line Gosub (Some item) nothing) st)) s
  gosub_owes item line fits f =
      set_then 3 refl refl
      (open_then Gosub line named.back fits (record { holds = f.holds; numbers = f.numbers; texts = f.texts }) (omega arith) refl (back_small image named site back) back tt
      (λ over t a. opened_full line Gosub (Some item) nothing over a) (λ fine t h. leave_then (opened_goes line Gosub item nothing fine h)))

  pub open_for_owes : (p : Pending) (counter : IntegerCell) (line : ℕ) (limit step : ℤ) → line < 65536 → HasCounterWidth counter → IsCloser (length st.stored.integers) (NextOf (cell_of counter)) → IsShort p → StandsFor image (pushed step (pushed limit p)) st s
      → Owes CodeAsks CodeDoes (op_code named (o.OpenFor counter line)) (Arrives image (Value (Opens line (For (cell_of counter) limit step) None p) st)) s
  open_for_owes p counter line limit step fits width there short f =
      let r = s.regs 12 in
      let room = numbers_room s.mem (r + 4 + 4) (word s.mem (r + 4)) p.numbers f.numbers.1.1 in
      set_then (s.regs 0) refl refl
      (pull_then r (word s.mem r) (r + 4) refl refl (omega (arith, room)) (omega (arith, room)) (omega (arith, room))
      (λ small.
      pull_then (r + 4) (word s.mem (r + 4)) (r + 4 + 4) refl refl (omega (arith, room)) (omega (arith, room)) (omega (arith, room))
      (λ low. opens counter width there)))
    where
      -- the step is in R4, and the limit in R3
      taken : Core
      taken = put 0 (word s.mem (s.regs 12 + 4)) (put 12 (s.regs 12 + 4 + 4) (put 3 (word s.mem (s.regs 12)) (put 12 (s.regs 12 + 4) (put 4 (s.regs 0) s))))

      opens : (counter : IntegerCell) → HasCounterWidth counter → IsCloser (length st.stored.integers) (NextOf (cell_of counter))
          → Owes CodeAsks CodeDoes (find_variable counter ⨾ open_entry named.back line) (Arrives image (Value (Opens line (For (cell_of counter) limit step) None p) st)) taken
      opens (cells.Resident index) width there =
          seq_then (set_then (variable_address (cells.Resident index)) refl (variable-is index (s.regs 11) f.holds.base_is there)
          (skip_then
          (open_end (For (Resident index) limit step) line named.back fits (record { holds = f.holds; numbers = f.numbers.1.1; texts = f.texts }) short refl (back_small image named site back) back (f.numbers.1.0, f.numbers.0)
          (λ over t a. opened_full line (For (Resident index) limit step) None p over a) (λ fine t h. opened_falls line (For (Resident index) limit step) p fine h))))
      opens (cells.Named name) width there =
          load_then 1 (variable_address (cells.Named name)) (address-low (cells.Named name) width)
          (open_end (For (Integer name) limit step) line named.back fits (record { holds = f.holds; numbers = f.numbers.1.1; texts = f.texts }) short refl (back_small image named site back) back (f.numbers.1.0, f.numbers.0)
          (λ over t a. opened_full line (For (Integer name) limit step) None p over a) (λ fine t h. opened_falls line (For (Integer name) limit step) p fine h))

  -- ---- what is closed

  module _ (are : AreEntries (length st.stored.integers) image.items st.stored.opened) (line : ℕ) (fits : line < 65536) where
    pub return_owes : StandsFor image nothing st s → Owes CodeAsks CodeDoes (op_code named (o.Return line)) (Arrives image (Closing st line no_subroutine (λ after. after) (store.nearest 0 Return st.stored.opened))) s
    return_owes f =
        set_then 3 refl refl
        (close_then {image = image} {p = nothing} {st = st} Return line fits (record { holds = f.holds; numbers = f.numbers; texts = f.texts }) (omega arith) are (Closing st line no_subroutine (λ after. after)) (omega arith) (omega arith) tt refl
        (no_entry st line no_subroutine (λ after. after) f.holds.unhandled)
        (λ e t good c. leave_to_then (image.branches + 4 * e.entry.at) (branch_place image site (t.regs 2) e.entry.at c.code c.fits.within) (record { by = (inr (refl, c.fits.within), c.stands) })))

    pub endwhile_owes : StandsFor image nothing st s → Owes CodeAsks CodeDoes (op_code named (o.EndWhile line)) (Arrives image (Closing st line no_while (λ after. after - 1) (store.nearest 0 EndWhile st.stored.opened))) s
    endwhile_owes f =
        set_then 2 refl refl
        (close_then {image = image} {p = nothing} {st = st} EndWhile line fits (record { holds = f.holds; numbers = f.numbers; texts = f.texts }) (omega arith) are (Closing st line no_while (λ after. after - 1)) (omega arith) (omega arith) tt refl
        (no_entry st line no_while (λ after. after - 1) f.holds.unhandled)
        (λ e t good c.
        let after = c.fits.after in
        let within = c.fits.within in
        let there : e.entry.at - 1 ≤ image.items = omega (arith, within) in
        let x = image.branches + 4 * (e.entry.at - 1) in
        let high = site.high in
        set_then x refl ((λ i. minus (c.code i) 4) ∙ omega (arith, after, within, high))
        (leave_to_then x (branch_place image site x (e.entry.at - 1) refl there) (record { by = (inr (refl, there), record { holds = c.stands.holds; numbers = c.stands.numbers; texts = c.stands.texts }) }))))

    pub until_owes : (value : ℤ) → StandsFor image (pushed value nothing) st s → Owes CodeAsks CodeDoes (op_code named (o.Until line)) (Arrives image (Ending st line value (store.nearest 0 Until st.stored.opened))) s
    until_owes value f =
        set_then 1 refl refl
        (close_then {image = image} {p = pushed value nothing} {st = st} Until line fits (record { holds = f.holds; numbers = f.numbers; texts = f.texts }) (omega arith) are (Ending st line value) (omega arith) (omega arith) tt refl
        (ap (λ c. on_value (on_value c (settle (int_eq value (pos 0)))) (λ back. give (round_or_on nothing back))) (raise_over {A = Found} no_repeat line st f.holds.unhandled))
        (λ e t good c.
        let is = after-eq (t.regs 0) 0 t (good.regs 0) (omega arith) in
        let zero_is = equal_by (t.regs 0) 0 value (pos 0) (good.regs 0) (omega arith) c.stands.numbers.0 refl in
        let g = without_top c.stands in
        let r = t.regs 12 in
        let room = free_room g in
        let n = c.stands.holds.has_opened.count in
        let few = c.room in
        let closed : IsClosed image nothing st e (put 0 (word t.mem r) (put 12 (r + 4) (flagged_by (compared (t.regs 0) 0) t))) =
        record { stands = record { holds = g.holds; numbers = g.numbers; texts = g.texts }; code = c.code; fits = c.fits; entry = c.entry; room = c.room } in
        test_then (compared (t.regs 0) 0) refl refl
        (pull_then r (word t.mem r) (r + 4) refl refl (omega (arith, room)) (omega (arith, room)) (omega (arith, room))
        (λ small.
        when_then
        (λ z.
        let base = c.stands.holds.base_is in
        seq_then (rules.load_then opened_count_at (length e.below) (omega (arith, base)) n refl (omega arith)
        (λ low.
        seq_then (set_then (length e.below + 1) refl (omega (arith, few))
        (seq_then (store_then opened_count_at (length e.below + 1) (omega (arith, base)) refl refl (inr (omega arith, omega arith))
        (skip_then
        (leave_to_then (image.branches + 4 * e.entry.at) (branch_place image site (t.regs 2) e.entry.at c.code c.fits.within)
        (ending_back st line value e (zero_is ∙ sym is ∙ z) (inr (refl, c.fits.within))
        (let q = reopened image st e _ closed in record { holds = q.holds; numbers = q.numbers; texts = q.texts }))))))))))
        (λ z. end_here (ending_on st line value e (zero_is ∙ sym is ∙ z) (record { holds = g.holds; numbers = g.numbers; texts = g.texts })))))))
