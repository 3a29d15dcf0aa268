-- Opening an entry, closing one, and NEXT: what the library does with them stands for what the state comes to.
use Rattle.std.proofs.Common.{◌≡◌, ℕ, zero, suc, ◌+◌, ◌*◌, ◌%◌, ◌^◌, ◌<◌, ◌≤◌, ◌==◌, ◌⊎◌, inl, inr, true, false, List, ◌∷◌, length, Option, None, Some, refl, sym, ap, subst, ◌∙◌, arith, eqb-true}
use Rattle.std.proofs.Math.Path.{transport}
use Rattle.std.proofs.lemmas.Bool.{eqb-false, not-true, not-false, lt-ltb, le-ltb, cases_lt}
use Rattle.bas_ir.specs.Effects.{Effect}
use Rattle.bas_ir.specs.Places.{Pending}
use Rattle.bas_sem.specs.Course.{Course, Value}
use Rattle.bas_sem.specs.Loops.{open_if, opens}
use Rattle.bas_sem.specs.State.{State}
use Rattle.bas_store.specs.Opened as store
use Rattle.bas_store.specs.Opened.{Closer, Until, EndWhile, Return, Found, can_open, with_opened}
use Rattle.bas_store.specs.Stored.{Opening, For, Repeat, While, Gosub, Entry}
use Rattle.bas_value.specs.Errors.{no_room}
use Rattle.bv_num.specs.Bits.{signed}
use Rattle.arm2_alu.proofs.ValueLaws.{compared}
use Rattle.arm_core.specs.Core.{Core, IsGood, put, word}
use Rattle.arm_core.specs.Effects.{flagged_by}
use Rattle.arm_core.proofs.Comparisons.{after-ne}
use Rattle.code_frag.specs.Demands as demands
use Rattle.code_frag.specs.Demands.{Out, Post, Leaves, ToLabel, Owes}
use Rattle.code_frag.specs.Language as language
use Rattle.code_frag.specs.Language.{Skip, ◌⨾◌}
use Rattle.code_frag.specs.Regions.{opened_count_at, depth_at, next_item_at, arrays_start, opened_start}
use Rattle.code_frag.proofs.Rules.{end_here, part_then, seq_then, skip_then, set_then, test_then, when_then, call_then, leave_then}
use Rattle.runtime_lib.specs.Opened as library
use Rattle.runtime_lib.specs.Opened.{entry_at, opened_count, code_of, nearest, latest, closing_error, IsApart, ComesBack, OpensEntry, CanUseEntries, Fails, ClosesEntry, Closed}
use Rattle.codegen.specs.Operations.{raise_label, raise_if_failed, open_entry, close_entry}
use Rattle.codegen.specs.Outcomes.{Arrives}
use Rattle.codegen.specs.StandsFor.{ItemTable, Site, opening_word, HasLimits, HasEntry, HasOpened, IsEntry, AreEntries, Holds, Numbers, Texts, StandsFor}
use Rattle.codegen.proofs.Arriving.{CodeAsks, CodeDoes, IsShort, load_then, short_then, over_by, raise_over, raised}
use Rattle.codegen.proofs.EntryLaws.{wanted, IsCloser, IsFound, SameFound, find_nearest}
use Rattle.codegen.proofs.PendingLaws.{numbers_room, numbers_kept, texts_room, texts_kept}
use Rattle.codegen.proofs.StateLaws.{word_kept, entry_kept, entries_kept, opened_by, residents_kept, integers_kept, arena_kept}

-- ---- the error in R1

-- it is raised where it isn't 0
pub check_then : {rest : language.Piece} {Q : Post} {t : Core} (line : ℕ) → line < 65536 → t.regs 1 < 2 ^ 32 → (t.regs 1 ≡ 0 → Owes CodeAsks CodeDoes rest Q (flagged_by (compared (t.regs 1) 0) t))
    → ((t.regs 1 ≡ 0 → ⊥) → Q (Leaves (ToLabel raise_label)) (put 1 line (put 1 (line % 2 ^ 8) (put 0 (t.regs 1) (flagged_by (compared (t.regs 1) 0) t)))))
    → Owes CodeAsks CodeDoes (raise_if_failed line ⨾ rest) Q t
check_then {rest} {Q} {t} line fits small fine fails =
    let is = after-ne (t.regs 1) 0 t small (omega arith) in
    seq_then (test_then (compared (t.regs 1) 0) refl refl
    (seq_then (when_then
    (λ e. set_then (t.regs 1) refl refl (short_then line (omega (arith, fits)) (leave_then (fails (eqb-false (t.regs 1) 0 (not-true (t.regs 1 == 0) (sym is ∙ e)))))))
    (λ e. skip_then (fine (eqb-true (t.regs 1) 0 (not-false (t.regs 1 == 0) (sym is ∙ e))))))))

-- ---- what is pending, after a routine on entries

-- where registers and memory of what is pending are the same
pub pending_after : (code : ℕ → ℕ) {s : Core} {o : Out} {t : Core} (p : Pending) → ComesBack s o t → IsShort p → ((a : ℕ) → arrays_start ≤ a → a < opened_start → t.mem a ≡ s.mem a)
    → Numbers s.mem (s.regs 12) (s.regs 0) p.numbers → Texts code s.mem (s.regs 9) (s.regs 10) p.texts
    → Numbers t.mem (t.regs 12) (t.regs 0) p.numbers × Texts code t.mem (t.regs 9) (t.regs 10) p.texts
pending_after code {s} {o} {t} p back short same numbers texts =
    let room = numbers_room s.mem (s.regs 12) (s.regs 0) p.numbers numbers in
    let below = texts_room code s.mem (s.regs 9) (s.regs 10) p.texts texts in
    let nine = back.kept 9 (omega arith) (omega arith) in
    let ten = back.kept 10 (omega arith) (omega arith) in
    let twelve = back.kept 12 (omega arith) (omega arith) in (
      transport (λ i. Numbers t.mem (sym twelve i) (sym back.first i) p.numbers)
          (numbers_kept s.mem t.mem (s.regs 12) (s.regs 0) p.numbers numbers (λ a low high. same a (omega (arith, low, room, short)) (omega (arith, high)))),
      transport (λ i. Texts code t.mem (sym nine i) (sym ten i) p.texts)
          (texts_kept code s.mem t.mem (s.regs 9) (s.regs 10) p.texts texts (λ a low high. same a (omega (arith, low, below, short)) (omega (arith, high)))),
    )

-- the state with other entries open, where only their number and their words are others
pub holds_opened : {branches : ℕ} {table : ItemTable} (st : State) (s : Core) (o : Out) (t : Core) (es : List Entry) → Holds branches table st (s.regs 11) (s.regs 13) s.mem s.out → ComesBack s o t → HasOpened branches t.mem es
    → ((a : ℕ) → a < arrays_start → IsApart opened_count_at 4 a → t.mem a ≡ s.mem a) → Holds branches table (record st { stored = record st.stored { opened = es } }) (t.regs 11) (t.regs 13) t.mem t.out
holds_opened st s o t es h back opened same = record {
  base_is = back.kept 11 (omega arith) (omega arith) ∙ h.base_is;
  stack_is = back.kept 13 (omega arith) (omega arith) ∙ h.stack_is;
  has_residents = residents_kept s.mem t.mem st.stored.residents h.has_residents (λ b low high. same b (omega (arith, high)) (inl (omega (arith, high))));
  has_integers = integers_kept s.mem t.mem st.stored.integers h.has_integers (λ b low high. same b high (inr (omega (arith, low))));
  has_opened = opened;
  depth = word_kept s.mem t.mem depth_at 0 h.depth (λ b from to. same b (omega (arith, to)) (inr (omega (arith, from))));
  column = word_kept s.mem t.mem _ st.column h.column (λ b from to. same b (omega (arith, to)) (inl (omega (arith, to))));
  column_small = h.column_small;
  few_taken = h.few_taken;
  next_item = word_kept s.mem t.mem next_item_at _ h.next_item (λ b from to. same b (omega (arith, to)) (inr (omega (arith, from))));
  has_arena = arena_kept s.mem t.mem st.arena h.has_arena (λ b low high. same b (omega (arith, high)) (inl (omega (arith, high))));
  out_is = back.out ∙ h.out_is;
  unhandled = h.unhandled;
}

-- the state where nothing of memory is another
pub holds_same : {branches : ℕ} {table : ItemTable} (st : State) (s : Core) (o : Out) (t : Core) → Holds branches table st (s.regs 11) (s.regs 13) s.mem s.out → ComesBack s o t → t.mem ≡ s.mem → Holds branches table st (t.regs 11) (t.regs 13) t.mem t.out
holds_same {branches} {table} st s o t h back mem =
    transport (λ i. Holds branches table st (sym (back.kept 11 (omega arith) (omega arith)) i) (sym (back.kept 13 (omega arith) (omega arith)) i) (sym mem i) (sym back.out i)) h

-- ---- an entry opens

-- the state in which an entry is open
abbrev pub opened_state : Site → Opening → State → State
opened_state image opening st = record st { stored = with_opened 0 opening image.next st.stored }

-- R3 and R4 are the limit and the step of FOR
abbrev pub Says : Opening → (r3 r4 : ℕ) → Type 0
Says (For cell limit step) r3 r4 = (signed r3 ≡ limit) × (signed r4 ≡ step)
Says _ r3 r4 = Unit {0}

-- the new entry is in memory
new_entry : (branches next n : ℕ) (opening : Opening) (s t : Core) → opened_count s.mem ≡ n → word s.mem depth_at ≡ 0 → s.regs 1 ≡ opening_word opening → s.regs 2 ≡ branches + 4 * next → Says opening (s.regs 3) (s.regs 4) → OpensEntry s t
    → HasEntry branches t.mem n (record { call = 0; opening = opening; at = next })
new_entry branches next n opening s t count depth kind code says d = record {
  call = (λ i. word t.mem (entry_at (sym count i))) ∙ d.depth ∙ depth;
  kind = (λ i. word t.mem (entry_at (sym count i) + 4)) ∙ d.kind ∙ kind;
  limits = by opening says;
  code = (λ i. word t.mem (entry_at (sym count i) + 16)) ∙ d.code ∙ code;
}
  where
    by : (o : Opening) → Says o (s.regs 3) (s.regs 4) → HasLimits t.mem n o
    by (For cell limit step) e = (ap signed ((λ i. word t.mem (entry_at (sym count i) + 8)) ∙ d.limit) ∙ e.0, ap signed ((λ i. word t.mem (entry_at (sym count i) + 12)) ∙ d.step) ∙ e.1)
    by Repeat e = tt
    by While e = tt
    by Gosub e = tt

-- the state after it
opened_after : (image : Site) (p : Pending) (st : State) (opening : Opening) (s : Core) (o : Out) (t : Core) → StandsFor image p st s → IsShort p → length st.stored.opened < 4096 → s.regs 1 ≡ opening_word opening
    → s.regs 2 ≡ image.branches + 4 * image.next → Says opening (s.regs 3) (s.regs 4) → ComesBack s o t → OpensEntry s t → StandsFor image p (opened_state image opening st) t
opened_after image p st opening s o t f short few kind code says back d =
    let h = f.holds in
    let n : opened_count s.mem ≡ length st.stored.opened = h.has_opened.count in
    let pending = pending_after image.bytes p back short (λ a low high. d.mem a (inr (omega (arith, low))) (inl (omega (arith, high)))) f.numbers f.texts in
    record {
      holds = holds_opened st s o t (record { call = 0; opening = opening; at = image.next } ∷ st.stored.opened) h back
          (record {
            count = d.count ∙ (let e : opened_count s.mem + 1 ≡ suc (length st.stored.opened) = omega (arith, n) in e);
            few = omega (arith, few);
            entries = (
              new_entry image.branches image.next (length st.stored.opened) opening s t n h.depth kind code says d,
              entries_kept image.branches s.mem t.mem st.stored.opened h.has_opened.entries (λ a low high. d.mem a (inr (omega (arith, low))) (inl (omega (arith, high, n)))),
            );
          })
          (λ a low apart. d.mem a apart (inl (omega (arith, low))));
      numbers = pending.0;
      texts = pending.1;
    }

-- where flags are changed
pub flagged_stands : {image : Site} {p : Pending} {st : State} {t : Core} (a b : ℕ) → StandsFor image p st t → StandsFor image p st (flagged_by (compared a b) t)
flagged_stands a b f = record { holds = f.holds; numbers = f.numbers; texts = f.texts }

-- an entry opens, or the error that there is no room is raised
pub open_end : {image : Site} {p : Pending} {st : State} {Q : Post} {s : Core} (opening : Opening) (line back : ℕ) → line < 65536 → StandsFor image p st s → IsShort p → s.regs 1 ≡ opening_word opening
    → back < 2 ^ 32 → back ≡ image.branches + 4 * image.next → Says opening (s.regs 3) (s.regs 4)
    → (opens 0 line opening image.next st ≡ over_by no_room line st → (t : Core) → Arrives image (over_by no_room line st) (Leaves (ToLabel raise_label)) t → Q (Leaves (ToLabel raise_label)) t)
    → (opens 0 line opening image.next st ≡ Value tt (opened_state image opening st) → (t : Core) → StandsFor image p (opened_state image opening st) t → Q demands.Falls t)
    → Owes CodeAsks CodeDoes (open_entry back line) Q s
open_end {image} {p} {st} {Q} {s} opening line back fits f short kind small code says full fine =
    load_then 2 back small
    (call_then {e = 14}
    (λ r low. record { base = f.holds.base_is; few = (let n = f.holds.has_opened.count in let m = f.holds.has_opened.few in omega (arith, n, m)) })
    (λ r t low good d. by r t good d (cases_lt (length st.stored.opened) 4096))
    (λ r l t low good d. absurd (let e = d.comes_back.falls in cc e)))
  where
    called : ℕ → Core
    called r = put 14 r (put 2 back (put 2 (back % 2 ^ 24) (put 2 (back % 2 ^ 16) (put 2 (back % 2 ^ 8) s))))

    stands : (r : ℕ) → StandsFor image p st (called r)
    stands r = record { holds = f.holds; numbers = f.numbers; texts = f.texts }

    by : (r : ℕ) (t : Core) → IsGood t → library.Opens (called r) demands.Falls t → (length st.stored.opened < 4096) ⊎ (4096 ≤ length st.stored.opened) → Owes CodeAsks CodeDoes (raise_if_failed line ⨾ Skip) Q t
    by r t good d (inl few) =
        let e = d.opens (let n = f.holds.has_opened.count in omega (arith, few, n)) in
        let room : can_open st.stored ≡ true = lt-ltb (length st.stored.opened) 4096 few in
        check_then line fits (good.regs 1)
        (λ none. end_here (fine (ap (λ b. open_if b 0 line opening image.next st) room) _ (flagged_stands _ _ (opened_after image p st opening (called r) demands.Falls t (stands r) short few kind code says d.comes_back e))))
        (λ some. absurd (some e.no_error))
    by r t good d (inr many) =
        let e = d.full (let n = f.holds.has_opened.count in omega (arith, many, n)) in
        let room : can_open st.stored ≡ false = le-ltb (length st.stored.opened) 4096 many in
        let over = ap (λ b. open_if b 0 line opening image.next st) room ∙ raise_over {A = Unit {0}} no_room line st f.holds.unhandled in
        check_then line fits (good.regs 1)
        (λ none. absurd (let is = e.error_is in omega (arith, none, is)))
        (λ some. full over _ (raised (over_by no_room line st) no_room line refl (omega arith) fits (holds_same st (called r) demands.Falls t f.holds d.comes_back e.mem) e.error_is refl))

-- and something follows on it
pub open_then : {image : Site} {p : Pending} {st : State} {rest : language.Piece} {Q : Post} {s : Core} (opening : Opening) (line back : ℕ) → line < 65536 → StandsFor image p st s → IsShort p → s.regs 1 ≡ opening_word opening
    → back < 2 ^ 32 → back ≡ image.branches + 4 * image.next → Says opening (s.regs 3) (s.regs 4)
    → (opens 0 line opening image.next st ≡ over_by no_room line st → (t : Core) → Arrives image (over_by no_room line st) (Leaves (ToLabel raise_label)) t → Q (Leaves (ToLabel raise_label)) t)
    → (opens 0 line opening image.next st ≡ Value tt (opened_state image opening st) → (t : Core) → StandsFor image p (opened_state image opening st) t → Owes CodeAsks CodeDoes rest Q t)
    → Owes CodeAsks CodeDoes (open_entry back line ⨾ rest) Q s
open_then opening line back fits f short kind small code says full fine = part_then (open_end opening line back fits f short kind small code says full fine)

-- ---- an entry is closed

-- the state in which entries are open
abbrev pub left_open : List Entry → State → State
left_open es st = record st { stored = record st.stored { opened = es } }

-- An entry was closed: the board stands for the state without it and those above it, R2 is the address of the branch to go on with, and
-- the entry's words are still there.
pub record IsClosed (image : Site) (p : Pending) (st : State) (f : Found) (t : Core) : Type 0 where
  pub stands : StandsFor image p (left_open f.below st) t
  pub code : t.regs 2 ≡ image.branches + 4 * f.entry.at
  pub fits : IsEntry (length st.stored.integers) image.items f.entry
  pub entry : HasEntry image.branches t.mem (length f.below) f.entry
  pub room : suc (length f.below) ≤ 4096

module _ {image : Site} {p : Pending} {st : State} {s : Core} (closer : Closer) (line : ℕ) (fits : line < 65536) (f : StandsFor image p st s) (short : IsShort p)
    (are : AreEntries (length st.stored.integers) image.items st.stored.opened) where
  -- the search in memory is that among the entries
  latest_is : (m : ℕ → ℕ) (what : ℕ) → m ≡ s.mem → latest m what ≡ nearest s.mem 0 what (length st.stored.opened)
  latest_is m what same =
      (λ i. latest (same i) what) ∙ (λ i. nearest s.mem (f.holds.depth i) what (f.holds.has_opened.count i))

  closed_after : (e : Found) (k : ℕ) (u : Core) (t : Core) → u.mem ≡ s.mem → StandsFor image p st u → IsFound image.branches (length st.stored.integers) image.items s.mem closer st.stored.opened e k → ComesBack u demands.Falls t → ClosesEntry k u t → IsClosed image p st e t
  closed_after e k u t same g found back d =
      let few = f.holds.has_opened.few in
      let below = found.few in
      let n = found.index in
      let kept : (a : ℕ) → IsApart opened_count_at 4 a → t.mem a ≡ s.mem a = λ a apart. d.mem a apart ∙ (λ i. same i a) in
      let pending = pending_after image.bytes p back short (λ a low high. d.mem a (inr (omega (arith, low)))) g.numbers g.texts in
      record {
        stands = record {
          holds = holds_opened st u demands.Falls t e.below g.holds back
              (opened_by image.branches s.mem t.mem e.below found.below (omega (arith, few, below)) (d.count ∙ n) (λ a low high. kept a (inr (omega (arith, low))))) (λ a low apart. d.mem a apart);
          numbers = pending.0;
          texts = pending.1;
        };
        code = d.code ∙ (λ i. code_of (same i) (n i)) ∙ found.entry.code;
        fits = found.fits;
        entry = entry_kept image.branches s.mem t.mem (length e.below) e.entry found.entry (λ a low high. kept a (inr (omega (arith, low))));
        room = omega (arith, few, below);
      }

  -- it is closed, or its error is raised
  pub close_then : {rest : language.Piece} (F : Option Found → Course Effect) → 1 ≤ wanted closer → wanted closer ≤ 3 → IsCloser (length st.stored.integers) closer → s.regs 1 ≡ wanted closer → F None ≡ over_by (closing_error (wanted closer)) line st
      → ((e : Found) (t : Core) → IsGood t → IsClosed image p st e t → Owes CodeAsks CodeDoes rest (Arrives image (F (Some e))) t)
      → Owes CodeAsks CodeDoes (close_entry line ⨾ rest) (Arrives image (F (store.nearest 0 closer st.stored.opened))) s
  close_then {rest} F low high named kind over fine =
      seq_then (call_then {e = 15}
      (λ r small. record {
        entries = record { base = f.holds.base_is; few = (let n = f.holds.has_opened.count in let m = f.holds.has_opened.few in omega (arith, n, m)) };
        low = omega (arith, kind, low);
        high = omega (arith, kind, high);
      })
      (λ r t small good d. seq_then (by r t good d.comes_back (store.nearest 0 closer st.stored.opened) (nearest s.mem 0 (wanted closer) (length st.stored.opened))
      (find_nearest image.branches (length st.stored.integers) image.items s.mem 0 closer named st.stored.opened f.holds.has_opened.entries are)
      (subst (λ k. Closed k (put 14 r s) t) ((λ i. latest s.mem (kind i)) ∙ latest_is s.mem (wanted closer) refl) d.closed)))
      (λ r l t small good d. absurd (let e = d.comes_back.falls in cc e)))
    where
      known : (w : ℕ) → 1 ≤ w → w ≤ 3 → (0 < closing_error w) × (closing_error w < 256)
      known zero from to = absurd (omega (arith, from))
      known (suc zero) from to = (omega arith, omega arith)
      known (suc (suc zero)) from to = (omega arith, omega arith)
      known (suc (suc (suc zero))) from to = (omega arith, omega arith)
      known (suc (suc (suc (suc w)))) from to = absurd (omega (arith, to))

      by : (r : ℕ) (t : Core) → IsGood t → ComesBack (put 14 r s) demands.Falls t → (o : Option Found) (k : Option ℕ) → SameFound image.branches (length st.stored.integers) image.items s.mem closer st.stored.opened o k → Closed k (put 14 r s) t
          → Owes CodeAsks CodeDoes (raise_if_failed line ⨾ Skip ⨾ rest) (Arrives image (F o)) t
      by r t good back None None same e =
          let k = known (wanted closer) low high in
          let is : t.regs 1 ≡ closing_error (wanted closer) = e.error_is ∙ ap closing_error kind in
          check_then line fits (good.regs 1)
          (λ none. absurd (omega (arith, none, is, k)))
          (λ some. raised (F None) (closing_error (wanted closer)) line over (omega (arith, k)) fits (holds_same st (put 14 r s) demands.Falls t f.holds back e.mem) is refl)
      by r t good back (Some x) (Some k) same e =
          check_then line fits (good.regs 1)
          (λ none. skip_then (fine x _ (record { regs = good.regs; mem = good.mem; input = good.input }) (let c = closed_after x k (put 14 r s) t refl (record { holds = f.holds; numbers = f.numbers; texts = f.texts }) same back e in
          record { stands = flagged_stands _ _ c.stands; code = c.code; fits = c.fits; entry = c.entry; room = c.room })))
          (λ some. absurd (some e.no_error))
      by r t good back None (Some k) same e = absurd same
      by r t good back (Some x) None same e = absurd same
