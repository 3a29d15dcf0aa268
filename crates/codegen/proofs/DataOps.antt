-- The operations on items of DATA.
use Rattle.std.proofs.Common.{◌≡◌, ℕ, suc, ◌+◌, ◌-◌, ◌%◌, ◌^◌, ◌<◌, ◌≤◌, ◌⊎◌, inl, inr, List, [], Option, None, length, slice_get, slice_index_or, refl, sym, ap, subst, ◌∙◌, arith}
use Rattle.std.proofs.lemmas.Bool.{cases_lt}
use Rattle.std.proofs.lemmas.Option.{slice_get_past, slice_get-get_or}
use Rattle.bas_ir.specs.declared.op.Op.TheVariants as o
use Rattle.bas_ir.specs.Effects.{Effect, Falls, falls}
use Rattle.bas_ir.specs.Places.{Pending, pushed}
use Rattle.bas_sem.specs.Actions.{or_raise}
use Rattle.bas_sem.specs.Course.{Course, Value, on_value}
use Rattle.bas_sem.specs.Data.{item_taken}
use Rattle.bas_sem.specs.State.{State}
use Rattle.bas_value.specs.Errors.{out_of_data}
use Rattle.bv_num.specs.Value.{data_value}
use Rattle.arm_core.specs.Core.{Core, IsGood, put, word, put_word}
use Rattle.arm_core.proofs.MemoryWords.{byte-put_other, word-put_same}
use Rattle.code_frag.specs.Demands as demands
use Rattle.code_frag.specs.Demands.{Post, Owes}
use Rattle.code_frag.specs.Language.{Skip, ◌⨾◌}
use Rattle.code_frag.specs.Places.{data_start}
use Rattle.code_frag.specs.Regions.{residents_start, next_item_at}
use Rattle.code_frag.specs.Runs.{SameCode}
use Rattle.code_frag.proofs.Rules.{end_here, seq_then, skip_then, store_then, call_then}
use Rattle.runtime_lib.specs.Data.{end_mark, TakesNext}
use Rattle.runtime_lib.specs.Entries as library
use Rattle.runtime_lib.specs.Entries.{text_at, Answers, Calculates}
use Rattle.runtime_lib.specs.Opened.{IsApart}
use Rattle.codegen.specs.Operations.{Named, op_code, operate, raise_if_failed, restore}
use Rattle.codegen.specs.Outcomes.{Arrives}
use Rattle.codegen.specs.StandsFor.{Site, IsSite, Holds, StandsFor}
use Rattle.codegen.proofs.Arriving.{CodeAsks, CodeDoes, Free, IsShort, free_pending, free_with_room, with_room, load_then, room_then, over_by, raise_over, raised}
use Rattle.codegen.proofs.ArithmeticOps.{answered_end, arrived, computed, free_same}
use Rattle.codegen.proofs.NumberFacts.{data-errors}
use Rattle.codegen.proofs.OpenOps.{check_then}
use Rattle.codegen.proofs.OutputOps.{text-is}
use Rattle.codegen.proofs.PendingLaws.{numbers_kept, numbers_room, texts_kept, texts_room}
use Rattle.codegen.proofs.StateLaws.{holds_taken}

-- ---- RESTORE

-- the next item's word is set
pub restore_end : {Q : Post} {s : Core} (x : ℕ) → x < 2 ^ 32 → s.regs 11 ≡ residents_start
    → Q demands.Falls (record (put 2 x (put 2 (x % 2 ^ 24) (put 2 (x % 2 ^ 16) (put 2 (x % 2 ^ 8) s)))) { mem = put_word s.mem next_item_at x }) → Owes CodeAsks CodeDoes (restore x) Q s
restore_end x small base q = load_then 2 x small (store_then next_item_at x (omega (arith, base)) refl refl (inr (omega arith, omega arith)) (end_here q))

pub restore_owes : {image : Site} {p : Pending} {st : State} {s : Core} → IsSite image → (item x : ℕ) → item ≤ length image.table.texts → x ≡ image.table.address item → StandsFor image p st s → IsShort p
    → Owes CodeAsks CodeDoes (restore x) (Arrives image (Value (Falls p) (record st { data_place = item }))) s
restore_owes {image} {p} {st} {s} site item x few is f short =
    let high = site.has_items.high item few in
    let room = numbers_room s.mem (s.regs 12) (s.regs 0) p.numbers f.numbers in
    let below = texts_room image.bytes s.mem (s.regs 9) (s.regs 10) p.texts f.texts in
    let small : x < 2 ^ 32 = omega (arith, is, high) in
    let m = put_word s.mem next_item_at x in
    restore_end x small f.holds.base_is
    (record {
      by = (
        refl,
        record {
          holds = holds_taken st (s.regs 11) (s.regs 13) s.mem m s.out item f.holds few (word-put_same s.mem next_item_at x small ∙ is) (λ a apart. byte-put_other s.mem next_item_at x a apart);
          numbers = numbers_kept s.mem m (s.regs 12) (s.regs 0) p.numbers f.numbers (λ a low top. byte-put_other s.mem next_item_at x a (inr (omega (arith, low, room, short))));
          texts = texts_kept image.bytes s.mem m (s.regs 9) (s.regs 10) p.texts f.texts (λ a low top. byte-put_other s.mem next_item_at x a (inr (omega (arith, low, below, short))));
        },
      );
    })

-- ---- READ

-- what it comes to, by the item that is taken
abbrev pub Reads : State → ℕ → Pending → Option (List ℕ) → Course Effect
Reads st line p item = on_value (on_value (item_taken item line st) (λ text. or_raise line (data_value text))) (λ value. falls (pushed value p))

-- where the registers that code keeps are the same, and another item is the next one
free_taken : {image : Site} {p : Pending} {st : State} {s t : Core} (place : ℕ) → Free image p st s → IsShort p → place ≤ length image.table.texts → word t.mem next_item_at ≡ image.table.address place
    → ((k : ℕ) → 9 ≤ k → k ≤ 13 → t.regs k ≡ s.regs k) → ((a : ℕ) → IsApart next_item_at 4 a → t.mem a ≡ s.mem a) → t.out ≡ s.out → Free image p (record st { data_place = place }) t
free_taken {image} {p} {st} {s} {t} place f short few next kept same out =
    let pending = free_pending t f short kept (λ a low high. same a (inr (omega (arith, low)))) in
    record {
      holds = subst (λ x. Holds image.branches image.table (record st { data_place = place }) x (t.regs 13) t.mem t.out) (sym (kept 11 (omega arith) (omega arith)))
          (subst (λ x. Holds image.branches image.table (record st { data_place = place }) (s.regs 11) x t.mem t.out) (sym (kept 13 (omega arith) (omega arith)))
          (subst (λ l. Holds image.branches image.table (record st { data_place = place }) (s.regs 11) (s.regs 13) t.mem l) (sym out)
          (holds_taken st (s.regs 11) (s.regs 13) s.mem t.mem s.out place f.holds few next same)));
      numbers = pending.0;
      texts = pending.1;
    }

module _ {image : Site} {p : Pending} {st : State} {s : Core} (site : IsSite image) (line : ℕ) (fits : line < 65536) (f : StandsFor image p st s) (good : IsGood s) (same : SameCode image.bytes s.mem) (short : IsShort p) where
  -- the address of the next item
  abbrev address : ℕ
  address = image.table.address st.data_place

  room : Free image p st (with_room s)
  room = free_with_room f good short

  high : address + 256 ≤ data_start
  high = site.has_items.high st.data_place f.holds.few_taken

  -- the stack of numbers is no part of the image
  apart : (a : ℕ) → a < data_start → (with_room s).mem a ≡ s.mem a
  apart a below =
      let at = numbers_room s.mem (s.regs 12) (s.regs 0) p.numbers f.numbers in
      byte-put_other s.mem (s.regs 12 - 4) (s.regs 0) a (inl (omega (arith, below, at, short)))

  -- the length of the next item, or the byte after them all
  mark_is : (n : ℕ) → image.bytes address ≡ n → (with_room s).mem (word (with_room s).mem next_item_at) ≡ n
  mark_is n is =
      let low = site.has_items.low st.data_place f.holds.few_taken in
      ap (with_room s).mem room.holds.next_item ∙ apart address (omega (arith, high)) ∙ same.kept address low (omega (arith, high)) ∙ is

  -- there is none
  past_end : (r : ℕ) (t : Core) → IsGood t → TakesNext (put 14 r (with_room s)) demands.Falls t → length image.table.texts ≤ st.data_place
      → Owes CodeAsks CodeDoes (raise_if_failed line ⨾ Skip ⨾ operate library.ItemNumber line) (Arrives image (Reads st line p (slice_get image.table.texts st.data_place))) t
  past_end r t good_t d past =
      let last : st.data_place ≡ length image.table.texts = (let few = f.holds.few_taken in omega (arith, past, few)) in
      let e = d.none (mark_is end_mark (ap (λ k. image.bytes (image.table.address k)) last ∙ site.has_items.ends)) in
      let g = free_same {image = image} {p = p} {st = st} {s = put 14 r (with_room s)} {t = t} (record { holds = room.holds; numbers = room.numbers; texts = room.texts }) d.kept e.mem d.out in
      let over : Reads st line p None ≡ over_by out_of_data line st = ap (λ c. on_value (on_value c (λ text. or_raise line (data_value text))) (λ value. falls (pushed value p))) (raise_over {A = List ℕ} out_of_data line st f.holds.unhandled) in
      subst (λ item. Owes CodeAsks CodeDoes (raise_if_failed line ⨾ Skip ⨾ operate library.ItemNumber line) (Arrives image (Reads st line p item)) t) (sym (slice_get_past image.table.texts st.data_place past))
      (check_then line fits (good_t.regs 1)
      (λ none. absurd (let is = e.error_is in omega (arith, none, is)))
      (λ some. raised (Reads st line p None) out_of_data line over (omega arith) fits g.holds e.error_is refl))

  -- there is one
  takes_item : (r : ℕ) (t : Core) → IsGood t → TakesNext (put 14 r (with_room s)) demands.Falls t → st.data_place < length image.table.texts
      → Owes CodeAsks CodeDoes (raise_if_failed line ⨾ Skip ⨾ operate library.ItemNumber line) (Arrives image (Reads st line p (slice_get image.table.texts st.data_place))) t
  takes_item r t good_t d few =
      let item = site.has_items.each st.data_place few in
      let text = slice_index_or image.table.texts st.data_place [] in
      let length_is = mark_is (length text) item.count in
      let e = d.takes (λ z. let less = item.short in omega (arith, z, length_is, less)) in
      let next : word t.mem next_item_at ≡ image.table.address (st.data_place + 1) =
      e.next ∙ (λ i. room.holds.next_item i + 1 + length_is i) ∙ sym item.next ∙ ap image.table.address (let n : suc st.data_place ≡ st.data_place + 1 = omega arith in n) in
      let taken = free_taken {image = image} {p = p} {st = st} {s = put 14 r (with_room s)} {t = t} (st.data_place + 1) (record { holds = room.holds; numbers = room.numbers; texts = room.texts }) short (omega (arith, few)) next d.kept e.mem d.out in
      let same_t : SameCode image.bytes t.mem = record { kept = λ a low below. e.mem a (inl (omega (arith, below))) ∙ apart a below ∙ same.kept a low below } in
      let first : t.regs 0 ≡ address = e.item ∙ room.holds.next_item in
      let low = site.has_items.low st.data_place f.holds.few_taken in
      let spelled : text_at t.mem (t.regs 0) ≡ text = ap (text_at t.mem) first ∙ text-is image.bytes t address text (record { low = low; high = high; is = item.is }) good_t same_t in
      subst (λ i. Owes CodeAsks CodeDoes (raise_if_failed line ⨾ Skip ⨾ operate library.ItemNumber line) (Arrives image (Reads st line p i)) t) (sym (slice_get-get_or image.table.texts st.data_place [] few))
      (check_then line fits (good_t.regs 1)
      (λ none. skip_then
      (call_then {e = 18}
      (λ q bound. let top = high in omega (arith, first, top))
      (λ q v bound good_v a. number_end (record { holds = taken.holds; numbers = taken.numbers; texts = taken.texts }) text q v good_v spelled a)
      (λ q l v bound good_v a. absurd (let z = a.falls in cc z))))
      (λ some. absurd (some e.no_error)))
    where
      number_end : {new : State} {u : Core} → Free image p new u → (text : List ℕ) (q : ℕ) (v : Core) → IsGood v → text_at u.mem (u.regs 0) ≡ text → Calculates (data_value (text_at u.mem (u.regs 0))) (put 14 q u) demands.Falls v
          → Owes CodeAsks CodeDoes (raise_if_failed line ⨾ Skip) (Arrives image (computed (data_value text) line p new)) v
      number_end {new} {u} g text q v good_v spelled a =
          arrived (raise_if_failed line ⨾ Skip) (data_value text) line (answered_end (data_value text) line (data-errors text) fits (free_same {image = image} {p = p} {st = new} {s = put 14 q u} {t = v} (record { holds = g.holds; numbers = g.numbers; texts = g.texts }) a.kept a.mem a.out)
          (good_v.regs 0) (subst (λ l. Answers (data_value l) v) spelled a.answers))

  pub read_number_owes : (named : Named) → Owes CodeAsks CodeDoes (op_code named (o.ReadNumber line)) (Arrives image (Reads st line p (slice_get image.table.texts st.data_place))) s
  read_number_owes named =
      room_then f short
      (seq_then (call_then {e = 17}
      (λ r bound. record { base = f.holds.base_is; inside = (let is = room.holds.next_item in let top = high in omega (arith, is, top)) })
      (λ r t bound good_t d. seq_then (by r t good_t d (cases_lt st.data_place (length image.table.texts))))
      (λ r l t bound good_t d. absurd (let e = d.falls in cc e))))
    where
      by : (r : ℕ) (t : Core) → IsGood t → TakesNext (put 14 r (with_room s)) demands.Falls t → (st.data_place < length image.table.texts) ⊎ (length image.table.texts ≤ st.data_place)
          → Owes CodeAsks CodeDoes (raise_if_failed line ⨾ Skip ⨾ operate library.ItemNumber line) (Arrives image (Reads st line p (slice_get image.table.texts st.data_place))) t
      by r t good_t d (inl few) = takes_item r t good_t d few
      by r t good_t d (inr past) = past_end r t good_t d past
