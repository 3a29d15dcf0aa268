-- The operations that push and store.
use Rattle.std.proofs.Common.{◌≡◌, ℕ, ◌+◌, ◌-◌, ◌*◌, ◌/◌, ◌%◌, ◌^◌, ◌<◌, ◌≤◌, inl, inr, Bool, true, false, nat_lt, nat_le, ℤ, pos, List, Option, None, Some, length, slice_index_or, refl, sym, ap, subst, ◌∙◌, arith, FitsSigned, eqb-true, ltb-true}
use Rattle.std.proofs.lemmas.Bool.{eqb-false, leb-true}
use Rattle.std.proofs.lemmas.Int.{ints, to_z-of_z}
use Rattle.std.specs.Int.{w32}
use Rattle.bas_ir.specs.declared.op.Op.TheVariants as o
use Rattle.bas_ir.specs.Effects.{Effect, Falls, falls}
use Rattle.bas_ir.specs.Places.{Pending, pushed, text_pushed}
use Rattle.bas_sem.specs.Actions.{or_unknown}
use Rattle.bas_sem.specs.Course.{Course, Value, on_value}
use Rattle.bas_sem.specs.State.{State}
use Rattle.bas_store.specs.Cells.{residents, Resident, Integer}
use Rattle.bas_store.specs.Stored.{with_number}
use Rattle.bas_value.specs.Errors.{unknown_variable}
use Rattle.bv_num.specs.Bits.{pattern, signed}
use Rattle.arm_isa.specs.Numbers.{EQ}
use Rattle.arm_isa.proofs.ImmediateLaws.{immediate_value-byte, gives_by_parts}
use Rattle.arm2_alu.proofs.ValueLaws.{compared}
use Rattle.arm_core.specs.Core.{Core, IsGood, put, word, put_word}
use Rattle.arm_core.proofs.Comparisons.{after-eq}
use Rattle.arm_core.proofs.MemoryWords.{byte-put_other, word-same}
use Rattle.code_frag.specs.Demands.{Post, Owes}
use Rattle.code_frag.specs.Language as language
use Rattle.code_frag.specs.Instructions.{num, cmp, ldr}
use Rattle.code_frag.specs.Language.{Skip, When, ◌⨾◌}
use Rattle.code_frag.specs.Regions.{residents_start, column_at}
use Rattle.code_frag.proofs.Rules as rules
use Rattle.code_frag.proofs.Rules.{end_here, set_then, test_then, when_then, store_then, push_then, pull_then}
use Rattle.codegen.specs.Operations.{Named, op_code, raise, number, number_by, find_cell, cell_offset, cell_place}
use Rattle.codegen.specs.Outcomes.{Arrives}
use Rattle.codegen.specs.StandsFor.{Site, IsCell, cell_at, Holds, Numbers, IsText, StandsFor}
use Rattle.codegen.proofs.Arriving.{CodeAsks, CodeDoes, Free, with_top, without_top, free_room, IsShort, with_room, free_with_room, load_then, room_then, drop_end, raise_over, raise_then}
use Rattle.codegen.proofs.CellLaws.{holds_resident, holds_integer}
use Rattle.codegen.proofs.PendingLaws.{numbers_room, numbers_kept, texts_room, texts_kept, texts_pushed}
use Rattle.codegen.proofs.StateLaws.{holds_stored}

-- ---- numbers

module _ {image : Site} {p : Pending} {st : State} {s : Core} where
  number_end_by : (small large : Bool) (n : ℕ) (value : ℤ) → Free image p st s → n < 2 ^ 32 → signed n ≡ value → (small ≡ true → n < 2 ^ 8) → (large ≡ true → 2 ^ 32 - 2 ^ 8 ≤ n)
      → Owes CodeAsks CodeDoes (number_by small large n) (Arrives image (Value (Falls (pushed value p)) st)) s
  number_end_by true large n value f fits is low high =
      set_then n refl (immediate_value-byte n (low refl)) (end_here (record { by = (refl, with_top value (record { holds = f.holds; numbers = f.numbers; texts = f.texts }) is) }))
  number_end_by false true n value f fits is low high =
      let b = immediate_value-byte (2 ^ 32 - 1 - n) (let l = high refl in omega (arith, l)) in
      set_then n refl ((λ i. 2 ^ 32 - 1 - b i) ∙ omega (arith, fits)) (end_here (record { by = (refl, with_top value (record { holds = f.holds; numbers = f.numbers; texts = f.texts }) is) }))
  number_end_by false false n value f fits is low high =
      load_then 0 n fits (end_here (record { by = (refl, with_top value (record { holds = f.holds; numbers = f.numbers; texts = f.texts }) is) }))

-- ---- cells of names

-- the address from which a cell is found
abbrev cell_base : ℕ → ℕ
cell_base name = residents_start + cell_offset name / 2 ^ 12 * 2 ^ 12

-- it comes into R1
find_then : {rest : language.Piece} {Q : Post} {t : Core} (name : ℕ) → name < 4096 → t.regs 11 ≡ residents_start → Owes CodeAsks CodeDoes rest Q (put 1 (cell_base name) t) → Owes CodeAsks CodeDoes (find_cell name ⨾ rest) Q t
find_then name few base owes =
    let k = cell_offset name / 2 ^ 12 in
    let g = gives_by_parts 10 k (k * 2 ^ 12) (omega arith) (omega (arith, few)) (omega (arith, few)) in
    set_then (cell_base name) refl ((λ i. (base i + g.value i) % 2 ^ 32) ∙ omega (arith, few)) owes

-- what an integer's cell comes to
abbrev fetched : Pending → State → ℕ → Option ℤ → Course Effect
fetched q state line cell = on_value (or_unknown line cell state) (λ value. falls (pushed value q))

-- what follows on the address of a cell
abbrev fetch : ℕ → ℕ → language.Piece
fetch name line = ldr 2 1 (cell_place name + 4) ⨾ cmp 2 (num 0) ⨾ When EQ (raise unknown_variable line) ⨾ ldr 0 1 (cell_place name) ⨾ Skip

-- the mark and the number of a cell, where R0 is free
module _ {image : Site} {p : Pending} {st : State} (t : Core) (name line : ℕ) (few : name < 4096) (fits : line < 65536) (at : t.regs 1 ≡ cell_base name) (f : Free image p st t) where
  mark_then : {rest : language.Piece} {Q : Post} → (word t.mem (cell_at name + 4) < 2 ^ 32 → Owes CodeAsks CodeDoes rest Q (put 2 (word t.mem (cell_at name + 4)) t)) → Owes CodeAsks CodeDoes (ldr 2 1 (cell_place name + 4) ⨾ rest) Q t
  mark_then owes = rules.load_then (cell_at name + 4) (word t.mem (cell_at name + 4)) (omega (arith, at, few)) refl (omega arith) (omega (arith, few)) owes

  fetch_owes : (cell : Option ℤ) → IsCell (word t.mem (cell_at name + 4)) (signed (word t.mem (cell_at name))) cell → Owes CodeAsks CodeDoes (fetch name line) (Arrives image (fetched p st line cell)) t
  fetch_owes None unmade =
      let mark = word t.mem (cell_at name + 4) in
      mark_then (λ small.
      test_then (compared mark 0) refl refl
      (when_then (λ e. raise_then (fetched p st line None) unknown_variable line (ap (λ c. on_value c (λ value. falls (pushed value p))) (raise_over {A = ℤ} unknown_variable line st f.holds.unhandled)) (omega arith) fits f.holds)
      (λ e. absurd (eqb-false mark 0 (sym (after-eq mark 0 (put 2 mark t) small (omega arith)) ∙ e) unmade.0))))
  fetch_owes (Some value) is =
      let mark = word t.mem (cell_at name + 4) in
      mark_then (λ small.
      test_then (compared mark 0) refl refl
      (when_then (λ e. absurd (let z = eqb-true mark 0 (sym (after-eq mark 0 (put 2 mark t) small (omega arith)) ∙ e) in let one = is.0 in omega (arith, z, one)))
      (λ e. rules.load_then (cell_at name) (word t.mem (cell_at name)) (omega (arith, at, few)) refl (omega arith) (omega (arith, few))
      (λ low. end_here (record { by = (refl, with_top value (record { holds = f.holds; numbers = f.numbers; texts = f.texts }) is.1) })))))

module _ {image : Site} {p : Pending} {st : State} {s : Core} (texts : Named) where
  -- a number
  pub push_owes : (value : ℤ) → FitsSigned w32 value → StandsFor image p st s → IsGood s → IsShort p → Owes CodeAsks CodeDoes (op_code texts (o.Push value)) (Arrives image (Value (Falls (pushed value p)) st)) s
  push_owes value fits f good few =
      room_then f few
      (number_end_by (nat_lt (pattern value) (2 ^ 8)) (nat_le (2 ^ 32 - 2 ^ 8) (pattern value)) (pattern value) value (free_with_room f good few) (omega (arith, ints, fits)) (to_z-of_z w32 value fits)
      (λ e. ltb-true (pattern value) (2 ^ 8) e) (λ e. leb-true (2 ^ 32 - 2 ^ 8) (pattern value) e))

  -- COUNT
  pub push_column_owes : StandsFor image p st s → IsGood s → IsShort p → Owes CodeAsks CodeDoes (op_code texts o.PushColumn) (Arrives image (Value (Falls (pushed (pos st.column) p)) st)) s
  push_column_owes f good few =
      let g = free_with_room f good few in
      room_then f few
      (rules.load_then column_at st.column (let b = f.holds.base_is in omega (arith, b)) g.holds.column refl (omega arith)
      (λ small. end_here (record { by = (refl, with_top (pos st.column) (record { holds = g.holds; numbers = g.numbers; texts = g.texts }) (let c = g.holds.column_small in omega (arith, ints, c))) })))

  -- a resident
  pub push_resident_owes : (index : ℕ) → index < residents → StandsFor image p st s → IsGood s → IsShort p
      → Owes CodeAsks CodeDoes (op_code texts (o.PushResident index)) (Arrives image (Value (Falls (pushed (slice_index_or st.stored.residents index (pos 0)) p)) st)) s
  push_resident_owes index inside f good few =
      let g = free_with_room f good few in
      let b = f.holds.base_is in
      room_then f few
      (rules.load_then (residents_start + 4 * index) (word (with_room s).mem (residents_start + 4 * index)) (omega (arith, b, inside)) refl (omega arith) (omega (arith, inside))
      (λ small. end_here (record { by = (refl, with_top (slice_index_or st.stored.residents index (pos 0)) (record { holds = g.holds; numbers = g.numbers; texts = g.texts }) (g.holds.has_residents.each index inside)) })))

  -- it is stored
  pub store_resident_owes : (index : ℕ) (value : ℤ) → index < residents → StandsFor image (pushed value p) st s → s.regs 0 < 2 ^ 32 → IsShort p
      → Owes CodeAsks CodeDoes (op_code texts (o.StoreResident index)) (Arrives image (Value (Falls p) (record st { stored = with_number (Resident index) value st.stored }))) s
  store_resident_owes index value inside f small few =
      let a = residents_start + 4 * index in
      let b = f.holds.base_is in
      let g = without_top f in
      let room = free_room g in
      store_then a (s.regs 0) (omega (arith, b, inside)) refl (omega arith) (inr (omega arith, omega (arith, inside)))
      (drop_end (record {
        holds = subst (λ v. Holds image.branches image.table (record st { stored = with_number (Resident index) v st.stored }) (s.regs 11) (s.regs 13) (put_word s.mem a (s.regs 0)) s.out) f.numbers.0
            (holds_resident st (s.regs 11) (s.regs 13) s.mem s.out index (s.regs 0) f.holds inside small);
        numbers = subst (λ w. Numbers (put_word s.mem a (s.regs 0)) (s.regs 12 + 4) w p.numbers)
            (word-same s.mem (put_word s.mem a (s.regs 0)) (s.regs 12) (λ c low high. sym (byte-put_other s.mem a (s.regs 0) c (inr (omega (arith, low, inside, room, few))))))
            (numbers_kept s.mem (put_word s.mem a (s.regs 0)) (s.regs 12 + 4) (word s.mem (s.regs 12)) p.numbers g.numbers (λ c low high. byte-put_other s.mem a (s.regs 0) c (inr (omega (arith, low, inside, room, few)))));
        texts = texts_kept image.bytes s.mem (put_word s.mem a (s.regs 0)) (s.regs 9) (s.regs 10) p.texts g.texts
            (let below = texts_room image.bytes s.mem (s.regs 9) (s.regs 10) p.texts g.texts in λ c low high. byte-put_other s.mem a (s.regs 0) c (inr (omega (arith, low, inside, below, few))));
      }))

  -- the integer of a name
  pub push_integer_owes : (name line : ℕ) → name < length st.stored.integers → line < 65536 → StandsFor image p st s → IsGood s → IsShort p
      → Owes CodeAsks CodeDoes (op_code texts (o.PushInteger name line)) (Arrives image (fetched p st line (slice_index_or st.stored.integers name None))) s
  push_integer_owes name line inside fits f good short =
      let g = free_with_room f good short in
      let few = f.holds.has_integers.few in
      let low : name < 4096 = omega (arith, inside, few) in
      room_then f short
      (find_then name low f.holds.base_is
      (fetch_owes (put 1 (cell_base name) (with_room s)) name line low fits refl (record { holds = g.holds; numbers = g.numbers; texts = g.texts }) (slice_index_or st.stored.integers name None) (g.holds.has_integers.each name inside)))

  -- it is stored
  pub store_integer_owes : (name : ℕ) (value : ℤ) → name < length st.stored.integers → StandsFor image (pushed value p) st s → IsGood s → IsShort p
      → Owes CodeAsks CodeDoes (op_code texts (o.StoreInteger name)) (Arrives image (Value (Falls p) (record st { stored = with_number (Integer name) value st.stored }))) s
  store_integer_owes name value inside f good short =
      let few = f.holds.has_integers.few in
      let low : name < 4096 = omega (arith, inside, few) in
      let a = cell_at name in
      let first = put_word s.mem a (s.regs 0) in
      let after = put_word first (a + 4) 1 in
      let b = f.holds.base_is in
      let g = without_top f in
      let room = free_room g in
      let below = texts_room image.bytes s.mem (s.regs 9) (s.regs 10) p.texts g.texts in
      let elsewhere : (c : ℕ) → a + 8 ≤ c → after c ≡ s.mem c = λ c high. byte-put_other first (a + 4) 1 c (inr (omega (arith, high))) ∙ byte-put_other s.mem a (s.regs 0) c (inr (omega (arith, high))) in
      find_then name low b
      (store_then a (s.regs 0) (omega (arith, low)) refl (omega arith) (inr (omega arith, omega (arith, low)))
      (set_then 1 refl refl
      (store_then (a + 4) 1 (omega (arith, low)) refl (omega arith) (inr (omega arith, omega (arith, low)))
      (drop_end (record {
        holds = subst (λ v. Holds image.branches image.table (record st { stored = with_number (Integer name) v st.stored }) (s.regs 11) (s.regs 13) after s.out) f.numbers.0
            (holds_integer st (s.regs 11) (s.regs 13) s.mem s.out name (s.regs 0) f.holds inside (good.regs 0));
        numbers = subst (λ w. Numbers after (s.regs 12 + 4) w p.numbers)
            (word-same s.mem after (s.regs 12) (λ c from to. sym (elsewhere c (omega (arith, from, low, room, short)))))
            (numbers_kept s.mem after (s.regs 12 + 4) (word s.mem (s.regs 12)) p.numbers g.numbers (λ c from to. elsewhere c (omega (arith, from, low, room, short))));
        texts = texts_kept image.bytes s.mem after (s.regs 9) (s.regs 10) p.texts g.texts (λ c from to. elsewhere c (omega (arith, from, low, below, short)));
      })))))

  -- ---- texts

  -- a text of the image
  pub push_text_owes : (number : ℕ) (text : List ℕ) → IsText image.bytes texts.text text → StandsFor image p st s → IsGood s → IsShort p
      → Owes CodeAsks CodeDoes (op_code texts (o.PushText number)) (Arrives image (Value (Falls (text_pushed text p)) st)) s
  push_text_owes number text there f good short =
      let room = texts_room image.bytes s.mem (s.regs 9) (s.regs 10) p.texts f.texts in
      let numbers_at = numbers_room s.mem (s.regs 12) (s.regs 0) p.numbers f.numbers in
      let q = s.regs 9 - 4 in
      let high = there.high in
      push_then q (s.regs 10) (omega (arith, room, short)) refl (omega (arith, room, short)) (inr (omega (arith, room, short), omega (arith, room, short)))
      (load_then 10 texts.text (omega (arith, high))
      (end_here (record {
        by = (
          refl,
          record {
            holds = holds_stored st (s.regs 11) (s.regs 13) s.mem s.out q (s.regs 10) f.holds (omega (arith, room, short)) (omega (arith, room, short));
            numbers = numbers_kept s.mem (put_word s.mem q (s.regs 10)) (s.regs 12) (s.regs 0) p.numbers f.numbers (λ c from to. byte-put_other s.mem q (s.regs 10) c (inl (omega (arith, to, room, short))));
            texts = (there, texts_pushed image.bytes s.mem q (s.regs 9) (s.regs 10) p.texts f.texts (omega (arith, room, short)) (good.regs 10));
          },
        );
      })))
