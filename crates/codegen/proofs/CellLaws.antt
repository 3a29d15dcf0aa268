-- A number that is stored in a cell.
use Rattle.std.proofs.Common.{◌≡◌, ◌≢◌, ℕ, ◌+◌, ◌*◌, ◌^◌, ◌<◌, ◌≤◌, ◌⊎◌, inl, inr, ℤ, pos, List, Option, None, Some, length, slice_index_or, slice_set, sym, ap, subst, ◌∙◌, arith}
use Rattle.std.proofs.lemmas.Bool.{cases_order}
use Rattle.std.proofs.lemmas.List.{get_or-set_same, get_or-set_other, length-set}
use Rattle.bas_sem.specs.State.{State}
use Rattle.bas_store.specs.Cells.{residents, Resident, Integer}
use Rattle.bas_store.specs.Stored.{Entry, with_number}
use Rattle.bv_num.specs.Bits.{signed}
use Rattle.arm_core.specs.Core.{word, put_word}
use Rattle.arm_core.proofs.MemoryWords.{byte-put_other, word-put_same, word-put_other, word-same}
use Rattle.code_frag.specs.Regions.{residents_start, column_at, opened_count_at, depth_at, next_item_at, cells_start, arrays_start}
use Rattle.runtime_lib.specs.Opened.{IsApart}
use Rattle.codegen.specs.StandsFor.{ItemTable, HasResidents, HasIntegers, IsCell, cell_at, HasOpened, Holds}
use Rattle.codegen.proofs.StateLaws.{word_kept, opened_kept, residents_kept, integers_kept, arena_kept}

-- ---- a resident: its word is another, and nothing else of them is

module _ (m k : ℕ → ℕ) (values : List ℤ) (index : ℕ) (v : ℤ) (has : HasResidents m values) (inside : index < residents) (is : signed (word k (residents_start + 4 * index)) ≡ v)
    (same : (b : ℕ) → residents_start ≤ b → b < column_at → IsApart (residents_start + 4 * index) 4 b → k b ≡ m b) where
  other_resident : (j : ℕ) → j < residents → j ≢ index → (residents_start + 4 * j + 4 ≤ residents_start + 4 * index) ⊎ (residents_start + 4 * index + 4 ≤ residents_start + 4 * j)
      → signed (word k (residents_start + 4 * j)) ≡ slice_index_or (slice_set values index v) j (pos 0)
  other_resident j low apart where_at =
      ap signed (sym (word-same m k (residents_start + 4 * j) (λ b from to. sym (same b (omega (arith, from)) (omega (arith, to, low)) (away where_at b from to)))))
      ∙ has.each j low ∙ sym (get_or-set_other values index j v (pos 0) apart)
    where
      away : (residents_start + 4 * j + 4 ≤ residents_start + 4 * index) ⊎ (residents_start + 4 * index + 4 ≤ residents_start + 4 * j)
          → (b : ℕ) → residents_start + 4 * j ≤ b → b < residents_start + 4 * j + 4 → IsApart (residents_start + 4 * index) 4 b
      away (inl below) b from to = inl (omega (arith, below, to))
      away (inr above) b from to = inr (omega (arith, above, from))

  resident_by_order : (j : ℕ) → j < residents → (j ≡ index) ⊎ ((j < index) ⊎ (index < j)) → signed (word k (residents_start + 4 * j)) ≡ slice_index_or (slice_set values index v) j (pos 0)
  resident_by_order j low (inl e) =
      (λ i. signed (word k (residents_start + 4 * e i))) ∙ is
      ∙ sym (ap (λ i. slice_index_or (slice_set values index v) i (pos 0)) e ∙ get_or-set_same values index v (pos 0) (omega (arith, inside, has.count)))
  resident_by_order j low (inr (inl l)) = other_resident j low (λ e. omega (arith, e, l)) (inl (omega (arith, l)))
  resident_by_order j low (inr (inr l)) = other_resident j low (λ e. omega (arith, e, l)) (inr (omega (arith, l)))

  resident_changed : HasResidents k (slice_set values index v)
  resident_changed = record { count = length-set values index v ∙ has.count; each = λ j low. resident_by_order j low (cases_order j index) }

-- the state after it, with what is open then
pub holds_resident_by : {branches : ℕ} {table : ItemTable} (st : State) (base stack : ℕ) (m k : ℕ → ℕ) (out : List ℕ) (index : ℕ) (v : ℤ) (es : List Entry) → Holds branches table st base stack m out → index < residents
    → signed (word k (residents_start + 4 * index)) ≡ v → HasOpened branches k es
    → ((b : ℕ) → b < arrays_start → IsApart opened_count_at 4 b → IsApart (residents_start + 4 * index) 4 b → k b ≡ m b)
    → Holds branches table (record st { stored = record (with_number (Resident index) v st.stored) { opened = es } }) base stack k out
holds_resident_by st base stack m k out index v es h inside is opened same = record {
  base_is = h.base_is;
  stack_is = h.stack_is;
  has_residents = resident_changed m k st.stored.residents index v h.has_residents inside is (λ b low high apart. same b (omega (arith, high)) (inl (omega (arith, high))) apart);
  has_integers = integers_kept m k st.stored.integers h.has_integers (λ b low high. same b high (inr (omega (arith, low))) (inr (omega (arith, low, inside))));
  has_opened = opened;
  depth = word_kept m k depth_at 0 h.depth (λ b from to. same b (omega (arith, to)) (inr (omega (arith, from))) (inr (omega (arith, from, inside))));
  column = word_kept m k column_at st.column h.column (λ b from to. same b (omega (arith, to)) (inl (omega (arith, to))) (inr (omega (arith, from, inside))));
  column_small = h.column_small;
  few_taken = h.few_taken;
  next_item = word_kept m k next_item_at _ h.next_item (λ b from to. same b (omega (arith, to)) (inr (omega (arith, from))) (inr (omega (arith, from, inside))));
  has_arena = arena_kept m k st.arena h.has_arena (λ b low high. same b (omega (arith, high)) (inl (omega (arith, high))) (inl (omega (arith, high))));
  out_is = h.out_is;
  unhandled = h.unhandled;
}

pub holds_resident : {branches : ℕ} {table : ItemTable} (st : State) (base stack : ℕ) (m : ℕ → ℕ) (out : List ℕ) (index x : ℕ) → Holds branches table st base stack m out → index < residents → x < 2 ^ 32
    → Holds branches table (record st { stored = with_number (Resident index) (signed x) st.stored }) base stack (put_word m (residents_start + 4 * index) x) out
holds_resident {branches} st base stack m out index x h inside small =
    let a = residents_start + 4 * index in
    holds_resident_by st base stack m (put_word m a x) out index (signed x) st.stored.opened h inside (ap signed (word-put_same m a x small))
    (opened_kept branches m (put_word m a x) st.stored.opened h.has_opened (λ b low high. byte-put_other m a x b (inr (omega (arith, low, inside))))
    (λ b low high. byte-put_other m a x b (inr (omega (arith, low, inside)))))
    (λ b low count apart. byte-put_other m a x b apart)

-- ---- the integer of a name: its number and its mark are others, and nothing else of them is

module _ (m k : ℕ → ℕ) (values : List (Option ℤ)) (name : ℕ) (v : ℤ) (has : HasIntegers m values) (inside : name < length values) (number_is : signed (word k (cell_at name)) ≡ v)
    (mark_is : word k (cell_at name + 4) ≡ 1) (same : (b : ℕ) → cells_start ≤ b → b < arrays_start → IsApart (cell_at name) 8 b → k b ≡ m b) where
  abbrev IsKept : ℕ → Type 0
  IsKept j = IsCell (word k (cell_at j + 4)) (signed (word k (cell_at j))) (slice_index_or (slice_set values name (Some v)) j None)

  -- a word of another cell
  other_word : (j d : ℕ) → j < length values → d ≤ 4 → ((cell_at j + 8 ≤ cell_at name) ⊎ (cell_at name + 8 ≤ cell_at j)) → word k (cell_at j + d) ≡ word m (cell_at j + d)
  other_word j d low few where_at =
      let most = has.few in
      sym (word-same m k (cell_at j + d) (λ b from to. sym (same b (omega (arith, from)) (omega (arith, to, low, few, most)) (away where_at b from to))))
    where
      away : ((cell_at j + 8 ≤ cell_at name) ⊎ (cell_at name + 8 ≤ cell_at j)) → (b : ℕ) → cell_at j + d ≤ b → b < cell_at j + d + 4 → IsApart (cell_at name) 8 b
      away (inl below) b from to = inl (omega (arith, below, to, few))
      away (inr above) b from to = inr (omega (arith, above, from))

  other_cell : (j : ℕ) → j < length values → j ≢ name → ((cell_at j + 8 ≤ cell_at name) ⊎ (cell_at name + 8 ≤ cell_at j)) → IsKept j
  other_cell j low apart where_at =
      let number : word k (cell_at j) ≡ word m (cell_at j) = ap (word k) (omega arith) ∙ other_word j 0 low (omega arith) where_at ∙ ap (word m) (omega arith) in
      subst (λ x. IsCell (word k (cell_at j + 4)) (signed (word k (cell_at j))) x) (sym (get_or-set_other values name j (Some v) None apart))
      (subst (λ w. IsCell w (signed (word k (cell_at j))) (slice_index_or values j None)) (sym (other_word j 4 low (omega arith) where_at))
      (subst (λ w. IsCell (word m (cell_at j + 4)) (signed w) (slice_index_or values j None)) (sym number) (has.each j low)))

  cell_by_order : (j : ℕ) → j < length values → (j ≡ name) ⊎ ((j < name) ⊎ (name < j)) → IsKept j
  cell_by_order j low (inl e) =
      subst IsKept (sym e)
      (subst (λ x. IsCell (word k (cell_at name + 4)) (signed (word k (cell_at name))) x) (sym (get_or-set_same values name (Some v) None inside)) (mark_is, number_is))
  cell_by_order j low (inr (inl l)) = other_cell j low (λ e. omega (arith, e, l)) (inl (omega (arith, l)))
  cell_by_order j low (inr (inr l)) = other_cell j low (λ e. omega (arith, e, l)) (inr (omega (arith, l)))

  integer_changed : HasIntegers k (slice_set values name (Some v))
  integer_changed = record {
    few = let count = length-set values name (Some v) in let few = has.few in omega (arith, count, few);
    each = λ j low. let count = length-set values name (Some v) in cell_by_order j (omega (arith, count, low)) (cases_order j name);
  }

-- the state after it, with what is open then
pub holds_integer_by : {branches : ℕ} {table : ItemTable} (st : State) (base stack : ℕ) (m k : ℕ → ℕ) (out : List ℕ) (name : ℕ) (v : ℤ) (es : List Entry) → Holds branches table st base stack m out → name < length st.stored.integers
    → signed (word k (cell_at name)) ≡ v → word k (cell_at name + 4) ≡ 1 → HasOpened branches k es
    → ((b : ℕ) → b < arrays_start → IsApart opened_count_at 4 b → IsApart (cell_at name) 8 b → k b ≡ m b)
    → Holds branches table (record st { stored = record (with_number (Integer name) v st.stored) { opened = es } }) base stack k out
holds_integer_by st base stack m k out name v es h inside number_is mark_is opened same = record {
  base_is = h.base_is;
  stack_is = h.stack_is;
  has_residents = residents_kept m k st.stored.residents h.has_residents (λ b low high. same b (omega (arith, high)) (inl (omega (arith, high))) (inl (omega (arith, high))));
  has_integers = integer_changed m k st.stored.integers name v h.has_integers inside number_is mark_is (λ b low high apart. same b high (inr (omega (arith, low))) apart);
  has_opened = opened;
  depth = word_kept m k depth_at 0 h.depth (λ b from to. same b (omega (arith, to)) (inr (omega (arith, from))) (inl (omega (arith, to))));
  column = word_kept m k column_at st.column h.column (λ b from to. same b (omega (arith, to)) (inl (omega (arith, to))) (inl (omega (arith, to))));
  column_small = h.column_small;
  few_taken = h.few_taken;
  next_item = word_kept m k next_item_at _ h.next_item (λ b from to. same b (omega (arith, to)) (inr (omega (arith, from))) (inl (omega (arith, to))));
  has_arena = arena_kept m k st.arena h.has_arena (λ b low high. same b (omega (arith, high)) (inl (omega (arith, high))) (inl (omega (arith, high))));
  out_is = h.out_is;
  unhandled = h.unhandled;
}

pub holds_integer : {branches : ℕ} {table : ItemTable} (st : State) (base stack : ℕ) (m : ℕ → ℕ) (out : List ℕ) (name x : ℕ) → Holds branches table st base stack m out → name < length st.stored.integers → x < 2 ^ 32
    → Holds branches table (record st { stored = with_number (Integer name) (signed x) st.stored }) base stack (put_word (put_word m (cell_at name) x) (cell_at name + 4) 1) out
holds_integer {branches} st base stack m out name x h inside small =
    let few = h.has_integers.few in
    let first = put_word m (cell_at name) x in
    let after = put_word first (cell_at name + 4) 1 in
    holds_integer_by st base stack m after out name (signed x) st.stored.opened h inside
    (ap signed (word-put_other first (cell_at name + 4) 1 (cell_at name) (inl (omega arith)) ∙ word-put_same m (cell_at name) x small))
    (word-put_same first (cell_at name + 4) 1 (omega arith))
    (opened_kept branches m after st.stored.opened h.has_opened (λ b low high. elsewhere b (inl (omega (arith, high)))) (λ b low high. elsewhere b (inr (omega (arith, low, inside, few)))))
    (λ b low count apart. elsewhere b apart)
  where
    elsewhere : (b : ℕ) → IsApart (cell_at name) 8 b → put_word (put_word m (cell_at name) x) (cell_at name + 4) 1 b ≡ m b
    elsewhere b (inl below) = byte-put_other (put_word m (cell_at name) x) (cell_at name + 4) 1 b (inl (omega (arith, below))) ∙ byte-put_other m (cell_at name) x b (inl below)
    elsewhere b (inr above) = byte-put_other (put_word m (cell_at name) x) (cell_at name + 4) 1 b (inr (omega (arith, above))) ∙ byte-put_other m (cell_at name) x b (inr (omega (arith, above)))
