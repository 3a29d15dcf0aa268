-- What a memory stands for, after stores.
use Rattle.std.proofs.Common.{◌≡◌, ℕ, ◌+◌, ◌*◌, ◌<◌, ◌≤◌, ◌⊎◌, inl, inr, ℤ, List, [], ◌∷◌, ◌++◌, length, Option, None, slice_index_or, refl, sym, ap, subst, ◌∙◌, arith}
use Rattle.bas_sem.specs.Actions.{wrote}
use Rattle.bas_sem.specs.State.{State}
use Rattle.bas_store.specs.Stored.{Opening, For, Repeat, While, Gosub, Entry}
use Rattle.bas_value.specs.Output.{Part, part_bytes, column_after}
use Rattle.bv_base.specs.MemoryMap.{arena_start, arena_end}
use Rattle.bv_num.specs.Bits.{signed}
use Rattle.arm_core.specs.Core.{word, put_word}
use Rattle.arm_core.proofs.MemoryWords.{byte-put_other, word-same}
use Rattle.code_frag.specs.Regions.{residents_start, column_at, opened_count_at, depth_at, next_item_at, cells_start, arrays_start, opened_start, calls_start, stack_start}
use Rattle.runtime_lib.specs.Opened.{entry_at, opened_count, IsApart}
use Rattle.codegen.specs.StandsFor.{ItemTable, HasResidents, HasIntegers, HasArena, IsCell, cell_at, HasLimits, HasEntry, HasEntries, HasOpened, Holds}

-- the addresses of the state, and some between its parts
abbrev pub IsHeld : ℕ → Type 0
IsHeld a = (a < arrays_start) ⊎ ((opened_start ≤ a) × (a < calls_start))

-- ---- a memory that is the same where a part of the state is

pub residents_kept : (m k : ℕ → ℕ) (values : List ℤ) → HasResidents m values → ((a : ℕ) → residents_start ≤ a → a < column_at → k a ≡ m a) → HasResidents k values
residents_kept m k values has same = record {
  count = has.count;
  each = λ index low. ap signed (sym (word-same m k (residents_start + 4 * index) (λ b from to. sym (same b (omega (arith, from)) (omega (arith, to, low)))))) ∙ has.each index low;
}

pub integers_kept : (m k : ℕ → ℕ) (values : List (Option ℤ)) → HasIntegers m values → ((a : ℕ) → cells_start ≤ a → a < arrays_start → k a ≡ m a) → HasIntegers k values
integers_kept m k values has same = record {
  few = has.few;
  each = λ name low.
      let few = has.few in
      subst (λ w. IsCell (word k (cell_at name + 4)) (signed w) (slice_index_or values name None))
      (word-same m k (cell_at name) (λ b from to. sym (same b (omega (arith, from)) (omega (arith, to, low, few)))))
      (subst (λ w. IsCell w (signed (word m (cell_at name))) (slice_index_or values name None))
      (word-same m k (cell_at name + 4) (λ b from to. sym (same b (omega (arith, from)) (omega (arith, to, low, few)))))
      (has.each name low));
}

pub arena_kept : (m k : ℕ → ℕ) (bytes : List ℕ) → HasArena m bytes → ((a : ℕ) → arena_start ≤ a → a < arena_end → k a ≡ m a) → HasArena k bytes
arena_kept m k bytes has same = record { count = has.count; each = λ at low. same (arena_start + at) (omega arith) (omega (arith, low)) ∙ has.each at low }

-- an entry, where its words are the same
pub entry_kept : (branches : ℕ) (m k : ℕ → ℕ) (n : ℕ) (e : Entry) → HasEntry branches m n e → ((a : ℕ) → entry_at n ≤ a → a < entry_at n + 20 → k a ≡ m a) → HasEntry branches k n e
entry_kept branches m k n e has same = record {
  call = at 0 (omega arith) (entry_at n) (omega arith) ∙ has.call;
  kind = at 4 (omega arith) (entry_at n + 4) refl ∙ has.kind;
  limits = limits_kept e.opening has.limits;
  code = at 16 (omega arith) (entry_at n + 16) refl ∙ has.code;
}
  where
    at : (d : ℕ) → d ≤ 16 → (a : ℕ) → a ≡ entry_at n + d → word k a ≡ word m a
    at d few a is = sym (word-same m k a (λ b from to. sym (same b (omega (arith, from, is)) (omega (arith, to, is, few)))))

    limits_kept : (o : Opening) → HasLimits m n o → HasLimits k n o
    limits_kept (For cell limit step) l = (ap signed (at 8 (omega arith) (entry_at n + 8) refl) ∙ l.0, ap signed (at 12 (omega arith) (entry_at n + 12) refl) ∙ l.1)
    limits_kept Repeat l = tt
    limits_kept While l = tt
    limits_kept Gosub l = tt

-- and all of them, where the memory is the same up to the last of them
pub entries_kept : (branches : ℕ) (m k : ℕ → ℕ) (es : List Entry) → HasEntries branches m es → ((a : ℕ) → opened_start ≤ a → a < entry_at (length es) → k a ≡ m a) → HasEntries branches k es
entries_kept branches m k [] has same = tt
entries_kept branches m k (e ∷ es) has same = (
  entry_kept branches m k (length es) e has.0 (λ a low high. same a (omega (arith, low)) (omega (arith, high))),
  entries_kept branches m k es has.1 (λ a low high. same a low (omega (arith, high))),
)

-- a word of the state that is the same
pub word_kept : (m k : ℕ → ℕ) (a x : ℕ) → word m a ≡ x → ((b : ℕ) → a ≤ b → b < a + 4 → k b ≡ m b) → word k a ≡ x
word_kept m k a x is same = sym (word-same m k a (λ b from to. sym (same b from to))) ∙ is

pub opened_kept : (branches : ℕ) (m k : ℕ → ℕ) (es : List Entry) → HasOpened branches m es → ((a : ℕ) → opened_count_at ≤ a → a < opened_count_at + 4 → k a ≡ m a)
    → ((a : ℕ) → opened_start ≤ a → a < calls_start → k a ≡ m a) → HasOpened branches k es
opened_kept branches m k es has same_count same = record {
  count = word_kept m k opened_count_at (length es) has.count same_count;
  few = has.few;
  entries = entries_kept branches m k es has.entries (λ a low high. same a low (let few = has.few in omega (arith, high, few)));
}

-- what is open after a closing word or NEXT: some of the entries that were open, and their number
pub opened_by : (branches : ℕ) (m k : ℕ → ℕ) (es : List Entry) → HasEntries branches m es → length es ≤ 4096 → opened_count k ≡ length es → ((a : ℕ) → opened_start ≤ a → a < calls_start → k a ≡ m a)
    → HasOpened branches k es
opened_by branches m k es has few count same = record { count = count; few = few; entries = entries_kept branches m k es has (λ a low high. same a low (omega (arith, high, few))) }

-- stores above the state
pub holds_kept : {branches : ℕ} {table : ItemTable} (st : State) (base stack : ℕ) (m k : ℕ → ℕ) (out : List ℕ) → Holds branches table st base stack m out → ((a : ℕ) → IsHeld a → k a ≡ m a) → Holds branches table st base stack k out
holds_kept {branches} st base stack m k out h same = record {
  base_is = h.base_is;
  stack_is = h.stack_is;
  has_residents = residents_kept m k st.stored.residents h.has_residents (λ a low high. same a (inl (omega (arith, high))));
  has_integers = integers_kept m k st.stored.integers h.has_integers (λ a low high. same a (inl high));
  has_opened = opened_kept branches m k st.stored.opened h.has_opened (λ a low high. same a (inl (omega (arith, high)))) (λ a low high. same a (inr (low, high)));
  depth = word_kept m k depth_at 0 h.depth (λ b from to. same b (inl (omega (arith, to))));
  column = word_kept m k column_at st.column h.column (λ b from to. same b (inl (omega (arith, to))));
  column_small = h.column_small;
  few_taken = h.few_taken;
  next_item = word_kept m k next_item_at _ h.next_item (λ b from to. same b (inl (omega (arith, to))));
  has_arena = arena_kept m k st.arena h.has_arena (λ a low high. same a (inl (omega (arith, high))));
  out_is = h.out_is;
  unhandled = h.unhandled;
}

pub holds_stored : {branches : ℕ} {table : ItemTable} (st : State) (base stack : ℕ) (m : ℕ → ℕ) (out : List ℕ) (a x : ℕ) → Holds branches table st base stack m out → arrays_start ≤ a → a + 4 ≤ opened_start
    → Holds branches table st base stack (put_word m a x) out
holds_stored st base stack m out a x h high low = holds_kept st base stack m (put_word m a x) out h same
  where
    same : (b : ℕ) → IsHeld b → put_word m a x b ≡ m b
    same b (inl below) = byte-put_other m a x b (inl (omega (arith, below, high)))
    same b (inr above) = let from = above.0 in byte-put_other m a x b (inr (omega (arith, from, low)))

-- ---- another item of DATA is the next one
pub holds_taken : {branches : ℕ} {table : ItemTable} (st : State) (base stack : ℕ) (m k : ℕ → ℕ) (out : List ℕ) (place : ℕ) → Holds branches table st base stack m out → place ≤ length table.texts → word k next_item_at ≡ table.address place
    → ((a : ℕ) → IsApart next_item_at 4 a → k a ≡ m a) → Holds branches table (record st { data_place = place }) base stack k out
holds_taken {branches} st base stack m k out place h few next same = record {
  base_is = h.base_is;
  stack_is = h.stack_is;
  has_residents = residents_kept m k st.stored.residents h.has_residents (λ a low high. same a (inl (omega (arith, high))));
  has_integers = integers_kept m k st.stored.integers h.has_integers (λ a low high. same a (inr (omega (arith, low))));
  has_opened = opened_kept branches m k st.stored.opened h.has_opened (λ a low high. same a (inl (omega (arith, high)))) (λ a low high. same a (inr (omega (arith, low))));
  depth = word_kept m k depth_at 0 h.depth (λ b from to. same b (inl (omega (arith, to))));
  column = word_kept m k column_at st.column h.column (λ b from to. same b (inl (omega (arith, to))));
  column_small = h.column_small;
  few_taken = few;
  next_item = next;
  has_arena = arena_kept m k st.arena h.has_arena (λ a low high. same a (inl (omega (arith, high))));
  out_is = h.out_is;
  unhandled = h.unhandled;
}

-- ---- what is written, and the column after it
pub holds_wrote : {branches : ℕ} {table : ItemTable} (st : State) (base stack base' stack' : ℕ) (m k : ℕ → ℕ) (out out' : List ℕ) (part : Part) → Holds branches table st base stack m out → base' ≡ base → stack' ≡ stack
    → out' ≡ out ++ part_bytes part st.column → word k column_at ≡ column_after part st.column → column_after part st.column < 65536
    → ((a : ℕ) → (a < column_at) ⊎ ((column_at + 4 ≤ a) × (a < stack_start)) → k a ≡ m a) → Holds branches table (wrote part st) base' stack' k out'
holds_wrote {branches} st base stack base' stack' m k out out' part h same_base same_stack written column small same = record {
  base_is = same_base ∙ h.base_is;
  stack_is = same_stack ∙ h.stack_is;
  has_residents = residents_kept m k st.stored.residents h.has_residents (λ a low high. same a (inl high));
  has_integers = integers_kept m k st.stored.integers h.has_integers (λ a low high. same a (inr (omega (arith, low), omega (arith, high))));
  has_opened = opened_kept branches m k st.stored.opened h.has_opened (λ a low high. same a (inr (omega (arith, low), omega (arith, high))))
      (λ a low high. same a (inr (omega (arith, low), omega (arith, high))));
  depth = word_kept m k depth_at 0 h.depth (λ b from to. same b (inr (omega (arith, from), omega (arith, to))));
  column = column;
  column_small = small;
  few_taken = h.few_taken;
  next_item = word_kept m k next_item_at _ h.next_item (λ b from to. same b (inr (omega (arith, from), omega (arith, to))));
  has_arena = arena_kept m k st.arena h.has_arena (λ a low high. same a (inl (omega (arith, high))));
  out_is = written ∙ ap (λ l. l ++ part_bytes part st.column) h.out_is;
  unhandled = h.unhandled;
}
