-- The start: the memory after the image is 0 but for the address of the first item of DATA, and stands for the state in which a run
-- begins.
use Rattle.std.proofs.Common.{◌≡◌, ℕ, ◌+◌, ◌-◌, ◌*◌, ◌^◌, ◌<◌, ◌≤◌, ◌⊎◌, inl, inr, ℤ, pos, List, [], ◌++◌, length, flat_map, Option, None, slice_index, refl, sym, ap, subst, ◌∙◌, arith}
use Rattle.std.proofs.Math.ListN.{get_or-append}
use Rattle.std.proofs.lemmas.Bool.{cases_lt}
use Rattle.std.proofs.lemmas.List.{get_or-replicate, get_or_past, get_or-append_right, length-replicate}
use Rattle.bas_ast.specs.declared.program.Name.{Name}
use Rattle.bas_ir.specs.Places.{nothing}
use Rattle.bas_sem.specs.State.{start}
use Rattle.bas_store.specs.Cells.{residents}
use Rattle.bv_base.specs.Bytes.{zeros}
use Rattle.bv_base.specs.Limits as limit
use Rattle.bv_base.specs.MemoryMap.{ram_end, image_start, arena_start, arena_bytes}
use Rattle.bv_base.specs.Words.{word_bytes}
use Rattle.bv_num.specs.Bits.{signed}
use Rattle.bv_base.specs.Limits.{image_words}
use Rattle.bv_base.proofs.Words.{length-flat_map-word_bytes}
use Rattle.bv_base.proofs.Zeros.{length-zeros}
use Rattle.arm2_machine.specs.Machine.{loaded, loaded_ram}
use Rattle.arm_core.proofs.Arena.{byte_of}
use Rattle.arm_core.proofs.Start.{loaded-is}
use Rattle.arm_core.specs.Core.{Core, word, put_word, first_core}
use Rattle.arm_core.proofs.MemoryWords.{byte-put_other}
use Rattle.code_frag.specs.Places.{data_start}
use Rattle.code_frag.specs.Regions.{residents_start, column_at, opened_count_at, depth_at, next_item_at, numbers_end, texts_end, stack_end}
use Rattle.runtime_lib.specs.Opened.{IsApart}
use Rattle.codegen.specs.StandsFor.{Site, IsCell, cell_at, StandsFor}

-- a memory that is 0 in the arena and where data is stored, but for the address of the next item of DATA
pub record IsClear (m : ℕ → ℕ) : Type 0 where
  pub arena : (k : ℕ) → k < arena_bytes → m (arena_start + k) ≡ 0
  pub above : (a : ℕ) → data_start ≤ a → a < ram_end → IsApart next_item_at 4 a → m a ≡ 0

-- it stays clear where that is set
pub clear_set : (m : ℕ → ℕ) (x : ℕ) → IsClear m → IsClear (put_word m next_item_at x)
clear_set m x clear = record {
  arena = λ k low. byte-put_other m next_item_at x (arena_start + k) (inl (omega (arith, low))) ∙ clear.arena k low;
  above = λ a low high apart. byte-put_other m next_item_at x a apart ∙ clear.above a low high apart;
}

-- the memory of a loaded image is clear
zero_in : (n i : ℕ) → slice_index (zeros n) i ≡ 0
unfolding zeros
zero_in n i = by (cases_lt i n)
  where
    by : (i < n) ⊎ (n ≤ i) → slice_index (zeros n) i ≡ 0
    by (inl low) = get_or-replicate n i 0 0 low
    by (inr high) = get_or_past (zeros n) i 0 (omega (arith, high, length-zeros n))

ram_arena : (words : List ℕ) (k : ℕ) → k < arena_bytes → slice_index (loaded_ram words) (arena_start + k) ≡ 0
unfolding loaded_ram
ram_arena words k low =
    get_or-append (zeros image_start) (flat_map word_bytes words ++ zeros (ram_end - image_start - 4 * length words)) 0 (arena_start + k) (omega (arith, low, length-zeros image_start)) ∙ zero_in image_start (arena_start + k)

ram_above : (words : List ℕ) (a : ℕ) → length words ≤ image_words → data_start ≤ a → slice_index (loaded_ram words) a ≡ 0
unfolding loaded_ram
ram_above words a few high =
    let long = length-flat_map-word_bytes words in
    get_or-append_right (zeros image_start) (flat_map word_bytes words ++ zeros (ram_end - image_start - 4 * length words)) image_start a 0 (length-zeros image_start) (omega (arith, high))
    ∙ get_or-append_right (flat_map word_bytes words) (zeros (ram_end - image_start - 4 * length words)) (4 * length words) (a - image_start) 0 long (omega (arith, high, few))
    ∙ zero_in (ram_end - image_start - 4 * length words) (a - image_start - 4 * length words)

pub loaded_clear : (words input : List ℕ) → length words ≤ image_words → ((k : ℕ) → slice_index input k < 2 ^ 8) → IsClear (first_core words input).mem
loaded_clear words input few bytes =
    let is = loaded-is words input few bytes in
    record {
      arena = λ k low. sym (byte_of (first_core words input) image_start (loaded words input) is (arena_start + k)) ∙ ram_arena words k low;
      above = λ a low high apart. sym (byte_of (first_core words input) image_start (loaded words input) is a) ∙ ram_above words a few low;
    }

-- its words are 0 there
word-clear : (m : ℕ → ℕ) (a : ℕ) → IsClear m → data_start ≤ a → a + 4 ≤ ram_end → (a + 4 ≤ next_item_at) ⊎ (next_item_at + 4 ≤ a) → word m a ≡ 0
word-clear m a clear low high apart =
    let zero_more : a + 0 ≡ a = omega arith in
    let first = sym (ap m zero_more) ∙ at 0 (omega arith) in
    let second = at 1 (omega arith) in
    let third = at 2 (omega arith) in
    let fourth = at 3 (omega arith) in
    omega (arith, first, second, third, fourth)
  where
    away : (k : ℕ) → k < 4 → (a + 4 ≤ next_item_at) ⊎ (next_item_at + 4 ≤ a) → IsApart next_item_at 4 (a + k)
    away k few (inl below) = inl (omega (arith, few, below))
    away k few (inr above) = inr (omega (arith, above))

    at : (k : ℕ) → k < 4 → m (a + k) ≡ 0
    at k few = clear.above (a + k) (omega (arith, low)) (omega (arith, few, high)) (away k few apart)

-- where a run begins
pub stands_start : (site : Site) (names : List Name) (input : List ℕ) (steps : ℕ) (s : Core) → length names ≤ limit.names → IsClear s.mem → word s.mem next_item_at ≡ site.table.address 0 → s.out ≡ [] → s.regs 11 ≡ residents_start → s.regs 13 ≡ stack_end → s.regs 12 ≡ numbers_end → s.regs 9 ≡ texts_end
    → StandsFor site nothing (start names input steps) s
stands_start site names input steps s few clear next out base stack numbers texts = record {
  holds = record {
    base_is = base;
    stack_is = stack;
    has_residents = record {
      count = length-replicate residents (pos 0);
      each = λ index low. ap signed (word-clear s.mem (residents_start + 4 * index) clear (omega arith) (omega (arith, low)) (inl (omega (arith, low)))) ∙ sym (get_or-replicate residents index (pos 0) (pos 0) low);
    };
    has_integers = record {
      few = omega (arith, few, length-replicate {A = Option ℤ} (length names) None);
      each = λ name low.
          let inside : name < length names = omega (arith, low, length-replicate {A = Option ℤ} (length names) None) in
          subst (λ v. IsCell (word s.mem (cell_at name + 4)) (signed (word s.mem (cell_at name))) v) (sym (get_or-replicate (length names) name None None inside)) (word-clear s.mem (cell_at name + 4) clear (omega arith) (omega (arith, inside, few)) (inr (omega arith)), ap signed (word-clear s.mem (cell_at name) clear (omega arith) (omega (arith, inside, few)) (inr (omega arith))));
    };
    has_opened = record { count = word-clear s.mem opened_count_at clear (omega arith) (omega arith) (inl (omega arith)); few = omega arith; entries = tt };
    depth = word-clear s.mem depth_at clear (omega arith) (omega arith) (inl (omega arith));
    column = word-clear s.mem column_at clear (omega arith) (omega arith) (inl (omega arith));
    column_small = omega arith;
    few_taken = omega arith;
    next_item = next;
    has_arena = record { count = length-zeros arena_bytes; each = λ k low. clear.arena k low ∙ sym (zero_in arena_bytes k) };
    out_is = out;
    unhandled = refl;
  };
  numbers = numbers;
  texts = texts;
}
