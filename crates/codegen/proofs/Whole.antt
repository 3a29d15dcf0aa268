-- The image of a flat code agrees with it: on every input, the board ends exactly where the flat machine does.
use Rattle.std.proofs.Common.{◌≡◌, ℕ, zero, suc, ◌+◌, ◌-◌, ◌*◌, ◌^◌, ◌<◌, ◌≤◌, ◌⊎◌, inl, inr, Bool, true, false, ℤ, List, [], ◌∷◌, ◌++◌, length, take, flat_map, Option, Some, None, slice_index, slice_index_or, refl, sym, ap, subst, ◌∙◌, arith}
use Rattle.std.specs.List.{AllByRecursion}
use Rattle.std.specs.Prelude.{slice_get}
use Rattle.std.proofs.Math.ListN.{get_or-append}
use Rattle.std.proofs.Math.Seq.{take-length}
use Rattle.std.proofs.lemmas.Bool.{cases_lt}
use Rattle.std.proofs.lemmas.List.{get_or_past, get_or-append_right, length-append, length-replicate}
use Rattle.bas_ir.specs.declared.ir.Ir.{Ir}
use Rattle.bas_ir.specs.declared.op.Op.{Op}
use Rattle.bas_ir.specs.Machine.{flat_run}
use Rattle.bas_ir.specs.Places.{nothing, start_of, marks_in, item_from, is_marked}
use Rattle.bas_ir.specs.WellFormed.{IsLaidOut}
use Rattle.bas_sem.specs.State.{start}
use Rattle.bv_base.specs.Limits as limit
use Rattle.bv_base.specs.Limits.{file_bytes, image_words}
use Rattle.bv_base.specs.MemoryMap.{image_start}
use Rattle.bv_run.specs.Outcome.{Outcome, RunsAgree}
use Rattle.bv_run.specs.Outcome as outcomes
use Rattle.bv_run.proofs.Agreement as agreement
use Rattle.bv_run.proofs.Agreement.{grows_run, agree_from}
use Rattle.bv_run.proofs.RunLaws.{Leads, leads-leads}
use Rattle.arm2_machine.specs.Machine.{Machine, loaded, arena_of}
use Rattle.arm2_machine.specs.Step.{board_step, board_run}
use Rattle.arm_isa.proofs.ImmediateLaws.{gives_byte_2}
use Rattle.arm_core.specs.Core.{Core, IsAt, word, put_word, first_core}
use Rattle.arm_core.proofs.MemoryWords.{word-put_same}
use Rattle.arm_core.proofs.Start.{loaded-is}
use Rattle.code_frag.specs.Demands as demands
use Rattle.code_frag.specs.Demands.{Out, Post, Leaves, ToLabel, Owes}
use Rattle.code_frag.specs.Language.{Leave, items, size}
use Rattle.code_frag.specs.Places.{data_start}
use Rattle.code_frag.specs.Regions.{error_texts_start, residents_start, next_item_at, numbers_end, texts_end, stack_end}
use Rattle.code_frag.specs.Runs.{Stands, IsCode, SameCode, Comes, Moved}
use Rattle.code_frag.specs.Words.{FragState, IsFrag, words_of}
use Rattle.code_frag.proofs.Branches.{stands_front, stands_after}
use Rattle.code_frag.proofs.JoinLaws.{stands_shifted}
use Rattle.code_frag.proofs.Loaded.{image_stands}
use Rattle.code_frag.proofs.RowLaws.{row_leads}
use Rattle.code_frag.proofs.Rules.{set_then}
use Rattle.code_frag.proofs.Sound.{sound}
use Rattle.code_frag.proofs.WordLaws.{label_address, length-words_of}
use Rattle.runtime_lib.specs.Data.{end_mark}
use Rattle.runtime_lib.specs.Entries.{bytes_from, error_table}
use Rattle.runtime_lib.specs.Library.{library, LibraryStands}
use Rattle.runtime_lib.proofs.LibraryLaws.{library_meets}
use Rattle.codegen.specs.Agrees.{AreBytes, Agrees}
use Rattle.codegen.specs.Fitting.{CanGenerate}
use Rattle.codegen.specs.Operations.{main_label, item_label, op_code}
use Rattle.codegen.specs.Program.{program, all_texts, number_of_item, data_bytes, first_item, raiser, prologue, last_piece, named, named_text, named_at, op_size, ops_size, all_op_items, library_place, branches_place, branches_start, raise_place, main_place, op_place, text_address, text_bytes}
use Rattle.codegen.specs.StandsFor.{IsText, IsItemAt, HasItems, IsSite}
use Rattle.codegen.proofs.Arriving.{CodeAsks, CodeDoes, load_then}
use Rattle.codegen.proofs.DataOps.{restore_end}
use Rattle.codegen.proofs.Bound.{program-bound}
use Rattle.codegen.proofs.Image.{PartsStand, parts_stand, length-program, whole-size, branch_stands, main-address, raise-address, routine-address, item-address, end-address}
use Rattle.codegen.proofs.PlacedOps.{used-suc, used-le, length-op_items, op_stands}
use Rattle.codegen.proofs.Running as running
use Rattle.codegen.proofs.Running.{made_some, follow_run}
use Rattle.codegen.proofs.Simulate as simulate
use Rattle.codegen.proofs.Simulate.{Placed, table_of, site_at}
use Rattle.codegen.proofs.Start.{IsClear, clear_set, loaded_clear, stands_start}
use Rattle.codegen.proofs.Texts.{packed_in, front_in, byte_in, HasText, text_in, length-packed}

-- ---- where everything is

-- what is written where the output is as it was
nothing_more : (out more : List ℕ) → out ≡ out ++ more → more ≡ []
nothing_more [] more e = sym e
nothing_more (x ∷ out) more e = nothing_more out more (cc e)

-- the place after all items is that after all operations
end_place : (ir : Ir) (item : ℕ) → length ir.starts ≤ item → start_of ir item ≡ length ir.ops
unfolding start_of
end_place ir item high = get_or_past ir.starts item (length ir.ops) high

-- the library has more than 256 bytes
library-long : 64 ≤ length library.items
unfolding library
library-long = omega arith

-- the bytes of some texts are no more than those of all
taken-le : (texts : List (List ℕ)) (number : ℕ) → length (flat_map text_bytes (take number texts)) ≤ length (flat_map text_bytes texts)
taken-le [] zero = omega arith
taken-le [] (suc number) = omega arith
taken-le (text ∷ texts) zero = omega arith
taken-le (text ∷ texts) (suc number) =
    let some = length-append (text_bytes text) (flat_map text_bytes (take number texts)) in
    let all = length-append (text_bytes text) (flat_map text_bytes texts) in
    let rest = taken-le texts number in
    omega (arith, some, all, rest)

-- those with one more have its bytes more
taken_more : (texts : List (List ℕ)) (number : ℕ) → number < length texts
    → length (flat_map text_bytes (take (suc number) texts)) ≡ length (flat_map text_bytes (take number texts)) + 1 + length (slice_index_or texts number [])
taken_more [] number low = absurd (omega (arith, low))
taken_more (text ∷ texts) zero low = let all = length-append (text_bytes text) [] in omega (arith, all)
taken_more (text ∷ texts) (suc number) low =
    let all = length-append (text_bytes text) (flat_map text_bytes (take (suc number) texts)) in
    let some = length-append (text_bytes text) (flat_map text_bytes (take number texts)) in
    let rest = taken_more texts number (omega (arith, low)) in
    omega (arith, all, some, rest)

-- each of some short texts is short
each_short : (texts : List (List ℕ)) (k : ℕ) → AllByRecursion (λ text. length text ≤ limit.longest_text) texts → k < length texts → length (slice_index_or texts k []) ≤ limit.longest_text
each_short [] k short low = absurd (omega (arith, low))
each_short (text ∷ texts) zero short low = short.0
each_short (text ∷ texts) (suc k) short low = each_short texts k short.1 (omega (arith, low))

-- some of the marks are no more than all
marks-taken : (xs : List Bool) (k : ℕ) → marks_in (take k xs) ≤ marks_in xs
marks-taken [] zero = omega arith
marks-taken [] (suc k) = omega arith
marks-taken (x ∷ xs) zero = omega arith
marks-taken (true ∷ xs) (suc k) = let rest = marks-taken xs k in omega (arith, rest)
marks-taken (false ∷ xs) (suc k) = marks-taken xs k

-- the first mark is among the first ones
first_counted : (xs : List Bool) (k : ℕ) → slice_index_or xs 0 false ≡ true → 1 ≤ marks_in (take (suc k) xs)
first_counted [] k is = absurd (cc is)
first_counted (true ∷ xs) k is = omega arith
first_counted (false ∷ xs) k is = absurd (cc is)

module _ (ir : Ir) (can : CanGenerate ir) (code : ℕ → ℕ) (good : (b : ℕ) → code b < 2 ^ 8) (bytes : AreBytes (data_bytes ir)) (few : length (program ir).items ≤ image_words)
    (h : Stands (program ir).items code (label_address (program ir).places image_start) image_start) where
  abbrev entry : ℕ → ℕ
  entry = label_address (program ir).places image_start

  parts : PartsStand ir code entry image_start
  parts = parts_stand ir code entry image_start h

  laid : IsLaidOut ir
  laid = can.well_formed.laid_out

  -- all of it ends before the data
  last_within : op_place ir (length ir.ops) + 2 ≤ image_words
  last_within = let n = length-program ir laid.marks in omega (arith, n, few)

  next : (pc : ℕ) (x : Op) → slice_get ir.ops pc ≡ Some x → op_place ir (suc pc) ≡ op_place ir pc + op_size x
  next pc x there = let u = used-suc ir.ops pc x there in omega (arith, u)

  within : (pc : ℕ) → op_place ir pc ≤ op_place ir (length ir.ops)
  within pc =
      let some = used-le ir.ops pc in
      let whole = whole-size ir.ops in
      omega (arith, some, whole)

  -- code lies where it may
  lies_at : (place n : ℕ) → place + n ≤ image_words → IsCode (image_start + 4 * place) n
  lies_at place n inside = record { low = omega arith; aligned = omega arith; high = omega (arith, inside) }

  stands : (pc : ℕ) (x : Op) → slice_get ir.ops pc ≡ Some x → Stands (items (op_code (named_at ir pc x) x)) code entry (image_start + 4 * op_place ir pc)
  unfolding item_from
  stands pc x there =
      let begins = image_start + 4 * (main_place ir + size (prologue (first_item ir))) in
      let counted : 0 + marks_in (take (suc pc) ir.marks) ≡ marks_in (take (suc pc) ir.marks) = omega arith in
      subst (Stands (items (op_code (named_at ir pc x) x)) code entry) (let e : begins + 4 * ops_size (take pc ir.ops) ≡ image_start + 4 * op_place ir pc = omega arith in e)
      (subst (λ n. Stands (items (op_code (named (named_text ir x) (branches_start ir) n) x)) code entry (begins + 4 * ops_size (take pc ir.ops))) counted
      (op_stands (named_text ir) (branches_start ir) ir.ops ir.marks 0 (items last_piece) code entry begins pc x laid.marks there parts.ops))

  last_stands : Stands (items last_piece) code entry (image_start + 4 * op_place ir (length ir.ops))
  last_stands =
      let own = length-op_items (named_text ir) (branches_start ir) ir.ops ir.marks 0 laid.marks in
      let whole = whole-size ir.ops in
      subst (Stands (items last_piece) code entry) (omega (arith, own, whole))
      (stands_after (all_op_items ir) (items last_piece) code entry (image_start + 4 * (main_place ir + size (prologue (first_item ir)))) parts.ops)

  -- the branches to items come before the program, and end before the data
  branches_within : branches_place ir + (length ir.starts + 1) ≤ image_words
  branches_within =
      let a = within 0 in
      let b = last_within in
      let n = can.in_items.marked in
      omega (arith, a, b, n)

  branch_there : (item : ℕ) → item ≤ length ir.starts → Stands (items (Leave (item_label item))) code entry (branches_start ir + 4 * item)
  branch_there item low =
      let n = can.in_items.marked in
      subst (λ k. Stands (items (Leave (item_label k))) code entry (branches_start ir + 4 * item)) (let e : 0 + item ≡ item = omega arith in e)
      (branch_stands (marks_in ir.marks + 1) 0 item code entry (branches_start ir) (omega (arith, low, n)) parts.branches)

  -- there is an item where there is an operation, and it begins at the first one
  some_item : (pc : ℕ) (x : Op) → slice_get ir.ops pc ≡ Some x → 0 < length ir.starts
  some_item pc x there = by (cases_lt 0 (length ir.starts))
    where
      some_op : (ops : List Op) (k : ℕ) → slice_get ops k ≡ Some x → 0 < length ops
      some_op [] k e = absurd (cc e)
      some_op (y ∷ ops) k e = omega arith

      by : (0 < length ir.starts) ⊎ (length ir.starts ≤ 0) → 0 < length ir.starts
      by (inl some) = some
      by (inr none) = let e = end_place ir 0 none in let first = can.in_items.first in let some = some_op ir.ops pc there in absurd (omega (arith, e, first, some))

  first_marked : (pc : ℕ) (x : Op) → slice_get ir.ops pc ≡ Some x → is_marked ir 0 ≡ true
  first_marked pc x there = subst (λ k. is_marked ir k ≡ true) can.in_items.first (laid.starts 0 (some_item pc x there)).0

  -- items begin at their labels
  item_begins : (item : ℕ) → item ≤ length ir.starts → entry (item_label item) ≡ image_start + 4 * op_place ir (start_of ir item)
  item_begins item there = by (cases_lt item (length ir.starts))
    where
      by : (item < length ir.starts) ⊎ (length ir.starts ≤ item) → entry (item_label item) ≡ image_start + 4 * op_place ir (start_of ir item)
      by (inl low) =
          let marked = laid.starts item low in
          item-address ir image_start item laid.marks (start_of ir item) marked.0 marked.1 (let n = can.in_items.marked in omega (arith, low, n))
      by (inr high) =
          let n = can.in_items.marked in
          ap (λ k. entry (item_label k)) (let e : item ≡ marks_in ir.marks = omega (arith, n, high, there) in e) ∙ end-address ir image_start laid.marks
          ∙ ap (λ k. image_start + 4 * op_place ir k) (sym (end_place ir item high))

  -- the library stands after the texts
  library_stands : LibraryStands code entry (image_start + 4 * library_place ir) 1
  library_stands =
      let a = within 0 in
      let b = last_within in
      record {
        lies = lies_at (library_place ir) (length library.items) (omega (arith, a, b));
        stands = stands_shifted library.items 1 code entry (image_start + 4 * library_place ir) parts.routines;
        entries = λ label low. routine-address ir image_start label low;
      }

  texts_in : bytes_from code error_texts_start (length (data_bytes ir)) ≡ data_bytes ir
  texts_in = packed_in code entry good (data_bytes ir) error_texts_start bytes parts.texts

  -- texts end before the data, with 256 bytes after each
  text-high : (number : ℕ) → text_address ir number + 256 ≤ data_start
  text-high number =
      let some = taken-le (all_texts ir) number in
      let all = length-append (error_table ++ flat_map text_bytes (all_texts ir)) (end_mark ∷ []) in
      let front = length-append error_table (flat_map text_bytes (all_texts ir)) in
      let words = length-packed (data_bytes ir) in
      let a = within 0 in
      let b = last_within in
      omega (arith, some, all, front, words, a, b, library-long)

  -- each is in memory
  text_there : (number : ℕ) → number < length (all_texts ir) → HasText code (text_address ir number) (slice_index_or (all_texts ir) number [])
  text_there number low = text_in code error_table (all_texts ir) number error_texts_start low (front_in code (error_table ++ flat_map text_bytes (all_texts ir)) (end_mark ∷ []) error_texts_start texts_in)

  literal : (number : ℕ) → number < length ir.texts → IsText code (text_address ir number) (slice_index_or ir.texts number [])
  literal number low = record {
    low = omega arith;
    high = text-high number;
    is = (text_there number (let all = length-append ir.texts ir.data_items in omega (arith, low, all))).is ∙ get_or-append ir.texts ir.data_items [] number low;
  }

  -- and so is an item of DATA, before the next one
  item_there : (k : ℕ) → k < length ir.data_items → IsItemAt code (table_of ir) k
  item_there k low =
      let number = number_of_item ir k in
      let all = length-append ir.texts ir.data_items in
      let there = text_there number (omega (arith, low, all)) in
      let item : slice_index_or (all_texts ir) number [] ≡ slice_index_or ir.data_items k [] = get_or-append_right ir.texts ir.data_items (length ir.texts) number [] refl (omega arith) ∙ ap (λ n. slice_index_or ir.data_items n []) (let e : number - length ir.texts ≡ k = omega arith in e) in
      let short = each_short ir.data_items k can.short_data low in
      let more = taken_more (all_texts ir) number (omega (arith, low, all)) in
      record {
        is = there.is ∙ item;
        count = there.count ∙ ap length item;
        short = omega (arith, short);
        next = (let after : number_of_item ir (suc k) ≡ suc number = omega arith in ap (text_address ir) after ∙ (let n = ap length item in omega (arith, more, n)));
      }

  has_items : HasItems code (table_of ir)
  has_items = record {
    low = λ k few. omega arith;
    high = λ k few. text-high (number_of_item ir k);
    each = item_there;
    ends =
        ap code (let e : text_address ir (number_of_item ir (length ir.data_items)) ≡ error_texts_start + length (error_table ++ flat_map text_bytes (all_texts ir)) = (
        let all = length-append ir.texts ir.data_items in
        let front = length-append error_table (flat_map text_bytes (all_texts ir)) in
        let whole = ap (λ l. length (flat_map text_bytes l)) (ap (λ n. take n (all_texts ir)) (sym all) ∙ take-length (all_texts ir)) in
        omega (arith, front, whole)) in e)
        ∙ byte_in code (error_table ++ flat_map text_bytes (all_texts ir)) end_mark error_texts_start texts_in;
  }

  site : (pc : ℕ) (x : Op) → slice_get ir.ops pc ≡ Some x → IsSite (site_at ir code pc)
  unfolding item_from is_marked
  site pc x there = record {
    low = omega arith;
    aligned = omega arith;
    high = (let w = branches_within in omega (arith, w));
    after = first_counted ir.marks pc (first_marked pc x there);
    within = (let some = marks-taken ir.marks (suc pc) in let n = can.in_items.marked in omega (arith, some, n));
    has_items = has_items;
  }

  placed : Placed ir code entry image_start
  placed = record {
    stands = stands;
    lies = λ pc x there. lies_at (op_place ir pc) (op_size x) (let n = next pc x there in let w = within (suc pc) in let l = last_within in omega (arith, n, w, l));
    next = next;
    last_stands = last_stands;
    last_lies = lies_at (op_place ir (length ir.ops)) 2 last_within;
    raise_stands = subst (Stands (items raiser) code entry) (sym (raise-address ir image_start)) parts.raising;
    raise_lies = subst (λ a. IsCode a (size raiser)) (sym (raise-address ir image_start)) (lies_at (raise_place ir) 1 (let a = within 0 in let b = last_within in omega (arith, a, b)));
    item = item_begins;
    branch_stands = branch_there;
    branch_lies = λ item low. subst (λ a. IsCode a 1) (let e : image_start + 4 * (branches_place ir + item) ≡ branches_start ir + 4 * item = omega arith in e) (lies_at (branches_place ir + item) 1 (let w = branches_within in omega (arith, low, w)));
    sites = site;
    meets = λ label low. library_meets code entry (image_start + 4 * library_place ir) 1 library_stands label low;
    literals = literal;
    error_texts = front_in code error_table (flat_map text_bytes (all_texts ir)) error_texts_start (front_in code (error_table ++ flat_map text_bytes (all_texts ir)) (end_mark ∷ []) error_texts_start texts_in);
  }

  -- ---- the beginning

  -- the registers that code keeps, and the first item of DATA, where the program begins
  record Begun (s t : Core) : Type 0 where
    base : t.regs 11 ≡ residents_start
    numbers : t.regs 12 ≡ numbers_end
    texts : t.regs 9 ≡ texts_end
    stack : t.regs 13 ≡ stack_end
    mem : t.mem ≡ put_word s.mem next_item_at (first_item ir)
    out : t.out ≡ s.out

  abbrev Ready : Core → Post
  Ready s o t = (o ≡ demands.Falls) × Begun s t

  first_small : first_item ir < 2 ^ 32
  first_small = let high = text-high (number_of_item ir 0) in omega (arith, high)

  prologue_owes : (s : Core) → Owes CodeAsks CodeDoes (prologue (first_item ir)) (Ready s) s
  prologue_owes s =
      let g = gives_byte_2 0x90 (omega arith) in
      set_then residents_start refl g.value
      (load_then 12 numbers_end (omega arith)
      (load_then 9 texts_end (omega arith)
      (load_then 13 stack_end (omega arith)
      (restore_end (first_item ir) first_small refl (refl, record { base = refl; numbers = refl; texts = refl; stack = refl; mem = refl; out = refl })))))

  abbrev Jumped : Core → Post
  Jumped s o t = (o ≡ Leaves (ToLabel main_label)) × (t ≡ s)

  -- the board where the program begins, some steps after its start
  record Ahead (s : Core) (m : Machine) : Type 0 where
    core : Core
    machine : Machine
    leads : Leads board_step m machine []
    is : IsAt core (image_start + 4 * op_place ir 0) machine
    begun : Begun s core
    same : SameCode code core.mem

  ahead : (s : Core) (m : Machine) → SameCode code s.mem → IsAt s image_start m → Ahead s m
  ahead s m same is =
      let first = sound code entry CodeAsks CodeDoes (Leave main_label) refl tt (Jumped s) image_start s m (subst (λ a. IsCode a 1) (let e : image_start + 4 * 0 ≡ image_start = omega arith in e) (lies_at 0 1 (let a = within 0 in let b = last_within in omega (arith, a, b))))
      (stands_front (items (Leave main_label)) (items (Leave main_label) ++ items (Leave main_label)) code entry image_start parts.begin) same is (refl, refl) in
      let there : IsAt first.end (entry main_label) first.machine = subst (λ o. Comes entry o (image_start + 4 * 1) first.end first.machine) first.holds.0 first.comes in
      let main = main-address ir image_start in
      let at_main : IsAt first.end (image_start + 4 * main_place ir) first.machine = subst (λ a. IsAt first.end a first.machine) main there in
      let second = sound code entry CodeAsks CodeDoes (prologue (first_item ir)) refl tt (Ready first.end) (image_start + 4 * main_place ir) first.end first.machine (lies_at (main_place ir) (size (prologue (first_item ir))) (let a = within 0 in let b = last_within in omega (arith, a, b)))
      parts.main first.same at_main (prologue_owes first.end).by in
      let here : IsAt second.end (image_start + 4 * main_place ir + 4 * size (prologue (first_item ir))) second.machine = subst (λ o. Comes entry o (image_start + 4 * main_place ir + 4 * size (prologue (first_item ir))) second.end second.machine) second.holds.0 second.comes in
      let b = second.holds.1 in
      let as_it_was = first.holds.1 in
      let some : 0 < length first.places = subst (λ o. Moved o first.places) first.holds.0 first.moved in
      let more = made_some second.places first.machine second.machine second.bytes first.end second.end (image_start + 4 * main_place ir) (image_start + 4 * main_place ir + 4 * size (prologue (first_item ir))) second.row at_main here (omega arith) in
      let none_first : first.bytes ≡ [] = nothing_more s.out first.bytes (sym (ap (λ c. c.out) as_it_was) ∙ first.writes) in
      let none_second : second.bytes ≡ [] = nothing_more first.end.out second.bytes (sym b.out ∙ second.writes) in
      record {
        core = second.end;
        machine = second.machine;
        leads = leads-leads board_step m first.machine second.machine [] [] (subst (Leads board_step m first.machine) none_first (row_leads first.places m first.machine first.bytes first.row some))
            (subst (Leads board_step first.machine second.machine) none_second (row_leads second.places first.machine second.machine second.bytes second.row more));
        is = subst (λ a. IsAt second.end a second.machine) (omega arith) here;
        begun = record { base = b.base; numbers = b.numbers; texts = b.texts; stack = b.stack; mem = b.mem ∙ ap (λ c. put_word c.mem next_item_at (first_item ir)) as_it_was; out = b.out ∙ ap (λ c. c.out) as_it_was };
        same = second.same;
      }

-- ---- agreement

-- what follows from the board's machine follows from its run
as_run : (n : ℕ) (o : Outcome) (m : Machine) → simulate.Follows (suc n) o m [] → agreement.Follows n o (simulate.board_from m [])
as_run n (outcomes.Over out arena report) m f = f
as_run n (outcomes.Going out arena) m f = (f.0, (let few = f.1 in omega (arith, few)), f.2)
as_run n (outcomes.Broken out arena kind address) m f = f

pub image_agrees : (ir : Ir) → CanGenerate ir → AreBytes (data_bytes ir) → IsFrag (program ir) → length (program ir).items ≤ image_words → (input : List ℕ) → ((k : ℕ) → slice_index input k < 2 ^ 8)
    → RunsAgree (flat_run ir input) (board_run (words_of (program ir)) input)
unfolding flat_run
image_agrees ir can bytes frag few input small =
    let words = words_of (program ir) in
    let many = length-words_of (program ir) in
    let s = first_core words input in
    let m = loaded words input in
    let is = loaded-is words input (omega (arith, many, few)) small in
    let h = image_stands (program ir) input frag few small in
    let clear = loaded_clear words input (omega (arith, many, few)) small in
    let a = ahead ir can s.mem is.good.mem bytes few h s m (record { kept = λ b low high. refl }) is in
    let p = placed ir can s.mem is.good.mem bytes few h in
    let entry = label_address (program ir).places image_start in
    let first = running.start_height ir s.mem entry image_start can p 0 (omega arith) in
    let start_at = can.in_items.first in
    let follows : (n : ℕ) → agreement.Follows n (flat_run ir input n) (board_run words input) = λ n.
    as_run n (flat_run ir input n) m
    (simulate.later n (flat_run ir input n) m a.machine [] [] a.leads
    (follow_run ir s.mem entry image_start can p n (start_of ir 0) nothing (start ir.names input (2 * n)) a.core a.machine [] (record {
      inside = first.0;
      heights = first.1;
      names = length-replicate {A = Option ℤ} (length ir.names) None;
      entries = tt;
      same = a.same;
      stands_for = stands_start (site_at ir s.mem (start_of ir 0)) ir.names input (2 * n) a.core (can.well_formed.few_names) (subst IsClear (sym a.begun.mem) (clear_set s.mem (first_item ir) clear)) (ap (λ k. word k next_item_at) a.begun.mem ∙ word-put_same s.mem next_item_at (first_item ir) (first_small ir can s.mem is.good.mem bytes few h)) a.begun.out a.begun.base a.begun.stack a.begun.numbers a.begun.texts;
      is = subst (λ k. IsAt a.core (image_start + 4 * op_place ir k) a.machine) (sym start_at) a.is;
      written = a.begun.out;
    }) (omega arith))) in
    agree_from (flat_run ir input) (board_run words input) (grows_run (λ k. arena_of k.ram) board_step m []) follows

-- an image is short enough
pub short-enough : (ir : Ir) → CanGenerate ir → ir.size ≤ file_bytes → length (program ir).items ≤ image_words
short-enough ir can small =
    let bound = program-bound ir can.well_formed.laid_out.marks can.in_items.marked in
    let short = can.well_formed.short in
    omega (arith, bound, short, small)

byte_at : (bytes : List ℕ) (k : ℕ) → AreBytes bytes → slice_index bytes k < 2 ^ 8
byte_at [] k each = omega arith
byte_at (b ∷ bytes) zero each = each.0
byte_at (b ∷ bytes) (suc k) each = byte_at bytes k each.1

-- the words of an image agree with the flat code
pub words_agree : (ir : Ir) (f : FragState) (words : List ℕ) → CanGenerate ir → AreBytes (data_bytes ir) → IsFrag f → f ≡ program ir → words ≡ words_of f → ir.size ≤ file_bytes → Agrees (flat_run ir) words
words_agree ir f words can bytes frag is_program is_words small input input_bytes =
    let is : words ≡ words_of (program ir) = is_words ∙ ap words_of is_program in
    subst (λ ws. RunsAgree (flat_run ir input) (board_run ws input)) (sym is)
    (image_agrees ir can bytes (subst IsFrag is_program frag) (short-enough ir can small) input (λ k. byte_at input k input_bytes))
