-- A program that the lines of a file are is well formed.
use Rattle.std.proofs.Common.{◌≡◌, ℕ, ◌+◌, ◌≤◌, Bool, true, false, List, [], ◌∷◌, ◌++◌, length, flat_map, map, sum_by, slice_get, slice_range, Option, Some, None, if◌then◌else◌, refl, sym, ap, subst, ◌∙◌, append_assoc, length-append, arith}
use Rattle.std.specs.List.{AllByRecursion, range_with_len}
use Rattle.std.proofs.lemmas.List.{append-nil}
use Rattle.std.proofs.lemmas.List.Concat.{flat_map-cons}
use Rattle.std.proofs.lemmas.List.Elements.{All-from_recursion}
use Rattle.std.proofs.lemmas.List.Sums.{sum_by-cons, sum-map}
use Rattle.bv_base.specs.Limits as limit
use Rattle.token_file.specs.declared.line.Line.{Line}
use Rattle.bas_lex.specs.declared.symbol.Sym.{Sym}
use Rattle.bas_lex.specs.Cut.{Symbols, AreInOrder, IsFilled}
use Rattle.bas_lex.proofs.Order.{spans_in_order, symbols_filled, symbols_count}
use Rattle.bas_ast.specs.declared.program.DataItem.{DataItem}
use Rattle.bas_ast.specs.declared.program.Name.{Name}
use Rattle.bas_ast.specs.declared.program.Prog.{Prog}
use Rattle.bas_ast.specs.declared.program.ProgLine.{ProgLine}
use Rattle.bas_ast.specs.declared.terminals.Terminal.{Terminal}
use Rattle.bas_ast.specs.declared.terminals.Terminal.TheVariants as t
use Rattle.bas_ast.specs.WellFormed.{IsNamed, AreLinesOf, literals, weight, IsDataOf, WellFormed}
use Rattle.expr_parse.specs.Terminals.{terminals_of}
use Rattle.profile_check.specs.Cutting.{Cut, IsCut, with_symbols}
use Rattle.bas_rules.specs.Names.{name_of}
use Rattle.profile_check.specs.Programs.{AreLines, IsProgram, labels_of, numbered}
use Rattle.profile_check.specs.Tables.{Lists, NumberedLine, no_lists, number_name, number_terminal, number_line, is_data}
use Rattle.bas_rules.specs.Texts.{pieces_from, data_item}
use Rattle.profile_check.proofs.DataTails.{data_numbers, run_data}
use Rattle.profile_check.proofs.NameTables.{Keeps, Distinct, line_names}
use Rattle.profile_check.proofs.LineTexts.{IsDataFrom, range_joined, data_of_items, line_literals, line_data}
use Rattle.profile_check.proofs.LineSizes.{item_weight, lists_weight, tail_short, line_weighs, line_count}
use Rattle.profile_check.proofs.ShortTexts.{part_short, texts_short}

-- ---- the symbols of lines

-- What is known of a line's symbols.
pub record IsCutLine (most : ℕ) (cut : Cut) : Type 0 where
  pub order : AreInOrder 0 cut.symbols (length cut.text)
  pub filled : AllByRecursion IsFilled cut.symbols
  pub count : length cut.symbols ≤ length cut.text + 1
  pub short : length cut.text ≤ most

cuts_are : (most : ℕ) (asm : Bool) (lines : List Line) (cuts : List Cut) (bad : Option ℕ) → IsCut asm lines cuts bad → AllByRecursion (λ (l : Line). length l.text ≤ most) lines
    → AllByRecursion (IsCutLine most) cuts
cuts_are most asm [] [] bad so all = tt
cuts_are most asm [] (cut ∷ cuts) bad so all = elim so [ ]
cuts_are most asm (line ∷ lines) [] bad so all = tt
cuts_are most asm (line ∷ lines) (cut ∷ cuts) bad so all =
    let is : Symbols asm line.text so.0 so.1 = so.2 in
    let whole : IsCutLine most (with_symbols asm line so.0) = record {
      order = spans_in_order asm so.1 line.text so.0 is;
      filled = symbols_filled asm so.1 line.text so.0 is;
      count = symbols_count asm so.1 line.text so.0 is;
      short = all.0;
    } in
    (subst (IsCutLine most) (sym so.3) whole, cuts_are most so.1 lines cuts bad so.4 all.1)

cut_bytes : Cut → ℕ
cut_bytes cut = 4 + length cut.text

line_bytes : Line → ℕ
line_bytes line = 4 + length line.text

bytes_same : (asm : Bool) (lines : List Line) (cuts : List Cut) → IsCut asm lines cuts None → sum_by cut_bytes cuts ≡ sum_by line_bytes lines
unfolding cut_bytes line_bytes
bytes_same asm [] [] so = refl
bytes_same asm [] (cut ∷ cuts) so = elim so [ ]
bytes_same asm (line ∷ lines) [] so = let none : None ≡ Some line.number = so.2 in cc
bytes_same asm (line ∷ lines) (cut ∷ cuts) so =
    let one : cut_bytes cut ≡ line_bytes line = ap cut_bytes so.3 in
    omega (arith, one, bytes_same so.1 lines cuts so.4, sum_by-cons cut_bytes cut cuts, sum_by-cons line_bytes line lines)

-- the terminals of lines
abbrev pub numbered_lines : List Name → ℕ → Lists → List Cut → List (List Terminal)
numbered_lines labels place lists [] = []
numbered_lines labels place lists (cut ∷ cuts) = (numbered labels place lists cut).terminals ∷ numbered_lines labels (place + 1) (numbered labels place lists cut).lists cuts

-- ---- names

lines_keep : (labels : List Name) (place : ℕ) (lists after : Lists) (cuts : List Cut) (progs : List ProgLine) → AreLines labels place lists cuts progs after → Keeps lists.names after.names
lines_keep labels place lists after [] [] so i name at = subst (λ (l : Lists). slice_get l.names i ≡ Some name) (sym so) at
lines_keep labels place lists after [] (p ∷ progs) so i name at = elim so [ ]
lines_keep labels place lists after (cut ∷ cuts) [] so i name at = elim so [ ]
lines_keep labels place lists after (cut ∷ cuts) (p ∷ progs) so i name at =
    lines_keep labels (place + 1) (numbered labels place lists cut).lists after cuts progs so.2 i name
    ((line_names place cut.text false cut.symbols (terminals_of labels cut.text cut.symbols) lists).keeps i name at)

lines_distinct : (labels : List Name) (place : ℕ) (lists after : Lists) (cuts : List Cut) (progs : List ProgLine) → AreLines labels place lists cuts progs after → Distinct lists.names → Distinct after.names
lines_distinct labels place lists after [] [] so distinct = subst (λ (l : Lists). Distinct l.names) (sym so) distinct
lines_distinct labels place lists after [] (p ∷ progs) so distinct = elim so [ ]
lines_distinct labels place lists after (cut ∷ cuts) [] so distinct = elim so [ ]
lines_distinct labels place lists after (cut ∷ cuts) (p ∷ progs) so distinct =
    lines_distinct labels (place + 1) (numbered labels place lists cut).lists after cuts progs so.2
    ((line_names place cut.text false cut.symbols (terminals_of labels cut.text cut.symbols) lists).distinct distinct)

lines_of : (labels : List Name) (place : ℕ) (lists after : Lists) (cuts : List Cut) (progs : List ProgLine) → AreLines labels place lists cuts progs after → AllByRecursion (IsCutLine limit.longest_text) cuts
    → length after.names ≤ limit.names → AreLinesOf after.names progs (numbered_lines labels place lists cuts)
lines_of labels place lists after [] [] so cut few = tt
lines_of labels place lists after [] (p ∷ progs) so cut few = elim so [ ]
lines_of labels place lists after (cut ∷ cuts) [] so is_cut few = elim so [ ]
lines_of labels place lists after (cut ∷ cuts) (p ∷ progs) so is_cut few =
    let terminals = terminals_of labels cut.text cut.symbols in
    let line : NumberedLine = numbered labels place lists cut in
    let later = lines_keep labels (place + 1) line.lists after cuts progs so.2 in
    let names = line_names place cut.text false cut.symbols terminals lists in (
      record {
        is_run = so.1.is_run;
        few = omega (arith, line_count place cut.text false cut.symbols terminals lists, is_cut.0.count, is_cut.0.short);
        named = All-from_recursion (IsNamed after.names) line.terminals (names.named after.names later few);
      },
      lines_of labels (place + 1) line.lists after cuts progs so.2 is_cut.1 few,
    )

-- ---- string literals

lines_literals : (labels : List Name) (place : ℕ) (lists after : Lists) (cuts : List Cut) (progs : List ProgLine) → AreLines labels place lists cuts progs after
    → (more : ℕ) × (length after.texts ≡ length lists.texts + more) × (flat_map literals (numbered_lines labels place lists cuts) ≡ range_with_len (length lists.texts) more)
lines_literals labels place lists after [] [] so = let same = ap (λ (l : Lists). length l.texts) so in (0, omega (arith, same), refl)
lines_literals labels place lists after [] (p ∷ progs) so = elim so [ ]
lines_literals labels place lists after (cut ∷ cuts) [] so = elim so [ ]
lines_literals labels place lists after (cut ∷ cuts) (p ∷ progs) so =
    let line : NumberedLine = numbered labels place lists cut in
    let first = line_literals place cut.text false cut.symbols (terminals_of labels cut.text cut.symbols) lists in
    let rest = lines_literals labels (place + 1) line.lists after cuts progs so.2 in (
      first.more + rest.0,
      omega (arith, first.after_is, rest.1),
      flat_map-cons literals line.terminals (numbered_lines labels (place + 1) line.lists cuts)
          ∙ ap (λ (l : List ℕ). l ++ flat_map literals (numbered_lines labels (place + 1) line.lists cuts)) first.are
          ∙ ap (λ (l : List ℕ). range_with_len (length lists.texts) first.more ++ l) (rest.2 ∙ ap (λ (n : ℕ). range_with_len n rest.0) first.after_is)
          ∙ range_joined (length lists.texts) first.more rest.0,
    )

-- ---- items of DATA

lines_data : (labels : List Name) (place : ℕ) (lists after : Lists) (cuts : List Cut) (progs : List ProgLine) → AreLines labels place lists cuts progs after
    → (added : List DataItem) × (after.data_items ≡ lists.data_items ++ added) × IsDataOf place progs (length lists.data_items) added
lines_data labels place lists after [] [] so = ([], ap (λ (l : Lists). l.data_items) so ∙ sym (append-nil lists.data_items), refl)
lines_data labels place lists after [] (p ∷ progs) so = elim so [ ]
lines_data labels place lists after (cut ∷ cuts) [] so = elim so [ ]
lines_data labels place lists after (cut ∷ cuts) (p ∷ progs) so =
    let line : NumberedLine = numbered labels place lists cut in
    let first = line_data place cut.text false cut.symbols (terminals_of labels cut.text cut.symbols) lists in
    let rest = lines_data labels (place + 1) line.lists after cuts progs so.2 in
    let at : length line.lists.data_items ≡ length lists.data_items + length first.added = ap length first.after_is ∙ length-append lists.data_items first.added in
    let next : place + 1 ≡ 1 + place = omega arith in
    let others : IsDataOf (1 + place) progs (length lists.data_items + length first.added) rest.0 =
    subst (λ (k : ℕ). IsDataOf k progs (length lists.data_items + length first.added) rest.0) next (subst (λ (k : ℕ). IsDataOf (place + 1) progs k rest.0) at rest.2) in
    let own : IsDataFrom place (data_numbers p.items) (length lists.data_items) first.added =
    subst (λ (ns : List ℕ). IsDataFrom place ns (length lists.data_items) first.added) (run_data line.terminals p.items so.1.is_run) first.are in (
      first.added ++ rest.0,
      rest.1 ∙ ap (λ (d : List DataItem). d ++ rest.0) first.after_is ∙ append_assoc lists.data_items first.added rest.0,
      data_of_items place p.items (length lists.data_items) first.added rest.0 (IsDataOf (1 + place) progs) own others,
    )

-- ---- short items of DATA

AreShort : ℕ → List DataItem → Type 0
AreShort most items = AllByRecursion (λ (d : DataItem). length d.text ≤ most) items

short_joined : (most : ℕ) (xs ys : List DataItem) → AreShort most xs → AreShort most ys → AreShort most (xs ++ ys)
unfolding AreShort
short_joined most [] ys x y = y
short_joined most (d ∷ xs) ys x y = (x.0, short_joined most xs ys x.1 y)

tail_adds : (most line : ℕ) (in_data : Bool) (bytes : List ℕ) → length bytes ≤ most → AreShort most (if in_data then map (data_item line) (pieces_from false bytes) else [])
unfolding AreShort
tail_adds most line true bytes short = tail_short line most bytes short
tail_adds most line false bytes short = tt

name_adds : (most : ℕ) (c : Terminal) (lists : Lists) (name : Option Name) → AreShort most lists.data_items → AreShort most (number_name c lists name).lists.data_items
name_adds most c lists None all = all
name_adds most c lists (Some name) all = all

terminal_adds : (most line : ℕ) (in_data : Bool) (bytes : List ℕ) (c : Terminal) (lists : Lists) → length bytes ≤ most → AreShort most lists.data_items
    → AreShort most (number_terminal line in_data bytes c lists).lists.data_items
terminal_adds most line in_data bytes (t.Literal n) lists short all = all
terminal_adds most line in_data bytes (t.Tail n) lists short all = short_joined most lists.data_items _ all (tail_adds most line in_data bytes short)
terminal_adds most line in_data bytes c lists short all = name_adds most c lists (name_of bytes c) all

line_adds : (most line : ℕ) (text : List ℕ) (in_data : Bool) (symbols : List Sym) (terminals : List Terminal) (lists : Lists) → length text ≤ most → AreShort most lists.data_items
    → AreShort most (number_line line text in_data symbols terminals lists).lists.data_items
unfolding number_line
line_adds most line text in_data [] terminals lists short all = all
line_adds most line text in_data (symbol ∷ symbols) [] lists short all = all
line_adds most line text in_data (symbol ∷ symbols) (c ∷ terminals) lists short all =
    let bytes = slice_range text symbol.from symbol.to in
    let part : length bytes ≤ most = omega (arith, part_short text symbol.from symbol.to, short) in
    line_adds most line text (is_data c) symbols terminals (number_terminal line in_data bytes c lists).lists short (terminal_adds most line in_data bytes c lists part all)

lines_add : (most : ℕ) (labels : List Name) (place : ℕ) (lists after : Lists) (cuts : List Cut) (progs : List ProgLine) → AreLines labels place lists cuts progs after
    → AllByRecursion (IsCutLine most) cuts → AreShort most lists.data_items → AreShort most after.data_items
lines_add most labels place lists after [] [] so cut all = subst (λ (l : Lists). AreShort most l.data_items) (sym so) all
lines_add most labels place lists after [] (p ∷ progs) so cut all = elim so [ ]
lines_add most labels place lists after (cut ∷ cuts) [] so is_cut all = elim so [ ]
lines_add most labels place lists after (cut ∷ cuts) (p ∷ progs) so is_cut all =
    lines_add most labels (place + 1) (numbered labels place lists cut).lists after cuts progs so.2 is_cut.1
    (line_adds most place cut.text false cut.symbols (terminals_of labels cut.text cut.symbols) lists is_cut.0.short all)

pub data_short : (most : ℕ) (lines : List Line) (prog : Prog) → IsProgram lines prog → AllByRecursion (λ (l : Line). length l.text ≤ most) lines
    → AllByRecursion (λ (d : DataItem). length d.text ≤ most) prog.data_items
unfolding AreShort
data_short most lines prog is short =
    let spelled = is.spelled in
    subst (AreShort most) (sym is.data_items)
    (lines_add most (labels_of spelled.cuts) 0 no_lists is.lists spelled.cuts prog.lines spelled.are_lines (cuts_are most false lines spelled.cuts None spelled.cut short) tt)

-- ---- size

symbols_weight : List Terminal → ℕ
symbols_weight a = 4 + weight a

lines_weigh : (most : ℕ) (labels : List Name) (place : ℕ) (lists after : Lists) (cuts : List Cut) (progs : List ProgLine) → AreLines labels place lists cuts progs after
    → AllByRecursion (IsCutLine most) cuts → sum_by symbols_weight (numbered_lines labels place lists cuts) + lists_weight after ≤ lists_weight lists + sum_by cut_bytes cuts
unfolding symbols_weight cut_bytes
lines_weigh most labels place lists after [] [] so cut = let same = ap lists_weight so in omega (arith, same)
lines_weigh most labels place lists after [] (p ∷ progs) so cut = elim so [ ]
lines_weigh most labels place lists after (cut ∷ cuts) [] so is_cut = elim so [ ]
lines_weigh most labels place lists after (cut ∷ cuts) (p ∷ progs) so is_cut =
    let line : NumberedLine = numbered labels place lists cut in
    let here = line_weighs labels place 0 cut.text false 0 (length cut.text) cut.symbols lists is_cut.0.order is_cut.0.filled in
    let later = lines_weigh most labels (place + 1) line.lists after cuts progs so.2 is_cut.1 in
    omega (arith, here, later, sum_by-cons symbols_weight line.terminals (numbered_lines labels (place + 1) line.lists cuts), sum_by-cons cut_bytes cut cuts)

-- ---- the theorem

pub program_well_formed : (lines : List Line) (prog : Prog) → IsProgram lines prog → AllByRecursion (λ (l : Line). length l.text ≤ limit.longest_text) lines → WellFormed prog
unfolding AreShort symbols_weight cut_bytes line_bytes
program_well_formed lines prog is short =
    let spelled = is.spelled in
    let cuts = spelled.cuts in
    let labels = labels_of cuts in
    let after : Lists = is.lists in
    let are = spelled.are_lines in
    let cut = cuts_are limit.longest_text false lines cuts None spelled.cut short in
    let few : length after.names ≤ limit.names = subst (λ (names : List Name). length names ≤ limit.names) is.names is.few_names in
    let found = lines_literals labels 0 no_lists after cuts prog.lines are in
    let items = lines_data labels 0 no_lists after cuts prog.lines are in
    let symbols = numbered_lines labels 0 no_lists cuts in
    let count : length prog.texts ≡ found.0 = ap length is.texts ∙ found.1 ∙ (omega arith) in
    let nothing_before : (i j : ℕ) (name : Name) → slice_get [] i ≡ Some name → slice_get [] j ≡ Some name → i ≡ j = λ i j name at. absurd (nothing_at i name at) in
    record {
      symbols = symbols;
      lines = subst (λ (names : List Name). AreLinesOf names prog.lines symbols) (sym is.names) (lines_of labels 0 no_lists after cuts prog.lines are cut few);
      distinct = subst Distinct (sym is.names) (lines_distinct labels 0 no_lists after cuts prog.lines are nothing_before);
      few_names = is.few_names;
      texts = found.2 ∙ ap (range_with_len 0) (sym count);
      short_texts = All-from_recursion (λ (text : List ℕ). length text ≤ limit.longest_text) prog.texts (texts_short limit.longest_text lines prog is short);
      closed = is.closed;
      data_items = subst (IsDataOf 0 prog.lines 0) (sym (is.data_items ∙ items.1)) items.2;
      short_data = All-from_recursion (λ (d : DataItem). length d.text ≤ limit.longest_text) prog.data_items (data_short limit.longest_text lines prog is short);
      size =
          let symbols_is = sum-map symbols_weight symbols in
          let texts_is = sum-map length prog.texts in
          let data_is = sum-map item_weight prog.data_items in
          let texts_same : sum_by length prog.texts ≡ sum_by length after.texts = ap (sum_by length) is.texts in
          let data_same : sum_by item_weight prog.data_items ≡ sum_by item_weight after.data_items = ap (sum_by item_weight) is.data_items in
          let weighs = lines_weigh limit.longest_text labels 0 no_lists after cuts prog.lines are cut in
          let bytes = bytes_same false lines cuts spelled.cut in
          omega (arith, symbols_is, texts_is, data_is, texts_same, data_same, weighs, bytes, is.size);
    }
  where
    nothing_at : (i : ℕ) (name : Name) → slice_get [] i ≡ Some name → ⊥
    nothing_at i name at = let none : None ≡ Some name = at in cc
