-- The string literals of a program are numbered in order, and so are its items of DATA.
use Rattle.std.proofs.Common.{◌≡◌, ◌≢◌, ℕ, zero, suc, ◌+◌, Bool, true, false, List, [], ◌∷◌, ◌++◌, length, map, slice_range, Option, Some, None, if◌then◌else◌, refl, sym, ap, subst, ◌∙◌, append_assoc, length-append, arith}
use Rattle.std.specs.List.{AllByRecursion, range_with_len}
use Rattle.std.proofs.lemmas.List.{append-nil}
use Rattle.std.proofs.lemmas.List.Elements.{All-from_recursion}
use Rattle.bas_lex.specs.declared.symbol.Sym.{Sym}
use Rattle.bas_ast.specs.declared.lines.Item.{Item}
use Rattle.bas_ast.specs.declared.lines.Item.TheVariants as item
use Rattle.bas_ast.specs.declared.program.DataItem.{DataItem}
use Rattle.bas_ast.specs.declared.program.Name.{Name}
use Rattle.bas_ast.specs.declared.terminals.Terminal.{Terminal}
use Rattle.bas_ast.specs.declared.terminals.Terminal.TheVariants as t
use Rattle.bas_ast.specs.WellFormed.{literals, AreOfLine, DataOf}
use Rattle.bas_rules.specs.Names.{name_of, renumbered}
use Rattle.profile_check.specs.Tables.{Lists, NumberedLine, number_name, number_terminal, number_line, is_data}
use Rattle.bas_rules.specs.Texts.{pieces_from, data_item}
use Rattle.profile_check.proofs.DataTails.{tail_of, data_tails, data_numbers}
use Rattle.bas_rules.proofs.TextSteps.{with_front, pieces_some}

-- ---- a name's number changes nothing else of its terminal

pub of_named : {X : Type 0} (f : Terminal → X) → ((c : Terminal) (k : ℕ) → f (renumbered c k) ≡ f c) → (c : Terminal) (lists : Lists) (name : Option Name) → f (number_name c lists name).terminal ≡ f c
of_named f same c lists None = refl
of_named f same c lists (Some name) = same c _

data_kept : (c : Terminal) (k : ℕ) → is_data (renumbered c k) ≡ is_data c
data_kept (t.IntName n) k = refl
data_kept _ k = refl

tail_kept : (in_data : Bool) (c : Terminal) (k : ℕ) → tail_of in_data (renumbered c k) ≡ tail_of in_data c
tail_kept in_data (t.IntName n) k = refl
tail_kept in_data _ k = refl

literals_kept : (rest : List Terminal) (c : Terminal) (k : ℕ) → literals (renumbered c k ∷ rest) ≡ literals (c ∷ rest)
literals_kept rest (t.IntName n) k = refl
literals_kept rest _ k = refl

-- whether a terminal is a string literal or a tail
abbrev pub has_text : Terminal → Bool
has_text (t.Literal n) = true
has_text (t.Tail n) = true
has_text _ = false

no_literal : (c : Terminal) (rest : List Terminal) → has_text c ≡ false → literals (c ∷ rest) ≡ literals rest
no_literal (t.Literal n) rest is = absurd (cc)
no_literal _ rest is = refl

no_tail : (in_data : Bool) (c : Terminal) → has_text c ≡ false → tail_of in_data c ≡ []
no_tail in_data (t.Tail n) is = absurd (cc)
no_tail in_data _ is = refl

pub number_keeps_data : (line : ℕ) (in_data : Bool) (bytes : List ℕ) (c : Terminal) (lists : Lists) → is_data (number_terminal line in_data bytes c lists).terminal ≡ is_data c
number_keeps_data line in_data bytes (t.Literal n) lists = refl
number_keeps_data line in_data bytes (t.Tail n) lists = refl
number_keeps_data line in_data bytes c lists = of_named is_data data_kept c lists (name_of bytes c)

-- ---- string literals

-- The string literals of terminals are numbered from a number on.
pub record LiteralsGrow (before after : ℕ) (list : List Terminal) : Type 0 where
  pub more : ℕ
  pub after_is : after ≡ before + more
  pub are : literals list ≡ range_with_len before more

named_literals : (c : Terminal) (lists : Lists) (name : Option Name) (after : ℕ) (rest : List Terminal) → has_text c ≡ false
    → LiteralsGrow (length (number_name c lists name).lists.texts) after rest → LiteralsGrow (length lists.texts) after ((number_name c lists name).terminal ∷ rest)
named_literals c lists None after rest none grow = record { more = grow.more; after_is = grow.after_is; are = no_literal c rest none ∙ grow.are }
named_literals c lists (Some name) after rest none grow =
    record { more = grow.more; after_is = grow.after_is; are = literals_kept rest c _ ∙ no_literal c rest none ∙ grow.are }

terminal_literals : (line : ℕ) (in_data : Bool) (bytes : List ℕ) (c : Terminal) (lists : Lists) (after : ℕ) (rest : List Terminal)
    → LiteralsGrow (length (number_terminal line in_data bytes c lists).lists.texts) after rest → LiteralsGrow (length lists.texts) after ((number_terminal line in_data bytes c lists).terminal ∷ rest)
terminal_literals line in_data bytes (t.Literal n) lists after rest grow =
    let size = length-append lists.texts (_ ∷ []) in
    record {
      more = suc grow.more;
      after_is = omega (arith, grow.after_is, size);
      are = ap (λ (l : List ℕ). length lists.texts ∷ l) (grow.are ∙ ap (λ (k : ℕ). range_with_len k grow.more) size);
    }
terminal_literals line in_data bytes (t.Tail n) lists after rest grow = record { more = grow.more; after_is = grow.after_is; are = grow.are }
terminal_literals line in_data bytes c lists after rest grow = named_literals c lists (name_of bytes c) after rest refl grow

pub line_literals : (line : ℕ) (text : List ℕ) (in_data : Bool) (symbols : List Sym) (terminals : List Terminal) (lists : Lists)
    → LiteralsGrow (length lists.texts) (length (number_line line text in_data symbols terminals lists).lists.texts) (number_line line text in_data symbols terminals lists).terminals
unfolding number_line
line_literals line text in_data [] terminals lists = record { more = 0; after_is = omega arith; are = refl }
line_literals line text in_data (symbol ∷ symbols) [] lists = record { more = 0; after_is = omega arith; are = refl }
line_literals line text in_data (symbol ∷ symbols) (c ∷ terminals) lists =
    let bytes = slice_range text symbol.from symbol.to in
    terminal_literals line in_data bytes c lists _ _ (line_literals line text (is_data c) symbols terminals (number_terminal line in_data bytes c lists).lists)

-- ranges one after the other
pub range_joined : (a j k : ℕ) → range_with_len a j ++ range_with_len (a + j) k ≡ range_with_len a (j + k)
range_joined a zero k =
    let begin : a + 0 ≡ a = omega arith in
    let size : k ≡ 0 + k = omega arith in
    ap (λ (n : ℕ). range_with_len n k) begin ∙ ap (range_with_len a) size
range_joined a (suc j) k =
    let begin : a + suc j ≡ (a + 1) + j = omega arith in
    let size : suc (j + k) ≡ suc j + k = omega arith in
    ap (λ (l : List ℕ). a ∷ l) (ap (λ (n : ℕ). range_with_len (a + 1) j ++ range_with_len n k) begin ∙ range_joined (a + 1) j k)
    ∙ ap (range_with_len a) size

-- ---- items of DATA

-- Items of DATA of a line in order, those of each number from its place on.
abbrev pub IsDataFrom : ℕ → List ℕ → ℕ → List DataItem → Type 0
IsDataFrom line [] at ds = ds ≡ []
IsDataFrom line (n ∷ ns) at ds =
    (n ≡ at) × ((own : List DataItem) × (rest : List DataItem) × (ds ≡ own ++ rest) × (own ≢ []) × AreOfLine line own × IsDataFrom line ns (at + length own) rest)

data_joined : (line : ℕ) (ns ms : List ℕ) (at : ℕ) (ds es : List DataItem) → IsDataFrom line ns at ds → IsDataFrom line ms (at + length ds) es → IsDataFrom line (ns ++ ms) at (ds ++ es)
data_joined line [] ms at ds es none so =
    let empty : length ds ≡ 0 = ap length none in
    let begin : at + length ds ≡ at = omega (arith, empty) in
    subst (λ (k : ℕ). IsDataFrom line ms k (ds ++ es)) begin (subst (λ (d : List DataItem). IsDataFrom line ms (at + length ds) (d ++ es)) (sym none) so)
data_joined line (n ∷ ns) ms at ds es so more =
    let own = so.1.0 in
    let rest = so.1.1 in
    let size = ap length so.1.2 ∙ length-append own rest in
    let begin : at + length ds ≡ (at + length own) + length rest = omega (arith, size) in (
      so.0,
      (
        own,
        rest ++ es,
        ap (λ (d : List DataItem). d ++ es) so.1.2 ∙ append_assoc own rest es,
        so.1.3,
        so.1.4,
        data_joined line ns ms (at + length own) rest es so.1.5 (subst (λ (k : ℕ). IsDataFrom line ms k es) begin more),
      ),
    )

-- the items of DATA of a line's items
pub data_of_items : (line : ℕ) (xs : List Item) (at : ℕ) (ds rest : List DataItem) (others : ℕ → List DataItem → Type 0) → IsDataFrom line (data_numbers xs) at ds
    → others (at + length ds) rest → DataOf line xs at (ds ++ rest) others
data_of_items line [] at ds rest others none so =
    let empty : length ds ≡ 0 = ap length none in
    let begin : at + length ds ≡ at = omega (arith, empty) in
    subst (λ (k : ℕ). others k (ds ++ rest)) begin (subst (λ (d : List DataItem). others (at + length ds) (d ++ rest)) (sym none) so)
data_of_items line (item.Data n ∷ xs) at ds rest others so more =
    let own = so.1.0 in
    let after = so.1.1 in
    let size = ap length so.1.2 ∙ length-append own after in
    let begin : at + length ds ≡ (at + length own) + length after = omega (arith, size) in (
      so.0,
      (
        own,
        after ++ rest,
        ap (λ (d : List DataItem). d ++ rest) so.1.2 ∙ append_assoc own after rest,
        so.1.3,
        so.1.4,
        data_of_items line xs (at + length own) after rest others so.1.5 (subst (λ (k : ℕ). others k rest) begin more),
      ),
    )
data_of_items line (_ ∷ xs) at ds rest others so more = data_of_items line xs at ds rest others so more

-- The items of DATA that a line adds are those of its tails of DATA.
pub record DataGrow (line : ℕ) (before after : List DataItem) (numbers : List ℕ) : Type 0 where
  pub added : List DataItem
  pub after_is : after ≡ before ++ added
  pub are : IsDataFrom line numbers (length before) added

nothing_added : (line : ℕ) (items : List DataItem) (numbers : List ℕ) → numbers ≡ [] → DataGrow line items items numbers
nothing_added line items numbers none =
    record { added = []; after_is = sym (append-nil items); are = subst (λ (ns : List ℕ). IsDataFrom line ns (length items) []) (sym none) refl }

some_pieces : (line : ℕ) (pieces : List (List ℕ)) → map (data_item line) (with_front [] pieces) ≢ []
some_pieces line [] e = cc
some_pieces line (piece ∷ pieces) e = cc

pieces_there : (line : ℕ) (bytes : List ℕ) → map (data_item line) (pieces_from false bytes) ≢ []
pieces_there line bytes e = some_pieces line (pieces_from false bytes) (ap (map (data_item line)) (sym (pieces_some false bytes)) ∙ e)

of_line : (line : ℕ) (pieces : List (List ℕ)) → AllByRecursion (λ (d : DataItem). d.line ≡ line) (map (data_item line) pieces)
of_line line [] = tt
of_line line (piece ∷ pieces) = (refl, of_line line pieces)

tail_grows : (line : ℕ) (in_data : Bool) (bytes : List ℕ) (items : List DataItem)
    → DataGrow line items (items ++ (if in_data then map (data_item line) (pieces_from false bytes) else [])) (if in_data then length items ∷ [] else [])
tail_grows line true bytes items =
    let added = map (data_item line) (pieces_from false bytes) in
    record {
      added = added;
      after_is = refl;
      are = (refl, (added, [], sym (append-nil added), pieces_there line bytes, All-from_recursion (λ (d : DataItem). d.line ≡ line) added (of_line line (pieces_from false bytes)), refl));
    }
tail_grows line false bytes items = record { added = []; after_is = refl; are = refl }

named_data : (line : ℕ) (in_data : Bool) (c : Terminal) (lists : Lists) (name : Option Name) → has_text c ≡ false
    → DataGrow line lists.data_items (number_name c lists name).lists.data_items (tail_of in_data (number_name c lists name).terminal)
named_data line in_data c lists None none = nothing_added line lists.data_items _ (no_tail in_data c none)
named_data line in_data c lists (Some name) none = nothing_added line lists.data_items _ (tail_kept in_data c _ ∙ no_tail in_data c none)

terminal_data : (line : ℕ) (in_data : Bool) (bytes : List ℕ) (c : Terminal) (lists : Lists)
    → DataGrow line lists.data_items (number_terminal line in_data bytes c lists).lists.data_items (tail_of in_data (number_terminal line in_data bytes c lists).terminal)
terminal_data line in_data bytes (t.Literal n) lists = nothing_added line lists.data_items [] refl
terminal_data line in_data bytes (t.Tail n) lists = tail_grows line in_data bytes lists.data_items
terminal_data line in_data bytes c lists = named_data line in_data c lists (name_of bytes c) refl

grow_joined : (line : ℕ) (before mid after : List DataItem) (ns ms : List ℕ) → DataGrow line before mid ns → DataGrow line mid after ms → DataGrow line before after (ns ++ ms)
grow_joined line before mid after ns ms a b =
    let size : length mid ≡ length before + length a.added = ap length a.after_is ∙ length-append before a.added in
    record {
      added = a.added ++ b.added;
      after_is = b.after_is ∙ ap (λ (d : List DataItem). d ++ b.added) a.after_is ∙ append_assoc before a.added b.added;
      are = data_joined line ns ms (length before) a.added b.added a.are (subst (λ (k : ℕ). IsDataFrom line ms k b.added) size b.are);
    }

pub line_data : (line : ℕ) (text : List ℕ) (in_data : Bool) (symbols : List Sym) (terminals : List Terminal) (lists : Lists)
    → DataGrow line lists.data_items (number_line line text in_data symbols terminals lists).lists.data_items (data_tails in_data (number_line line text in_data symbols terminals lists).terminals)
unfolding number_line
line_data line text in_data [] terminals lists = nothing_added line lists.data_items [] refl
line_data line text in_data (symbol ∷ symbols) [] lists = nothing_added line lists.data_items [] refl
line_data line text in_data (symbol ∷ symbols) (c ∷ terminals) lists =
    let bytes = slice_range text symbol.from symbol.to in
    let first = number_terminal line in_data bytes c lists in
    let rest : NumberedLine = number_line line text (is_data c) symbols terminals first.lists in
    let later = line_data line text (is_data c) symbols terminals first.lists in
    grow_joined line lists.data_items first.lists.data_items rest.lists.data_items (tail_of in_data first.terminal) (data_tails (is_data first.terminal) rest.terminals)
    (terminal_data line in_data bytes c lists)
    (subst (λ (d : Bool). DataGrow line first.lists.data_items rest.lists.data_items (data_tails d rest.terminals)) (sym (number_keeps_data line in_data bytes c lists)) later)
