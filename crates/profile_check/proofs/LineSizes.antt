-- The weight of a line's symbols, texts and items of DATA is at most the number of its bytes.
use Rattle.std.proofs.Common.{◌≡◌, ◌≢◌, ℕ, ◌+◌, ◌-◌, ◌<◌, ◌≤◌, Bool, true, false, not, ◌&&◌, ◌==◌, List, [], ◌∷◌, ◌++◌, length, map, sum_by, drop, slice_range, Option, Some, None, if◌then◌else◌, refl, lit≤, arith}
use Rattle.std.specs.List.{AllByRecursion}
use Rattle.std.proofs.lemmas.List.{length-take}
use Rattle.std.proofs.lemmas.List.Sums.{sum_by-cons, sum_by-append}
use Rattle.bas_lex.specs.declared.symbol.Sym.{Sym}
use Rattle.bas_lex.specs.declared.symbol.SymKind.{SymKind}
use Rattle.bas_lex.specs.declared.symbol.SymKind.TheVariants as kinds
use Rattle.bas_lex.specs.Cut.{AreInOrder, IsFilled}
use Rattle.bas_ast.specs.declared.keywords.Keyword.TheVariants as word
use Rattle.bas_ast.specs.declared.program.DataItem.{DataItem}
use Rattle.bas_ast.specs.declared.program.Name.{Name}
use Rattle.bas_ast.specs.declared.terminals.Terminal.{Terminal}
use Rattle.bas_ast.specs.declared.terminals.Terminal.TheVariants as t
use Rattle.bas_ast.specs.WellFormed.{weight}
use Rattle.expr_parse.specs.Terminals.{terminal_of, terminals_from}
use Rattle.bas_rules.specs.Names.{name_of, renumbered}
use Rattle.profile_check.specs.Tables.{Lists, NumberedLine, number_name, number_terminal, number_line, is_data}
use Rattle.bas_rules.specs.Texts.{quotation_mark, comma, space, quoted_from, literal_text, with_first, pieces_from, without_spaces, unquoted, item_text, data_item}
use Rattle.profile_check.proofs.LineTexts.{of_named}
use Rattle.profile_check.proofs.ShortTexts.{quoted_short}

-- ---- what items of DATA weigh

abbrev pub item_weight : DataItem → ℕ
item_weight d = 1 + length d.text

abbrev piece_weight : List ℕ → ℕ
piece_weight piece = 1 + length piece

spaces_short : (bytes : List ℕ) → length (without_spaces bytes) ≤ length bytes
spaces_short [] = omega arith
spaces_short (c ∷ rest) = by (c == space) (spaces_short rest)
  where
    by : (is_space : Bool) → length (without_spaces rest) ≤ length rest → length (if is_space then without_spaces rest else c ∷ rest) ≤ length (c ∷ rest)
    by true short = omega (arith, short)
    by false short = omega arith

unquoted_short : (bytes : List ℕ) → length (unquoted bytes) ≤ length bytes
unquoted_short [] = omega arith
unquoted_short (c ∷ rest) = by (c == quotation_mark) (quoted_short false rest)
  where
    by : (is_mark : Bool) → length (quoted_from false rest) ≤ length rest → length (if is_mark then quoted_from false rest else c ∷ rest) ≤ length (c ∷ rest)
    by true short = omega (arith, short)
    by false short = omega arith

item_short : (piece : List ℕ) → length (item_text piece) ≤ length piece
item_short piece = omega (arith, unquoted_short (without_spaces piece), spaces_short piece)

items_light : (line : ℕ) (pieces : List (List ℕ)) → sum_by item_weight (map (data_item line) pieces) ≤ sum_by piece_weight pieces
items_light line [] = omega arith
items_light line (piece ∷ pieces) =
    omega (arith, item_short piece, items_light line pieces, sum_by-cons item_weight (data_item line piece) (map (data_item line) pieces), sum_by-cons piece_weight piece pieces)

first_light : (c most : ℕ) (pieces : List (List ℕ)) → sum_by piece_weight pieces ≤ most → 1 ≤ most → sum_by piece_weight (with_first c pieces) ≤ 1 + most
first_light c most [] light some = omega (arith, some)
first_light c most (piece ∷ pieces) light some =
    omega (arith, light, sum_by-cons piece_weight piece pieces, sum_by-cons piece_weight (c ∷ piece) pieces)

pieces_by : (is_end is_mark : Bool) (c most : ℕ) (a b d : List (List ℕ)) → sum_by piece_weight a ≤ most → sum_by piece_weight b ≤ most → sum_by piece_weight d ≤ most → 1 ≤ most
    → sum_by piece_weight (if is_end then [] ∷ a else if is_mark then with_first c b else with_first c d) ≤ 1 + most
pieces_by true is_mark c most a b d x y z some = omega (arith, x, sum_by-cons piece_weight [] a)
pieces_by false true c most a b d x y z some = first_light c most b y some
pieces_by false false c most a b d x y z some = first_light c most d z some

pieces_light : (inside : Bool) (bytes : List ℕ) → sum_by piece_weight (pieces_from inside bytes) ≤ 1 + length bytes
pieces_light inside [] = omega arith
pieces_light inside (c ∷ rest) =
    let light = pieces_by (c == comma && not inside) (c == quotation_mark) c (1 + length rest) (pieces_from inside rest) (pieces_from (not inside) rest) (pieces_from inside rest)
    (pieces_light inside rest) (pieces_light (not inside) rest) (pieces_light inside rest) (omega arith) in
    omega (arith, light)

data_light : (line : ℕ) (bytes : List ℕ) → sum_by item_weight (map (data_item line) (pieces_from false bytes)) ≤ 1 + length bytes
data_light line bytes = omega (arith, items_light line (pieces_from false bytes), pieces_light false bytes)

-- each is as short as all
pub each_short : (most : ℕ) (items : List DataItem) → sum_by item_weight items ≤ 1 + most → AllByRecursion (λ (d : DataItem). length d.text ≤ most) items
each_short most [] light = tt
each_short most (d ∷ items) light =
    let parts = sum_by-cons item_weight d items in (omega (arith, light, parts), each_short most items (omega (arith, light, parts)))

pub tail_short : (line most : ℕ) (bytes : List ℕ) → length bytes ≤ most → AllByRecursion (λ (d : DataItem). length d.text ≤ most) (map (data_item line) (pieces_from false bytes))
tail_short line most bytes short = each_short most (map (data_item line) (pieces_from false bytes)) (omega (arith, data_light line bytes, short))

-- ---- what terminals weigh

abbrev pub lists_weight : Lists → ℕ
lists_weight lists = sum_by length lists.texts + sum_by item_weight lists.data_items

abbrev terminal_weight : Terminal → ℕ
terminal_weight (t.Keyword word.Data) = 0
terminal_weight (t.Tail n) = 0
terminal_weight _ = 1

abbrev pub one_if : Bool → ℕ
one_if true = 1
one_if false = 0

weight_more : (c : Terminal) (rest : List Terminal) → weight (c ∷ rest) ≡ terminal_weight c + weight rest
weight_more (t.Keyword word.Data) rest = omega arith
weight_more (t.Tail n) rest = omega arith
weight_more _ rest = omega arith

weight_kept : (c : Terminal) (k : ℕ) → terminal_weight (renumbered c k) ≡ terminal_weight c
weight_kept (t.IntName n) k = refl
weight_kept _ k = refl

at_most_one : (c : Terminal) → terminal_weight c + one_if (is_data c) ≤ 1
at_most_one (t.Keyword word.Data) = lit≤ tt
at_most_one (t.Tail n) = lit≤ tt
at_most_one _ = lit≤ tt

abbrev pub is_tail : Terminal → Bool
is_tail (t.Tail n) = true
is_tail _ = false

literal_fits : (bytes : List ℕ) (span : ℕ) → length bytes ≤ span → 0 < span → 1 + length (literal_text bytes) ≤ span
literal_fits [] span short some = omega (arith, some)
literal_fits (c ∷ rest) span short some = omega (arith, short, quoted_short false rest)

name_weighs : (c : Terminal) (lists : Lists) (name : Option Name) → lists_weight (number_name c lists name).lists ≡ lists_weight lists
name_weighs c lists None = refl
name_weighs c lists (Some name) = refl

tail_weighs : (line : ℕ) (in_data : Bool) (bytes : List ℕ) (items : List DataItem) (span : ℕ) → length bytes ≤ span
    → sum_by item_weight (items ++ (if in_data then map (data_item line) (pieces_from false bytes) else [])) ≤ sum_by item_weight items + span + one_if in_data
tail_weighs line true bytes items span short =
    let added = map (data_item line) (pieces_from false bytes) in
    omega (arith, sum_by-append item_weight items added, data_light line bytes, short)
tail_weighs line false bytes items span short =
    omega (arith, sum_by-append item_weight items [])

-- A terminal of so many bytes pays for itself, and DATA for the first item after it.
terminal_weighs : (line : ℕ) (in_data : Bool) (bytes : List ℕ) (c : Terminal) (lists : Lists) (span : ℕ) → length bytes ≤ span → (is_tail c ≡ false → 0 < span)
    → terminal_weight (number_terminal line in_data bytes c lists).terminal + lists_weight (number_terminal line in_data bytes c lists).lists + one_if (is_data c) ≤ lists_weight lists + span + one_if in_data
terminal_weighs line in_data bytes (t.Literal n) lists span short some =
    let text = literal_text bytes in
    omega (arith, sum_by-append length lists.texts (text ∷ []), literal_fits bytes span short (some refl))
terminal_weighs line in_data bytes (t.Tail n) lists span short some = let items = tail_weighs line in_data bytes lists.data_items span short in omega (arith, items)
terminal_weighs line in_data bytes c lists span short some =
    let one = at_most_one c in
    let is = of_named terminal_weight weight_kept c lists (name_of bytes c) in
    let same = name_weighs c lists (name_of bytes c) in
    omega (arith, one, is, same, some refl)

-- ---- lines

part_short : (text : List ℕ) (from to : ℕ) → length (slice_range text from to) ≤ to - from
part_short text from to = omega (arith, length-take (to - from) (drop from text))

-- no symbol but a tail is empty
filled_by : (labels : List Name) (text : List ℕ) (n : ℕ) (kind : SymKind) (from to : ℕ) (asm : Bool) → (kind ≢ kinds.Tail → from < to)
    → is_tail (terminal_of labels text n (record { kind = kind; from = from; to = to; asm = asm })) ≡ false → from < to
unfolding terminal_of
filled_by labels text n kinds.Tail from to asm filled is = absurd (cc)
filled_by labels text n _ from to asm filled is = filled (λ e. cc)

pub line_weighs : (labels : List Name) (line n : ℕ) (text : List ℕ) (in_data : Bool) (from to : ℕ) (symbols : List Sym) (lists : Lists) → AreInOrder from symbols to → AllByRecursion IsFilled symbols
    → weight (number_line line text in_data symbols (terminals_from labels text n symbols) lists).terminals + lists_weight (number_line line text in_data symbols (terminals_from labels text n symbols) lists).lists + from
    ≤ lists_weight lists + to + one_if in_data
unfolding number_line terminals_from
line_weighs labels line n text in_data from to [] lists order filled = omega (arith, order)
line_weighs labels line n text in_data from to (s ∷ symbols) lists order filled =
    let bytes = slice_range text s.from s.to in
    let c = terminal_of labels text n s in
    let first = number_terminal line in_data bytes c lists in
    let rest : NumberedLine = number_line line text (is_data c) symbols (terminals_from labels text (n + 1) symbols) first.lists in
    let here = terminal_weighs line in_data bytes c lists (s.to - s.from) (part_short text s.from s.to)
    (λ is. let less = filled_by labels text n s.kind s.from s.to s.asm filled.0 is in omega (arith, less)) in
    let later = line_weighs labels line (n + 1) text (is_data c) s.to to symbols first.lists order.2 filled.1 in
    let whole = weight_more first.terminal rest.terminals in
    omega (arith, here, later, whole, order.0, order.1)

-- the terminals of a line are as many as its symbols at most
pub line_count : (line : ℕ) (text : List ℕ) (in_data : Bool) (symbols : List Sym) (terminals : List Terminal) (lists : Lists)
    → length (number_line line text in_data symbols terminals lists).terminals ≤ length symbols
unfolding number_line
line_count line text in_data [] terminals lists = omega arith
line_count line text in_data (s ∷ symbols) [] lists = omega arith
line_count line text in_data (s ∷ symbols) (c ∷ terminals) lists =
    let rest = line_count line text (is_data c) symbols terminals (number_terminal line in_data (slice_range text s.from s.to) c lists).lists in omega (arith, rest)
