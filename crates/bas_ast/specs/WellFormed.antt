-- What a well-formed program is.
use Rattle.std.specs.Prelude.{◌≡◌, ◌≢◌, ℕ, ◌+◌, ◌≤◌, List, [], ◌∷◌, ◌++◌, length, flat_map, map, sum, slice_get, Some, All}
use Rattle.std.specs.List.{range_with_len}
use Rattle.bv_base.specs.Limits as limit
use Rattle.bas_ast.specs.declared.lines.Item.{Item}
use Rattle.bas_ast.specs.declared.lines.Item.TheVariants as item
use Rattle.bas_ast.specs.declared.program.DataItem.{DataItem}
use Rattle.bas_ast.specs.declared.program.Name.{Name}
use Rattle.bas_ast.specs.declared.program.NameKind.{NameKind}
use Rattle.bas_ast.specs.declared.program.NameKind.TheVariants as kind
use Rattle.bas_ast.specs.declared.program.Prog.{Prog}
use Rattle.bas_ast.specs.declared.program.ProgLine.{ProgLine}
use Rattle.bas_ast.specs.declared.terminals.Terminal.{Terminal}
use Rattle.bas_ast.specs.declared.terminals.Terminal.TheVariants as t
use Rattle.bas_ast.specs.declared.keywords.Keyword.TheVariants as word
use Rattle.bas_ast.specs.Lines.{IsRun}
use Rattle.bas_ast.specs.Structures.{IsClosed}

-- the greatest number of symbols of a line: one of each byte of its text, and an empty tail
abbrev pub most_symbols : ℕ
most_symbols = limit.longest_text + 1

-- The name at a place has this kind.
abbrev pub IsNameOf : List Name → ℕ → NameKind → Type 0
IsNameOf names n kind = (text : List ℕ) × (slice_get names n ≡ Some (record { kind = kind; text = text }))

-- A terminal that is a name is one of the table, of its kind.
abbrev pub IsNamed : List Name → Terminal → Type 0
IsNamed names (t.IntName n) = IsNameOf names n kind.Integer
IsNamed names (t.StrName n) = IsNameOf names n kind.Text
IsNamed names (t.IntArray n) = IsNameOf names n kind.IntegerArray
IsNamed names (t.StrArray n) = IsNameOf names n kind.TextArray
IsNamed names (t.Label n) = IsNameOf names n kind.Label
IsNamed names (t.Procedure n) = IsNameOf names n kind.Procedure
IsNamed names (t.ProcedureOpen n) = IsNameOf names n kind.Procedure
IsNamed names (t.NumFunction n) = IsNameOf names n kind.Function
IsNamed names (t.NumFunctionOpen n) = IsNameOf names n kind.Function
IsNamed names (t.StrFunction n) = IsNameOf names n kind.Function
IsNamed names (t.StrFunctionOpen n) = IsNameOf names n kind.Function
IsNamed names _ = Unit {0}

-- A line's items are spelled out by these terminals.
pub record IsLineOf (names : List Name) (line : ProgLine) (a : List Terminal) : Type 0 where
  pub is_run : IsRun a line.items
  pub few : length a ≤ most_symbols
  pub named : All (IsNamed names) a

-- The lines are spelled out by these lists.
abbrev pub AreLinesOf : List Name → List ProgLine → List (List Terminal) → Type 0
AreLinesOf names [] [] = Unit {0}
AreLinesOf names (line ∷ lines) (a ∷ rest) = IsLineOf names line a × AreLinesOf names lines rest
AreLinesOf names [] (a ∷ rest) = ⊥
AreLinesOf names (line ∷ lines) [] = ⊥

-- the numbers of the string literals among terminals
abbrev pub literals : List Terminal → List ℕ
literals [] = []
literals (t.Literal n ∷ a) = n ∷ literals a
literals (_ ∷ a) = literals a

-- how much terminals weigh: one each, but nothing for DATA and for tails
abbrev pub weight : List Terminal → ℕ
weight [] = 0
weight (t.Keyword word.Data ∷ a) = weight a
weight (t.Tail n ∷ a) = weight a
weight (_ ∷ a) = 1 + weight a

-- Items of DATA of one line.
abbrev pub AreOfLine : ℕ → List DataItem → Type 0
AreOfLine place = All (λ d. d.line ≡ place)

-- The items of DATA from a place on are those of the DATA among these items of a line, and then others.
abbrev pub DataOf : ℕ → List Item → ℕ → List DataItem → (ℕ → List DataItem → Type 0) → Type 0
DataOf line [] at ds others = others at ds
DataOf line (item.Data n ∷ xs) at ds others =
    (n ≡ at) × ((own : List DataItem) × (rest : List DataItem) × (ds ≡ own ++ rest) × (own ≢ []) × AreOfLine line own
    × DataOf line xs (at + length own) rest others)
DataOf line (_ ∷ xs) at ds others = DataOf line xs at ds others

-- The items of DATA are those of the lines' DATA in order, each of which has at least one.
abbrev pub IsDataOf : ℕ → List ProgLine → ℕ → List DataItem → Type 0
IsDataOf place [] at ds = ds ≡ []
IsDataOf place (line ∷ lines) at ds = DataOf place line.items at ds (IsDataOf (1 + place) lines)

-- the items of a program in the order of the file
abbrev pub all_items : Prog → List Item
all_items prog = flat_map (λ line. line.items) prog.lines

-- What a program is made of: two for its end, four for each line, one for each symbol other than DATA and tails, one for each
-- byte of a string literal, and one for each item of DATA and for each of its bytes.
abbrev pub total_weight : Prog → List (List Terminal) → ℕ
total_weight prog symbols =
    2 + sum (map (λ a. 4 + weight a) symbols) + sum (map length prog.texts) + sum (map (λ d. 1 + length d.text) prog.data_items)

-- A well-formed program.
pub record WellFormed (prog : Prog) : Type 0 where
  pub symbols : List (List Terminal)
  pub lines : AreLinesOf prog.names prog.lines symbols
  -- no two places have one name
  pub distinct : (i j : ℕ) (name : Name) → slice_get prog.names i ≡ Some name → slice_get prog.names j ≡ Some name → i ≡ j
  pub few_names : length prog.names ≤ limit.names
  -- the texts are those of its string literals in order
  pub texts : flat_map literals symbols ≡ range_with_len 0 (length prog.texts)
  pub short_texts : All (λ text. length text ≤ limit.longest_text) prog.texts
  pub closed : IsClosed (all_items prog)
  pub data_items : IsDataOf 0 prog.lines 0 prog.data_items
  pub short_data : All (λ d. length d.text ≤ limit.longest_text) prog.data_items
  pub size : total_weight prog symbols ≤ prog.size
