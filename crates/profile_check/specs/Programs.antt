-- Which program the lines of a file are.
use Rattle.std.specs.Prelude.{◌≡◌, ℕ, ◌+◌, ◌≤◌, true, false, List, [], ◌∷◌, ◌++◌, None, drop, length, slice_range, sum_by}
use Rattle.std.specs.List.{list_all}
use Rattle.bv_base.specs.Limits as limit
use Rattle.token_file.specs.declared.line.Line.{Line}
use Rattle.bas_lex.specs.declared.symbol.Sym.{Sym}
use Rattle.bas_lex.specs.declared.symbol.SymKind.{SymKind}
use Rattle.bas_lex.specs.declared.symbol.SymKind.TheVariants as kinds
use Rattle.bas_ast.specs.declared.lines.Item.{Item}
use Rattle.bas_ast.specs.declared.program.Name.{Name}
use Rattle.bas_ast.specs.declared.program.NameKind.TheVariants as kind
use Rattle.bas_ast.specs.declared.program.Prog.{Prog}
use Rattle.bas_ast.specs.declared.program.ProgLine.{ProgLine}
use Rattle.bas_ast.specs.Lines.{IsRun}
use Rattle.bas_ast.specs.Structures.{IsClosed}
use Rattle.bas_ast.specs.WellFormed.{all_items}
use Rattle.expr_parse.specs.Terminals.{terminals_of}
use Rattle.profile_check.specs.Cutting.{Cut, IsCut}
use Rattle.bas_rules.specs.Profile.{in_profile}
use Rattle.profile_check.specs.Tables.{Lists, NumberedLine, no_lists, number_line}

-- the label that a symbol of the assembler sets: its name without the point
abbrev pub label_of : List ℕ → SymKind → List Name
label_of bytes kinds.Label = record { kind = kind.Label; text = drop 1 bytes } ∷ []
label_of bytes _ = []

-- the labels that the symbols of a text set
abbrev pub labels_in : List ℕ → List Sym → List Name
labels_in text [] = []
labels_in text (symbol ∷ symbols) = label_of (slice_range text symbol.from symbol.to) symbol.kind ++ labels_in text symbols

-- the labels that lines set
abbrev pub labels_of : List Cut → List Name
labels_of [] = []
labels_of (cut ∷ cuts) = labels_in cut.text cut.symbols ++ labels_of cuts

-- The terminals of the line at a place, numbered after what the lines before it made.
abbrev pub numbered : List Name → ℕ → Lists → Cut → NumberedLine
numbered labels place lists cut = number_line place cut.text false cut.symbols (terminals_of labels cut.text cut.symbols) lists

-- A line is these items: it begins outside the assembler, whose statements have no tree yet, it is spelled as the grammar says,
-- and each of its items has a meaning.
pub record IsLine (labels : List Name) (place : ℕ) (lists : Lists) (cut : Cut) (items : List Item) : Type 0 where
  pub outside : cut.asm ≡ false
  pub is_run : IsRun (numbered labels place lists cut).terminals items
  pub has_meaning : list_all in_profile items ≡ true

-- The lines are these, from a place on, and make these lists.
abbrev pub AreLines : List Name → ℕ → Lists → List Cut → List ProgLine → Lists → Type 0
AreLines labels place lists [] [] after = after ≡ lists
AreLines labels place lists [] (prog ∷ progs) after = ⊥
AreLines labels place lists (cut ∷ cuts) [] after = ⊥
AreLines labels place lists (cut ∷ cuts) (prog ∷ progs) after =
    (prog.number ≡ cut.number) × IsLine labels place lists cut prog.items × AreLines labels (place + 1) (numbered labels place lists cut).lists cuts progs after

-- the bytes of a program's file: two for its end, and for each line its text and four
abbrev pub file_size : List Line → ℕ
file_size lines = 2 + sum_by (λ line. 4 + length line.text) lines

-- All lines are spelled as the grammar says and have a meaning, but names may be too many and structures without end.
pub record AreSpelled (lines : List Line) (progs : List ProgLine) (lists : Lists) : Type 0 where
  pub cuts : List Cut
  pub cut : IsCut false lines cuts None
  pub are_lines : AreLines (labels_of cuts) 0 no_lists cuts progs lists

-- The lines are this program.
pub record IsProgram (lines : List Line) (prog : Prog) : Type 0 where
  pub lists : Lists
  pub spelled : AreSpelled lines prog.lines lists
  pub closed : IsClosed (all_items prog)
  pub names : prog.names ≡ lists.names
  pub few_names : length prog.names ≤ limit.names
  pub texts : prog.texts ≡ lists.texts
  pub data_items : prog.data_items ≡ lists.data_items
  pub size : prog.size ≡ file_size lines
