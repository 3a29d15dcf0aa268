-- The lists of a program that its symbols make, in the order of the file: names, texts of string literals, items of DATA.
-- This project's own.
use Rattle.std.specs.Prelude.{ℕ, Bool, true, false, List, [], ◌∷◌, ◌++◌, length, map, slice_range, Option, Some, None, if◌then◌else◌}
use Rattle.bas_lex.specs.declared.symbol.Sym.{Sym}
use Rattle.bas_ast.specs.declared.keywords.Keyword.TheVariants as word
use Rattle.bas_ast.specs.declared.program.DataItem.{DataItem}
use Rattle.bas_ast.specs.declared.program.Name.{Name}
use Rattle.bas_ast.specs.declared.terminals.Terminal.{Terminal}
use Rattle.bas_ast.specs.declared.terminals.Terminal.TheVariants as t
use Rattle.profile_check.specs.declared.tables.Tables.{Tables}
use Rattle.bas_rules.specs.Names.{name_of, renumbered, add_name, number_of, names_of}
pub use Rattle.bas_rules.specs.Texts.{literal_text}
use Rattle.bas_rules.specs.Texts.{pieces_from, data_item}

-- The lists.
pub record Lists : Type 0 where
  pub names : List Name
  pub texts : List (List ℕ)
  pub data_items : List DataItem

abbrev pub no_lists : Lists
no_lists = record { names = []; texts = []; data_items = [] }

-- the lists that the code's tables are
abbrev pub lists_of : Tables → Lists
lists_of tables = record { names = names_of tables.names.keys; texts = tables.texts; data_items = tables.data_items }

-- A terminal with its number, and the lists after it.
pub record Numbered : Type 0 where
  pub terminal : Terminal
  pub lists : Lists

-- a name's terminal: a new name is added to the names
abbrev pub number_name : Terminal → Lists → Option Name → Numbered
number_name terminal lists None = record { terminal = terminal; lists = lists }
number_name terminal lists (Some name) =
    record { terminal = renumbered terminal (number_of lists.names name); lists = record lists { names = add_name lists.names name } }

-- The terminal of a symbol with these bytes: a string literal, a tail and a name have their places in the lists, and what is
-- new is added. The tail of DATA adds its items, which are those of the line at this place, and that of REM adds none.
abbrev pub number_terminal : ℕ → Bool → List ℕ → Terminal → Lists → Numbered
number_terminal line in_data bytes (t.Literal n) lists =
    record { terminal = t.Literal (length lists.texts); lists = record lists { texts = lists.texts ++ literal_text bytes ∷ [] } }
number_terminal line in_data bytes (t.Tail n) lists =
    record { terminal = t.Tail (length lists.data_items); lists = record lists { data_items = lists.data_items ++ (if in_data then map (data_item line) (pieces_from false bytes) else []) } }
number_terminal line in_data bytes terminal lists = number_name terminal lists (name_of bytes terminal)

abbrev pub is_data : Terminal → Bool
is_data (t.Keyword word.Data) = true
is_data _ = false

-- The terminals of a line with their numbers, and the lists after the line.
pub record NumberedLine : Type 0 where
  pub terminals : List Terminal
  pub lists : Lists

abbrev pub with_terminal : Terminal → NumberedLine → NumberedLine
with_terminal terminal line = record line { terminals = terminal ∷ line.terminals }

-- The terminals of symbols of a text, from one on. It says whether DATA stands directly before.
unfoldable pub number_line : ℕ → List ℕ → Bool → List Sym → List Terminal → Lists → NumberedLine
number_line line text in_data [] terminals lists = record { terminals = []; lists = lists }
number_line line text in_data (symbol ∷ symbols) [] lists = record { terminals = []; lists = lists }
number_line line text in_data (symbol ∷ symbols) (terminal ∷ terminals) lists =
    let first = number_terminal line in_data (slice_range text symbol.from symbol.to) terminal lists in
    with_terminal first.terminal (number_line line text (is_data terminal) symbols terminals first.lists)
