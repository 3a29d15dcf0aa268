-- The tables of the flat code as items are added. This project's own.
use Rattle.std.specs.Prelude.{ℕ, [], ◌++◌, List, Some, length, map, flat_map}
use Rattle.bas_ast.specs.declared.lines.Item.{Item}
use Rattle.bas_ast.specs.declared.program.ProgLine.{ProgLine}
use Rattle.bas_ir.specs.Heights.{empty_height}
use Rattle.bas_ir.specs.declared.op.Op.{Op}
use Rattle.bas_sem.specs.Places.{Row}
use Rattle.ir_build.specs.Code.{joined, joined_marks, starts_from, heights_of}
use Rattle.ir_build.specs.declared.tables.Tables.{Tables}

-- the tables of no item
abbrev pub no_tables : Tables
no_tables = record { ops = []; marks = []; starts = []; heights = [] }

-- tables to which items of these codes are added
abbrev pub with_codes : Tables → List (List Op) → Tables
with_codes tables codes = record {
  ops = tables.ops ++ joined codes;
  marks = tables.marks ++ joined_marks codes;
  starts = tables.starts ++ starts_from (length tables.ops) codes;
  heights = tables.heights ++ flat_map (heights_of (Some empty_height)) codes;
}

-- items with the number of their line
abbrev pub rows_of : ℕ → List Item → List Row
rows_of number items = map (λ item. record { line = number; item = item }) items

-- the items of a line, each with the line's number
abbrev pub line_rows : ProgLine → List Row
line_rows line = rows_of line.number line.items

-- the items of lines
abbrev pub rows_among : List ProgLine → List Row
rows_among lines = flat_map line_rows lines
