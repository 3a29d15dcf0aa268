-- What the parser of lines promises.
use Rattle.std.specs.Prelude.{◌≡◌, List, Result, Ok, Err}
use Rattle.bas_ast.specs.declared.lines.Item.{Item}
use Rattle.bas_ast.specs.declared.terminals.Terminal.{Terminal}
use Rattle.bas_ast.specs.Lines.{IsRun}
use Rattle.expr_parse.specs.declared.top.ParseError.{ParseError}
use Rattle.expr_parse.specs.declared.top.ParseError.TheVariants as error

-- The items of a run of a line; or that it has none by the grammar. Want of memory is free.
abbrev pub RunParsed : List Terminal → Result (List Item) ParseError → Type 0
RunParsed list (Ok items) = IsRun list items
RunParsed list (Err error.Outside) = (items : List Item) → IsRun list items → ⊥
RunParsed list (Err error.NoMemory) = Unit {0}

-- A run of a line has one list of items at most.
abbrev pub OneRun : List Terminal → Type 0
OneRun list = (xs ys : List Item) → IsRun list xs → IsRun list ys → xs ≡ ys
