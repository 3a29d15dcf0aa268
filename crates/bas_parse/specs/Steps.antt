-- The parser of a line's items as functions on lists, item by item.
use Rattle.std.specs.Prelude.{ℕ, Bool, true, false, ◌&&◌, List, [], ◌∷◌, Option, Some, None, if◌then◌else◌}
use Rattle.std.specs.List.{list_all}
use Rattle.bas_ast.specs.declared.expressions.Any.{Any}
use Rattle.bas_ast.specs.declared.expressions.NumExpr.{NumExpr}
use Rattle.bas_ast.specs.declared.keywords.Keyword.{Keyword}
use Rattle.bas_ast.specs.declared.keywords.Keyword.TheVariants as word
use Rattle.bas_ast.specs.declared.lines.Item.{Item}
use Rattle.bas_ast.specs.declared.lines.Item.TheVariants as item
use Rattle.bas_ast.specs.declared.lines.Jump.{Jump}
use Rattle.bas_ast.specs.declared.lines.Jump.TheVariants as jump
use Rattle.bas_ast.specs.declared.statements.ErrorStmt.TheVariants as error
use Rattle.bas_ast.specs.declared.statements.Flow.TheVariants as flow
use Rattle.bas_ast.specs.declared.statements.Stmt.TheVariants as stmt
use Rattle.bas_ast.specs.declared.terminals.Terminal.{Terminal}
use Rattle.bas_ast.specs.declared.terminals.Terminal.TheVariants as t
use Rattle.bas_ast.specs.Lines.{continues}
use Rattle.expr_parse.specs.Parse.{Parser, on_front, longest_num}
use Rattle.expr_parse.specs.Operands.{longest_any}
use Rattle.bas_parse.specs.declared.place.Place.{Place}
use Rattle.bas_parse.specs.Operands.{line_at, list_of}
use Rattle.bas_parse.specs.Statements.{ended, stmt_at}

-- ---- places

-- the start of a line
abbrev pub line_start : Place
line_start = record { free = true; bare = false; ruled = false; branch = false }

-- after a `:`
abbrev pub colon_place : Place → Place
colon_place p = record { free = true; bare = p.bare; ruled = p.ruled; branch = false }

-- after an item that needs a `:`
abbrev pub item_place : Place → Place
item_place p = record { free = false; bare = false; ruled = p.ruled; branch = false }

-- after an item that needs none
abbrev pub word_place : Place → Place
word_place p = record { free = true; bare = false; ruled = p.ruled; branch = false }

-- after a condition without THEN
abbrev pub condition_place : Place
condition_place = record { free = true; bare = true; ruled = true; branch = false }

-- after THEN and ELSE
abbrev pub branch_place : Place
branch_place = record { free = true; bare = false; ruled = true; branch = true }

-- after an item that needs a `:` and rules an ELSE
abbrev pub ruling_place : Place
ruling_place = record { free = false; bare = false; ruled = true; branch = false }

-- ---- steps

-- What a step finds: an item, or none where it is a `:`, and the place after it.
abbrev pub Step : Type 0
Step = Option Item × Place

-- an item with the place after it
abbrev pub found : Item → Place → Parser Step
found x p r = Some ((Some x, p), r)

-- IF, by what follows its THEN
abbrev pub then_item : NumExpr → List Terminal → Item
then_item x [] = item.BlockIf x
then_item x (c ∷ r) = item.If x

-- what follows the condition of IF
unfoldable pub condition_step : NumExpr → Parser Step
condition_step x (t.Keyword word.Then ∷ r) = found (then_item x r) branch_place r
condition_step x r = found (item.If x) condition_place r

-- what follows IF
abbrev pub if_step : Parser Step
if_step r = on_front (longest_num r) (λ x q. condition_step x q)

-- the lines of ON, after GOTO or GOSUB
abbrev pub lines_step : NumExpr → Jump → Parser Step
lines_step x j r = on_front (list_of line_at r) (λ ns q. found (item.On x j ns) ruling_place q)

-- what follows ON's number
unfoldable pub jump_step : NumExpr → Parser Step
jump_step x (t.Keyword word.Goto ∷ r) = lines_step x jump.Goto r
jump_step x (t.Keyword word.Gosub ∷ r) = lines_step x jump.Gosub r
jump_step x _ = None

-- ON with a number
abbrev pub on_number : Parser Step
on_number r = on_front (longest_num r) (λ x q. jump_step x q)

-- whether a variable of LOCAL ends before a list
abbrev pub ends_local : List Terminal → Bool
ends_local (t.Comma ∷ r) = true
ends_local r = ended r

-- Whether what stands after LOCAL makes an item LOCAL: variables, or ERROR alone.
unfoldable pub local_item : List Terminal → Bool
local_item (t.IntName n ∷ r) = ends_local r
local_item (t.StrName n ∷ r) = ends_local r
local_item (t.Keyword word.Error ∷ r) = ended r
local_item _ = false

-- what follows ON ERROR
unfoldable pub error_step : Place → Parser Step
error_step p (t.Keyword word.Off ∷ r) = found (item.Stmt (stmt.Error error.OnErrorOff)) (item_place p) r
error_step p (t.Keyword word.Local ∷ r) =
    if local_item r then found item.OnError (word_place p) (t.Keyword word.Local ∷ r) else found item.OnErrorLocal (word_place p) r
error_step p r = found item.OnError (word_place p) r

-- what follows ON
unfoldable pub on_step : Place → Parser Step
on_step p (t.Keyword word.Error ∷ r) = error_step p r
on_step p r = on_number r

-- whether a terminal is a `:`
abbrev is_colon : Terminal → Bool
is_colon t.Colon = true
is_colon _ = false

-- whether a list has nothing but `:`
unfoldable pub all_colons : List Terminal → Bool
all_colons r = list_all is_colon r

-- what follows CASE's expression
unfoldable pub case_step : Place → Any → Parser Step
case_step p x (t.Keyword word.Of ∷ r) = if all_colons r then found (item.Case x) (item_place p) [] else None
case_step p x _ = None

-- what follows CASE
abbrev pub case_item : Place → Parser Step
case_item p r = on_front (longest_any r) (λ x q. case_step p x q)

-- what follows DATA
unfoldable pub data_step : Place → Parser Step
data_step p (t.Tail n ∷ []) = found (item.Data n) (item_place p) []
data_step p _ = None

-- what follows REM
unfoldable pub remark_step : Place → Parser Step
remark_step p (t.Tail n ∷ []) = found item.Remark (item_place p) []
remark_step p _ = None

-- what follows `[`
unfoldable pub open_step : Place → Parser Step
open_step p [] = found item.BeginAssembly (item_place p) []
open_step p (c ∷ r) = None

-- a line's number, which is a GOTO after THEN and ELSE
abbrev pub line_step : Place → ℕ → Parser Step
line_step p n r = if p.branch then found (item.Stmt (stmt.Flow (flow.Goto n))) ruling_place r else None

-- a plain statement
unfoldable pub plain_step : Place → Parser Step
plain_step p r = if p.bare && continues r then None else on_front (stmt_at r) (λ x q. found (item.Stmt x) (item_place p) q)

-- an item that begins with a keyword
unfoldable pub word_step : Place → Keyword → Parser Step
word_step p word.If r = if_step r
word_step p word.On r = on_step p r
word_step p word.Case r = case_item p r
word_step p word.Repeat r = found item.Repeat (word_place p) r
word_step p word.Data r = data_step p r
word_step p word.Rem r = remark_step p r
word_step p c r = plain_step p (t.Keyword c ∷ r)

-- an item, where one may begin
unfoldable pub item_step : Place → Parser Step
item_step p (t.Keyword c ∷ r) = word_step p c r
item_step p (t.LineRef n ∷ r) = line_step p n r
item_step p (t.OpenSquare ∷ r) = open_step p r
item_step p r = plain_step p r

-- an item, or a `:`
unfoldable pub step : Place → Parser Step
step p [] = None
step p (t.Colon ∷ r) = Some ((None, colon_place p), r)
step p (t.Keyword word.Else ∷ r) = if p.ruled then found item.Else branch_place r else None
step p r = if p.free then item_step p r else None
