-- Which forms of the language have a meaning yet. A line with another form is outside. Later work only widens this.
use Rattle.std.specs.Prelude.{Bool, true, false, ◌&&◌, Option, None, Some}
use Rattle.std.specs.List.{list_all}
use Rattle.bas_ast.specs.declared.expressions.Any.{Any}
use Rattle.bas_ast.specs.declared.expressions.Any.TheVariants as any
use Rattle.bas_ast.specs.declared.expressions.NumExpr.{NumExpr, more_of-NumExpr as held}
use Rattle.bas_ast.specs.declared.expressions.NumExpr.TheVariants as num
use Rattle.bas_ast.specs.declared.expressions.StrExpr.{StrExpr}
use Rattle.bas_ast.specs.declared.expressions.StrExpr.TheVariants as str
use Rattle.bas_ast.specs.declared.expressions.Variable.{Variable}
use Rattle.bas_ast.specs.declared.expressions.Variable.TheVariants as var
use Rattle.bas_ast.specs.declared.lines.Head.{Head}
use Rattle.bas_ast.specs.declared.lines.Head.TheVariants as head
use Rattle.bas_ast.specs.declared.lines.Item.{Item}
use Rattle.bas_ast.specs.declared.lines.Item.TheVariants as item
use Rattle.bas_ast.specs.declared.statements.Assignment.{Assignment}
use Rattle.bas_ast.specs.declared.statements.Assignment.TheVariants as assigns
use Rattle.bas_ast.specs.declared.statements.Flow.{Flow}
use Rattle.bas_ast.specs.declared.statements.Flow.TheVariants as flow
use Rattle.bas_ast.specs.declared.statements.Output.{Output}
use Rattle.bas_ast.specs.declared.statements.Output.TheVariants as writes
use Rattle.bas_ast.specs.declared.statements.PrintPart.{PrintPart}
use Rattle.bas_ast.specs.declared.statements.PrintPart.TheVariants as prints
use Rattle.bas_ast.specs.declared.statements.Stmt.{Stmt}
use Rattle.bas_ast.specs.declared.statements.Stmt.TheVariants as stmt
use Rattle.bas_ast.specs.declared.statements.VduPart.{VduPart}
use Rattle.bas_ast.specs.declared.statements.VduPart.TheVariants as sends
use Rattle.bas_ast.specs.declared.targets.NumTarget.{NumTarget}
use Rattle.bas_ast.specs.declared.targets.NumTarget.TheVariants as target
use Rattle.bas_ast.specs.declared.targets.Target.{Target}
use Rattle.bas_ast.specs.declared.targets.Target.TheVariants as targets

-- a variable that is no array's element
abbrev pub plain_variable : Variable → Bool
plain_variable (var.Simple name) = true
plain_variable _ = false

-- numbers, TRUE, FALSE, COUNT, variables, brackets, and the operators between and before numbers
unfoldable pub num_in_profile : NumExpr → Bool
num_in_profile (num.Number value) = true
num_in_profile num.True = true
num_in_profile num.False = true
num_in_profile num.Count = true
num_in_profile (num.Variable v) = plain_variable v
num_in_profile (num.Bracket' _ (held x _)) = num_in_profile x
num_in_profile (num.Unary' op _ (held x _)) = num_in_profile x
num_in_profile (num.Binary' op _ (held x _) _ (held y _)) = num_in_profile x && num_in_profile y
num_in_profile _ = false

-- one string literal
abbrev pub text_in_profile : StrExpr → Bool
text_in_profile (str.Literal number) = true
text_in_profile _ = false

abbrev pub target_in_profile : NumTarget → Bool
target_in_profile (target.Variable v) = plain_variable v
target_in_profile _ = false

-- `=`, `+=` and `-=` of a number
abbrev pub assignment_in_profile : Assignment → Bool
assignment_in_profile (assigns.Number t x) = target_in_profile t && num_in_profile x
assignment_in_profile (assigns.Add t x) = target_in_profile t && num_in_profile x
assignment_in_profile (assigns.Subtract t x) = target_in_profile t && num_in_profile x
assignment_in_profile _ = false

-- the step of FOR, if it has one
abbrev pub step_in_profile : Option NumExpr → Bool
step_in_profile None = true
step_in_profile (Some x) = num_in_profile x

-- all that say where the run goes on
abbrev pub flow_in_profile : Flow → Bool
flow_in_profile (flow.Goto line) = true
flow_in_profile (flow.Gosub line) = true
flow_in_profile flow.Return = true
flow_in_profile (flow.For variable start limit step) = num_in_profile start && num_in_profile limit && step_in_profile step
flow_in_profile (flow.Next variables) = true
flow_in_profile (flow.Until x) = num_in_profile x
flow_in_profile (flow.While x) = num_in_profile x
flow_in_profile flow.EndWhile = true
flow_in_profile flow.End = true
flow_in_profile flow.Stop = true
flow_in_profile flow.Quit = true

abbrev pub print_part_in_profile : PrintPart → Bool
print_part_in_profile prints.Comma = true
print_part_in_profile prints.Semicolon = true
print_part_in_profile prints.NewLine = true
print_part_in_profile (prints.Number format x) = num_in_profile x
print_part_in_profile (prints.Text x) = text_in_profile x
print_part_in_profile (prints.Spaces x) = num_in_profile x
print_part_in_profile (prints.Tab x) = num_in_profile x

abbrev pub vdu_part_in_profile : VduPart → Bool
vdu_part_in_profile (sends.Byte x) = num_in_profile x
vdu_part_in_profile (sends.Word x) = num_in_profile x

-- PRINT, VDU, MODE, COLOUR and CLS
abbrev pub output_in_profile : Output → Bool
output_in_profile (writes.Print parts) = list_all print_part_in_profile parts
output_in_profile (writes.Vdu parts) = list_all vdu_part_in_profile parts
output_in_profile (writes.Mode x) = num_in_profile x
output_in_profile (writes.Colour x) = num_in_profile x
output_in_profile writes.Cls = true

-- where READ stores a number
abbrev pub read_in_profile : Target → Bool
read_in_profile (targets.Number t) = target_in_profile t
read_in_profile (targets.Text t) = false

abbrev pub stmt_in_profile : Stmt → Bool
stmt_in_profile (stmt.Assign a) = assignment_in_profile a
stmt_in_profile (stmt.Flow f) = flow_in_profile f
stmt_in_profile (stmt.Output o) = output_in_profile o
stmt_in_profile (stmt.Read variables) = list_all read_in_profile variables
stmt_in_profile (stmt.Restore line) = true
stmt_in_profile _ = false

-- a value of CASE or WHEN that is a number
abbrev pub value_in_profile : Any → Bool
value_in_profile (any.Number x) = num_in_profile x
value_in_profile (any.Text x) = false

-- WHEN of numbers, OTHERWISE, ELSE of a block IF, ENDIF and ENDCASE
abbrev pub head_in_profile : Head → Bool
head_in_profile (head.When values) = list_all value_in_profile values
head_in_profile head.Otherwise = true
head_in_profile head.BlockElse = true
head_in_profile head.EndIf = true
head_in_profile head.EndCase = true
head_in_profile _ = false

-- plain statements, what begins the lines of a block IF or a CASE, IF, ELSE within a line, ON with lines, CASE of a number, REPEAT, DATA
-- and REM
abbrev pub in_profile : Item → Bool
in_profile (item.Head h) = head_in_profile h
in_profile (item.Stmt s) = stmt_in_profile s
in_profile (item.If x) = num_in_profile x
in_profile (item.BlockIf x) = num_in_profile x
in_profile item.Else = true
in_profile (item.On x jump lines) = num_in_profile x
in_profile (item.Case x) = value_in_profile x
in_profile item.Repeat = true
in_profile (item.Data number) = true
in_profile item.Remark = true
in_profile _ = false
