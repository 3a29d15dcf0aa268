-- The flat code of a program, item by item. This project's own.
use Rattle.std.specs.Prelude.{ℕ, zero, suc, ◌+◌, pos, negsuc, Bool, true, false, List, [], ◌∷◌, ◌++◌, Option, None, Some, length, flat_map}
use Rattle.bas_ast.specs.declared.expressions.Any.{Any}
use Rattle.bas_ast.specs.declared.expressions.Any.TheVariants as any
use Rattle.bas_ast.specs.declared.expressions.NumExpr.{NumExpr, more_of-NumExpr as held}
use Rattle.bas_ast.specs.declared.expressions.NumExpr.TheVariants as num
use Rattle.bas_ast.specs.declared.expressions.StrExpr.{StrExpr}
use Rattle.bas_ast.specs.declared.expressions.StrExpr.TheVariants as str
use Rattle.bas_ast.specs.declared.expressions.BinaryOp.TheVariants as operators
use Rattle.bas_ast.specs.declared.expressions.UnaryOp.{UnaryOp}
use Rattle.bas_ast.specs.declared.expressions.UnaryOp.TheVariants as unary
use Rattle.bas_ast.specs.declared.expressions.Variable.TheVariants as var
use Rattle.bas_ast.specs.declared.lines.Head.{Head}
use Rattle.bas_ast.specs.declared.lines.Head.TheVariants as head
use Rattle.bas_ast.specs.declared.lines.Item.{Item}
use Rattle.bas_ast.specs.declared.lines.Item.TheVariants as item
use Rattle.bas_ast.specs.declared.lines.Jump.{Jump}
use Rattle.bas_ast.specs.declared.lines.Jump.TheVariants as jumps
use Rattle.bas_ast.specs.declared.program.Prog.{Prog}
use Rattle.bas_ast.specs.declared.program.ProgLine.{ProgLine}
use Rattle.bas_ast.specs.declared.statements.Assignment.{Assignment}
use Rattle.bas_ast.specs.declared.statements.Assignment.TheVariants as assigns
use Rattle.bas_ast.specs.declared.statements.Flow.{Flow}
use Rattle.bas_ast.specs.declared.statements.Flow.TheVariants as flow
use Rattle.bas_ast.specs.declared.statements.Output.{Output}
use Rattle.bas_ast.specs.declared.statements.Output.TheVariants as writes
use Rattle.bas_ast.specs.declared.statements.PrintPart.{PrintPart}
use Rattle.bas_ast.specs.declared.statements.PrintPart.TheVariants as prints
use Rattle.bas_ast.specs.declared.statements.Stmt.{Stmt}
use Rattle.bas_ast.specs.declared.statements.Stmt.TheVariants as stmt
use Rattle.bas_ast.specs.declared.statements.VduPart.{VduPart}
use Rattle.bas_ast.specs.declared.statements.VduPart.TheVariants as sends
use Rattle.bas_ast.specs.declared.targets.NumTarget.TheVariants as target
use Rattle.bas_ast.specs.declared.targets.Target.{Target}
use Rattle.bas_ast.specs.declared.targets.Target.TheVariants as targets
use Rattle.bas_ast.specs.Structures.{OpensWhile, OpensIf, DividesIf, OpensCase, DividesCase}
use Rattle.bas_ir.specs.declared.ir.Height.{Height}
use Rattle.bas_ir.specs.declared.ir.Ir.{Ir}
use Rattle.bas_ir.specs.declared.ir.LineStart.{LineStart}
use Rattle.bas_ir.specs.declared.op.Mark.TheVariants as marks
use Rattle.bas_ir.specs.declared.op.Op.{Op}
use Rattle.bas_ir.specs.declared.op.Op.TheVariants as o
use Rattle.bas_ir.specs.declared.op.Piece.TheVariants as pieces
use Rattle.bas_ir.specs.Heights.{height_after, empty_height}
use Rattle.bas_store.specs.declared.cell.IntegerCell.{IntegerCell}
use Rattle.bas_store.specs.declared.cell.IntegerCell.TheVariants as cells
use Rattle.bas_store.specs.Cells.{Cell, Resident, Integer, integer_cell}
use Rattle.bas_value.specs.Errors.{no_such_line, on_range, stopped}
use Rattle.ir_build.specs.Fused.{fused}
use Rattle.bas_sem.specs.Data.{data_texts, restored}
use Rattle.bas_sem.specs.Places.{Row, Branch, rows, next_line, else_place, on_else, after_end, branches_of, line_place}

-- Reads and stores of an integer.
abbrev pub read_op : ℕ → Cell → Op
read_op line (Resident index) = o.PushResident index
read_op line (Integer name) = o.PushInteger name line

-- the store of an integer
abbrev pub store_op : Cell → Op
store_op (Resident index) = o.StoreResident index
store_op (Integer name) = o.StoreInteger name

-- A word or sign before a number. Unary plus and INT change nothing.
abbrev pub unary_code : ℕ → UnaryOp → List Op
unary_code line unary.Plus = []
unary_code line unary.Minus = o.Unary unary.Minus line ∷ []
unary_code line unary.Not = o.Unary unary.Not line ∷ []
unary_code line unary.Abs = o.Unary unary.Abs line ∷ []
unary_code line unary.Sgn = o.Unary unary.Sgn line ∷ []
unary_code line unary.Int = []

-- An expression's code leaves one number more: its operands from left to right, each operator after its operands. A form that has
-- no meaning yet ends the run.
unfoldable pub expr_code : Prog → ℕ → NumExpr → List Op
expr_code prog line (num.Number value) = o.Push value ∷ []
expr_code prog line num.True = o.Push (negsuc 0) ∷ []
expr_code prog line num.False = o.Push (pos 0) ∷ []
expr_code prog line num.Count = o.PushColumn ∷ []
expr_code prog line (num.Variable (var.Simple name)) = read_op line (integer_cell prog.names name) ∷ []
expr_code prog line (num.Bracket' _ (held x _)) = expr_code prog line x
expr_code prog line (num.Unary' op _ (held x _)) = expr_code prog line x ++ unary_code line op
expr_code prog line (num.Binary' op _ (held x _) _ (held y _)) = expr_code prog line x ++ (expr_code prog line y ++ o.Binary op line ∷ [])
expr_code prog line _ = o.End ∷ o.Push (pos 0) ∷ []

-- A string is pushed and written. A form that has no meaning yet ends the run, and names no text.
abbrev pub text_code : StrExpr → List Op
text_code (str.Literal number) = o.PushText number ∷ o.WriteText ∷ []
text_code _ = o.End ∷ []

-- LET, `+=` and `-=`
abbrev pub assignment_code : Prog → ℕ → Assignment → List Op
assignment_code prog line (assigns.Number (target.Variable (var.Simple name)) x) = expr_code prog line x ++ store_op (integer_cell prog.names name) ∷ []
assignment_code prog line (assigns.Add (target.Variable (var.Simple name)) x) =
    read_op line (integer_cell prog.names name) ∷ (expr_code prog line x ++ o.Binary operators.Add line ∷ store_op (integer_cell prog.names name) ∷ [])
assignment_code prog line (assigns.Subtract (target.Variable (var.Simple name)) x) =
    read_op line (integer_cell prog.names name) ∷ (expr_code prog line x ++ o.Binary operators.Subtract line ∷ store_op (integer_cell prog.names name) ∷ [])
assignment_code prog line _ = o.End ∷ []

-- GOTO
abbrev pub go_op : Option ℕ → ℕ → Op
go_op None line = o.Raise no_such_line line
go_op (Some place) line = o.Go place

-- GOSUB
abbrev pub gosub_op : Option ℕ → ℕ → Op
gosub_op None line = o.Raise no_such_line line
gosub_op (Some place) line = o.Gosub line place

-- the variable of a FOR
abbrev pub counter_of : Cell → IntegerCell
counter_of (Resident index) = cells.Resident index
counter_of (Integer name) = cells.Named name

-- the step of FOR, 1 where it has none
abbrev pub step_code : Prog → ℕ → Option NumExpr → List Op
step_code prog line None = o.Push (pos 1) ∷ []
step_code prog line (Some x) = expr_code prog line x

-- FOR of a variable's cell: the start is stored before the limit and the step are evaluated
abbrev pub for_code : Prog → ℕ → Cell → NumExpr → NumExpr → Option NumExpr → List Op
for_code prog line cell x y z =
    expr_code prog line x ++ store_op cell ∷ (expr_code prog line y ++ (step_code prog line z ++ o.OpenFor (counter_of cell) line ∷ []))

-- NEXT of each of these variables
abbrev pub nexts_code : Prog → ℕ → List ℕ → List Op
nexts_code prog line [] = []
nexts_code prog line (name ∷ names) = o.Next (counter_of (integer_cell prog.names name)) line ∷ nexts_code prog line names

-- NEXT, with the variables that it has
abbrev pub next_code : Prog → ℕ → List ℕ → List Op
next_code prog line [] = o.NextAny line ∷ []
next_code prog line (name ∷ names) = nexts_code prog line (name ∷ names)

-- What says where the run goes on, at a place. WHILE with 0 jumps past its ENDWHILE, and else opens.
abbrev pub flow_code : Prog → ℕ → ℕ → Flow → List Op
flow_code prog place line (flow.Goto number) = go_op (line_place prog number) line ∷ []
flow_code prog place line (flow.Gosub number) = gosub_op (line_place prog number) line ∷ []
flow_code prog place line flow.Return = o.Return line ∷ []
flow_code prog place line (flow.For name x y z) = for_code prog line (integer_cell prog.names name) x y z
flow_code prog place line (flow.Next names) = next_code prog line names
flow_code prog place line (flow.Until x) = expr_code prog line x ++ o.Until line ∷ []
flow_code prog place line (flow.While x) = expr_code prog line x ++ o.GoIfZero (after_end prog OpensWhile place) ∷ o.OpenWhile line ∷ []
flow_code prog place line flow.EndWhile = o.EndWhile line ∷ []
flow_code prog place line flow.End = o.End ∷ []
flow_code prog place line flow.Stop = o.Raise stopped line ∷ []
flow_code prog place line flow.Quit = o.End ∷ []

-- A line of ON, which is chosen where the number has come down to 1.
abbrev pub choice_op : Jump → Option ℕ → ℕ → Op
choice_op jump None line = o.RaiseIfOne no_such_line line
choice_op jumps.Goto (Some place) line = o.GoIfOne place
choice_op jumps.Gosub (Some place) line = o.GosubIfOne line place

-- the lines of ON
abbrev pub choices_code : Prog → ℕ → Jump → List ℕ → List Op
choices_code prog line jump [] = []
choices_code prog line jump (number ∷ numbers) = choice_op jump (line_place prog number) line ∷ choices_code prog line jump numbers

-- ON whose number has no line goes on after its ELSE, if there is one
abbrev pub otherwise_op : Option ℕ → ℕ → Op
otherwise_op None line = o.Raise on_range line
otherwise_op (Some place) line = o.Go place

-- ON at a place
abbrev pub on_code : Prog → ℕ → ℕ → NumExpr → Jump → List ℕ → List Op
on_code prog place line x jump numbers =
    expr_code prog line x ++ (choices_code prog line jump numbers ++ o.Discard ∷ otherwise_op (on_else prog place) line ∷ [])

-- a new line where it is wanted
abbrev pub finish_code : Bool → List Op
finish_code true = o.WriteMark marks.NewLine ∷ []
finish_code false = []

-- PRINT
unfoldable pub print_code : Prog → ℕ → (padded new_line : Bool) → List PrintPart → List Op
print_code prog line padded new_line [] = finish_code new_line
print_code prog line padded new_line (prints.Comma ∷ parts) = o.WriteMark marks.Field ∷ print_code prog line true true parts
print_code prog line padded new_line (prints.Semicolon ∷ parts) = print_code prog line false false parts
print_code prog line padded new_line (prints.NewLine ∷ parts) = o.WriteMark marks.NewLine ∷ print_code prog line padded true parts
print_code prog line padded new_line (prints.Number format x ∷ parts) =
    expr_code prog line x ++ o.WriteNumber padded format ∷ print_code prog line padded true parts
print_code prog line padded new_line (prints.Text x ∷ parts) = text_code x ++ print_code prog line padded true parts
print_code prog line padded new_line (prints.Spaces x ∷ parts) =
    expr_code prog line x ++ o.Write pieces.Spaces ∷ print_code prog line padded true parts
print_code prog line padded new_line (prints.Tab x ∷ parts) = expr_code prog line x ++ o.Write pieces.Tab ∷ print_code prog line padded true parts

-- VDU
unfoldable pub vdu_code : Prog → ℕ → List VduPart → List Op
vdu_code prog line [] = []
vdu_code prog line (sends.Byte x ∷ parts) = expr_code prog line x ++ o.Write pieces.Byte ∷ vdu_code prog line parts
vdu_code prog line (sends.Word x ∷ parts) = expr_code prog line x ++ o.Write pieces.Word ∷ vdu_code prog line parts

-- PRINT, VDU, MODE, COLOUR and CLS
abbrev pub output_code : Prog → ℕ → Output → List Op
output_code prog line (writes.Print parts) = print_code prog line true true parts
output_code prog line (writes.Vdu parts) = vdu_code prog line parts
output_code prog line (writes.Mode x) = expr_code prog line x ++ o.Write pieces.Mode ∷ []
output_code prog line (writes.Colour x) = expr_code prog line x ++ o.Write pieces.Colour ∷ []
output_code prog line writes.Cls = o.WriteMark marks.Clear ∷ []

-- READ: the number of an item is pushed and stored, for each variable
abbrev pub reads_code : Prog → ℕ → List Target → List Op
reads_code prog line [] = []
reads_code prog line (targets.Number (target.Variable (var.Simple name)) ∷ others) =
    o.ReadNumber line ∷ store_op (integer_cell prog.names name) ∷ reads_code prog line others
reads_code prog line _ = o.End ∷ []

-- RESTORE
abbrev pub restore_op : Option ℕ → ℕ → Op
restore_op None line = o.Raise no_such_line line
restore_op (Some place) line = o.Restore place

-- a plain statement at a place
abbrev pub statement_code : Prog → ℕ → ℕ → Stmt → List Op
statement_code prog place line (stmt.Assign a) = assignment_code prog line a
statement_code prog place line (stmt.Flow f) = flow_code prog place line f
statement_code prog place line (stmt.Output w) = output_code prog line w
statement_code prog place line (stmt.Read variables) = reads_code prog line variables
statement_code prog place line (stmt.Restore to) = restore_op (restored prog to) line ∷ []
statement_code prog place line _ = o.End ∷ []

-- The values of a WHEN of a line, which has this place after it. That of the CASE stays pending below each.
abbrev pub values_code : Prog → (line after : ℕ) → List Any → List Op
values_code prog line after [] = []
values_code prog line after (any.Number x ∷ xs) = expr_code prog line x ++ o.GoIfEqual after ∷ values_code prog line after xs
values_code prog line after (any.Text x ∷ xs) = o.End ∷ []

-- the WHENs of a CASE
abbrev pub branches_code : Prog → List Branch → List Op
branches_code prog [] = []
branches_code prog (b ∷ bs) = values_code prog b.line b.after b.values ++ branches_code prog bs

-- CASE at a place: after the values of its WHENs the run goes on after its OTHERWISE or ENDCASE
abbrev pub case_code : Prog → ℕ → ℕ → Any → List Op
case_code prog place line (any.Number x) =
    expr_code prog line x ++ (branches_code prog (branches_of prog place) ++ o.Discard ∷ o.Go (after_end prog OpensCase place) ∷ [])
case_code prog place line (any.Text x) = o.End ∷ []

-- what begins a line
abbrev pub head_code : Prog → ℕ → Head → List Op
head_code prog place head.BlockElse = o.Go (after_end prog DividesIf place) ∷ []
head_code prog place head.EndIf = []
head_code prog place (head.When values) = o.Go (after_end prog DividesCase place) ∷ []
head_code prog place head.Otherwise = o.Go (after_end prog DividesCase place) ∷ []
head_code prog place head.EndCase = []
head_code prog place _ = o.End ∷ []

-- An item at a place. What goes on with the next item falls through to it.
abbrev pub item_code : Prog → ℕ → ℕ → Item → List Op
item_code prog place line (item.Head h) = head_code prog place h
item_code prog place line (item.Stmt s) = statement_code prog place line s
item_code prog place line (item.If x) = expr_code prog line x ++ o.GoIfZero (else_place prog place) ∷ []
item_code prog place line (item.BlockIf x) = expr_code prog line x ++ o.GoIfZero (after_end prog OpensIf place) ∷ []
item_code prog place line (item.On x jump numbers) = on_code prog place line x jump numbers
item_code prog place line (item.Case x) = case_code prog place line x
item_code prog place line item.Repeat = o.OpenRepeat line ∷ []
item_code prog place line item.Else = o.Go (next_line prog place) ∷ []
item_code prog place line (item.Data n) = []
item_code prog place line item.Remark = []
item_code prog place line _ = o.End ∷ []

-- An item that does nothing is one jump to the next.
abbrev pub or_jump : ℕ → List Op → List Op
or_jump next [] = o.Go next ∷ []
or_jump next (op ∷ ops) = op ∷ ops

-- the operations of an item at a place, of which there is at least one
abbrev pub row_ops : Prog → ℕ → Row → List Op
row_ops prog place row = or_jump (place + 1) (item_code prog place row.line row.item)

-- The code of an item at a place: its operations, fused where one can do what several do.
abbrev pub row_code : Prog → ℕ → Row → List Op
row_code prog place row = fused (row_ops prog place row)

-- the code of rows, of which the first is at a place
abbrev pub codes_from : Prog → ℕ → List Row → List (List Op)
codes_from prog place [] = []
codes_from prog place (row ∷ rest) = row_code prog place row ∷ codes_from prog (place + 1) rest

-- the code of each item
unfoldable pub codes : Prog → List (List Op)
codes prog = codes_from prog 0 (rows prog)

-- the operations of all items in one list
abbrev pub joined : List (List Op) → List Op
joined [] = []
joined (code ∷ rest) = code ++ joined rest

-- the first operation of each is marked
abbrev pub unmarked_all : List Op → List Bool
unmarked_all [] = []
unmarked_all (op ∷ ops) = false ∷ unmarked_all ops

-- the marks of the operations of one item
abbrev pub marks_of : List Op → List Bool
marks_of [] = []
marks_of (op ∷ ops) = true ∷ unmarked_all ops

-- the marks of all items in one list
abbrev pub joined_marks : List (List Op) → List Bool
joined_marks [] = []
joined_marks (code ∷ rest) = marks_of code ++ joined_marks rest

-- where each begins, after a number of others
abbrev pub starts_from : ℕ → List (List Op) → List ℕ
starts_from at [] = []
starts_from at (code ∷ rest) = at ∷ starts_from (at + length code) rest

-- where the code of an item begins in the whole list
abbrev pub start_at : List (List Op) → ℕ → ℕ
start_at [] item = 0
start_at (code ∷ rest) zero = 0
start_at (code ∷ rest) (suc item) = length code + start_at rest item

-- where each line begins: where its first item does, which has this place
abbrev pub line_starts_from : List (List Op) → List ProgLine → ℕ → List LineStart
line_starts_from codes [] place = []
line_starts_from codes (line ∷ lines) place =
    record { number = line.number; op = start_at codes place } ∷ line_starts_from codes lines (place + length line.items)

-- what is pending before each operation of an item
abbrev pub heights_of : Option Height → List Op → List Height
heights_of h [] = []
heights_of None (op ∷ ops) = empty_height ∷ heights_of None ops
heights_of (Some h) (op ∷ ops) = h ∷ heights_of (height_after [] op h) ops

-- The flat code of a program.
abbrev pub flat_code : Prog → Ir
flat_code prog = record {
  ops = joined (codes prog);
  marks = joined_marks (codes prog);
  starts = starts_from 0 (codes prog);
  heights = flat_map (heights_of (Some empty_height)) (codes prog);
  routines = [];
  texts = prog.texts;
  names = prog.names;
  data_items = data_texts prog;
  line_starts = line_starts_from (codes prog) prog.lines 0;
  size = prog.size;
}
