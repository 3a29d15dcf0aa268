-- What each item of a program does, one equation for each kind (BBC BASIC Reference Manual, under the item's keyword). The
-- forms that have no meaning yet share the last equation of their family.
use Rattle.std.specs.Prelude.{ℕ, suc, ◌+◌, ◌-◌, ℤ, pos, Bool, true, false, List, [], ◌∷◌, Option, None, Some, slice_get, if◌then◌else◌}
use Rattle.std.specs.Ordering.{int_eq}
use Rattle.bas_ast.specs.declared.expressions.Any.{Any}
use Rattle.bas_ast.specs.declared.expressions.Any.TheVariants as any
use Rattle.bas_ast.specs.declared.expressions.NumExpr.{NumExpr}
use Rattle.bas_ast.specs.declared.expressions.Variable.TheVariants as var
use Rattle.bas_ast.specs.declared.lines.Head.{Head}
use Rattle.bas_ast.specs.declared.lines.Head.TheVariants as head
use Rattle.bas_ast.specs.declared.lines.Item.{Item}
use Rattle.bas_ast.specs.declared.lines.Item.TheVariants as item
use Rattle.bas_ast.specs.declared.lines.Jump.{Jump}
use Rattle.bas_ast.specs.declared.lines.Jump.TheVariants as jumps
use Rattle.bas_ast.specs.declared.program.Prog.{Prog}
use Rattle.bas_ast.specs.declared.statements.Assignment.{Assignment}
use Rattle.bas_ast.specs.declared.statements.Assignment.TheVariants as assigns
use Rattle.bas_ast.specs.declared.statements.Flow.{Flow}
use Rattle.bas_ast.specs.declared.statements.Flow.TheVariants as flow
use Rattle.bas_ast.specs.declared.statements.Output.{Output}
use Rattle.bas_ast.specs.declared.statements.Output.TheVariants as writes
use Rattle.bas_ast.specs.declared.statements.PrintPart.{PrintPart}
use Rattle.bas_ast.specs.declared.statements.PrintPart.TheVariants as prints
use Rattle.bas_ast.specs.declared.statements.Stmt.{Stmt}
use Rattle.bas_ast.specs.declared.statements.Stmt.TheVariants as stmt
use Rattle.bas_ast.specs.declared.statements.VduPart.{VduPart}
use Rattle.bas_ast.specs.declared.statements.VduPart.TheVariants as sends
use Rattle.bas_ast.specs.declared.targets.NumTarget.TheVariants as target
use Rattle.bas_ast.specs.declared.targets.Target.{Target}
use Rattle.bas_ast.specs.declared.targets.Target.TheVariants as targets
use Rattle.bas_ast.specs.Structures.{OpensWhile, OpensIf, DividesIf, OpensCase, DividesCase}
use Rattle.bas_store.specs.Cells.{integer_cell}
use Rattle.bas_store.specs.Opened.{AnyNext, NextOf, EndWhile, Return}
use Rattle.bas_store.specs.Stored.{For, Repeat, While, Gosub}
use Rattle.bas_value.specs.Errors.{no_such_line, on_range, stopped}
use Rattle.bas_value.specs.Output as out
use Rattle.bv_num.specs.Operation.{operation, Add, Subtract}
use Rattle.bv_run.specs.declared.report.Report.TheVariants.{Done}
use Rattle.bas_sem.specs.Course.{Action, ◌>>=◌, ◌>>◌, give, over}
use Rattle.bas_sem.specs.Actions.{outside, read, assign, write, raise, or_raise}
use Rattle.bas_sem.specs.Calls.{Calls, Level, Next, go_on}
use Rattle.bas_sem.specs.Data.{data_texts, next_number, restored, restore}
use Rattle.bas_sem.specs.Evaluate.{evaluate, evaluate_text}
use Rattle.bas_sem.specs.Loops.{opens, closing, until, next}
use Rattle.bas_sem.specs.Places.{Branch, next_line, else_place, on_else, after_end, branches_of, line_place}

-- LET: the value is evaluated and then stored. `+=` and `-=` read the old value before they evaluate the other.
abbrev pub assignment : Prog → Calls → ℕ → Assignment → Action (Unit {0})
assignment prog calls line (assigns.Number (target.Variable (var.Simple name)) x) = do
  value ← evaluate prog calls line x
  assign (integer_cell prog.names name) value
assignment prog calls line (assigns.Add (target.Variable (var.Simple name)) x) = do
  old ← read line (integer_cell prog.names name)
  value ← evaluate prog calls line x
  sum ← or_raise line (operation Add old value)
  assign (integer_cell prog.names name) sum
assignment prog calls line (assigns.Subtract (target.Variable (var.Simple name)) x) = do
  old ← read line (integer_cell prog.names name)
  value ← evaluate prog calls line x
  difference ← or_raise line (operation Subtract old value)
  assign (integer_cell prog.names name) difference
assignment prog calls line _ = outside

-- the place of a line, or the error that there is none
abbrev pub go_to : Option ℕ → ℕ → Action Next
go_to None line = raise no_such_line line
go_to (Some place) line = go_on place

-- GOSUB at a place: the line is gone to, with the place after the item open
abbrev pub gosub_to : Level → ℕ → ℕ → Option ℕ → Action Next
gosub_to level place line None = raise no_such_line line
gosub_to level place line (Some to) = opens level.depth line Gosub (place + 1) >> go_on to

-- goes round a loop again, or else on with the rest
abbrev pub back_or : Action Next → Option ℕ → Action Next
back_or rest None = rest
back_or rest (Some place) = go_on place

-- NEXT of each of these variables: one that goes round again leaves the rest unseen
abbrev pub nexts : Prog → Level → ℕ → ℕ → List ℕ → Action Next
nexts prog level place line [] = go_on (place + 1)
nexts prog level place line (name ∷ names) = next level.depth line (NextOf (integer_cell prog.names name)) >>= back_or (nexts prog level place line names)

-- NEXT, with the variables that it has
abbrev pub next_of : Prog → Level → ℕ → ℕ → List ℕ → Action Next
next_of prog level place line [] = next level.depth line AnyNext >>= back_or (go_on (place + 1))
next_of prog level place line (name ∷ names) = nexts prog level place line (name ∷ names)

-- the step of FOR, 1 where it has none
abbrev pub step_of : Prog → Calls → ℕ → Option NumExpr → Action ℤ
step_of prog calls line None = give (pos 1)
step_of prog calls line (Some x) = evaluate prog calls line x

-- WHILE at a place, by whether its value is 0
abbrev pub while_if : Bool → Prog → Level → ℕ → ℕ → Action Next
while_if true prog level place line = go_on (after_end prog OpensWhile place)
while_if false prog level place line = opens level.depth line While (place + 1) >> go_on (place + 1)

-- What says where the run goes on. A line that the program doesn't have is an error when it is gone to. FOR stores its start before
-- it evaluates its limit and its step. ENDWHILE goes on at its WHILE, which is executed again.
abbrev pub goes : Prog → Calls → Level → ℕ → ℕ → Flow → Action Next
goes prog calls level place line (flow.Goto number) = go_to (line_place prog number) line
goes prog calls level place line (flow.Gosub number) = gosub_to level place line (line_place prog number)
goes prog calls level place line flow.Return = closing level.depth line Return >>= go_on
goes prog calls level place line (flow.For name x y z) = do
  start ← evaluate prog calls line x
  assign (integer_cell prog.names name) start
  limit ← evaluate prog calls line y
  step ← step_of prog calls line z
  opens level.depth line (For (integer_cell prog.names name) limit step) (place + 1)
  go_on (place + 1)
goes prog calls level place line (flow.Next names) = next_of prog level place line names
goes prog calls level place line (flow.Until x) = evaluate prog calls line x >>= (λ value. until level.depth line value >>= back_or (go_on (place + 1)))
goes prog calls level place line (flow.While x) = evaluate prog calls line x >>= (λ value. while_if (int_eq value (pos 0)) prog level place line)
goes prog calls level place line flow.EndWhile = closing level.depth line EndWhile >>= (λ after. go_on (after - 1))
goes prog calls level place line flow.End = over Done
goes prog calls level place line flow.Quit = over Done
goes prog calls level place line flow.Stop = raise stopped line

-- the n-th line of ON, counted from 1, if there is one
abbrev pub chosen : ℤ → List ℕ → Option ℕ
chosen (pos (suc n)) lines = slice_get lines n
chosen _ lines = None

-- ON at a place, with the line that is chosen
abbrev pub on_line : Prog → Level → ℕ → ℕ → Jump → ℕ → Action Next
on_line prog level place line jumps.Goto number = go_to (line_place prog number) line
on_line prog level place line jumps.Gosub number = gosub_to level place line (line_place prog number)

-- ON whose number has no line: after the ELSE, or error 40
abbrev pub out_of_range : ℕ → Option ℕ → Action Next
out_of_range line None = raise on_range line
out_of_range line (Some place) = go_on place

-- ON at a place, with the line that is chosen or none
abbrev pub on_chosen : Prog → Level → ℕ → ℕ → Jump → Option ℕ → Action Next
on_chosen prog level place line jump None = out_of_range line (on_else prog place)
on_chosen prog level place line jump (Some number) = on_line prog level place line jump number

-- a new line where it is wanted
abbrev pub finish : Bool → Action (Unit {0})
finish true = write out.NewLine
finish false = give tt

-- PRINT: each part is written as it is evaluated. After `;` numbers are unpadded, until a comma. A new line ends it, unless
-- its last part is `;`.
unfoldable pub print : Prog → Calls → ℕ → (padded new_line : Bool) → List PrintPart → Action (Unit {0})
print prog calls line padded new_line [] = finish new_line
print prog calls line padded new_line (prints.Comma ∷ parts) = write out.Field >> print prog calls line true true parts
print prog calls line padded new_line (prints.Semicolon ∷ parts) = print prog calls line false false parts
print prog calls line padded new_line (prints.NewLine ∷ parts) = write out.NewLine >> print prog calls line padded true parts
print prog calls line padded new_line (prints.Number format x ∷ parts) = do
  value ← evaluate prog calls line x
  write (out.Number padded format value)
  print prog calls line padded true parts
print prog calls line padded new_line (prints.Text x ∷ parts) = do
  text ← evaluate_text prog calls line x
  write (out.Text text)
  print prog calls line padded true parts
print prog calls line padded new_line (prints.Spaces x ∷ parts) = do
  value ← evaluate prog calls line x
  write (out.Spaces value)
  print prog calls line padded true parts
print prog calls line padded new_line (prints.Tab x ∷ parts) = do
  value ← evaluate prog calls line x
  write (out.Tab value)
  print prog calls line padded true parts

-- VDU: each number is written before the next is evaluated
unfoldable pub vdu : Prog → Calls → ℕ → List VduPart → Action (Unit {0})
vdu prog calls line [] = give tt
vdu prog calls line (sends.Byte x ∷ parts) = do
  value ← evaluate prog calls line x
  write (out.Byte value)
  vdu prog calls line parts
vdu prog calls line (sends.Word x ∷ parts) = do
  value ← evaluate prog calls line x
  write (out.Word value)
  vdu prog calls line parts

-- PRINT, VDU, MODE, COLOUR and CLS. The number of MODE and COLOUR is evaluated before anything is written.
abbrev pub output : Prog → Calls → ℕ → Output → Action (Unit {0})
output prog calls line (writes.Print parts) = print prog calls line true true parts
output prog calls line (writes.Vdu parts) = vdu prog calls line parts
output prog calls line (writes.Mode x) = evaluate prog calls line x >>= (λ value. write (out.Mode value))
output prog calls line (writes.Colour x) = evaluate prog calls line x >>= (λ value. write (out.Colour value))
output prog calls line writes.Cls = write out.Clear

-- READ: for each variable the next item of DATA is taken, and then its number is stored.
abbrev pub reads : Prog → ℕ → List Target → Action (Unit {0})
reads prog line [] = give tt
reads prog line (targets.Number (target.Variable (var.Simple name)) ∷ others) = do
  value ← next_number (data_texts prog) line
  assign (integer_cell prog.names name) value
  reads prog line others
reads prog line _ = outside

-- a plain statement at a place
abbrev pub statement : Prog → Calls → Level → ℕ → ℕ → Stmt → Action Next
statement prog calls level place line (stmt.Assign a) = assignment prog calls line a >> go_on (place + 1)
statement prog calls level place line (stmt.Flow f) = goes prog calls level place line f
statement prog calls level place line (stmt.Output o) = output prog calls line o >> go_on (place + 1)
statement prog calls level place line (stmt.Read variables) = reads prog line variables >> go_on (place + 1)
statement prog calls level place line (stmt.Restore to) = restore (restored prog to) line >> go_on (place + 1)
statement prog calls level place line _ = outside

-- Where IF goes on: with 0 after the first ELSE after it on its line, or at the next line where there is none.
abbrev pub branch : Prog → ℕ → ℤ → ℕ
branch prog place value = if int_eq value (pos 0) then else_place prog place else place + 1

-- Where a block IF goes on: with 0 after its ELSE or ENDIF.
abbrev pub block_branch : Prog → ℕ → ℤ → ℕ
block_branch prog place value = if int_eq value (pos 0) then after_end prog OpensIf place else place + 1

-- goes on at a place, or else with the rest
abbrev pub go_or : Bool → ℕ → Action Next → Action Next
go_or true place rest = go_on place
go_or false place rest = rest

-- The values of a WHEN of a line, which has this place after it, against that of its CASE. At the first equal one the run goes on after
-- the WHEN, and no later one is evaluated.
abbrev pub among_values : Prog → Calls → ℤ → (line after : ℕ) → List Any → Action Next → Action Next
among_values prog calls value line after [] later = later
among_values prog calls value line after (any.Number x ∷ xs) later =
    evaluate prog calls line x >>= (λ v. go_or (int_eq v value) after (among_values prog calls value line after xs later))
among_values prog calls value line after (any.Text x ∷ xs) later = outside

-- the value of a CASE against those of its WHENs, or else the run goes on after its OTHERWISE or ENDCASE
abbrev pub among_branches : Prog → Calls → ℤ → ℕ → List Branch → Action Next
among_branches prog calls value last [] = go_on last
among_branches prog calls value last (b ∷ bs) = among_values prog calls value b.line b.after b.values (among_branches prog calls value last bs)

-- CASE at a place
abbrev pub case_of : Prog → Calls → ℕ → ℕ → Any → Action Next
case_of prog calls place line (any.Number x) =
    evaluate prog calls line x >>= (λ value. among_branches prog calls value (after_end prog OpensCase place) (branches_of prog place))
case_of prog calls place line (any.Text x) = outside

-- What begins a line, where it is met: the ELSE of a block IF goes on after its ENDIF, WHEN and OTHERWISE after their ENDCASE.
abbrev pub met : Prog → ℕ → Head → Action Next
met prog place head.BlockElse = go_on (after_end prog DividesIf place)
met prog place head.EndIf = go_on (place + 1)
met prog place (head.When values) = go_on (after_end prog DividesCase place)
met prog place head.Otherwise = go_on (after_end prog DividesCase place)
met prog place head.EndCase = go_on (place + 1)
met prog place _ = outside

-- An item at a place. A met ELSE goes on at the next line. DATA and REM are the last items of their lines.
abbrev pub execute_item : Prog → Calls → Level → ℕ → ℕ → Item → Action Next
execute_item prog calls level place line (item.Head h) = met prog place h
execute_item prog calls level place line (item.Stmt s) = statement prog calls level place line s
execute_item prog calls level place line (item.If x) = evaluate prog calls line x >>= (λ value. go_on (branch prog place value))
execute_item prog calls level place line (item.BlockIf x) = evaluate prog calls line x >>= (λ value. go_on (block_branch prog place value))
execute_item prog calls level place line (item.On x jump lines) =
    evaluate prog calls line x >>= (λ value. on_chosen prog level place line jump (chosen value lines))
execute_item prog calls level place line (item.Case x) = case_of prog calls place line x
execute_item prog calls level place line item.Repeat = opens level.depth line Repeat (place + 1) >> go_on (place + 1)
execute_item prog calls level place line item.Else = go_on (next_line prog place)
execute_item prog calls level place line (item.Data n) = go_on (place + 1)
execute_item prog calls level place line item.Remark = go_on (place + 1)
execute_item prog calls level place line _ = outside
