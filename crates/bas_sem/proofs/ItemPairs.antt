-- What more steps change in an expression and in an item, whose calls come to the same.
use Rattle.std.proofs.Common.{ℕ, ◌+◌, ◌-◌, List, [], ◌∷◌, Option, None, Some}
use Rattle.std.specs.Prelude.{ℤ, pos, Bool, true, false}
use Rattle.std.specs.Ordering.{int_eq}
use Rattle.bas_ast.specs.declared.expressions.Any.{Any}
use Rattle.bas_ast.specs.declared.expressions.Any.TheVariants as any
use Rattle.bas_ast.specs.declared.expressions.NumExpr.{NumExpr, more_of-NumExpr as held}
use Rattle.bas_ast.specs.declared.expressions.NumExpr.TheVariants as num
use Rattle.bas_ast.specs.declared.expressions.StrExpr.{StrExpr}
use Rattle.bas_ast.specs.declared.expressions.StrExpr.TheVariants as str
use Rattle.bas_ast.specs.declared.expressions.Variable.TheVariants as var
use Rattle.bas_ast.specs.declared.lines.Head.{Head}
use Rattle.bas_ast.specs.declared.lines.Head.TheVariants as head
use Rattle.bas_ast.specs.declared.lines.Item.{Item}
use Rattle.bas_ast.specs.declared.lines.Item.TheVariants as item
use Rattle.bas_ast.specs.declared.lines.Jump.{Jump}
use Rattle.bas_ast.specs.declared.lines.Jump.TheVariants as jumps
use Rattle.bas_ast.specs.declared.program.Prog.{Prog}
use Rattle.bas_ast.specs.declared.statements.Assignment.{Assignment}
use Rattle.bas_ast.specs.declared.statements.Assignment.TheVariants as assigns
use Rattle.bas_ast.specs.declared.statements.Flow.{Flow}
use Rattle.bas_ast.specs.declared.statements.Flow.TheVariants as flow
use Rattle.bas_ast.specs.declared.statements.Output.{Output}
use Rattle.bas_ast.specs.declared.statements.Output.TheVariants as writes
use Rattle.bas_ast.specs.declared.statements.PrintPart.{PrintPart}
use Rattle.bas_ast.specs.declared.statements.PrintPart.TheVariants as prints
use Rattle.bas_ast.specs.declared.statements.Stmt.{Stmt}
use Rattle.bas_ast.specs.declared.statements.Stmt.TheVariants as stmt
use Rattle.bas_ast.specs.declared.statements.VduPart.{VduPart}
use Rattle.bas_ast.specs.declared.statements.VduPart.TheVariants as sends
use Rattle.bas_ast.specs.declared.targets.NumTarget.TheVariants as target
use Rattle.bas_ast.specs.declared.targets.Target.{Target}
use Rattle.bas_ast.specs.declared.targets.Target.TheVariants as targets
use Rattle.bas_ast.specs.Structures.{OpensCase}
use Rattle.bas_store.specs.Cells.{Value as Content, Cell, integer_cell}
use Rattle.bas_store.specs.Opened.{AnyNext, NextOf, EndWhile, Return}
use Rattle.bas_store.specs.Stored.{For, Repeat, While, Gosub}
use Rattle.bas_value.specs.Errors.{no_such_line, on_range, stopped}
use Rattle.bas_value.specs.Output as out
use Rattle.bv_run.specs.declared.report.Report.TheVariants.{Done}
use Rattle.bas_sem.specs.Course.{Action, ◌>>=◌, ◌>>◌}
use Rattle.bas_sem.specs.Actions.{outside, read, assign, write, or_raise}
use Rattle.bv_num.specs.Operation.{Operation, operation, Add, Subtract}
use Rattle.bas_sem.specs.Calls.{Calls, Kind, Level, Body, Next, GoOn}
use Rattle.bas_sem.specs.Data.{data_texts, restored}
use Rattle.bas_sem.specs.Evaluate.{evaluate, evaluate_text}
use Rattle.bas_sem.specs.Places.{Branch, after_end, branches_of}
use Rattle.bas_sem.specs.Operators.{of_one, of_two}
use Rattle.bas_sem.specs.Items.{assignment, go_to, gosub_to, back_or, nexts, next_of, step_of, while_if, goes, chosen, on_line, out_of_range, on_chosen, finish, print, vdu, output, reads, statement, go_or, among_values, among_branches, case_of, met, execute_item}
use Rattle.bas_sem.proofs.DataPairs.{next_number_pair, restore_pair}
use Rattle.bas_sem.proofs.LoopPairs.{opens_pair, closing_pair, until_pair, next_pair}
use Rattle.bas_sem.proofs.Longer.{Pair, bind_pair, then_pair, give_pair, over_pair, write_pair, column_pair, change_pair, read_pair, or_raise_pair, raise_pair}

-- Calls that come to the same.
pub record CallsPair (d f g : ℕ) (calls calls' : Calls) : Type 0 where
  pub of : (line : ℕ) (kind : Kind) (body : Body) (values : List Content) → Pair d f g (calls line kind body values) (calls' line kind body values)

module _ (prog : Prog) (d f g : ℕ) (calls calls' : Calls) (same : CallsPair d f g calls calls') where
  outside_pair : (A : Type 0) → Pair {A = A} d f g outside outside
  outside_pair A = over_pair A d f g Done

  pub evaluate_pair : (line : ℕ) (x : NumExpr) → Pair d f g (evaluate prog calls line x) (evaluate prog calls' line x)
  unfolding evaluate
  evaluate_pair line (num.Number value) = give_pair d f g value
  evaluate_pair line num.True = give_pair d f g _
  evaluate_pair line num.False = give_pair d f g _
  evaluate_pair line num.Count = bind_pair d f g _ _ _ _ (column_pair d f g) (λ column. give_pair d f g (pos column))
  evaluate_pair line (num.Variable (var.Simple name)) = read_pair d f g line _
  evaluate_pair line (num.Bracket' _ (held x _)) = evaluate_pair line x
  evaluate_pair line (num.Unary' op _ (held x _)) = bind_pair d f g _ _ _ _ (evaluate_pair line x) (λ value. or_raise_pair d f g line (of_one op value))
  evaluate_pair line (num.Binary' op _ (held x _) _ (held y _)) =
      bind_pair d f g _ _ _ _ (evaluate_pair line x) (λ left. bind_pair d f g _ _ _ _ (evaluate_pair line y) (λ right. or_raise_pair d f g line (of_two op left right)))
  evaluate_pair line _ = outside_pair ℤ

  text_pair : (line : ℕ) (x : StrExpr) → Pair d f g (evaluate_text prog calls line x) (evaluate_text prog calls' line x)
  text_pair line (str.Literal number) = give_pair d f g _
  text_pair line _ = outside_pair (List ℕ)

  -- a number is evaluated and then written
  written_pair : (line : ℕ) (x : NumExpr) (part : ℤ → out.Part) → Pair d f g (evaluate prog calls line x >>= (λ v. write (part v))) (evaluate prog calls' line x >>= (λ v. write (part v)))
  written_pair line x part = bind_pair d f g _ _ _ _ (evaluate_pair line x) (λ v. write_pair d f g (part v))

  -- the same, before others
  written_then_pair : {A : Type 0} (line : ℕ) (x : NumExpr) (part : ℤ → out.Part) (n n' : Action A) → Pair d f g n n'
      → Pair d f g (evaluate prog calls line x >>= (λ v. write (part v) >> n)) (evaluate prog calls' line x >>= (λ v. write (part v) >> n'))
  written_then_pair line x part n n' others =
      bind_pair d f g _ _ _ _ (evaluate_pair line x) (λ v. then_pair d f g _ _ _ _ (write_pair d f g (part v)) others)

  finish_pair : (new_line : Bool) → Pair d f g (finish new_line) (finish new_line)
  finish_pair true = write_pair d f g out.NewLine
  finish_pair false = give_pair d f g tt

  pub print_pair : (line : ℕ) (padded new_line : Bool) (parts : List PrintPart) → Pair d f g (print prog calls line padded new_line parts) (print prog calls' line padded new_line parts)
  unfolding print
  print_pair line padded new_line [] = finish_pair new_line
  print_pair line padded new_line (prints.Comma ∷ parts) = then_pair d f g _ _ _ _ (write_pair d f g out.Field) (print_pair line true true parts)
  print_pair line padded new_line (prints.Semicolon ∷ parts) = print_pair line false false parts
  print_pair line padded new_line (prints.NewLine ∷ parts) = then_pair d f g _ _ _ _ (write_pair d f g out.NewLine) (print_pair line padded true parts)
  print_pair line padded new_line (prints.Number format x ∷ parts) = written_then_pair line x (out.Number padded format) _ _ (print_pair line padded true parts)
  print_pair line padded new_line (prints.Text x ∷ parts) =
      bind_pair d f g _ _ _ _ (text_pair line x) (λ text. then_pair d f g _ _ _ _ (write_pair d f g (out.Text text)) (print_pair line padded true parts))
  print_pair line padded new_line (prints.Spaces x ∷ parts) = written_then_pair line x out.Spaces _ _ (print_pair line padded true parts)
  print_pair line padded new_line (prints.Tab x ∷ parts) = written_then_pair line x out.Tab _ _ (print_pair line padded true parts)

  pub vdu_pair : (line : ℕ) (parts : List VduPart) → Pair d f g (vdu prog calls line parts) (vdu prog calls' line parts)
  unfolding vdu
  vdu_pair line [] = give_pair d f g tt
  vdu_pair line (sends.Byte x ∷ parts) = written_then_pair line x out.Byte _ _ (vdu_pair line parts)
  vdu_pair line (sends.Word x ∷ parts) = written_then_pair line x out.Word _ _ (vdu_pair line parts)

  output_pair : (line : ℕ) (o : Output) → Pair d f g (output prog calls line o) (output prog calls' line o)
  output_pair line (writes.Print parts) = print_pair line true true parts
  output_pair line (writes.Vdu parts) = vdu_pair line parts
  output_pair line (writes.Mode x) = written_pair line x out.Mode
  output_pair line (writes.Colour x) = written_pair line x out.Colour
  output_pair line writes.Cls = write_pair d f g out.Clear

  -- `+=` and `-=`
  updated_pair : (line : ℕ) (cell : Cell) (op : Operation) (x : NumExpr)
      → Pair d f g (read line cell >>= (λ old. evaluate prog calls line x >>= (λ value. or_raise line (operation op old value) >>= assign cell)))
      (read line cell >>= (λ old. evaluate prog calls' line x >>= (λ value. or_raise line (operation op old value) >>= assign cell)))
  updated_pair line cell op x =
      bind_pair d f g _ _ _ _ (read_pair d f g line cell) (λ old. bind_pair d f g _ _ _ _ (evaluate_pair line x)
      (λ value. bind_pair d f g _ _ _ _ (or_raise_pair d f g line (operation op old value)) (λ new. change_pair d f g _)))

  assignment_pair : (line : ℕ) (a : Assignment) → Pair d f g (assignment prog calls line a) (assignment prog calls' line a)
  assignment_pair line (assigns.Number (target.Variable (var.Simple name)) x) = bind_pair d f g _ _ _ _ (evaluate_pair line x) (λ value. change_pair d f g _)
  assignment_pair line (assigns.Add (target.Variable (var.Simple name)) x) = updated_pair line _ Add x
  assignment_pair line (assigns.Subtract (target.Variable (var.Simple name)) x) = updated_pair line _ Subtract x
  assignment_pair line _ = outside_pair (Unit {0})

  go_to_pair : (o : Option ℕ) (line : ℕ) → Pair d f g (go_to o line) (go_to o line)
  go_to_pair None line = raise_pair Next d f g no_such_line line
  go_to_pair (Some place) line = give_pair d f g (GoOn place)

  gosub_to_pair : (level : Level) (place line : ℕ) (to : Option ℕ) → Pair d f g (gosub_to level place line to) (gosub_to level place line to)
  gosub_to_pair level place line None = raise_pair Next d f g no_such_line line
  gosub_to_pair level place line (Some to) = then_pair d f g _ _ _ _ (opens_pair d f g level.depth line Gosub (place + 1)) (give_pair d f g (GoOn to))

  back_or_pair : (rest : Action Next) → Pair d f g rest rest → (back : Option ℕ) → Pair d f g (back_or rest back) (back_or rest back)
  back_or_pair rest same None = same
  back_or_pair rest same (Some place) = give_pair d f g (GoOn place)

  nexts_pair : (level : Level) (place line : ℕ) (names : List ℕ) → Pair d f g (nexts prog level place line names) (nexts prog level place line names)
  nexts_pair level place line [] = give_pair d f g (GoOn (place + 1))
  nexts_pair level place line (name ∷ names) =
      bind_pair d f g _ _ _ _ (next_pair d f g level.depth line (NextOf (integer_cell prog.names name))) (back_or_pair _ (nexts_pair level place line names))

  next_of_pair : (level : Level) (place line : ℕ) (names : List ℕ) → Pair d f g (next_of prog level place line names) (next_of prog level place line names)
  next_of_pair level place line [] = bind_pair d f g _ _ _ _ (next_pair d f g level.depth line AnyNext) (back_or_pair _ (give_pair d f g (GoOn (place + 1))))
  next_of_pair level place line (name ∷ names) = nexts_pair level place line (name ∷ names)

  step_of_pair : (line : ℕ) (z : Option NumExpr) → Pair d f g (step_of prog calls line z) (step_of prog calls' line z)
  step_of_pair line None = give_pair d f g (pos 1)
  step_of_pair line (Some x) = evaluate_pair line x

  while_if_pair : (none : Bool) (level : Level) (place line : ℕ) → Pair d f g (while_if none prog level place line) (while_if none prog level place line)
  while_if_pair true level place line = give_pair d f g _
  while_if_pair false level place line = then_pair d f g _ _ _ _ (opens_pair d f g level.depth line While (place + 1)) (give_pair d f g (GoOn (place + 1)))

  goes_pair : (level : Level) (place line : ℕ) (w : Flow) → Pair d f g (goes prog calls level place line w) (goes prog calls' level place line w)
  goes_pair level place line (flow.Goto number) = go_to_pair _ line
  goes_pair level place line (flow.Gosub number) = gosub_to_pair level place line _
  goes_pair level place line flow.Return = bind_pair d f g _ _ _ _ (closing_pair d f g level.depth line Return) (λ after. give_pair d f g (GoOn after))
  goes_pair level place line (flow.For name x y z) =
      bind_pair d f g _ _ _ _ (evaluate_pair line x) (λ start. then_pair d f g _ _ _ _ (change_pair d f g _)
      (bind_pair d f g _ _ _ _ (evaluate_pair line y) (λ limit. bind_pair d f g _ _ _ _ (step_of_pair line z)
      (λ step. then_pair d f g _ _ _ _ (opens_pair d f g level.depth line (For (integer_cell prog.names name) limit step) (place + 1)) (give_pair d f g (GoOn (place + 1)))))))
  goes_pair level place line (flow.Next names) = next_of_pair level place line names
  goes_pair level place line (flow.Until x) =
      bind_pair d f g _ _ _ _ (evaluate_pair line x)
      (λ value. bind_pair d f g _ _ _ _ (until_pair d f g level.depth line value) (back_or_pair _ (give_pair d f g (GoOn (place + 1)))))
  goes_pair level place line (flow.While x) = bind_pair d f g _ _ _ _ (evaluate_pair line x) (λ value. while_if_pair (int_eq value (pos 0)) level place line)
  goes_pair level place line flow.EndWhile = bind_pair d f g _ _ _ _ (closing_pair d f g level.depth line EndWhile) (λ after. give_pair d f g (GoOn (after - 1)))
  goes_pair level place line flow.End = over_pair Next d f g Done
  goes_pair level place line flow.Quit = over_pair Next d f g Done
  goes_pair level place line flow.Stop = raise_pair Next d f g stopped line

  on_line_pair : (level : Level) (place line : ℕ) (jump : Jump) (number : ℕ) → Pair d f g (on_line prog level place line jump number) (on_line prog level place line jump number)
  on_line_pair level place line jumps.Goto number = go_to_pair _ line
  on_line_pair level place line jumps.Gosub number = gosub_to_pair level place line _

  out_of_range_pair : (line : ℕ) (to : Option ℕ) → Pair d f g (out_of_range line to) (out_of_range line to)
  out_of_range_pair line None = raise_pair Next d f g on_range line
  out_of_range_pair line (Some place) = give_pair d f g (GoOn place)

  on_chosen_pair : (level : Level) (place line : ℕ) (jump : Jump) (to : Option ℕ) → Pair d f g (on_chosen prog level place line jump to) (on_chosen prog level place line jump to)
  on_chosen_pair level place line jump None = out_of_range_pair line _
  on_chosen_pair level place line jump (Some number) = on_line_pair level place line jump number

  reads_pair : (line : ℕ) (variables : List Target) → Pair d f g (reads prog line variables) (reads prog line variables)
  reads_pair line [] = give_pair d f g tt
  reads_pair line (targets.Number (target.Variable (var.Simple name)) ∷ others) =
      bind_pair d f g _ _ _ _ (next_number_pair d f g (data_texts prog) line) (λ value. then_pair d f g _ _ _ _ (change_pair d f g _) (reads_pair line others))
  reads_pair line (_ ∷ others) = outside_pair (Unit {0})

  statement_pair : (level : Level) (place line : ℕ) (s : Stmt) → Pair d f g (statement prog calls level place line s) (statement prog calls' level place line s)
  statement_pair level place line (stmt.Assign a) = then_pair d f g _ _ _ _ (assignment_pair line a) (give_pair d f g (GoOn (place + 1)))
  statement_pair level place line (stmt.Flow w) = goes_pair level place line w
  statement_pair level place line (stmt.Output o) = then_pair d f g _ _ _ _ (output_pair line o) (give_pair d f g (GoOn (place + 1)))
  statement_pair level place line (stmt.Read variables) = then_pair d f g _ _ _ _ (reads_pair line variables) (give_pair d f g (GoOn (place + 1)))
  statement_pair level place line (stmt.Restore to) = then_pair d f g _ _ _ _ (restore_pair d f g (restored prog to) line) (give_pair d f g (GoOn (place + 1)))
  statement_pair level place line _ = outside_pair Next

  go_or_pair : (here : Bool) (place : ℕ) (rest rest' : Action Next) → Pair d f g rest rest' → Pair d f g (go_or here place rest) (go_or here place rest')
  go_or_pair true place rest rest' same = give_pair d f g (GoOn place)
  go_or_pair false place rest rest' same = same

  among_values_pair : (value : ℤ) (line after : ℕ) (xs : List Any) (later later' : Action Next) → Pair d f g later later'
      → Pair d f g (among_values prog calls value line after xs later) (among_values prog calls' value line after xs later')
  among_values_pair value line after [] later later' same = same
  among_values_pair value line after (any.Number x ∷ xs) later later' same =
      bind_pair d f g _ _ _ _ (evaluate_pair line x) (λ v. go_or_pair (int_eq v value) after _ _ (among_values_pair value line after xs later later' same))
  among_values_pair value line after (any.Text x ∷ xs) later later' same = outside_pair Next

  among_branches_pair : (value : ℤ) (last : ℕ) (bs : List Branch) → Pair d f g (among_branches prog calls value last bs) (among_branches prog calls' value last bs)
  among_branches_pair value last [] = give_pair d f g (GoOn last)
  among_branches_pair value last (b ∷ bs) = among_values_pair value b.line b.after b.values _ _ (among_branches_pair value last bs)

  case_pair : (place line : ℕ) (x : Any) → Pair d f g (case_of prog calls place line x) (case_of prog calls' place line x)
  case_pair place line (any.Number x) =
      bind_pair d f g _ _ _ _ (evaluate_pair line x) (λ value. among_branches_pair value (after_end prog OpensCase place) (branches_of prog place))
  case_pair place line (any.Text x) = outside_pair Next

  met_pair : (place : ℕ) (h : Head) → Pair d f g (met prog place h) (met prog place h)
  met_pair place head.BlockElse = give_pair d f g _
  met_pair place head.EndIf = give_pair d f g _
  met_pair place (head.When values) = give_pair d f g _
  met_pair place head.Otherwise = give_pair d f g _
  met_pair place head.EndCase = give_pair d f g _
  met_pair place _ = outside_pair Next

  pub item_pair : (level : Level) (place line : ℕ) (i : Item) → Pair d f g (execute_item prog calls level place line i) (execute_item prog calls' level place line i)
  item_pair level place line (item.Head h) = met_pair place h
  item_pair level place line (item.BlockIf x) = bind_pair d f g _ _ _ _ (evaluate_pair line x) (λ value. give_pair d f g _)
  item_pair level place line (item.Case x) = case_pair place line x
  item_pair level place line (item.Data n) = give_pair d f g (GoOn (place + 1))
  item_pair level place line (item.Stmt s) = statement_pair level place line s
  item_pair level place line (item.If x) = bind_pair d f g _ _ _ _ (evaluate_pair line x) (λ value. give_pair d f g _)
  item_pair level place line (item.On x jump lines) = bind_pair d f g _ _ _ _ (evaluate_pair line x) (λ value. on_chosen_pair level place line jump (chosen value lines))
  item_pair level place line item.Repeat = then_pair d f g _ _ _ _ (opens_pair d f g level.depth line Repeat (place + 1)) (give_pair d f g (GoOn (place + 1)))
  item_pair level place line item.Else = give_pair d f g _
  item_pair level place line item.Remark = give_pair d f g (GoOn (place + 1))
  item_pair level place line _ = outside_pair Next
