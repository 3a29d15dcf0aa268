-- No operation of a program's code lacks a value, and nothing is pending after an item.
use Rattle.std.proofs.Common.{zero, suc, ◌≡◌, ℕ, ◌+◌, List, [], ◌∷◌, ◌++◌, Option, None, Some, refl, sym, subst, ◌∙◌, ap, append_assoc}
use Rattle.std.specs.Prelude.{Bool, true, false}
use Rattle.bas_ast.specs.declared.expressions.Any.{Any}
use Rattle.bas_ast.specs.declared.expressions.Any.TheVariants as any
use Rattle.bas_ast.specs.declared.expressions.BinaryOp.{BinaryOp}
use Rattle.bas_ast.specs.declared.expressions.BinaryOp.TheVariants as operators
use Rattle.bas_ast.specs.declared.expressions.NumExpr.{NumExpr, more_of-NumExpr as held}
use Rattle.bas_ast.specs.declared.expressions.NumExpr.TheVariants as num
use Rattle.bas_ast.specs.declared.expressions.StrExpr.{StrExpr}
use Rattle.bas_ast.specs.declared.expressions.StrExpr.TheVariants as str
use Rattle.bas_ast.specs.declared.expressions.UnaryOp.{UnaryOp}
use Rattle.bas_ast.specs.declared.expressions.UnaryOp.TheVariants as unary
use Rattle.bas_ast.specs.declared.expressions.Variable.TheVariants as var
use Rattle.bas_ast.specs.declared.lines.Head.{Head}
use Rattle.bas_ast.specs.declared.lines.Head.TheVariants as head
use Rattle.bas_ast.specs.declared.lines.Item.{Item}
use Rattle.bas_ast.specs.declared.lines.Item.TheVariants as item
use Rattle.bas_ast.specs.declared.lines.Jump.{Jump}
use Rattle.bas_ast.specs.declared.lines.Jump.TheVariants as jumps
use Rattle.bas_ast.specs.declared.program.Prog.{Prog}
use Rattle.bas_ast.specs.declared.statements.Assignment.{Assignment}
use Rattle.bas_ast.specs.declared.statements.Assignment.TheVariants as assigns
use Rattle.bas_ast.specs.declared.statements.Flow.{Flow}
use Rattle.bas_ast.specs.declared.statements.Flow.TheVariants as flow
use Rattle.bas_ast.specs.declared.statements.Output.{Output}
use Rattle.bas_ast.specs.declared.statements.Output.TheVariants as writes
use Rattle.bas_ast.specs.declared.statements.PrintPart.{PrintPart}
use Rattle.bas_ast.specs.declared.statements.PrintPart.TheVariants as prints
use Rattle.bas_ast.specs.declared.statements.Stmt.{Stmt}
use Rattle.bas_ast.specs.declared.statements.Stmt.TheVariants as stmt
use Rattle.bas_ast.specs.declared.statements.VduPart.{VduPart}
use Rattle.bas_ast.specs.declared.statements.VduPart.TheVariants as sends
use Rattle.bas_ast.specs.declared.targets.NumTarget.TheVariants as target
use Rattle.bas_ast.specs.declared.targets.Target.{Target}
use Rattle.bas_ast.specs.declared.targets.Target.TheVariants as targets
use Rattle.bas_ast.specs.Structures.{OpensWhile, OpensIf, OpensCase}
use Rattle.bas_ir.specs.declared.ir.Height.{Height}
use Rattle.bas_ir.specs.declared.op.Op.{Op}
use Rattle.bas_ir.specs.declared.op.Op.TheVariants as o
use Rattle.bas_ir.specs.declared.op.Piece.TheVariants as pieces
use Rattle.bas_ir.specs.Heights.{Suffices, one_more, empty_height, height_after}
use Rattle.bas_store.specs.Cells.{Cell, Resident, Integer, integer_cell}
use Rattle.bas_sem.specs.Data.{restored}
use Rattle.bas_sem.specs.Places.{Row, Branch, line_place, else_place, on_else, after_end, branches_of}
use Rattle.ir_build.specs.Code.{unary_code, read_op, store_op, expr_code, text_code, assignment_code, go_op, gosub_op, counter_of, step_code, nexts_code, next_code, flow_code, choice_op, choices_code, otherwise_op, print_code, vdu_code, output_code, reads_code, restore_op, statement_code, values_code, branches_code, case_code, head_code, item_code, or_jump, row_ops, row_code}
use Rattle.ir_build.specs.Fused.{fused_with, fused}
use Rattle.ir_build.proofs.Fusing as f
use Rattle.ir_build.proofs.Fusing.{Fuses, fuses}
use Rattle.bas_ast.specs.declared.expressions.Comparison.{Comparison}

-- the operations find what they take, after this height
abbrev pub Enough : List Op → Height → Type 0
Enough ops h = Suffices [] ops (Some h)

-- after a height, an operation that goes on at an item leaves nothing pending there
abbrev pub LeavesAt : Op → Height → Type 0
LeavesAt (o.Go item) h = h ≡ empty_height
LeavesAt (o.GoIfZero item) h = height_after [] (o.GoIfZero item) h ≡ Some empty_height
LeavesAt (o.GoUnless relation item) h = height_after [] (o.GoUnless relation item) h ≡ Some empty_height
LeavesAt (o.GoUnlessWith relation item number) h = height_after [] (o.GoUnlessWith relation item number) h ≡ Some empty_height
LeavesAt (o.GoIfOne item) h = height_after [] (o.GoIfOne item) h ≡ Some (one_more empty_height)
LeavesAt (o.GosubIfOne line item) h = height_after [] (o.GosubIfOne line item) h ≡ Some (one_more empty_height)
LeavesAt (o.GoIfEqual item) h = height_after [] (o.GoIfEqual item) h ≡ Some (one_more empty_height)
LeavesAt (o.Gosub line item) h = h ≡ empty_height
LeavesAt (o.Next counter line) h = h ≡ empty_height
LeavesAt (o.NextAny line) h = h ≡ empty_height
LeavesAt (o.Until line) h = height_after [] (o.Until line) h ≡ Some empty_height
LeavesAt (o.EndWhile line) h = h ≡ empty_height
LeavesAt (o.Return line) h = h ≡ empty_height
LeavesAt _ h = Unit {0}

-- The operations find what they take, after a height; what goes on at an item leaves nothing pending there, and nor do they all.
abbrev pub Balances : List Op → Option Height → Type 0
Balances ops None = ⊥
Balances [] (Some h) = (h.numbers ≡ 0) × (h.texts ≡ 0)
Balances (op ∷ ops) (Some h) = LeavesAt op h × Balances ops (height_after [] op h)

pub balance_suffices : (ops : List Op) (h : Option Height) → Balances ops h → Suffices [] ops h
balance_suffices ops None balances = absurd balances
balance_suffices [] (Some h) balances = balances
balance_suffices (op ∷ ops) (Some h) balances = balance_suffices ops (height_after [] op h) balances.1

-- from a height, and with nothing pending
abbrev From : List Op → Height → Type 0
From ops h = Balances ops (Some h)

abbrev Whole : List Op → Type 0
Whole ops = Balances ops (Some empty_height)

module _ (prog : Prog) (line : ℕ) where
  read_balances : (cell : Cell) (ops : List Op) (h : Height) → From ops (one_more h) → From (read_op line cell ∷ ops) h
  read_balances (Resident index) ops h rest = (tt, rest)
  read_balances (Integer name) ops h rest = (tt, rest)

  store_balances : (cell : Cell) (ops : List Op) (h : Height) → From ops h → From (store_op cell ∷ ops) (one_more h)
  store_balances (Resident index) ops h rest = (tt, rest)
  store_balances (Integer name) ops h rest = (tt, rest)

  unary_balances : (op : UnaryOp) (ops : List Op) (h : Height) → From ops (one_more h) → From (unary_code line op ++ ops) (one_more h)
  unary_balances unary.Plus ops h rest = rest
  unary_balances unary.Minus ops h rest = (tt, rest)
  unary_balances unary.Not ops h rest = (tt, rest)
  unary_balances unary.Abs ops h rest = (tt, rest)
  unary_balances unary.Sgn ops h rest = (tt, rest)
  unary_balances unary.Int ops h rest = rest

  expr_balances : (x : NumExpr) (ops : List Op) (h : Height) → From ops (one_more h) → From (expr_code prog line x ++ ops) h
  unfolding expr_code
  expr_balances (num.Number value) ops h rest = (tt, rest)
  expr_balances num.True ops h rest = (tt, rest)
  expr_balances num.False ops h rest = (tt, rest)
  expr_balances num.Count ops h rest = (tt, rest)
  expr_balances (num.Variable (var.Simple name)) ops h rest = read_balances (integer_cell prog.names name) ops h rest
  expr_balances (num.Bracket' _ (held x _)) ops h rest = expr_balances x ops h rest
  expr_balances (num.Unary' op _ (held x _)) ops h rest =
      subst (λ l. From l h) (sym (append_assoc (expr_code prog line x) (unary_code line op) ops)) (expr_balances x (unary_code line op ++ ops) h (unary_balances op ops h rest))
  expr_balances (num.Binary' op _ (held x _) _ (held y _)) ops h rest =
      subst (λ l. From l h)
      (sym (append_assoc (expr_code prog line x) (expr_code prog line y ++ o.Binary op line ∷ []) ops
      ∙ ap (λ l. expr_code prog line x ++ l) (append_assoc (expr_code prog line y) (o.Binary op line ∷ []) ops)))
      (expr_balances x (expr_code prog line y ++ o.Binary op line ∷ ops) h (expr_balances y (o.Binary op line ∷ ops) (one_more h) (tt, rest)))
  expr_balances _ ops h rest = (tt, (tt, rest))

  text_balances : (x : StrExpr) (ops : List Op) (h : Height) → From ops h → From (text_code x ++ ops) h
  text_balances (str.Literal number) ops h rest = (tt, (tt, rest))
  text_balances _ ops h rest = (tt, rest)

  updated_balances : (op : BinaryOp) (cell : Cell) (x : NumExpr) → Whole (read_op line cell ∷ (expr_code prog line x ++ o.Binary op line ∷ store_op cell ∷ []))
  updated_balances op cell x =
      read_balances cell (expr_code prog line x ++ o.Binary op line ∷ store_op cell ∷ []) empty_height
      (expr_balances x (o.Binary op line ∷ store_op cell ∷ []) (one_more empty_height) (tt, store_balances cell [] empty_height (refl, refl)))

  assignment_balances : (a : Assignment) → Whole (assignment_code prog line a)
  assignment_balances (assigns.Number (target.Variable (var.Simple name)) x) =
      expr_balances x (store_op (integer_cell prog.names name) ∷ []) empty_height (store_balances (integer_cell prog.names name) [] empty_height (refl, refl))
  assignment_balances (assigns.Add (target.Variable (var.Simple name)) x) = updated_balances operators.Add (integer_cell prog.names name) x
  assignment_balances (assigns.Subtract (target.Variable (var.Simple name)) x) = updated_balances operators.Subtract (integer_cell prog.names name) x
  assignment_balances _ = (tt, (refl, refl))

  go_balances : (to : Option ℕ) → Whole (go_op to line ∷ [])
  go_balances None = (tt, (refl, refl))
  go_balances (Some place) = (refl, (refl, refl))

  gosub_balances : (to : Option ℕ) → Whole (gosub_op to line ∷ [])
  gosub_balances None = (tt, (refl, refl))
  gosub_balances (Some place) = (refl, (refl, refl))

  nexts_balance : (names : List ℕ) → Whole (nexts_code prog line names)
  nexts_balance [] = (refl, refl)
  nexts_balance (name ∷ names) = (refl, nexts_balance names)

  next_balances : (names : List ℕ) → Whole (next_code prog line names)
  next_balances [] = (refl, (refl, refl))
  next_balances (name ∷ names) = nexts_balance (name ∷ names)

  step_balances : (z : Option NumExpr) (ops : List Op) (h : Height) → From ops (one_more h) → From (step_code prog line z ++ ops) h
  step_balances None ops h rest = (tt, rest)
  step_balances (Some x) ops h rest = expr_balances x ops h rest

  flow_balances : (place : ℕ) (w : Flow) → Whole (flow_code prog place line w)
  flow_balances place (flow.Goto number) = go_balances (line_place prog number)
  flow_balances place (flow.Gosub number) = gosub_balances (line_place prog number)
  flow_balances place flow.Return = (refl, (refl, refl))
  flow_balances place (flow.For name x y z) =
      let cell : Cell = integer_cell prog.names name in
      let opens : List Op = o.OpenFor (counter_of cell) line ∷ [] in
      let limit : List Op = expr_code prog line y ++ (step_code prog line z ++ opens) in
      expr_balances x (store_op cell ∷ limit) empty_height
      (store_balances cell limit empty_height
      (expr_balances y (step_code prog line z ++ opens) empty_height (step_balances z opens (one_more empty_height) (tt, (refl, refl)))))
  flow_balances place (flow.Next names) = next_balances names
  flow_balances place (flow.Until x) = expr_balances x (o.Until line ∷ []) empty_height (refl, (refl, refl))
  flow_balances place (flow.While x) = expr_balances x (o.GoIfZero (after_end prog OpensWhile place) ∷ o.OpenWhile line ∷ []) empty_height (refl, (tt, (refl, refl)))
  flow_balances place flow.EndWhile = (refl, (refl, refl))
  flow_balances place flow.End = (tt, (refl, refl))
  flow_balances place flow.Stop = (tt, (refl, refl))
  flow_balances place flow.Quit = (tt, (refl, refl))

  print_balances : (padded new_line : Bool) (parts : List PrintPart) → Whole (print_code prog line padded new_line parts)
  unfolding print_code
  print_balances padded true [] = (tt, (refl, refl))
  print_balances padded false [] = (refl, refl)
  print_balances padded new_line (prints.Comma ∷ parts) = (tt, print_balances true true parts)
  print_balances padded new_line (prints.Semicolon ∷ parts) = print_balances false false parts
  print_balances padded new_line (prints.NewLine ∷ parts) = (tt, print_balances padded true parts)
  print_balances padded new_line (prints.Number format x ∷ parts) =
      expr_balances x (o.WriteNumber padded format ∷ print_code prog line padded true parts) empty_height (tt, print_balances padded true parts)
  print_balances padded new_line (prints.Text x ∷ parts) = text_balances x (print_code prog line padded true parts) empty_height (print_balances padded true parts)
  print_balances padded new_line (prints.Spaces x ∷ parts) =
      expr_balances x (o.Write pieces.Spaces ∷ print_code prog line padded true parts) empty_height (tt, print_balances padded true parts)
  print_balances padded new_line (prints.Tab x ∷ parts) =
      expr_balances x (o.Write pieces.Tab ∷ print_code prog line padded true parts) empty_height (tt, print_balances padded true parts)

  vdu_balances : (parts : List VduPart) → Whole (vdu_code prog line parts)
  unfolding vdu_code
  vdu_balances [] = (refl, refl)
  vdu_balances (sends.Byte x ∷ parts) = expr_balances x (o.Write pieces.Byte ∷ vdu_code prog line parts) empty_height (tt, vdu_balances parts)
  vdu_balances (sends.Word x ∷ parts) = expr_balances x (o.Write pieces.Word ∷ vdu_code prog line parts) empty_height (tt, vdu_balances parts)

  output_balances : (w : Output) → Whole (output_code prog line w)
  output_balances (writes.Print parts) = print_balances true true parts
  output_balances (writes.Vdu parts) = vdu_balances parts
  output_balances (writes.Mode x) = expr_balances x (o.Write pieces.Mode ∷ []) empty_height (tt, (refl, refl))
  output_balances (writes.Colour x) = expr_balances x (o.Write pieces.Colour ∷ []) empty_height (tt, (refl, refl))
  output_balances writes.Cls = (tt, (refl, refl))

  restore_balances : (to : Option ℕ) → Whole (restore_op to line ∷ [])
  restore_balances None = (tt, (refl, refl))
  restore_balances (Some place) = (tt, (refl, refl))

  reads_balance : (variables : List Target) → Whole (reads_code prog line variables)
  reads_balance [] = (refl, refl)
  reads_balance (targets.Number (target.Variable (var.Simple name)) ∷ others) =
      (tt, store_balances (integer_cell prog.names name) (reads_code prog line others) empty_height (reads_balance others))
  reads_balance (_ ∷ others) = (tt, (refl, refl))

  statement_balances : (place : ℕ) (x : Stmt) → Whole (statement_code prog place line x)
  statement_balances place (stmt.Assign a) = assignment_balances a
  statement_balances place (stmt.Flow w) = flow_balances place w
  statement_balances place (stmt.Output w) = output_balances w
  statement_balances place (stmt.Read variables) = reads_balance variables
  statement_balances place (stmt.Restore to) = restore_balances (restored prog to)
  statement_balances place _ = (tt, (refl, refl))

  choice_balances : (jump : Jump) (to : Option ℕ) (ops : List Op) → From ops (one_more empty_height) → From (choice_op jump to line ∷ ops) (one_more empty_height)
  choice_balances jump None ops rest = (tt, rest)
  choice_balances jumps.Goto (Some place) ops rest = (refl, rest)
  choice_balances jumps.Gosub (Some place) ops rest = (refl, rest)

  otherwise_balances : (to : Option ℕ) → Whole (otherwise_op to line ∷ [])
  otherwise_balances None = (tt, (refl, refl))
  otherwise_balances (Some place) = (refl, (refl, refl))

  choices_balance : (jump : Jump) (numbers : List ℕ) (ops : List Op) → From ops (one_more empty_height) → From (choices_code prog line jump numbers ++ ops) (one_more empty_height)
  choices_balance jump [] ops rest = rest
  choices_balance jump (number ∷ numbers) ops rest =
      choice_balances jump (line_place prog number) (choices_code prog line jump numbers ++ ops) (choices_balance jump numbers ops rest)

  -- the values of a WHEN, with that of its CASE below each
  values_balance : (after : ℕ) (values : List Any) (ops : List Op) → From ops (one_more empty_height) → From (values_code prog line after values ++ ops) (one_more empty_height)
  values_balance after [] ops rest = rest
  values_balance after (any.Number x ∷ values) ops rest =
      subst (λ l. From l (one_more empty_height)) (sym (append_assoc (expr_code prog line x) (o.GoIfEqual after ∷ values_code prog line after values) ops))
      (expr_balances x (o.GoIfEqual after ∷ (values_code prog line after values ++ ops)) (one_more empty_height) (refl, values_balance after values ops rest))
  values_balance after (any.Text x ∷ values) ops rest = (tt, rest)

  head_balances : (place : ℕ) (h : Head) → Whole (head_code prog place h)
  head_balances place head.BlockElse = (refl, (refl, refl))
  head_balances place head.EndIf = (refl, refl)
  head_balances place (head.When values) = (refl, (refl, refl))
  head_balances place head.Otherwise = (refl, (refl, refl))
  head_balances place head.EndCase = (refl, refl)
  head_balances place _ = (tt, (refl, refl))

branches_balance : (prog : Prog) (branches : List Branch) (ops : List Op) → From ops (one_more empty_height) → From (branches_code prog branches ++ ops) (one_more empty_height)
branches_balance prog [] ops rest = rest
branches_balance prog (b ∷ branches) ops rest =
    subst (λ l. From l (one_more empty_height)) (sym (append_assoc (values_code prog b.line b.after b.values) (branches_code prog branches) ops))
    (values_balance prog b.line b.after b.values (branches_code prog branches ++ ops) (branches_balance prog branches ops rest))

module _ (prog : Prog) (line : ℕ) where
  case_balances : (place : ℕ) (x : Any) → Whole (case_code prog place line x)
  case_balances place (any.Number x) =
      let search : List Op = branches_code prog (branches_of prog place) ++ o.Discard ∷ o.Go (after_end prog OpensCase place) ∷ [] in
      expr_balances prog line x search empty_height (branches_balance prog (branches_of prog place) (o.Discard ∷ o.Go (after_end prog OpensCase place) ∷ []) (tt, (refl, (refl, refl))))
  case_balances place (any.Text x) = (tt, (refl, refl))

  item_balances : (place : ℕ) (i : Item) → Whole (item_code prog place line i)
  item_balances place (item.Head h) = head_balances prog line place h
  item_balances place (item.Stmt x) = statement_balances prog line place x
  item_balances place (item.If x) = expr_balances prog line x (o.GoIfZero (else_place prog place) ∷ []) empty_height (refl, (refl, refl))
  item_balances place (item.BlockIf x) = expr_balances prog line x (o.GoIfZero (after_end prog OpensIf place) ∷ []) empty_height (refl, (refl, refl))
  item_balances place (item.On x jump numbers) =
      let otherwise : List Op = o.Discard ∷ otherwise_op (on_else prog place) line ∷ [] in
      expr_balances prog line x (choices_code prog line jump numbers ++ otherwise) empty_height
      (choices_balance prog line jump numbers otherwise (tt, otherwise_balances prog line (on_else prog place)))
  item_balances place (item.Case x) = case_balances place x
  item_balances place item.Repeat = (tt, (refl, refl))
  item_balances place item.Else = (refl, (refl, refl))
  item_balances place (item.Data n) = (refl, refl)
  item_balances place item.Remark = (refl, refl)
  item_balances place _ = (tt, (refl, refl))

jump_balances : (next : ℕ) (ops : List Op) → Whole ops → Whole (or_jump next ops)
jump_balances next [] balances = (refl, balances)
jump_balances next (op ∷ ops) balances = balances

-- fused operations
comparison_balances : (relation : Comparison) (line item : ℕ) (rest : List Op) (numbers texts : ℕ)
    → From (o.Binary (operators.Compare relation) line ∷ o.GoIfZero item ∷ rest) (record { numbers = numbers; texts = texts })
    → From (o.GoUnless relation item ∷ rest) (record { numbers = numbers; texts = texts })
comparison_balances relation line item rest zero texts balances = absurd balances.1
comparison_balances relation line item rest (suc zero) texts balances = absurd balances.1
comparison_balances relation line item rest (suc (suc numbers)) texts balances = balances.1

fuse_balances : (old new : List Op) → Fuses old new → (h : Height) → From old h → From new h
fuse_balances old new (f.same ops) h balances = balances
fuse_balances old new (f.constant value op line rest) h balances = balances.1
fuse_balances old new (f.resident index op line rest) h balances = balances.1
fuse_balances old new (f.change index op line number rest) h balances = (tt, balances.1.1.1)
fuse_balances old new (f.comparison relation line item rest) h balances = comparison_balances relation line item rest h.numbers h.texts balances
fuse_balances old new (f.compared value relation item rest) h balances = balances.1

fused_balances : (ops : List Op) (h : Option Height) → Balances ops h → Balances (fused ops) h
fused_balances ops None balances = absurd balances
fused_balances [] (Some h) balances = balances
fused_balances (op ∷ ops) (Some h) balances =
    fuse_balances (op ∷ fused ops) (fused_with op (fused ops)) (fuses op (fused ops)) h (balances.0, fused_balances ops (height_after [] op h) balances.1)

-- the code of an item
pub row_balances : (prog : Prog) (place : ℕ) (row : Row) → Balances (row_code prog place row) (Some empty_height)
row_balances prog place row =
    fused_balances (row_ops prog place row) (Some empty_height)
    (jump_balances (place + 1) (item_code prog place row.line row.item) (item_balances prog row.line place row.item))

pub row_suffices : (prog : Prog) (place : ℕ) (row : Row) → Enough (row_code prog place row) empty_height
row_suffices prog place row = balance_suffices (row_code prog place row) (Some empty_height) (row_balances prog place row)
