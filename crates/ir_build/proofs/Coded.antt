-- Each operation of a program's code has machine code, and at most one string is pending before it.
use Rattle.std.proofs.Common.{◌≡◌, ℕ, zero, suc, ◌+◌, ◌≤◌, List, [], ◌∷◌, ◌++◌, Option, None, Some, refl, sym, subst, ◌∙◌, ap, append_assoc, lit≤, arith}
use Rattle.std.specs.Prelude.{Bool, true, false, flat_map, slice_get, slice_index_or}
use Rattle.bas_ast.specs.declared.expressions.Any.{Any}
use Rattle.bas_ast.specs.declared.expressions.Any.TheVariants as any
use Rattle.bas_ast.specs.declared.expressions.BinaryOp.{BinaryOp}
use Rattle.bas_ast.specs.declared.expressions.BinaryOp.TheVariants as operators
use Rattle.bas_ast.specs.declared.expressions.NumExpr.{NumExpr, more_of-NumExpr as held}
use Rattle.bas_ast.specs.declared.expressions.NumExpr.TheVariants as num
use Rattle.bas_ast.specs.declared.expressions.StrExpr.{StrExpr}
use Rattle.bas_ast.specs.declared.expressions.StrExpr.TheVariants as str
use Rattle.bas_ast.specs.declared.expressions.UnaryOp.{UnaryOp}
use Rattle.bas_ast.specs.declared.expressions.UnaryOp.TheVariants as unary
use Rattle.bas_ast.specs.declared.expressions.Variable.TheVariants as var
use Rattle.bas_ast.specs.declared.lines.Head.{Head}
use Rattle.bas_ast.specs.declared.lines.Head.TheVariants as head
use Rattle.bas_ast.specs.declared.lines.Item.{Item}
use Rattle.bas_ast.specs.declared.lines.Item.TheVariants as item
use Rattle.bas_ast.specs.declared.lines.Jump.{Jump}
use Rattle.bas_ast.specs.declared.lines.Jump.TheVariants as jumps
use Rattle.bas_ast.specs.declared.program.Prog.{Prog}
use Rattle.bas_ast.specs.declared.statements.Assignment.{Assignment}
use Rattle.bas_ast.specs.declared.statements.Assignment.TheVariants as assigns
use Rattle.bas_ast.specs.declared.statements.Flow.{Flow}
use Rattle.bas_ast.specs.declared.statements.Flow.TheVariants as flow
use Rattle.bas_ast.specs.declared.statements.Output.{Output}
use Rattle.bas_ast.specs.declared.statements.Output.TheVariants as writes
use Rattle.bas_ast.specs.declared.statements.PrintPart.{PrintPart}
use Rattle.bas_ast.specs.declared.statements.PrintPart.TheVariants as prints
use Rattle.bas_ast.specs.declared.statements.Stmt.{Stmt}
use Rattle.bas_ast.specs.declared.statements.Stmt.TheVariants as stmt
use Rattle.bas_ast.specs.declared.statements.VduPart.{VduPart}
use Rattle.bas_ast.specs.declared.statements.VduPart.TheVariants as sends
use Rattle.bas_ast.specs.declared.targets.NumTarget.TheVariants as target
use Rattle.bas_ast.specs.declared.targets.Target.{Target}
use Rattle.bas_ast.specs.declared.targets.Target.TheVariants as targets
use Rattle.bas_ast.specs.Structures.{OpensWhile, OpensIf, OpensCase}
use Rattle.bas_ir.specs.declared.ir.Height.{Height}
use Rattle.bas_ir.specs.declared.op.Op.{Op}
use Rattle.bas_ir.specs.declared.op.Op.TheVariants as o
use Rattle.bas_ir.specs.declared.op.Piece.TheVariants as pieces
use Rattle.bas_ir.specs.Heights.{one_more, without_number, one_less, without_text, and_then, empty_height, height_after}
use Rattle.bas_ir.specs.Coded.{HasCode, AllHaveCode, AtMostOneText}
use Rattle.bas_store.specs.Cells.{Cell, Resident, Integer, integer_cell}
use Rattle.bas_sem.specs.Data.{restored}
use Rattle.bas_sem.specs.Places.{Row, Branch, rows, line_place, else_place, on_else, after_end, branches_of}
use Rattle.ir_build.specs.Code.{unary_code, read_op, store_op, expr_code, text_code, assignment_code, go_op, gosub_op, counter_of, step_code, nexts_code, next_code, flow_code, choice_op, choices_code, otherwise_op, print_code, vdu_code, output_code, reads_code, restore_op, statement_code, values_code, branches_code, case_code, head_code, item_code, or_jump, row_ops, codes_from, codes, joined, heights_of, flat_code}
use Rattle.ir_build.specs.Fused.{fused_with, fused}
use Rattle.ir_build.proofs.Fusing as f
use Rattle.ir_build.proofs.Fusing.{Fuses, fuses}
use Rattle.ir_build.proofs.Residents.{IsOneCell, integer_one}

-- whether a string is pending after an operation, None where the operation may not come
abbrev text_after : Bool → Op → Option Bool
text_after false (o.PushText number) = Some true
text_after false o.WriteText = None
text_after true o.WriteText = Some false
text_after true _ = None
text_after false _ = Some false

-- The operations have machine code, and a string is written directly after it is pushed.
abbrev Coded : Option Bool → List Op → Type 0
Coded None ops = ⊥
Coded (Some pending) [] = Unit {0}
Coded (Some pending) (op ∷ ops) = HasCode op × Coded (text_after pending op) ops

abbrev AreCoded : List Op → Type 0
AreCoded ops = Coded (Some false) ops

module _ (prog : Prog) (line : ℕ) where
  read_coded : (cell : Cell) (ops : List Op) → IsOneCell cell → AreCoded ops → AreCoded (read_op line cell ∷ ops)
  read_coded (Resident index) ops one coded = (one, coded)
  read_coded (Integer name) ops one coded = (tt, coded)

  store_coded : (cell : Cell) (ops : List Op) → IsOneCell cell → AreCoded ops → AreCoded (store_op cell ∷ ops)
  store_coded (Resident index) ops one coded = (one, coded)
  store_coded (Integer name) ops one coded = (tt, coded)

  unary_coded : (op : UnaryOp) (ops : List Op) → AreCoded ops → AreCoded (unary_code line op ++ ops)
  unary_coded unary.Plus ops coded = coded
  unary_coded unary.Minus ops coded = (tt, coded)
  unary_coded unary.Not ops coded = (tt, coded)
  unary_coded unary.Abs ops coded = (tt, coded)
  unary_coded unary.Sgn ops coded = (tt, coded)
  unary_coded unary.Int ops coded = coded

  expr_coded : (x : NumExpr) (ops : List Op) → AreCoded ops → AreCoded (expr_code prog line x ++ ops)
  unfolding expr_code
  expr_coded (num.Number value) ops coded = (tt, coded)
  expr_coded num.True ops coded = (tt, coded)
  expr_coded num.False ops coded = (tt, coded)
  expr_coded num.Count ops coded = (tt, coded)
  expr_coded (num.Variable (var.Simple name)) ops coded = read_coded (integer_cell prog.names name) ops (integer_one prog.names name) coded
  expr_coded (num.Bracket' _ (held x _)) ops coded = expr_coded x ops coded
  expr_coded (num.Unary' op _ (held x _)) ops coded =
      subst AreCoded (sym (append_assoc (expr_code prog line x) (unary_code line op) ops)) (expr_coded x (unary_code line op ++ ops) (unary_coded op ops coded))
  expr_coded (num.Binary' op _ (held x _) _ (held y _)) ops coded =
      subst AreCoded
      (sym (append_assoc (expr_code prog line x) (expr_code prog line y ++ o.Binary op line ∷ []) ops
      ∙ ap (λ l. expr_code prog line x ++ l) (append_assoc (expr_code prog line y) (o.Binary op line ∷ []) ops)))
      (expr_coded x (expr_code prog line y ++ o.Binary op line ∷ ops) (expr_coded y (o.Binary op line ∷ ops) (tt, coded)))
  expr_coded _ ops coded = (tt, (tt, coded))

  text_coded : (x : StrExpr) (ops : List Op) → AreCoded ops → AreCoded (text_code x ++ ops)
  text_coded (str.Literal number) ops coded = (tt, (tt, coded))
  text_coded _ ops coded = (tt, coded)

  updated_coded : (op : BinaryOp) (cell : Cell) (x : NumExpr) → IsOneCell cell → AreCoded (read_op line cell ∷ (expr_code prog line x ++ o.Binary op line ∷ store_op cell ∷ []))
  updated_coded op cell x one =
      read_coded cell (expr_code prog line x ++ o.Binary op line ∷ store_op cell ∷ []) one
      (expr_coded x (o.Binary op line ∷ store_op cell ∷ []) (tt, store_coded cell [] one tt))

  assignment_coded : (a : Assignment) → AreCoded (assignment_code prog line a)
  assignment_coded (assigns.Number (target.Variable (var.Simple name)) x) =
      expr_coded x (store_op (integer_cell prog.names name) ∷ []) (store_coded (integer_cell prog.names name) [] (integer_one prog.names name) tt)
  assignment_coded (assigns.Add (target.Variable (var.Simple name)) x) = updated_coded operators.Add (integer_cell prog.names name) x (integer_one prog.names name)
  assignment_coded (assigns.Subtract (target.Variable (var.Simple name)) x) = updated_coded operators.Subtract (integer_cell prog.names name) x (integer_one prog.names name)
  assignment_coded _ = (tt, tt)

  go_coded : (to : Option ℕ) → AreCoded (go_op to line ∷ [])
  go_coded None = (lit≤ tt, tt)
  go_coded (Some place) = (tt, tt)

  gosub_coded : (to : Option ℕ) → AreCoded (gosub_op to line ∷ [])
  gosub_coded None = (lit≤ tt, tt)
  gosub_coded (Some place) = (tt, tt)

  nexts_coded : (names : List ℕ) → AreCoded (nexts_code prog line names)
  nexts_coded [] = tt
  nexts_coded (name ∷ names) = (tt, nexts_coded names)

  next_coded : (names : List ℕ) → AreCoded (next_code prog line names)
  next_coded [] = (tt, tt)
  next_coded (name ∷ names) = nexts_coded (name ∷ names)

  step_coded : (z : Option NumExpr) (ops : List Op) → AreCoded ops → AreCoded (step_code prog line z ++ ops)
  step_coded None ops coded = (tt, coded)
  step_coded (Some x) ops coded = expr_coded x ops coded

  flow_coded : (place : ℕ) (w : Flow) → AreCoded (flow_code prog place line w)
  flow_coded place (flow.Goto number) = go_coded (line_place prog number)
  flow_coded place (flow.Gosub number) = gosub_coded (line_place prog number)
  flow_coded place flow.Return = (tt, tt)
  flow_coded place (flow.For name x y z) =
      let opens : List Op = o.OpenFor (counter_of (integer_cell prog.names name)) line ∷ [] in
      let limit : List Op = expr_code prog line y ++ (step_code prog line z ++ opens) in
      expr_coded x (store_op (integer_cell prog.names name) ∷ limit)
      (store_coded (integer_cell prog.names name) limit (integer_one prog.names name) (expr_coded y (step_code prog line z ++ opens) (step_coded z opens (tt, tt))))
  flow_coded place (flow.Next names) = next_coded names
  flow_coded place (flow.Until x) = expr_coded x (o.Until line ∷ []) (tt, tt)
  flow_coded place (flow.While x) = expr_coded x (o.GoIfZero (after_end prog OpensWhile place) ∷ o.OpenWhile line ∷ []) (tt, (tt, tt))
  flow_coded place flow.EndWhile = (tt, tt)
  flow_coded place flow.End = (tt, tt)
  flow_coded place flow.Stop = (lit≤ tt, tt)
  flow_coded place flow.Quit = (tt, tt)

  print_coded : (padded new_line : Bool) (parts : List PrintPart) → AreCoded (print_code prog line padded new_line parts)
  unfolding print_code
  print_coded padded true [] = (tt, tt)
  print_coded padded false [] = tt
  print_coded padded new_line (prints.Comma ∷ parts) = (tt, print_coded true true parts)
  print_coded padded new_line (prints.Semicolon ∷ parts) = print_coded false false parts
  print_coded padded new_line (prints.NewLine ∷ parts) = (tt, print_coded padded true parts)
  print_coded padded new_line (prints.Number format x ∷ parts) =
      expr_coded x (o.WriteNumber padded format ∷ print_code prog line padded true parts) (tt, print_coded padded true parts)
  print_coded padded new_line (prints.Text x ∷ parts) = text_coded x (print_code prog line padded true parts) (print_coded padded true parts)
  print_coded padded new_line (prints.Spaces x ∷ parts) = expr_coded x (o.Write pieces.Spaces ∷ print_code prog line padded true parts) (tt, print_coded padded true parts)
  print_coded padded new_line (prints.Tab x ∷ parts) = expr_coded x (o.Write pieces.Tab ∷ print_code prog line padded true parts) (tt, print_coded padded true parts)

  vdu_coded : (parts : List VduPart) → AreCoded (vdu_code prog line parts)
  unfolding vdu_code
  vdu_coded [] = tt
  vdu_coded (sends.Byte x ∷ parts) = expr_coded x (o.Write pieces.Byte ∷ vdu_code prog line parts) (tt, vdu_coded parts)
  vdu_coded (sends.Word x ∷ parts) = expr_coded x (o.Write pieces.Word ∷ vdu_code prog line parts) (tt, vdu_coded parts)

  output_coded : (w : Output) → AreCoded (output_code prog line w)
  output_coded (writes.Print parts) = print_coded true true parts
  output_coded (writes.Vdu parts) = vdu_coded parts
  output_coded (writes.Mode x) = expr_coded x (o.Write pieces.Mode ∷ []) (tt, tt)
  output_coded (writes.Colour x) = expr_coded x (o.Write pieces.Colour ∷ []) (tt, tt)
  output_coded writes.Cls = (tt, tt)

  restore_coded : (to : Option ℕ) → AreCoded (restore_op to line ∷ [])
  restore_coded None = (lit≤ tt, tt)
  restore_coded (Some place) = (tt, tt)

  reads_coded : (variables : List Target) → AreCoded (reads_code prog line variables)
  reads_coded [] = tt
  reads_coded (targets.Number (target.Variable (var.Simple name)) ∷ others) =
      (tt, store_coded (integer_cell prog.names name) (reads_code prog line others) (integer_one prog.names name) (reads_coded others))
  reads_coded (_ ∷ others) = (tt, tt)

  statement_coded : (place : ℕ) (x : Stmt) → AreCoded (statement_code prog place line x)
  statement_coded place (stmt.Assign a) = assignment_coded a
  statement_coded place (stmt.Flow w) = flow_coded place w
  statement_coded place (stmt.Output w) = output_coded w
  statement_coded place (stmt.Read variables) = reads_coded variables
  statement_coded place (stmt.Restore to) = restore_coded (restored prog to)
  statement_coded place _ = (tt, tt)

  choice_coded : (jump : Jump) (to : Option ℕ) (ops : List Op) → AreCoded ops → AreCoded (choice_op jump to line ∷ ops)
  choice_coded jump None ops coded = (lit≤ tt, coded)
  choice_coded jumps.Goto (Some place) ops coded = (tt, coded)
  choice_coded jumps.Gosub (Some place) ops coded = (tt, coded)

  choices_coded : (jump : Jump) (numbers : List ℕ) (ops : List Op) → AreCoded ops → AreCoded (choices_code prog line jump numbers ++ ops)
  choices_coded jump [] ops coded = coded
  choices_coded jump (number ∷ numbers) ops coded =
      choice_coded jump (line_place prog number) (choices_code prog line jump numbers ++ ops) (choices_coded jump numbers ops coded)

  otherwise_coded : (to : Option ℕ) → AreCoded (otherwise_op to line ∷ [])
  otherwise_coded None = (lit≤ tt, tt)
  otherwise_coded (Some place) = (tt, tt)

  values_coded : (after : ℕ) (values : List Any) (ops : List Op) → AreCoded ops → AreCoded (values_code prog line after values ++ ops)
  values_coded after [] ops coded = coded
  values_coded after (any.Number x ∷ values) ops coded =
      subst AreCoded (sym (append_assoc (expr_code prog line x) (o.GoIfEqual after ∷ values_code prog line after values) ops))
      (expr_coded x (o.GoIfEqual after ∷ (values_code prog line after values ++ ops)) (tt, values_coded after values ops coded))
  values_coded after (any.Text x ∷ values) ops coded = (tt, coded)

  head_coded : (place : ℕ) (h : Head) → AreCoded (head_code prog place h)
  head_coded place head.BlockElse = (tt, tt)
  head_coded place head.EndIf = tt
  head_coded place (head.When values) = (tt, tt)
  head_coded place head.Otherwise = (tt, tt)
  head_coded place head.EndCase = tt
  head_coded place _ = (tt, tt)

branches_coded : (prog : Prog) (branches : List Branch) (ops : List Op) → AreCoded ops → AreCoded (branches_code prog branches ++ ops)
branches_coded prog [] ops coded = coded
branches_coded prog (b ∷ branches) ops coded =
    subst AreCoded (sym (append_assoc (values_code prog b.line b.after b.values) (branches_code prog branches) ops))
    (values_coded prog b.line b.after b.values (branches_code prog branches ++ ops) (branches_coded prog branches ops coded))

module _ (prog : Prog) (line : ℕ) where
  case_coded : (place : ℕ) (x : Any) → AreCoded (case_code prog place line x)
  case_coded place (any.Number x) =
      let search : List Op = branches_code prog (branches_of prog place) ++ o.Discard ∷ o.Go (after_end prog OpensCase place) ∷ [] in
      expr_coded prog line x search (branches_coded prog (branches_of prog place) (o.Discard ∷ o.Go (after_end prog OpensCase place) ∷ []) (tt, (tt, tt)))
  case_coded place (any.Text x) = (tt, tt)

  item_coded : (place : ℕ) (i : Item) → AreCoded (item_code prog place line i)
  item_coded place (item.Head h) = head_coded prog line place h
  item_coded place (item.Stmt x) = statement_coded prog line place x
  item_coded place (item.If x) = expr_coded prog line x (o.GoIfZero (else_place prog place) ∷ []) (tt, tt)
  item_coded place (item.BlockIf x) = expr_coded prog line x (o.GoIfZero (after_end prog OpensIf place) ∷ []) (tt, tt)
  item_coded place (item.Case x) = case_coded place x
  item_coded place (item.On x jump numbers) =
      let otherwise : List Op = o.Discard ∷ otherwise_op (on_else prog place) line ∷ [] in
      expr_coded prog line x (choices_code prog line jump numbers ++ otherwise) (choices_coded prog line jump numbers otherwise (tt, otherwise_coded prog line (on_else prog place)))
  item_coded place item.Repeat = (tt, tt)
  item_coded place item.Else = (tt, tt)
  item_coded place (item.Data n) = tt
  item_coded place item.Remark = tt
  item_coded place _ = (tt, tt)

jump_coded : (next : ℕ) (ops : List Op) → AreCoded ops → AreCoded (or_jump next ops)
jump_coded next [] coded = (tt, tt)
jump_coded next (op ∷ ops) coded = coded

-- fused operations
fuse_coded : (old new : List Op) → Fuses old new → (pending : Bool) → Coded (Some pending) old → Coded (Some pending) new
fuse_coded old new (f.same ops) pending coded = coded
fuse_coded old new (f.constant value op line rest) true coded = absurd coded.1
fuse_coded old new (f.constant value op line rest) false coded = coded.1
fuse_coded old new (f.resident index op line rest) true coded = absurd coded.1
fuse_coded old new (f.resident index op line rest) false coded = (coded.0, coded.1.1)
fuse_coded old new (f.change index op line number rest) true coded = absurd coded.1
fuse_coded old new (f.change index op line number rest) false coded = (coded.0, coded.1.1.1)
fuse_coded old new (f.comparison relation line item rest) true coded = absurd coded.1
fuse_coded old new (f.comparison relation line item rest) false coded = coded.1
fuse_coded old new (f.compared value relation item rest) true coded = absurd coded.1
fuse_coded old new (f.compared value relation item rest) false coded = coded.1

fused_coded : (ops : List Op) (pending : Option Bool) → Coded pending ops → Coded pending (fused ops)
fused_coded ops None coded = absurd coded
fused_coded [] (Some b) coded = coded
fused_coded (op ∷ ops) (Some b) coded =
    fuse_coded (op ∷ fused ops) (fused_with op (fused ops)) (fuses op (fused ops)) b (coded.0, fused_coded ops (text_after b op) coded.1)

-- the code of every item
abbrev AllCoded : List (List Op) → Type 0
AllCoded [] = Unit {0}
AllCoded (c ∷ cs) = AreCoded c × AllCoded cs

codes_from_coded : (prog : Prog) (rs : List Row) (base : ℕ) → AllCoded (codes_from prog base rs)
codes_from_coded prog [] base = tt
codes_from_coded prog (r ∷ rs) base = (
  fused_coded (row_ops prog base r) (Some false) (jump_coded (base + 1) (item_code prog base r.line r.item) (item_coded prog r.line base r.item)),
  codes_from_coded prog rs (base + 1),
)

abbrev IsNot : {A : Type 0} → Option A → Type 0
IsNot None = Unit {0}
IsNot (Some x) = ⊥

abbrev some_or : Op → Option Op → Op
some_or d None = d
some_or d (Some op) = op

has_code_in : (pending : Option Bool) (c : List Op) (cs : List (List Op)) (pc : ℕ) (op : Op) → Coded pending c → AllCoded cs → slice_get (c ++ joined cs) pc ≡ Some op → HasCode op
has_code_in None c cs pc op coded all is = absurd coded
has_code_in (Some b) [] [] pc op coded all is = absurd (subst IsNot is tt)
has_code_in (Some b) [] (c ∷ cs) pc op coded all is = has_code_in (Some false) c cs pc op all.0 all.1 is
has_code_in (Some b) (x ∷ c) cs zero op coded all is = subst HasCode (ap (some_or x) is) coded.0
has_code_in (Some b) (x ∷ c) cs (suc k) op coded all is = has_code_in (text_after b x) c cs k op coded.1 all is

-- ---- pending strings

-- the number of pending strings
abbrev text_number : Bool → ℕ
text_number false = 0
text_number true = 1

-- this number of strings is pending, if a number is known
abbrev HasTexts : Option Bool → Option Height → Type 0
HasTexts None h = Unit {0}
HasTexts (Some b) None = Unit {0}
HasTexts (Some b) (Some h) = h.texts ≡ text_number b

none_has : (pending : Option Bool) → HasTexts pending None
none_has None = tt
none_has (Some b) = tt

without_has : (b : Bool) (numbers texts : ℕ) → texts ≡ text_number b → HasTexts (Some b) (without_number numbers texts)
without_has b zero texts is = tt
without_has b (suc numbers) texts is = is

one_for_one_has : (b : Bool) (numbers texts : ℕ) → texts ≡ text_number b → HasTexts (Some b) (and_then (without_number numbers texts) (λ less. Some (one_more less)))
one_for_one_has b zero texts is = tt
one_for_one_has b (suc numbers) texts is = is

one_for_two_has : (b : Bool) (numbers texts : ℕ) → texts ≡ text_number b
    → HasTexts (Some b) (and_then (and_then (without_number numbers texts) one_less) (λ less. Some (one_more less)))
one_for_two_has b zero texts is = tt
one_for_two_has b (suc zero) texts is = tt
one_for_two_has b (suc (suc numbers)) texts is = is

two_less_has : (b : Bool) (numbers texts : ℕ) → texts ≡ text_number b → HasTexts (Some b) (and_then (without_number numbers texts) one_less)
two_less_has b zero texts is = tt
two_less_has b (suc zero) texts is = tt
two_less_has b (suc (suc numbers)) texts is = is

text_written_has : (numbers texts : ℕ) → texts ≡ 1 → HasTexts (Some false) (without_text numbers texts)
text_written_has numbers zero is = tt
text_written_has numbers (suc texts) is = omega (arith, is)

step_has : (b : Bool) (op : Op) (numbers texts : ℕ) → texts ≡ text_number b → HasCode op
    → HasTexts (text_after b op) (height_after [] op (record { numbers = numbers; texts = texts }))
step_has false (o.Push value) numbers texts is has = is
step_has false o.PushColumn numbers texts is has = is
step_has false (o.PushResident index) numbers texts is has = is
step_has false (o.PushInteger name line) numbers texts is has = is
step_has false (o.PushText number) numbers texts is has = ap suc is
step_has false (o.Unary op line) numbers texts is has = one_for_one_has false numbers texts is
step_has false (o.Binary op line) numbers texts is has = one_for_two_has false numbers texts is
step_has false (o.BinaryWith op line number) numbers texts is has = one_for_one_has false numbers texts is
step_has false (o.BinaryWithResident op resident line) numbers texts is has = one_for_one_has false numbers texts is
step_has false (o.ChangeResident op resident line number) numbers texts is has = is
step_has false (o.StoreResident index) numbers texts is has = without_has false numbers texts is
step_has false (o.StoreInteger name) numbers texts is has = without_has false numbers texts is
step_has false (o.WriteNumber padded format) numbers texts is has = without_has false numbers texts is
step_has false o.WriteText numbers texts is has = tt
step_has false (o.Write part) numbers texts is has = without_has false numbers texts is
step_has false (o.WriteMark part) numbers texts is has = is
step_has false (o.Go item) numbers texts is has = is
step_has false (o.GoIfZero item) numbers texts is has = without_has false numbers texts is
step_has false (o.GoUnless relation item) numbers texts is has = two_less_has false numbers texts is
step_has false (o.GoUnlessWith relation item number) numbers texts is has = without_has false numbers texts is
step_has false o.Discard numbers texts is has = without_has false numbers texts is
step_has false (o.GoIfOne item) numbers texts is has = one_for_one_has false numbers texts is
step_has false (o.GosubIfOne line item) numbers texts is has = one_for_one_has false numbers texts is
step_has false (o.RaiseIfOne error line) numbers texts is has = one_for_one_has false numbers texts is
step_has false (o.GoIfEqual item) numbers texts is has = one_for_two_has false numbers texts is
step_has false (o.ReadNumber line) numbers texts is has = is
step_has false (o.Restore item) numbers texts is has = is
step_has false (o.OpenFor counter line) numbers texts is has = two_less_has false numbers texts is
step_has false (o.OpenRepeat line) numbers texts is has = is
step_has false (o.OpenWhile line) numbers texts is has = is
step_has false (o.Gosub line item) numbers texts is has = is
step_has false (o.Next counter line) numbers texts is has = is
step_has false (o.NextAny line) numbers texts is has = is
step_has false (o.Until line) numbers texts is has = without_has false numbers texts is
step_has false (o.EndWhile line) numbers texts is has = is
step_has false (o.Return line) numbers texts is has = is
step_has false (o.Raise error line) numbers texts is has = is
step_has false o.End numbers texts is has = is
step_has false (o.Enter kind routine line) numbers texts is has = absurd has
step_has false (o.LeaveProcedure line) numbers texts is has = absurd has
step_has false (o.NeedFunction line) numbers texts is has = absurd has
step_has false o.LeaveNumber numbers texts is has = absurd has
step_has false o.LeaveText numbers texts is has = absurd has
step_has false (o.HandleAll item) numbers texts is has = absurd has
step_has false (o.HandleHere item) numbers texts is has = absurd has
step_has false o.HandleNone numbers texts is has = absurd has
step_has true o.WriteText numbers texts is has = text_written_has numbers texts is
step_has true _ numbers texts is has = tt

abbrev FewTexts : List Height → Type 0
FewTexts [] = Unit {0}
FewTexts (h ∷ hs) = (h.texts ≤ 1) × FewTexts hs

append_few : (xs ys : List Height) → FewTexts xs → FewTexts ys → FewTexts (xs ++ ys)
append_few [] ys a b = b
append_few (x ∷ xs) ys a b = (a.0, append_few xs ys a.1 b)

number_few : (b : Bool) (texts : ℕ) → texts ≡ text_number b → texts ≤ 1
number_few false texts is = omega (arith, is)
number_few true texts is = omega (arith, is)

few_in : (pending : Option Bool) (c : List Op) (h : Option Height) → HasTexts pending h → Coded pending c → FewTexts (heights_of h c)
few_in None c h has coded = absurd coded
few_in (Some b) [] h has coded = tt
few_in (Some b) (op ∷ c) None has coded = (omega arith, few_in (text_after b op) c None (none_has (text_after b op)) coded.1)
few_in (Some b) (op ∷ c) (Some h) has coded =
    (number_few b h.texts has, few_in (text_after b op) c (height_after [] op h) (step_has b op h.numbers h.texts has coded.0) coded.1)

few_in_all : (cs : List (List Op)) → AllCoded cs → FewTexts (flat_map (heights_of (Some empty_height)) cs)
few_in_all [] all = tt
few_in_all (c ∷ cs) all =
    append_few (heights_of (Some empty_height) c) (flat_map (heights_of (Some empty_height)) cs) (few_in (Some false) c (Some empty_height) refl all.0) (few_in_all cs all.1)

few_at : (hs : List Height) (pc : ℕ) → FewTexts hs → (slice_index_or hs pc empty_height).texts ≤ 1
few_at [] pc few = omega arith
few_at (h ∷ hs) zero few = few.0
few_at (h ∷ hs) (suc k) few = few_at hs k few.1

module _ (prog : Prog) where
  codes_coded : AllCoded (codes prog)
  unfolding codes
  codes_coded = codes_from_coded prog (rows prog) 0

  pub all_have_code : AllHaveCode (flat_code prog)
  all_have_code pc op is = has_code_in (Some false) [] (codes prog) pc op tt codes_coded is

  pub at_most_one_text : AtMostOneText (flat_code prog)
  at_most_one_text pc = few_at (flat_code prog).heights pc (few_in_all (codes prog) codes_coded)
