-- The code of an expression pushes its value, and the code of an item does what the item does.
use Rattle.std.proofs.Common.{◌≡◌, ℕ, zero, suc, ◌+◌, ◌-◌, List, [], ◌∷◌, ◌++◌, Option, None, Some, refl, sym, ap, ◌∙◌, append_assoc, arith}
use Rattle.std.specs.Prelude.{ℤ, pos, negsuc, Bool, true, false, if◌then◌else◌}
use Rattle.std.specs.Ordering.{int_eq}
use Rattle.bas_ast.specs.declared.expressions.Any.{Any}
use Rattle.bas_ast.specs.declared.expressions.Any.TheVariants as any
use Rattle.bas_ast.specs.declared.expressions.BinaryOp.{BinaryOp}
use Rattle.bas_ast.specs.declared.expressions.BinaryOp.TheVariants as operators
use Rattle.bas_ast.specs.declared.expressions.NumExpr.{NumExpr, more_of-NumExpr as held}
use Rattle.bas_ast.specs.declared.expressions.NumExpr.TheVariants as num
use Rattle.bas_ast.specs.declared.expressions.StrExpr.{StrExpr}
use Rattle.bas_ast.specs.declared.expressions.StrExpr.TheVariants as str
use Rattle.bas_ast.specs.declared.expressions.UnaryOp.{UnaryOp}
use Rattle.bas_ast.specs.declared.expressions.UnaryOp.TheVariants as unary
use Rattle.bas_ast.specs.declared.expressions.Variable.TheVariants as var
use Rattle.bas_ast.specs.declared.lines.Head.{Head}
use Rattle.bas_ast.specs.declared.lines.Head.TheVariants as head
use Rattle.bas_ast.specs.declared.lines.Item.{Item}
use Rattle.bas_ast.specs.declared.lines.Item.TheVariants as item
use Rattle.bas_ast.specs.declared.lines.Jump.{Jump}
use Rattle.bas_ast.specs.declared.lines.Jump.TheVariants as jumps
use Rattle.bas_ast.specs.declared.program.Prog.{Prog}
use Rattle.bas_ast.specs.declared.statements.Assignment.{Assignment}
use Rattle.bas_ast.specs.declared.statements.Assignment.TheVariants as assigns
use Rattle.bas_ast.specs.declared.statements.Flow.{Flow}
use Rattle.bas_ast.specs.declared.statements.Flow.TheVariants as flow
use Rattle.bas_ast.specs.declared.statements.Output.{Output}
use Rattle.bas_ast.specs.declared.statements.Output.TheVariants as writes
use Rattle.bas_ast.specs.declared.statements.PrintPart.{PrintPart}
use Rattle.bas_ast.specs.declared.statements.PrintPart.TheVariants as prints
use Rattle.bas_ast.specs.declared.statements.Stmt.{Stmt}
use Rattle.bas_ast.specs.declared.statements.Stmt.TheVariants as stmt
use Rattle.bas_ast.specs.declared.statements.VduPart.{VduPart}
use Rattle.bas_ast.specs.declared.statements.VduPart.TheVariants as sends
use Rattle.bas_ast.specs.declared.targets.NumTarget.TheVariants as target
use Rattle.bas_ast.specs.declared.targets.Target.{Target}
use Rattle.bas_ast.specs.declared.targets.Target.TheVariants as targets
use Rattle.bas_ast.specs.Structures.{OpensWhile, OpensIf, OpensCase}
use Rattle.bas_ir.specs.declared.op.Op.{Op}
use Rattle.bas_ir.specs.declared.op.Op.TheVariants as o
use Rattle.bas_ir.specs.declared.op.Piece.TheVariants as pieces
use Rattle.bas_ir.specs.Effects.{Effect, Goes, falls, go_if, counted_down, go_if_one, go_if_equal, gosub_if_one, raise_if_one, round_or_on}
use Rattle.bas_ir.specs.Places.{Pending, nothing, pushed, text_pushed}
use Rattle.bas_store.specs.Cells.{Cell, Resident, Integer, integer_cell}
use Rattle.bas_store.specs.Opened.{AnyNext, NextOf, EndWhile, Return}
use Rattle.bas_store.specs.Stored.{Handler, For}
use Rattle.bas_value.specs.Errors.{error_text, no_such_line, on_range, stopped}
use Rattle.bas_value.specs.Output as out
use Rattle.bv_num.specs.Operation as operations
use Rattle.bv_num.specs.Operation.{Operation, operation}
use Rattle.bas_sem.specs.State.{State}
use Rattle.bas_sem.specs.Course.{Action, ◌>>=◌, ◌>>◌, give}
use Rattle.bas_sem.specs.Actions.{read, assign, write, wrote, or_raise, raise, raised_to, taker}
use Rattle.bas_sem.specs.Calls.{Calls, Level, Next, GoOn, go_on}
use Rattle.bas_sem.specs.Evaluate.{evaluate, evaluate_text}
use Rattle.bas_sem.specs.Items.{assignment, go_to, gosub_to, back_or, nexts, next_of, step_of, while_if, goes, chosen, on_line, out_of_range, on_chosen, print, vdu, output, reads, branch, block_branch, go_or, among_values, among_branches, case_of, met, statement, execute_item}
use Rattle.bas_sem.specs.Loops.{opens, closing, until, next}
use Rattle.bas_sem.specs.Operators.{of_one, of_two}
use Rattle.bas_sem.specs.Data.{data_texts, next_number, restored, restore}
use Rattle.bas_sem.specs.Places.{Row, Branch, else_place, on_else, after_end, branches_of, line_place}
use Rattle.ir_build.specs.Code.{unary_code, read_op, store_op, expr_code, text_code, assignment_code, go_op, gosub_op, counter_of, step_code, for_code, nexts_code, next_code, flow_code, choice_op, choices_code, otherwise_op, print_code, vdu_code, output_code, reads_code, restore_op, statement_code, values_code, branches_code, case_code, head_code, item_code, or_jump, row_ops, row_code, flat_code}
use Rattle.ir_build.proofs.Bind.{bind_assoc, bind_same, bind_then}
use Rattle.ir_build.proofs.Denote.{calls_at, carry, den}
use Rattle.ir_build.proofs.FusedDenotes.{fused_den}

module _ (prog : Prog) (level : Level) (next : ℕ) where
  -- operations of the program's code, before the next item
  abbrev does : List Op → Pending → Action Next
  does ops p = den prog (flat_code prog) level next ops p

  abbrev carries : (Pending → Action Next) → Effect → Action Next
  carries then_do = carry prog (flat_code prog) level next then_do

  -- an action whose value is pushed
  pushes : (m : Action ℤ) (ops : List Op) (p : Pending) (s : State) → ((m >>= (λ v. falls (pushed v p))) >>= carries (does ops)) s ≡ (m >>= (λ v. does ops (pushed v p))) s
  pushes m ops p s = bind_assoc m (λ v. falls (pushed v p)) (carries (does ops)) s

  read_den : (line : ℕ) (cell : Cell) (ops : List Op) (p : Pending) (s : State) → does (read_op line cell ∷ ops) p s ≡ (read line cell >>= (λ v. does ops (pushed v p))) s
  read_den line (Resident index) ops p s = refl
  read_den line (Integer name) ops p s = pushes (read line (Integer name)) ops p s

  -- the value of an expression
  abbrev value_of : ℕ → NumExpr → Action ℤ
  value_of line x = evaluate prog (calls_at prog (flat_code prog) level) line x

  unary_den : (line : ℕ) (op : UnaryOp) (ops : List Op) (p : Pending) (v : ℤ) (t : State)
      → does (unary_code line op ++ ops) (pushed v p) t ≡ (or_raise line (of_one op v) >>= (λ w. does ops (pushed w p))) t
  unary_den line unary.Plus ops p v t = refl
  unary_den line unary.Minus ops p v t = pushes (or_raise line (of_one unary.Minus v)) ops p t
  unary_den line unary.Not ops p v t = pushes (or_raise line (of_one unary.Not v)) ops p t
  unary_den line unary.Abs ops p v t = pushes (or_raise line (of_one unary.Abs v)) ops p t
  unary_den line unary.Sgn ops p v t = pushes (or_raise line (of_one unary.Sgn v)) ops p t
  unary_den line unary.Int ops p v t = refl

  pub expr_den : (line : ℕ) (x : NumExpr) (ops : List Op) (p : Pending) (s : State)
      → does (expr_code prog line x ++ ops) p s ≡ (value_of line x >>= (λ v. does ops (pushed v p))) s
  unfolding expr_code evaluate
  expr_den line (num.Number value) ops p s = refl
  expr_den line num.True ops p s = refl
  expr_den line num.False ops p s = refl
  expr_den line num.Count ops p s = refl
  expr_den line (num.Variable (var.Simple name)) ops p s = read_den line (integer_cell prog.names name) ops p s
  expr_den line (num.Bracket' _ (held x _)) ops p s = expr_den line x ops p s
  expr_den line (num.Unary' op _ (held x _)) ops p s =
      ap (λ c. does c p s) (append_assoc (expr_code prog line x) (unary_code line op) ops)
      ∙ expr_den line x (unary_code line op ++ ops) p s
      ∙ bind_then (value_of line x) (λ v. or_raise line (of_one op v)) (λ w. does ops (pushed w p)) (λ v. does (unary_code line op ++ ops) (pushed v p)) s
      (λ v t. unary_den line op ops p v t)
  expr_den line (num.Binary' op _ (held x _) _ (held y _)) ops p s =
      ap (λ c. does c p s) (append_assoc (expr_code prog line x) (expr_code prog line y ++ o.Binary op line ∷ []) ops
      ∙ ap (λ c. expr_code prog line x ++ c) (append_assoc (expr_code prog line y) (o.Binary op line ∷ []) ops))
      ∙ expr_den line x (expr_code prog line y ++ o.Binary op line ∷ ops) p s
      ∙ bind_then (value_of line x) (λ v. value_of line y >>= (λ w. or_raise line (of_two op v w))) (λ u. does ops (pushed u p))
      (λ v. does (expr_code prog line y ++ o.Binary op line ∷ ops) (pushed v p)) s
      (λ v t. expr_den line y (o.Binary op line ∷ ops) (pushed v p) t
      ∙ bind_then (value_of line y) (λ w. or_raise line (of_two op v w)) (λ u. does ops (pushed u p)) (λ w. does (o.Binary op line ∷ ops) (pushed w (pushed v p))) t
      (λ w u. pushes (or_raise line (of_two op v w)) ops p u))
  expr_den line _ ops p s = refl

  text_den : (line : ℕ) (x : StrExpr) (ops : List Op) (p : Pending) (s : State)
      → does (text_code x ++ ops) p s ≡ (evaluate_text prog (calls_at prog (flat_code prog) level) line x >>= (λ v. does (o.WriteText ∷ ops) (text_pushed v p))) s
  text_den line (str.Literal number) ops p s = refl
  text_den line _ ops p s = refl

  -- goes on with the next item
  abbrev onwards : Unit {0} → Action Next
  onwards _ = go_on next

  -- an expression, and an operation that ends in what follows it
  ends_den : (line : ℕ) (x : NumExpr) (ops : List Op) (f : ℤ → Action (Unit {0})) (s : State) → ((v : ℤ) (t : State) → does ops (pushed v nothing) t ≡ (f v >>= onwards) t)
      → does (expr_code prog line x ++ ops) nothing s ≡ ((value_of line x >>= f) >>= onwards) s
  ends_den line x ops f s same =
      expr_den line x ops nothing s ∙ bind_then (value_of line x) f onwards (λ v. does ops (pushed v nothing)) s same

  -- a store, and what follows it
  stored_then : (cell : Cell) (v : ℤ) (ops : List Op) (s : State) → does (store_op cell ∷ ops) (pushed v nothing) s ≡ (assign cell v >> does ops nothing) s
  stored_then (Resident index) v ops s = refl
  stored_then (Integer name) v ops s = refl

  store_den : (cell : Cell) (v : ℤ) (t : State) → does (store_op cell ∷ []) (pushed v nothing) t ≡ (assign cell v >>= onwards) t
  store_den (Resident index) v t = refl
  store_den (Integer name) v t = refl

  updated_den : (op : BinaryOp) (by : Operation) → ((x y : ℤ) → of_two op x y ≡ operation by x y) → (line : ℕ) (cell : Cell) (x : NumExpr) (s : State)
      → does (read_op line cell ∷ (expr_code prog line x ++ o.Binary op line ∷ store_op cell ∷ [])) nothing s
      ≡ ((read line cell >>= (λ old. value_of line x >>= (λ v. or_raise line (operation by old v) >>= assign cell))) >>= onwards) s
  updated_den op by is line cell x s =
      read_den line cell (expr_code prog line x ++ o.Binary op line ∷ store_op cell ∷ []) nothing s
      ∙ bind_then (read line cell) (λ old. value_of line x >>= (λ v. or_raise line (operation by old v) >>= assign cell)) onwards
      (λ old. does (expr_code prog line x ++ o.Binary op line ∷ store_op cell ∷ []) (pushed old nothing)) s
      (λ old t. expr_den line x (o.Binary op line ∷ store_op cell ∷ []) (pushed old nothing) t
      ∙ bind_then (value_of line x) (λ v. or_raise line (operation by old v) >>= assign cell) onwards
      (λ v. does (o.Binary op line ∷ store_op cell ∷ []) (pushed v (pushed old nothing))) t
      (λ v u. pushes (or_raise line (of_two op old v)) (store_op cell ∷ []) nothing u
      ∙ ap (λ r. (or_raise line r >>= (λ w. does (store_op cell ∷ []) (pushed w nothing))) u) (is old v)
      ∙ bind_then (or_raise line (operation by old v)) (assign cell) onwards (λ w. does (store_op cell ∷ []) (pushed w nothing)) u (store_den cell)))

  assignment_den : (line : ℕ) (a : Assignment) (s : State)
      → does (assignment_code prog line a) nothing s ≡ (assignment prog (calls_at prog (flat_code prog) level) line a >>= onwards) s
  assignment_den line (assigns.Number (target.Variable (var.Simple name)) x) s =
      ends_den line x (store_op (integer_cell prog.names name) ∷ []) (assign (integer_cell prog.names name)) s (store_den (integer_cell prog.names name))
  assignment_den line (assigns.Add (target.Variable (var.Simple name)) x) s = updated_den operators.Add operations.Add (λ a b. refl) line (integer_cell prog.names name) x s
  assignment_den line (assigns.Subtract (target.Variable (var.Simple name)) x) s =
      updated_den operators.Subtract operations.Subtract (λ a b. refl) line (integer_cell prog.names name) x s
  assignment_den line _ s = refl

  -- a part is written, and others follow
  written_den : (line : ℕ) (x : NumExpr) (op : Op) (part : ℤ → out.Part) (ops : List Op) (m : Action (Unit {0})) (s : State)
      → ((v : ℤ) (t : State) → does (op ∷ ops) (pushed v nothing) t ≡ does ops nothing (wrote (part v) t)) → ((t : State) → does ops nothing t ≡ (m >>= onwards) t)
      → does (expr_code prog line x ++ op ∷ ops) nothing s ≡ ((value_of line x >>= (λ v. write (part v) >> m)) >>= onwards) s
  written_den line x op part ops m s writes_it others =
      ends_den line x (op ∷ ops) (λ v. write (part v) >> m) s (λ v t. writes_it v t ∙ others (wrote (part v) t))

  print_den : (line : ℕ) (padded new_line : Bool) (parts : List PrintPart) (s : State)
      → does (print_code prog line padded new_line parts) nothing s ≡ (print prog (calls_at prog (flat_code prog) level) line padded new_line parts >>= onwards) s
  unfolding print_code print
  print_den line padded true [] s = refl
  print_den line padded false [] s = refl
  print_den line padded new_line (prints.Comma ∷ parts) s = print_den line true true parts (wrote out.Field s)
  print_den line padded new_line (prints.Semicolon ∷ parts) s = print_den line false false parts s
  print_den line padded new_line (prints.NewLine ∷ parts) s = print_den line padded true parts (wrote out.NewLine s)
  print_den line padded new_line (prints.Number format x ∷ parts) s =
      written_den line x (o.WriteNumber padded format) (out.Number padded format) _ (print prog (calls_at prog (flat_code prog) level) line padded true parts) s
      (λ v t. refl) (print_den line padded true parts)
  print_den line padded new_line (prints.Text x ∷ parts) s =
      text_den line x (print_code prog line padded true parts) nothing s
      ∙ bind_then (evaluate_text prog (calls_at prog (flat_code prog) level) line x)
      (λ v. write (out.Text v) >> print prog (calls_at prog (flat_code prog) level) line padded true parts) onwards
      (λ v. does (o.WriteText ∷ print_code prog line padded true parts) (text_pushed v nothing)) s
      (λ v t. print_den line padded true parts (wrote (out.Text v) t))
  print_den line padded new_line (prints.Spaces x ∷ parts) s =
      written_den line x (o.Write pieces.Spaces) out.Spaces _ (print prog (calls_at prog (flat_code prog) level) line padded true parts) s
      (λ v t. refl) (print_den line padded true parts)
  print_den line padded new_line (prints.Tab x ∷ parts) s =
      written_den line x (o.Write pieces.Tab) out.Tab _ (print prog (calls_at prog (flat_code prog) level) line padded true parts) s
      (λ v t. refl) (print_den line padded true parts)

  vdu_den : (line : ℕ) (parts : List VduPart) (s : State)
      → does (vdu_code prog line parts) nothing s ≡ (vdu prog (calls_at prog (flat_code prog) level) line parts >>= onwards) s
  unfolding vdu_code vdu
  vdu_den line [] s = refl
  vdu_den line (sends.Byte x ∷ parts) s =
      written_den line x (o.Write pieces.Byte) out.Byte _ (vdu prog (calls_at prog (flat_code prog) level) line parts) s (λ v t. refl) (vdu_den line parts)
  vdu_den line (sends.Word x ∷ parts) s =
      written_den line x (o.Write pieces.Word) out.Word _ (vdu prog (calls_at prog (flat_code prog) level) line parts) s (λ v t. refl) (vdu_den line parts)

  output_den : (line : ℕ) (w : Output) (s : State)
      → does (output_code prog line w) nothing s ≡ (output prog (calls_at prog (flat_code prog) level) line w >>= onwards) s
  output_den line (writes.Print parts) s = print_den line true true parts s
  output_den line (writes.Vdu parts) s = vdu_den line parts s
  output_den line (writes.Mode x) s = ends_den line x (o.Write pieces.Mode ∷ []) (λ v. write (out.Mode v)) s (λ v t. refl)
  output_den line (writes.Colour x) s = ends_den line x (o.Write pieces.Colour ∷ []) (λ v. write (out.Colour v)) s (λ v t. refl)
  output_den line writes.Cls s = refl

  -- an error ends the item
  raised_den : {A B : Type 0} (h : Option Handler) (error : ℤ) (text : List ℕ) (line : ℕ) (then_do : A → Action B) (s : State)
      → (raised_to h error text line >>= then_do) s ≡ raised_to h error text line s
  raised_den None error text line then_do s = refl
  raised_den (Some h) error text line then_do s = refl

  pub raise_then : {A B : Type 0} (error line : ℕ) (then_do : A → Action B) (s : State) → (raise error line >>= then_do) s ≡ raise error line s
  raise_then error line then_do s = raised_den (taker (int_eq (pos error) (pos 0)) s.handler) (pos error) (error_text error) line then_do s

  raise_den : (error line : ℕ) (ops : List Op) (s : State) → does (o.Raise error line ∷ ops) nothing s ≡ raise error line s
  raise_den error line ops s = raise_then error line (carries (does ops)) s

  -- ---- READ and RESTORE

  reads_den : (line : ℕ) (variables : List Target) (s : State) → does (reads_code prog line variables) nothing s ≡ (reads prog line variables >>= onwards) s
  reads_den line [] s = refl
  reads_den line (targets.Number (target.Variable (var.Simple name)) ∷ others) s =
      pushes (next_number (data_texts prog) line) (store_op (integer_cell prog.names name) ∷ reads_code prog line others) nothing s
      ∙ bind_then (next_number (data_texts prog) line) (λ v. assign (integer_cell prog.names name) v >> reads prog line others) onwards
      (λ v. does (store_op (integer_cell prog.names name) ∷ reads_code prog line others) (pushed v nothing)) s
      (λ v t. stored_then (integer_cell prog.names name) v (reads_code prog line others) t
      ∙ bind_then (assign (integer_cell prog.names name) v) (λ _. reads prog line others) onwards (λ _. does (reads_code prog line others) nothing) t (λ _ u. reads_den line others u))
  reads_den line (_ ∷ others) s = refl

  restore_den : (to : Option ℕ) (line : ℕ) (s : State) → does (restore_op to line ∷ []) nothing s ≡ (restore to line >>= onwards) s
  restore_den None line s = raise_den no_such_line line [] s ∙ sym (raise_then no_such_line line onwards s)
  restore_den (Some place) line s = refl

  jump_den : (ops : List Op) (s : State) → does (or_jump next ops) nothing s ≡ does ops nothing s
  jump_den [] s = refl
  jump_den (op ∷ ops) s = refl

module _ (prog : Prog) (level : Level) (place : ℕ) where
  -- operations of the program's code, before the item after this one
  abbrev runs : List Op → Pending → Action Next
  runs ops p = does prog level (place + 1) ops p

  abbrev calls_here : Calls
  calls_here = calls_at prog (flat_code prog) level

  -- an expression, and operations that do what follows its value
  valued_den : (line : ℕ) (x : NumExpr) (ops : List Op) (p : Pending) (f : ℤ → Action Next) (s : State) → ((v : ℤ) (t : State) → runs ops (pushed v p) t ≡ f v t)
      → runs (expr_code prog line x ++ ops) p s ≡ (evaluate prog calls_here line x >>= f) s
  valued_den line x ops p f s same = expr_den prog level (place + 1) line x ops p s ∙ bind_same (evaluate prog calls_here line x) (λ v. runs ops (pushed v p)) f s same

  go_to_den : (to : Option ℕ) (line : ℕ) (ops : List Op) (s : State) → runs (go_op to line ∷ ops) nothing s ≡ go_to to line s
  go_to_den None line ops s = raise_den prog level (place + 1) no_such_line line ops s
  go_to_den (Some to) line ops s = refl

  gosub_den : (to : Option ℕ) (line : ℕ) (s : State) → runs (gosub_op to line ∷ []) nothing s ≡ gosub_to level place line to s
  gosub_den None line s = raise_den prog level (place + 1) no_such_line line [] s
  gosub_den (Some to) line s = refl

  -- a loop that goes round again, or else on in the item
  round_den : (m : Action (Option ℕ)) (ops : List Op) (rest : Action Next) (s : State) → ((t : State) → runs ops nothing t ≡ rest t)
      → ((m >>= (λ back. give (round_or_on nothing back))) >>= carries prog level (place + 1) (runs ops)) s ≡ (m >>= back_or rest) s
  round_den m ops rest s same =
      bind_assoc m (λ back. give (round_or_on nothing back)) (carries prog level (place + 1) (runs ops)) s
      ∙ bind_same m (λ back. give (round_or_on nothing back) >>= carries prog level (place + 1) (runs ops)) (back_or rest) s each
    where
      each : (back : Option ℕ) (t : State) → (give (round_or_on nothing back) >>= carries prog level (place + 1) (runs ops)) t ≡ back_or rest back t
      each None t = same t
      each (Some to) t = refl

  next_cell_den : (line : ℕ) (cell : Cell) (ops : List Op) (rest : Action Next) (s : State) → ((t : State) → runs ops nothing t ≡ rest t)
      → runs (o.Next (counter_of cell) line ∷ ops) nothing s ≡ (next level.depth line (NextOf cell) >>= back_or rest) s
  next_cell_den line (Resident index) ops rest s same = round_den (next level.depth line (NextOf (Resident index))) ops rest s same
  next_cell_den line (Integer name) ops rest s same = round_den (next level.depth line (NextOf (Integer name))) ops rest s same

  nexts_den : (line : ℕ) (names : List ℕ) (s : State) → runs (nexts_code prog line names) nothing s ≡ nexts prog level place line names s
  nexts_den line [] s = refl
  nexts_den line (name ∷ names) s =
      next_cell_den line (integer_cell prog.names name) (nexts_code prog line names) (nexts prog level place line names) s (nexts_den line names)

  next_den : (line : ℕ) (names : List ℕ) (s : State) → runs (next_code prog line names) nothing s ≡ next_of prog level place line names s
  next_den line [] s = round_den (next level.depth line AnyNext) [] (go_on (place + 1)) s (λ t. refl)
  next_den line (name ∷ names) s = nexts_den line (name ∷ names) s

  -- FOR
  step_den : (line : ℕ) (z : Option NumExpr) (ops : List Op) (p : Pending) (f : ℤ → Action Next) (s : State) → ((v : ℤ) (t : State) → runs ops (pushed v p) t ≡ f v t)
      → runs (step_code prog line z ++ ops) p s ≡ (step_of prog calls_here line z >>= f) s
  step_den line None ops p f s same = same (pos 1) s
  step_den line (Some x) ops p f s same = valued_den line x ops p f s same

  for_opens : (line : ℕ) (cell : Cell) (limit step : ℤ) (s : State)
      → runs (o.OpenFor (counter_of cell) line ∷ []) (pushed step (pushed limit nothing)) s ≡ (opens level.depth line (For cell limit step) (place + 1) >> go_on (place + 1)) s
  for_opens line (Resident index) limit step s = refl
  for_opens line (Integer name) limit step s = refl

  for_den : (line : ℕ) (cell : Cell) (x y : NumExpr) (z : Option NumExpr) (s : State)
      → runs (for_code prog line cell x y z) nothing s
      ≡ (evaluate prog calls_here line x >>= (λ start. assign cell start >> (evaluate prog calls_here line y >>= (λ limit. step_of prog calls_here line z
      >>= (λ step. opens level.depth line (For cell limit step) (place + 1) >> go_on (place + 1)))))) s
  for_den line cell x y z s =
      valued_den line x (store_op cell ∷ limit_code) nothing (λ start. assign cell start >> after_start) s
      (λ v t. stored_then prog level (place + 1) cell v limit_code t ∙ bind_same (assign cell v) (λ _. runs limit_code nothing) (λ _. after_start) t (λ _. limit_den))
    where
      step_part : List Op
      step_part = step_code prog line z ++ o.OpenFor (counter_of cell) line ∷ []

      limit_code : List Op
      limit_code = expr_code prog line y ++ step_part

      after_limit : ℤ → Action Next
      after_limit limit = step_of prog calls_here line z >>= (λ step. opens level.depth line (For cell limit step) (place + 1) >> go_on (place + 1))

      after_start : Action Next
      after_start = evaluate prog calls_here line y >>= after_limit

      limit_den : (t : State) → runs limit_code nothing t ≡ after_start t
      limit_den t =
          valued_den line y step_part nothing after_limit t
          (λ limit u. step_den line z (o.OpenFor (counter_of cell) line ∷ []) (pushed limit nothing)
          (λ step. opens level.depth line (For cell limit step) (place + 1) >> go_on (place + 1)) u (λ step. for_opens line cell limit step))

  while_den : (zero : Bool) (line : ℕ) (s : State)
      → carries prog level (place + 1) (runs (o.OpenWhile line ∷ [])) (go_if zero (after_end prog OpensWhile place) nothing) s ≡ while_if zero prog level place line s
  while_den true line s = refl
  while_den false line s = refl

  flow_den : (line : ℕ) (w : Flow) (s : State) → runs (flow_code prog place line w) nothing s ≡ goes prog calls_here level place line w s
  flow_den line (flow.Goto number) s = go_to_den (line_place prog number) line [] s
  flow_den line (flow.Gosub number) s = gosub_den (line_place prog number) line s
  flow_den line flow.Return s =
      bind_assoc (closing level.depth line Return) (λ after. give (Goes (GoOn after))) (carries prog level (place + 1) (runs [])) s
  flow_den line (flow.For name x y z) s = for_den line (integer_cell prog.names name) x y z s
  flow_den line (flow.Next names) s = next_den line names s
  flow_den line (flow.Until x) s =
      valued_den line x (o.Until line ∷ []) nothing (λ v. until level.depth line v >>= back_or (go_on (place + 1))) s
      (λ v t. round_den (until level.depth line v) [] (go_on (place + 1)) t (λ u. refl))
  flow_den line (flow.While x) s =
      valued_den line x (o.GoIfZero (after_end prog OpensWhile place) ∷ o.OpenWhile line ∷ []) nothing (λ v. while_if (int_eq v (pos 0)) prog level place line) s
      (λ v t. while_den (int_eq v (pos 0)) line t)
  flow_den line flow.EndWhile s =
      bind_assoc (closing level.depth line EndWhile) (λ after. give (Goes (GoOn (after - 1)))) (carries prog level (place + 1) (runs [])) s
  flow_den line flow.End s = refl
  flow_den line flow.Stop s = raise_den prog level (place + 1) stopped line [] s
  flow_den line flow.Quit s = refl

  -- ---- ON

  -- a line of ON that is not chosen, and one that is
  not_chosen : (jump : Jump) (to : Option ℕ) (line : ℕ) (v : ℤ) (ops : List Op) (s : State) → int_eq v (pos 1) ≡ false
      → runs (choice_op jump to line ∷ ops) (pushed v nothing) s ≡ runs ops (pushed (counted_down v) nothing) s
  not_chosen jump None line v ops s other =
      ap (λ b. (raise_if_one b no_such_line line v nothing >>= carries prog level (place + 1) (runs ops)) s) other
  not_chosen jumps.Goto (Some to) line v ops s other = ap (λ b. carries prog level (place + 1) (runs ops) (go_if_one b to v nothing) s) other
  not_chosen jumps.Gosub (Some to) line v ops s other = ap (λ b. carries prog level (place + 1) (runs ops) (gosub_if_one b to line v nothing) s) other

  -- the line that ON leads to
  abbrev led_to : Jump → Option ℕ → ℕ → Action Next
  led_to jumps.Goto to line = go_to to line
  led_to jumps.Gosub to line = gosub_to level place line to

  is_chosen : (jump : Jump) (to : Option ℕ) (line : ℕ) (ops : List Op) (s : State) → runs (choice_op jump to line ∷ ops) (pushed (pos 1) nothing) s ≡ led_to jump to line s
  is_chosen jumps.Goto None line ops s = raise_then prog level (place + 1) no_such_line line (carries prog level (place + 1) (runs ops)) s
  is_chosen jumps.Gosub None line ops s = raise_then prog level (place + 1) no_such_line line (carries prog level (place + 1) (runs ops)) s
  is_chosen jumps.Goto (Some to) line ops s = refl
  is_chosen jumps.Gosub (Some to) line ops s = refl

  on_line_is : (jump : Jump) (line number : ℕ) (s : State) → led_to jump (line_place prog number) line s ≡ on_line prog level place line jump number s
  on_line_is jumps.Goto line number s = refl
  on_line_is jumps.Gosub line number s = refl

  otherwise_den : (to : Option ℕ) (line : ℕ) (v : ℤ) (s : State) → runs (o.Discard ∷ otherwise_op to line ∷ []) (pushed v nothing) s ≡ out_of_range line to s
  otherwise_den None line v s = raise_den prog level (place + 1) on_range line [] s
  otherwise_den (Some to) line v s = refl

  none_chosen : (v : ℤ) → chosen v [] ≡ None
  none_chosen (pos zero) = refl
  none_chosen (pos (suc n)) = refl
  none_chosen (negsuc n) = refl

  more_than_one : (n : ℕ) → int_eq (pos (suc (suc n))) (pos 1) ≡ false
  more_than_one n = grind arith

  -- these lines of ON, and where it goes on without them
  abbrev choices : ℕ → Jump → List ℕ → List Op
  choices line jump numbers = choices_code prog line jump numbers ++ o.Discard ∷ otherwise_op (on_else prog place) line ∷ []

  -- the n-th line is chosen where the number is n
  choices_den : (line : ℕ) (jump : Jump) (numbers : List ℕ) (v : ℤ) (s : State)
      → runs (choices line jump numbers) (pushed v nothing) s ≡ on_chosen prog level place line jump (chosen v numbers) s
  choices_den line jump [] v s = otherwise_den (on_else prog place) line v s ∙ sym (ap (λ c. on_chosen prog level place line jump c s) (none_chosen v))
  choices_den line jump (number ∷ numbers) (pos zero) s =
      not_chosen jump (line_place prog number) line (pos 0) (choices line jump numbers) s refl ∙ choices_den line jump numbers (pos 0) s
  choices_den line jump (number ∷ numbers) (pos (suc zero)) s =
      is_chosen jump (line_place prog number) line (choices line jump numbers) s ∙ on_line_is jump line number s
  choices_den line jump (number ∷ numbers) (pos (suc (suc n))) s =
      not_chosen jump (line_place prog number) line (pos (suc (suc n))) (choices line jump numbers) s (more_than_one n) ∙ choices_den line jump numbers (pos (suc n)) s
  choices_den line jump (number ∷ numbers) (negsuc n) s =
      not_chosen jump (line_place prog number) line (negsuc n) (choices line jump numbers) s refl ∙ choices_den line jump numbers (negsuc n) s

  statement_den : (line : ℕ) (x : Stmt) (s : State) → runs (statement_code prog place line x) nothing s ≡ statement prog calls_here level place line x s
  statement_den line (stmt.Assign a) s = assignment_den prog level (place + 1) line a s
  statement_den line (stmt.Flow w) s = flow_den line w s
  statement_den line (stmt.Output w) s = output_den prog level (place + 1) line w s
  statement_den line (stmt.Read variables) s = reads_den prog level (place + 1) line variables s
  statement_den line (stmt.Restore to) s = restore_den prog level (place + 1) (restored prog to) line s
  statement_den line _ s = refl

  -- IF: the jump is taken where the number is 0
  branch_den : (zero : Bool) (item : ℕ) (s : State)
      → carries prog level (place + 1) (does prog level (place + 1) []) (go_if zero item nothing) s ≡ go_on (if zero then item else place + 1) s
  branch_den true item s = refl
  branch_den false item s = refl

  -- ---- CASE

  -- an operation that goes on at a place where two numbers are equal, with that of CASE below
  equal_den : (equal : Bool) (v x : ℤ) (after : ℕ) (ops : List Op) (later : Action Next) (s : State) → ((t : State) → runs ops (pushed x nothing) t ≡ later t)
      → carries prog level (place + 1) (runs ops) (go_if_equal equal after x nothing) s ≡ go_or equal after later s
  equal_den true v x after ops later s same = refl
  equal_den false v x after ops later s same = same s

  -- the values of a WHEN, and what follows where none is equal
  values_den : (line after : ℕ) (values : List Any) (x : ℤ) (ops : List Op) (later : Action Next) (s : State) → ((t : State) → runs ops (pushed x nothing) t ≡ later t)
      → runs (values_code prog line after values ++ ops) (pushed x nothing) s ≡ among_values prog calls_here x line after values later s
  values_den line after [] x ops later s same = same s
  values_den line after (any.Number y ∷ values) x ops later s same =
      ap (λ c. runs c (pushed x nothing) s) (append_assoc (expr_code prog line y) (o.GoIfEqual after ∷ values_code prog line after values) ops)
      ∙ valued_den line y (o.GoIfEqual after ∷ (values_code prog line after values ++ ops)) (pushed x nothing)
      (λ v. go_or (int_eq v x) after (among_values prog calls_here x line after values later)) s
      (λ v t. equal_den (int_eq v x) v x after (values_code prog line after values ++ ops) (among_values prog calls_here x line after values later) t
      (λ u. values_den line after values x ops later u same))
  values_den line after (any.Text y ∷ values) x ops later s same = refl

  -- where CASE goes on without an equal value
  abbrev last_code : ℕ → List Op
  last_code last = o.Discard ∷ o.Go last ∷ []

  branches_den : (branches : List Branch) (x : ℤ) (last : ℕ) (s : State)
      → runs (branches_code prog branches ++ last_code last) (pushed x nothing) s ≡ among_branches prog calls_here x last branches s
  branches_den [] x last s = refl
  branches_den (b ∷ branches) x last s =
      ap (λ c. runs c (pushed x nothing) s) (append_assoc (values_code prog b.line b.after b.values) (branches_code prog branches) (last_code last))
      ∙ values_den b.line b.after b.values x (branches_code prog branches ++ last_code last) (among_branches prog calls_here x last branches) s (branches_den branches x last)

  case_den : (line : ℕ) (x : Any) (s : State) → runs (case_code prog place line x) nothing s ≡ case_of prog calls_here place line x s
  case_den line (any.Number x) s =
      valued_den line x (branches_code prog (branches_of prog place) ++ last_code (after_end prog OpensCase place)) nothing
      (λ v. among_branches prog calls_here v (after_end prog OpensCase place) (branches_of prog place)) s
      (λ v t. branches_den (branches_of prog place) v (after_end prog OpensCase place) t)
  case_den line (any.Text x) s = refl

  head_den : (h : Head) (s : State) → runs (head_code prog place h) nothing s ≡ met prog place h s
  head_den head.BlockElse s = refl
  head_den head.EndIf s = refl
  head_den (head.When values) s = refl
  head_den head.Otherwise s = refl
  head_den head.EndCase s = refl
  head_den _ s = refl

  pub item_den : (line : ℕ) (i : Item) (s : State) → runs (item_code prog place line i) nothing s ≡ execute_item prog calls_here level place line i s
  item_den line (item.Head h) s = head_den h s
  item_den line (item.Stmt x) s = statement_den line x s
  item_den line (item.If x) s =
      valued_den line x (o.GoIfZero (else_place prog place) ∷ []) nothing (λ v. go_on (branch prog place v)) s
      (λ v t. branch_den (int_eq v (pos 0)) (else_place prog place) t)
  item_den line (item.BlockIf x) s =
      valued_den line x (o.GoIfZero (after_end prog OpensIf place) ∷ []) nothing (λ v. go_on (block_branch prog place v)) s
      (λ v t. branch_den (int_eq v (pos 0)) (after_end prog OpensIf place) t)
  item_den line (item.Case x) s = case_den line x s
  item_den line (item.On x jump numbers) s =
      valued_den line x (choices line jump numbers) nothing
      (λ v. on_chosen prog level place line jump (chosen v numbers)) s (λ v t. choices_den line jump numbers v t)
  item_den line item.Repeat s = refl
  item_den line item.Else s = refl
  item_den line (item.Data n) s = refl
  item_den line item.Remark s = refl
  item_den line _ s = refl

  -- the code of a row does what its item does
  pub row_den : (row : Row) (s : State)
      → does prog level (place + 1) (row_code prog place row) nothing s ≡ execute_item prog (calls_at prog (flat_code prog) level) level place row.line row.item s
  row_den row s =
      fused_den prog (flat_code prog) level (place + 1) (row_ops prog place row) nothing s
      ∙ jump_den prog level (place + 1) (item_code prog place row.line row.item) s ∙ item_den row.line row.item s
