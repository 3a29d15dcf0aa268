-- The code of a statement fits the terminals that spell it out, and spares 12 bytes: 8 for a jump, and 4 for the branch to its item.
use Rattle.std.proofs.Common.{◌≡◌, ℕ, suc, ◌≤◌, List, [], ◌∷◌, ◌++◌, Option, None, Some, refl, subst, length, lit≤, arith}
use Rattle.std.proofs.lemmas.List.{length-map}
use Rattle.std.specs.Prelude.{Bool, true, false, nat_lt, if◌then◌else◌}
use Rattle.bas_ast.specs.declared.expressions.BinaryOp.{BinaryOp}
use Rattle.bas_ast.specs.declared.expressions.BinaryOp.TheVariants as op
use Rattle.bas_ast.specs.declared.expressions.NumExpr.{NumExpr}
use Rattle.bas_ast.specs.declared.expressions.NumberFormat.TheVariants as format
use Rattle.bas_ast.specs.declared.keywords.Keyword.{Keyword}
use Rattle.bas_ast.specs.declared.keywords.Keyword.TheVariants as word
use Rattle.bas_ast.specs.declared.program.DataItem.{DataItem}
use Rattle.bas_ast.specs.declared.program.Prog.{Prog}
use Rattle.bas_ast.specs.declared.statements.Assignment.{Assignment}
use Rattle.bas_ast.specs.declared.statements.Assignment.TheVariants as assignment
use Rattle.bas_ast.specs.declared.statements.Flow.TheVariants as flow
use Rattle.bas_ast.specs.declared.statements.PrintPart.{PrintPart}
use Rattle.bas_ast.specs.declared.statements.Stmt.{Stmt}
use Rattle.bas_ast.specs.declared.statements.Stmt.TheVariants as stmt
use Rattle.bas_ast.specs.declared.statements.VduPart.{VduPart}
use Rattle.bas_ast.specs.declared.targets.NumTarget.{NumTarget}
use Rattle.bas_ast.specs.declared.targets.Target.{Target}
use Rattle.bas_ast.specs.declared.terminals.Terminal.{Terminal}
use Rattle.bas_ast.specs.declared.terminals.Terminal.TheVariants as t
use Rattle.bas_ast.specs.Expressions as e
use Rattle.bas_ast.specs.Expressions.{IsNum, IsStr}
use Rattle.bas_ast.specs.Operands as g
use Rattle.bas_ast.specs.Operands.{IsNumTarget, IsTarget, IsIntName, Slot, ANumber, ATarget, Values, ValueOf, AnIntName, IsOperands, IsList}
use Rattle.bas_ast.specs.Statements as s
use Rattle.bas_ast.specs.Structures.{OpensWhile}
use Rattle.bas_ast.specs.Statements.{Form, Takes, Lists, OwnForm, form, equals, IsPrint, IsVdu, IsAssignment, IsStmt}
use Rattle.bas_ir.specs.WellFormed.{IsCounter}
use Rattle.bas_ir.specs.declared.op.Mark.TheVariants as marks
use Rattle.bas_ir.specs.declared.op.Op.{Op}
use Rattle.bas_ir.specs.declared.op.Op.TheVariants as o
use Rattle.bas_ir.specs.declared.op.Piece.TheVariants as pieces
use Rattle.bas_sem.specs.Data.{data_texts, items_before, first_behind}
use Rattle.bas_sem.specs.Places.{after_end, line_place, line_of_number}
use Rattle.bas_store.specs.Cells.{Cell, Resident, Integer, integer_cell}
use Rattle.ir_build.specs.Code.{read_op, store_op, expr_code, assignment_code, go_op, gosub_op, counter_of, step_code, for_code, nexts_code, next_code, finish_code, flat_code, print_code, vdu_code, reads_code, restore_op, statement_code}
use Rattle.ir_build.proofs.Fits.{worth, cost, pushes, AllKnown, AllThere, Fits, around, beside, then_ops, after, before, within, stops, stops_between, front_known, back_known}
use Rattle.ir_build.proofs.FitExpressions.{IsCell, cell_of, read_fits, store_there, store_cost, store_pushes, num_fits, text_fits}

module _ (prog : Prog) (place line : ℕ) where
  -- less is spared
  fewer : {a : List Terminal} {ops : List Op} → Fits prog 0 64 a ops → Fits prog 0 12 a ops
  fewer {a} {ops} fits = record { there = fits.there; cheap = omega (arith, fits.cheap); low = fits.low }

  ends : (c : Terminal) (a : List Terminal) → 88 ≤ worth c → Fits prog 0 12 (c ∷ a) (o.End ∷ [])
  ends c a worthy = fewer (stops c a worthy)

  ends_between : (a : List Terminal) (c : Terminal) (b : List Terminal) → 88 ≤ worth c → Fits prog 0 12 (a ++ c ∷ b) (o.End ∷ [])
  ends_between a c b worthy = fewer (stops_between a c b worthy)

  -- ---- assignments

  stored_fits : (n : ℕ) (b : List Terminal) (cell : Cell) (x : NumExpr) → IsCell prog line cell → IsNum 1 b x → AllKnown prog b
      → Fits prog 0 12 (t.IntName n ∷ equals ∷ b) (expr_code prog line x ++ store_op cell ∷ [])
  stored_fits n b cell x known d all =
      let value : Fits prog 0 144 (equals ∷ b) (expr_code prog line x) = after equals (num_fits prog line 1 b x d all) (lit≤ tt) in
      then_ops (store_op cell ∷ []) (after {D = 0} {S = 240} (t.IntName n) value (lit≤ tt)) (store_there prog line cell known) (store_pushes prog line cell)
      (omega (arith, store_cost prog line cell))

  updated_fits : (op : BinaryOp) (n : ℕ) (c : Terminal) (b : List Terminal) (cell : Cell) (x : NumExpr) → worth c ≡ 96 → IsCell prog line cell → IsNum 1 b x → AllKnown prog b
      → Fits prog 0 12 (t.IntName n ∷ c ∷ b) (read_op line cell ∷ (expr_code prog line x ++ o.Binary op line ∷ store_op cell ∷ []))
  updated_fits op n c b cell x worthy known d all =
      let value : Fits prog 0 144 (c ∷ b) (expr_code prog line x) = after c (num_fits prog line 1 b x d all) (omega (arith, worthy)) in
      let both : Fits prog 0 192 (t.IntName n ∷ c ∷ b) (read_op line cell ∷ expr_code prog line x) = beside (read_fits prog line n cell known) value (lit≤ tt) in
      then_ops (o.Binary op line ∷ store_op cell ∷ []) both (tt, store_there prog line cell known) (binary_pushes (store_pushes prog line cell))
      (omega (arith, store_cost prog line cell))
    where
      binary_pushes : pushes (store_op cell ∷ []) ≡ 0 → pushes (o.Binary op line ∷ store_op cell ∷ []) ≡ 0
      binary_pushes is = omega (arith, is)

  assign_fits : (a b : List Terminal) (v : NumTarget) (x : NumExpr) → IsNumTarget a v → IsNum 1 b x → AllKnown prog (a ++ equals ∷ b)
      → Fits prog 0 12 (a ++ equals ∷ b) (assignment_code prog line (assignment.Number v x))
  assign_fits a b v x (g.to_variable _ w (e.simple n)) d known = stored_fits n b (integer_cell prog.names n) x (cell_of prog line n known.0) d known.1.1
  assign_fits a b v x (g.to_variable _ w (e.element n a' xs k)) d known = ends_between a equals b (lit≤ tt)
  assign_fits a b v x (g.to_memory w a' y k) d known = ends_between a equals b (lit≤ tt)
  assign_fits a b v x (g.to_memory_sum a' b' u w y k k') d known = ends_between a equals b (lit≤ tt)

  add_fits : (a b : List Terminal) (v : NumTarget) (x : NumExpr) → IsNumTarget a v → IsNum 1 b x → AllKnown prog (a ++ t.PlusEquals ∷ b)
      → Fits prog 0 12 (a ++ t.PlusEquals ∷ b) (assignment_code prog line (assignment.Add v x))
  add_fits a b v x (g.to_variable _ w (e.simple n)) d known =
      updated_fits op.Add n t.PlusEquals b (integer_cell prog.names n) x refl (cell_of prog line n known.0) d known.1.1
  add_fits a b v x (g.to_variable _ w (e.element n a' xs k)) d known = ends_between a t.PlusEquals b (lit≤ tt)
  add_fits a b v x (g.to_memory w a' y k) d known = ends_between a t.PlusEquals b (lit≤ tt)
  add_fits a b v x (g.to_memory_sum a' b' u w y k k') d known = ends_between a t.PlusEquals b (lit≤ tt)

  subtract_fits : (a b : List Terminal) (v : NumTarget) (x : NumExpr) → IsNumTarget a v → IsNum 1 b x → AllKnown prog (a ++ t.MinusEquals ∷ b)
      → Fits prog 0 12 (a ++ t.MinusEquals ∷ b) (assignment_code prog line (assignment.Subtract v x))
  subtract_fits a b v x (g.to_variable _ w (e.simple n)) d known =
      updated_fits op.Subtract n t.MinusEquals b (integer_cell prog.names n) x refl (cell_of prog line n known.0) d known.1.1
  subtract_fits a b v x (g.to_variable _ w (e.element n a' xs k)) d known = ends_between a t.MinusEquals b (lit≤ tt)
  subtract_fits a b v x (g.to_memory w a' y k) d known = ends_between a t.MinusEquals b (lit≤ tt)
  subtract_fits a b v x (g.to_memory_sum a' b' u w y k k') d known = ends_between a t.MinusEquals b (lit≤ tt)

  assignment_fits : (a : List Terminal) (x : Assignment) → IsAssignment a x → AllKnown prog a → Fits prog 0 12 a (assignment_code prog line x)
  assignment_fits a x (s.assign_number a' b v y d d') known = assign_fits a' b v y d d' known
  assignment_fits a x (s.assign_text a' b v y d d') known = ends_between a' equals b (lit≤ tt)

  -- ---- output

  -- the end of PRINT costs no more than its word is worth
  finish_fits : (new_line : Bool) → Fits prog 32 0 [] (finish_code new_line)
  finish_fits true = record { there = (tt, tt); cheap = lit≤ tt; low = lit≤ tt }
  finish_fits false = record { there = tt; cheap = lit≤ tt; low = lit≤ tt }

  -- one operation, or none, for one sign
  sign_fits : (c : Terminal) (r : List Terminal) (mark : List Op) (ops : List Op) → AllThere prog mark → pushes mark ≡ 0 → cost mark ≤ worth c → Fits prog 32 0 r ops
      → Fits prog 32 0 (c ∷ r) (mark ++ ops)
  sign_fits c r mark ops there none cheap fits =
      let sign : Fits prog 0 0 (c ∷ []) mark = record { there = there; cheap = omega (arith, cheap); low = omega (arith, none) } in
      beside sign fits (lit≤ tt)

  -- an expression, and an operation that writes it
  write_fits : (a r : List Terminal) (x : NumExpr) (op : Op) (ops : List Op) → Fits prog 0 48 a (expr_code prog line x) → AllThere prog (op ∷ []) → pushes (op ∷ []) ≡ 0
      → cost (op ∷ []) ≤ 48 → Fits prog 32 0 r ops → Fits prog 32 0 (a ++ r) (expr_code prog line x ++ op ∷ ops)
  write_fits a r x op ops value there none cheap fits = around (op ∷ []) value there none fits (omega (arith, cheap))

  print_fits : (b : Bool) (r : List Terminal) (ps : List PrintPart) → IsPrint b r ps → AllKnown prog r → (padded new_line : Bool)
      → Fits prog 32 0 r (print_code prog line padded new_line ps)
  unfolding print_code
  print_fits b r ps (s.printed _) known padded new_line = finish_fits new_line
  print_fits b r ps (s.print_comma _ r' qs d) known padded new_line =
      sign_fits t.Comma r' (o.WriteMark marks.Field ∷ []) _ (tt, tt) refl (lit≤ tt) (print_fits false r' qs d known.1 true true)
  print_fits b r ps (s.print_semicolon _ r' qs d) known padded new_line = sign_fits t.Semicolon r' [] _ tt refl (lit≤ tt) (print_fits false r' qs d known.1 false false)
  print_fits b r ps (s.print_new_line _ r' qs d) known padded new_line =
      sign_fits t.Apostrophe r' (o.WriteMark marks.NewLine ∷ []) _ (tt, tt) refl (lit≤ tt) (print_fits false r' qs d known.1 padded true)
  print_fits b r ps (s.print_number _ a r' x qs k d d') known padded new_line =
      write_fits a r' x (o.WriteNumber padded format.Decimal) _ (num_fits prog line 1 a x d (front_known prog a r' known)) (tt, tt) refl (lit≤ tt)
      (print_fits true r' qs d' (back_known prog a r' known) padded true)
  print_fits b r ps (s.print_hexadecimal _ a r' x qs d d') known padded new_line =
      write_fits (t.Tilde ∷ a) r' x (o.WriteNumber padded format.Hexadecimal) _ (after t.Tilde (num_fits prog line 1 a x d (front_known prog a r' known.1)) (lit≤ tt)) (tt, tt) refl (lit≤ tt)
      (print_fits true r' qs d' (back_known prog a r' known.1) padded true)
  print_fits b r ps (s.print_text _ a r' y qs d d') known padded new_line =
      beside (text_fits prog line 4 a y d (front_known prog a r' known)) (print_fits true r' qs d' (back_known prog a r' known) padded true) (lit≤ tt)
  print_fits b r ps (s.print_spaces _ a r' x qs d d') known padded new_line =
      write_fits (t.Keyword word.Spc ∷ a) r' x (o.Write pieces.Spaces) _ (after (t.Keyword word.Spc) (num_fits prog line 6 a x d (front_known prog a r' known.1)) (lit≤ tt)) (tt, tt) refl (lit≤ tt)
      (print_fits true r' qs d' (back_known prog a r' known.1) padded true)
  print_fits b r ps (s.print_tab _ a r' x qs d d') known padded new_line =
      let rest = print_fits false r' qs d' (back_known prog a (t.Close ∷ r') known.1).1 padded true in
      write_fits (t.Keyword word.Tab ∷ a) (t.Close ∷ r') x (o.Write pieces.Tab) _ (after (t.Keyword word.Tab) (num_fits prog line 1 a x d (front_known prog a (t.Close ∷ r') known.1)) (lit≤ tt)) (tt, tt) refl (lit≤ tt)
      (after t.Close rest (lit≤ tt))

  vdu_fits : (a : List Terminal) (ps : List VduPart) → IsVdu a ps → AllKnown prog a → Fits prog 0 0 a (vdu_code prog line ps)
  unfolding vdu_code
  vdu_fits a ps (s.last_byte _ x d) known = then_ops (o.Write pieces.Byte ∷ []) (num_fits prog line 1 a x d known) (tt, tt) refl (lit≤ tt)
  vdu_fits a ps (s.last_word a' x d) known =
      let value : Fits prog 0 48 (a' ++ t.Semicolon ∷ []) (expr_code prog line x) =
      before (t.Semicolon ∷ []) (num_fits prog line 1 a' x d (front_known prog a' (t.Semicolon ∷ []) known)) (lit≤ tt) in
      then_ops (o.Write pieces.Word ∷ []) value (tt, tt) refl (lit≤ tt)
  vdu_fits a ps (s.more_byte a' r x qs d d') known =
      let rest : Fits prog 0 0 (t.Comma ∷ r) (vdu_code prog line qs) = after t.Comma (vdu_fits r qs d' (back_known prog a' (t.Comma ∷ r) known).1) (lit≤ tt) in
      around (o.Write pieces.Byte ∷ []) (num_fits prog line 1 a' x d (front_known prog a' (t.Comma ∷ r) known)) (tt, tt) refl rest (lit≤ tt)
  vdu_fits a ps (s.more_word a' r x qs d d') known =
      let rest : Fits prog 0 0 (t.Semicolon ∷ r) (vdu_code prog line qs) = after t.Semicolon (vdu_fits r qs d' (back_known prog a' (t.Semicolon ∷ r) known).1) (lit≤ tt) in
      around (o.Write pieces.Word ∷ []) (num_fits prog line 1 a' x d (front_known prog a' (t.Semicolon ∷ r) known)) (tt, tt) refl rest (lit≤ tt)

  -- ---- statements

  go_fits : (c : Terminal) (a : List Terminal) (to : Option ℕ) → worth c ≡ 96 → Fits prog 0 12 (c ∷ a) (go_op to line ∷ [])
  go_fits c a None worthy = record { there = (tt, tt); cheap = omega (arith, worthy); low = omega arith }
  go_fits c a (Some place) worthy = record { there = (tt, tt); cheap = omega (arith, worthy); low = omega arith }

  pub goto_fits : (c : Terminal) (a : List Terminal) (number : ℕ) → worth c ≡ 96 → Fits prog 0 12 (c ∷ a) (statement_code prog place line (stmt.Flow (flow.Goto number)))
  goto_fits c a number worthy = go_fits c a (line_place prog number) worthy

  gosub_fits : (c : Terminal) (a : List Terminal) (to : Option ℕ) → worth c ≡ 96 → Fits prog 0 12 (c ∷ a) (gosub_op to line ∷ [])
  gosub_fits c a None worthy = record { there = (tt, tt); cheap = omega (arith, worthy); low = omega arith }
  gosub_fits c a (Some to) worthy = record { there = (tt, tt); cheap = omega (arith, worthy); low = omega arith }

  the_number : (a : List Terminal) (vs : Values (ANumber ∷ [])) → IsOperands (ANumber ∷ []) a vs → IsNum 1 a vs.0
  the_number a vs (g.last_operand _ _ v d) = d

  -- an expression, and operations that take its value
  valued_fits : (c : Keyword) (a : List Terminal) (vs : Values (ANumber ∷ [])) (ops : List Op) → worth (t.Keyword c) ≡ 96 → IsOperands (ANumber ∷ []) a vs → AllKnown prog a
      → AllThere prog ops → pushes ops ≡ 0 → cost ops ≤ 132 → Fits prog 0 12 (t.Keyword c ∷ a) (expr_code prog line vs.0 ++ ops)
  valued_fits c a vs ops worthy d known there none cheap =
      let value : Fits prog 0 144 (t.Keyword c ∷ a) (expr_code prog line vs.0) = after (t.Keyword c) (num_fits prog line 1 a vs.0 (the_number a vs d) known) (omega (arith, worthy)) in
      then_ops ops value there none (omega (arith, cheap))

  -- ---- FOR and NEXT

  counter_there : (cell : Cell) → IsCell prog line cell → IsCounter (flat_code prog) (counter_of cell)
  counter_there (Resident index) known = known
  counter_there (Integer name) known = known

  -- FOR, where its limit and step fit
  started_fits : (n : ℕ) (b r : List Terminal) (cell : Cell) (x : NumExpr) (limit : List Op) → IsCell prog line cell → IsNum 1 b x → AllKnown prog b → Fits prog 0 24 r limit
      → Fits prog 0 12 (t.Keyword word.For ∷ t.IntName n ∷ equals ∷ (b ++ r)) (expr_code prog line x ++ store_op cell ∷ limit)
  started_fits n b r cell x limit cell_known d known rest =
      let value : Fits prog 0 48 (b ++ r) (expr_code prog line x ++ store_op cell ∷ limit) =
      around (store_op cell ∷ []) (num_fits prog line 1 b x d known) (store_there prog line cell cell_known) (store_pushes prog line cell) rest (omega (arith, store_cost prog line cell)) in
      after {D = 0} {S = 12} (t.Keyword word.For) (after {D = 0} {S = 0} (t.IntName n) (after {D = 0} {S = 0} equals value (lit≤ tt)) (lit≤ tt)) (lit≤ tt)

  for_fits : (n : ℕ) (b b' : List Terminal) (x y : NumExpr) → IsNum 1 b x → IsNum 1 b' y → AllKnown prog (t.Keyword word.For ∷ t.IntName n ∷ equals ∷ (b ++ t.Keyword word.To ∷ b'))
      → Fits prog 0 12 (t.Keyword word.For ∷ t.IntName n ∷ equals ∷ (b ++ t.Keyword word.To ∷ b')) (for_code prog line (integer_cell prog.names n) x y None)
  for_fits n b b' x y d d' known =
      let cell : Cell = integer_cell prog.names n in
      let is_there : IsCell prog line cell = cell_of prog line n known.1.0 in
      let limit = num_fits prog line 1 b' y d' (back_known prog b (t.Keyword word.To ∷ b') known.1.1.1).1 in
      started_fits n b (t.Keyword word.To ∷ b') cell x _ is_there d (front_known prog b (t.Keyword word.To ∷ b') known.1.1.1)
      (within (t.Keyword word.To) (step_code prog line None ++ o.OpenFor (counter_of cell) line ∷ []) limit (tt, (counter_there cell is_there, tt)) (lit≤ tt) (lit≤ tt))

  for_step_fits : (n : ℕ) (b b' q : List Terminal) (x y z : NumExpr) → IsNum 1 b x → IsNum 1 b' y → IsNum 1 q z
      → AllKnown prog (t.Keyword word.For ∷ t.IntName n ∷ equals ∷ (b ++ t.Keyword word.To ∷ (b' ++ t.Keyword word.Step ∷ q)))
      → Fits prog 0 12 (t.Keyword word.For ∷ t.IntName n ∷ equals ∷ (b ++ t.Keyword word.To ∷ (b' ++ t.Keyword word.Step ∷ q)))
      (for_code prog line (integer_cell prog.names n) x y (Some z))
  for_step_fits n b b' q x y z d d' d2 known =
      let cell : Cell = integer_cell prog.names n in
      let is_there : IsCell prog line cell = cell_of prog line n known.1.0 in
      let after_to : AllKnown prog (b' ++ t.Keyword word.Step ∷ q) = (back_known prog b (t.Keyword word.To ∷ (b' ++ t.Keyword word.Step ∷ q)) known.1.1.1).1 in
      let step : Fits prog 0 144 (t.Keyword word.Step ∷ q) (expr_code prog line z) =
      after (t.Keyword word.Step) (num_fits prog line 1 q z d2 (back_known prog b' (t.Keyword word.Step ∷ q) after_to).1) (lit≤ tt) in
      let opened : Fits prog 0 48 (t.Keyword word.Step ∷ q) (expr_code prog line z ++ o.OpenFor (counter_of cell) line ∷ []) =
      then_ops (o.OpenFor (counter_of cell) line ∷ []) step (counter_there cell is_there, tt) refl (lit≤ tt) in
      let limit = num_fits prog line 1 b' y d' (front_known prog b' (t.Keyword word.Step ∷ q) after_to) in
      started_fits n b (t.Keyword word.To ∷ (b' ++ t.Keyword word.Step ∷ q)) cell x _ is_there d
      (front_known prog b (t.Keyword word.To ∷ (b' ++ t.Keyword word.Step ∷ q)) known.1.1.1)
      (after (t.Keyword word.To) (beside {D = 0} {S = 0} limit opened (lit≤ tt)) (lit≤ tt))

  -- a variable of NEXT
  name_fits : (a : List Terminal) (n : ℕ) → IsIntName a n → AllKnown prog a → Fits prog 0 0 a (o.Next (counter_of (integer_cell prog.names n)) line ∷ [])
  name_fits a n (g.int_name _) known =
      record { there = (counter_there (integer_cell prog.names n) (cell_of prog line n known.0), tt); cheap = lit≤ tt; low = lit≤ tt }

  names_fit : (a : List Terminal) (ns : List ℕ) → IsList AnIntName a ns → AllKnown prog a → Fits prog 0 0 a (nexts_code prog line ns)
  names_fit a ns (g.last_of_list _ n d) known = name_fits a n d known
  names_fit a ns (g.more_of_list a' b n rest d d') known =
      beside (name_fits a' n d (front_known prog a' (t.Comma ∷ b) known))
      (after {D = 0} {S = 0} t.Comma (names_fit b rest d' (back_known prog a' (t.Comma ∷ b) known).1) (lit≤ tt)) (lit≤ tt)

  next_fits : (a : List Terminal) (ns : List ℕ) → IsList AnIntName a ns → AllKnown prog a → Fits prog 0 12 (t.Keyword word.Next ∷ a) (next_code prog line ns)
  next_fits a ns (g.last_of_list a' n d) known = after (t.Keyword word.Next) (names_fit a ns (g.last_of_list a' n d) known) (lit≤ tt)
  next_fits a ns (g.more_of_list a' b n rest d d') known = after (t.Keyword word.Next) (names_fit a ns (g.more_of_list a' b n rest d d') known) (lit≤ tt)

  -- ---- READ and RESTORE

  -- less is spared than by the end of a run
  nothing_spared : {a : List Terminal} {ops : List Op} → Fits prog 0 64 a ops → Fits prog 0 0 a ops
  nothing_spared {a} {ops} fits = record { there = fits.there; cheap = omega (arith, fits.cheap); low = fits.low }

  taken_fits : (n : ℕ) (cell : Cell) → IsCell prog line cell → Fits prog 0 0 (t.IntName n ∷ []) (o.ReadNumber line ∷ store_op cell ∷ [])
  taken_fits n cell known = record {
    there = (tt, store_there prog line cell known);
    cheap = omega (arith, store_cost prog line cell);
    low = omega (arith, store_pushes prog line cell);
  }

  target_fits : (a : List Terminal) (v : Target) → IsTarget a v → AllKnown prog a → Fits prog 0 0 a (reads_code prog line (v ∷ []))
  target_fits a v (g.number_target _ w (g.to_variable _ u (e.simple n))) known = taken_fits n (integer_cell prog.names n) (cell_of prog line n known.0)
  target_fits a v (g.number_target _ w (g.to_variable _ u (e.element n a' xs k))) known = nothing_spared (stops (t.IntArray n) a' (lit≤ tt))
  target_fits a v (g.number_target _ w (g.to_memory u a' y k)) known = nothing_spared (stops (t.Indirection u) a' (lit≤ tt))
  target_fits a v (g.number_target _ w (g.to_memory_sum a' b' u z y k k')) known = nothing_spared (stops_between a' (t.Indirection z) b' (lit≤ tt))
  target_fits a v (g.text_target _ w (g.text_to_variable _ u (e.text_simple n))) known = nothing_spared (stops (t.StrName n) [] (lit≤ tt))
  target_fits a v (g.text_target _ w (g.text_to_variable _ u (e.text_element n a' xs k))) known = nothing_spared (stops (t.StrArray n) a' (lit≤ tt))
  target_fits a v (g.text_target _ w (g.text_to_memory a' y k)) known = nothing_spared (stops t.Dollar a' (lit≤ tt))

  targets_fit : (a b : List Terminal) (v : Target) (others : List Target) → IsTarget a v → AllKnown prog a → Fits prog 0 0 b (reads_code prog line others)
      → Fits prog 0 0 (a ++ t.Comma ∷ b) (reads_code prog line (v ∷ others))
  targets_fit a b v others (g.number_target _ w (g.to_variable _ u (e.simple n))) known rest =
      beside (taken_fits n (integer_cell prog.names n) (cell_of prog line n known.0)) (after {D = 0} {S = 0} t.Comma rest (lit≤ tt)) (lit≤ tt)
  targets_fit a b v others (g.number_target _ w (g.to_variable _ u (e.element n a' xs k))) known rest = nothing_spared (stops_between a t.Comma b (lit≤ tt))
  targets_fit a b v others (g.number_target _ w (g.to_memory u a' y k)) known rest = nothing_spared (stops_between a t.Comma b (lit≤ tt))
  targets_fit a b v others (g.number_target _ w (g.to_memory_sum a' b' u z y k k')) known rest = nothing_spared (stops_between a t.Comma b (lit≤ tt))
  targets_fit a b v others (g.text_target _ w d) known rest = nothing_spared (stops_between a t.Comma b (lit≤ tt))

  reads_fit : (a : List Terminal) (vs : List Target) → IsList ATarget a vs → AllKnown prog a → Fits prog 0 0 a (reads_code prog line vs)
  reads_fit a vs (g.last_of_list _ v d) known = target_fits a v d known
  reads_fit a vs (g.more_of_list a' b v others d d') known =
      targets_fit a' b v others d (front_known prog a' (t.Comma ∷ b) known) (reads_fit b others d' (back_known prog a' (t.Comma ∷ b) known).1)

  -- a place among the items of DATA, or that after them all
  abbrev IsDataPlace : Option ℕ → Type 0
  IsDataPlace None = Unit {0}
  IsDataPlace (Some item) = item ≤ length (data_texts prog)

  count_up_to : (b : Bool) (count n : ℕ) → count ≤ n → (if b then suc count else 0) ≤ suc n
  count_up_to true count n few = omega (arith, few)
  count_up_to false count n few = omega arith

  before_up_to : (items : List DataItem) (at : ℕ) → items_before items at ≤ length items
  before_up_to [] at = omega arith
  before_up_to (d ∷ ds) at = count_up_to (nat_lt d.line at) (items_before ds at) (length ds) (before_up_to ds at)

  first_there : (at : Option ℕ) → IsDataPlace (first_behind prog.data_items at)
  first_there None = tt
  first_there (Some at) = omega (arith, before_up_to prog.data_items at, length-map prog.data_items (λ d. d.text))

  restore_fits : (a : List Terminal) (to : Option ℕ) → IsDataPlace to → Fits prog 0 12 (t.Keyword word.Restore ∷ a) (restore_op to line ∷ [])
  restore_fits a None there = record { there = (tt, tt); cheap = omega arith; low = omega arith }
  restore_fits a (Some item) there = record { there = (there, tt); cheap = omega arith; low = omega arith }

  -- ---- words and their operands

  -- what a word's form makes of its operands
  abbrev FitsForm : Keyword → Form → Type 0
  FitsForm c (Takes ss f) = (a : List Terminal) (vs : Values ss) → IsOperands ss a vs → AllKnown prog a → Fits prog 0 12 (t.Keyword c ∷ a) (statement_code prog place line (f vs))
  FitsForm c (Lists slot f) = (a : List Terminal) (vs : List (ValueOf slot)) → IsList slot a vs → AllKnown prog a → Fits prog 0 12 (t.Keyword c ∷ a) (statement_code prog place line (f vs))
  FitsForm c OwnForm = Unit {0}

  form_fits : (c : Keyword) → FitsForm c (form c)
  form_fits word.Goto = λ a vs d known. goto_fits (t.Keyword word.Goto) a vs.0 refl
  form_fits word.Gosub = λ a vs d known. gosub_fits (t.Keyword word.Gosub) a (line_place prog vs.0) refl
  form_fits word.Return = λ a vs d known. record { there = (tt, tt); cheap = omega arith; low = omega arith }
  form_fits word.Until = λ a vs d known. valued_fits word.Until a vs (o.Until line ∷ []) refl d known (tt, tt) refl (lit≤ tt)
  form_fits word.While = λ a vs d known. valued_fits word.While a vs (o.GoIfZero (after_end prog OpensWhile place) ∷ o.OpenWhile line ∷ []) refl d known (tt, (tt, tt)) refl (lit≤ tt)
  form_fits word.EndWhile = λ a vs d known. record { there = (tt, tt); cheap = omega arith; low = omega arith }
  form_fits word.End = λ a vs d known. ends (t.Keyword word.End) a (lit≤ tt)
  form_fits word.Stop = λ a vs d known. record { there = (tt, tt); cheap = omega arith; low = omega arith }
  form_fits word.Quit = λ a vs d known. ends (t.Keyword word.Quit) a (lit≤ tt)
  form_fits word.EndProc = λ a vs d known. ends (t.Keyword word.EndProc) a (lit≤ tt)
  form_fits word.Call = λ a vs d known. ends (t.Keyword word.Call) a (lit≤ tt)
  form_fits word.Error = λ a vs d known. ends (t.Keyword word.Error) a (lit≤ tt)
  form_fits word.Report = λ a vs d known. ends (t.Keyword word.Report) a (lit≤ tt)
  form_fits word.Mode = λ a vs d known. valued_fits word.Mode a vs (o.Write pieces.Mode ∷ []) refl d known (tt, tt) refl (lit≤ tt)
  form_fits word.Colour = λ a vs d known. valued_fits word.Colour a vs (o.Write pieces.Colour ∷ []) refl d known (tt, tt) refl (lit≤ tt)
  form_fits word.Cls = λ a vs d known. record { there = (tt, tt); cheap = omega arith; low = omega arith }
  form_fits word.Local = λ a vs d known. ends (t.Keyword word.Local) a (lit≤ tt)
  form_fits word.Read = λ a vs d known. after (t.Keyword word.Read) (reads_fit a vs d known) (lit≤ tt)
  form_fits word.Dim = λ a vs d known. ends (t.Keyword word.Dim) a (lit≤ tt)
  form_fits _ = tt

  pub statement_fits : (a : List Terminal) (x : Stmt) → IsStmt a x → AllKnown prog a → Fits prog 0 12 a (statement_code prog place line x)
  statement_fits a x (s.takes c ss f b vs is d) known = subst (FitsForm c) is (form_fits c) b vs d known.1
  statement_fits a x (s.lists c slot f b vs is d) known = subst (FitsForm c) is (form_fits c) b vs d known.1
  statement_fits a x (s.assign _ y d) known = assignment_fits a y d known
  statement_fits a x (s.let_assign b y d) known = after (t.Keyword word.Let) (assignment_fits b y d known.1) (lit≤ tt)
  statement_fits a x (s.add b b' v y d d') known = add_fits b b' v y d d' known
  statement_fits a x (s.append b b' v y d d') known = ends_between b t.PlusEquals b' (lit≤ tt)
  statement_fits a x (s.subtract b b' v y d d') known = subtract_fits b b' v y d d' known
  statement_fits a x (s.swap_numbers b b' v w d d') known = ends (t.Keyword word.Swap) _ (lit≤ tt)
  statement_fits a x (s.swap_texts b b' v w d d') known = ends (t.Keyword word.Swap) _ (lit≤ tt)
  statement_fits a x (s.for n b b' y z d d') known = for_fits n b b' y z d d' known
  statement_fits a x (s.for_step n b b' q y z w d d' d2) known = for_step_fits n b b' q y z w d d' d2 known
  statement_fits a x s.next known = record { there = (tt, tt); cheap = lit≤ tt; low = lit≤ tt }
  statement_fits a x (s.next_of b ns d) known = next_fits b ns d known.1
  statement_fits a x (s.procedure n) known = ends (t.Procedure n) [] (lit≤ tt)
  statement_fits a x (s.procedure_open n b xs d) known = ends (t.ProcedureOpen n) b (lit≤ tt)
  statement_fits a x (s.result b y d) known = ends equals b (lit≤ tt)
  statement_fits a x s.local_error known = ends (t.Keyword word.Local) _ (lit≤ tt)
  statement_fits a x s.restore_error known = ends (t.Keyword word.Restore) _ (lit≤ tt)
  statement_fits a x s.on_error_off known = ends (t.Keyword word.On) _ (lit≤ tt)
  statement_fits a x (s.print b ps d) known = after (t.Keyword word.Print) (print_fits false b ps d known.1 true true) (lit≤ tt)
  statement_fits a x (s.vdu b ps d) known = after (t.Keyword word.Vdu) (vdu_fits b ps d known.1) (lit≤ tt)
  statement_fits a x (s.input b ps d) known = ends (t.Keyword word.Input) b (lit≤ tt)
  statement_fits a x (s.input_line b ps d) known = ends (t.Keyword word.Input) _ (lit≤ tt)
  statement_fits a x s.restore known = restore_fits [] (Some 0) (omega arith)
  statement_fits a x (s.restore_line n) known = restore_fits (t.LineRef n ∷ []) (first_behind prog.data_items (line_of_number prog n)) (first_there (line_of_number prog n))
