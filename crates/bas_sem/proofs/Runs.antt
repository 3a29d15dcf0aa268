-- The laws of runs: a greater bound keeps an end, the fuel is never seen, and the outermost level is never left.
use Rattle.std.proofs.Common.{◌≡◌, ℕ, zero, suc, ◌+◌, ◌≤◌, List, [], ◌∷◌, Option, None, Some, refl, sym, ap, subst, ◌∙◌, arith, rules}
use Rattle.std.specs.Prelude.{ℤ, Bool, true, false, pos, nat_le}
use Rattle.bas_ast.specs.declared.expressions.Any.{Any}
use Rattle.bas_ast.specs.declared.expressions.Any.TheVariants as any
use Rattle.bas_ast.specs.declared.expressions.NumExpr.{NumExpr}
use Rattle.bas_ast.specs.declared.lines.Head.{Head}
use Rattle.bas_ast.specs.declared.lines.Head.TheVariants as head
use Rattle.bas_ast.specs.declared.lines.Item.{Item}
use Rattle.bas_ast.specs.declared.lines.Item.TheVariants as item
use Rattle.bas_ast.specs.declared.lines.Jump.{Jump}
use Rattle.bas_ast.specs.declared.lines.Jump.TheVariants as jumps
use Rattle.bas_ast.specs.declared.program.Prog.{Prog}
use Rattle.bas_ast.specs.declared.statements.Flow.{Flow}
use Rattle.bas_ast.specs.declared.statements.Flow.TheVariants as flow
use Rattle.bas_ast.specs.declared.statements.Stmt.{Stmt}
use Rattle.bas_ast.specs.declared.statements.Stmt.TheVariants as stmt
use Rattle.bas_ast.specs.Structures.{OpensCase}
use Rattle.bas_store.specs.Cells.{Cell, integer_cell}
use Rattle.bas_store.specs.Opened.{AnyNext, NextOf, EndWhile, Return}
use Rattle.bas_store.specs.Stored.{Handler, Opening, For, Repeat, While, Gosub}
use Rattle.std.specs.Ordering.{int_eq}
use Rattle.bas_value.specs.Errors.{error_text, no_such_line, on_range, stopped}
use Rattle.bv_run.specs.Outcome.{IsPrefix, output_of}
use Rattle.bv_run.specs.Outcome as outcomes
use Rattle.bv_run.specs.declared.report.Report.{Report}
use Rattle.bas_store.specs.Cells.{Value as Content}
use Rattle.bas_sem.specs.State.{State, start}
use Rattle.bas_sem.specs.Course.{Course, Value, Raised, Over, Spent, Action, on_value, ◌>>=◌, ◌>>◌}
use Rattle.bas_sem.specs.Actions.{taker, raise, assign, spend, take_step, raised_to, taken, place_of, owner_of}
use Rattle.bas_sem.specs.Calls.{Calls, Level, outermost, Next, GoOn, Leave, go_on, call, taken_here, handled, handling, onward}
use Rattle.bas_sem.specs.Data.{restored, restore}
use Rattle.bas_sem.specs.Evaluate.{evaluate}
use Rattle.bas_sem.specs.Items.{assignment, go_to, gosub_to, back_or, nexts, next_of, step_of, while_if, goes, chosen, on_line, out_of_range, on_chosen, output, reads, statement, go_or, among_values, among_branches, case_of, met, execute_item}
use Rattle.bas_sem.specs.Loops.{opens, closing, until, next}
use Rattle.bas_sem.specs.Laws.{executed, GoesOn, IsKept, BoundKept, EndUnique, IsEnd, OutermostEnds}
use Rattle.bas_sem.specs.Meaning.{at_row, execute, outcome_of, source_run}
use Rattle.bas_sem.specs.Places.{Row, Branch, row_at, after_end, branches_of}
use Rattle.bv_run.specs.declared.report.Report.TheVariants.{Done}
use Rattle.bas_sem.proofs.Longer.{more, more-zero, state_in, prefix_refl, stays, Grows, Longer, longer-zero, Pair, bind_pair, over_pair}
use Rattle.bas_sem.proofs.ItemPairs.{item_pair}
use Rattle.bas_sem.proofs.CallPairs.{ExecutePair, call_pair, handling_pair, onward_pair, step_pair, step_none}

abbrev IsFalsehood : Bool → Type 0
IsFalsehood true = ⊥
IsFalsehood false = Unit {0}

-- the least depth
pub zero_least : (n : ℕ) → nat_le 0 n ≡ true
zero_least n = search rules

module _ (prog : Prog) where
  -- what an item comes to after its step, with a way of executing what follows it
  abbrev pub item_then : (Level → ℕ → Action (Option Content)) → Level → ℕ → Row → Action (Option Content)
  item_then exec level place row = handling level (execute_item prog (call exec level) level place row.line row.item) >>= onward (exec level)

  abbrev pub row_then : (Level → ℕ → Action (Option Content)) → Level → ℕ → Option Row → Action (Option Content)
  row_then exec level place o = at_row o (λ row. take_step (Some place) >> item_then exec level place row)

  item_then_pair : (d f g : ℕ) (exec exec' : Level → ℕ → Action (Option Content)) → ExecutePair d f g exec exec' → (level : Level) (place : ℕ) (row : Row)
      → Pair d f g (item_then exec level place row) (item_then exec' level place row)
  item_then_pair d f g exec exec' same level place row =
      bind_pair d f g _ _ _ _ (handling_pair d f g level _ _ (item_pair prog d f g _ _ (call_pair d f g exec exec' same level) level place row.line row.item))
      (onward_pair d f g _ _ (same.of level))

  row_then_pair : (d f g : ℕ) (exec exec' : Level → ℕ → Action (Option Content)) → ExecutePair d f g exec exec' → (level : Level) (place : ℕ) (o : Option Row)
      → Pair d (suc f) (suc g) (row_then exec level place o) (row_then exec' level place o)
  row_then_pair d f g exec exec' same level place None = over_pair (Option Content) d (suc f) (suc g) Done
  row_then_pair d f g exec exec' same level place (Some row) =
      step_pair (Some place) d f g (suc f) (suc g) _ _ (omega arith) (omega arith) (item_then_pair d f g exec exec' same level place row)

  -- where no fuel is left
  abbrev row_spent : Option Row → Action (Option Content)
  row_spent o = at_row o (λ _ s. Spent s)

  spent_grows : (o : Option Row) → Grows (row_spent o)
  spent_grows None = record { by = stays }
  spent_grows (Some row) = record { by = stays }

  spent_longer : (d : ℕ) (o : Option Row) (s : State) → Longer d (row_spent o s) (row_spent o (more d s))
  spent_longer d None s = refl
  spent_longer d (Some row) s = (prefix_refl _, λ none. ap (λ k. Spent (more k s)) none ∙ ap Spent (more-zero s))

  execute-zero : (level : Level) (place : ℕ) → execute prog zero level place ≡ row_spent (row_at prog place)
  unfolding execute
  execute-zero level place = refl

  execute-suc : (f : ℕ) (level : Level) (place : ℕ) → execute prog (suc f) level place ≡ row_then (execute prog f) level place (row_at prog place)
  unfolding execute
  execute-suc f level place = refl

  -- with as much fuel on both sides
  self_pair : (f : ℕ) (level : Level) (place : ℕ) → Pair 0 f f (execute prog f level place) (execute prog f level place)
  self_pair zero level place = subst (λ m. Pair 0 0 0 m m) (sym (execute-zero level place))
      (record { grows = spent_grows _; grows' = spent_grows _; longer = λ s lf lg. spent_longer 0 (row_at prog place) s })
  self_pair (suc f) level place = subst (λ m. Pair 0 (suc f) (suc f) m m) (sym (execute-suc f level place))
      (row_then_pair 0 f f _ _ (record { of = self_pair f }) level place (row_at prog place))

  pub execute_grows : (f : ℕ) (level : Level) (place : ℕ) → Grows (execute prog f level place)
  execute_grows f level place = (self_pair f level place).grows

  -- no fuel, beside some
  less_longer : (d : ℕ) (exec : Level → ℕ → Action (Option Content)) (level : Level) (place : ℕ) (o : Option Row) → Grows (row_then exec level place o)
      → (s : State) → s.left ≤ 0 → Longer d (row_spent o s) (row_then exec level place o (more d s))
  less_longer d exec level place None grows s l = refl
  less_longer d exec level place (Some row) grows s l = (
    (grows.by (more d s)).grown,
    λ none. ap (λ k. row_then exec level place (Some row) (more k s)) none
        ∙ step_none (Some place) (item_then exec level place row) (more 0 s) (omega (arith, l)) ∙ ap Spent (more-zero s),
  )

  -- some fuel, beside none
  no_more_longer : (d : ℕ) (exec : Level → ℕ → Action (Option Content)) (level : Level) (place : ℕ) (o : Option Row)
      → (s : State) → s.left + d ≤ 0 → Longer d (row_then exec level place o s) (row_spent o (more d s))
  no_more_longer d exec level place None s l = refl
  no_more_longer d exec level place (Some row) s l =
      subst (λ r. Longer d r (Spent (more d s))) (sym (step_none (Some place) (item_then exec level place row) s (omega (arith, l))))
      (prefix_refl _, λ none. ap (λ k. Spent (more k s)) none ∙ ap Spent (more-zero s))

  pub execute_pair : (d f g : ℕ) (level : Level) (place : ℕ) → Pair d f g (execute prog f level place) (execute prog g level place)
  execute_pair d zero zero level place = record {
    grows = execute_grows 0 level place;
    grows' = execute_grows 0 level place;
    longer = λ s lf lg. subst (λ m. Longer d (m s) (m (more d s))) (sym (execute-zero level place)) (spent_longer d (row_at prog place) s);
  }
  execute_pair d zero (suc g) level place = record {
    grows = execute_grows 0 level place;
    grows' = execute_grows (suc g) level place;
    longer = λ s lf lg.
        let grows : Grows (row_then (execute prog g) level place (row_at prog place)) = subst Grows (execute-suc g level place) (execute_grows (suc g) level place) in
        subst (λ m. Longer d (execute prog zero level place s) (m (more d s))) (sym (execute-suc g level place))
        (subst (λ m. Longer d (m s) (row_then (execute prog g) level place (row_at prog place) (more d s))) (sym (execute-zero level place))
        (less_longer d (execute prog g) level place (row_at prog place) grows s lf));
  }
  execute_pair d (suc f) zero level place = record {
    grows = execute_grows (suc f) level place;
    grows' = execute_grows 0 level place;
    longer = λ s lf lg.
        subst (λ m. Longer d (execute prog (suc f) level place s) (m (more d s))) (sym (execute-zero level place))
        (subst (λ m. Longer d (m s) (row_spent (row_at prog place) (more d s))) (sym (execute-suc f level place))
        (no_more_longer d (execute prog f) level place (row_at prog place) s lg));
  }
  execute_pair d (suc f) (suc g) level place =
      subst (λ m. Pair d (suc f) (suc g) m (execute prog (suc g) level place)) (sym (execute-suc f level place))
      (subst (λ m. Pair d (suc f) (suc g) (row_then (execute prog f) level place (row_at prog place)) m) (sym (execute-suc g level place))
      (row_then_pair d f g _ _ (record { of = execute_pair d f g }) level place (row_at prog place)))

  -- The fuel is never seen: with as much as steps are left, or more, it is the same.
  executed_grows : (level : Level) (place : ℕ) → Grows (executed prog level place)
  executed_grows level place = record { by = λ s. (execute_grows s.left level place).by s }

  pub executed_pair : (n g : ℕ) → ExecutePair 0 n g (execute prog n) (executed prog)
  executed_pair n g = record {
    of = λ level place. record {
      grows = execute_grows n level place;
      grows' = executed_grows level place;
      longer = λ s lf lg. (execute_pair 0 n (s.left + 0) level place).longer s lf (omega arith);
    };
  }

  spent_then : (exec : Level → ℕ → Action (Option Content)) (level : Level) (place : ℕ) (o : Option Row) (s : State) → s.left ≡ 0 → row_spent o s ≡ row_then exec level place o s
  spent_then exec level place None s none = refl
  spent_then exec level place (Some row) s none = sym (step_none (Some place) (item_then exec level place row) s none)

  executes_then : (n : ℕ) (level : Level) (place : ℕ) (s : State) → n ≡ s.left → execute prog n level place s ≡ row_then (executed prog) level place (row_at prog place) s
  executes_then zero level place s is = ap (λ m. m s) (execute-zero level place) ∙ spent_then (executed prog) level place (row_at prog place) s (sym is)
  executes_then (suc n) level place s is =
      let then_on : _ = (row_then_pair 0 n n _ _ (executed_pair n n) level place (row_at prog place)).longer s (omega (arith, is)) (omega (arith, is)) in
      ap (λ m. m s) (execute-suc n level place)
      ∙ sym (longer-zero _ _ then_on)
      ∙ ap (row_then (executed prog) level place (row_at prog place)) (more-zero s)

  pub goes_on : GoesOn prog
  goes_on level place s = executes_then s.left level place s refl

  -- what a run shows was written in its state
  shown_output : (r : Course (Option Content)) → output_of (outcome_of r) ≡ (state_in r).output
  shown_output (Value v s) = refl
  shown_output (Raised h s) = refl
  shown_output (Over p s) = refl
  shown_output (Spent s) = refl

  shown_kept : (d : ℕ) (r r' : Course (Option Content)) → Longer d r r' → IsKept (outcome_of r) (outcome_of r')
  shown_kept d (Value v s) r' is = ap outcome_of is
  shown_kept d (Raised h s) r' is = ap outcome_of is
  shown_kept d (Over p s) r' is = ap outcome_of is
  shown_kept d (Spent s) r' is = subst (IsPrefix s.output) (sym (shown_output r')) is.0

  pub source_run-is : (input : List ℕ) (n : ℕ) → source_run prog input n ≡ outcome_of (execute prog n outermost 0 (start prog.names input n))
  unfolding source_run
  source_run-is input n = refl

  pub bound_kept : BoundKept prog
  bound_kept input n d =
      subst (λ r. IsKept r (source_run prog input (n + d))) (sym (source_run-is input n))
      (subst (IsKept (outcome_of (execute prog n outermost 0 (start prog.names input n)))) (sym (source_run-is input (n + d)))
      (shown_kept d _ _ ((execute_pair d n (n + d) outermost 0).longer (start prog.names input n) (omega arith) (omega arith))))

  -- an end stays
  pub end_stays : (input : List ℕ) (n d : ℕ) (out arena : List ℕ) (report : Report) → source_run prog input n ≡ outcomes.Over out arena report
      → source_run prog input (n + d) ≡ outcomes.Over out arena report
  end_stays input n d out arena report is = subst (λ r. IsKept r (source_run prog input (n + d))) is (bound_kept input n d)

  pub end_unique : EndUnique prog
  end_unique input m n out arena out' arena' report report' a b =
      let swapped : n + m ≡ m + n = omega arith in
      sym (end_stays input m n out arena report a) ∙ sym (ap (source_run prog input) swapped) ∙ end_stays input n m out' arena' report' b

  -- The outermost level is never left: no item at it gives a value to leave with.
  abbrev IsGoing : Course Next → Type 0
  IsGoing (Value (GoOn place) s) = Unit {0}
  IsGoing (Value (Leave v) s) = ⊥
  IsGoing (Raised h s) = Unit {0}
  IsGoing (Over p s) = Unit {0}
  IsGoing (Spent s) = Unit {0}

  bind_going : {A : Type 0} (r : Course A) (n : A → Action Next) → ((v : A) (s : State) → IsGoing (n v s)) → IsGoing (on_value r n)
  bind_going (Value v s) n each = each v s
  bind_going (Raised h s) n each = tt
  bind_going (Over p s) n each = tt
  bind_going (Spent s) n each = tt

  raised_going : (h : Option Handler) (error : ℤ) (text : List ℕ) (line : ℕ) (s : State) → IsGoing (raised_to h error text line s)
  raised_going None error text line s = tt
  raised_going (Some h) error text line s = tt

  raise_going : (error line : ℕ) (s : State) → IsGoing (raise error line s)
  raise_going error line s = raised_going (taker (int_eq (pos error) (pos 0)) s.handler) (pos error) (error_text error) line s

  go_to_going : (o : Option ℕ) (line : ℕ) (s : State) → IsGoing (go_to o line s)
  go_to_going None line s = raise_going no_such_line line s
  go_to_going (Some place) line s = tt

  opened_going : (line : ℕ) (opening : Opening) (place to : ℕ) (s : State) → IsGoing ((opens 0 line opening place >> go_on to) s)
  opened_going line opening place to s = bind_going (opens 0 line opening place s) (λ _. go_on to) (λ v t. tt)

  gosub_to_going : (place line : ℕ) (to : Option ℕ) (s : State) → IsGoing (gosub_to outermost place line to s)
  gosub_to_going place line None s = raise_going no_such_line line s
  gosub_to_going place line (Some to) s = opened_going line Gosub (place + 1) to s

  back_or_going : (rest : Action Next) → ((s : State) → IsGoing (rest s)) → (back : Option ℕ) (s : State) → IsGoing (back_or rest back s)
  back_or_going rest each None s = each s
  back_or_going rest each (Some place) s = tt

  nexts_going : (place line : ℕ) (names : List ℕ) (s : State) → IsGoing (nexts prog outermost place line names s)
  nexts_going place line [] s = tt
  nexts_going place line (name ∷ names) s =
      bind_going (next 0 line (NextOf (integer_cell prog.names name)) s) _ (back_or_going (nexts prog outermost place line names) (nexts_going place line names))

  next_of_going : (place line : ℕ) (names : List ℕ) (s : State) → IsGoing (next_of prog outermost place line names s)
  next_of_going place line [] s = bind_going (next 0 line AnyNext s) _ (back_or_going (go_on (place + 1)) (λ t. tt))
  next_of_going place line (name ∷ names) s = nexts_going place line (name ∷ names) s

  while_if_going : (none : Bool) (place line : ℕ) (s : State) → IsGoing (while_if none prog outermost place line s)
  while_if_going true place line s = tt
  while_if_going false place line s = opened_going line While (place + 1) (place + 1) s

  for_going : (calls : Calls) (place line name : ℕ) (x y : NumExpr) (z : Option NumExpr) (s : State) → IsGoing (goes prog calls outermost place line (flow.For name x y z) s)
  for_going calls place line name x y z s =
      let cell : Cell = integer_cell prog.names name in
      bind_going (evaluate prog calls line x s) _ (λ start t. bind_going (assign cell start t) _
      (λ _ u. bind_going (evaluate prog calls line y u) _ (λ limit v. bind_going (step_of prog calls line z v) _
      (λ step w. opened_going line (For cell limit step) (place + 1) (place + 1) w))))

  goes_going : (calls : Calls) (place line : ℕ) (w : Flow) (s : State) → IsGoing (goes prog calls outermost place line w s)
  goes_going calls place line (flow.Goto number) s = go_to_going _ line s
  goes_going calls place line (flow.Gosub number) s = gosub_to_going place line _ s
  goes_going calls place line flow.Return s = bind_going (closing 0 line Return s) _ (λ v t. tt)
  goes_going calls place line (flow.For name x y z) s = for_going calls place line name x y z s
  goes_going calls place line (flow.Next names) s = next_of_going place line names s
  goes_going calls place line (flow.Until x) s =
      bind_going (evaluate prog calls line x s) _ (λ value t. bind_going (until 0 line value t) _ (back_or_going (go_on (place + 1)) (λ u. tt)))
  goes_going calls place line (flow.While x) s = bind_going (evaluate prog calls line x s) _ (λ value t. while_if_going (int_eq value (pos 0)) place line t)
  goes_going calls place line flow.EndWhile s = bind_going (closing 0 line EndWhile s) _ (λ v t. tt)
  goes_going calls place line flow.Stop s = raise_going stopped line s
  goes_going calls place line flow.End s = tt
  goes_going calls place line flow.Quit s = tt

  statement_going : (calls : Calls) (place line : ℕ) (x : Stmt) (s : State) → IsGoing (statement prog calls outermost place line x s)
  statement_going calls place line (stmt.Assign a) s = bind_going (assignment prog calls line a s) _ (λ v t. tt)
  statement_going calls place line (stmt.Flow w) s = goes_going calls place line w s
  statement_going calls place line (stmt.Output o) s = bind_going (output prog calls line o s) _ (λ v t. tt)
  statement_going calls place line (stmt.Read variables) s = bind_going (reads prog line variables s) _ (λ v t. tt)
  statement_going calls place line (stmt.Restore to) s = bind_going (restore (restored prog to) line s) _ (λ v t. tt)
  statement_going calls place line _ s = tt

  go_or_going : (here : Bool) (place : ℕ) (rest : Action Next) → ((s : State) → IsGoing (rest s)) → (s : State) → IsGoing (go_or here place rest s)
  go_or_going true place rest each s = tt
  go_or_going false place rest each s = each s

  among_values_going : (calls : Calls) (value : ℤ) (line after : ℕ) (xs : List Any) (later : Action Next) → ((s : State) → IsGoing (later s))
      → (s : State) → IsGoing (among_values prog calls value line after xs later s)
  among_values_going calls value line after [] later each s = each s
  among_values_going calls value line after (any.Number x ∷ xs) later each s =
      bind_going (evaluate prog calls line x s) _ (λ v t. go_or_going (int_eq v value) after _ (among_values_going calls value line after xs later each) t)
  among_values_going calls value line after (any.Text x ∷ xs) later each s = tt

  among_branches_going : (calls : Calls) (value : ℤ) (last : ℕ) (bs : List Branch) (s : State) → IsGoing (among_branches prog calls value last bs s)
  among_branches_going calls value last [] s = tt
  among_branches_going calls value last (b ∷ bs) s = among_values_going calls value b.line b.after b.values _ (among_branches_going calls value last bs) s

  case_going : (calls : Calls) (place line : ℕ) (x : Any) (s : State) → IsGoing (case_of prog calls place line x s)
  case_going calls place line (any.Number x) s =
      bind_going (evaluate prog calls line x s) _ (λ value t. among_branches_going calls value (after_end prog OpensCase place) (branches_of prog place) t)
  case_going calls place line (any.Text x) s = tt

  met_going : (place : ℕ) (h : Head) (s : State) → IsGoing (met prog place h s)
  met_going place (head.When values) s = tt
  met_going place head.Otherwise s = tt
  met_going place head.BlockElse s = tt
  met_going place head.EndIf s = tt
  met_going place head.EndCase s = tt
  met_going place _ s = tt

  on_line_going : (place line : ℕ) (jump : Jump) (number : ℕ) (s : State) → IsGoing (on_line prog outermost place line jump number s)
  on_line_going place line jumps.Goto number s = go_to_going _ line s
  on_line_going place line jumps.Gosub number s = gosub_to_going place line _ s

  out_of_range_going : (line : ℕ) (to : Option ℕ) (s : State) → IsGoing (out_of_range line to s)
  out_of_range_going line None s = raise_going on_range line s
  out_of_range_going line (Some place) s = tt

  on_chosen_going : (place line : ℕ) (jump : Jump) (to : Option ℕ) (s : State) → IsGoing (on_chosen prog outermost place line jump to s)
  on_chosen_going place line jump None s = out_of_range_going line _ s
  on_chosen_going place line jump (Some number) s = on_line_going place line jump number s

  item_going : (calls : Calls) (place line : ℕ) (i : Item) (s : State) → IsGoing (execute_item prog calls outermost place line i s)
  item_going calls place line (item.Head h) s = met_going place h s
  item_going calls place line (item.BlockIf x) s = bind_going (evaluate prog calls line x s) _ (λ v t. tt)
  item_going calls place line (item.Case x) s = case_going calls place line x s
  item_going calls place line (item.Data n) s = tt
  item_going calls place line (item.Stmt x) s = statement_going calls place line x s
  item_going calls place line (item.If x) s = bind_going (evaluate prog calls line x s) _ (λ v t. tt)
  item_going calls place line (item.On x jump lines) s = bind_going (evaluate prog calls line x s) _ (λ value t. on_chosen_going place line jump (chosen value lines) t)
  item_going calls place line item.Repeat s = opened_going line Repeat (place + 1) (place + 1) s
  item_going calls place line item.Else s = tt
  item_going calls place line item.Remark s = tt
  item_going calls place line _ s = tt

  -- and each error that has a handler is taken there
  taken_ends : (here : Bool) → here ≡ true → (from : ℕ → Action (Option Content)) → ((place : ℕ) (s : State) → IsEnd (from place s)) → (h : Handler) (s : State)
      → IsEnd (on_value (taken_here here h s) (onward from))
  taken_ends true is from each h s = each (place_of h) (record s { stored = taken h s.stored })
  taken_ends false is from each h s = absurd (subst IsFalsehood is tt)

  handled_ends : (from : ℕ → Action (Option Content)) → ((place : ℕ) (s : State) → IsEnd (from place s)) → (r : Course Next) → IsGoing r
      → IsEnd (on_value (handled outermost r) (onward from))
  handled_ends from each (Value (GoOn place) s) going = each place s
  handled_ends from each (Value (Leave v) s) going = going
  handled_ends from each (Raised h s) going = taken_ends _ (zero_least (owner_of h)) from each h s
  handled_ends from each (Over p s) going = tt
  handled_ends from each (Spent s) going = tt

  stepped_ends : (place : Option ℕ) (m : Action (Option Content)) → ((s : State) → IsEnd (m s)) → (n : ℕ) (s : State) → IsEnd (on_value (spend place n s) (λ _. m))
  stepped_ends place m each zero s = tt
  stepped_ends place m each (suc n) s = each (record s { left = n; latest = place })

  row_ends : (exec : Level → ℕ → Action (Option Content)) → ((place : ℕ) (s : State) → IsEnd (exec outermost place s)) → (place : ℕ) (o : Option Row) (s : State)
      → IsEnd (row_then exec outermost place o s)
  row_ends exec each place None s = tt
  row_ends exec each place (Some row) s =
      stepped_ends (Some place) (item_then exec outermost place row)
      (λ t. handled_ends (exec outermost) each (execute_item prog (call exec outermost) outermost place row.line row.item t) (item_going _ place row.line row.item t))
      s.left s

  spent_ends : (o : Option Row) (s : State) → IsEnd (row_spent o s)
  spent_ends None s = tt
  spent_ends (Some row) s = tt

  execute_ends : (f place : ℕ) (s : State) → IsEnd (execute prog f outermost place s)
  execute_ends zero place s = subst (λ m. IsEnd (m s)) (sym (execute-zero outermost place)) (spent_ends (row_at prog place) s)
  execute_ends (suc f) place s = subst (λ m. IsEnd (m s)) (sym (execute-suc f outermost place)) (row_ends (execute prog f) (execute_ends f) place (row_at prog place) s)

  pub outermost_ends : OutermostEnds prog
  outermost_ends input n = execute_ends n 0 (start prog.names input n)
