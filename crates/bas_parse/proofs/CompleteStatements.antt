-- The parser reads a plain statement of the grammar up to the end of the item.
use Rattle.std.proofs.Common.{◌≡◌, ℕ, true, false, List, [], ◌∷◌, ◌++◌, Some, None, refl, ap, ◌∙◌, append_assoc}
use Rattle.bas_ast.specs.declared.expressions.BinaryOp.TheVariants as op
use Rattle.bas_ast.specs.declared.expressions.Comparison.TheVariants as comparison
use Rattle.bas_ast.specs.declared.expressions.NumExpr.{NumExpr}
use Rattle.bas_ast.specs.declared.keywords.Keyword.{Keyword}
use Rattle.bas_ast.specs.declared.keywords.Keyword.TheVariants as word
use Rattle.bas_ast.specs.declared.statements.Assignment.{Assignment}
use Rattle.bas_ast.specs.declared.statements.Assignment.TheVariants as assignment
use Rattle.bas_ast.specs.declared.statements.Call.TheVariants as call
use Rattle.bas_ast.specs.declared.statements.Flow.TheVariants as flow
use Rattle.bas_ast.specs.declared.statements.InputPart.{InputPart}
use Rattle.bas_ast.specs.declared.statements.Output.TheVariants as output
use Rattle.bas_ast.specs.declared.statements.Stmt.{Stmt}
use Rattle.bas_ast.specs.declared.statements.Stmt.TheVariants as stmt
use Rattle.bas_ast.specs.declared.targets.Target.{Target}
use Rattle.bas_ast.specs.declared.targets.Target.TheVariants as target
use Rattle.bas_ast.specs.declared.terminals.Terminal.{Terminal}
use Rattle.bas_ast.specs.declared.terminals.Terminal.TheVariants as t
use Rattle.bas_ast.specs.Operands as o
use Rattle.bas_ast.specs.Operands.{AnIntName, ValueOf, IsTarget}
use Rattle.bas_ast.specs.Statements as g
use Rattle.bas_ast.specs.Statements.{form, equals, IsAssignment, IsStmt}
use Rattle.expr_parse.specs.Parse.{on_front, or_front, on_some, after_comma, longest_num}
use Rattle.expr_parse.proofs.GoingOn.{pointed}
use Rattle.bas_parse.specs.Operands.{target_at, simple_at, int_name_at, list_from, list_of}
use Rattle.bas_parse.specs.Statements as s
use Rattle.bas_parse.specs.Statements.{ended, signed, stored, assignment_at, let_at, swap_at, by_form, word_at, stmt_at}
use Rattle.bas_parse.proofs.Expressions.{stops_pointed, num_is, text_of_is, any_is, whole_arguments_are}
use Rattle.bas_parse.proofs.CompleteOperands.{ended_stops, target_is, operands_are, list_is}
use Rattle.bas_parse.proofs.CompleteParts.{print_is, vdu_is, input_is}

-- ---- assignments

assignment_next : (z q : List Terminal) (v : Target) → target_at z ≡ Some (v, q) → assignment_at z ≡ signed v q
unfolding assignment_at on_front
assignment_next z q v h = ap (λ m. on_front m (λ v q. signed v q)) h

let_next : (z q : List Terminal) (v : Target) → target_at z ≡ Some (v, equals ∷ q) → let_at z ≡ stored v q
unfolding let_at on_front on_some
let_next z q v h = ap (λ m. on_front m (λ v q. on_some (s.after_equals q) (λ q1. stored v q1) None)) h

-- the value of an assignment
stored_is : (a r : List Terminal) (x : Assignment) → IsAssignment a x → ended r ≡ true
    → (v : Target) × (b q : List Terminal) × (target_at (a ++ r) ≡ Some (v, equals ∷ q)) × (stored v q ≡ Some (x, r))
unfolding on_front
stored_is a r x (g.assign_number b b' v y d e) h = (
  target.Number v,
  b,
  b' ++ r,
  ap target_at (append_assoc b (equals ∷ b') r) ∙ target_is b (equals ∷ (b' ++ r)) (target.Number v) (o.number_target b v d) refl,
  ap (λ m. on_front m (λ x q. Some (assignment.Number v x, q))) (num_is b' r y e (ended_stops r h)),
)
stored_is a r x (g.assign_text b b' v y d e) h = (
  target.Text v,
  b,
  b' ++ r,
  ap target_at (append_assoc b (equals ∷ b') r) ∙ target_is b (equals ∷ (b' ++ r)) (target.Text v) (o.text_target b v d) refl,
  ap (λ m. on_front m (λ y q. Some (assignment.Text v y, q))) (text_of_is b' r y e (ended_stops r h)),
)

assignment_is : (a r : List Terminal) (x : Assignment) → IsAssignment a x → ended r ≡ true → assignment_at (a ++ r) ≡ Some (x, r)
unfolding signed
assignment_is a r x d h = let e = stored_is a r x d h in assignment_next (a ++ r) (equals ∷ e.2) e.0 e.3 ∙ e.4

let_is : (a r : List Terminal) (x : Assignment) → IsAssignment a x → ended r ≡ true → let_at (a ++ r) ≡ Some (x, r)
let_is a r x d h = let e = stored_is a r x d h in let_next (a ++ r) e.2 e.0 e.3 ∙ e.4

-- what begins with a target is an assignment
target_stmt : (z q : List Terminal) (x : Assignment) → assignment_at z ≡ Some (x, q) → stmt_at z ≡ Some (stmt.Assign x, q)
unfolding stmt_at assignment_at target_at on_front
target_stmt (t.Keyword c ∷ r) q x h = absurd (cc)
target_stmt (t.Procedure n ∷ r) q x h = absurd (cc)
target_stmt (t.ProcedureOpen n ∷ r) q x h = absurd (cc)
target_stmt (t.Operator (op.Compare comparison.Equal) ∷ r) q x h = absurd (cc)
target_stmt z q x h = ap (λ m. on_front m (λ x q. Some (stmt.Assign x, q))) h

-- a target, a sign and a value
signed_stmt : (a b r : List Terminal) (c : Terminal) (v : Target) (x : Assignment) → IsTarget a v → ((q : List Terminal) → pointed (c ∷ q) ≡ false) → signed v (c ∷ (b ++ r)) ≡ Some (x, r)
    → stmt_at ((a ++ c ∷ b) ++ r) ≡ Some (stmt.Assign x, r)
signed_stmt a b r c v x d h e = target_stmt ((a ++ c ∷ b) ++ r) r x
    (ap assignment_at (append_assoc a (c ∷ b) r) ∙ (assignment_next (a ++ c ∷ (b ++ r)) (c ∷ (b ++ r)) v (target_is a (c ∷ (b ++ r)) v d (h (b ++ r))) ∙ e))

-- ---- SWAP

swap_next : (z q q1 : List Terminal) (v w : Target) → target_at z ≡ Some (v, t.Comma ∷ q) → target_at q ≡ Some (w, q1) → swap_at z ≡ s.swapped v w q1
unfolding swap_at on_front on_some
swap_next z q q1 v w h h1 =
    ap (λ m. on_front m (λ v q. on_some (after_comma q) (λ q1. s.swap_with v q1) None)) h
    ∙ ap (λ m. on_front m (λ w q2. s.swapped v w q2)) h1

swap_is : (a b r : List Terminal) (v w : Target) → IsTarget a v → IsTarget b w → ended r ≡ true → swap_at ((a ++ t.Comma ∷ b) ++ r) ≡ s.swapped v w r
swap_is a b r v w d e h = swap_next ((a ++ t.Comma ∷ b) ++ r) (b ++ r) r v w
    (ap target_at (append_assoc a (t.Comma ∷ b) r) ∙ target_is a (t.Comma ∷ (b ++ r)) v d refl) (target_is b r w e (stops_pointed r (ended_stops r h)))

-- ---- FOR

ended_step : (r : List Terminal) → ended r ≡ true → s.after_step r ≡ None
ended_step [] h = refl
ended_step (t.Colon ∷ r) h = refl
ended_step (t.Keyword word.Else ∷ r) h = refl
ended_step (_ ∷ r) h = absurd (cc)

for_is : (n : ℕ) (a z q q1 : List Terminal) (x y : NumExpr) → longest_num z ≡ Some (x, t.Keyword word.To ∷ q) → longest_num q ≡ Some (y, q1)
    → s.for_at (t.IntName n ∷ equals ∷ z) ≡ s.for_step n x y q1
unfolding s.for_at int_name_at on_front on_some
for_is n a z q q1 x y h h1 = ap (λ m. on_front m (λ x q. on_some (s.after_to q) (λ q1. s.for_limit n x q1) None)) h
    ∙ ap (λ m. on_front m (λ y q. s.for_step n x y q)) h1

for_without : (n : ℕ) (x y : NumExpr) (r : List Terminal) → ended r ≡ true → s.for_step n x y r ≡ Some (stmt.Flow (flow.For n x y None), r)
unfolding on_some
for_without n x y r h = ap (λ m. on_some m (λ q. on_front (longest_num q) (λ z q1. Some (stmt.Flow (flow.For n x y (Some z)), q1)))
    (Some (stmt.Flow (flow.For n x y None), r))) (ended_step r h)

for_with : (n : ℕ) (x y z : NumExpr) (q r : List Terminal) → longest_num q ≡ Some (z, r)
    → s.for_step n x y (t.Keyword word.Step ∷ q) ≡ Some (stmt.Flow (flow.For n x y (Some z)), r)
unfolding on_some on_front
for_with n x y z q r h = ap (λ m. on_front m (λ z q1. Some (stmt.Flow (flow.For n x y (Some z)), q1))) h

-- ---- words

-- no list of variables begins with ERROR
local_by_form : (z q : List Terminal) (y : Stmt) → by_form (form word.Local) word.Local z ≡ Some (y, q) → word_at word.Local z ≡ Some (y, q)
unfolding word_at list_of list_from simple_at on_front on_some
local_by_form (t.Keyword word.Error ∷ r) q y h = absurd (cc)
local_by_form z q y h = h

word_by_form : (c : Keyword) (z q : List Terminal) (y : Stmt) → by_form (form c) c z ≡ Some (y, q) → word_at c z ≡ Some (y, q)
unfolding word_at
word_by_form word.Local z q y h = local_by_form z q y h
word_by_form c z q y h = h

no_names : (r : List Terminal) → ended r ≡ true → list_of int_name_at r ≡ None
unfolding list_of list_from int_name_at on_front
no_names [] h = refl
no_names (t.Colon ∷ r) h = refl
no_names (t.Keyword word.Else ∷ r) h = refl
no_names (_ ∷ r) h = absurd (cc)

next_is : (a r : List Terminal) (ns : List ℕ) → list_of int_name_at (a ++ r) ≡ Some (ns, r) → s.next_at (a ++ r) ≡ Some (stmt.Flow (flow.Next ns), r)
unfolding or_front
next_is a r ns h = ap (λ m. or_front m (λ ns q. Some (stmt.Flow (flow.Next ns), q)) (Some (stmt.Flow (flow.Next []), a ++ r))) h

next_bare : (r : List Terminal) → ended r ≡ true → s.next_at r ≡ Some (stmt.Flow (flow.Next []), r)
unfolding or_front
next_bare r h = ap (λ m. or_front m (λ ns q. Some (stmt.Flow (flow.Next ns), q)) (Some (stmt.Flow (flow.Next []), r))) (no_names r h)

restore_bare : (r : List Terminal) → ended r ≡ true → s.restore_at r ≡ Some (stmt.Restore None, r)
unfolding s.restore_at
restore_bare [] h = refl
restore_bare (t.Colon ∷ r) h = refl
restore_bare (t.Keyword word.Else ∷ r) h = refl
restore_bare (_ ∷ r) h = absurd (cc)

-- no part of INPUT begins with LINE
input_stmt : (z q : List Terminal) (ps : List InputPart) → s.input_at z ≡ Some (ps, q) → s.input_stmt_at z ≡ Some (stmt.Input false ps, q)
unfolding s.input_stmt_at s.input_at s.input_from s.input_part_at target_at on_front
input_stmt (t.Keyword word.Line ∷ r) q ps h = absurd (cc)
input_stmt z q ps h = ap (λ m. on_front m (λ ps q. Some (stmt.Input false ps, q))) h

pub stmt_is : (a r : List Terminal) (x : Stmt) → IsStmt a x → ended r ≡ true → stmt_at (a ++ r) ≡ Some (x, r)
unfolding stmt_at word_at signed s.restore_at s.input_stmt_at s.error_off_at on_front on_some
stmt_is a r x (g.takes c ss f b vs e d) h = word_by_form c (b ++ r) r (f vs)
    (ap (λ w. by_form w c (b ++ r)) e ∙ operands_are Stmt ss (λ vs q. Some (f vs, q)) b r vs d (ended_stops r h))
stmt_is a r x (g.lists c k f b vs e d) h = word_by_form c (b ++ r) r (f vs)
    (ap (λ w. by_form w c (b ++ r)) e ∙ ap (λ m. on_front m (λ vs q. Some (f vs, q))) (list_is k b r vs d h))
stmt_is a r x (g.assign _ y d) h = target_stmt (a ++ r) r y (assignment_is a r y d h)
stmt_is a r x (g.let_assign b y d) h = ap (λ m. on_front m (λ x q. Some (stmt.Assign x, q))) (let_is b r y d h)
stmt_is a r x (g.add b b' v y d e) h = signed_stmt b b' r t.PlusEquals (target.Number v) _ (o.number_target b v d) (λ q. refl)
    (ap (λ m. on_front m (λ x q. Some (assignment.Add v x, q))) (num_is b' r y e (ended_stops r h)))
stmt_is a r x (g.append b b' v y d e) h = signed_stmt b b' r t.PlusEquals (target.Text v) _ (o.text_target b v d) (λ q. refl)
    (ap (λ m. on_front m (λ y q. Some (assignment.Append v y, q))) (text_of_is b' r y e (ended_stops r h)))
stmt_is a r x (g.subtract b b' v y d e) h = signed_stmt b b' r t.MinusEquals (target.Number v) _ (o.number_target b v d) (λ q. refl)
    (ap (λ m. on_front m (λ x q. Some (assignment.Subtract v x, q))) (num_is b' r y e (ended_stops r h)))
stmt_is a r x (g.swap_numbers b b' v w d e) h = ap (λ m. on_front m (λ x q. Some (stmt.Assign x, q)))
    (swap_is b b' r (target.Number v) (target.Number w) (o.number_target b v d) (o.number_target b' w e) h)
stmt_is a r x (g.swap_texts b b' v w d e) h = ap (λ m. on_front m (λ x q. Some (stmt.Assign x, q)))
    (swap_is b b' r (target.Text v) (target.Text w) (o.text_target b v d) (o.text_target b' w e) h)
stmt_is a r x (g.for n b b' y z d e) h =
    for_is n b ((b ++ t.Keyword word.To ∷ b') ++ r) (b' ++ r) r y z
    (ap longest_num (append_assoc b (t.Keyword word.To ∷ b') r) ∙ num_is b (t.Keyword word.To ∷ (b' ++ r)) y d refl) (num_is b' r z e (ended_stops r h))
    ∙ for_without n y z r h
stmt_is a r x (g.for_step n b b' b'' y z w d e k) h =
    for_is n b ((b ++ t.Keyword word.To ∷ (b' ++ t.Keyword word.Step ∷ b'')) ++ r) ((b' ++ t.Keyword word.Step ∷ b'') ++ r) (t.Keyword word.Step ∷ (b'' ++ r)) y z
    (ap longest_num (append_assoc b (t.Keyword word.To ∷ (b' ++ t.Keyword word.Step ∷ b'')) r)
    ∙ num_is b (t.Keyword word.To ∷ ((b' ++ t.Keyword word.Step ∷ b'') ++ r)) y d refl)
    (ap longest_num (append_assoc b' (t.Keyword word.Step ∷ b'') r) ∙ num_is b' (t.Keyword word.Step ∷ (b'' ++ r)) z e refl)
    ∙ for_with n y z w (b'' ++ r) r (num_is b'' r w k (ended_stops r h))
stmt_is a r x g.next h = next_bare r h
stmt_is a r x (g.next_of b ns d) h = next_is b r ns (list_is AnIntName b r ns d h)
stmt_is a r x (g.procedure n) h = refl
stmt_is a r x (g.procedure_open n b xs d) h = ap (λ m. on_front m (λ xs q. Some (stmt.Call (call.Procedure n xs), q))) (whole_arguments_are b r xs d)
stmt_is a r x (g.result b y d) h = ap (λ m. on_front m (λ x q. Some (stmt.Call (call.Result x), q))) (any_is b r y d (ended_stops r h))
stmt_is a r x g.local_error h = refl
stmt_is a r x g.restore_error h = refl
stmt_is a r x g.on_error_off h = refl
stmt_is a r x (g.print b ps d) h = ap (λ m. on_front m (λ ps q. Some (stmt.Output (output.Print ps), q))) (print_is b r ps d h)
stmt_is a r x (g.vdu b ps d) h = ap (λ m. on_front m (λ ps q. Some (stmt.Output (output.Vdu ps), q))) (vdu_is b r ps d h)
stmt_is a r x (g.input b ps d) h = input_stmt (b ++ r) r ps (input_is b r ps d h)
stmt_is a r x (g.input_line b ps d) h = ap (λ m. on_front m (λ ps q. Some (stmt.Input true ps, q))) (input_is b r ps d h)
stmt_is a r x g.restore h = restore_bare r h
stmt_is a r x (g.restore_line n) h = refl
