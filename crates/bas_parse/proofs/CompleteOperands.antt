-- The parser reads an operand of the grammar where what stands after it doesn't go on with it.
use Rattle.std.proofs.Common.{◌≡◌, ℕ, zero, suc, ◌<◌, true, false, List, [], ◌∷◌, ◌++◌, length, Some, None, refl, ap, ◌∙◌, append_assoc, length-append, arith}
use Rattle.bas_ast.specs.declared.expressions.NumExpr.{NumExpr}
use Rattle.bas_ast.specs.declared.expressions.Variable.{Variable}
use Rattle.bas_ast.specs.declared.expressions.Variable.TheVariants as var
use Rattle.bas_ast.specs.declared.expressions.Width.{Width}
use Rattle.bas_ast.specs.declared.lines.Formal.{Formal}
use Rattle.bas_ast.specs.declared.statements.DimPart.{DimPart}
use Rattle.bas_ast.specs.declared.statements.DimPart.TheVariants as dim
use Rattle.bas_ast.specs.declared.targets.NumTarget.TheVariants as num_target
use Rattle.bas_ast.specs.declared.targets.SimpleVariable.{SimpleVariable}
use Rattle.bas_ast.specs.declared.targets.StrTarget.TheVariants as str_target
use Rattle.bas_ast.specs.declared.targets.Target.{Target}
use Rattle.bas_ast.specs.declared.targets.Target.TheVariants as target
use Rattle.bas_ast.specs.declared.terminals.Terminal.{Terminal}
use Rattle.bas_ast.specs.declared.terminals.Terminal.TheVariants as t
use Rattle.bas_ast.specs.Expressions as e
use Rattle.bas_ast.specs.Expressions.{IsNum, IsVar, IsSubscripts}
use Rattle.bas_ast.specs.Operands as g
use Rattle.bas_ast.specs.Operands.{Slot, ANumber, AText, AnExpression, ATarget, AVariable, AnIntName, ADimPart, ALine, ValueOf, Values, IsTarget, IsSimple, IsFormal, IsFormals, IsDimPart, IsOperand, IsOperands, IsList}
use Rattle.expr_parse.specs.Parse.{Parser, on_front, or_front, on_some, after_comma, row_on}
use Rattle.expr_parse.proofs.GoingOn.{pointed}
use Rattle.bas_parse.specs.Operands as o
use Rattle.bas_parse.specs.Operands.{operand_at, on_operands, list_from, list_of}
use Rattle.bas_parse.specs.Statements.{ended}
use Rattle.bas_parse.proofs.Expressions.{stops, stops_pointed, num_is, text_of_is, any_is, operand_is, offset_is, offset_none, whole_subscripts_are}

-- ---- the end of an item

pub ended_stops : (r : List Terminal) → ended r ≡ true → stops r ≡ true
ended_stops [] h = refl
ended_stops (t.Operator op ∷ r) h = absurd (cc)
ended_stops (t.Indirection w ∷ r) h = absurd (cc)
ended_stops (_ ∷ r) h = refl

pub ended_comma : (r : List Terminal) → ended r ≡ true → after_comma r ≡ None
ended_comma [] h = refl
ended_comma (t.Comma ∷ r) h = absurd (cc)
ended_comma (_ ∷ r) h = refl

-- ---- targets

placed_is : (v : Variable) (r : List Terminal) → pointed r ≡ false → o.placed v r ≡ Some (target.Number (num_target.Variable v), r)
unfolding o.placed or_front
placed_is v r h = ap (λ m. or_front m (λ z q. Some (target.Number (num_target.IndirectSum z.0 v z.1), q)) (Some (target.Number (num_target.Variable v), r)))
    (offset_none r h)

placed_sum : (v : Variable) (w : Width) (b r : List Terminal) (x : NumExpr) → IsNum 7 b x → pointed r ≡ false
    → o.placed v (t.Indirection w ∷ (b ++ r)) ≡ Some (target.Number (num_target.IndirectSum w v x), r)
unfolding o.placed or_front
placed_sum v w b r x d h = ap (λ m. or_front m (λ z q. Some (target.Number (num_target.IndirectSum z.0 v z.1), q))
    (Some (target.Number (num_target.Variable v), t.Indirection w ∷ (b ++ r)))) (offset_is w b r x d h)

-- what begins with a variable
variable_target : (a q : List Terminal) (v : Variable) → IsVar a v → o.target_at (a ++ q) ≡ o.placed v q
unfolding o.target_at on_front
variable_target a q v (e.simple n) = refl
variable_target a q v (e.element n b xs d) =
    ap (λ m. on_front m (λ xs q. o.placed (var.Element n xs) q)) (whole_subscripts_are b q xs d)

pub target_is : (a r : List Terminal) (v : Target) → IsTarget a v → pointed r ≡ false → o.target_at (a ++ r) ≡ Some (v, r)
unfolding o.target_at on_front
target_is a r v (g.number_target _ _ (g.to_variable _ w d)) h = variable_target a r w d ∙ placed_is w r h
target_is a r v (g.number_target _ _ (g.to_memory w b x d)) h =
    ap (λ m. on_front m (λ x q. Some (target.Number (num_target.Indirect w x), q))) (operand_is b r x d h)
target_is a r v (g.number_target _ _ (g.to_memory_sum b b' w width x d k)) h =
    ap o.target_at (append_assoc b (t.Indirection width ∷ b') r) ∙ (variable_target b (t.Indirection width ∷ (b' ++ r)) w d ∙ placed_sum w width b' r x k h)
target_is a r v (g.text_target _ _ (g.text_to_variable _ w (e.text_simple n))) h = refl
target_is a r v (g.text_target _ _ (g.text_to_variable _ w (e.text_element n b xs d))) h =
    ap (λ m. on_front m (λ xs q. Some (target.Text (str_target.Variable (var.Element n xs)), q))) (whole_subscripts_are b r xs d)
target_is a r v (g.text_target _ _ (g.text_to_memory b x d)) h =
    ap (λ m. on_front m (λ x q. Some (target.Text (str_target.Indirect x), q))) (operand_is b r x d h)

-- ---- rows of operands

pub simple_is : (a r : List Terminal) (v : SimpleVariable) → IsSimple a v → o.simple_at (a ++ r) ≡ Some (v, r)
unfolding o.simple_at
simple_is a r v (g.simple_number n) = refl
simple_is a r v (g.simple_text n) = refl

int_name_is : (a r : List Terminal) (n : ℕ) → g.IsIntName a n → o.int_name_at (a ++ r) ≡ Some (n, r)
unfolding o.int_name_at
int_name_is a r n (g.int_name _) = refl

line_is : (a r : List Terminal) (n : ℕ) → g.IsLineRef a n → o.line_at (a ++ r) ≡ Some (n, r)
unfolding o.line_at
line_is a r n (g.line_ref _) = refl

dim_part_is : (a r : List Terminal) (x : DimPart) → IsDimPart a x → stops r ≡ true → o.dim_part_at (a ++ r) ≡ Some (x, r)
unfolding o.dim_part_at on_front
dim_part_is a r x (g.dim_bytes n b y d) h = ap (λ m. on_front m (λ x q. Some (dim.Bytes n x, q))) (num_is b r y d h)
dim_part_is a r x (g.dim_numbers n b xs d) h = ap (λ m. on_front m (λ xs q. Some (dim.Numbers n xs, q))) (whole_subscripts_are b r xs d)
dim_part_is a r x (g.dim_texts n b xs d) h = ap (λ m. on_front m (λ xs q. Some (dim.Texts n xs, q))) (whole_subscripts_are b r xs d)

pub slot_is : (s : Slot) (a r : List Terminal) (v : ValueOf s) → IsOperand s a v → stops r ≡ true → operand_at s (a ++ r) ≡ Some (v, r)
slot_is ANumber a r v d h = num_is a r v d h
slot_is AText a r v d h = text_of_is a r v d h
slot_is AnExpression a r v d h = any_is a r v d h
slot_is ATarget a r v d h = target_is a r v d (stops_pointed r h)
slot_is AVariable a r v d h = simple_is a r v d
slot_is AnIntName a r v d h = int_name_is a r v d
slot_is ADimPart a r v d h = dim_part_is a r v d h
slot_is ALine a r v d h = line_is a r v d

pub operands_are : (B : Type 0) (ss : List Slot) (go : Values ss → Parser B) (a r : List Terminal) (vs : Values ss) → IsOperands ss a vs → stops r ≡ true
    → on_operands ss go (a ++ r) ≡ go vs r
unfolding on_front on_some
operands_are B ss go a r vs g.no_operand h = refl
operands_are B ss go a r vs (g.last_operand s _ v d) h = ap (λ m. on_front m (λ v q. go (v, tt) q)) (slot_is s a r v d h)
operands_are B ss go a r vs (g.more_operands s s' ss' b b' v ws d k) h =
    ap (λ w. on_operands (s ∷ s' ∷ ss') go w) (append_assoc b (t.Comma ∷ b') r)
    ∙ (ap (λ m. on_front m (λ v q. on_some (after_comma q) (λ q1. on_operands (s' ∷ ss') (λ vs q2. go (v, vs) q2) q1) None))
    (slot_is s b (t.Comma ∷ (b' ++ r)) v d refl)
    ∙ operands_are B (s' ∷ ss') (λ vs q. go (v, vs) q) b' r ws k h)

-- the last of a list
list_last : (A : Type 0) (item : Parser A) (k : ℕ) (zs : List A) (x : A) (z q : List Terminal) → item z ≡ Some (x, q) → after_comma q ≡ None
    → list_from item (suc k) zs z ≡ Some (zs ++ x ∷ [], q)
unfolding list_from on_front on_some
list_last A item k zs x z q h h1 =
    ap (λ m. on_front m (λ x q. on_some (after_comma q) (λ q1. list_from item k (zs ++ x ∷ []) q1) (Some (zs ++ x ∷ [], q)))) h
    ∙ ap (λ m. on_some m (λ q1. list_from item k (zs ++ x ∷ []) q1) (Some (zs ++ x ∷ [], q))) h1

-- one of a list, and more
list_more : (A : Type 0) (item : Parser A) (k : ℕ) (zs : List A) (x : A) (z q : List Terminal) → item z ≡ Some (x, t.Comma ∷ q)
    → list_from item (suc k) zs z ≡ list_from item k (zs ++ x ∷ []) q
unfolding list_from on_front on_some
list_more A item k zs x z q h =
    ap (λ m. on_front m (λ x q. on_some (after_comma q) (λ q1. list_from item k (zs ++ x ∷ []) q1) (Some (zs ++ x ∷ [], q)))) h

list_from_is : (s : Slot) (a r : List Terminal) (vs : List (ValueOf s)) → IsList s a vs → ended r ≡ true → (k : ℕ) (zs : List (ValueOf s))
    → length (a ++ r) < k → list_from (operand_at s) k zs (a ++ r) ≡ Some (zs ++ vs, r)
list_from_is s a r vs d h zero zs lt = absurd (omega arith)
list_from_is s a r vs (g.last_of_list _ v d) h (suc k) zs lt =
    list_last (ValueOf s) (operand_at s) k zs v (a ++ r) r (slot_is s a r v d (ended_stops r h)) (ended_comma r h)
list_from_is s a r vs (g.more_of_list b b' v ws d e) h (suc k) zs lt =
    let size = length-append (b ++ t.Comma ∷ b') r in let size1 = length-append b (t.Comma ∷ b') in let size2 = length-append b' r in
    ap (λ w. list_from (operand_at s) (suc k) zs w) (append_assoc b (t.Comma ∷ b') r)
    ∙ (list_more (ValueOf s) (operand_at s) k zs v (b ++ t.Comma ∷ (b' ++ r)) (b' ++ r) (slot_is s b (t.Comma ∷ (b' ++ r)) v d refl)
    ∙ (list_from_is s b' r ws e h k (zs ++ v ∷ []) (omega arith) ∙ ap (λ w. Some (w, r)) (append_assoc zs (v ∷ []) ws)))

pub list_is : (s : Slot) (a r : List Terminal) (vs : List (ValueOf s)) → IsList s a vs → ended r ≡ true
    → list_of (operand_at s) (a ++ r) ≡ Some (vs, r)
unfolding list_of
list_is s a r vs d h = list_from_is s a r vs d h (suc (length (a ++ r))) [] (omega arith)

-- ---- formals

formal_is : (a r : List Terminal) (f : Formal) → IsFormal a f → o.formal_at (a ++ r) ≡ Some (f, r)
unfolding o.formal_at o.formal_by o.simple_at on_front
formal_is a r f (g.by_value _ v (g.simple_number n)) = refl
formal_is a r f (g.by_value _ v (g.simple_text n)) = refl
formal_is a r f (g.by_return b v d) = ap (λ m. on_front m (λ v q. Some (record { returns = true; variable = v }, q))) (simple_is b r v d)

formals_next : (k : ℕ) (fs : List Formal) (f : Formal) (z q : List Terminal) → o.formal_at z ≡ Some (f, q)
    → o.formals_from (suc k) fs z ≡ row_on (o.formals_from k) (fs ++ f ∷ []) q
unfolding o.formals_from on_front
formals_next k fs f z q h = ap (λ m. on_front m (λ f q. row_on (o.formals_from k) (fs ++ f ∷ []) q)) h

formals_from_are : (a r : List Terminal) (fs : List Formal) → IsFormals a fs → (k : ℕ) (zs : List Formal) → length (a ++ r) < k
    → o.formals_from k zs (a ++ r) ≡ Some (zs ++ fs, r)
unfolding on_some
formals_from_are a r fs d zero zs lt = absurd (omega arith)
formals_from_are a r fs (g.last_formal b f d) (suc k) zs lt =
    ap (λ w. o.formals_from (suc k) zs w) (append_assoc b (t.Close ∷ []) r)
    ∙ formals_next k zs f (b ++ t.Close ∷ r) (t.Close ∷ r) (formal_is b (t.Close ∷ r) f d)
formals_from_are a r fs (g.more_formals b b' f gs d e) (suc k) zs lt =
    let size = length-append (b ++ t.Comma ∷ b') r in let size1 = length-append b (t.Comma ∷ b') in let size2 = length-append b' r in
    ap (λ w. o.formals_from (suc k) zs w) (append_assoc b (t.Comma ∷ b') r)
    ∙ (formals_next k zs f (b ++ t.Comma ∷ (b' ++ r)) (t.Comma ∷ (b' ++ r)) (formal_is b (t.Comma ∷ (b' ++ r)) f d)
    ∙ (formals_from_are b' r gs e k (zs ++ f ∷ []) (omega arith) ∙ ap (λ w. Some (w, r)) (append_assoc zs (f ∷ []) gs)))

pub formals_are : (a r : List Terminal) (fs : List Formal) → IsFormals a fs → o.formals_at (a ++ r) ≡ Some (fs, r)
unfolding o.formals_at
formals_are a r fs d = formals_from_are a r fs d (suc (length (a ++ r))) [] (omega arith)
