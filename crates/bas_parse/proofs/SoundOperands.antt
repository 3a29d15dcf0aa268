-- What the parser answers for operands is spelled out at the front of its list.
use Rattle.std.proofs.Common.{◌≡◌, ℕ, zero, suc, Bool, true, false, List, [], ◌∷◌, ◌++◌, length, None, if◌then◌else◌, refl, ap, sym, subst, ◌∙◌, append_assoc}
use Rattle.bas_ast.specs.declared.expressions.BinaryOp.TheVariants as op
use Rattle.bas_ast.specs.declared.expressions.Comparison.TheVariants as comparison
use Rattle.bas_ast.specs.declared.expressions.Variable.{Variable}
use Rattle.bas_ast.specs.declared.expressions.Variable.TheVariants as var
use Rattle.bas_ast.specs.declared.keywords.Keyword.TheVariants as word
use Rattle.bas_ast.specs.declared.lines.Formal.{Formal}
use Rattle.bas_ast.specs.declared.targets.NumTarget.TheVariants as num_target
use Rattle.bas_ast.specs.declared.targets.StrTarget.TheVariants as str_target
use Rattle.bas_ast.specs.declared.targets.Target.TheVariants as target
use Rattle.bas_ast.specs.declared.terminals.Terminal.{Terminal}
use Rattle.bas_ast.specs.declared.terminals.Terminal.TheVariants as t
use Rattle.bas_ast.specs.Expressions as e
use Rattle.bas_ast.specs.Expressions.{IsVar}
use Rattle.bas_ast.specs.Operands as g
use Rattle.bas_ast.specs.Operands.{Slot, ANumber, AText, AnExpression, ATarget, AVariable, AnIntName, ADimPart, ALine, ValueOf, Values, IsTarget, IsSimple, IsIntName, IsLineRef, IsFormal, IsFormals, IsDimPart, IsOperand, IsOperands, IsList}
use Rattle.bas_ast.specs.Statements.{equals}
use Rattle.expr_parse.specs.Longest.{Fronts}
use Rattle.expr_parse.specs.Parse.{Front, Parser, on_some}
use Rattle.expr_parse.proofs.Fronts.{Holds, holds_some, holds_none, holds_as, holds_on, holds_or, on_comma, row_at, fronts_over, fronts_two, fronts_close, fronts_as, fronts_one}
use Rattle.expr_parse.proofs.Sound.{RowsAfter}
use Rattle.bas_parse.specs.Operands as o
use Rattle.bas_parse.specs.Operands.{operand_at, on_operands, list_from, list_of}
use Rattle.bas_parse.specs.Statements as s
use Rattle.bas_parse.proofs.Expressions.{num_at, text_of_at, any_at, longest_operand_at, offset_holds, whole_subscripts_at}

-- ---- steps of parsers

pub holds_unless : {A : Type 0} (P : A → List Terminal → Type 0) (b : Bool) (m : Front A) → (b ≡ false → Holds P m) → Holds P (if b then None else m)
holds_unless P true m f = holds_none P
holds_unless P false m f = f refl

pub holds_either : {A : Type 0} (P : A → List Terminal → Type 0) (b : Bool) (m m' : Front A) → (b ≡ true → Holds P m) → (b ≡ false → Holds P m')
    → Holds P (if b then m else m')
holds_either P true m m' f g = f refl
holds_either P false m m' f g = g refl

pub on_equals : {B : Type 0} (Q : B → List Terminal → Type 0) (r : List Terminal) (go : List Terminal → Front B) (other : Front B)
    → ((q : List Terminal) → r ≡ equals ∷ q → Holds Q (go q)) → Holds Q other → Holds Q (on_some (s.after_equals r) go other)
unfolding on_some
on_equals Q [] go other f g = g
on_equals Q (t.Operator (op.Compare comparison.Equal) ∷ q) go other f g = f q refl
on_equals Q (_ ∷ q) go other f g = g

pub on_semicolon : {B : Type 0} (Q : B → List Terminal → Type 0) (r : List Terminal) (go : List Terminal → Front B) (other : Front B)
    → ((q : List Terminal) → r ≡ t.Semicolon ∷ q → Holds Q (go q)) → Holds Q other → Holds Q (on_some (s.after_semicolon r) go other)
unfolding on_some
on_semicolon Q [] go other f g = g
on_semicolon Q (t.Semicolon ∷ q) go other f g = f q refl
on_semicolon Q (_ ∷ q) go other f g = g

pub on_to : {B : Type 0} (Q : B → List Terminal → Type 0) (r : List Terminal) (go : List Terminal → Front B) (other : Front B)
    → ((q : List Terminal) → r ≡ t.Keyword word.To ∷ q → Holds Q (go q)) → Holds Q other → Holds Q (on_some (s.after_to r) go other)
unfolding on_some
on_to Q [] go other f g = g
on_to Q (t.Keyword word.To ∷ q) go other f g = f q refl
on_to Q (_ ∷ q) go other f g = g

pub on_step_word : {B : Type 0} (Q : B → List Terminal → Type 0) (r : List Terminal) (go : List Terminal → Front B) (other : Front B)
    → ((q : List Terminal) → r ≡ t.Keyword word.Step ∷ q → Holds Q (go q)) → Holds Q other → Holds Q (on_some (s.after_step r) go other)
unfolding on_some
on_step_word Q [] go other f g = g
on_step_word Q (t.Keyword word.Step ∷ q) go other f g = f q refl
on_step_word Q (_ ∷ q) go other f g = g

pub on_error_word : {B : Type 0} (Q : B → List Terminal → Type 0) (r : List Terminal) (go : List Terminal → Front B) (other : Front B)
    → ((q : List Terminal) → r ≡ t.Keyword word.Error ∷ q → Holds Q (go q)) → Holds Q other → Holds Q (on_some (s.after_error r) go other)
unfolding on_some
on_error_word Q [] go other f g = g
on_error_word Q (t.Keyword word.Error ∷ q) go other f g = f q refl
on_error_word Q (_ ∷ q) go other f g = g

-- a terminal that stands first, and a front after it
pub fronts_after : {A B : Type 0} (Is : List Terminal → A → Type 0) (Is' : List Terminal → B → Type 0) (c : Terminal) (r q : List Terminal) (x : A)
    (q1 : List Terminal) (z : B) → r ≡ c ∷ q → Fronts Is q x q1 → ((a : List Terminal) → Is a x → Is' (c ∷ a) z) → Fronts Is' r z q1
fronts_after Is Is' c r q x q1 z h f k = record { front = c ∷ f.front; split = h ∙ ap (λ z. c ∷ z) f.split; is = k f.front f.is }

-- ---- targets

placed_at : (r q : List Terminal) (v : Variable) → Fronts IsVar r v q → Holds (Fronts IsTarget r) (o.placed v q)
unfolding o.placed
placed_at r q v f = holds_or _ _ _ _ _ (offset_holds q)
    (λ z q1 m. holds_some _ (target.Number (num_target.IndirectSum z.0 v z.1)) q1 (fronts_two _ _ _ (t.Indirection z.0) r q m.after q1 v z.1 _ f m.sign m.operand
    (λ a b d d'. g.number_target _ _ (g.to_memory_sum a b v z.0 z.1 d d'))))
    (holds_some _ (target.Number (num_target.Variable v)) q (fronts_as _ _ r q v _ f (λ a d. g.number_target a _ (g.to_variable a v d))))

pub target_at_front : (r : List Terminal) → Holds (Fronts IsTarget r) (o.target_at r)
unfolding o.target_at
target_at_front (t.IntName n ∷ r) = placed_at (t.IntName n ∷ r) r (var.Simple n) (fronts_one _ (t.IntName n) r _ (e.simple n))
target_at_front (t.IntArray n ∷ r) = holds_on _ _ _ _ (whole_subscripts_at r) (λ xs q f. placed_at (t.IntArray n ∷ r) q (var.Element n xs)
    (fronts_over _ _ (t.IntArray n) r xs q _ f (λ a d. e.element n a xs d)))
target_at_front (t.StrName n ∷ r) = holds_some _ (target.Text (str_target.Variable (var.Simple n))) r
    (fronts_one _ (t.StrName n) r _ (g.text_target _ _ (g.text_to_variable _ _ (e.text_simple n))))
target_at_front (t.StrArray n ∷ r) = holds_on _ _ _ _ (whole_subscripts_at r) (λ xs q f. holds_some _ (target.Text (str_target.Variable (var.Element n xs))) q
    (fronts_over _ _ (t.StrArray n) r xs q _ f (λ a d. g.text_target _ _ (g.text_to_variable _ _ (e.text_element n a xs d)))))
target_at_front (t.Indirection w ∷ r) = holds_on _ _ _ _ (longest_operand_at r) (λ x q f. holds_some _ (target.Number (num_target.Indirect w x)) q
    (fronts_over _ _ (t.Indirection w) r x q _ f (λ a d. g.number_target _ _ (g.to_memory w a x d))))
target_at_front (t.Dollar ∷ r) = holds_on _ _ _ _ (longest_operand_at r) (λ x q f. holds_some _ (target.Text (str_target.Indirect x)) q
    (fronts_over _ _ t.Dollar r x q _ f (λ a d. g.text_target _ _ (g.text_to_memory a x d))))
target_at_front _ = holds_none _

-- ---- rows of operands

pub simple_at_front : (r : List Terminal) → Holds (Fronts IsSimple r) (o.simple_at r)
unfolding o.simple_at
simple_at_front (t.IntName n ∷ r) = holds_some _ _ r (fronts_one _ (t.IntName n) r _ (g.simple_number n))
simple_at_front (t.StrName n ∷ r) = holds_some _ _ r (fronts_one _ (t.StrName n) r _ (g.simple_text n))
simple_at_front _ = holds_none _

int_name_at_front : (r : List Terminal) → Holds (Fronts IsIntName r) (o.int_name_at r)
unfolding o.int_name_at
int_name_at_front (t.IntName n ∷ r) = holds_some _ n r (fronts_one _ (t.IntName n) r n (g.int_name n))
int_name_at_front _ = holds_none _

line_at_front : (r : List Terminal) → Holds (Fronts IsLineRef r) (o.line_at r)
unfolding o.line_at
line_at_front (t.LineRef n ∷ r) = holds_some _ n r (fronts_one _ (t.LineRef n) r n (g.line_ref n))
line_at_front _ = holds_none _

dim_part_at_front : (r : List Terminal) → Holds (Fronts IsDimPart r) (o.dim_part_at r)
unfolding o.dim_part_at
dim_part_at_front (t.IntName n ∷ r) = holds_on _ _ _ _ (num_at r) (λ x q f. holds_some _ _ q
    (fronts_over _ _ (t.IntName n) r x q _ f (λ a d. g.dim_bytes n a x d)))
dim_part_at_front (t.IntArray n ∷ r) = holds_on _ _ _ _ (whole_subscripts_at r) (λ xs q f. holds_some _ _ q
    (fronts_over _ _ (t.IntArray n) r xs q _ f (λ a d. g.dim_numbers n a xs d)))
dim_part_at_front (t.StrArray n ∷ r) = holds_on _ _ _ _ (whole_subscripts_at r) (λ xs q f. holds_some _ _ q
    (fronts_over _ _ (t.StrArray n) r xs q _ f (λ a d. g.dim_texts n a xs d)))
dim_part_at_front _ = holds_none _

slot_at_front : (s : Slot) (r : List Terminal) → Holds (Fronts (IsOperand s) r) (operand_at s r)
slot_at_front ANumber r = num_at r
slot_at_front AText r = text_of_at r
slot_at_front AnExpression r = any_at r
slot_at_front ATarget r = target_at_front r
slot_at_front AVariable r = simple_at_front r
slot_at_front AnIntName r = int_name_at_front r
slot_at_front ADimPart r = dim_part_at_front r
slot_at_front ALine r = line_at_front r

pub operands_at_front : (B : Type 0) (Q : B → List Terminal → Type 0) (ss : List Slot) (go : Values ss → Parser B) (r : List Terminal)
    → ((vs : Values ss) (q : List Terminal) → Fronts (IsOperands ss) r vs q → Holds Q (go vs q)) → Holds Q (on_operands ss go r)
operands_at_front B Q [] go r k = k tt r (record { front = []; split = refl; is = g.no_operand })
operands_at_front B Q (s ∷ []) go r k = holds_on _ _ _ _ (slot_at_front s r)
    (λ v q f. k (v, tt) q (fronts_as _ _ r q v (v, tt) f (λ a d. g.last_operand s a v d)))
operands_at_front B Q (s ∷ s' ∷ ss) go r k = holds_on _ _ _ _ (slot_at_front s r) (λ v q f. on_comma _ q _ _
    (λ q1 h. operands_at_front B Q (s' ∷ ss) (λ vs q2. go (v, vs) q2) q1 (λ vs q2 f2. k (v, vs) q2
    (fronts_two _ _ _ t.Comma r q q1 q2 v vs (v, vs) f h f2 (λ a b d d'. g.more_operands s s' ss a b v vs d d'))))
    (holds_none _))

list_from_at : (s : Slot) (k : ℕ) (xs : List (ValueOf s)) (r : List Terminal) → Holds (RowsAfter (IsList s) xs r) (list_from (operand_at s) k xs r)
unfolding list_from
list_from_at s zero xs r = holds_none _
list_from_at s (suc k) xs r = holds_on _ _ _ _ (slot_at_front s r) (λ x q f. on_comma _ q _ _
    (λ q1 h. holds_as _ _ _ (list_from_at s k (xs ++ x ∷ []) q1) (λ zs q2 m. record {
      own = x ∷ m.own;
      all = m.all ∙ append_assoc xs (x ∷ []) m.own;
      here = fronts_two _ _ _ t.Comma r q q1 q2 x m.own (x ∷ m.own) f h m.here (λ a b d d'. g.more_of_list a b x m.own d d');
    }))
    (holds_some _ (xs ++ x ∷ []) q (record { own = x ∷ []; all = refl; here = fronts_as _ _ r q x (x ∷ []) f (λ a d. g.last_of_list a x d) })))

pub list_at_front : (s : Slot) (r : List Terminal) → Holds (Fronts (IsList s) r) (list_of (operand_at s) r)
unfolding list_of
list_at_front s r = holds_as _ _ _ (list_from_at s (suc (length r)) [] r) (λ zs q m. fronts_as _ _ r q m.own zs m.here
    (λ a d. subst (λ z. IsList s a z) (sym m.all) d))

-- ---- formals

formal_at_front : (r : List Terminal) → Holds (Fronts IsFormal r) (o.formal_at r)
unfolding o.formal_at o.formal_by
formal_at_front (t.Keyword word.Return ∷ r) = holds_on _ _ _ _ (simple_at_front r) (λ v q f. holds_some _ _ q
    (fronts_over _ _ (t.Keyword word.Return) r v q _ f (λ a d. g.by_return a v d)))
formal_at_front r = holds_on _ _ _ _ (simple_at_front r) (λ v q f. holds_some _ _ q (fronts_as _ _ r q v _ f (λ a d. g.by_value a v d)))

formals_from_at : (k : ℕ) (fs : List Formal) (r : List Terminal) → Holds (RowsAfter IsFormals fs r) (o.formals_from k fs r)
unfolding o.formals_from
formals_from_at zero fs r = holds_none _
formals_from_at (suc k) fs r = holds_on _ _ _ _ (formal_at_front r) (λ x q f. row_at _ (o.formals_from k) _ q
    (λ q1 h. record { own = x ∷ []; all = refl; here = fronts_close _ _ t.Close r q q1 x (x ∷ []) f h (λ a d. g.last_formal a x d) })
    (λ q1 h. holds_as _ _ _ (formals_from_at k (fs ++ x ∷ []) q1) (λ zs q2 m. record {
      own = x ∷ m.own;
      all = m.all ∙ append_assoc fs (x ∷ []) m.own;
      here = fronts_two _ _ _ t.Comma r q q1 q2 x m.own (x ∷ m.own) f h m.here (λ a b d d'. g.more_formals a b x m.own d d');
    })))

pub formals_at_front : (r : List Terminal) → Holds (Fronts IsFormals r) (o.formals_at r)
unfolding o.formals_at
formals_at_front r = holds_as _ _ _ (formals_from_at (suc (length r)) [] r) (λ zs q m. fronts_as _ _ r q m.own zs m.here
    (λ a d. subst (λ z. IsFormals a z) (sym m.all) d))
