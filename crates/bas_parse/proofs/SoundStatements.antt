-- What the parser answers for plain statements is spelled out at the front of its list.
use Rattle.std.proofs.Common.{◌≡◌, ℕ, zero, suc, Bool, true, false, ◌&&◌, not, List, [], ◌∷◌, ◌++◌, length, Some, None, refl, ap, sym, subst, ◌∙◌, append_assoc}
use Rattle.std.proofs.lemmas.List.{append-nil}
use Rattle.bas_ast.specs.declared.expressions.Any.{Any}
use Rattle.bas_ast.specs.declared.expressions.BinaryOp.TheVariants as op
use Rattle.bas_ast.specs.declared.expressions.Comparison.TheVariants as comparison
use Rattle.bas_ast.specs.declared.expressions.NumExpr.{NumExpr}
use Rattle.bas_ast.specs.declared.expressions.NumberFormat.TheVariants as format
use Rattle.bas_ast.specs.declared.keywords.Keyword.{Keyword}
use Rattle.bas_ast.specs.declared.keywords.Keyword.TheVariants as word
use Rattle.bas_ast.specs.declared.statements.Assignment.TheVariants as assignment
use Rattle.bas_ast.specs.declared.statements.Flow.TheVariants as flow
use Rattle.bas_ast.specs.declared.statements.InputPart.{InputPart}
use Rattle.bas_ast.specs.declared.statements.InputPart.TheVariants as input_part
use Rattle.bas_ast.specs.declared.statements.Output.TheVariants as output
use Rattle.bas_ast.specs.declared.statements.PrintPart.{PrintPart}
use Rattle.bas_ast.specs.declared.statements.PrintPart.TheVariants as print_part
use Rattle.bas_ast.specs.declared.statements.Stmt.{Stmt}
use Rattle.bas_ast.specs.declared.statements.Stmt.TheVariants as stmt
use Rattle.bas_ast.specs.declared.statements.VduPart.{VduPart}
use Rattle.bas_ast.specs.declared.statements.VduPart.TheVariants as vdu_part
use Rattle.bas_ast.specs.declared.targets.NumTarget.{NumTarget}
use Rattle.bas_ast.specs.declared.targets.StrTarget.{StrTarget}
use Rattle.bas_ast.specs.declared.targets.Target.{Target}
use Rattle.bas_ast.specs.declared.targets.Target.TheVariants as target
use Rattle.bas_ast.specs.declared.terminals.Terminal.{Terminal}
use Rattle.bas_ast.specs.declared.terminals.Terminal.TheVariants as t
use Rattle.bas_ast.specs.Expressions as e
use Rattle.bas_ast.specs.Expressions.{IsNum, IsAny}
use Rattle.bas_ast.specs.Operands as o
use Rattle.bas_ast.specs.Operands.{AnIntName, IsNumTarget, IsStrTarget, IsTarget}
use Rattle.bas_ast.specs.Statements as g
use Rattle.bas_ast.specs.Statements.{Form, Takes, Lists, OwnForm, form, equals, joins, IsPrint, IsVdu, IsInput, IsAssignment, IsStmt, input_target}
use Rattle.expr_parse.specs.Longest.{Fronts}
use Rattle.expr_parse.specs.Parse.{Front, on_front, on_some}
use Rattle.expr_parse.proofs.Fronts.{Holds, holds_some, holds_none, holds_as, holds_on, holds_or, on_close, on_comma, fronts_over, fronts_two, fronts_glue, fronts_close, fronts_as, fronts_one}
use Rattle.expr_parse.proofs.Sound.{RowsAfter}
use Rattle.bas_parse.specs.Operands.{int_name_at}
use Rattle.bas_parse.specs.Statements as s
use Rattle.bas_parse.proofs.Expressions.{num_at, text_of_at, any_at, longest_operand_at, whole_arguments_at}
use Rattle.bas_parse.proofs.CompleteParts.{joins_front}
use Rattle.bas_parse.proofs.SoundOperands.{holds_unless, holds_either, on_equals, on_semicolon, on_to, on_step_word, on_error_word, fronts_after, target_at_front, operands_at_front, list_at_front}

-- ---- PRINT

-- A part that is first goes on with those after it.
abbrev PrintPartAt : Bool → List Terminal → PrintPart × Bool → List Terminal → Type 0
PrintPartAt b r z q = (ps : List PrintPart) (q1 : List Terminal) → Fronts (IsPrint z.1) q ps q1 → Fronts (IsPrint b) r (z.0 ∷ ps) q1

-- an expression that is first
expression_first : (b : Bool) (r a q q1 : List Terminal) (x : Any) (ps : List PrintPart) → IsAny a x → r ≡ a ++ q → b && joins r ≡ false
    → Fronts (IsPrint true) q ps q1 → Fronts (IsPrint b) r (s.printed x ∷ ps) q1
expression_first b r a q q1 x ps (e.number _ y d) h j f =
    let same : b && joins a ≡ false = ap (λ w. b && w) (sym (joins_front a y d q)) ∙ (ap (λ w. b && joins w) (sym h) ∙ j) in
    record {
      front = a ++ f.front;
      split = h ∙ (ap (λ w. a ++ w) f.split ∙ sym (append_assoc a f.front q1));
      is = g.print_number b a f.front y ps same d f.is;
    }
expression_first b r a q q1 x ps (e.text _ y d) h j f =
    record {
      front = a ++ f.front;
      split = h ∙ (ap (λ w. a ++ w) f.split ∙ sym (append_assoc a f.front q1));
      is = g.print_text b a f.front y ps d f.is;
    }

print_part_at_front : (b : Bool) (r : List Terminal) → Holds (PrintPartAt b r) (s.print_part_at b r)
unfolding s.print_part_at
print_part_at_front b (t.Comma ∷ r) = holds_some _ (print_part.Comma, false) r (λ ps q1 f. fronts_over _ _ t.Comma r ps q1 _ f (λ a d. g.print_comma b a ps d))
print_part_at_front b (t.Semicolon ∷ r) =
    holds_some _ (print_part.Semicolon, false) r (λ ps q1 f. fronts_over _ _ t.Semicolon r ps q1 _ f (λ a d. g.print_semicolon b a ps d))
print_part_at_front b (t.Apostrophe ∷ r) =
    holds_some _ (print_part.NewLine, false) r (λ ps q1 f. fronts_over _ _ t.Apostrophe r ps q1 _ f (λ a d. g.print_new_line b a ps d))
print_part_at_front b (t.Tilde ∷ r) = holds_on _ _ _ _ (num_at r) (λ x q f. holds_some _ (print_part.Number format.Hexadecimal x, true) q
    (λ ps q1 f1. fronts_over _ _ t.Tilde r (tt {0}) q1 _
    (fronts_glue _ _ (λ a w. IsPrint b (t.Tilde ∷ a) (print_part.Number format.Hexadecimal x ∷ ps)) r q q1 x ps (tt {0}) f f1
    (λ a c d d'. g.print_hexadecimal b a c x ps d d')) (λ a d. d)))
print_part_at_front b (t.Keyword word.Spc ∷ r) = holds_on _ _ _ _ (longest_operand_at r) (λ x q f. holds_some _ (print_part.Spaces x, true) q
    (λ ps q1 f1. fronts_over _ _ (t.Keyword word.Spc) r (tt {0}) q1 _
    (fronts_glue _ _ (λ a w. IsPrint b (t.Keyword word.Spc ∷ a) (print_part.Spaces x ∷ ps)) r q q1 x ps (tt {0}) f f1
    (λ a c d d'. g.print_spaces b a c x ps d d')) (λ a d. d)))
print_part_at_front b (t.Keyword word.Tab ∷ r) = holds_on _ _ _ _ (num_at r) (λ x q f. on_close _ q _ _
    (λ q1 h. holds_some _ (print_part.Tab x, false) q1 (λ ps q2 f2. fronts_over _ _ (t.Keyword word.Tab) r (tt {0}) q2 _
    (fronts_two _ _ (λ a w. IsPrint b (t.Keyword word.Tab ∷ a) (print_part.Tab x ∷ ps)) t.Close r q q1 q2 x ps (tt {0}) f h f2
    (λ a c d d'. g.print_tab b a c x ps d d')) (λ a d. d)))
    (holds_none _))
print_part_at_front b r = holds_unless _ (b && joins r) _ (λ j. holds_on _ _ _ _ (any_at r) (λ x q f. holds_some _ (s.printed x, true) q
    (λ ps q1 f1. expression_first b r f.front q q1 x ps f.is f.split j f1)))

print_from_at : (k : ℕ) (b : Bool) (ps : List PrintPart) (r : List Terminal) → Holds (RowsAfter (IsPrint b) ps r) (s.print_from k b ps r)
unfolding s.print_from
print_from_at zero b ps r = holds_some _ ps r (record { own = []; all = sym (append-nil ps); here = record { front = []; split = refl; is = g.printed b } })
print_from_at (suc k) b ps r = holds_or _ _ _ _ _ (print_part_at_front b r)
    (λ z q m. holds_as _ _ _ (print_from_at k z.1 (ps ++ z.0 ∷ []) q) (λ zs q1 m1. record {
      own = z.0 ∷ m1.own;
      all = m1.all ∙ append_assoc ps (z.0 ∷ []) m1.own;
      here = m m1.own q1 m1.here;
    }))
    (holds_some _ ps r (record { own = []; all = sym (append-nil ps); here = record { front = []; split = refl; is = g.printed b } }))

print_at_front : (r : List Terminal) → Holds (Fronts (IsPrint false) r) (s.print_at r)
unfolding s.print_at
print_at_front r = holds_as _ _ _ (print_from_at (length r) false [] r) (λ zs q m. fronts_as _ _ r q m.own zs m.here
    (λ a d. subst (λ z. IsPrint false a z) (sym m.all) d))

-- ---- VDU

vdu_from_at : (k : ℕ) (ps : List VduPart) (r : List Terminal) → Holds (RowsAfter IsVdu ps r) (s.vdu_from k ps r)
unfolding s.vdu_from
vdu_from_at zero ps r = holds_none _
vdu_from_at (suc k) ps r = holds_on _ _ _ _ (num_at r) (λ x q f. on_comma _ q _ _
    (λ q1 h. holds_as _ _ _ (vdu_from_at k (ps ++ vdu_part.Byte x ∷ []) q1) (λ zs q2 m. record {
      own = vdu_part.Byte x ∷ m.own;
      all = m.all ∙ append_assoc ps (vdu_part.Byte x ∷ []) m.own;
      here = fronts_two _ _ _ t.Comma r q q1 q2 x m.own _ f h m.here (λ a b d d'. g.more_byte a b x m.own d d');
    }))
    (on_semicolon _ q _ _
    (λ q1 h. holds_either _ (s.ended q1) _ _
    (λ i. holds_some _ (ps ++ vdu_part.Word x ∷ []) q1 (record {
      own = vdu_part.Word x ∷ [];
      all = refl;
      here = fronts_close _ _ t.Semicolon r q q1 x _ f h (λ a d. g.last_word a x d);
    }))
    (λ i. holds_as _ _ _ (vdu_from_at k (ps ++ vdu_part.Word x ∷ []) q1) (λ zs q2 m. record {
      own = vdu_part.Word x ∷ m.own;
      all = m.all ∙ append_assoc ps (vdu_part.Word x ∷ []) m.own;
      here = fronts_two _ _ _ t.Semicolon r q q1 q2 x m.own _ f h m.here (λ a b d d'. g.more_word a b x m.own d d');
    })))
    (holds_some _ (ps ++ vdu_part.Byte x ∷ []) q (record {
      own = vdu_part.Byte x ∷ [];
      all = refl;
      here = fronts_as _ _ r q x _ f (λ a d. g.last_byte a x d);
    }))))

vdu_at_front : (r : List Terminal) → Holds (Fronts IsVdu r) (s.vdu_at r)
unfolding s.vdu_at
vdu_at_front r = holds_as _ _ _ (vdu_from_at (suc (length r)) [] r) (λ zs q m. fronts_as _ _ r q m.own zs m.here
    (λ a d. subst (λ z. IsVdu a z) (sym m.all) d))

-- ---- INPUT

-- A part that is first may be the last, and goes on with those after it: after a separator, and a prompt directly too.
record InputPartAt (b : Bool) (r : List Terminal) (z : InputPart × Bool) (q : List Terminal) : Type 0 where
  last : Fronts (IsInput b) r (z.0 ∷ []) q
  apart : (c : Terminal) (q1 : List Terminal) (ps : List InputPart) (q2 : List Terminal) → g.IsSeparator c → q ≡ c ∷ q1 → Fronts (IsInput false) q1 ps q2
      → Fronts (IsInput b) r (z.0 ∷ ps) q2
  direct : (ps : List InputPart) (q2 : List Terminal) → z.1 ≡ true → Fronts (IsInput true) q ps q2 → Fronts (IsInput b) r (z.0 ∷ ps) q2

input_part_at_front : (b : Bool) (r : List Terminal) → Holds (InputPartAt b r) (s.input_part_at b r)
unfolding s.input_part_at
input_part_at_front b (t.Literal n ∷ r) = holds_some _ (input_part.Prompt n, true) r (record {
  last = fronts_one _ (t.Literal n) r _ (g.last_prompt b n);
  apart = λ c q1 ps q2 i h f. fronts_over (λ a w. IsInput b (t.Literal n ∷ a) (input_part.Prompt n ∷ ps)) _ (t.Literal n) r (tt {0}) q2 _
      (fronts_after _ _ c r q1 ps q2 (tt {0}) h f (λ a d. g.prompt_apart b n c a ps i d)) (λ a d. d);
  direct = λ ps q2 h f. fronts_over _ _ (t.Literal n) r ps q2 _ f (λ a d. g.prompt_direct b n a ps d);
})
input_part_at_front b r = holds_on _ _ _ _ (target_at_front r) (λ v q f. holds_some _ (input_target b v, false) q (record {
  last = fronts_as _ _ r q v _ f (λ a d. g.last_target b a v d);
  apart = λ c q1 ps q2 i h f2. fronts_two _ _ _ c r q q1 q2 v ps _ f h f2 (λ a a' d d'. g.target_apart b a v c a' ps d i d');
  direct = λ ps q2 h f2. absurd (cc);
}))

on_separator : {B : Type 0} (Q : B → List Terminal → Type 0) (r : List Terminal) (go : List Terminal → Front B) (other : Front B)
    → ((c : Terminal) (q : List Terminal) → g.IsSeparator c → r ≡ c ∷ q → Holds Q (go q)) → Holds Q other → Holds Q (on_some (s.after_separator r) go other)
unfolding on_some
on_separator Q [] go other f h = h
on_separator Q (t.Comma ∷ q) go other f h = f t.Comma q g.by_comma refl
on_separator Q (t.Semicolon ∷ q) go other f h = f t.Semicolon q g.by_semicolon refl
on_separator Q (_ ∷ q) go other f h = h

first_of_both : (a b : Bool) → a && b ≡ true → a ≡ true
first_of_both true b h = refl
first_of_both false b h = absurd (cc)

input_from_at : (k : ℕ) (b : Bool) (ps : List InputPart) (r : List Terminal) → Holds (RowsAfter (IsInput b) ps r) (s.input_from k b ps r)
unfolding s.input_from
input_from_at zero b ps r = holds_none _
input_from_at (suc k) b ps r = holds_on _ _ _ _ (input_part_at_front b r) (λ z q f. on_separator _ q _ _
    (λ c q1 i h. holds_as _ _ _ (input_from_at k false (ps ++ z.0 ∷ []) q1) (λ zs q2 m. record {
      own = z.0 ∷ m.own;
      all = m.all ∙ append_assoc ps (z.0 ∷ []) m.own;
      here = f.apart c q1 m.own q2 i h m.here;
    }))
    (holds_either _ (z.1 && not (s.ended q)) _ _
    (λ h. holds_as _ _ _ (input_from_at k true (ps ++ z.0 ∷ []) q) (λ zs q2 m. record {
      own = z.0 ∷ m.own;
      all = m.all ∙ append_assoc ps (z.0 ∷ []) m.own;
      here = f.direct m.own q2 (first_of_both z.1 (not (s.ended q)) h) m.here;
    }))
    (λ h. holds_some _ (ps ++ z.0 ∷ []) q (record { own = z.0 ∷ []; all = refl; here = f.last }))))

input_at_front : (r : List Terminal) → Holds (Fronts (IsInput false) r) (s.input_at r)
unfolding s.input_at
input_at_front r = holds_as _ _ _ (input_from_at (suc (length r)) false [] r) (λ zs q m. fronts_as _ _ r q m.own zs m.here
    (λ a d. subst (λ z. IsInput false a z) (sym m.all) d))

-- ---- assignments

number_of_target : (a : List Terminal) (v : NumTarget) → IsTarget a (target.Number v) → IsNumTarget a v
number_of_target a v (o.number_target _ _ d) = d

text_of_target : (a : List Terminal) (v : StrTarget) → IsTarget a (target.Text v) → IsStrTarget a v
text_of_target a v (o.text_target _ _ d) = d

stored_at : (r q q1 : List Terminal) (v : Target) → Fronts IsTarget r v q → q ≡ equals ∷ q1 → Holds (Fronts IsAssignment r) (s.stored v q1)
stored_at r q q1 (target.Number v) f h = holds_on _ _ _ _ (num_at q1) (λ x q2 f2. holds_some _ (assignment.Number v x) q2
    (fronts_two _ _ _ equals r q q1 q2 _ x _ f h f2 (λ a b d d'. g.assign_number a b v x (number_of_target a v d) d')))
stored_at r q q1 (target.Text v) f h = holds_on _ _ _ _ (text_of_at q1) (λ x q2 f2. holds_some _ (assignment.Text v x) q2
    (fronts_two _ _ _ equals r q q1 q2 _ x _ f h f2 (λ a b d d'. g.assign_text a b v x (text_of_target a v d) d')))

added_at : (r q q1 : List Terminal) (v : Target) → Fronts IsTarget r v q → q ≡ t.PlusEquals ∷ q1
    → Holds (λ x q2. Fronts IsStmt r (stmt.Assign x) q2) (s.added v q1)
added_at r q q1 (target.Number v) f h = holds_on _ _ _ _ (num_at q1) (λ x q2 f2. holds_some _ (assignment.Add v x) q2
    (fronts_two _ _ _ t.PlusEquals r q q1 q2 _ x _ f h f2 (λ a b d d'. g.add a b v x (number_of_target a v d) d')))
added_at r q q1 (target.Text v) f h = holds_on _ _ _ _ (text_of_at q1) (λ x q2 f2. holds_some _ (assignment.Append v x) q2
    (fronts_two _ _ _ t.PlusEquals r q q1 q2 _ x _ f h f2 (λ a b d d'. g.append a b v x (text_of_target a v d) d')))

subtracted_at : (r q q1 : List Terminal) (v : Target) → Fronts IsTarget r v q → q ≡ t.MinusEquals ∷ q1
    → Holds (λ x q2. Fronts IsStmt r (stmt.Assign x) q2) (s.subtracted v q1)
subtracted_at r q q1 (target.Number v) f h = holds_on _ _ _ _ (num_at q1) (λ x q2 f2. holds_some _ (assignment.Subtract v x) q2
    (fronts_two _ _ _ t.MinusEquals r q q1 q2 _ x _ f h f2 (λ a b d d'. g.subtract a b v x (number_of_target a v d) d')))
subtracted_at r q q1 (target.Text v) f h = holds_none _

signed_at : (r q : List Terminal) (v : Target) → Fronts IsTarget r v q → Holds (λ x q2. Fronts IsStmt r (stmt.Assign x) q2) (s.signed v q)
unfolding s.signed
signed_at r (t.Operator (op.Compare comparison.Equal) ∷ q1) v f = holds_as _ _ _ (stored_at r (equals ∷ q1) q1 v f refl)
    (λ x q2 f2. fronts_as _ _ r q2 x _ f2 (λ a d. g.assign a x d))
signed_at r (t.PlusEquals ∷ q1) v f = added_at r (t.PlusEquals ∷ q1) q1 v f refl
signed_at r (t.MinusEquals ∷ q1) v f = subtracted_at r (t.MinusEquals ∷ q1) q1 v f refl
signed_at r _ v f = holds_none _

assign_at_front : (r : List Terminal) → Holds (Fronts IsStmt r) (on_front (s.assignment_at r) (λ x q. Some (stmt.Assign x, q)))
unfolding s.assignment_at
assign_at_front r = holds_on _ _ _ _ (holds_on _ (λ x q2. Fronts IsStmt r (stmt.Assign x) q2) _ _ (target_at_front r) (λ v q f. signed_at r q v f))
    (λ x q f. holds_some _ (stmt.Assign x) q f)

let_at_front : (r : List Terminal) → Holds (Fronts IsAssignment r) (s.let_at r)
unfolding s.let_at
let_at_front r = holds_on _ _ _ _ (target_at_front r) (λ v q f. on_equals _ q _ _ (λ q1 h. stored_at r q q1 v f h) (holds_none _))

swapped_at : (r q q1 q2 : List Terminal) (v w : Target) → Fronts IsTarget r v q → q ≡ t.Comma ∷ q1 → Fronts IsTarget q1 w q2
    → Holds (λ x q3. Fronts IsStmt (t.Keyword word.Swap ∷ r) (stmt.Assign x) q3) (s.swapped v w q2)
unfolding on_some
swapped_at r q q1 q2 (target.Number v) (target.Number w) f h f2 = holds_some _ (assignment.SwapNumbers v w) q2
    (fronts_over (λ a z. IsStmt (t.Keyword word.Swap ∷ a) (stmt.Assign (assignment.SwapNumbers v w))) _ (t.Keyword word.Swap) r (tt {0}) q2 _
    (fronts_two _ _ _ t.Comma r q q1 q2 _ _ (tt {0}) f h f2 (λ a b d d'. g.swap_numbers a b v w (number_of_target a v d) (number_of_target b w d')))
    (λ a d. d))
swapped_at r q q1 q2 (target.Number v) (target.Text w) f h f2 = holds_none _
swapped_at r q q1 q2 (target.Text v) (target.Number w) f h f2 = holds_none _
swapped_at r q q1 q2 (target.Text v) (target.Text w) f h f2 = holds_some _ (assignment.SwapTexts v w) q2
    (fronts_over (λ a z. IsStmt (t.Keyword word.Swap ∷ a) (stmt.Assign (assignment.SwapTexts v w))) _ (t.Keyword word.Swap) r (tt {0}) q2 _
    (fronts_two _ _ _ t.Comma r q q1 q2 _ _ (tt {0}) f h f2 (λ a b d d'. g.swap_texts a b v w (text_of_target a v d) (text_of_target b w d')))
    (λ a d. d))

swap_at_front : (r : List Terminal) → Holds (λ x q. Fronts IsStmt (t.Keyword word.Swap ∷ r) (stmt.Assign x) q) (s.swap_at r)
unfolding s.swap_at
swap_at_front r = holds_on _ _ _ _ (target_at_front r) (λ v q f. on_comma _ q _ _
    (λ q1 h. holds_on _ _ _ _ (target_at_front q1) (λ w q2 f2. swapped_at r q q1 q2 v w f h f2)) (holds_none _))

-- ---- FOR

-- the start and the limit of FOR, as they stand before what is left
record Bounds (n : ℕ) (x y : NumExpr) (r q : List Terminal) : Type 0 where
  start : List Terminal
  limit : List Terminal
  split : r ≡ t.IntName n ∷ equals ∷ (start ++ t.Keyword word.To ∷ (limit ++ q))
  is_start : IsNum 1 start x
  is_limit : IsNum 1 limit y

without_step : (n : ℕ) (x y : NumExpr) (r q : List Terminal) → Bounds n x y r q
    → Fronts IsStmt (t.Keyword word.For ∷ r) (stmt.Flow (flow.For n x y None)) q
without_step n x y r q b = record {
  front = t.Keyword word.For ∷ t.IntName n ∷ equals ∷ (b.start ++ t.Keyword word.To ∷ b.limit);
  split = ap (λ z. t.Keyword word.For ∷ z) (b.split
      ∙ ap (λ z. t.IntName n ∷ equals ∷ z) (sym (append_assoc b.start (t.Keyword word.To ∷ b.limit) q)));
  is = g.for n b.start b.limit x y b.is_start b.is_limit;
}

with_step : (n : ℕ) (x y z : NumExpr) (r q q1 q2 : List Terminal) → Bounds n x y r q → q ≡ t.Keyword word.Step ∷ q1 → Fronts (IsNum 1) q1 z q2
    → Fronts IsStmt (t.Keyword word.For ∷ r) (stmt.Flow (flow.For n x y (Some z))) q2
with_step n x y z r q q1 q2 b h f = record {
  front = t.Keyword word.For ∷ t.IntName n ∷ equals ∷ (b.start ++ t.Keyword word.To ∷ (b.limit ++ t.Keyword word.Step ∷ f.front));
  split = ap (λ z. t.Keyword word.For ∷ z) (b.split ∙ ap (λ z. t.IntName n ∷ equals ∷ z)
      (ap (λ w. b.start ++ t.Keyword word.To ∷ (b.limit ++ w)) (h ∙ ap (λ w. t.Keyword word.Step ∷ w) f.split)
      ∙ (ap (λ w. b.start ++ t.Keyword word.To ∷ w) (sym (append_assoc b.limit (t.Keyword word.Step ∷ f.front) q2))
      ∙ sym (append_assoc b.start (t.Keyword word.To ∷ (b.limit ++ t.Keyword word.Step ∷ f.front)) q2))));
  is = g.for_step n b.start b.limit f.front x y z b.is_start b.is_limit f.is;
}

int_name_first : (r : List Terminal) → Holds (λ n q. r ≡ t.IntName n ∷ q) (int_name_at r)
unfolding int_name_at
int_name_first (t.IntName n ∷ r) = holds_some _ n r refl
int_name_first _ = holds_none _

for_at_front : (r : List Terminal) → Holds (Fronts IsStmt (t.Keyword word.For ∷ r)) (s.for_at r)
unfolding s.for_at
for_at_front r = holds_on _ _ _ _ (int_name_first r) (λ n q h. on_equals _ q _ _
    (λ q1 h1. holds_on _ _ _ _ (num_at q1) (λ x q2 f. on_to _ q2 _ _
    (λ q3 h3. holds_on _ _ _ _ (num_at q3) (λ y q4 f4.
    let b : Bounds n x y r q4 = record {
      start = f.front;
      limit = f4.front;
      split = h ∙ ap (λ z. t.IntName n ∷ z) (h1 ∙ ap (λ z. equals ∷ z) (f.split ∙ ap (λ z. f.front ++ z) (h3 ∙ ap (λ z. t.Keyword word.To ∷ z) f4.split)));
      is_start = f.is;
      is_limit = f4.is;
    } in
    on_step_word _ q4 _ _
    (λ q5 h5. holds_on _ _ _ _ (num_at q5) (λ z q6 f6. holds_some _ (stmt.Flow (flow.For n x y (Some z))) q6 (with_step n x y z r q4 q5 q6 b h5 f6)))
    (holds_some _ (stmt.Flow (flow.For n x y None)) q4 (without_step n x y r q4 b))))
    (holds_none _)))
    (holds_none _))

-- ---- words

restore_at_front : (r : List Terminal) → Holds (Fronts IsStmt (t.Keyword word.Restore ∷ r)) (s.restore_at r)
unfolding s.restore_at
restore_at_front (t.Keyword word.Error ∷ r) =
    holds_some _ _ r (record { front = t.Keyword word.Restore ∷ t.Keyword word.Error ∷ []; split = refl; is = g.restore_error })
restore_at_front (t.LineRef n ∷ r) = holds_some _ _ r (record { front = t.Keyword word.Restore ∷ t.LineRef n ∷ []; split = refl; is = g.restore_line n })
restore_at_front r = holds_some _ _ r (record { front = t.Keyword word.Restore ∷ []; split = refl; is = g.restore })

input_stmt_at_front : (r : List Terminal) → Holds (Fronts IsStmt (t.Keyword word.Input ∷ r)) (s.input_stmt_at r)
unfolding s.input_stmt_at
input_stmt_at_front (t.Keyword word.Line ∷ r) = holds_on _ _ _ _ (input_at_front r) (λ ps q f. holds_some _ _ q
    (fronts_over (λ a z. IsStmt (t.Keyword word.Input ∷ a) (stmt.Input true ps)) _ (t.Keyword word.Input) (t.Keyword word.Line ∷ r) (tt {0}) q _
    (fronts_over _ _ (t.Keyword word.Line) r ps q (tt {0}) f (λ a d. g.input_line a ps d)) (λ a d. d)))
input_stmt_at_front r = holds_on _ _ _ _ (input_at_front r) (λ ps q f. holds_some _ _ q
    (fronts_over _ _ (t.Keyword word.Input) r ps q _ f (λ a d. g.input a ps d)))

error_off_at_front : (r : List Terminal) → Holds (Fronts IsStmt (t.Keyword word.On ∷ r)) (s.error_off_at r)
unfolding s.error_off_at
error_off_at_front (t.Keyword word.Error ∷ t.Keyword word.Off ∷ r) =
    holds_some _ _ r (record { front = t.Keyword word.On ∷ t.Keyword word.Error ∷ t.Keyword word.Off ∷ []; split = refl; is = g.on_error_off })
error_off_at_front _ = holds_none _

own_at_front : (c : Keyword) (r : List Terminal) → Holds (Fronts IsStmt (t.Keyword c ∷ r)) (s.own_form c r)
own_at_front word.Let r = holds_on _ _ _ _ (let_at_front r) (λ x q f. holds_some _ (stmt.Assign x) q
    (fronts_over _ _ (t.Keyword word.Let) r x q _ f (λ a d. g.let_assign a x d)))
own_at_front word.Swap r = holds_on _ _ _ _ (swap_at_front r) (λ x q f. holds_some _ (stmt.Assign x) q f)
own_at_front word.For r = for_at_front r
own_at_front word.Next r = holds_or _ _ _ _ _ (list_at_front AnIntName r)
    (λ ns q f. holds_some _ (stmt.Flow (flow.Next ns)) q (fronts_over _ _ (t.Keyword word.Next) r ns q _ f (λ a d. g.next_of a ns d)))
    (holds_some _ (stmt.Flow (flow.Next [])) r (record { front = t.Keyword word.Next ∷ []; split = refl; is = g.next }))
own_at_front word.Restore r = restore_at_front r
own_at_front word.On r = error_off_at_front r
own_at_front word.Print r = holds_on _ _ _ _ (print_at_front r) (λ ps q f. holds_some _ (stmt.Output (output.Print ps)) q
    (fronts_over _ _ (t.Keyword word.Print) r ps q _ f (λ a d. g.print a ps d)))
own_at_front word.Vdu r = holds_on _ _ _ _ (vdu_at_front r) (λ ps q f. holds_some _ (stmt.Output (output.Vdu ps)) q
    (fronts_over _ _ (t.Keyword word.Vdu) r ps q _ f (λ a d. g.vdu a ps d)))
own_at_front word.Input r = input_stmt_at_front r
own_at_front _ r = holds_none _

by_form_at_front : (w : Form) (c : Keyword) (r : List Terminal) → form c ≡ w → Holds (Fronts IsStmt (t.Keyword c ∷ r)) (s.by_form w c r)
by_form_at_front (Takes ss f) c r h = operands_at_front Stmt _ ss (λ vs q. Some (f vs, q)) r (λ vs q d. holds_some _ (f vs) q
    (fronts_over _ _ (t.Keyword c) r vs q (f vs) d (λ a i. g.takes c ss f a vs h i)))
by_form_at_front (Lists k f) c r h = holds_on _ _ _ _ (list_at_front k r) (λ vs q d. holds_some _ (f vs) q
    (fronts_over _ _ (t.Keyword c) r vs q (f vs) d (λ a i. g.lists c k f a vs h i)))
by_form_at_front OwnForm c r h = own_at_front c r

word_at_front : (c : Keyword) (r : List Terminal) → Holds (Fronts IsStmt (t.Keyword c ∷ r)) (s.word_at c r)
unfolding s.word_at
word_at_front word.Local r = on_error_word _ r _ _
    (λ q h. holds_some _ _ q (record { front = t.Keyword word.Local ∷ t.Keyword word.Error ∷ []; split = ap (λ z. t.Keyword word.Local ∷ z) h; is = g.local_error }))
    (by_form_at_front (form word.Local) word.Local r refl)
word_at_front c r = by_form_at_front (form c) c r refl

pub stmt_at_front : (r : List Terminal) → Holds (Fronts IsStmt r) (s.stmt_at r)
unfolding s.stmt_at
stmt_at_front (t.Keyword c ∷ r) = word_at_front c r
stmt_at_front (t.Procedure n ∷ r) = holds_some _ _ r (fronts_one _ (t.Procedure n) r _ (g.procedure n))
stmt_at_front (t.ProcedureOpen n ∷ r) = holds_on _ _ _ _ (whole_arguments_at r) (λ xs q f. holds_some _ _ q
    (fronts_over _ _ (t.ProcedureOpen n) r xs q _ f (λ a d. g.procedure_open n a xs d)))
stmt_at_front (t.Operator (op.Compare comparison.Equal) ∷ r) = holds_on _ _ _ _ (any_at r) (λ x q f. holds_some _ _ q
    (fronts_over _ _ equals r x q _ f (λ a d. g.result a x d)))
stmt_at_front r = assign_at_front r
