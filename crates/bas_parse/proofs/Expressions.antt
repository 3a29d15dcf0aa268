-- What the parser of expressions does for the operands of statements: it reads an expression of the grammar where nothing that
-- stands after it goes on with it, and what it answers is one.
use Rattle.std.proofs.Common.{◌≡◌, ℕ, suc, ◌<◌, Bool, true, false, List, [], ◌∷◌, ◌++◌, length, Some, None, refl, ap, ◌∙◌, append_assoc, length-append, lit≤, lit<, arith}
use Rattle.bas_ast.specs.declared.expressions.Any.{Any}
use Rattle.bas_ast.specs.declared.expressions.BinaryOp.TheVariants as op
use Rattle.bas_ast.specs.declared.expressions.NumExpr.{NumExpr}
use Rattle.bas_ast.specs.declared.expressions.StrExpr.{StrExpr}
use Rattle.bas_ast.specs.declared.expressions.Width.{Width}
use Rattle.bas_ast.specs.declared.terminals.Terminal.{Terminal}
use Rattle.bas_ast.specs.declared.terminals.Terminal.TheVariants as t
use Rattle.bas_ast.specs.Words.{Role, BeforeNumber, role}
use Rattle.bas_ast.specs.Expressions as g
use Rattle.bas_ast.specs.Statements.{joins}
use Rattle.bas_ast.specs.Expressions.{IsNum, IsStr, IsStrVar, IsSubscripts, IsArguments, IsAny}
use Rattle.expr_parse.specs.Longest.{Fronts}
use Rattle.expr_parse.specs.Operands as o
use Rattle.expr_parse.specs.Parse as p
use Rattle.expr_parse.specs.Parse.{Front, Parser, on_front, or_front, on_some}
use Rattle.expr_parse.proofs.Fronts.{Holds}
use Rattle.expr_parse.proofs.Sound.{expression_at, number_at, text_at, either_at, OffsetAt, offset_at, subscripts_at, arguments_at}
use Rattle.expr_parse.proofs.GoingOn.{op_level, pointed, op_level_small}
use Rattle.expr_parse.proofs.Complete.{num_read, text_read, complete_num, complete_text, complete_any, complete_subscripts, complete_arguments, number_is, text_is}
use Rattle.expr_parse.proofs.Equations.{subscripts_are, arguments_are}

-- Whether no expression goes on with what stands first in a list: it isn't an operator, `?` or `!`.
abbrev pub stops : List Terminal → Bool
stops (t.Operator op ∷ r) = false
stops (t.Indirection w ∷ r) = false
stops _ = true

pub stops_level : (r : List Terminal) → stops r ≡ true → op_level r ≡ 0
stops_level [] h = refl
stops_level (t.Operator op ∷ r) h = absurd (cc)
stops_level (t.Indirection w ∷ r) h = refl
stops_level (_ ∷ r) h = refl

pub stops_pointed : (r : List Terminal) → stops r ≡ true → pointed r ≡ false
stops_pointed [] h = refl
stops_pointed (t.Operator op ∷ r) h = refl
stops_pointed (t.Indirection w ∷ r) h = absurd (cc)
stops_pointed (_ ∷ r) h = refl

-- ---- an expression of the grammar is read

fits : (a r : List Terminal) → length a < suc (length (a ++ r))
fits a r = let e = length-append a r in omega arith

pub num_is : (a r : List Terminal) (x : NumExpr) → IsNum 1 a x → stops r ≡ true → p.longest_num (a ++ r) ≡ Some (x, r)
unfolding p.longest_num
num_is a r x d h =
    let n = suc (length (a ++ r)) in
    let low = stops_level r h in
    number_is n 1 1 a r x (num_read n 1 1 a r x (complete_num 1 a x d n 1 r (fits a r) (lit≤ tt))) (stops_pointed r h) (omega arith) (omega arith)

pub text_of_is : (a r : List Terminal) (y : StrExpr) → IsStr 4 a y → stops r ≡ true → p.longest_text (a ++ r) ≡ Some (y, r)
unfolding p.longest_text
text_of_is a r y d h =
    let n = suc (length (a ++ r)) in
    let low = stops_level r h in
    text_is n 4 4 a r y (text_read n 4 4 a r y (lit≤ tt) (complete_text 4 a y d n 4 r (fits a r) (lit≤ tt))) (stops_pointed r h) (omega arith) (omega arith)

pub any_is : (a r : List Terminal) (x : Any) → IsAny a x → stops r ≡ true → o.longest_any (a ++ r) ≡ Some (x, r)
unfolding o.longest_any
any_is a r x d h = complete_any a x d (suc (length (a ++ r))) r (fits a r) (stops_pointed r h) (stops_level r h)

pub operand_is : (a r : List Terminal) (x : NumExpr) → IsNum 6 a x → pointed r ≡ false → o.longest_operand (a ++ r) ≡ Some (x, r)
unfolding o.longest_operand
operand_is a r x d h =
    let n = suc (length (a ++ r)) in
    let low = op_level_small r in
    number_is n 6 6 a r x (num_read n 6 6 a r x (complete_num 6 a x d n 6 r (fits a r) (lit≤ tt))) h (omega arith) (omega arith)

pub offset_is : (w : Width) (b r : List Terminal) (x : NumExpr) → IsNum 7 b x → pointed r ≡ false
    → o.longest_offset (t.Indirection w ∷ (b ++ r)) ≡ Some ((w, x), r)
unfolding o.longest_offset p.offset on_front
offset_is w b r x d h =
    let n = suc (length (t.Indirection w ∷ (b ++ r))) in
    let low = op_level_small r in
    let e = length-append b r in
    ap (λ m. on_front m (λ x q'. Some ((w, x), q')))
    (number_is n 7 7 b r x (num_read n 7 7 b r x (complete_num 7 b x d n 7 r (omega arith) (lit≤ tt))) h (omega arith) (omega arith))

-- no indirection
pub offset_none : (r : List Terminal) → pointed r ≡ false → o.longest_offset r ≡ None
unfolding o.longest_offset p.offset on_front
offset_none [] h = refl
offset_none (t.Indirection w ∷ r) h = absurd (cc)
offset_none (_ ∷ r) h = refl

pub whole_subscripts_are : (a r : List Terminal) (xs : List NumExpr) → IsSubscripts a xs → o.whole_subscripts (a ++ r) ≡ Some (xs, r)
unfolding o.whole_subscripts
whole_subscripts_are a r xs d =
    let n = suc (length (a ++ r)) in
    let e = fits a r in
    subscripts_are (p.expression n) xs (a ++ r) r (complete_subscripts a xs d n (length (a ++ r)) [] r (omega arith) (omega arith))

pub whole_arguments_are : (a r : List Terminal) (xs : List Any) → IsArguments a xs → o.whole_arguments (a ++ r) ≡ Some (xs, r)
unfolding o.whole_arguments
whole_arguments_are a r xs d =
    let n = suc (length (a ++ r)) in
    let e = fits a r in
    arguments_are (p.expression n) xs (a ++ r) r (complete_arguments a xs d n (length (a ++ r)) [] r (omega arith) (omega arith))

-- ---- what is read is an expression of the grammar

pub num_at : (r : List Terminal) → Holds (Fronts (IsNum 1) r) (p.longest_num r)
unfolding p.longest_num
num_at r = number_at (p.expression (suc (length r))) (expression_at (suc (length r))) 1 r (lit≤ tt)

pub text_of_at : (r : List Terminal) → Holds (Fronts (IsStr 4) r) (p.longest_text r)
unfolding p.longest_text
text_of_at r = text_at (p.expression (suc (length r))) (expression_at (suc (length r))) 4 r (lit≤ tt)

pub any_at : (r : List Terminal) → Holds (Fronts IsAny r) (o.longest_any r)
unfolding o.longest_any
any_at r = either_at (p.expression (suc (length r))) (expression_at (suc (length r))) r

pub longest_operand_at : (r : List Terminal) → Holds (Fronts (IsNum 6) r) (o.longest_operand r)
unfolding o.longest_operand
longest_operand_at r = number_at (p.expression (suc (length r))) (expression_at (suc (length r))) 6 r (lit≤ tt)

pub offset_holds : (r : List Terminal) → Holds (OffsetAt 6 r) (o.longest_offset r)
unfolding o.longest_offset
offset_holds r = offset_at (p.expression (suc (length r))) (expression_at (suc (length r))) 6 r

pub whole_subscripts_at : (r : List Terminal) → Holds (Fronts IsSubscripts r) (o.whole_subscripts r)
unfolding o.whole_subscripts
whole_subscripts_at r = subscripts_at (p.expression (suc (length r))) (expression_at (suc (length r))) r

pub whole_arguments_at : (r : List Terminal) → Holds (Fronts IsArguments r) (o.whole_arguments r)
unfolding o.whole_arguments
whole_arguments_at r = arguments_at (p.expression (suc (length r))) (expression_at (suc (length r))) r

-- ---- what can't begin an expression

-- whether a role is that of a word or a sign before a number
abbrev is_before : Role → Bool
is_before (BeforeNumber f) = true
is_before _ = false

role_joins : (c : Terminal) (r : List Terminal) → is_before (role c) ≡ false → joins (c ∷ r) ≡ false
role_joins (t.Operator op.Add) r h = absurd (cc)
role_joins (t.Operator op.Subtract) r h = absurd (cc)
role_joins (t.Operator _) r h = refl
role_joins (t.Indirection w) r h = absurd (cc)
role_joins _ r h = refl

-- a string begins with no sign that could go on with an expression before it
pub text_joins : (l : ℕ) (a : List Terminal) (y : StrExpr) → IsStr l a y → (r : List Terminal) → joins (a ++ r) ≡ false
text_joins l a y (g.text_alone _ c _ e) r = role_joins c r (ap is_before e)
text_joins l a y (g.text_variable _ _ v (g.text_simple n)) r = refl
text_joins l a y (g.text_variable _ _ v (g.text_element n b xs d)) r = refl
text_joins l a y (g.text_bracket _ b z d) r = refl
text_joins l a y (g.text_before _ c f b x e d) r = role_joins c (b ++ r) (ap is_before e)
text_joins l a y (g.written _ b x d) r = refl
text_joins l a y (g.written_hexadecimal _ b x d) r = refl
text_joins l a y (g.part _ c side b e z m k d d') r = role_joins c ((b ++ e) ++ r) (ap is_before k)
text_joins l a y (g.middle _ b b' e z x m d d' k) r = refl
text_joins l a y (g.copies _ b b' x z d d') r = refl
text_joins l a y (g.text_function _ n b xs d) r = refl
text_joins l a y (g.join _ b b' z z' k d e) r =
    ap joins (append_assoc b (t.Operator op.Add ∷ b') r) ∙ text_joins 4 b z d (t.Operator op.Add ∷ (b' ++ r))

-- an expression that begins with no such sign begins with nothing that goes on with one before
pub any_stops : (z : List Terminal) (x : Any) (q : List Terminal) → o.longest_any z ≡ Some (x, q) → joins z ≡ false → stops z ≡ true
unfolding o.longest_any p.either p.expression p.whole p.operand p.opened p.prefixed p.formed on_front on_some
any_stops (t.Operator op.Add ∷ r) x q h j = absurd (cc)
any_stops (t.Operator op.Subtract ∷ r) x q h j = absurd (cc)
any_stops (t.Operator _ ∷ r) x q h j = absurd (cc)
any_stops (t.Indirection w ∷ r) x q h j = absurd (cc)
any_stops _ x q h j = refl

-- no expression is empty
pub num_some : (l : ℕ) (x : NumExpr) → IsNum l [] x → ⊥
unfolding p.expression p.whole p.operand on_front
num_some l x d = let h = num_read 1 l l [] [] x (complete_num l [] x d 1 l [] (lit< tt) (omega arith)) in let e = h.is in cc

pub text_some : (y : StrExpr) → IsStr 4 [] y → ⊥
unfolding p.expression p.whole p.operand on_front
text_some y d = let h = text_read 1 4 4 [] [] y (lit≤ tt) (complete_text 4 [] y d 1 4 [] (lit< tt) (omega arith)) in let e = h.is in cc
