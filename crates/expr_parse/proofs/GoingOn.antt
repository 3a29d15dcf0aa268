-- What goes on with an operand: operators of numbers, and strings that are joined or compared.
use Rattle.std.proofs.Common.{◌≡◌, ℕ, zero, suc, ◌<◌, ◌≤◌, Bool, true, false, List, [], ◌∷◌, length, Some, None, refl, ap, length-append, lit≤, arith}
use Rattle.bas_ast.specs.declared.expressions.BinaryOp.{BinaryOp}
use Rattle.bas_ast.specs.declared.expressions.BinaryOp.TheVariants as op
use Rattle.bas_ast.specs.declared.expressions.Comparison.{Comparison}
use Rattle.bas_ast.specs.declared.expressions.NumExpr.{NumExpr}
use Rattle.bas_ast.specs.declared.expressions.NumExpr.TheVariants as num
use Rattle.bas_ast.specs.declared.expressions.StrExpr.{StrExpr}
use Rattle.bas_ast.specs.declared.expressions.StrExpr.TheVariants as str
use Rattle.bas_ast.specs.declared.terminals.Terminal.{Terminal}
use Rattle.bas_ast.specs.declared.terminals.Terminal.TheVariants as t
use Rattle.bas_ast.specs.Words.{level, left_level}
use Rattle.expr_parse.specs.declared.found.Found.{Found}
use Rattle.expr_parse.specs.declared.found.Found.TheVariants as found
use Rattle.expr_parse.specs.Longest.{Fronts}
use Rattle.expr_parse.specs.Parse as p
use Rattle.expr_parse.specs.Parse.{Front, Parser, on_front, or_front, on_some, closed, row_on}
use Rattle.expr_parse.proofs.Fronts.{Holds, of_some}
use Rattle.expr_parse.proofs.Sound.{Finds, level_small, RightAt, right_at, JoinedAt, joined_at, ComparedAt, compared_with_at}

-- the level of the operator at the front, or 0
abbrev pub op_level : List Terminal → ℕ
op_level (t.Operator op ∷ r) = level op
op_level _ = 0

-- whether `?` or `!` stands at the front
abbrev pub pointed : List Terminal → Bool
pointed (t.Indirection w ∷ r) = true
pointed _ = false

pub op_level_small : (r : List Terminal) → op_level r ≤ 5
op_level_small [] = lit≤ tt
op_level_small (t.Operator op ∷ r) = level_small op
op_level_small (_ ∷ r) = lit≤ tt

pub left_level_small : (op : BinaryOp) → (level op ≤ left_level op) × (left_level op ≤ 6)
left_level_small op.Or = (lit≤ tt, lit≤ tt)
left_level_small op.Eor = (lit≤ tt, lit≤ tt)
left_level_small op.And = (lit≤ tt, lit≤ tt)
left_level_small (op.Compare c) = (lit≤ tt, lit≤ tt)
left_level_small op.ShiftLeft = (lit≤ tt, lit≤ tt)
left_level_small op.ShiftRightSigned = (lit≤ tt, lit≤ tt)
left_level_small op.ShiftRight = (lit≤ tt, lit≤ tt)
left_level_small op.Add = (lit≤ tt, lit≤ tt)
left_level_small op.Subtract = (lit≤ tt, lit≤ tt)
left_level_small op.Multiply = (lit≤ tt, lit≤ tt)
left_level_small op.Divide = (lit≤ tt, lit≤ tt)
left_level_small op.Remainder = (lit≤ tt, lit≤ tt)

-- what is left is no longer
pub shorter_front : {A : Type 0} (Is : List Terminal → A → Type 0) (r : List Terminal) (x : A) (q : List Terminal) → Fronts Is r x q → length q ≤ length r
shorter_front Is r x q f = let e = ap length f.split in let h = length-append f.front q in omega arith

-- ---- what goes on with an operand

-- A number was answered, which is the one that was there unless an operator of the level follows it.
pub record NumAnswered (m : Front Found) (l : ℕ) (x : NumExpr) (r : List Terminal) : Type 0 where
  pub left : ℕ
  pub tree : NumExpr
  pub rest : List Terminal
  pub is : m ≡ Some (found.Number left tree, rest)
  pub shorter : length rest ≤ length r
  pub still : op_level r < l → (tree ≡ x) × (rest ≡ r)

-- A string was answered, in the same way.
pub record TextAnswered (m : Front Found) (l : ℕ) (y : StrExpr) (r : List Terminal) : Type 0 where
  pub tree : StrExpr
  pub rest : List Terminal
  pub is : m ≡ Some (found.Text tree, rest)
  pub shorter : length rest ≤ length r
  pub still : op_level r < l → (tree ≡ y) × (rest ≡ r)

module _ (inner : ℕ → Parser Found) (finds : Finds inner) where
  pub num_step : (l k left : ℕ) (x : NumExpr) (r : List Terminal) (m : Front (BinaryOp × NumExpr)) → Holds (RightAt l left r) m
      → ((left' : ℕ) (x' : NumExpr) (r' : List Terminal) → NumAnswered (p.num_on inner l k left' x' r') l x' r')
      → NumAnswered (or_front m (λ z q. p.num_on inner l k (level z.0) (num.Binary z.0 x z.1) q) (Some (found.Number left x, r))) l x r
  unfolding or_front
  num_step l k left x r None h ih = record { left = left; tree = x; rest = r; is = refl; shorter = omega arith; still = λ _. (refl, refl) }
  num_step l k left x r (Some z) h ih =
      let at = of_some _ _ _ h in
      let a = ih (level z.0.0) (num.Binary z.0.0 x z.0.1) z.1 in
      let sign = ap length at.sign in
      let operand = shorter_front _ _ _ _ at.operand in
      let after = a.shorter in
      let same = ap op_level at.sign in
      let low = at.low in
      record { left = a.left; tree = a.tree; rest = a.rest; is = a.is; shorter = omega arith; still = λ below. absurd (omega arith) }

  pub num_on_answers : (l k left : ℕ) (x : NumExpr) (r : List Terminal) → NumAnswered (p.num_on inner l k left x r) l x r
  unfolding p.num_on
  num_on_answers l zero left x r = record { left = left; tree = x; rest = r; is = refl; shorter = omega arith; still = λ _. (refl, refl) }
  num_on_answers l (suc k) left x r = num_step l k left x r (p.right inner l left r) (right_at inner finds l left r) (num_on_answers l k)

  pub compared_step : (l : ℕ) (y : StrExpr) (r : List Terminal) (m : Front (Comparison × StrExpr)) (go : Comparison × StrExpr → Parser Found)
      → (l ≤ 3 → op_level r ≡ 3 → ⊥) → Holds (ComparedAt l r) m → or_front m go (Some (found.Text y, r)) ≡ Some (found.Text y, r)
  unfolding or_front
  compared_step l y r None go out h = refl
  compared_step l y r (Some z) go out h = let at = of_some _ _ _ h in absurd (out at.low (ap op_level at.sign))

  pub compared_stops : (l : ℕ) (y : StrExpr) (r : List Terminal) → (l ≤ 3 → op_level r ≡ 3 → ⊥) → p.compared inner l y r ≡ Some (found.Text y, r)
  unfolding p.compared
  compared_stops l y r out = compared_step l y r _ _ out (compared_with_at inner finds l r)

  pub text_step : (l k : ℕ) (y : StrExpr) (r : List Terminal) (m : Front StrExpr) → 4 ≤ l → Holds (JoinedAt l r) m
      → ((y' : StrExpr) (r' : List Terminal) → TextAnswered (p.text_on inner l k y' r') l y' r')
      → TextAnswered (or_front m (λ z q. p.text_on inner l k (str.Join y z) q) (p.compared inner l y r)) l y r
  unfolding or_front
  text_step l k y r None big h ih =
      record { tree = y; rest = r; is = compared_stops l y r (λ low e. omega arith); shorter = omega arith; still = λ _. (refl, refl) }
  text_step l k y r (Some z) big h ih =
      let at = of_some _ _ _ h in
      let a = ih (str.Join y z.0) z.1 in
      let sign = ap length at.sign in
      let operand = shorter_front _ _ _ _ at.operand in
      let after = a.shorter in
      let same = ap op_level at.sign in
      let low = at.low in
      record { tree = a.tree; rest = a.rest; is = a.is; shorter = omega arith; still = λ below. absurd (omega arith) }

  pub text_on_answers : (l k : ℕ) (y : StrExpr) (r : List Terminal) → 4 ≤ l → TextAnswered (p.text_on inner l k y r) l y r
  unfolding p.text_on
  text_on_answers l zero y r big =
      record { tree = y; rest = r; is = compared_stops l y r (λ low e. omega arith); shorter = omega arith; still = λ _. (refl, refl) }
  text_on_answers l (suc k) y r big = text_step l k y r (p.joined inner l r) big (joined_at inner finds l r) (λ y' r'. text_on_answers l k y' r' big)

  pub stop_step : (l k : ℕ) (y : StrExpr) (r : List Terminal) (m : Front StrExpr) (go : StrExpr → Parser Found) → op_level r ≡ 0 → Holds (JoinedAt l r) m
      → or_front m go (p.compared inner l y r) ≡ Some (found.Text y, r)
  unfolding or_front
  stop_step l k y r None go none h = compared_stops l y r (λ low e. omega arith)
  stop_step l k y r (Some z) go none h = let at = of_some _ _ _ h in let same = ap op_level at.sign in absurd (omega arith)

  -- a string after which no operator stands
  pub text_on_stops : (l k : ℕ) (y : StrExpr) (r : List Terminal) → op_level r ≡ 0 → p.text_on inner l k y r ≡ Some (found.Text y, r)
  unfolding p.text_on
  text_on_stops l zero y r none = compared_stops l y r (λ low e. omega arith)
  text_on_stops l (suc k) y r none = stop_step l k y r _ _ none (joined_at inner finds l r)
