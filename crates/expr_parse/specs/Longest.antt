-- The laws of expressions: what stands at the front of a list by the grammar, and the longest that does.
use Rattle.std.specs.Prelude.{◌≡◌, ◌≤◌, List, ◌++◌, length}
use Rattle.bas_ast.specs.declared.expressions.NumExpr.{NumExpr}
use Rattle.bas_ast.specs.declared.expressions.StrExpr.{StrExpr}
use Rattle.bas_ast.specs.declared.terminals.Terminal.{Terminal}
use Rattle.bas_ast.specs.Expressions.{IsNum, IsStr}

-- A tree stands at the front of a list, with this rest.
pub record Fronts {A : Type 0} (Is : List Terminal → A → Type 0) (r : List Terminal) (x : A) (q : List Terminal) : Type 0 where
  pub front : List Terminal
  pub split : r ≡ front ++ q
  pub is : Is front x

-- It stands there, and nothing of its kind that is longer does.
pub record Longest {A : Type 0} (Is : List Terminal → A → Type 0) (r : List Terminal) (x : A) (q : List Terminal) : Type 0 where
  pub here : Fronts Is r x q
  pub longest : (y : A) (q' : List Terminal) → Fronts Is r y q' → length q ≤ length q'

-- Nothing of its kind stands at the front.
abbrev pub NoFront : {A : Type 0} → (List Terminal → A → Type 0) → List Terminal → Type 0
NoFront {A} Is r = (y : A) (q : List Terminal) → Fronts Is r y q → ⊥

-- A list of terminals has one tree at most, over both kinds.
pub record OneTree (a : List Terminal) : Type 0 where
  pub numbers : (x y : NumExpr) → IsNum 1 a x → IsNum 1 a y → x ≡ y
  pub texts : (x y : StrExpr) → IsStr 4 a x → IsStr 4 a y → x ≡ y
  pub one_kind : (x : NumExpr) (y : StrExpr) → IsNum 1 a x → IsStr 4 a y → ⊥
