-- What fused operations stand for, one case for each kind.
use Rattle.std.proofs.Common.{◌≡◌, ℕ, ◌==◌, ◌^◌, List, [], ◌∷◌, refl, subst, eqb-true}
use Rattle.std.specs.Prelude.{ℤ, Bool, true, false, nat_lt}
use Rattle.bas_ast.specs.declared.expressions.BinaryOp.{BinaryOp}
use Rattle.bas_ast.specs.declared.expressions.BinaryOp.TheVariants as operators
use Rattle.bas_ast.specs.declared.expressions.Comparison.{Comparison}
use Rattle.bas_ir.specs.declared.op.Op.{Op}
use Rattle.bas_ir.specs.declared.op.Op.TheVariants as o
use Rattle.ir_build.specs.Fused.{is_short, with_constant, unless_with, fused_constant, change_if, fused_change, fused_resident, fused_comparison, fused_with}

-- The second operations do what the first do.
pub data Fuses : List Op → List Op → Type 0 where
  same : (ops : List Op) → Fuses ops ops
  constant : (value : ℤ) (op : BinaryOp) (line : ℕ) (rest : List Op) → Fuses (o.Push value ∷ o.Binary op line ∷ rest) (o.BinaryWith op line value ∷ rest)
  resident : (index : ℕ) (op : BinaryOp) (line : ℕ) (rest : List Op) → Fuses (o.PushResident index ∷ o.Binary op line ∷ rest) (o.BinaryWithResident op index line ∷ rest)
  change : (index : ℕ) (op : BinaryOp) (line : ℕ) (number : ℤ) (rest : List Op)
      → Fuses (o.PushResident index ∷ o.BinaryWith op line number ∷ o.StoreResident index ∷ rest) (o.ChangeResident op index line number ∷ rest)
  comparison : (relation : Comparison) (line item : ℕ) (rest : List Op)
      → Fuses (o.Binary (operators.Compare relation) line ∷ o.GoIfZero item ∷ rest) (o.GoUnless relation item ∷ rest)
  compared : (value : ℤ) (relation : Comparison) (item : ℕ) (rest : List Op)
      → Fuses (o.Push value ∷ o.GoUnless relation item ∷ rest) (o.GoUnlessWith relation item value ∷ rest)

constant_fuses : (short : Bool) (value : ℤ) (op : BinaryOp) (line : ℕ) (rest : List Op)
    → Fuses (o.Push value ∷ o.Binary op line ∷ rest) (with_constant short value op line rest)
constant_fuses true value op line rest = constant value op line rest
constant_fuses false value op line rest = same _

compared_fuses : (near : Bool) (value : ℤ) (relation : Comparison) (item : ℕ) (rest : List Op)
    → Fuses (o.Push value ∷ o.GoUnless relation item ∷ rest) (unless_with near value relation item rest)
compared_fuses true value relation item rest = compared value relation item rest
compared_fuses false value relation item rest = same _

after_constant : (value : ℤ) (ops : List Op) → Fuses (o.Push value ∷ ops) (fused_constant value ops)
after_constant value [] = same _
after_constant value (o.Binary op line ∷ rest) = constant_fuses (is_short value) value op line rest
after_constant value (o.GoUnless relation item ∷ rest) = compared_fuses (nat_lt item (2 ^ 16)) value relation item rest
after_constant value (_ ∷ rest) = same _

change_fuses : (index to : ℕ) (is : Bool) → index == to ≡ is → (op : BinaryOp) (line : ℕ) (number : ℤ) (rest : List Op)
    → Fuses (o.PushResident index ∷ o.BinaryWith op line number ∷ o.StoreResident to ∷ rest) (change_if is index op line number to rest)
change_fuses index to true is op line number rest =
    subst (λ k. Fuses (o.PushResident index ∷ o.BinaryWith op line number ∷ o.StoreResident k ∷ rest) (o.ChangeResident op index line number ∷ rest)) (eqb-true index to is)
    (change index op line number rest)
change_fuses index to false is op line number rest = same _

after_change : (index : ℕ) (op : BinaryOp) (line : ℕ) (number : ℤ) (ops : List Op) → Fuses (o.PushResident index ∷ o.BinaryWith op line number ∷ ops) (fused_change index op line number ops)
after_change index op line number [] = same _
after_change index op line number (o.StoreResident to ∷ rest) = change_fuses index to (index == to) refl op line number rest
after_change index op line number (_ ∷ rest) = same _

after_resident : (index : ℕ) (ops : List Op) → Fuses (o.PushResident index ∷ ops) (fused_resident index ops)
after_resident index [] = same _
after_resident index (o.Binary op line ∷ rest) = resident index op line rest
after_resident index (o.BinaryWith op line number ∷ rest) = after_change index op line number rest
after_resident index (_ ∷ rest) = same _

after_comparison : (relation : Comparison) (line : ℕ) (ops : List Op) → Fuses (o.Binary (operators.Compare relation) line ∷ ops) (fused_comparison relation line ops)
after_comparison relation line [] = same _
after_comparison relation line (o.GoIfZero item ∷ rest) = comparison relation line item rest
after_comparison relation line (_ ∷ rest) = same _

pub fuses : (op : Op) (ops : List Op) → Fuses (op ∷ ops) (fused_with op ops)
fuses (o.Push value) ops = after_constant value ops
fuses (o.PushResident index) ops = after_resident index ops
fuses (o.Binary (operators.Compare relation) line) ops = after_comparison relation line ops
fuses _ ops = same _
