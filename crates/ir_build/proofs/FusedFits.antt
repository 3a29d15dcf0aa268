-- Fused operations cost no more than those that they stand for, name the same, and leave no more pending.
use Rattle.std.proofs.Common.{ℕ, zero, suc, ◌≤◌, List, [], ◌∷◌, Option, None, Some, arith}
use Rattle.bas_ast.specs.declared.expressions.BinaryOp.TheVariants as operators
use Rattle.bas_ast.specs.declared.expressions.Comparison.{Comparison}
use Rattle.bas_ast.specs.declared.program.Prog.{Prog}
use Rattle.bas_ir.specs.declared.ir.Height.{Height}
use Rattle.bas_ir.specs.declared.op.Op.{Op}
use Rattle.bas_ir.specs.declared.op.Op.TheVariants as o
use Rattle.bas_ir.specs.Heights.{height_after}
use Rattle.ir_build.specs.Code.{heights_of}
use Rattle.ir_build.specs.Fused.{fused_with, fused}
use Rattle.ir_build.proofs.Fits.{cost, AllThere}
use Rattle.ir_build.proofs.Fusing as f
use Rattle.ir_build.proofs.Fusing.{Fuses, fuses}
use Rattle.ir_build.proofs.PendingBounds.{AllUpTo}

fuse_cost : (old new : List Op) → Fuses old new → cost new ≤ cost old
fuse_cost old new (f.same ops) = omega arith
fuse_cost old new (f.constant value op line rest) = omega arith
fuse_cost old new (f.resident index op line rest) = omega arith
fuse_cost old new (f.change index op line number rest) = omega arith
fuse_cost old new (f.comparison relation line item rest) = omega arith
fuse_cost old new (f.compared value relation item rest) = omega arith

pub fused_cost : (ops : List Op) → cost (fused ops) ≤ cost ops
fused_cost [] = omega arith
fused_cost (op ∷ ops) = omega (arith, fuse_cost (op ∷ fused ops) (fused_with op (fused ops)) (fuses op (fused ops)), fused_cost ops)

module _ (prog : Prog) where
  fuse_there : (old new : List Op) → Fuses old new → AllThere prog old → AllThere prog new
  fuse_there old new (f.same ops) there = there
  fuse_there old new (f.constant value op line rest) there = there.1
  fuse_there old new (f.resident index op line rest) there = (there.0, there.1.1)
  fuse_there old new (f.change index op line number rest) there = (there.0, there.1.1.1)
  fuse_there old new (f.comparison relation line item rest) there = there.1
  fuse_there old new (f.compared value relation item rest) there = there.1

  pub fused_there : (ops : List Op) → AllThere prog ops → AllThere prog (fused ops)
  fused_there [] there = there
  fused_there (op ∷ ops) there = fuse_there (op ∷ fused ops) (fused_with op (fused ops)) (fuses op (fused ops)) (there.0, fused_there ops there.1)

module _ (most : ℕ) where
  comparison_up_to : (relation : Comparison) (line item : ℕ) (rest : List Op) (numbers texts : ℕ)
      → AllUpTo most (heights_of (Some (record { numbers = numbers; texts = texts })) (o.Binary (operators.Compare relation) line ∷ o.GoIfZero item ∷ rest))
      → AllUpTo most (heights_of (Some (record { numbers = numbers; texts = texts })) (o.GoUnless relation item ∷ rest))
  comparison_up_to relation line item rest zero texts up_to = (up_to.0, up_to.1.1)
  comparison_up_to relation line item rest (suc zero) texts up_to = (up_to.0, up_to.1.1)
  comparison_up_to relation line item rest (suc (suc numbers)) texts up_to = (up_to.0, up_to.1.1)

  fuse_up_to : (old new : List Op) → Fuses old new → (h : Option Height) → AllUpTo most (heights_of h old) → AllUpTo most (heights_of h new)
  fuse_up_to old new (f.same ops) h up_to = up_to
  fuse_up_to old new (f.constant value op line rest) None up_to = up_to.1
  fuse_up_to old new (f.constant value op line rest) (Some h) up_to = (up_to.0, up_to.1.1)
  fuse_up_to old new (f.resident index op line rest) None up_to = up_to.1
  fuse_up_to old new (f.resident index op line rest) (Some h) up_to = (up_to.0, up_to.1.1)
  fuse_up_to old new (f.change index op line number rest) None up_to = up_to.1.1
  fuse_up_to old new (f.change index op line number rest) (Some h) up_to = (up_to.0, up_to.1.1.1)
  fuse_up_to old new (f.comparison relation line item rest) None up_to = up_to.1
  fuse_up_to old new (f.comparison relation line item rest) (Some h) up_to = comparison_up_to relation line item rest h.numbers h.texts up_to
  fuse_up_to old new (f.compared value relation item rest) None up_to = up_to.1
  fuse_up_to old new (f.compared value relation item rest) (Some h) up_to = (up_to.0, up_to.1.1)

  pub fused_up_to : (ops : List Op) (h : Option Height) → AllUpTo most (heights_of h ops) → AllUpTo most (heights_of h (fused ops))
  fused_up_to [] h up_to = up_to
  fused_up_to (op ∷ ops) None up_to = fuse_up_to (op ∷ fused ops) (fused_with op (fused ops)) (fuses op (fused ops)) None (up_to.0, fused_up_to ops None up_to.1)
  fused_up_to (op ∷ ops) (Some h) up_to =
      fuse_up_to (op ∷ fused ops) (fused_with op (fused ops)) (fuses op (fused ops)) (Some h) (up_to.0, fused_up_to ops (height_after [] op h) up_to.1)
