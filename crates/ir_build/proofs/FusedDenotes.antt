-- Fused operations denote what the operations do that they stand for.
use Rattle.std.proofs.Common.{◌≡◌, ℕ, List, [], ◌∷◌, None, Some, refl, sym, ap, ◌∙◌}
use Rattle.std.specs.Prelude.{ℤ, Bool, true, false, not, int_lt, int_le, Result, Ok}
use Rattle.std.specs.Ordering.{int_eq}
use Rattle.bas_ast.specs.declared.expressions.BinaryOp.{BinaryOp}
use Rattle.bas_ast.specs.declared.expressions.BinaryOp.TheVariants as operators
use Rattle.bas_ast.specs.declared.expressions.Comparison.{Comparison}
use Rattle.bas_ast.specs.declared.expressions.Comparison.TheVariants as relations
use Rattle.bas_ast.specs.declared.program.Prog.{Prog}
use Rattle.bas_ir.specs.declared.op.Op.{Op}
use Rattle.bas_ir.specs.declared.op.Op.TheVariants as o
use Rattle.bas_ir.specs.declared.ir.Ir.{Ir}
use Rattle.bas_ir.specs.Effects.{Effect, Falls, Goes, Opens, Enters, effect, falls}
use Rattle.bas_ir.specs.Places.{Pending, pushed, result_pushed}
use Rattle.bas_store.specs.Cells.{Resident}
use Rattle.bas_store.specs.Stored.{number_in, or_zero}
use Rattle.bas_sem.specs.State.{State}
use Rattle.bas_sem.specs.Course.{Action, ◌>>=◌, ◌>>◌}
use Rattle.bas_sem.specs.Actions.{assign, or_raise}
use Rattle.bas_sem.specs.Calls.{Level, Next}
use Rattle.bas_sem.specs.Loops.{opens}
use Rattle.bas_sem.specs.Operators.{of_two, comparison}
use Rattle.bv_num.specs.Operation.{exact, in_range, truth}
use Rattle.ir_build.specs.Fused.{fused_with, fused}
use Rattle.ir_build.proofs.Bind.{bind_assoc, bind_same}
use Rattle.ir_build.proofs.Denote.{calls_at, carry, den}
use Rattle.ir_build.proofs.Fusing as f
use Rattle.ir_build.proofs.Fusing.{Fuses, fuses}

-- a truth value is in range
truth_in_range : (b : Bool) → in_range (truth b) ≡ Ok (truth b)
truth_in_range true = refl
truth_in_range false = refl

-- a comparison has a result
compares : (relation : Comparison) (x y : ℤ) → of_two (operators.Compare relation) x y ≡ Ok (exact (comparison relation) x y)
compares relations.Equal x y = truth_in_range (int_eq x y)
compares relations.NotEqual x y = truth_in_range (not (int_eq x y))
compares relations.Less x y = truth_in_range (int_lt x y)
compares relations.Greater x y = truth_in_range (int_lt y x)
compares relations.LessOrEqual x y = truth_in_range (int_le x y)
compares relations.GreaterOrEqual x y = truth_in_range (int_le y x)

module _ (prog : Prog) (ir : Ir) (level : Level) (next : ℕ) where
  -- operations before the next item
  abbrev does : List Op → Pending → Action Next
  does ops p = den prog ir level next ops p

  -- operations that do the same after an effect
  carry_same : (f g : Pending → Action Next) → ((p : Pending) (s : State) → f p s ≡ g p s) → (e : Effect) (s : State) → carry prog ir level next f e s ≡ carry prog ir level next g e s
  carry_same f g same (Falls p) s = same p s
  carry_same f g same (Goes to) s = refl
  carry_same f g same (Opens line opening None p) s = bind_same (opens level.depth line opening next) (λ _. f p) (λ _. g p) s (λ _ t. same p t)
  carry_same f g same (Opens line opening (Some to) p) s = refl
  carry_same f g same (Enters line kind body values p) s =
      bind_same (calls_at prog ir level line kind body values) (λ value. f (result_pushed kind value p)) (λ value. g (result_pushed kind value p)) s
      (λ value t. same (result_pushed kind value p) t)

  -- an operation, and then others that do the same
  then_same : (op : Op) (a b : List Op) → ((p : Pending) (s : State) → does a p s ≡ does b p s) → (p : Pending) (s : State) → does (op ∷ a) p s ≡ does (op ∷ b) p s
  then_same op a b same p s =
      bind_same (effect ir level op p) (carry prog ir level next (does a)) (carry prog ir level next (does b)) s (λ e t. carry_same (does a) (does b) same e t)

  resident_does : (index : ℕ) (op : BinaryOp) (line : ℕ) (rest : List Op) (numbers : List ℤ) (texts : List (List ℕ)) (s : State)
      → does (o.BinaryWithResident op index line ∷ rest) (record { numbers = numbers; texts = texts }) s
      ≡ does (o.PushResident index ∷ o.Binary op line ∷ rest) (record { numbers = numbers; texts = texts }) s
  resident_does index op line rest [] texts s = refl
  resident_does index op line rest (x ∷ numbers) texts s = refl

  changed_does : (index line : ℕ) (r : Result ℤ ℕ) (rest : List Op) (p : Pending) (s : State)
      → ((or_raise line r >>= (λ value. assign (Resident index) value >> falls p)) >>= carry prog ir level next (does rest)) s
      ≡ ((or_raise line r >>= (λ value. falls (pushed value p))) >>= carry prog ir level next (does (o.StoreResident index ∷ rest))) s
  changed_does index line r rest p s =
      bind_assoc (or_raise line r) (λ value. assign (Resident index) value >> falls p) (carry prog ir level next (does rest)) s
      ∙ sym (bind_assoc (or_raise line r) (λ value. falls (pushed value p)) (carry prog ir level next (does (o.StoreResident index ∷ rest))) s)

  comparison_does : (relation : Comparison) (line item : ℕ) (rest : List Op) (numbers : List ℤ) (texts : List (List ℕ)) (s : State)
      → does (o.GoUnless relation item ∷ rest) (record { numbers = numbers; texts = texts }) s
      ≡ does (o.Binary (operators.Compare relation) line ∷ o.GoIfZero item ∷ rest) (record { numbers = numbers; texts = texts }) s
  comparison_does relation line item rest [] texts s = refl
  comparison_does relation line item rest (y ∷ []) texts s = refl
  comparison_does relation line item rest (y ∷ x ∷ numbers) texts s =
      let q : Pending = record { numbers = numbers; texts = texts } in
      sym (ap (λ r. ((or_raise line r >>= (λ value. falls (pushed value q))) >>= carry prog ir level next (does (o.GoIfZero item ∷ rest))) s) (compares relation x y))

  -- fused operations do what the others do
  fuse_does : (old new : List Op) → Fuses old new → (p : Pending) (s : State) → does new p s ≡ does old p s
  fuse_does old new (f.same ops) p s = refl
  fuse_does old new (f.constant value op line rest) p s = refl
  fuse_does old new (f.resident index op line rest) p s = resident_does index op line rest p.numbers p.texts s
  fuse_does old new (f.change index op line number rest) p s = changed_does index line (of_two op (or_zero (number_in (Resident index) s.stored)) number) rest p s
  fuse_does old new (f.comparison relation line item rest) p s = comparison_does relation line item rest p.numbers p.texts s
  fuse_does old new (f.compared value relation item rest) p s = refl

  -- The fused code of operations does what they do.
  pub fused_den : (ops : List Op) (p : Pending) (s : State) → does (fused ops) p s ≡ does ops p s
  fused_den [] p s = refl
  fused_den (op ∷ ops) p s =
      fuse_does (op ∷ fused ops) (fused_with op (fused ops)) (fuses op (fused ops)) p s ∙ then_same op (fused ops) ops (λ q t. fused_den ops q t) p s
