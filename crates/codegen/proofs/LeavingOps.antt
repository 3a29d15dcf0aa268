-- The operations that go elsewhere, and those that end a run.
use Rattle.std.proofs.Common.{◌≡◌, ℕ, ◌+◌, ◌<◌, inl, true, false, ℤ, pos, refl, sym, subst, ◌∙◌, arith}
use Rattle.std.specs.Ordering.{int_eq}
use Rattle.bas_ir.specs.declared.op.Op.TheVariants as o
use Rattle.bas_ir.specs.Effects.{Effect, Goes, go_if}
use Rattle.bas_ir.specs.Places.{Pending, nothing, pushed}
use Rattle.bas_sem.specs.Actions.{raise}
use Rattle.bas_sem.specs.Calls.{GoOn}
use Rattle.bas_sem.specs.Course.{Value, Over}
use Rattle.bas_sem.specs.State.{State}
use Rattle.bv_run.specs.declared.report.Report.TheVariants.{Done}
use Rattle.arm2_alu.proofs.ValueLaws.{compared}
use Rattle.arm_core.specs.Core.{Core, IsGood, put, word}
use Rattle.arm_core.specs.Effects.{flagged_by}
use Rattle.arm_core.proofs.Comparisons.{after-eq}
use Rattle.code_frag.specs.Demands as demands
use Rattle.code_frag.specs.Demands.{Leaves, ToLabel, ToEnd, Owes}
use Rattle.code_frag.proofs.Rules.{end_here, set_then, test_then, pull_then, leave_then, leave_if_then, halt_then}
use Rattle.codegen.specs.Operations.{Named, op_code, item_label}
use Rattle.codegen.specs.Outcomes.{Arrives}
use Rattle.codegen.specs.StandsFor.{Site, StandsFor}
use Rattle.codegen.proofs.Arriving.{CodeAsks, CodeDoes, without_top, free_room, raise_over, raise_by}
use Rattle.codegen.proofs.NumberFacts.{equal_by}

module _ {image : Site} {st : State} {s : Core} (texts : Named) where
  -- to an item, with nothing pending
  pub go_owes : (item : ℕ) → StandsFor image nothing st s → Owes CodeAsks CodeDoes (op_code texts (o.Go item)) (Arrives image (Value (Goes (GoOn item)) st)) s
  go_owes item f = leave_then (record { by = (inl refl, f) })

  -- and where a number is 0
  pub go_if_zero_owes : (item : ℕ) (value : ℤ) → StandsFor image (pushed value nothing) st s → IsGood s
      → Owes CodeAsks CodeDoes (op_code texts (o.GoIfZero item)) (Arrives image (Value (go_if (int_eq value (pos 0)) item nothing) st)) s
  go_if_zero_owes item value f good =
      let r = s.regs 0 in
      let g = without_top f in
      let room = free_room g in
      let is = after-eq r 0 s (good.regs 0) (omega arith) in
      let zero = equal_by r 0 value (pos 0) (good.regs 0) (omega arith) f.numbers.0 refl in
      test_then (compared r 0) refl refl
      (pull_then (s.regs 12) (word s.mem (s.regs 12)) (s.regs 12 + 4) refl refl (omega (arith, room)) (omega (arith, room)) (omega (arith, room))
      (λ small.
      leave_if_then (λ e. arrives (zero ∙ sym is ∙ e)) (λ e. end_here (falls (zero ∙ sym is ∙ e)))))
    where
      last : Core
      last = put 0 (word s.mem (s.regs 12)) (put 12 (s.regs 12 + 4) (flagged_by (compared (s.regs 0) 0) s))

      there : StandsFor image nothing st last
      there = let g = without_top f in record { holds = g.holds; numbers = g.numbers; texts = g.texts }

      arrives : int_eq value (pos 0) ≡ true → Arrives image (Value (go_if (int_eq value (pos 0)) item nothing) st) (Leaves (ToLabel (item_label item))) last
      arrives e = subst (λ b. Arrives image (Value (go_if b item nothing) st) (Leaves (ToLabel (item_label item))) last) (sym e) (record { by = (inl refl, there) })

      falls : int_eq value (pos 0) ≡ false → Arrives image (Value (go_if (int_eq value (pos 0)) item nothing) st) demands.Falls last
      falls e = subst (λ b. Arrives image (Value (go_if b item nothing) st) demands.Falls last) (sym e) (record { by = (refl, there) })

  -- an error of the language's own
  pub raise_owes : (p : Pending) (error line : ℕ) → error < 256 → line < 65536 → StandsFor image p st s → Owes CodeAsks CodeDoes (op_code texts (o.Raise error line)) (Arrives image (raise {A = Effect} error line st)) s
  raise_owes p error line known fits f = raise_by (raise {A = Effect} error line st) error line (raise_over {A = Effect} error line st f.holds.unhandled) known fits f.holds (λ t a. a)

  -- the end
  pub end_owes : (p : Pending) → StandsFor image p st s → Owes CodeAsks CodeDoes (op_code texts o.End) (Arrives image (Over Done st)) s
  end_owes p f = set_then 0 refl refl (halt_then Done refl (record { by = inl (record { leaves = refl; out = f.holds.out_is; has_arena = f.holds.has_arena }) }))
