-- The step of the board at each instruction, in one place.
use Rattle.std.proofs.Common.{◌≡◌, ℕ, ◌+◌, ◌==◌, true, subst, eqb-true}
use Rattle.std.proofs.lemmas.Bool.{and_parts, false≢true}
use Rattle.arm_isa.specs.declared.instruction.Instr.{Instr}
use Rattle.arm_isa.specs.declared.instruction.Instr.TheVariants.{Data, Mul, Single, Block, Branch, Swi, Undefined}
use Rattle.arm2_machine.specs.Machine.{Machine}
use Rattle.arm_core.specs.Core.{Core}
use Rattle.arm_core.specs.Effects.{is_plain_multiply, is_plain_single, is_plain_block, is_plain_call, is_plain, executed, CanMake}
use Rattle.arm_core.specs.Made.{Makes, AtInstruction, StepsAreMade}
use Rattle.arm_core.proofs.DataSteps.{data-made, multiply-made}
use Rattle.arm_core.proofs.TransferSteps.{single-made}
use Rattle.arm_core.proofs.BlockSteps.{block-made}
use Rattle.arm_core.proofs.CallSteps.{call-made, end-made}
use Rattle.arm_core.proofs.BranchSteps.{branch-made, skip-made, link-made, link-lt, link-returns, jump-made}
use Rattle.arm_core.proofs.Start.{loaded-is}

pub plain-made : (i : Instr) (s : Core) (pc : ℕ) (m : Machine) → AtInstruction s pc m i → is_plain i ≡ true → CanMake i s → Makes s m (pc + 4) (executed i s)
plain-made (Data cond imm op flags rn rd op2) s pc m at plain can = data-made s pc m cond imm op flags rn rd op2 at plain
plain-made (Mul cond acc flags rd rn rs rm) s pc m at plain can =
    let p = and_parts (cond == 14) (is_plain_multiply rd rn rs rm) plain in
    multiply-made s pc m acc flags rd rn rs rm (subst (λ k. AtInstruction s pc m (Mul k acc flags rd rn rs rm)) (eqb-true cond 14 p.0) at) p.1
plain-made (Single cond reg pre up byte wb load rn rd offset) s pc m at plain can =
    let p = and_parts (cond == 14) (is_plain_single reg pre byte wb load rn rd offset) plain in
    single-made s pc m reg pre up byte wb load rn rd offset (subst (λ k. AtInstruction s pc m (Single k reg pre up byte wb load rn rd offset)) (eqb-true cond 14 p.0) at) p.1 can
plain-made (Block cond pre up psr wb load rn list) s pc m at plain can =
    let p = and_parts (cond == 14) (is_plain_block psr wb rn list) plain in
    block-made s pc m pre up psr wb load rn list (subst (λ k. AtInstruction s pc m (Block k pre up psr wb load rn list)) (eqb-true cond 14 p.0) at) p.1 can
plain-made (Branch cond link words) s pc m at plain can = absurd (false≢true plain)
plain-made (Swi cond number) s pc m at plain can =
    let p = and_parts (cond == 14) (is_plain_call number) plain in
    call-made s pc m number (subst (λ k. AtInstruction s pc m (Swi k number)) (eqb-true cond 14 p.0) at) p.1
plain-made (Undefined word) s pc m at plain can = absurd (false≢true plain)

pub all_made : StepsAreMade
all_made = record {
  plain = plain-made;
  branch = λ cond words s pc m at holding. branch-made s pc m cond words at holding;
  no_branch = λ cond link words s pc m at fails. skip-made s pc m cond link words at fails;
  link = λ words s pc m at. link-made s pc m words at;
  returns = λ s pc inside aligned. (link-lt pc s inside, link-returns pc s inside aligned);
  jump = λ rm s pc m at low. jump-made s pc m rm at low;
  end = λ report s pc m at is. end-made s pc m report at is;
  start = loaded-is;
}
