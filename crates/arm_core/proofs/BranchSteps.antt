-- The steps of branches and jumps.
use Rattle.std.proofs.Common.{◌≡◌, ℕ, ◌+◌, ◌*◌, ◌%◌, ◌^◌, ◌<◌, Bool, true, false, ℤ, refl, ap, ◌∙◌, arith, mod-eq_of_lt}
use Rattle.std.specs.Int.{from_bool}
use Rattle.bv_base.specs.MemoryMap.{ram_end}
use Rattle.arm_isa.specs.declared.instruction.Instr.TheVariants.{Data, Branch}
use Rattle.arm_isa.specs.Fields.{offset_field}
use Rattle.arm_isa.specs.Numbers.{MOV}
use Rattle.arm2_alu.specs.Registers.{r15, mode}
use Rattle.arm2_cpu.specs.Branch.{branch_target}
use Rattle.arm2_cpu.proofs.StepLaws.{step-jump_register, step-branch, step-branch_link}
use Rattle.arm2_machine.specs.Machine.{Machine, board_space}
use Rattle.arm_core.specs.Core.{Core, put, psr_of, meets, IsAt}
use Rattle.arm_core.specs.Effects.{link_value, return_place}
use Rattle.arm_core.specs.Made.{Makes, AtInstruction, target_of}
use Rattle.arm_core.proofs.States.{reads, reads-condition, fetches, is-at, is-put}
use Rattle.arm_core.proofs.DataSteps.{made, made-skipped}

target-is : (s : Core) (pc : ℕ) (m : Machine) (words : ℤ) → IsAt s pc m → branch_target m.regs words ≡ target_of pc (offset_field words)
target-is s pc m words is = ap (λ p. (p + 8 + 4 * offset_field words) % 2 ^ 26) is.pc

pub branch-made : (s : Core) (pc : ℕ) (m : Machine) (cond : ℕ) (words : ℤ) → AtInstruction s pc m (Branch cond false words) → meets cond s ≡ true → Makes s m (target_of pc (offset_field words)) s
branch-made s pc m cond words at holding =
    made s s pc _ m _ m.ram at.is (step-branch board_space m.regs m.ram cond words (fetches s pc m _ at) (reads-condition s m.regs at.is.psr cond ∙ holding)) refl
    (is-at s pc (target_of pc (offset_field words)) m _ at.is (target-is s pc m words at.is))

pub skip-made : (s : Core) (pc : ℕ) (m : Machine) (cond : ℕ) (link : Bool) (words : ℤ) → AtInstruction s pc m (Branch cond link words) → meets cond s ≡ false → Makes s m (pc + 4) s
skip-made s pc m cond link words at fails = made-skipped s pc m _ at (reads-condition s m.regs at.is.psr cond ∙ fails)

link_is : (s : Core) (pc : ℕ) (m : Machine) → IsAt s pc m → pc + 4 < ram_end → r15 m.regs 4 ≡ link_value pc s
unfolding r15
link_is s pc m is inside =
    (λ i. is.psr i * 2 ^ 26 + (is.pc i + 4) % 2 ^ 26 + mode (is.svc i))
    ∙ ap (λ a. psr_of s * 2 ^ 26 + a + 3) (mod-eq_of_lt (let e : pc + 4 < 2 ^ 26 = omega (arith, inside) in e))

bit_number : (b : Bool) → from_bool b < 2
bit_number true = omega arith
bit_number false = omega arith

psr-lt : (s : Core) → psr_of s < 2 ^ 6
psr-lt s = omega (arith, bit_number s.n, bit_number s.z, bit_number s.c, bit_number s.v)

pub link-lt : (pc : ℕ) (s : Core) → pc + 4 < ram_end → link_value pc s < 2 ^ 32
link-lt pc s inside = omega (arith, psr-lt s, inside)

-- R14 leads to the next instruction
pub link-returns : (pc : ℕ) (s : Core) → pc + 4 < ram_end → pc % 4 ≡ 0 → return_place (link_value pc s) ≡ pc + 4
link-returns pc s inside aligned = omega (arith, inside, aligned)

pub link-made : (s : Core) (pc : ℕ) (m : Machine) (words : ℤ) → AtInstruction s pc m (Branch 14 true words) → Makes s m (target_of pc (offset_field words)) (put 14 (link_value pc s) s)
link-made s pc m words at =
    made s _ pc _ m _ m.ram at.is (step-branch_link board_space m.regs m.ram 14 words (fetches s pc m _ at) (reads-condition s m.regs at.is.psr 14)) refl
    (is-at _ pc (target_of pc (offset_field words)) _ _ (is-put s pc m 14 _ (link_value pc s) at.is (omega arith) (link_is s pc m at.is at.inside) (link-lt pc s at.inside)) (target-is s pc m words at.is))

pub jump-made : (s : Core) (pc : ℕ) (m : Machine) (rm : ℕ) → AtInstruction s pc m (Data 14 false MOV false 0 15 rm) → rm < 15 → Makes s m (return_place (s.regs rm)) s
jump-made s pc m rm at low =
    made s s pc _ m _ m.ram at.is (step-jump_register board_space m.regs m.ram 14 0 rm (fetches s pc m _ at) (reads-condition s m.regs at.is.psr 14) low) refl
    (is-at s pc (return_place (s.regs rm)) m _ at.is (ap return_place (reads s pc m at.is rm low)))
