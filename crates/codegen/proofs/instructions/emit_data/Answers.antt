use Rattle.std.proofs.Common.{◌≡◌, ℕ, ◌<◌, ◌^◌, Bool, true, false, refl, subst, arith}
use Rattle.arm_isa.specs.declared.instruction.Instr.TheVariants.{Data}
use Rattle.arm_isa.specs.Numbers.{AL}
use Rattle.arm_isa.specs.Words.{IsValid}
use Rattle.arm_isa.proofs.ValidLaws.{valid-data_immediate, valid-data_by_number}
use Rattle.codegen.proofs.instructions.emit_data.Goals as goal

-- a byte or a register
valid-operand : (imm : Bool) (op rn rd field : ℕ) (s : Bool) → op < 2 ^ 4 → rn < 2 ^ 4 → rd < 2 ^ 4 → field < 2 ^ 8 → (imm ≡ false → field < 2 ^ 4) → IsValid (Data AL imm op s rn rd field)
valid-operand true op rn rd field s o n d byte register = let condition : AL < 2 ^ 4 = omega arith in valid-data_immediate AL op rn rd field s condition o n d (omega (arith, byte))
valid-operand false op rn rd field s o n d byte register =
    let condition : AL < 2 ^ 4 = omega arith in
    subst (λ f. IsValid (Data AL false op s rn rd f)) (omega arith) (valid-data_by_number AL op rn rd 0 field s condition o n d (omega arith) (omega arith) (register refl))

pub emit-requires : goal.emit-requires
emit-requires c = valid-operand c.args.imm c.args.op c.args.rn c.args.rd c.args.field c.args.s c.requires.op c.requires.rn c.requires.rd c.requires.field c.requires.register
