-- What each condition says of a core after CMP, of the numbers that were compared.
use Rattle.std.proofs.Common.{◌≡◌, ℕ, ◌^◌, ◌<◌, ◌==◌, not, nat_le, nat_lt, false, refl, sym, ◌∙◌}
use Rattle.std.specs.Int.{w32, cast_signed}
use Rattle.std.specs.Int.Signed.{le_z, lt_z}
use Rattle.arm_isa.specs.Fields.{bit}
use Rattle.arm_isa.specs.Numbers.{EQ, NE, CS, CC, HI, LS, GE, LT, GT, LE}
use Rattle.arm2_alu.specs.declared.operations.Computed.{Computed}
use Rattle.arm2_alu.specs.Conditions.{holds}
use Rattle.arm2_alu.specs.Results.{flagged}
use Rattle.arm2_alu.proofs.ConditionLaws.{compared-eq, compared-ne, compared-cs, compared-cc, compared-hi, compared-ls, compared-ge, compared-lt, compared-gt, compared-le}
use Rattle.arm2_alu.proofs.ValueLaws.{compared}
use Rattle.arm2_machine.specs.Machine.{first_regs}
use Rattle.arm_core.specs.Core.{Core, meets}
use Rattle.arm_core.specs.Effects.{flagged_by}
use Rattle.arm_core.proofs.States.{flagged_number, reads-condition}

-- a condition after a result is what the processor's registers say of it
by_registers : (k : ℕ) (x : Computed) (s : Core) → meets k (flagged_by x s) ≡ holds k (flagged x first_regs)
by_registers k x s =
    let clear = record s { n = false; z = false; c = false; v = false } in
    sym (reads-condition (flagged_by x s) (flagged x first_regs) (flagged_number (bit x.value 31) (x.value == 0) x.carry x.overflow clear first_regs refl) k)

module _ (a b : ℕ) (s : Core) where
  pub after-eq : a < 2 ^ 32 → b < 2 ^ 32 → meets EQ (flagged_by (compared a b) s) ≡ (a == b)
  after-eq small below = by_registers EQ (compared a b) s ∙ compared-eq a b first_regs small below

  pub after-ne : a < 2 ^ 32 → b < 2 ^ 32 → meets NE (flagged_by (compared a b) s) ≡ not (a == b)
  after-ne small below = by_registers NE (compared a b) s ∙ compared-ne a b first_regs small below

  -- of the numbers as they stand
  pub after-cs : meets CS (flagged_by (compared a b) s) ≡ nat_le b a
  after-cs = by_registers CS (compared a b) s ∙ compared-cs a b first_regs

  pub after-cc : meets CC (flagged_by (compared a b) s) ≡ nat_lt a b
  after-cc = by_registers CC (compared a b) s ∙ compared-cc a b first_regs

  pub after-hi : a < 2 ^ 32 → b < 2 ^ 32 → meets HI (flagged_by (compared a b) s) ≡ nat_lt b a
  after-hi small below = by_registers HI (compared a b) s ∙ compared-hi a b first_regs small below

  pub after-ls : a < 2 ^ 32 → b < 2 ^ 32 → meets LS (flagged_by (compared a b) s) ≡ nat_le a b
  after-ls small below = by_registers LS (compared a b) s ∙ compared-ls a b first_regs small below

  -- of the signed numbers
  pub after-ge : a < 2 ^ 32 → b < 2 ^ 32 → meets GE (flagged_by (compared a b) s) ≡ le_z (cast_signed w32 b) (cast_signed w32 a)
  after-ge small below = by_registers GE (compared a b) s ∙ compared-ge a b first_regs small below

  pub after-lt : a < 2 ^ 32 → b < 2 ^ 32 → meets LT (flagged_by (compared a b) s) ≡ lt_z (cast_signed w32 a) (cast_signed w32 b)
  after-lt small below = by_registers LT (compared a b) s ∙ compared-lt a b first_regs small below

  pub after-gt : a < 2 ^ 32 → b < 2 ^ 32 → meets GT (flagged_by (compared a b) s) ≡ lt_z (cast_signed w32 b) (cast_signed w32 a)
  after-gt small below = by_registers GT (compared a b) s ∙ compared-gt a b first_regs small below

  pub after-le : a < 2 ^ 32 → b < 2 ^ 32 → meets LE (flagged_by (compared a b) s) ≡ le_z (cast_signed w32 a) (cast_signed w32 b)
  after-le small below = by_registers LE (compared a b) s ∙ compared-le a b first_regs small below
