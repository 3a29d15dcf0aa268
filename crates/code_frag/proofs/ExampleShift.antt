-- A short example of an operand that another register shifts: R0 takes R1 without its lowest R2 bits, and all else is as it was.
use Rattle.std.proofs.Common.{◌≡◌, ℕ, ◌/◌, ◌^◌, ◌<◌, true, refl, arith, mod-eq_of_lt}
use Rattle.arm_core.specs.Core.{Core, put}
use Rattle.arm_core.proofs.ShiftedOperands.{lsr_by-value}
use Rattle.code_frag.specs.Demands.{Out, Falls, Post, Owes}
use Rattle.code_frag.specs.Instructions.{mov, lsr_by}
use Rattle.code_frag.specs.Language.{Piece, Skip, ◌⨾◌, is_well_formed}
use Rattle.code_frag.proofs.Rules.{end_here, set_then}

abbrev pub pick : Piece
pick = mov 0 (lsr_by 1 2) ⨾ Skip

pub pick-formed : is_well_formed pick ≡ true
pick-formed = refl

-- the quotient by a power of two, where the register has the number of bits
pub pick_owes : {Asks : ℕ → Core → Type 0} {Does : ℕ → Core → Out → Core → Type 0} {Q : Post} (s : Core) → 0 < s.regs 2 → s.regs 2 < 2 ^ 8 → Q Falls (put 0 (s.regs 1 / 2 ^ s.regs 2) s) → Owes Asks Does pick Q s
pick_owes s some few q =
    set_then (s.regs 1 / 2 ^ s.regs 2) refl (lsr_by-value 2 1 (s.regs 2) s (omega arith) (omega arith) (mod-eq_of_lt few) some) (end_here q)
