-- What one instruction does wherever it stands. This project's own.
use Rattle.std.specs.Prelude.{◌≡◌, ℕ, ◌+◌, ◌*◌, true}
use Rattle.arm2_machine.specs.Machine.{Machine}
use Rattle.arm_core.specs.Core.{Core}
use Rattle.code_frag.specs.Demands.{Out, Falls}
use Rattle.code_frag.specs.Instructions.{reg, mov}
use Rattle.code_frag.specs.Language.{Piece, Skip, ◌⨾◌, size}
use Rattle.code_frag.specs.Laws.{AtPiece}
use Rattle.code_frag.specs.Runs.{EndsAt}

-- R0 takes R1
abbrev pub move_piece : Piece
move_piece = mov 0 (reg 1) ⨾ Skip

-- the piece comes to its end, and R0 and R1 are the same
abbrev pub HasMoved : Out → Core → Type 0
HasMoved o t = (o ≡ Falls) × (t.regs 0 ≡ t.regs 1)

-- that is so wherever its word stands, and from every core
pub record Moves : Type 0 where
  pub each : (code entry : ℕ → ℕ) (place : ℕ) (s : Core) (m : Machine) → AtPiece code entry move_piece place s m → EndsAt code entry true HasMoved place (place + 4 * size move_piece) s m
