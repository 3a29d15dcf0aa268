-- Rows of the board's steps, with the addresses of their instructions. This project's own.
use Rattle.std.specs.Prelude.{◌≡◌, ℕ, ◌+◌, ◌≤◌, List, [], ◌∷◌, ◌++◌}
use Rattle.bv_run.specs.Runs.{Goes}
use Rattle.arm2_machine.specs.Machine.{Machine}
use Rattle.arm2_machine.specs.Step.{board_step}

-- the instructions at these addresses, one after the other, lead from a board to another and write bytes
abbrev pub Row : List ℕ → Machine → List ℕ → Machine → Type 0
Row [] m bytes last = (bytes ≡ []) × (m ≡ last)
Row (p ∷ ps) m bytes last =
    (next : Machine) × (first : List ℕ) × (rest : List ℕ) × (m.regs.pc ≡ p) × (board_step m ≡ Goes next first) × (bytes ≡ first ++ rest) × Row ps next rest last

-- addresses of instructions that rise from one address and don't pass another
abbrev pub Rising : List ℕ → ℕ → ℕ → Type 0
Rising [] low high = low ≤ high
Rising (p ∷ ps) low high = (low ≤ p) × Rising ps (p + 4) high
