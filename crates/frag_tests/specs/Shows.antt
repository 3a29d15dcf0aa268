-- What a program does on the board. This project's own.
use Rattle.std.specs.Prelude.{◌≡◌, ℕ, ◌^◌, ◌<◌, List, slice_index}
use Rattle.bv_base.specs.Bytes.{zeros}
use Rattle.bv_base.specs.MemoryMap.{arena_bytes}
use Rattle.bv_run.specs.declared.report.Report.TheVariants.{Done}
use Rattle.bv_run.specs.Outcome.{Over}
use Rattle.arm2_machine.specs.Step.{board_run}

-- The board that is loaded with the words writes these bytes and ends well, whatever its input is, in finitely many steps. The
-- arena stays zero.
pub record Shows (words bytes : List ℕ) : Type 0 where
  pub runs : (input : List ℕ) → ((k : ℕ) → slice_index input k < 2 ^ 8) → (steps : ℕ) × (board_run words input steps ≡ Over bytes (zeros arena_bytes) Done)
