-- Steps that are made in one go, up to the first that has an event. This project's own.
use Rattle.std.specs.Prelude.{◌≡◌, ℕ, ◌<◌, []}
use Rattle.bv_run.specs.Runs.{Going, run}
use Rattle.arm2_machine.specs.declared.step.Stretch.{Stretch}
use Rattle.arm2_machine.specs.Machine.{Machine}
use Rattle.arm2_machine.specs.Step.{after_event, board_step}

-- The steps before the last were taken, and wrote nothing. The last, within the bound, comes to what its event comes to.
pub record MakesStretch (most : ℕ) (old : Machine) (stretch : Stretch) (new : Machine) : Type 0 where
  pub last : Machine
  pub stands : run board_step stretch.before old [] ≡ Going last []
  pub goes : board_step last ≡ after_event new stretch.at stretch.event
  pub within : stretch.before < most
