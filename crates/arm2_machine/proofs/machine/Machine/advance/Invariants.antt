use Rattle.std.proofs.Common.{◌≡◌, ◌-◌, ◌<◌, []}
use Rattle.bv_run.specs.Runs.{Going, run}
use Rattle.arm2_machine.specs.Step.{board_step}
use Rattle.arm2_machine.proofs.machine.Machine.advance.Given as goal

abbrev pub invariant-plain : goal.invariant-plain
invariant-plain l = record { stands : run board_step l.before l.initial.self [] ≡ Going l.self []; within : l.before < l.most }

abbrev pub decreases-plain : goal.decreases-plain
decreases-plain l = l.most - l.before
