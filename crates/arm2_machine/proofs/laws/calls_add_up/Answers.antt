use Rattle.bv_run.proofs.RunLaws.{run-going, run-ended, steps_made-going, steps_made-ended}
use Rattle.arm2_machine.specs.Step.{board_step}
use Rattle.arm2_machine.proofs.laws.calls_add_up.Goals as goal

pub returns : goal.returns
returns c = record {
  goes_on = run-going board_step c.args.first c.args.second;
  has_ended = run-ended board_step c.args.first c.args.second;
  steps_add_up = steps_made-going board_step c.args.first c.args.second;
  steps_end = steps_made-ended board_step c.args.first c.args.second;
}
