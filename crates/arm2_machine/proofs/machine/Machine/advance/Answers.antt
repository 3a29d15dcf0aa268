use Rattle.std.proofs.Common.{[], arith}
use Rattle.bv_run.proofs.RunLaws.{run-zero}
use Rattle.arm2_machine.specs.Step.{board_step}
use Rattle.arm2_machine.proofs.Stretches.{one_plain_step}
use Rattle.arm2_machine.proofs.machine.Machine.advance.Goals as goal

pub plain-init : goal.plain-init
plain-init c = record { stands = run-zero board_step c.args.self.now []; within = omega arith }

pub plain-preserved : goal.plain-preserved
plain-preserved c = record {
  stands = one_plain_step board_step _ _ _ _ c.plain.invariant.stands c.in-Ran.ensures;
  within = omega arith;
}
