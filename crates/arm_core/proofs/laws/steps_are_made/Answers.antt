use Rattle.arm_core.proofs.Steps.{all_made}
use Rattle.arm_core.proofs.laws.steps_are_made.Goals as goal

pub returns : goal.returns
returns c = all_made
