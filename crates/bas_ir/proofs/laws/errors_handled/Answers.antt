use Rattle.bas_ir.proofs.Handled.{flat_step_handled}
use Rattle.bas_ir.proofs.laws.errors_handled.Goals as goal

pub returns : goal.returns
returns c = flat_step_handled c.args.ir.now
