use Rattle.ir_build.proofs.InItems.{in_items}
use Rattle.ir_build.proofs.laws.code_in_items.Goals as goal

pub returns : goal.returns
returns c = in_items c.args.prog.now
