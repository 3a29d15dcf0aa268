use Rattle.ir_build.proofs.Weights.{simple_items_light}
use Rattle.ir_build.proofs.laws.simple_items_light.Goals as goal

pub returns : goal.returns
returns c = simple_items_light c.args.prog.now
