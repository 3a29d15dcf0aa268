use Rattle.ir_build.proofs.CodeWellFormed.{well_formed}
use Rattle.ir_build.proofs.laws.code_well_formed.Goals as goal

pub returns : goal.returns
returns c = well_formed c.args.prog.now c.requires
