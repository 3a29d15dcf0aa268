use Rattle.std.proofs.Common.{refl}
use Rattle.bas_lex.specs.Kinds.{signs}
use Rattle.bas_lex.proofs.laws.signs_numbered.Goals as goal

pub returns : goal.returns
unfolding signs
returns c = refl
