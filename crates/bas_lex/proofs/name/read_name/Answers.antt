use Rattle.bas_lex.proofs.Names.{name_best}
use Rattle.bas_lex.proofs.name.read_name.Goals as goal

pub returns : goal.returns
returns c = name_best _ _ _ c.requires c.read_name_end-end.ensures
