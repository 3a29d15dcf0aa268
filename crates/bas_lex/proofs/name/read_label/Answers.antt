use Rattle.std.proofs.Common.{rules}
use Rattle.bas_lex.proofs.Names.{label_best, no_label}
use Rattle.bas_lex.proofs.name.read_label.Goals as goal

pub returns-in-Some : goal.returns-in-Some
returns-in-Some c = label_best _ _ _ (search rules) c.in-Some.ensures

pub returns-in-None : goal.returns-in-None
returns-in-None c = no_label _ _ c.in-None.ensures
