use Rattle.bas_lex.proofs.Texts.{text_best, no_text}
use Rattle.bas_lex.proofs.text.read_text.Goals as goal

pub returns-in-Some : goal.returns-in-Some
returns-in-Some c = text_best _ _ c.in-Some.ensures

pub returns-in-None : goal.returns-in-None
returns-in-None c = no_text _ c.in-None.ensures
