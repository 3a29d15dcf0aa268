use Rattle.bas_lex.proofs.Names.{call_best, no_call_best}
use Rattle.bas_lex.proofs.name.read_call.Goals as goal

pub returns-in-Some : goal.returns-in-Some
returns-in-Some c = call_best _ _ _ _ _ c.in-Some.ensures.1 c.in-Some.ensures.0 c.read_name_end-end.ensures

pub returns-in-None : goal.returns-in-None
returns-in-None c = rw c.call_token.ensures (no_call_best c.args.function _ c.in-None.ensures)
