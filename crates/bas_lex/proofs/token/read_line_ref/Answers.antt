use Rattle.bas_lex.proofs.Tokens.{line_ref_best, no_line_ref, three_first}
use Rattle.bas_lex.proofs.token.read_line_ref.Goals as goal

pub returns-in-len3-up : goal.returns-in-len3-up
returns-in-len3-up c = line_ref_best c.line_ref.result _ _ _ c.args.after.now _ (three_first c.args.after.now c.in-len3-up.len_at_least) c.line_ref.ensures

pub returns-in_default : goal.returns-in_default
returns-in_default c = no_line_ref _ c.in_default.len_below
