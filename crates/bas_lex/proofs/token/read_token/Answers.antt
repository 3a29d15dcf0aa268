use Rattle.std.proofs.Common.{rules}
use Rattle.bas_lex.proofs.Tokens.{no_single_found, single_found}
use Rattle.bas_lex.proofs.token.read_token.Goals as goal

pub returns-then-not-has_keyword : goal.returns-then-not-has_keyword
returns-then-not-has_keyword c = no_single_found _ 0 _ c.has_keyword.result (search rules) c.has_keyword.ensures (search rules)

pub returns : goal.returns
returns c = single_found _ 0 _ _ c.has_keyword.result (search rules) c.requires.not_rem c.requires.not_data c.has_keyword.ensures (search rules) c.from.ensures
