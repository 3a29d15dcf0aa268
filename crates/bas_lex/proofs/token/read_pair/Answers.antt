use Rattle.std.proofs.Common.{arith, rules}
use Rattle.bas_lex.proofs.Tokens.{no_pair_alone, no_pair_found, pair_found}
use Rattle.bas_lex.proofs.token.read_pair.Goals as goal

pub returns-in_default : goal.returns-in_default
returns-in_default c = no_pair_alone _ _ c.requires c.in_default.ensures

pub returns-then-not-has_keyword : goal.returns-then-not-has_keyword
returns-then-not-has_keyword c = no_pair_found _ _ _ _ _ c.requires c.in-Some.ensures c.has_keyword.ensures (search rules)

pub returns : goal.returns
returns c = pair_found _ c.in-Some.second _ _ _ _ c.requires c.in-Some.ensures c.has_keyword.ensures (search rules) (omega (arith, c.from_be_bytes.ensures))
