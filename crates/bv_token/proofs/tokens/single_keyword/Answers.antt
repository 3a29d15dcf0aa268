use Rattle.std.proofs.Common.{arith, sym, ap, ◌∙◌}
use Rattle.bv_token.specs.Tokens.{keyword_of_token}
use Rattle.bv_token.proofs.Tables.{in_table, before_table, is_otherwise}
use Rattle.bv_token.proofs.tokens.single_keyword.Goals as goal

pub returns-then-token-eq-OTHERWISE : goal.returns-then-token-eq-OTHERWISE
returns-then-token-eq-OTHERWISE c = is_otherwise ∙ ap keyword_of_token (sym c.if-token-eq-OTHERWISE.true)

pub returns-in-Some : goal.returns-in-Some
returns-in-Some c =
    in_table c.args.token c.in-Some.place c.keyword_at.result.now c.keyword_at.ensures (omega (arith, c.in-Some.ensures)) (omega (arith, c.ranges.token.fits))

pub returns-in-None : goal.returns-in-None
returns-in-None c = before_table c.args.token (omega (arith, c.in-None.ensures, c.if-token-eq-OTHERWISE.false))
