use Rattle.std.proofs.Common.{refl}
use Rattle.bv_token.specs.Tokens.{keyword_of_token}
use Rattle.bv_token.proofs.laws.tokens_named.Goals as goal

pub returns-clause-words : goal.returns-clause-words
unfolding keyword_of_token
returns-clause-words c = (refl, (refl, (refl, (refl, (refl, (refl, (refl, (refl, (refl, (refl, (refl, (refl, (refl, (refl, tt))))))))))))))
