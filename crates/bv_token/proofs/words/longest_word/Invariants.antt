use Rattle.bv_token.proofs.Candidates.{IsBestBefore}
use Rattle.bv_token.proofs.words.longest_word.Given as goal

abbrev pub invariant-candidates : goal.invariant-candidates
invariant-candidates l = IsBestBefore l.text l.place l.found
