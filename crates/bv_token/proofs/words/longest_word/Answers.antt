use Rattle.std.proofs.Common.{◌≡◌, ◌+◌, sym, ap, subst, ◌∙◌, MatchOption, ℕ, arith}
use Rattle.bv_token.specs.Search.{candidate, longer}
use Rattle.bv_token.specs.Words.{BeginsWord}
use Rattle.bv_token.proofs.Candidates.{IsBestBefore, best_more, best_of_all}
use Rattle.bv_token.proofs.words.longest_word.Goals as goal

pub candidates-preserved : goal.candidates-preserved
candidates-preserved c =
    let token : c.candidate-token.result ≡ candidate c.candidates.place = c.candidate-token.ensures in
    let size = subst (λ t. MatchOption c.counted_size.result ((n : ℕ) → BeginsWord c.args.text.now t n → ⊥) (λ n. BeginsWord c.args.text.now t n)) token c.counted_size.ensures in
    subst (IsBestBefore c.args.text.now (c.candidates.place + 1)) (sym (c.longer-found.ensures ∙ ap (longer c.candidates.found c.counted_size.result) token)) (best_more c.args.text.now c.candidates.place c.candidates.found c.counted_size.result c.candidates-test.true size c.candidates.invariant)

pub returns : goal.returns
returns c = best_of_all c.args.text.now c.candidates.place c.candidates.found (omega arith) c.candidates.invariant
