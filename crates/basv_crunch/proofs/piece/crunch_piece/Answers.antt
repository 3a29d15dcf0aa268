use Rattle.std.proofs.Common.{ℕ, List, Vec, Global, MatchOption, Option, subst, arith}
use Rattle.basv_crunch.specs.Crunched.{CrunchesTo}
use Rattle.basv_crunch.proofs.PieceLines.{body_is, no_body, too_long}
use Rattle.basv_crunch.proofs.piece.crunch_piece.Goals as goal

pub returns-in_default : goal.returns-in_default
returns-in_default c =
    no_body c.args.piece.now c.text_after.result.now
    (body_is c.args.piece.now c.skip_spaces-unspaced.result.now c.text_after.result.now c.digit_run-digits.result.count c.skip_spaces-unspaced.ensures c.digit_run-digits.ensures.count c.text_after.ensures)
    (subst (λ (o : Option (Vec ℕ Global)). MatchOption o ((other : List ℕ) → CrunchesTo c.text_after.result.now other → ⊥) (λ text. CrunchesTo c.text_after.result.now text.items)) c.in_default.is c.in_ok-text.ensures)

pub returns-then-len-gt-LONGEST_TEXT : goal.returns-then-len-gt-LONGEST_TEXT
returns-then-len-gt-LONGEST_TEXT c =
    too_long c.args.piece.now c.text_after.result.now c.in-Some.text.items
    (body_is c.args.piece.now c.skip_spaces-unspaced.result.now c.text_after.result.now c.digit_run-digits.result.count c.skip_spaces-unspaced.ensures c.digit_run-digits.ensures.count c.text_after.ensures)
    (subst (λ (o : Option (Vec ℕ Global)). MatchOption o ((other : List ℕ) → CrunchesTo c.text_after.result.now other → ⊥) (λ text. CrunchesTo c.text_after.result.now text.items)) c.in-Some.is c.in_ok-text.ensures)
    (omega (arith, c.if-len-gt-LONGEST_TEXT.true, c.len.ensures))
