use Rattle.std.proofs.Common.{◌∷◌, [], ◌++◌, ap, sym, ◌∙◌}
use Rattle.std.proofs.lemmas.Bool.{ne_eqb}
use Rattle.basv_crunch.specs.Pieces.{without_return}
use Rattle.basv_crunch.proofs.LineEnds.{return_dropped, other_kept}
use Rattle.basv_crunch.proofs.piece.without_return.Goals as goal

pub returns-then-last-eq13 : goal.returns-then-last-eq13
returns-then-last-eq13 c =
    sym (ap without_return (c.in-Some.ensures.cases.0 ∙ ap (λ b. c.in-Some.before.now ++ b ∷ []) c.if-last-eq13.true) ∙ return_dropped c.in-Some.before.now)

pub returns : goal.returns
returns c =
    c.in-Some.ensures.cases.0 ∙ sym (ap without_return c.in-Some.ensures.cases.0 ∙ other_kept c.in-Some.before.now c.in-Some.last.now (ne_eqb _ 13 c.if-last-eq13.false))
