use Rattle.std.proofs.Common.{ℕ, List, [], ◌∷◌, ◌++◌, ap, ◌∙◌}
use Rattle.bas_rules.proofs.NameKeys.{next_name}
use Rattle.bas_rules.proofs.names.listed.Goals as goal

pub loop-place-preserved : goal.loop-place-preserved
loop-place-preserved c = next_name c.loop-place.list c.args.names.now.keys c.loop-place.place c.index-key.result.now c.index-key.ensures c.loop-place.invariant _
    (c.in_ok-push.ensures.ok ∙ ap (λ (text : List ℕ). c.loop-place.list ++ record { kind = c.index-key.result.now.kind; text = text } ∷ []) c.in_ok-from_slice.ensures)
