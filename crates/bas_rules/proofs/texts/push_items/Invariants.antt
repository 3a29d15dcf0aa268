use Rattle.std.proofs.Common.{◌≡◌, ◌≤◌, ◌++◌, false, map}
use Rattle.bas_rules.specs.Texts as spec
use Rattle.bas_rules.proofs.TextSteps.{items_at}
use Rattle.bas_rules.proofs.texts.push_items.Given as goal

abbrev pub invariant-loop-i : goal.invariant-loop-i
invariant-loop-i l =
    (l.start ≤ l.i) × (l.initial.items ++ map (spec.data_item l.line) (spec.pieces_from false l.tail) ≡ items_at l.line l.items l.start l.inside l.i l.tail)
