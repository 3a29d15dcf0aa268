use Rattle.std.proofs.Common.{refl}
use Rattle.bas_lex.proofs.Texts.{finds_nothing, finds_two, finds_other, finds_closing, finds_end}
use Rattle.bas_lex.proofs.text.find_closing.Goals as goal

pub parts-init : goal.parts-init
parts-init c = finds_nothing _

pub parts-preserved-in-Doubled : goal.parts-preserved-in-Doubled
parts-preserved-in-Doubled c = finds_two _ _ _ _ _ c.in-Doubled.ensures refl c.parts.invariant

pub returns-in-Closing : goal.returns-in-Closing
returns-in-Closing c = finds_closing _ _ _ _ c.in-Closing.ensures.1 c.in-Closing.ensures.2 c.parts.invariant

pub parts-preserved : goal.parts-preserved
parts-preserved c = finds_other _ _ _ _ _ c.in-Other.ensures.1 c.in-Other.ensures.2 c.parts.invariant

pub returns-in-End : goal.returns-in-End
returns-in-End c = finds_end _ _ _ c.in-End.ensures c.parts.invariant
