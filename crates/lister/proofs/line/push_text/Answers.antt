use Rattle.lister.proofs.Listed.{lists_symbol}
use Rattle.lister.proofs.line.push_text.Goals as goal

pub symbols-preserved : goal.symbols-preserved
symbols-preserved c = lists_symbol c.in-Some.first.now c.in-Some.after.now c.symbols.rest.now _ _ _ _ _ c.if-quoted.false c.in-Some.ensures.cases.0 c.in_ok-rest.ensures.text c.in_ok-rest.ensures.rest c.symbols.invariant
