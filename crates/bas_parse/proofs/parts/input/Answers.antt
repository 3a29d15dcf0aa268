use Rattle.std.proofs.Common.{rules, arith}
use Rattle.std.proofs.lemmas.Grind.{common_steps}
use Rattle.expr_parse.specs.Parse.{on_front, on_some}
use Rattle.expr_parse.proofs.Turns.{turn_left, turns_done}
use Rattle.bas_parse.specs.Statements.{input_from}
use Rattle.bas_parse.proofs.parts.input.Goals as goal

pub returns-in_err-before : goal.returns-in_err-before
unfolding input_from on_front on_some
returns-in_err-before c =
    let e = turn_left (λ n. input_from n c.loop-turn.prompted c.loop-turn.parts c.loop-turn.list.now) _ c.loop-turn._turn c.loop-turn-test.true c.loop-turn.invariant in
    first_of (search rules, grind (arith, common_steps))

pub loop-turn-preserved : goal.loop-turn-preserved
unfolding input_from on_front on_some
loop-turn-preserved c =
    let e = turn_left (λ n. input_from n c.loop-turn.prompted c.loop-turn.parts c.loop-turn.list.now) _ c.loop-turn._turn c.loop-turn-test.true c.loop-turn.invariant in
    first_of (search rules, grind (arith, common_steps))

pub returns : goal.returns
unfolding input_from on_front on_some
returns c =
    let e = turns_done (λ n. input_from n c.loop-turn.prompted c.loop-turn.parts c.loop-turn.list.now) _ c.loop-turn._turn c.loop-turn-test.false c.loop-turn.invariant in
    first_of (search rules, grind (arith, common_steps))

pub returns-else-more : goal.returns-else-more
unfolding input_from on_front on_some
returns-else-more c =
    let e = turn_left (λ n. input_from n c.loop-turn.prompted c.loop-turn.parts c.loop-turn.list.now) _ c.loop-turn._turn c.loop-turn-test.true c.loop-turn.invariant in
    first_of (search rules, grind (arith, common_steps))
