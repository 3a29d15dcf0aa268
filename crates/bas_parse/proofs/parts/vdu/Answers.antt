use Rattle.std.proofs.Common.{rules, arith}
use Rattle.std.proofs.lemmas.Grind.{common_steps}
use Rattle.expr_parse.specs.Parse.{on_front, on_some}
use Rattle.expr_parse.proofs.Turns.{turn_left, turns_done}
use Rattle.bas_parse.specs.Statements.{vdu_from}
use Rattle.bas_parse.proofs.parts.vdu.Goals as goal

pub returns-in_err-before : goal.returns-in_err-before
unfolding vdu_from on_front on_some
returns-in_err-before c =
    let e = turn_left (λ n. vdu_from n c.loop-turn.parts c.loop-turn.list.now) _ c.loop-turn._turn c.loop-turn-test.true c.loop-turn.invariant in
    first_of (search rules, grind (arith, common_steps))

pub loop-turn-preserved : goal.loop-turn-preserved
unfolding vdu_from on_front on_some
loop-turn-preserved c =
    let e = turn_left (λ n. vdu_from n c.loop-turn.parts c.loop-turn.list.now) _ c.loop-turn._turn c.loop-turn-test.true c.loop-turn.invariant in
    first_of (search rules, grind (arith, common_steps))

pub returns : goal.returns
unfolding vdu_from on_front on_some
returns c =
    let e = turns_done (λ n. vdu_from n c.loop-turn.parts c.loop-turn.list.now) _ c.loop-turn._turn c.loop-turn-test.false c.loop-turn.invariant in
    first_of (search rules, grind (arith, common_steps))

pub returns-then-ended : goal.returns-then-ended
unfolding vdu_from on_front on_some
returns-then-ended c =
    let e = turn_left (λ n. vdu_from n c.loop-turn.parts c.loop-turn.list.now) _ c.loop-turn._turn c.loop-turn-test.true c.loop-turn.invariant in
    first_of (search rules, grind (arith, common_steps))

pub returns-else-is_ok-2 : goal.returns-else-is_ok-2
unfolding vdu_from on_front on_some
returns-else-is_ok-2 c =
    let e = turn_left (λ n. vdu_from n c.loop-turn.parts c.loop-turn.list.now) _ c.loop-turn._turn c.loop-turn-test.true c.loop-turn.invariant in
    first_of (search rules, grind (arith, common_steps))
