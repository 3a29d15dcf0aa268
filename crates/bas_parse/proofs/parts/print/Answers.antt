use Rattle.std.proofs.Common.{rules, arith}
use Rattle.std.proofs.lemmas.Grind.{common_steps}
use Rattle.expr_parse.specs.Parse.{or_front}
use Rattle.expr_parse.proofs.Turns.{turn_left, turns_done}
use Rattle.bas_parse.specs.Statements.{print_from}
use Rattle.bas_parse.proofs.parts.print.Goals as goal

pub returns-in-None : goal.returns-in-None
unfolding print_from or_front
returns-in-None c =
    let e = turn_left (λ n. print_from n c.loop-turn.after c.loop-turn.parts c.loop-turn.list.now) _ c.loop-turn._turn c.loop-turn-test.true c.loop-turn.invariant in
    first_of (search rules, grind (arith, common_steps))

pub loop-turn-preserved : goal.loop-turn-preserved
unfolding print_from or_front
loop-turn-preserved c =
    let e = turn_left (λ n. print_from n c.loop-turn.after c.loop-turn.parts c.loop-turn.list.now) _ c.loop-turn._turn c.loop-turn-test.true c.loop-turn.invariant in
    first_of (search rules, grind (arith, common_steps))

pub returns : goal.returns
unfolding print_from or_front
returns c =
    let e = turns_done (λ n. print_from n c.loop-turn.after c.loop-turn.parts c.loop-turn.list.now) _ c.loop-turn._turn c.loop-turn-test.false c.loop-turn.invariant in
    first_of (search rules, grind (arith, common_steps))
