use Rattle.std.proofs.Common.{rules, arith}
use Rattle.std.proofs.lemmas.Grind.{common_steps}
use Rattle.expr_parse.specs.Parse.{expression, text_on, or_front}
use Rattle.expr_parse.proofs.Turns.{turn_left, turns_done}
use Rattle.expr_parse.proofs.grammar.Grammar.text_on.Goals as goal

pub returns-in-None : goal.returns-in-None
unfolding text_on or_front
returns-in-None g c =
    let e = turn_left (λ n. text_on (expression c.args.self.now.depth) c.args.least n c.loop-turn.whole c.loop-turn.list.now) _ c.loop-turn._turn c.loop-turn-test.true c.loop-turn.invariant in
    first_of (search rules, grind (arith, common_steps))

pub loop-turn-preserved : goal.loop-turn-preserved
unfolding text_on or_front
loop-turn-preserved g c =
    let e = turn_left (λ n. text_on (expression c.args.self.now.depth) c.args.least n c.loop-turn.whole c.loop-turn.list.now) _ c.loop-turn._turn c.loop-turn-test.true c.loop-turn.invariant in
    first_of (search rules, grind (arith, common_steps))

pub returns : goal.returns
unfolding text_on or_front
returns g c =
    let e = turns_done (λ n. text_on (expression c.args.self.now.depth) c.args.least n c.loop-turn.whole c.loop-turn.list.now) _ c.loop-turn._turn c.loop-turn-test.false c.loop-turn.invariant in
    first_of (search rules, grind (arith, common_steps))
