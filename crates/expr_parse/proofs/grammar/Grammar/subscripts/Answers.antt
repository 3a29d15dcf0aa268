use Rattle.std.proofs.Common.{rules, arith}
use Rattle.std.proofs.lemmas.Grind.{common_steps}
use Rattle.expr_parse.specs.Parse.{expression, subscripts_from, on_front, on_some}
use Rattle.expr_parse.proofs.Turns.{turn_left, turns_done}
use Rattle.expr_parse.proofs.grammar.Grammar.subscripts.Goals as goal

pub loop-turn-preserved : goal.loop-turn-preserved
unfolding subscripts_from on_front on_some
loop-turn-preserved g c =
    let e = turn_left (λ n. subscripts_from (expression c.args.self.now.depth) n c.loop-turn.found c.loop-turn.list.now) _ c.loop-turn._turn c.loop-turn-test.true c.loop-turn.invariant in
    first_of (search rules, grind (arith, common_steps))

pub returns : goal.returns
unfolding subscripts_from on_front on_some
returns g c =
    let e = turns_done (λ n. subscripts_from (expression c.args.self.now.depth) n c.loop-turn.found c.loop-turn.list.now) _ c.loop-turn._turn c.loop-turn-test.false c.loop-turn.invariant in
    first_of (search rules, grind (arith, common_steps))

pub returns-in_err-before : goal.returns-in_err-before
unfolding subscripts_from on_front on_some
returns-in_err-before g c =
    let e = turn_left (λ n. subscripts_from (expression c.args.self.now.depth) n c.loop-turn.found c.loop-turn.list.now) _ c.loop-turn._turn c.loop-turn-test.true c.loop-turn.invariant in
    first_of (search rules, grind (arith, common_steps))

pub returns-then-is_ok : goal.returns-then-is_ok
unfolding subscripts_from on_front on_some
returns-then-is_ok g c =
    let e = turn_left (λ n. subscripts_from (expression c.args.self.now.depth) n c.loop-turn.found c.loop-turn.list.now) _ c.loop-turn._turn c.loop-turn-test.true c.loop-turn.invariant in
    first_of (search rules, grind (arith, common_steps))

pub returns-in_err-found-2 : goal.returns-in_err-found-2
unfolding subscripts_from on_front on_some
returns-in_err-found-2 g c =
    let e = turn_left (λ n. subscripts_from (expression c.args.self.now.depth) n c.loop-turn.found c.loop-turn.list.now) _ c.loop-turn._turn c.loop-turn-test.true c.loop-turn.invariant in
    first_of (search rules, grind (arith, common_steps))
