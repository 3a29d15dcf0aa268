use Rattle.std.proofs.Common.{rules, arith}
use Rattle.std.proofs.lemmas.Grind.{common_steps}
use Rattle.expr_parse.specs.Parse.{on_front, on_some}
use Rattle.bas_parse.specs.Operands.{formals_from}
use Rattle.expr_parse.proofs.Turns.{turn_left, turns_done}
use Rattle.bas_parse.proofs.formals.formals.Goals as goal

pub loop-turn-preserved : goal.loop-turn-preserved
unfolding formals_from on_front on_some
loop-turn-preserved c =
    let e = turn_left (λ n. formals_from n c.loop-turn.found c.loop-turn.list.now) _ c.loop-turn._turn c.loop-turn-test.true c.loop-turn.invariant in
    first_of (search rules, grind (arith, common_steps))

pub returns : goal.returns
unfolding formals_from on_front on_some
returns c =
    let e = turns_done (λ n. formals_from n c.loop-turn.found c.loop-turn.list.now) _ c.loop-turn._turn c.loop-turn-test.false c.loop-turn.invariant in
    first_of (search rules, grind (arith, common_steps))

pub returns-in_err-before : goal.returns-in_err-before
unfolding formals_from on_front on_some
returns-in_err-before c =
    let e = turn_left (λ n. formals_from n c.loop-turn.found c.loop-turn.list.now) _ c.loop-turn._turn c.loop-turn-test.true c.loop-turn.invariant in
    first_of (search rules, grind (arith, common_steps))

pub returns-then-is_ok : goal.returns-then-is_ok
unfolding formals_from on_front on_some
returns-then-is_ok c =
    let e = turn_left (λ n. formals_from n c.loop-turn.found c.loop-turn.list.now) _ c.loop-turn._turn c.loop-turn-test.true c.loop-turn.invariant in
    first_of (search rules, grind (arith, common_steps))

pub returns-in_err-found-2 : goal.returns-in_err-found-2
unfolding formals_from on_front on_some
returns-in_err-found-2 c =
    let e = turn_left (λ n. formals_from n c.loop-turn.found c.loop-turn.list.now) _ c.loop-turn._turn c.loop-turn-test.true c.loop-turn.invariant in
    first_of (search rules, grind (arith, common_steps))
