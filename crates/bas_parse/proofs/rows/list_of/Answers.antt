use Rattle.std.proofs.Common.{rules, arith}
use Rattle.std.proofs.lemmas.Grind.{common_steps}
use Rattle.expr_parse.specs.Parse.{on_front, on_some}
use Rattle.expr_parse.proofs.Turns.{turn_left, turns_done}
use Rattle.bas_parse.specs.Operands.{list_from}
use Rattle.bas_parse.proofs.rows.list_of.Goals as goal

pub loop-turn-preserved : goal.loop-turn-preserved
unfolding list_from on_front on_some
loop-turn-preserved g c =
    let e = turn_left (λ n. list_from g.O.Operand.at_front n c.loop-turn.found c.loop-turn.list.now) _ c.loop-turn._turn c.loop-turn-test.true c.loop-turn.invariant in
    first_of (search rules, grind (arith, common_steps))

pub returns : goal.returns
unfolding list_from on_front on_some
returns g c =
    let e = turns_done (λ n. list_from g.O.Operand.at_front n c.loop-turn.found c.loop-turn.list.now) _ c.loop-turn._turn c.loop-turn-test.false c.loop-turn.invariant in
    first_of (search rules, grind (arith, common_steps))

pub returns-in_err-before : goal.returns-in_err-before
unfolding list_from on_front on_some
returns-in_err-before g c =
    let e = turn_left (λ n. list_from g.O.Operand.at_front n c.loop-turn.found c.loop-turn.list.now) _ c.loop-turn._turn c.loop-turn-test.true c.loop-turn.invariant in
    first_of (search rules, grind (arith, common_steps))

pub returns-then-is_err : goal.returns-then-is_err
unfolding list_from on_front on_some
returns-then-is_err g c =
    let e = turn_left (λ n. list_from g.O.Operand.at_front n c.loop-turn.found c.loop-turn.list.now) _ c.loop-turn._turn c.loop-turn-test.true c.loop-turn.invariant in
    first_of (search rules, grind (arith, common_steps))
