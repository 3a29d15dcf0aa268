use Rattle.std.proofs.Common.{◌+◌, ◌-◌, length, ap, sym, ◌∙◌}
use Rattle.bas_parse.specs.Runs.{items_from, at_end, with_found}
use Rattle.bas_parse.specs.Steps.{step}
use Rattle.expr_parse.proofs.Turns.{turn_left, turns_done}
use Rattle.bas_parse.proofs.CompleteLines.{items_next}
use Rattle.bas_parse.proofs.Loop.{read_some, read_none, items_out, items_stuck}
use Rattle.bas_parse.proofs.runs.items.Goals as goal

pub returns-in-None : goal.returns-in-None
returns-in-None c =
    let read = read_none (step c.loop-turn.place c.loop-turn.rest.now) c.step.result c.step.new.list.now c.optional.result c.with.result c.loop-turn.found
    c.in_ok-before.before c.in_ok-before.next c.step.ensures c.optional.ensures c.with.ensures c.in_ok-before.was c.in-None.is in
    c.at_end.ensures ∙ (ap (λ found. at_end found c.loop-turn.rest.now) read.0
    ∙ sym (turn_left (λ n. items_from n c.loop-turn.place c.loop-turn.found c.loop-turn.rest.now) _ c.loop-turn._turn c.loop-turn-test.true c.loop-turn.invariant
    ∙ items_stuck _ c.loop-turn.place c.loop-turn.found c.loop-turn.rest.now read.1))

pub loop-turn-preserved : goal.loop-turn-preserved
loop-turn-preserved c =
    let read = read_some (step c.loop-turn.place c.loop-turn.rest.now) c.step.result c.step.new.list.now c.optional.result c.with.result c.loop-turn.found
    c.in_ok-before.before c.in_ok-before.next (c.in-Some.item, c.in-Some.place_after)
    c.step.ensures c.optional.ensures c.with.ensures c.in_ok-before.was c.in-Some.is in
    turn_left (λ n. items_from n c.loop-turn.place c.loop-turn.found c.loop-turn.rest.now) _ c.loop-turn._turn c.loop-turn-test.true c.loop-turn.invariant
    ∙ (items_next _ c.loop-turn.place c.in-Some.place_after c.loop-turn.found c.in-Some.item c.loop-turn.rest.now c.step.new.list.now read.1
    ∙ ap (λ w. items_from (length c.args.list.now - (c.loop-turn._turn + 1)) c.in-Some.place_after w c.step.new.list.now)
    (sym (c.in_ok-found-in-Some.ensures ∙ ap (λ w. with_found w c.in-Some.item) read.0)))

pub returns : goal.returns
returns c = c.at_end-2.ensures
    ∙ sym (turns_done (λ n. items_from n c.loop-turn.place c.loop-turn.found c.loop-turn.rest.now) _ c.loop-turn._turn c.loop-turn-test.false
    c.loop-turn.invariant
    ∙ items_out c.loop-turn.place c.loop-turn.found c.loop-turn.rest.now)
