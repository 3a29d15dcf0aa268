use Rattle.std.proofs.Common.{arith, Some}
use Rattle.basv_crunch.proofs.FirstParts.{first_within}
use Rattle.basv_crunch.proofs.Bodies.{so_far_first, so_far_next, so_far_done, so_far_fails, not_nil, is_nil}
use Rattle.basv_crunch.proofs.body.crunch_body.Goals as goal

pub parts-init : goal.parts-init
parts-init c = rw c.new-tokens.ensures.items (so_far_first c.args.body.now)

pub returns-in_default : goal.returns-in_default
returns-in_default c = so_far_fails c.args.body.now c.parts.place c.parts.rest.now c.parts.tokens.items (not_nil _ _ c.is_empty.ensures c.parts-test.true) c.in_default.ensures c.parts.invariant

pub split_at-requires : goal.split_at-requires
split_at-requires c = (first_within c.parts.place c.parts.rest.now (Some c.in-Some.part) c.in-Some.ensures).1

pub parts-smaller : goal.parts-smaller
parts-smaller c =
    let size = first_within c.parts.place c.parts.rest.now (Some c.in-Some.part) c.in-Some.ensures in
    omega (arith, size.0, size.1, c.split_at.ensures.back_len)

pub parts-preserved : goal.parts-preserved
parts-preserved c =
    so_far_next c.args.body.now c.parts.place c.after_part-place.result c.parts.rest.now c.split_at.result.1.now c.split_at.result.0.now c.parts.tokens.items c.push_part.new.tokens.items c.in-Some.part (not_nil _ _ c.is_empty.ensures c.parts-test.true) c.in-Some.ensures c.split_at.ensures.front c.split_at.ensures.back c.in_ok-push_part.ensures c.after_part-place.ensures c.parts.invariant

pub returns : goal.returns
returns c = so_far_done c.args.body.now c.parts.place c.parts.rest.now c.parts.tokens.items (is_nil _ _ c.is_empty.ensures c.parts-test.false) c.parts.invariant
