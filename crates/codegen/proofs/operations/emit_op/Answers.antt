use Rattle.codegen.proofs.operations.emit_op.Goals as goal

pub returns-in-PushInteger : goal.returns-in-PushInteger
returns-in-PushInteger c = rw c.in-PushInteger.is c.emit_push_integer.ensures

pub returns-in-GosubIfOne : goal.returns-in-GosubIfOne
returns-in-GosubIfOne c = rw c.in-GosubIfOne.is c.emit_gosub_if_one.ensures

pub returns-in-OpenFor : goal.returns-in-OpenFor
returns-in-OpenFor c = rw c.in-OpenFor.is c.emit_open_for.ensures

pub returns-in-NextAny : goal.returns-in-NextAny
returns-in-NextAny c = rw c.in-NextAny.is c.emit_next_any.ensures

pub returns-in-Next : goal.returns-in-Next
returns-in-Next c = rw c.in-Next.is c.emit_next.ensures
