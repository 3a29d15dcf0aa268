use Rattle.ir_build.proofs.TableSteps.{mark_added}
use Rattle.ir_build.proofs.tables.push_marks.Goals as goal

pub loop-i-preserved : goal.loop-i-preserved
loop-i-preserved c = mark_added c.loop-i.is_first c.args.code.now c.loop-i.i c.loop-i.marks _ _ c.loop-i-test.true c.in_ok-push.ensures.ok c.loop-i.invariant
