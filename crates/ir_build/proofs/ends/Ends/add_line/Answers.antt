use Rattle.std.proofs.Common.{refl, ◌-◌, ◌∙◌, length}
use Rattle.ir_build.proofs.EndTables.{line_end_added}
use Rattle.ir_build.proofs.ends.Ends.add_line.Goals as goal

pub loop-i-preserved : goal.loop-i-preserved
loop-i-preserved c = (
  λ line rest are.
      line_end_added c.loop-i.self c.add_item.new.self line c.args.first c.in_ok-plus.field-0 (length c.args.items.now - 1 - c.loop-i.i) c.loop-i.i c.args.items.now
      c.index-items-at.result rest c.loop-i-test.true refl c.index-items-at.is c.in_ok-plus.ensures (c.in_ok-add_item.ensures.ends line) (c.loop-i.invariant.0 line rest are),
  c.in_ok-add_item.ensures.total ∙ c.loop-i.invariant.1,
)
