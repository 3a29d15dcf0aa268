use Rattle.std.proofs.Common.{◌≡◌, ◌+◌, length, drop}
use Rattle.ir_build.specs.Tables.{rows_among}
use Rattle.ir_build.proofs.ends.item_count.Given as goal

abbrev pub invariant-loop-i : goal.invariant-loop-i
invariant-loop-i l = length (rows_among l.lines) ≡ l.count + length (rows_among (drop l.i l.lines))
