use Rattle.std.proofs.Common.{◌≡◌, ◌++◌, Some, drop}
use Rattle.ir_build.specs.Branches.{branches_left}
use Rattle.ir_build.specs.Tables.{rows_among}
use Rattle.ir_build.proofs.cases.scan_lines.Given as goal

abbrev pub invariant-loop-i : goal.invariant-loop-i
invariant-loop-i l =
    l.initial.ops ++ branches_left l.prog (Some l.depth) (rows_among l.lines) l.first ≡ l.ops ++ branches_left l.prog (Some l.left) (rows_among (drop l.i l.lines)) l.place
