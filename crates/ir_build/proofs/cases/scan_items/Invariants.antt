use Rattle.std.proofs.Common.{◌≡◌, ◌+◌, List, ◌++◌, Some, drop}
use Rattle.bas_sem.specs.Places.{Row}
use Rattle.ir_build.specs.Branches.{branches_left}
use Rattle.ir_build.specs.Tables.{rows_of}
use Rattle.ir_build.proofs.cases.scan_items.Given as goal

abbrev pub invariant-loop-i : goal.invariant-loop-i
invariant-loop-i l =
    (rest : List Row) → l.ops ++ branches_left l.prog (Some l.left) (rows_of l.line (drop l.i l.items) ++ rest) (l.first + l.i)
    ≡ l.initial.ops ++ branches_left l.prog (Some l.depth) (rows_of l.line l.items ++ rest) l.first
