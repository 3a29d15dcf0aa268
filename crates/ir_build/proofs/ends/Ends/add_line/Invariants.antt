use Rattle.std.proofs.Common.{◌≡◌, ℕ, ◌+◌, ◌-◌, List, ◌++◌, length, drop}
use Rattle.bas_sem.specs.Places.{Row}
use Rattle.ir_build.specs.Ends.{AreEnds}
use Rattle.ir_build.specs.Tables.{rows_of}
use Rattle.ir_build.proofs.ends.Ends.add_line.Given as goal

abbrev pub invariant-loop-i : goal.invariant-loop-i
invariant-loop-i l =
    ((line : ℕ) (rest : List Row) → AreEnds l.initial.self rest (l.first + length l.items)
    → AreEnds l.self (rows_of line (drop (length l.items - l.i) l.items) ++ rest) (l.first + (length l.items - l.i)))
    × (l.self.total ≡ l.initial.self.total)
