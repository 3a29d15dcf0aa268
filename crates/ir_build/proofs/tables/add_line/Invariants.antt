use Rattle.std.proofs.Common.{◌≡◌, ◌+◌, drop}
use Rattle.ir_build.specs.Code.{codes_from}
use Rattle.ir_build.specs.Tables.{with_codes, rows_of, line_rows}
use Rattle.ir_build.proofs.tables.add_line.Given as goal

abbrev pub invariant-loop-i : goal.invariant-loop-i
invariant-loop-i l =
    with_codes l.initial.tables (codes_from l.prog l.first (line_rows l.line))
    ≡ with_codes l.tables (codes_from l.prog (l.first + l.i) (rows_of l.line.number (drop l.i l.items)))
