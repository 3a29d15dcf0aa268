use Rattle.std.proofs.Common.{◌≡◌, false, drop}
use Rattle.profile_check.specs.Tables.{lists_of, number_line}
use Rattle.profile_check.proofs.NumberSteps.{after_terminals}
use Rattle.profile_check.proofs.tables.number_line.Given as goal

abbrev pub invariant-loop-i : goal.invariant-loop-i
invariant-loop-i l =
    number_line l.line l.text false l.symbols l.terminals (lists_of l.initial.tables)
    ≡ after_terminals l.list (number_line l.line l.text l.in_data (drop l.i l.symbols) (drop l.i l.terminals) (lists_of l.tables))
