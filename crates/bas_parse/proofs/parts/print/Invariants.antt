use Rattle.std.proofs.Common.{◌≡◌, ◌-◌}
use Rattle.bas_parse.specs.Statements.{print_at, print_from}
use Rattle.bas_parse.proofs.parts.print.Given as goal

abbrev pub invariant-loop-turn : goal.invariant-loop-turn
invariant-loop-turn l = print_at l.fn.list.now ≡ print_from (l._turn-end - l._turn) l.after l.parts l.list.now
