use Rattle.std.proofs.Common.{◌≡◌, ◌-◌}
use Rattle.bas_parse.specs.Operands.{list_of, list_from}
use Rattle.bas_parse.proofs.rows.list_of.Given as goal

abbrev pub invariant-loop-turn : goal.invariant-loop-turn
invariant-loop-turn g l = list_of g.O.Operand.at_front l.fn.list.now ≡ list_from g.O.Operand.at_front (l._turn-end - l._turn) l.found l.list.now
