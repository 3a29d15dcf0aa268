use Rattle.std.proofs.Common.{◌≡◌, ◌-◌}
use Rattle.bas_parse.specs.Operands.{formals_at, formals_from}
use Rattle.bas_parse.proofs.formals.formals.Given as goal

abbrev pub invariant-loop-turn : goal.invariant-loop-turn
invariant-loop-turn l = formals_at l.fn.list.now ≡ formals_from (l._turn-end - l._turn) l.found l.list.now
