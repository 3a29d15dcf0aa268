use Rattle.std.proofs.Common.{◌≡◌, ◌-◌}
use Rattle.bas_parse.specs.Statements.{vdu_at, vdu_from}
use Rattle.bas_parse.proofs.parts.vdu.Given as goal

abbrev pub invariant-loop-turn : goal.invariant-loop-turn
invariant-loop-turn l = vdu_at l.fn.list.now ≡ vdu_from (l._turn-end - l._turn) l.parts l.list.now
