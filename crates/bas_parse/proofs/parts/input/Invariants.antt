use Rattle.std.proofs.Common.{◌≡◌, ◌-◌}
use Rattle.bas_parse.specs.Statements.{input_at, input_from}
use Rattle.bas_parse.proofs.parts.input.Given as goal

abbrev pub invariant-loop-turn : goal.invariant-loop-turn
invariant-loop-turn l = input_at l.fn.list.now ≡ input_from (l._turn-end - l._turn) l.prompted l.parts l.list.now
