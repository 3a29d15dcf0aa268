use Rattle.std.proofs.Common.{◌≡◌, ◌-◌, length}
use Rattle.bas_parse.specs.Runs.{items_from}
use Rattle.bas_parse.proofs.runs.items.Given as goal

abbrev pub invariant-loop-turn : goal.invariant-loop-turn
invariant-loop-turn l = items_from (length l.list) l.fn.place l.fn.read l.list ≡ items_from (l._turn-end - l._turn) l.place l.found l.rest
