use Rattle.std.proofs.Common.{◌≡◌, ◌-◌}
use Rattle.expr_parse.specs.Parse.{expression, subscripts, subscripts_from}
use Rattle.expr_parse.proofs.grammar.Grammar.subscripts.Given as goal

abbrev pub invariant-loop-turn : goal.invariant-loop-turn
invariant-loop-turn g l = subscripts (expression l.self.depth) l.fn.list.now ≡ subscripts_from (expression l.self.depth) (l._turn-end - l._turn) l.found l.list.now
