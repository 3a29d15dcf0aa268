use Rattle.std.proofs.Common.{◌≡◌, ◌-◌, length}
use Rattle.expr_parse.specs.Parse.{expression, num_on}
use Rattle.expr_parse.proofs.grammar.Grammar.num_on.Given as goal

abbrev pub invariant-loop-turn : goal.invariant-loop-turn
invariant-loop-turn g l =
    num_on (expression l.self.depth) l.least (length l.fn.list.now) l.fn.left l.fn.whole l.fn.list.now ≡ num_on (expression l.self.depth) l.least (l._turn-end - l._turn) l.left l.whole l.list.now
