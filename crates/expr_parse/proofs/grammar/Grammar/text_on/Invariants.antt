use Rattle.std.proofs.Common.{◌≡◌, ◌-◌, length}
use Rattle.expr_parse.specs.Parse.{expression, text_on}
use Rattle.expr_parse.proofs.grammar.Grammar.text_on.Given as goal

abbrev pub invariant-loop-turn : goal.invariant-loop-turn
invariant-loop-turn g l =
    text_on (expression l.self.depth) l.least (length l.fn.list.now) l.fn.whole l.fn.list.now ≡ text_on (expression l.self.depth) l.least (l._turn-end - l._turn) l.whole l.list.now
