use Rattle.std.proofs.Common.{◌≡◌, ◌++◌, drop}
use Rattle.expr_parse.specs.Terminals.{terminals_from}
use Rattle.expr_parse.proofs.classify.terminals.Given as goal

abbrev pub invariant-loop-i : goal.invariant-loop-i
invariant-loop-i l = terminals_from l.labels l.text 0 l.syms ≡ l.found ++ terminals_from l.labels l.text l.i (drop l.i l.syms)
