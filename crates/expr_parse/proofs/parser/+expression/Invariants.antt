use Rattle.expr_parse.proofs.parser.+expression.Given as goal

abbrev pub decreases-expression : goal.decreases-expression
decreases-expression l = l.depth
