use Rattle.std.proofs.Common.{length}
use Rattle.bas_lex.proofs.Texts.{FindsLast}
use Rattle.bas_lex.proofs.text.find_closing.Given as goal

abbrev pub invariant-parts : goal.invariant-parts
invariant-parts l = FindsLast l.text l.rest l.last

abbrev pub decreases-parts : goal.decreases-parts
decreases-parts l = length l.rest
