use Rattle.std.proofs.Common.{length}
use Rattle.bas_lex.proofs.Cuts.{IsCutSoFar}
use Rattle.bas_lex.proofs.scan.symbols.Given as goal

abbrev pub invariant-pieces : goal.invariant-pieces
invariant-pieces l = IsCutSoFar l.asm l.text l.mode l.rest l.list.items

abbrev pub decreases-pieces : goal.decreases-pieces
decreases-pieces l = length l.rest
