use Rattle.std.proofs.Common.{length}
use Rattle.basv_crunch.proofs.Texts.{IsSoFar}
use Rattle.basv_crunch.proofs.text.crunch.Given as goal

abbrev pub invariant-pieces : goal.invariant-pieces
invariant-pieces l = IsSoFar l.text l.rest l.lines.items l.number

abbrev pub decreases-pieces : goal.decreases-pieces
decreases-pieces l = length l.rest
