use Rattle.std.proofs.Common.{length}
use Rattle.basv_crunch.proofs.Bodies.{IsSoFar}
use Rattle.basv_crunch.proofs.body.crunch_body.Given as goal

abbrev pub invariant-parts : goal.invariant-parts
invariant-parts l = IsSoFar l.body l.place l.rest l.tokens.items

abbrev pub decreases-parts : goal.decreases-parts
decreases-parts l = length l.rest
