use Rattle.std.proofs.Common.{length}
use Rattle.token_file.proofs.SoFar.{IsReadSoFar}
use Rattle.token_file.proofs.read.read_file.Given as goal

abbrev pub invariant-records : goal.invariant-records
invariant-records l = IsReadSoFar l.bytes l.lines.items l.rest

abbrev pub decreases-records : goal.decreases-records
decreases-records l = length l.rest
