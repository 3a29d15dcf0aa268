use Rattle.std.proofs.Common.{length}
use Rattle.bv_token.specs.Names.{is_in_name}
use Rattle.bas_lex.proofs.Runs.{ReadsRun}
use Rattle.bas_lex.proofs.name.skip_letters.Given as goal

abbrev pub invariant-letters : goal.invariant-letters
invariant-letters l = ReadsRun is_in_name l.text l.rest

abbrev pub decreases-letters : goal.decreases-letters
decreases-letters l = length l.rest
