use Rattle.bv_token.specs.Names.{is_in_name}
use Rattle.bas_lex.proofs.Runs.{reads_one}
use Rattle.bas_lex.proofs.name.skip_letters.Goals as goal

pub letters-preserved : goal.letters-preserved
letters-preserved c = reads_one is_in_name _ _ _ _ c.in-Some.ensures.1 c.in-Some.ensures.0 c.letters.invariant
