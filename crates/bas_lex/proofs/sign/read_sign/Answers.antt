use Rattle.bas_lex.proofs.Signs.{no_sign_yet, sign_step, all_signs}
use Rattle.bas_lex.proofs.sign.read_sign.Goals as goal

pub signs-init : goal.signs-init
signs-init c = no_sign_yet _

pub signs-preserved : goal.signs-preserved
signs-preserved c = sign_step c.signs.number c.sign_at.result.now c.args.text.now c.signs.found _ c.signs-test.true c.sign_at.ensures c.longer_sign-found.ensures c.signs.invariant

pub returns : goal.returns
returns c = all_signs c.signs.number c.args.text.now c.signs.found c.signs-test.false c.signs.invariant
