use Rattle.std.proofs.Common.{arith}
use Rattle.bv_num.proofs.DigitLoop.{left_first, left_next}
use Rattle.bv_num.proofs.digits.in_base.Goals as goal

pub loop-rest-init : goal.loop-rest-init
loop-rest-init c = left_first c.args.base c.args.n _ _ c.requires.least (omega arith) c.digit_byte.ensures c.of_byte-digits.ensures

pub loop-rest-preserved : goal.loop-rest-preserved
loop-rest-preserved c =
    left_next c.args.base c.args.n c.loop-rest.rest _ _ _ c.requires.least c.loop-rest-test.true c.digit_byte-in-loop-rest.ensures c.push_front.ensures c.loop-rest.invariant
