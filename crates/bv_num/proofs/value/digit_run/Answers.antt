use Rattle.bv_num.specs.declared.value.TheConstants.{WORD_VALUES}
use Rattle.bv_num.proofs.Fronts.{front_start, front_step}
use Rattle.bv_num.proofs.value.digit_run.Goals as goal

pub loop-byte-init : goal.loop-byte-init
loop-byte-init c = front_start WORD_VALUES c.args.base c.args.text.now

pub loop-byte-preserved : goal.loop-byte-preserved
loop-byte-preserved c =
    front_step WORD_VALUES c.args.base c.loop-byte.value c.loop-byte.byte-index c.loop-byte.count c.from.result c.min-value.result c.in-Some.digit c.args.text.now c.requires.least c.loop-byte-test.true c.from.ensures c.in-Some.ensures.value.0 c.in-Some.ensures.value.1 (cc) c.loop-byte.invariant
