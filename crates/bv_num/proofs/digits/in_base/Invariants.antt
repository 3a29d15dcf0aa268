use Rattle.bv_num.proofs.DigitLoop.{IsLeft}
use Rattle.bv_num.proofs.digits.in_base.Given as goal

abbrev pub invariant-loop-rest : goal.invariant-loop-rest
invariant-loop-rest l = IsLeft l.base l.fn.n l.rest l.digits

abbrev pub decreases-loop-rest : goal.decreases-loop-rest
decreases-loop-rest l = l.rest
