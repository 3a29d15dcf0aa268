use Rattle.bv_num.specs.declared.value.TheConstants.{WORD_VALUES}
use Rattle.bv_num.proofs.Fronts.{IsRead}
use Rattle.bv_num.proofs.value.digit_run.Given as goal

abbrev pub invariant-loop-byte : goal.invariant-loop-byte
invariant-loop-byte l = IsRead WORD_VALUES l.base l.text l.value l.byte-index l.count
