-- What the processor's range of signed words says of in_range.
use Rattle.std.proofs.Common.{◌≡◌, ◌^◌, ◌&&◌, true, false, if◌then◌else◌, ℤ, pos, negsuc, Ok, Err, FitsSigned, ap, arith, ltb-true, ltb-false}
use Rattle.std.proofs.lemmas.Bool.{lt-leb}
use Rattle.std.specs.Int.{w32}
use Rattle.bv_num.specs.Operation.{too_big, in_range}
use Rattle.bv_num.proofs.OperationLaws.{in_range-fits}
use Rattle.arm2_alu.specs.Operations.{is_signed_word}

pub fits-word : (z : ℤ) → is_signed_word z ≡ true → FitsSigned w32 z
fits-word (pos n) e = record { sfits = ltb-true n (2 ^ 31) e }
fits-word (negsuc n) e = record { sfits = ltb-true n (2 ^ 31) e }

pub in_range-word : (z : ℤ) → is_signed_word z ≡ true → in_range z ≡ Ok z
in_range-word z e = in_range-fits z (fits-word z e)

pub in_range-no_word : (z : ℤ) → is_signed_word z ≡ false → in_range z ≡ Err too_big
in_range-no_word (pos n) e = ap (λ t. if t then Ok (pos n) else Err too_big) e
in_range-no_word (negsuc n) e = ap (λ t. if t && true then Ok (negsuc n) else Err too_big) (lt-leb n 2147483647 (let low = ltb-false n (2 ^ 31) e in omega (arith, low)))
