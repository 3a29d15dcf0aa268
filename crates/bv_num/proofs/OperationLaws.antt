-- What the definitions of arithmetic say.
use Rattle.std.proofs.Common.{◌≡◌, ℕ, Bool, true, false, ◌&&◌, lt-ltb, ℤ, pos, negsuc, ◌+ℤ◌, ◌*ℤ◌, int_div, int_rem, FitsSigned, Result, Ok, Err, IfOk, if◌then◌else◌, refl, sym, ap, subst, ◌∙◌, arith}
use Rattle.std.specs.Int.{w32}
use Rattle.std.proofs.lemmas.Int.{quot-rem}
use Rattle.std.proofs.lemmas.Bool.{le-leb}
use Rattle.bv_num.specs.Operation.{division_by_zero, too_big, in_range, quotient, remainder, operation, Remainder}

-- the definition's quotient and remainder are those of std
pub quotient_is : (a b : ℤ) → quotient a b ≡ int_div a b
quotient_is (pos a) (pos b) = refl
quotient_is (pos a) (negsuc b) = refl
quotient_is (negsuc a) (pos b) = refl
quotient_is (negsuc a) (negsuc b) = refl

pub remainder_is : (a b : ℤ) → remainder a b ≡ int_rem a b
remainder_is (pos a) b = refl
remainder_is (negsuc a) b = refl

-- a number of 32 bits is in range
pub in_range-fits : (z : ℤ) → FitsSigned w32 z → in_range z ≡ Ok z
in_range-fits (pos n) fits = ap (λ t. if t then Ok (pos n) else Err too_big) (lt-ltb n 2147483648 fits.sfits)
in_range-fits (negsuc n) fits = ap (λ t. if t && true then Ok (negsuc n) else Err too_big) (le-leb n 2147483647 (omega (arith, fits.sfits)))

-- the quotient and the remainder make up the dividend
pub dividend_is : (a b : ℤ) → quotient a b *ℤ b +ℤ remainder a b ≡ a
dividend_is a b = (λ i. quotient_is a b i *ℤ b +ℤ remainder_is a b i) ∙ quot-rem a b

-- so a remainder that is answered is what the quotient leaves
pub remainder_leaves : (a b : ℤ) (r : Result ℤ ℕ) → r ≡ operation Remainder a b → IfOk r (λ z. quotient a b *ℤ b +ℤ z ≡ a)
remainder_leaves a b r is = subst (λ s. IfOk s (λ z. quotient a b *ℤ b +ℤ z ≡ a)) (sym is) (unless _ (range _))
  where
    range : (t : Bool) → IfOk (if t then Ok (remainder a b) else Err too_big) (λ z. quotient a b *ℤ b +ℤ z ≡ a)
    range true = dividend_is a b
    range false = tt

    unless : (t : Bool) → IfOk (in_range (remainder a b)) (λ z. quotient a b *ℤ b +ℤ z ≡ a) → IfOk (if t then Err division_by_zero else in_range (remainder a b)) (λ z. quotient a b *ℤ b +ℤ z ≡ a)
    unless true h = tt
    unless false h = h
