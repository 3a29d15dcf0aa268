-- What the machine's signed arithmetic of 64 bits gives on numbers of 32 bits.
use Rattle.std.proofs.Common.{◌≡◌, ◌≢◌, ℕ, zero, suc, ◌/◌, ◌≤◌, ◌^◌, ◌==◌, ℤ, pos, negsuc, ◌*ℤ◌, neg_ℤ, unsigned_abs, int_div, int_rem, FitsSigned, Result, Err, if◌then◌else◌, refl, sym, ap, ◌∙◌, arith}
use Rattle.std.specs.Int.{w32, w64, cast_signed, cast_unsigned}
use Rattle.std.proofs.lemmas.Int.{to_z-of_z, fits_signed_mul, fits_signed_from_abs, quot_is, rem_is}
use Rattle.std.proofs.Math.Dec.{eqb-suc-zero}
use Rattle.std.proofs.Math.Nat.{div-le_self}
use Rattle.bv_num.proofs.OperationLaws.{quotient_is, remainder_is}
use Rattle.bv_num.specs.Operation.{division_by_zero, in_range, quotient, remainder, operation, Divide, Remainder}

abs_of_neg : (n : ℕ) → unsigned_abs (neg_ℤ (pos n)) ≡ n
abs_of_neg zero = refl
abs_of_neg (suc n) = refl

-- no quotient is greater than its dividend
quotient-le : (a b : ℤ) → unsigned_abs (int_div a b) ≤ unsigned_abs a
quotient-le (pos a) (pos b) = div-le_self a b
quotient-le (pos a) (negsuc b) = omega (arith, abs_of_neg (a / suc b), div-le_self a (suc b))
quotient-le (negsuc a) (pos b) = omega (arith, abs_of_neg (suc a / b), div-le_self (suc a) b)
quotient-le (negsuc a) (negsuc b) = div-le_self (suc a) (suc b)

abs-le : (a : ℤ) → FitsSigned w32 a → unsigned_abs a ≤ 2 ^ 31
abs-le (pos a) fits = omega (arith, fits.sfits)
abs-le (negsuc a) fits = omega (arith, fits.sfits)

-- a number of 32 bits, as the machine widens it
fits_wide : (a x : ℤ) → FitsSigned w32 a → x ≡ cast_signed w32 (cast_unsigned w32 a) → FitsSigned w64 x
fits_wide a x fits is = fits_signed_from_abs w64 x (omega (arith, abs-le a fits, ap unsigned_abs (is ∙ to_z-of_z w32 a fits)))

-- an operation that doesn't divide by zero
divided : (b : ℤ) (z : ℤ) → cast_unsigned w32 b ≢ 0 → in_range z ≡ (if unsigned_abs b == 0 then Err division_by_zero else in_range z)
divided (pos zero) z other = absurd (other refl)
divided (pos (suc b)) z other = ap (λ t. if t then Err division_by_zero else in_range z) (sym (eqb-suc-zero b))
divided (negsuc b) z other = ap (λ t. if t then Err division_by_zero else in_range z) (sym (eqb-suc-zero b))

pub multiplies_wide : (a b x y : ℤ) (r : Result ℤ ℕ) → FitsSigned w32 a → FitsSigned w32 b
    → x ≡ cast_signed w32 (cast_unsigned w32 a) → y ≡ cast_signed w32 (cast_unsigned w32 b)
    → r ≡ in_range (cast_signed w64 (cast_unsigned w64 (cast_signed w64 (cast_unsigned w64 x) *ℤ cast_signed w64 (cast_unsigned w64 y))))
    → r ≡ in_range (a *ℤ b)
multiplies_wide a b x y r a_fits b_fits is_x is_y is =
    let same_x : x ≡ a = is_x ∙ to_z-of_z w32 a a_fits in
    let same_y : y ≡ b = is_y ∙ to_z-of_z w32 b b_fits in
    let wide_x = to_z-of_z w64 x (fits_wide a x a_fits is_x) ∙ same_x in
    let wide_y = to_z-of_z w64 y (fits_wide b y b_fits is_y) ∙ same_y in
    let small : FitsSigned w64 (a *ℤ b) = fits_signed_mul w64 a b (2 ^ 31) (2 ^ 31) (abs-le a a_fits) (abs-le b b_fits) (omega arith) in
    is ∙ ap in_range ((λ i. cast_signed w64 (cast_unsigned w64 (wide_x i *ℤ wide_y i))) ∙ to_z-of_z w64 (a *ℤ b) small)

pub divides_wide : (a b x y : ℤ) (r : Result ℤ ℕ) → FitsSigned w32 a → FitsSigned w32 b → cast_unsigned w32 b ≢ 0
    → x ≡ cast_signed w32 (cast_unsigned w32 a) → y ≡ cast_signed w32 (cast_unsigned w32 b)
    → r ≡ in_range (cast_signed w64 (cast_unsigned w64 (int_div (cast_signed w64 (cast_unsigned w64 x)) (cast_signed w64 (cast_unsigned w64 y)))))
    → r ≡ operation Divide a b
divides_wide a b x y r a_fits b_fits other is_x is_y is =
    let same_x : x ≡ a = is_x ∙ to_z-of_z w32 a a_fits in
    let same_y : y ≡ b = is_y ∙ to_z-of_z w32 b b_fits in
    let small : FitsSigned w64 (int_div x y) = fits_signed_from_abs w64 (int_div x y) (omega (arith, quotient-le x y, abs-le a a_fits, ap unsigned_abs same_x)) in
    is ∙ ap in_range (quot_is w64 x y (fits_wide a x a_fits is_x) (fits_wide b y b_fits is_y) small ∙ (λ i. int_div (same_x i) (same_y i)) ∙ sym (quotient_is a b))
    ∙ divided b (quotient a b) other

pub remains_wide : (a b x y : ℤ) (r : Result ℤ ℕ) → FitsSigned w32 a → FitsSigned w32 b → cast_unsigned w32 b ≢ 0
    → x ≡ cast_signed w32 (cast_unsigned w32 a) → y ≡ cast_signed w32 (cast_unsigned w32 b)
    → r ≡ in_range (cast_signed w64 (cast_unsigned w64 (int_rem (cast_signed w64 (cast_unsigned w64 x)) (cast_signed w64 (cast_unsigned w64 y)))))
    → r ≡ operation Remainder a b
remains_wide a b x y r a_fits b_fits other is_x is_y is =
    let same_x : x ≡ a = is_x ∙ to_z-of_z w32 a a_fits in
    let same_y : y ≡ b = is_y ∙ to_z-of_z w32 b b_fits in
    is ∙ ap in_range (rem_is w64 x y (fits_wide a x a_fits is_x) (fits_wide b y b_fits is_y) ∙ (λ i. int_rem (same_x i) (same_y i)) ∙ sym (remainder_is a b))
    ∙ divided b (remainder a b) other
