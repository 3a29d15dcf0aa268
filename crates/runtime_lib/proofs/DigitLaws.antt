-- The digits of a number by powers of the base, in plain numbers.
use Rattle.std.proofs.Common.{◌≡◌, ℕ, ◌+◌, ◌*◌, ◌/◌, ◌%◌, ◌^◌, ◌<◌, ◌≤◌, List, [], ◌∷◌, ◌++◌, sym, ap, ◌∙◌, arith}
use Rattle.std.specs.Int.Digits.{digits_of}
use Rattle.std.proofs.lemmas.Int.Digits.{digits_of_step}
use Rattle.std.proofs.lemmas.Nat.{le-div}
use Rattle.std.proofs.Math.Nat.{div-eq_of_lt, mod-eq_of_lt, div-add-mod, div-div-eq-div-mul, mul-le-mul_left}
use Rattle.arm_isa.specs.Immediates.{immediate_value}
use Rattle.runtime_lib.specs.Digits.{Power, sum_with, power_value}

-- powers that fall from one to the base, each a part of the one before
abbrev pub Descend : ℕ → ℕ → List Power → Type 0
Descend base above [] = above ≡ base
Descend base above (p ∷ ps) = (power_value p * base ≡ above) × (0 < power_value p) × (power_value p < 2 ^ 32) × Descend base (power_value p) ps

pub sum_with-le : (x : ℕ) (fields : List ℕ) → x ≤ sum_with x fields
sum_with-le x [] = omega arith
sum_with-le x (field ∷ fields) = let more = sum_with-le (x + immediate_value field) fields in omega (arith, more)

module _ (base v above n : ℕ) (least : 2 ≤ base) (some : 0 < v) (is : v * base ≡ above) where
  quotient_is : n / v / base ≡ n / above
  quotient_is = div-div-eq-div-mul n v base ∙ ap (λ k. n / k) is

  above_great : v ≤ above
  above_great = let most = mul-le-mul_left v least in omega (arith, most, is)

  low_above : n < v → n < above
  low_above low = omega (arith, low, above_great)

  -- a power that the number reaches gives a digit
  pub reached : v ≤ n → digits_of base (n / v) ≡ digits_of base (n / above) ++ n / v % base ∷ []
  reached great =
      digits_of_step base (n / v) least (le-div 1 n v some (omega (arith, great)))
      ∙ (λ i. digits_of base (quotient_is i) ++ n / v % base ∷ [])

  -- and another one none
  pub passed : n < v → digits_of base (n / v) ≡ digits_of base (n / above)
  passed low = let lower = low_above low in ap (digits_of base) (div-eq_of_lt low ∙ sym (div-eq_of_lt lower))

  pub passed_rest : n < v → n % above ≡ n % v
  passed_rest low = mod-eq_of_lt (low_above low) ∙ sym (mod-eq_of_lt low)

  -- what is left is the digit times the power, and the rest
  pub rest_is : n % above ≡ n / v % base * v + n % v
  rest_is =
      let d = n / v % base in
      let q = n / above in
      let whole = div-add-mod n above in
      let parts = div-add-mod n v in
      let digits : base * q + d ≡ n / v = ap (λ k. base * k + d) (sym quotient_is) ∙ div-add-mod (n / v) base in
      let product : v * (n / v) ≡ v * base * q + v * d = ap (λ k. v * k) (sym digits) ∙ omega arith in
      let power : v * base * q ≡ above * q = ap (λ k. k * q) is in
      omega (arith, whole, parts, product, power)
