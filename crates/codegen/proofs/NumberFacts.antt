-- What the processor's results are as numbers of the language.
use Rattle.std.proofs.Common.{◌≡◌, ℕ, zero, suc, ◌+◌, ◌-◌, ◌%◌, ◌^◌, ◌<◌, ◌≤◌, ◌==◌, ◌&&◌, ◌⊎◌, inl, inr, nat_lt, List, drop, Bool, true, false, if◌then◌else◌, ℤ, pos, negsuc, neg_ℤ, ◌+ℤ◌, ◌-ℤ◌, unsigned_abs, Ok, Err, FitsSigned, refl, sym, ap, subst, ◌∙◌, arith, lt-ltb, ltb-true, ltb-false}
use Rattle.std.proofs.lemmas.Bool.{cases_lt}
use Rattle.std.proofs.lemmas.Bool.Decides.{Decides-int_eq, Decides-eqb}
use Rattle.std.proofs.lemmas.Int.{ints, of_z-to_z, wrapping_add-bits, wrapping_sub-bits, int_wrap_fits}
use Rattle.std.specs.Int.{w32}
use Rattle.std.specs.Int.Signed.{lt_z, le_z}
use Rattle.std.specs.Ordering.{int_eq}
use Rattle.std.specs.Prelude.{int_lt, int_le}
use Rattle.bas_sem.specs.Operators.{sign}
use Rattle.bv_num.specs.Bits.{pattern, signed, bitwise}
use Rattle.bv_num.specs.Operation.{Operation, too_big, division_by_zero, in_range, exact, divides, operation, complement}
use Rattle.bv_num.specs.Value.{front_value, begins_with, after_spaces, signed_value, value_of, in_word, data_value}
use Rattle.bv_num.proofs.OperationLaws.{in_range-fits}
use Rattle.arm2_alu.specs.Operations.{is_signed_word}
use Rattle.arm2_alu.proofs.ValueLaws.{minus, signed-low, signed-high}
use Rattle.runtime_lib.proofs.RangeLaws.{fits-word}

-- ---- range

pub signed-fits : (n : ℕ) → n < 2 ^ 32 → FitsSigned w32 (signed n)
signed-fits n small = omega (arith, ints, small)

-- ---- sums

pub sum-is : (a b : ℕ) → a < 2 ^ 32 → b < 2 ^ 32 → is_signed_word (signed a +ℤ signed b) ≡ true → signed ((a + b) % 2 ^ 32) ≡ signed a +ℤ signed b
sum-is a b low high e = wrapping_add-bits w32 a b low high ∙ int_wrap_fits w32 (signed a +ℤ signed b) (fits-word (signed a +ℤ signed b) e)

pub difference-is : (a b : ℕ) → a < 2 ^ 32 → b < 2 ^ 32 → is_signed_word (signed a -ℤ signed b) ≡ true → signed (minus a b) ≡ signed a -ℤ signed b
difference-is a b low high e = wrapping_sub-bits w32 a b low high ∙ int_wrap_fits w32 (signed a -ℤ signed b) (fits-word (signed a -ℤ signed b) e)

pub negated-is : (z : ℤ) → pos 0 -ℤ z ≡ neg_ℤ z
negated-is (pos zero) = refl
negated-is (pos (suc n)) = omega (arith, ints)
negated-is (negsuc n) = omega (arith, ints)

-- ---- bits

pub bits-are : (f : ℕ → ℕ → ℕ) (a b : ℕ) → a < 2 ^ 32 → b < 2 ^ 32 → f b a < 2 ^ 32 → in_range (bitwise f (signed b) (signed a)) ≡ Ok (signed (f b a))
bits-are f a b low high small =
    ap in_range (λ i. signed (f (of_z-to_z w32 b high i) (of_z-to_z w32 a low i))) ∙ in_range-fits (signed (f b a)) (signed-fits (f b a) small)

-- ---- comparisons

pub less-is : (x y : ℤ) → int_lt x y ≡ lt_z x y
less-is (pos a) (pos b) = refl
less-is (pos a) (negsuc b) = refl
less-is (negsuc a) (pos b) = refl
less-is (negsuc a) (negsuc b) = refl

pub less_or_equal-is : (x y : ℤ) → int_le x y ≡ le_z x y
less_or_equal-is (pos a) (pos b) = refl
less_or_equal-is (pos a) (negsuc b) = refl
less_or_equal-is (negsuc a) (pos b) = refl
less_or_equal-is (negsuc a) (negsuc b) = refl

pub equal-is : (a b : ℕ) → a < 2 ^ 32 → b < 2 ^ 32 → int_eq (signed a) (signed b) ≡ (a == b)
equal-is a b low high = by (int_eq (signed a) (signed b)) (a == b) (Decides-int_eq (signed a) (signed b)) (Decides-eqb a b)
  where
    forth : signed a ≡ signed b → a ≡ b
    forth e = sym (of_z-to_z w32 a low) ∙ ap pattern e ∙ of_z-to_z w32 b high

    by : (p q : Bool) → ((p ≡ true → signed a ≡ signed b) × (signed a ≡ signed b → p ≡ true)) → ((q ≡ true → a ≡ b) × (a ≡ b → q ≡ true)) → p ≡ q
    by true true d e = refl
    by false false d e = refl
    by true false d e = sym (e.1 (forth (d.0 refl)))
    by false true d e = d.1 (ap signed (e.0 refl))

-- two numbers are the same where their registers are
pub equal_by : (a b : ℕ) (x y : ℤ) → a < 2 ^ 32 → b < 2 ^ 32 → signed a ≡ x → signed b ≡ y → int_eq x y ≡ (a == b)
equal_by a b x y low high first second = (λ i. int_eq (sym first i) (sym second i)) ∙ equal-is a b low high

-- ---- errors

-- an error is a byte that isn't 0
abbrev pub IsKnown : ℕ → Type 0
IsKnown error = (0 < error) × (error < 256)

known : (error n : ℕ) → n ≡ error → IsKnown n → IsKnown error
known error n is = subst IsKnown is

range-errors : (t : Bool) (z : ℤ) (error : ℕ) → (if t then Ok z else Err too_big) ≡ Err error → IsKnown error
range-errors true z error e = absurd (cc e)
range-errors false z error e = known error too_big (cc e) (omega arith, omega arith)

pub operation-errors : (op : Operation) (x y : ℤ) (error : ℕ) → operation op x y ≡ Err error → IsKnown error
operation-errors op x y error e = by (divides op && (unsigned_abs y == 0)) e
  where
    by : (t : Bool) → (if t then Err division_by_zero else in_range (exact op x y)) ≡ Err error → IsKnown error
    by true e = known error division_by_zero (cc e) (omega arith, omega arith)
    by false e = range-errors _ (exact op x y) error e

-- that of an item of DATA is one
pub data-errors : (text : List ℕ) (error : ℕ) → data_value text ≡ Err error → IsKnown error
data-errors text error e = by (begins_with 38 text) e
  where
    by : (t : Bool) → (if t then in_word (front_value 16 (drop 1 text)) else value_of text) ≡ Err error → IsKnown error
    by true e = range-errors _ _ error e
    by false e = range-errors _ (signed_value (after_spaces text)) error e

-- ---- one number

pub complement-is : (r : ℕ) → r < 2 ^ 32 → complement (signed r) ≡ signed (2 ^ 32 - 1 - r)
complement-is r small = by (cases_lt r (2 ^ 31))
  where
    by : (r < 2 ^ 31) ⊎ (2 ^ 31 ≤ r) → complement (signed r) ≡ signed (2 ^ 32 - 1 - r)
    by (inl low) = ap complement (signed-low r low) ∙ ap (λ k. negsuc k) (omega (arith, small)) ∙ sym (signed-high (2 ^ 32 - 1 - r) (omega (arith, low)))
    by (inr high) = ap complement (signed-high r high) ∙ ap (λ k. pos k) (omega (arith, small)) ∙ sym (signed-low (2 ^ 32 - 1 - r) (omega (arith, high, small)))

pub abs-negative : (z : ℤ) → lt_z z (pos 0) ≡ true → pos (unsigned_abs z) ≡ pos 0 -ℤ z
abs-negative (pos n) e = absurd (let low = ltb-true n 0 e in omega (arith, low))
abs-negative (negsuc n) e = omega (arith, ints)

pub abs-positive : (z : ℤ) → lt_z z (pos 0) ≡ false → pos (unsigned_abs z) ≡ z
abs-positive (pos n) e = refl
abs-positive (negsuc n) e = absurd (cc e)

-- a sign, by two comparisons
abbrev pub sign_by : (above below : Bool) → ℤ
sign_by true below = pos 1
sign_by false true = negsuc 0
sign_by false false = pos 0

pub sign-is : (z : ℤ) → sign z ≡ sign_by (lt_z (pos 0) z) (lt_z z (pos 0))
sign-is (pos zero) = refl
sign-is (pos (suc n)) = ap (λ t. sign_by t (nat_lt (suc n) 0)) (sym (lt-ltb 0 (suc n) (omega arith)))
sign-is (negsuc n) = refl

-- a number is not on both sides of 0, and on neither where it is 0
pub never-both : (z : ℤ) → lt_z (pos 0) z ≡ true → lt_z z (pos 0) ≡ true → ⊥
never-both (pos n) above below = let low = ltb-true n 0 below in omega (arith, low)
never-both (negsuc n) above below = cc above

pub neither : (z : ℤ) → lt_z (pos 0) z ≡ false → lt_z z (pos 0) ≡ false → z ≡ pos 0
neither (pos n) above below = ap (λ k. pos k) (let high = ltb-false 0 n above in omega (arith, high))
neither (negsuc n) above below = absurd (cc below)
