-- Shifts by any amount, from the machine's shifts by less than 32.
use Rattle.std.proofs.Common.{◌≡◌, ℕ, ◌+◌, ◌-◌, ◌*◌, ◌/◌, ◌%◌, ◌<◌, ◌≤◌, ◌^◌, min, Bool, true, false, nat_lt, ltb-false, ltb-true, ℤ, pos, negsuc, FitsSigned, if◌then◌else◌, refl, sym, ap, ◌∙◌, arith, add-zero}
use Rattle.std.specs.Int.{w32, cast_signed, cast_unsigned, int_shl, int_shr}
use Rattle.std.proofs.lemmas.Int.{to_z-of_z}
use Rattle.std.proofs.lemmas.Nat.{pow-add, mod_low}
use Rattle.std.proofs.Math.Nat.{mul_assoc, div-eq_of_lt, pow-le-pow_right}
use Rattle.bv_num.specs.declared.shifts.ShiftKind.{ShiftKind}
use Rattle.bv_num.specs.declared.shifts.ShiftKind.TheVariants.{Left, Right, RightLogical}
use Rattle.bv_num.specs.Bits.{pattern, signed}
use Rattle.bv_num.specs.Shift.{floor_quotient, shifted}

-- what moves up by 32 places or more is gone
moved_out : (p k : ℕ) → 32 ≤ k → p * 2 ^ k % 2 ^ 32 ≡ 0
moved_out p k far =
    let split : 2 ^ k ≡ 2 ^ (k - 32) * 2 ^ 32 = ap (λ n. 2 ^ n) (let e : k ≡ k - 32 + 32 = omega arith in e) ∙ pow-add 2 (k - 32) 32 in
    ap (λ q. q % 2 ^ 32) (ap (λ q. p * q) split ∙ sym (mul_assoc p (2 ^ (k - 32)) (2 ^ 32)) ∙ sym (add-zero _)) ∙ mod_low (p * 2 ^ (k - 32)) 32 0 (omega arith)

-- what moves down by all its places is gone
moved_down : (p j k : ℕ) → p < 2 ^ j → j ≤ k → p / 2 ^ k ≡ 0
moved_down p j k small far =
    let grows : 2 ^ j ≤ 2 ^ k = pow-le-pow_right (omega arith) far in
    div-eq_of_lt (omega (arith, small, grows))

left_by : (a : ℤ) (k : ℕ) → (if nat_lt k 32 then int_shl w32 a k else pos 0) ≡ signed (pattern a * 2 ^ k % 2 ^ 32)
left_by a k = cases (nat_lt k 32) refl
  where
    cases : (t : Bool) → nat_lt k 32 ≡ t → (if t then int_shl w32 a k else pos 0) ≡ signed (pattern a * 2 ^ k % 2 ^ 32)
    cases true is = refl
    cases false is = ap signed (sym (moved_out (pattern a) k (ltb-false k 32 is)))

logical_by : (p k : ℕ) → p < 2 ^ 32 → (if nat_lt k 32 then p / 2 ^ k else 0) ≡ p / 2 ^ k
logical_by p k small = cases (nat_lt k 32) refl
  where
    cases : (t : Bool) → nat_lt k 32 ≡ t → (if t then p / 2 ^ k else 0) ≡ p / 2 ^ k
    cases true is = refl
    cases false is = sym (moved_down p 32 k small (ltb-false k 32 is))

down_by : (n k : ℕ) → n < 2 ^ 31 → n / 2 ^ min k 31 ≡ n / 2 ^ k
down_by n k small = cases (nat_lt k 31) refl
  where
    cases : (t : Bool) → nat_lt k 31 ≡ t → n / 2 ^ min k 31 ≡ n / 2 ^ k
    cases true is = ap (λ j. n / 2 ^ j) (let e : min k 31 ≡ k = omega (arith, ltb-true k 31 is) in e)
    cases false is =
        let far : 31 ≤ k = ltb-false k 31 is in
        ap (λ j. n / 2 ^ j) (let e : min k 31 ≡ 31 = omega (arith, far) in e) ∙ moved_down n 31 31 small (omega arith) ∙ sym (moved_down n 31 k small far)

right_by : (a : ℤ) (k : ℕ) → FitsSigned w32 a → int_shr a (min k 31) ≡ floor_quotient a (2 ^ k)
right_by (pos n) k fits = ap pos (down_by n k fits.sfits)
right_by (negsuc n) k fits = ap negsuc (down_by n k fits.sfits)

amount_is : (b : ℤ) (n : ℕ) → FitsSigned w32 b → n ≡ cast_unsigned w32 (cast_signed w32 (cast_unsigned w32 b)) → n % 256 ≡ pattern b % 256
amount_is b n fits is = ap (λ m. m % 256) (is ∙ ap (cast_unsigned w32) (to_z-of_z w32 b fits))

pub shifts_left : (kind : ShiftKind) (a b r : ℤ) (n : ℕ) → FitsSigned w32 a → FitsSigned w32 b → FitsSigned w32 r → kind ≡ Left
    → n ≡ cast_unsigned w32 (cast_signed w32 (cast_unsigned w32 b))
    → r ≡ (if nat_lt (n % 256) 32 then int_shl w32 (cast_signed w32 (cast_unsigned w32 a)) (n % 256) else pos 0)
    → cast_signed w32 (cast_unsigned w32 r) ≡ shifted kind a b
shifts_left kind a b r n a_fits b_fits r_fits is amount result =
    to_z-of_z w32 r r_fits ∙ result ∙ left_by (cast_signed w32 (cast_unsigned w32 a)) (n % 256)
    ∙ (λ i. signed (pattern (to_z-of_z w32 a a_fits i) * 2 ^ amount_is b n b_fits amount i % 2 ^ 32))
    ∙ ap (λ k. shifted k a b) (sym is)

pub shifts_right : (kind : ShiftKind) (a b r : ℤ) (n : ℕ) → FitsSigned w32 a → FitsSigned w32 b → FitsSigned w32 r → kind ≡ Right
    → n ≡ cast_unsigned w32 (cast_signed w32 (cast_unsigned w32 b))
    → r ≡ int_shr (cast_signed w32 (cast_unsigned w32 a)) (min (n % 256) 31)
    → cast_signed w32 (cast_unsigned w32 r) ≡ shifted kind a b
shifts_right kind a b r n a_fits b_fits r_fits is amount result =
    to_z-of_z w32 r r_fits ∙ result
    ∙ (λ i. int_shr (to_z-of_z w32 a a_fits i) (min (amount_is b n b_fits amount i) 31))
    ∙ right_by a (pattern b % 256) a_fits
    ∙ ap (λ k. shifted k a b) (sym is)

pub shifts_logical : (kind : ShiftKind) (a b r : ℤ) (n p q : ℕ) → FitsSigned w32 a → FitsSigned w32 b → FitsSigned w32 r → kind ≡ RightLogical
    → n ≡ cast_unsigned w32 (cast_signed w32 (cast_unsigned w32 b))
    → p < 2 ^ 32 → p ≡ cast_unsigned w32 (cast_signed w32 (cast_unsigned w32 a))
    → q ≡ (if nat_lt (n % 256) 32 then p / 2 ^ (n % 256) else 0)
    → r ≡ cast_signed w32 q
    → cast_signed w32 (cast_unsigned w32 r) ≡ shifted kind a b
shifts_logical kind a b r n p q a_fits b_fits r_fits is amount p_small is_p is_q result =
    to_z-of_z w32 r r_fits ∙ result
    ∙ ap signed (is_q ∙ logical_by p (n % 256) p_small
    ∙ (λ i. (is_p ∙ ap (cast_unsigned w32) (to_z-of_z w32 a a_fits)) i / 2 ^ amount_is b n b_fits amount i))
    ∙ ap (λ k. shifted k a b) (sym is)
