-- What each shift gives of a word, in plain numbers.
use Rattle.std.proofs.Common.{◌≡◌, ℕ, ◌+◌, ◌-◌, ◌*◌, ◌/◌, ◌%◌, ◌^◌, ◌<◌, ◌≤◌, ◌==◌, not, nat_lt, Bool, true, false, refl, sym, ap, ◌∙◌, arith, eq-eqb, ltb-true, ltb-false}
use Rattle.std.proofs.lemmas.Bool.{ne_eqb}
use Rattle.std.proofs.lemmas.Bool.Decides.{nat_tests}
use Rattle.std.proofs.lemmas.Nat.{pow-add, pow_pos, shl-shr, div-mul-add, div_below, mod_below, div-add-mod'}
use Rattle.std.proofs.Math.Nat.{div-div-eq-div-mul}
use Rattle.std.proofs.Math.Pow.{pow_mono}
use Rattle.std.specs.Int.{from_bool}
use Rattle.arm_isa.specs.Immediates.{rotated}
use Rattle.arm_isa.specs.Numbers.{LSL, LSR, ASR, ROR}
use Rattle.arm_isa.specs.Fields.{bit}
use Rattle.arm2_alu.specs.Shifts.{complement, complemented, shifted_left, shifted_right, shifted_signed, turned_right, shifted, rotated_through_carry, shifted_by_field}
use Rattle.arm2_alu.proofs.ShiftLaws.{left_far, right_far}

-- ---- bits of a word

pub sign-low : (n : ℕ) → n < 2 ^ 31 → bit n 31 ≡ false
sign-low n low = ne_eqb (n / 2 ^ 31 % 2) 1 (λ e. omega (arith, e, low))

pub sign-high : (n : ℕ) → 2 ^ 31 ≤ n → n < 2 ^ 32 → bit n 31 ≡ true
sign-high n high small = eq-eqb (n / 2 ^ 31 % 2) 1 (omega (arith, high, small))

two_powers : (k : ℕ) → k ≤ 32 → 2 ^ (32 - k) * 2 ^ k ≡ 2 ^ 32
two_powers k few = sym (pow-add 2 (32 - k) k) ∙ ap (λ m. 2 ^ m) (let e : 32 - k + k ≡ 32 = omega (arith, few) in e)

-- the quotient of a complement
complement_quotient : (n k : ℕ) → n < 2 ^ 32 → k ≤ 32 → complement n / 2 ^ k ≡ 2 ^ (32 - k) - 1 - n / 2 ^ k
complement_quotient n k small few =
    let a = 2 ^ k in
    let q = n / a in
    let m = 2 ^ (32 - k) - 1 - q in
    let whole = two_powers k few in
    let rest = mod_below n a (pow_pos k) in
    let below : q < 2 ^ (32 - k) = div_below n a (2 ^ (32 - k)) (pow_pos k) (omega (arith, small, whole)) in
    let parts : m + q + 1 ≡ 2 ^ (32 - k) = omega (arith, below) in
    let all : m * a + q * a + a ≡ 2 ^ 32 = (let e : m * a + q * a + a ≡ (m + q + 1) * a = omega arith in e) ∙ ap (λ j. j * a) parts ∙ whole in
    let is : complement n ≡ m * a + (a - 1 - n % a) = let d = div-add-mod' n a in omega (arith, all, d, rest) in
    ap (λ j. j / a) is ∙ div-mul-add m a (a - 1 - n % a) (omega (arith, rest))

flipped : (p q : ℕ) → q < 2 * p → not ((2 * p - 1 - q) % 2 == 1) ≡ (q % 2 == 1)
flipped p q below = grind (arith, nat_tests)

complement_bit : (n k : ℕ) → n < 2 ^ 32 → k < 32 → not (bit (complement n) k) ≡ bit n k
complement_bit n k small few =
    let double : 2 ^ (32 - k) ≡ 2 * 2 ^ (31 - k) = ap (λ m. 2 ^ m) (let e : 32 - k ≡ 1 + (31 - k) = omega (arith, few) in e) ∙ pow-add 2 1 (31 - k) in
    let whole = two_powers k (omega (arith, few)) in
    let below : n / 2 ^ k < 2 ^ (32 - k) = div_below n (2 ^ k) (2 ^ (32 - k)) (pow_pos k) (omega (arith, small, whole)) in
    ap (λ m. not (m % 2 == 1)) (complement_quotient n k small (omega (arith, few)) ∙ ap (λ m. m - 1 - n / 2 ^ k) double)
    ∙ flipped (2 ^ (31 - k)) (n / 2 ^ k) (omega (arith, below, double))

-- ---- by a number of bits, as a register's low byte has it

pub shifted-none : (kind n : ℕ) (c : Bool) → shifted kind n 0 c ≡ record { value = n; carry = c }
unfolding shifted
shifted-none kind n c = refl

-- LSL by 1 to 32: the carry is the last bit that goes out above
pub shifted-lsl : (n by : ℕ) (c : Bool) → 0 < by → by ≤ 32 → shifted LSL n by c ≡ record { value = n * 2 ^ by % 2 ^ 32; carry = bit n (32 - by) }
unfolding shifted shifted_left
shifted-lsl n by c some few =
    let out : n * 2 ^ by / 2 ^ 32 ≡ n / 2 ^ (32 - by) =
    ap (λ m. n * 2 ^ by / m) (sym (two_powers by few) ∙ (let e : 2 ^ (32 - by) * 2 ^ by ≡ 2 ^ by * 2 ^ (32 - by) = omega arith in e))
    ∙ sym (div-div-eq-div-mul (n * 2 ^ by) (2 ^ by) (2 ^ (32 - by)))
    ∙ ap (λ m. m / 2 ^ (32 - by)) (shl-shr n by) in
    rw (ne_eqb by 0 (λ e. omega (arith, e, some))) (λ i. record { value = n * 2 ^ by % 2 ^ 32; carry = out i % 2 == 1 })

pub shifted-lsl_far : (n by : ℕ) (c : Bool) → 32 < by → shifted LSL n by c ≡ record { value = 0; carry = false }
unfolding shifted
shifted-lsl_far n by c far = rw (ne_eqb by 0 (λ e. omega (arith, e, far))) (sym (left_far n by far))

-- LSR by 1 or more, of which more than 32 leaves nothing: the carry is the last bit that goes out below
pub shifted-lsr : (n by : ℕ) (c : Bool) → 0 < by → shifted LSR n by c ≡ record { value = n / 2 ^ by; carry = bit n (by - 1) }
unfolding shifted shifted_right
shifted-lsr n by c some = rw (ne_eqb by 0 (λ e. omega (arith, e, some))) refl

pub shifted-lsr_32 : (n : ℕ) (c : Bool) → n < 2 ^ 32 → shifted LSR n 32 c ≡ record { value = 0; carry = bit n 31 }
shifted-lsr_32 n c small = shifted-lsr n 32 c (omega arith) ∙ (λ i. record { value = (let e : n / 2 ^ 32 ≡ 0 = omega (arith, small) in e) i; carry = bit n 31 })

pub shifted-lsr_far : (n by : ℕ) (c : Bool) → n < 2 ^ 32 → 32 < by → shifted LSR n by c ≡ record { value = 0; carry = false }
unfolding shifted
shifted-lsr_far n by c small far = rw (ne_eqb by 0 (λ e. omega (arith, e, far))) (sym (right_far n by small far))

-- ASR of a word without the sign is LSR
pub shifted-asr_low : (n by : ℕ) (c : Bool) → n < 2 ^ 31 → shifted ASR n by c ≡ shifted LSR n by c
unfolding shifted shifted_signed
shifted-asr_low n by c low = rw (sign-low n low) refl

-- ASR by 1 to 32 of a word with the sign: the bits that come in are 1
pub shifted-asr_high : (n by : ℕ) (c : Bool) → 2 ^ 31 ≤ n → n < 2 ^ 32 → 0 < by → by ≤ 32
    → shifted ASR n by c ≡ record { value = n / 2 ^ by + (2 ^ 32 - 2 ^ (32 - by)); carry = bit n (by - 1) }
unfolding shifted shifted_signed shifted_right
shifted-asr_high n by c high small some few =
    let whole = two_powers by few in
    let below : n / 2 ^ by < 2 ^ (32 - by) = div_below n (2 ^ by) (2 ^ (32 - by)) (pow_pos by) (omega (arith, small, whole)) in
    let quotient = complement_quotient n by small few in
    let bound : 2 ^ (32 - by) ≤ 2 ^ 32 = pow_mono (let e : 32 - by ≤ 32 = omega arith in e) in
    let value : complement (complement n / 2 ^ by) ≡ n / 2 ^ by + (2 ^ 32 - 2 ^ (32 - by)) = omega (arith, quotient, below, bound) in
    rw (ne_eqb by 0 (λ e. omega (arith, e, some)), sign-high n high small)
    (λ i. record { value = value i; carry = complement_bit n (by - 1) small (omega (arith, some, few)) i })

signed_far : (n by : ℕ) (c : Bool) → 2 ^ 31 ≤ n → n < 2 ^ 32 → 32 < by → shifted ASR n by c ≡ record { value = 2 ^ 32 - 1; carry = true }
unfolding shifted shifted_signed
signed_far n by c high small far =
    rw (ne_eqb by 0 (λ e. omega (arith, e, far)), sign-high n high small)
    (ap complemented (sym (right_far (complement n) by (omega (arith, small)) far)))

-- ASR by 32 and more of such a word
pub shifted-asr_high_far : (n by : ℕ) (c : Bool) → 2 ^ 31 ≤ n → n < 2 ^ 32 → 32 ≤ by → shifted ASR n by c ≡ record { value = 2 ^ 32 - 1; carry = true }
shifted-asr_high_far n by c high small far = cases (nat_lt 32 by) refl
  where
    cases : (t : Bool) → nat_lt 32 by ≡ t → shifted ASR n by c ≡ record { value = 2 ^ 32 - 1; carry = true }
    cases true e = signed_far n by c high small (ltb-true 32 by e)
    cases false e =
        let near = ltb-false 32 by e in
        let is : by ≡ 32 = omega (arith, near, far) in
        let value : n / 2 ^ 32 + (2 ^ 32 - 2 ^ (32 - 32)) ≡ 2 ^ 32 - 1 = omega (arith, small) in
        ap (λ k. shifted ASR n k c) is ∙ shifted-asr_high n 32 c high small (omega arith) (omega arith)
        ∙ (λ i. record { value = value i; carry = sign-high n high small i })

-- ROR by 1 or more counts modulo 32
pub shifted-ror : (n by : ℕ) (c : Bool) → 0 < by → shifted ROR n by c ≡ record { value = rotated n (by % 32); carry = bit (rotated n (by % 32)) 31 }
unfolding shifted turned_right
shifted-ror n by c some = rw (ne_eqb by 0 (λ e. omega (arith, e, some))) refl

-- ROR by a multiple of 32 keeps the value
pub shifted-ror_whole : (n by : ℕ) (c : Bool) → 0 < by → by % 32 ≡ 0 → shifted ROR n by c ≡ record { value = n; carry = bit n 31 }
shifted-ror_whole n by c some whole =
    let same : rotated n (by % 32) ≡ n = ap (rotated n) whole ∙ (let e : rotated n 0 ≡ n = omega arith in e) in
    shifted-ror n by c some ∙ (λ i. record { value = same i; carry = bit (same i) 31 })

-- ---- by the five bits of an instruction

pub field-amount : (kind n by : ℕ) (c : Bool) → 0 < by → shifted_by_field kind n by c ≡ shifted kind n by c
unfolding shifted_by_field
field-amount kind n by c some = rw (ne_eqb by 0 (λ e. omega (arith, e, some))) refl

-- LSL #0
pub field-lsl_0 : (n : ℕ) (c : Bool) → shifted_by_field LSL n 0 c ≡ record { value = n; carry = c }
unfolding shifted_by_field
field-lsl_0 n c = refl

-- LSR #32 and ASR #32, whose five bits are 0
pub field-lsr_32 : (n : ℕ) (c : Bool) → shifted_by_field LSR n 0 c ≡ shifted LSR n 32 c
unfolding shifted_by_field
field-lsr_32 n c = refl

pub field-asr_32 : (n : ℕ) (c : Bool) → shifted_by_field ASR n 0 c ≡ shifted ASR n 32 c
unfolding shifted_by_field
field-asr_32 n c = refl

-- RRX, whose five bits are 0
pub field-rrx : (n : ℕ) (c : Bool) → shifted_by_field ROR n 0 c ≡ record { value = from_bool c * 2 ^ 31 + n / 2; carry = bit n 0 }
unfolding shifted_by_field rotated_through_carry
field-rrx n c = refl
