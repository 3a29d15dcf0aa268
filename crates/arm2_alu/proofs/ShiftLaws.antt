-- The shifts that the code makes give the defined values and carries.
use Rattle.std.proofs.Common.{◌≡◌, ℕ, ◌+◌, ◌-◌, ◌*◌, ◌/◌, ◌%◌, ◌^◌, ◌<◌, ◌≤◌, ◌==◌, false, sym, ap, ◌∙◌, arith}
use Rattle.std.proofs.lemmas.Nat.{pow-add, mul-le, shr-shr}
use Rattle.std.proofs.Math.Nat.{div-eq_of_lt}
use Rattle.std.proofs.Math.Pow.{pow_mono}
use Rattle.std.specs.Int.{w32, rotate_right}
use Rattle.arm_isa.proofs.Rotations.{rotate_right-rotated}
use Rattle.arm_isa.specs.Fields.{bit}
use Rattle.arm2_alu.specs.Shifts.{shifted_left, shifted_right, turned_right}

-- a product with a power past 32 bits
far_product : (n by : ℕ) → 32 < by → n * 2 ^ by ≡ n * 2 ^ (by - 33) * 2 ^ 33
far_product n by far =
    let sum : by ≡ (by - 33) + 33 = omega arith in
    ap (λ k. n * 2 ^ k) sum ∙ ap (λ k. n * k) (pow-add 2 (by - 33) 33) ∙ omega arith

-- LSL by more than 32
pub left_far : (n by : ℕ) → 32 < by → record { value = 0; carry = false } ≡ shifted_left n by
unfolding shifted_left
left_far n by far =
    let e = far_product n by far in
    let value : 0 ≡ n * 2 ^ by % 2 ^ 32 = omega (arith, e) in
    let out : 0 ≡ n * 2 ^ by / 2 ^ 32 % 2 = omega (arith, e) in
    (λ i. record { value = value i; carry = out i == 1 })

-- LSL by at most 32 in 64 bits
pub left_near : (n by wide : ℕ) → n < 2 ^ 32 → by ≤ 32 → wide ≡ n * 2 ^ by % 2 ^ 64 → record { value = wide % 2 ^ 32; carry = bit wide 32 } ≡ shifted_left n by
unfolding shifted_left
left_near n by wide small near is =
    let power : 2 ^ by ≤ 2 ^ 32 = pow_mono near in
    let below = mul-le n (2 ^ by) (2 ^ 32 - 1) (2 ^ 32) (omega (arith, small)) power in
    let same : wide ≡ n * 2 ^ by = omega (arith, is, below) in
    (λ i. record { value = same i % 2 ^ 32; carry = bit (same i) 32 })

-- a word is below a power past 32 bits
far_quotient : (n by : ℕ) → n < 2 ^ 32 → 32 ≤ by → n / 2 ^ by ≡ 0
far_quotient n by small far =
    let power : 2 ^ 32 ≤ 2 ^ by = pow_mono far in
    div-eq_of_lt (omega (arith, small, power))

pub right_far : (n by : ℕ) → n < 2 ^ 32 → 32 < by → record { value = 0; carry = false } ≡ shifted_right n by
unfolding shifted_right
right_far n by small far =
    let value = far_quotient n by small (omega (arith, far)) in
    let out : n / 2 ^ (by - 1) % 2 ≡ 0 = ap (λ k. k % 2) (far_quotient n (by - 1) small (omega (arith, far))) in
    (λ i. record { value = sym value i; carry = sym out i == 1 })

pub right_near : (n by : ℕ) → 0 < by → record { value = n / 2 ^ (by - 1) / 2; carry = bit n (by - 1) } ≡ shifted_right n by
unfolding shifted_right
right_near n by some =
    let sum : (by - 1) + 1 ≡ by = omega (arith, some) in
    let value = shr-shr n (by - 1) 1 ∙ ap (λ k. n / 2 ^ k) sum in
    (λ i. record { value = value i; carry = bit n (by - 1) })

pub turn_near : (n by value : ℕ) → n < 2 ^ 32 → value ≡ rotate_right w32 n (by % 32) → record { value = value; carry = bit value 31 } ≡ turned_right n by
unfolding turned_right
turn_near n by value small is =
    let same = is ∙ rotate_right-rotated n (by % 32) (omega (arith, small)) (omega arith) in
    (λ i. record { value = same i; carry = bit (same i) 31 })

pub ruleset left_laws = (left_far, left_near)

pub ruleset right_laws = (right_far, right_near)

pub ruleset turn_laws = (turn_near)
