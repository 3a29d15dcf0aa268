-- Signs and magnitudes of words, and what in_range says of them.
use Rattle.std.proofs.Common.{◌≡◌, ℕ, zero, suc, ◌+◌, ◌-◌, ◌*◌, ◌/◌, ◌%◌, ◌^◌, ◌<◌, ◌≤◌, ◌&&◌, ◌⊎◌, inl, inr, Bool, true, false, if◌then◌else◌, ℤ, pos, negsuc, ◌*ℤ◌, unsigned_abs, Ok, Err, refl, sym, ap, ◌∙◌, arith}
use Rattle.std.specs.Int.{w32, cast_signed}
use Rattle.std.proofs.lemmas.Bool.{cases_lt, le-leb, lt-leb, lt-ltb, le-ltb}
use Rattle.std.proofs.lemmas.Nat.{mul-lt}
use Rattle.std.proofs.Math.Nat.{mul-le-mul_right, mul-le-mul_left}
use Rattle.arm2_alu.proofs.ValueLaws.{minus, signed-low, signed-high}
use Rattle.bv_num.specs.Operation.{too_big, in_range, is_negative, with_sign, differ}

-- a word's sign and magnitude
pub record IsSigned (n : ℕ) (negative : Bool) (magnitude : ℕ) : Type 0 where
  pub sign : is_negative (cast_signed w32 n) ≡ negative
  pub size : unsigned_abs (cast_signed w32 n) ≡ magnitude

pub is-low : (n : ℕ) → n < 2 ^ 31 → IsSigned n false n
is-low n low = let is = signed-low n low in record { sign = ap is_negative is; size = ap unsigned_abs is }

pub is-high : (n : ℕ) → 2 ^ 31 ≤ n → n < 2 ^ 32 → IsSigned n true (minus 0 n)
is-high n high small =
    let is = signed-high n high in
    record { sign = ap is_negative is; size = ap unsigned_abs is ∙ omega (arith, high, small) }

-- ---- what is in range

pub positive_fits : (m : ℕ) → m < 2 ^ 31 → in_range (with_sign false m) ≡ Ok (cast_signed w32 m)
positive_fits m low = ap (λ t. if t then Ok (pos m) else Err too_big) (lt-ltb m (2 ^ 31) low) ∙ ap Ok (sym (signed-low m low))

pub positive_big : (m : ℕ) → 2 ^ 31 ≤ m → in_range (with_sign false m) ≡ Err too_big
positive_big m high = ap (λ t. if t then Ok (pos m) else Err too_big) (le-ltb m (2 ^ 31) high)

pub negative_fits : (m : ℕ) → m ≤ 2 ^ 31 → in_range (with_sign true m) ≡ Ok (cast_signed w32 (minus 0 m))
negative_fits zero low = refl
negative_fits (suc m) low =
    let turned : minus 0 (suc m) ≡ 2 ^ 32 - suc m = omega (arith, low) in
    let same : 2 ^ 32 - suc (2 ^ 32 - suc m) ≡ m = omega (arith, low) in
    ap (λ t. if t && true then Ok (negsuc m) else Err too_big) (le-leb m 2147483647 (omega (arith, low)))
    ∙ ap Ok (sym (ap (cast_signed w32) turned ∙ signed-high (2 ^ 32 - suc m) (omega (arith, low)) ∙ ap negsuc same))

pub negative_big : (m : ℕ) → 2 ^ 31 < m → in_range (with_sign true m) ≡ Err too_big
negative_big zero high = absurd (omega (arith, high))
negative_big (suc m) high = ap (λ t. if t && true then Ok (negsuc m) else Err too_big) (lt-leb m 2147483647 (omega (arith, high)))

-- ---- products

pub product_is : (a b : ℤ) → a *ℤ b ≡ with_sign (differ (is_negative a) (is_negative b)) (unsigned_abs a * unsigned_abs b)
product_is (pos a) (pos b) = refl
product_is (pos a) (negsuc b) = refl
product_is (negsuc a) (pos b) = refl
product_is (negsuc a) (negsuc b) = refl

-- a magnitude is 0 where the word is
pub zero-magnitude : (n : ℕ) → n ≡ 0 → unsigned_abs (cast_signed w32 n) ≡ 0
zero-magnitude n is = (is-low n (omega (arith, is))).size ∙ is

pub some-magnitude : (n : ℕ) → n < 2 ^ 32 → (n ≡ 0 → ⊥) → unsigned_abs (cast_signed w32 n) ≡ 0 → ⊥
some-magnitude n small some is = each (cases_lt n (2 ^ 31))
  where
    each : (n < 2 ^ 31) ⊎ (2 ^ 31 ≤ n) → ⊥
    each (inl low) = some (sym (is-low n low).size ∙ is)
    each (inr high) = omega (arith, (is-high n high small).size, is, high, small)

-- and no greater than 2^31
pub magnitude-le : (n : ℕ) → n < 2 ^ 32 → unsigned_abs (cast_signed w32 n) ≤ 2 ^ 31
magnitude-le n small = each (cases_lt n (2 ^ 31))
  where
    each : (n < 2 ^ 31) ⊎ (2 ^ 31 ≤ n) → unsigned_abs (cast_signed w32 n) ≤ 2 ^ 31
    each (inl low) = omega (arith, low, (is-low n low).size)
    each (inr high) = omega (arith, high, small, (is-high n high small).size)

-- a magnitude past 31 bits is too big with either sign
pub big : (negative : Bool) (m : ℕ) → 2 ^ 31 < m → in_range (with_sign negative m) ≡ Err too_big
big true m high = negative_big m high
big false m high = positive_big m (omega (arith, high))

-- ---- the product of words by halves

-- both factors have 2^16 or more
pub both_great : (x y : ℕ) → y ≤ x → 2 ^ 16 ≤ y → 2 ^ 32 ≤ x * y
both_great x y order great =
    let great_x : 2 ^ 16 ≤ x = omega (arith, order, great) in
    let first = mul-le-mul_right (2 ^ 16) great_x in
    let second = mul-le-mul_left x great in
    omega (arith, first, second)

-- the parts of a product whose second factor is below 2^16
pub record Halves (x y : ℕ) : Type 0 where
  pub product : x * y ≡ x / 2 ^ 16 * y * 2 ^ 16 + x % 2 ^ 16 * y
  pub high : x / 2 ^ 16 * y < 2 ^ 31
  pub low : x % 2 ^ 16 * y < 2 ^ 32

pub halves : (x y : ℕ) → x ≤ 2 ^ 31 → y < 2 ^ 16 → Halves x y
halves x y size few =
    let h = x / 2 ^ 16 in
    let l = x % 2 ^ 16 in
    let parts : x ≡ h * 2 ^ 16 + l = omega arith in
    let h_low : h ≤ 2 ^ 15 = omega (arith, size) in
    let most : h * y ≤ 2 ^ 15 * y = mul-le-mul_right y h_low in
    record {
      product = ap (λ n. n * y) parts ∙ omega arith;
      high = omega (arith, most, few);
      low = mul-lt l y (2 ^ 16) (2 ^ 16) (omega arith) few;
    }
