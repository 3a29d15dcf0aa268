-- The arithmetic of a division bit by bit, in plain numbers.
use Rattle.std.proofs.Common.{◌≡◌, ℕ, suc, ◌+◌, ◌-◌, ◌*◌, ◌/◌, ◌%◌, ◌^◌, ◌<◌, ◌≤◌, ◌⊎◌, Bool, true, false, nat_le, inl, inr, refl, sym, ap, ◌∙◌, arith}
use Rattle.std.specs.Int.{from_bool}
use Rattle.std.proofs.lemmas.Bool.{cases_lt, leb-true, leb-false}
use Rattle.std.proofs.Math.Nat.{mul-le-mul_right, div-eq_of_lt-le, mod-eq-sub-div-mul}
use Rattle.std.proofs.lemmas.Nat.{mul-add-lt}

-- A division of a by b partway. Of the dividend, h was divided, with the quotient q and the remainder r, and l, which is below p,
-- is left. The word x has l in its high bits, and q below them.
pub record Partway (a b p x r : ℕ) : Type 0 where
  pub h : ℕ
  pub l : ℕ
  pub q : ℕ
  pub g : ℕ
  pub whole : p * g ≡ 2 ^ 32
  pub split : a ≡ h * p + l
  pub low : l < p
  pub divided : q * b + r ≡ h
  pub rest : r < b
  pub fits : q < g
  pub word : x ≡ l * g + q

-- the same with one more bit in the remainder, which may be too great by b
pub record Shifted (a b p x r : ℕ) : Type 0 where
  pub h : ℕ
  pub l : ℕ
  pub q : ℕ
  pub g : ℕ
  pub whole : p * g ≡ 2 ^ 32
  pub split : a ≡ h * p + l
  pub low : l < p
  pub divided : q * b + r ≡ h
  pub rest : r < 2 * b
  pub fits : q + 1 < g
  pub word : x ≡ l * g + q

-- the dividend's highest bit that is left is the word's, and goes from it into the remainder
pub shifts : (a b p x r : ℕ) → Partway a b (2 * p) x r → (c : Bool) → nat_le (2 ^ 32) (x + x) ≡ c → Shifted a b p ((x + x) % 2 ^ 32) (r + r + from_bool c)
shifts a b p x r d c is = each (cases_lt d.l p) c is
  where
    each : (d.l < p) ⊎ (p ≤ d.l) → (c : Bool) → nat_le (2 ^ 32) (x + x) ≡ c → Shifted a b p ((x + x) % 2 ^ 32) (r + r + from_bool c)
    each (inl below) true is =
        let low = mul-add-lt d.l d.g d.q p below d.fits in
        absurd (omega (arith, leb-true (2 ^ 32) (x + x) is, d.word, d.whole, low))
    each (inl below) false is =
        let low = mul-add-lt d.l d.g d.q p below d.fits in record {
          h = 2 * d.h;
          l = d.l;
          q = 2 * d.q;
          g = 2 * d.g;
          whole = omega (arith, d.whole);
          split = omega (arith, d.split);
          low = below;
          divided = omega (arith, d.divided);
          rest = omega (arith, d.rest);
          fits = omega (arith, d.fits);
          word = omega (arith, d.word, leb-false (2 ^ 32) (x + x) is);
        }
    each (inr high) true is =
        let low = mul-add-lt (d.l - p) d.g d.q p (omega (arith, high, d.low)) d.fits in
        let part : d.l ≡ d.l - p + p = omega (arith, high) in
        let product : d.l * d.g ≡ (d.l - p) * d.g + p * d.g = ap (λ k. k * d.g) part ∙ omega arith in record {
          h = 2 * d.h + 1;
          l = d.l - p;
          q = 2 * d.q;
          g = 2 * d.g;
          whole = omega (arith, d.whole);
          split = omega (arith, d.split, high);
          low = omega (arith, d.low, high);
          divided = omega (arith, d.divided);
          rest = omega (arith, d.rest);
          fits = omega (arith, d.fits);
          word = omega (arith, d.word, d.whole, low, product);
        }
    each (inr high) false is =
        let low = mul-le-mul_right d.g high in
        absurd (omega (arith, leb-false (2 ^ 32) (x + x) is, d.word, d.whole, low))

-- the divisor goes into the remainder, and the quotient's bit is 1; or it doesn't
pub subtracts : (a b p x r : ℕ) → Shifted a b p x r → b ≤ r → Partway a b p (x + 1) (r - b)
subtracts a b p x r d holds = record {
  h = d.h;
  l = d.l;
  q = d.q + 1;
  g = d.g;
  whole = d.whole;
  split = d.split;
  low = d.low;
  divided = omega (arith, d.divided, holds);
  rest = omega (arith, d.rest, holds);
  fits = d.fits;
  word = omega (arith, d.word);
}

pub leaves : (a b p x r : ℕ) → Shifted a b p x r → r < b → Partway a b p x r
leaves a b p x r d below = record {
  h = d.h;
  l = d.l;
  q = d.q;
  g = d.g;
  whole = d.whole;
  split = d.split;
  low = d.low;
  divided = d.divided;
  rest = below;
  fits = omega (arith, d.fits);
  word = d.word;
}

-- the word leaves room for the quotient's bit
pub word_fits : (a b p x r : ℕ) → Shifted a b p x r → x + 1 < 2 ^ 32
word_fits a b p x r d = let low = mul-add-lt d.l d.g (d.q + 1) p d.low d.fits in omega (arith, d.word, d.whole, low)

-- nothing is divided yet, and all is
pub begins : (a b : ℕ) → a < 2 ^ 32 → 0 < b → Partway a b (2 ^ 32) a 0
begins a b small some = record {
  h = 0;
  l = a;
  q = 0;
  g = 1;
  whole = refl;
  split = omega arith;
  low = small;
  divided = omega arith;
  rest = some;
  fits = omega arith;
  word = omega arith;
}

pub ends : (a b x r : ℕ) → Partway a b 1 x r → (x ≡ a / b) × (r ≡ a % b)
ends a b x r d =
    let none : d.l ≡ 0 = omega (arith, d.low) in
    let all : a ≡ d.h = omega (arith, d.split, none) in
    let is : x ≡ d.q = d.word ∙ ap (λ k. k * d.g + d.q) none ∙ omega arith in
    let sum : d.q * b + r ≡ a = d.divided ∙ sym all in
    let quotient : a / b ≡ d.q = div-eq_of_lt-le b (omega (arith, sum)) (omega (arith, sum, d.rest)) in
    (is ∙ sym quotient, omega (arith, mod-eq-sub-div-mul a b, ap (λ k. k * b) quotient, sum))

-- four bits
pub power_16 : (n : ℕ) → 2 ^ (4 * suc n) ≡ 2 * (2 * (2 * (2 * 2 ^ (4 * n))))
power_16 n = let four : 4 * suc n ≡ suc (suc (suc (suc (4 * n)))) = omega arith in ap (λ k. 2 ^ k) four ∙ omega arith
