-- Fields of a word, and sums of fields.
use Rattle.std.proofs.Common.{◌≡◌, ℕ, ◌+◌, ◌-◌, ◌*◌, ◌/◌, ◌%◌, ◌^◌, ◌<◌, ◌≤◌, Bool, true, false, ◌==◌, refl, sym, ap, subst, ◌∙◌, arith, bit_and, bit_or, eq-eqb, inl, inr, ℤ, pos, negsuc, neg_ℤ, ◌≤ℤ◌, ◌<ℤ◌, nat_lt, ltb-true, ltb-false, lt-ltb, le-ltb}
use Rattle.std.proofs.lemmas.Bool.Decides.{eqb_tells}
use Rattle.std.specs.Int.{from_bool}
use Rattle.std.proofs.lemmas.Int.{ints}
use Rattle.std.proofs.lemmas.Nat.{and_mask, or_shifted, div-add-mod', div-mul-add, mod-mul-add, pow-add}
use Rattle.std.proofs.lemmas.Nat.Bits.{ones_shr}
use Rattle.arm_isa.specs.Fields.{bits, signed_offset, offset_field}
use Rattle.arm_isa.specs.Words.{FitsOffset, transfer_flags}

-- a shift and a mask take a field
pub bits_by_mask : (w high low k : ℕ) → low ≤ high → high < 32 → k ≡ 31 - (high - low) → bit_and (w / 2 ^ low) ((2 ^ 32 - 1) / 2 ^ k) ≡ bits w high low
bits_by_mask w high low k order top is =
    let width : 32 - k ≡ high + 1 - low = omega arith in
    ap (bit_and (w / 2 ^ low)) (ones_shr 32 k (omega arith) ∙ ap (λ n. 2 ^ n - 1) width) ∙ and_mask (w / 2 ^ low) (high + 1 - low)

-- the value of a field of a word that is written as a sum: what is above the field, the field, and what is below
pub field_at : (above field below high low : ℕ) → low ≤ high → field < 2 ^ (high + 1 - low) → below < 2 ^ low → bits (above * 2 ^ (high + 1) + field * 2 ^ low + below) high low ≡ field
field_at above field below high low order fits small =
    let width : ℕ = high + 1 - low in
    let all : width + low ≡ high + 1 = omega (arith, order) in
    let power : 2 ^ (high + 1) ≡ 2 ^ width * 2 ^ low = ap (λ n. 2 ^ n) (sym all) ∙ pow-add 2 width low in
    let sum : above * 2 ^ (high + 1) + field * 2 ^ low + below ≡ (above * 2 ^ width + field) * 2 ^ low + below = ap (λ n. above * n + field * 2 ^ low + below) power ∙ joined (2 ^ width) (2 ^ low) in
    ap (λ w. w / 2 ^ low % 2 ^ width) sum ∙ ap (λ n. n % 2 ^ width) (div-mul-add (above * 2 ^ width + field) (2 ^ low) below small) ∙ mod-mul-add above (2 ^ width) field fits
  where
    joined : (p q : ℕ) → above * (p * q) + field * q + below ≡ (above * p + field) * q + below
    joined p q = omega arith

-- the same for four bits from bit `low` up
pub nibble_at : (above field below low : ℕ) → field < 16 → below < 2 ^ low → bits (above * 2 ^ (low + 4) + field * 2 ^ low + below) (low + 3) low ≡ field
nibble_at above field below low fits small =
    let width : 4 ≡ low + 3 + 1 - low = omega arith in
    let next : low + 4 ≡ low + 3 + 1 = omega arith in
    ap (λ n. bits (above * 2 ^ n + field * 2 ^ low + below) (low + 3) low) next
    ∙ field_at above field below (low + 3) low (omega arith) (subst (λ n. field < 2 ^ n) width fits) small

-- a number in front of a smaller one
pub or_above : (a b k : ℕ) → a % 2 ^ k ≡ 0 → b < 2 ^ k → bit_or a b ≡ a + b
or_above a b k high small =
    let whole : a / 2 ^ k * 2 ^ k ≡ a = let e = div-add-mod' a (2 ^ k) in omega (arith, e, high) in
    ap (λ n. bit_or n b) (sym whole) ∙ or_shifted (a / 2 ^ k) k b small ∙ ap (λ n. n + b) whole

pub or_next : (x a b k : ℕ) → x ≡ a → a % 2 ^ k ≡ 0 → b < 2 ^ k → bit_or x b ≡ a + b
or_next x a b k is high small = ap (λ n. bit_or n b) is ∙ or_above a b k high small

pub from_bool-lt : (b : Bool) → from_bool b < 2
from_bool-lt true = omega arith
from_bool-lt false = omega arith

-- a bit that is a flag's number is the flag
pub flag_of : (b : Bool) (n : ℕ) → n ≡ from_bool b → (n == 1) ≡ b
flag_of true n is = eq-eqb n 1 is
flag_of false n is = ap (λ k. k == 1) is

-- the number of a bit
pub from_bool_bit : (n : ℕ) → n < 2 → from_bool (n == 1) ≡ n
from_bool_bit n small = elim (eqb_tells n 1) [
  | inl t ↦ ap from_bool t.0 ∙ sym t.1
  | inr f ↦ ap from_bool f.0 ∙ (let other = f.1 in omega (arith, other))
]

-- a signed number through its field, and back
pub signed-offset_field : (z : ℤ) → FitsOffset z → signed_offset (offset_field z) ≡ z
signed-offset_field (pos n) fits = rw (lt-ltb n (2 ^ 23) fits) refl
signed-offset_field (negsuc n) fits =
    rw (le-ltb (2 ^ 24 - 1 - n) (2 ^ 23) (omega (arith, fits))) (ap negsuc (omega (arith, fits)))

pub offset_field-signed : (n : ℕ) → n < 2 ^ 24 → offset_field (signed_offset n) ≡ n
offset_field-signed n small = cases (nat_lt n (2 ^ 23)) refl
  where
    cases : (t : Bool) → nat_lt n (2 ^ 23) ≡ t → offset_field (signed_offset n) ≡ n
    cases true is = rw is refl
    cases false is = rw is (omega (arith, small))

pub fits-signed_offset : (n : ℕ) → n < 2 ^ 24 → FitsOffset (signed_offset n)
fits-signed_offset n small = cases (nat_lt n (2 ^ 23)) refl
  where
    cases : (t : Bool) → nat_lt n (2 ^ 23) ≡ t → FitsOffset (signed_offset n)
    cases true is = rw is (ltb-true n (2 ^ 23) is)
    cases false is = rw is (let high = ltb-false n (2 ^ 23) is in omega (arith, small, high))

pub offset_field-lt : (z : ℤ) → FitsOffset z → offset_field z < 2 ^ 24
offset_field-lt (pos n) fits = omega (arith, fits)
offset_field-lt (negsuc n) fits = omega arith

pub transfer_flags-lt : (pre up third wb load : Bool) → transfer_flags pre up third wb load < 2 ^ 25
transfer_flags-lt pre up third wb load =
    let b1 = from_bool-lt pre in
    let b2 = from_bool-lt up in
    let b3 = from_bool-lt third in
    let b4 = from_bool-lt wb in
    let b5 = from_bool-lt load in
    omega (arith, b1, b2, b3, b4, b5)

-- a distance by its bounds, as code compares them
pub fits_offset-between : (z : ℤ) → neg_ℤ (pos 8388608) ≤ℤ z → z <ℤ pos 8388608 → FitsOffset z
fits_offset-between (pos n) low high = omega (arith, ints, high)
fits_offset-between (negsuc n) low high = omega (arith, ints, low)
