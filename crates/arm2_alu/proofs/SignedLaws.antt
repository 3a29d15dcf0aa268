-- Words as signed numbers: what V says, and the signed order by the flags of a comparison.
use Rattle.std.proofs.Common.{◌≡◌, ℕ, suc, ◌+◌, ◌-◌, ◌%◌, ◌^◌, ◌<◌, ◌≤◌, not, nat_lt, Bool, true, false, ℤ, pos, negsuc, neg_ℤ, ◌+ℤ◌, ◌-ℤ◌, ◌≤ℤ◌, ◌<ℤ◌, FitsSigned, refl, ◌∙◌, arith, lt-ltb, le-ltb, ltb-true, ltb-false}
use Rattle.std.proofs.lemmas.Int.{ints, int_wrap_fits, wrapping_add-bits, wrapping_sub-bits}
use Rattle.std.specs.Int.{w32, cast_signed}
use Rattle.arm_isa.specs.Fields.{bit}
use Rattle.arm2_alu.specs.Conditions.{same}
use Rattle.arm2_alu.specs.Operations.{is_signed_word}
use Rattle.arm2_alu.proofs.ShiftValues.{sign-low, sign-high}
use Rattle.arm2_alu.proofs.ValueLaws.{minus, signed-low, signed-high}

-- what V looks at: whether a number is from -2^31 up to 2^31
pub signed_word-within : (z : ℤ) → neg_ℤ (pos (2 ^ 31)) ≤ℤ z → z <ℤ pos (2 ^ 31) → is_signed_word z ≡ true
signed_word-within (pos n) low high = lt-ltb n (2 ^ 31) (omega (arith, ints, high))
signed_word-within (negsuc n) low high = lt-ltb n (2 ^ 31) (omega (arith, ints, low))

pub signed_word-above : (z : ℤ) → pos (2 ^ 31) ≤ℤ z → is_signed_word z ≡ false
signed_word-above (pos n) h = le-ltb n (2 ^ 31) (omega (arith, ints, h))
signed_word-above (negsuc n) h = absurd (omega (arith, ints, h))

pub signed_word-below : (z : ℤ) → z <ℤ neg_ℤ (pos (2 ^ 31)) → is_signed_word z ≡ false
signed_word-below (pos n) h = absurd (omega (arith, ints, h))
signed_word-below (negsuc n) h = le-ltb n (2 ^ 31) (omega (arith, ints, h))

signed_word-fits : (z : ℤ) → is_signed_word z ≡ true → FitsSigned w32 z
signed_word-fits (pos n) is = record { sfits = ltb-true n (2 ^ 31) is }
signed_word-fits (negsuc n) is = record { sfits = ltb-true n (2 ^ 31) is }

-- where V is clear, the word of a sum or difference is the signed sum or difference itself
pub sum-exact : (a b : ℕ) → a < 2 ^ 32 → b < 2 ^ 32 → is_signed_word (cast_signed w32 a +ℤ cast_signed w32 b) ≡ true → cast_signed w32 ((a + b) % 2 ^ 32) ≡ cast_signed w32 a +ℤ cast_signed w32 b
sum-exact a b small below clear = wrapping_add-bits w32 a b small below ∙ int_wrap_fits w32 _ (signed_word-fits _ clear)

pub difference-exact : (a b : ℕ) → a < 2 ^ 32 → b < 2 ^ 32 → is_signed_word (cast_signed w32 a -ℤ cast_signed w32 b) ≡ true → cast_signed w32 (minus a b) ≡ cast_signed w32 a -ℤ cast_signed w32 b
difference-exact a b small below clear = wrapping_sub-bits w32 a b small below ∙ int_wrap_fits w32 _ (signed_word-fits _ clear)

-- GE of a comparison
abbrev ge : ℕ → ℤ → Bool
ge m z = same (bit m 31) (not (is_signed_word z))

ge-at : (m : ℕ) (z : ℤ) (n w : Bool) → bit m 31 ≡ n → is_signed_word z ≡ w → ge m z ≡ same n (not w)
ge-at m z n w e f = (λ i. same (e i) (not (f i)))

both_low : (a b : ℕ) → a < 2 ^ 31 → b < 2 ^ 31 → (b ≤ a → ge (minus a b) (pos a -ℤ pos b) ≡ true) × (a < b → ge (minus a b) (pos a -ℤ pos b) ≡ false)
both_low a b x y =
    let v = signed_word-within (pos a -ℤ pos b) (omega (arith, ints, x, y)) (omega (arith, ints, x, y)) in (
      λ h. ge-at (minus a b) (pos a -ℤ pos b) false true (sign-low (minus a b) (omega (arith, x, y, h))) v,
      λ h. ge-at (minus a b) (pos a -ℤ pos b) true true (sign-high (minus a b) (omega (arith, x, y, h)) (omega arith)) v,
    )

both_high : (a b : ℕ) → 2 ^ 31 ≤ a → a < 2 ^ 32 → 2 ^ 31 ≤ b → b < 2 ^ 32
    → (b ≤ a → ge (minus a b) (negsuc (2 ^ 32 - suc a) -ℤ negsuc (2 ^ 32 - suc b)) ≡ true) × (a < b → ge (minus a b) (negsuc (2 ^ 32 - suc a) -ℤ negsuc (2 ^ 32 - suc b)) ≡ false)
both_high a b x x1 y y1 =
    let z = negsuc (2 ^ 32 - suc a) -ℤ negsuc (2 ^ 32 - suc b) in
    let v = signed_word-within z (omega (arith, ints, x, x1, y, y1)) (omega (arith, ints, x, x1, y, y1)) in (
      λ h. ge-at (minus a b) z false true (sign-low (minus a b) (omega (arith, x, x1, y, y1, h))) v,
      λ h. ge-at (minus a b) z true true (sign-high (minus a b) (omega (arith, x, x1, y, y1, h)) (omega arith)) v,
    )

low_high : (a b : ℕ) → a < 2 ^ 31 → 2 ^ 31 ≤ b → b < 2 ^ 32 → ge (minus a b) (pos a -ℤ negsuc (2 ^ 32 - suc b)) ≡ true
low_high a b x y y1 = cases (nat_lt (minus a b) (2 ^ 31)) refl
  where
    z : ℤ
    z = pos a -ℤ negsuc (2 ^ 32 - suc b)

    cases : (t : Bool) → nat_lt (minus a b) (2 ^ 31) ≡ t → ge (minus a b) z ≡ true
    cases true e =
        let low = ltb-true (minus a b) (2 ^ 31) e in
        ge-at (minus a b) z false true (sign-low (minus a b) low) (signed_word-within z (omega (arith, ints, x, y, y1)) (omega (arith, ints, x, y, y1, low)))
    cases false e =
        let high = ltb-false (minus a b) (2 ^ 31) e in
        ge-at (minus a b) z true false (sign-high (minus a b) high (omega arith)) (signed_word-above z (omega (arith, ints, x, y, y1, high)))

high_low : (a b : ℕ) → 2 ^ 31 ≤ a → a < 2 ^ 32 → b < 2 ^ 31 → ge (minus a b) (negsuc (2 ^ 32 - suc a) -ℤ pos b) ≡ false
high_low a b x x1 y = cases (nat_lt (minus a b) (2 ^ 31)) refl
  where
    z : ℤ
    z = negsuc (2 ^ 32 - suc a) -ℤ pos b

    cases : (t : Bool) → nat_lt (minus a b) (2 ^ 31) ≡ t → ge (minus a b) z ≡ false
    cases true e =
        let low = ltb-true (minus a b) (2 ^ 31) e in
        ge-at (minus a b) z false false (sign-low (minus a b) low) (signed_word-below z (omega (arith, ints, x, x1, y, low)))
    cases false e =
        let high = ltb-false (minus a b) (2 ^ 31) e in
        ge-at (minus a b) z true true (sign-high (minus a b) high (omega arith)) (signed_word-within z (omega (arith, ints, x, x1, y, high)) (omega (arith, ints, x, x1, y, high)))

-- the flags N and V of a comparison of two words, as signed numbers
abbrev pub signed_ge : ℕ → ℕ → Bool
signed_ge a b = ge (minus a b) (cast_signed w32 a -ℤ cast_signed w32 b)

at_signed : (a b : ℕ) (x y : ℤ) (t : Bool) → cast_signed w32 a ≡ x → cast_signed w32 b ≡ y → ge (minus a b) (x -ℤ y) ≡ t → signed_ge a b ≡ t
at_signed a b x y t e f is = (λ i. ge (minus a b) (e i -ℤ f i)) ∙ is

-- GE holds after a comparison exactly where the first number isn't below the second, as signed numbers
pub ge-by_order : (a b : ℕ) → a < 2 ^ 32 → b < 2 ^ 32 → (cast_signed w32 b ≤ℤ cast_signed w32 a → signed_ge a b ≡ true) × (cast_signed w32 a <ℤ cast_signed w32 b → signed_ge a b ≡ false)
ge-by_order a b x1 y1 = cases (nat_lt a (2 ^ 31)) (nat_lt b (2 ^ 31)) refl refl
  where
    cases : (t u : Bool) → nat_lt a (2 ^ 31) ≡ t → nat_lt b (2 ^ 31) ≡ u → (cast_signed w32 b ≤ℤ cast_signed w32 a → signed_ge a b ≡ true) × (cast_signed w32 a <ℤ cast_signed w32 b → signed_ge a b ≡ false)
    cases true true e f =
        let x = ltb-true a (2 ^ 31) e in
        let y = ltb-true b (2 ^ 31) f in
        let p = signed-low a x in
        let q = signed-low b y in
        let k = both_low a b x y in
        (λ h. at_signed a b _ _ true p q (k.0 (omega (arith, ints, h, x, y))), λ h. at_signed a b _ _ false p q (k.1 (omega (arith, ints, h, x, y))))
    cases true false e f =
        let x = ltb-true a (2 ^ 31) e in
        let y = ltb-false b (2 ^ 31) f in
        let p = signed-low a x in
        let q = signed-high b y in
        (λ h. at_signed a b _ _ true p q (low_high a b x y y1), λ h. absurd (omega (arith, ints, p, q, h, x, y, y1)))
    cases false true e f =
        let x = ltb-false a (2 ^ 31) e in
        let y = ltb-true b (2 ^ 31) f in
        let p = signed-high a x in
        let q = signed-low b y in
        (λ h. absurd (omega (arith, ints, p, q, h, x, y, x1)), λ h. at_signed a b _ _ false p q (high_low a b x x1 y))
    cases false false e f =
        let x = ltb-false a (2 ^ 31) e in
        let y = ltb-false b (2 ^ 31) f in
        let p = signed-high a x in
        let q = signed-high b y in
        let k = both_high a b x x1 y y1 in
        (λ h. at_signed a b _ _ true p q (k.0 (omega (arith, ints, p, q, h, x, y, x1, y1))), λ h. at_signed a b _ _ false p q (k.1 (omega (arith, ints, p, q, h, x, y, x1, y1))))
