-- Texts of numbers, byte by byte, in plain numbers.
use Rattle.std.proofs.Common.{◌≡◌, ℕ, zero, suc, ◌+◌, ◌-◌, ◌*◌, ◌<◌, ◌≤◌, ◌==◌, ◌⊎◌, inl, inr, cond, if◌then◌else◌, List, [], ◌∷◌, drop, refl, sym, ap, subst, ◌∙◌, arith, lt-ltb, le-ltb, eq-eqb}
use Rattle.std.specs.Char.{digit_value}
use Rattle.std.specs.Str.Parse.{digits_value_after}
use Rattle.std.proofs.lemmas.Bool.{cases_lt, ne_eqb}
use Rattle.std.proofs.lemmas.List.Sums.{take_while-cons}
use Rattle.std.proofs.Math.Nat.{le-mul_of_pos_right, mul-le-mul_right}
use Rattle.bv_num.specs.Digits.{is_digit}
use Rattle.bv_num.specs.Value.{after_spaces, front_digits, front_value, begins_with, after_sign}
use Rattle.arm2_alu.proofs.ValueLaws.{minus}
use Rattle.runtime_lib.specs.Entries.{bytes_from}

-- ---- the byte that begins a text

-- or 0 where there is none
abbrev pub first : List ℕ → ℕ
first [] = 0
first (b ∷ bs) = b

module _ (m : ℕ → ℕ) (a : ℕ) where
  pub some-byte : (n : ℕ) → 0 < first (bytes_from m a n) → 0 < n
  some-byte zero some = absurd (omega (arith, some))
  some-byte (suc n) some = omega arith

  pub bytes-next : (n : ℕ) → 0 < n → bytes_from m (a + 1) (n - 1) ≡ drop 1 (bytes_from m a n)
  bytes-next zero some = absurd (omega (arith, some))
  bytes-next (suc n) some = ap (bytes_from m (a + 1)) (let e : suc n - 1 ≡ n = omega arith in e)

pub begins-first : (c : ℕ) (text : List ℕ) → begins_with (suc c) text ≡ (first text == suc c)
begins-first c [] = sym (ne_eqb 0 (suc c) (λ e. omega (arith, e)))
begins-first c (b ∷ bs) = refl

-- ---- spaces and the sign

pub after-space : (text : List ℕ) → first text ≡ 32 → after_spaces text ≡ after_spaces (drop 1 text)
after-space [] is = refl
after-space (b ∷ bs) is = ap (λ t. if t then after_spaces bs else b ∷ bs) (eq-eqb b 32 is)

pub after-no_space : (text : List ℕ) → (first text ≡ 32 → ⊥) → after_spaces text ≡ text
after-no_space [] other = refl
after-no_space (b ∷ bs) other = ap (λ t. if t then after_spaces bs else b ∷ bs) (ne_eqb b 32 other)

pub after-plus : (text : List ℕ) → first text ≡ 43 → after_sign text ≡ drop 1 text
after-plus [] is = refl
after-plus (b ∷ bs) is = subst (λ c. after_sign (c ∷ bs) ≡ bs) (sym is) refl

pub after-minus : (text : List ℕ) → first text ≡ 45 → after_sign text ≡ drop 1 text
after-minus [] is = refl
after-minus (b ∷ bs) is = subst (λ c. after_sign (c ∷ bs) ≡ bs) (sym is) refl

pub after-no_sign : (text : List ℕ) → (first text ≡ 43 → ⊥) → (first text ≡ 45 → ⊥) → after_sign text ≡ text
after-no_sign [] no_plus no_minus = refl
after-no_sign (b ∷ bs) no_plus no_minus = rw (ne_eqb b 43 no_plus, ne_eqb b 45 no_minus) refl

-- ---- digits

-- a number is the digit's value of a byte, or neither is below 16
abbrev pub IsDigitCode : ℕ → ℕ → Type 0
IsDigitCode b v = (v ≡ digit_value b) ⊎ ((16 ≤ v) × (16 ≤ digit_value b))

pub code-decimal : (b : ℕ) → b < 256 → minus b 48 < 10 → IsDigitCode b (minus b 48)
code-decimal b small low =
    let least : 48 ≤ b = omega (arith, small, low) in
    let value : digit_value b ≡ b - 48 = rw (le-ltb b 48 least, lt-ltb b 58 (omega (arith, small, low))) refl in
    inl (omega (arith, value, small, least))

-- a byte that is no decimal digit, by the letter that it may be
pub code-small : (b : ℕ) → 97 ≤ b → IsDigitCode b (b - 87)
code-small b great = each (cases_lt b 123)
  where
    each : (b < 123) ⊎ (123 ≤ b) → IsDigitCode b (b - 87)
    each (inl low) =
        let value : digit_value b ≡ b - 87 = rw (le-ltb b 48 (omega (arith, great)), le-ltb b 58 (omega (arith, great)), le-ltb b 65 (omega (arith, great)), le-ltb b 91 (omega (arith, great)), le-ltb b 97 great, lt-ltb b 123 low) refl in
        inl (sym value)
    each (inr high) =
        let value : digit_value b ≡ 36 = rw (le-ltb b 48 (omega (arith, great)), le-ltb b 58 (omega (arith, great)), le-ltb b 65 (omega (arith, great)), le-ltb b 91 (omega (arith, great)), le-ltb b 97 great, le-ltb b 123 high) refl in
        inr (omega (arith, high), omega (arith, value))

pub code-capital : (b : ℕ) → 65 ≤ b → b < 97 → IsDigitCode b (b - 55)
code-capital b great below = each (cases_lt b 91)
  where
    each : (b < 91) ⊎ (91 ≤ b) → IsDigitCode b (b - 55)
    each (inl low) =
        let value : digit_value b ≡ b - 55 = rw (le-ltb b 48 (omega (arith, great)), le-ltb b 58 (omega (arith, great)), le-ltb b 65 great, lt-ltb b 91 low) refl in
        inl (sym value)
    each (inr high) =
        let value : digit_value b ≡ 36 = rw (le-ltb b 48 (omega (arith, great)), le-ltb b 58 (omega (arith, great)), le-ltb b 65 great, le-ltb b 91 high, lt-ltb b 97 below) refl in
        inr (omega (arith, high), omega (arith, value))

pub code-none : (b : ℕ) → b < 65 → 10 ≤ minus b 48 → IsDigitCode b (minus b 65)
code-none b below other = each (cases_lt b 48)
  where
    each : (b < 48) ⊎ (48 ≤ b) → IsDigitCode b (minus b 65)
    each (inl low) =
        let value : digit_value b ≡ 36 = rw (lt-ltb b 48 low) refl in
        inr (omega (arith, below), omega (arith, value))
    each (inr high) =
        let value : digit_value b ≡ 36 = rw (le-ltb b 48 high, le-ltb b 58 (omega (arith, high, other)), lt-ltb b 65 below) refl in
        inr (omega (arith, below), omega (arith, value))

-- ---- a row of digits

-- the value of the digits that begin a text, after those with a value
abbrev pub row_value : ℕ → ℕ → List ℕ → ℕ
row_value base value text = digits_value_after base value (front_digits base text)

pub front-row : (base : ℕ) (text : List ℕ) → row_value base 0 text ≡ front_value base text
unfolding front_value
front-row base text = refl

-- it is no less than that
pub row-grows : (base value : ℕ) (digits : List ℕ) → 0 < base → value ≤ digits_value_after base value digits
row-grows base value [] some = omega arith
row-grows base value (d ∷ ds) some =
    let more : value ≤ value * base = le-mul_of_pos_right value some in
    let rest = row-grows base (value * base + digit_value d) ds some in
    omega (arith, more, rest)

module _ (base : ℕ) (most : base ≤ 16) (v : ℕ) where
  -- no digit is below the base where there is no byte
  pub some-digit : (text : List ℕ) → IsDigitCode (first text) v → v < base → 0 < first text
  some-digit [] (inl is) low = absurd (omega (arith, is, low, most))
  some-digit [] (inr past) low = absurd (omega (arith, past.0, low, most))
  some-digit (b ∷ bs) code low = positive b code
    where
      positive : (b : ℕ) → IsDigitCode b v → 0 < b
      positive zero (inl is) = absurd (omega (arith, is, low, most))
      positive zero (inr past) = absurd (omega (arith, past.0, low, most))
      positive (suc b) code = omega arith

  pub row-digit : (value : ℕ) (text : List ℕ) → IsDigitCode (first text) v → v < base → row_value base (value * base + v) (drop 1 text) ≡ row_value base value text
  row-digit value [] code low = let some = some-digit [] code low in absurd (omega (arith, some))
  row-digit value (b ∷ bs) (inr past) low = absurd (omega (arith, past.0, low, most))
  row-digit value (b ∷ bs) (inl is) low =
      ap (λ d. digits_value_after base (value * base + d) (front_digits base bs)) is
      ∙ ap (digits_value_after base value) (sym (take_while-cons (is_digit base) b bs ∙ ap (λ t. cond t (b ∷ front_digits base bs) []) (lt-ltb (digit_value b) base (omega (arith, is, low)))))

  pub row-ends : (value : ℕ) (text : List ℕ) → IsDigitCode (first text) v → base ≤ v → row_value base value text ≡ value
  row-ends value [] code high = refl
  row-ends value (b ∷ bs) code high =
      ap (digits_value_after base value) (take_while-cons (is_digit base) b bs ∙ ap (λ t. cond t (b ∷ front_digits base bs) []) (le-ltb (digit_value b) base (past code)))
    where
      past : IsDigitCode b v → base ≤ digit_value b
      past (inl is) = omega (arith, is, high)
      past (inr both) = omega (arith, both.1, most)

  -- where the digits before one reach the bound, all of them reach the bound's multiple
  pub row-past : (bound past value : ℕ) (text : List ℕ) → bound * base ≡ past → 0 < base → bound ≤ value → IsDigitCode (first text) v → v < base → past ≤ row_value base value text
  row-past bound past value text is some reached code low =
      let product : bound * base ≤ value * base = mul-le-mul_right base reached in
      let grows = row-grows base (value * base + v) (front_digits base (drop 1 text)) some in
      let same = row-digit value text code low in
      omega (arith, product, grows, same, is)
