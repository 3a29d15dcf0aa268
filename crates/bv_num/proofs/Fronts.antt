-- The digits that begin a text: their value up to a limit, and their number.
use Rattle.std.proofs.Common.{◌≡◌, ℕ, ◌+◌, ◌*◌, ◌<◌, ◌≤◌, min, cond, lt-ltb, List, [], ◌∷◌, length, drop, get_or, inl, inr, refl, sym, ap, ◌∙◌, arith}
use Rattle.std.specs.Char.{digit_value}
use Rattle.std.specs.Str.Parse.{digits_value_after}
use Rattle.std.proofs.lemmas.List.{at_drop_more}
use Rattle.std.proofs.lemmas.List.Sums.{take_while-cons}
use Rattle.std.proofs.lemmas.Bool.{cases_lt}
use Rattle.std.proofs.Math.Nat.{le-mul_of_pos_right}
use Rattle.bv_num.specs.Digits.{is_digit}
use Rattle.bv_num.specs.Value.{front_digits, front_value}

-- the value of the digits that begin a text, after those with this value, up to a limit
abbrev pub capped_front : ℕ → ℕ → ℕ → List ℕ → ℕ
capped_front limit base value rest = min (digits_value_after base value (front_digits base rest)) limit

-- a value past the limit stays past it
capped_digit : (limit base value d : ℕ) → 0 < base → min (min value limit * base + d) limit ≡ min (value * base + d) limit
capped_digit limit base value d some =
    elim (cases_lt limit value) [
      | inl great ↦
          let least : min value limit ≡ limit = omega (arith, great) in
          let first : limit ≤ limit * base = le-mul_of_pos_right limit some in
          let second : value ≤ value * base = le-mul_of_pos_right value some in
          let one : min (limit * base + d) limit ≡ limit = omega (arith, first) in
          let other : min (value * base + d) limit ≡ limit = omega (arith, second, great) in
          ap (λ v. min (v * base + d) limit) least ∙ one ∙ sym other
      | inr small ↦ ap (λ v. min (v * base + d) limit) (let e : min value limit ≡ value = omega (arith, small) in e)
    ]

-- so the limit may be applied at each digit
capped : (limit base value : ℕ) (ds : List ℕ) → 0 < base → min (digits_value_after base (min value limit) ds) limit ≡ min (digits_value_after base value ds) limit
capped limit base value [] some = omega arith
capped limit base value (d ∷ ds) some =
    sym (capped limit base (min value limit * base + digit_value d) ds some)
    ∙ ap (λ v. min (digits_value_after base v ds) limit) (capped_digit limit base value (digit_value d) some)
    ∙ capped limit base (value * base + digit_value d) ds some

-- one more digit
front_more : (limit base value b : ℕ) (rest : List ℕ) → 0 < base → digit_value b < base → capped_front limit base (min (value * base + digit_value b) limit) rest ≡ capped_front limit base value (b ∷ rest)
front_more limit base value b rest some is =
    capped limit base (value * base + digit_value b) (front_digits base rest) some
    ∙ ap (λ ds. min (digits_value_after base value ds) limit) (sym (take_while-cons (is_digit base) b rest ∙ ap (λ t. cond t (b ∷ front_digits base rest) []) (lt-ltb (digit_value b) base is)))

-- What the loop knows at a place: the value of the digits before it up to a limit, with which those from there on make up
-- the whole, and that all bytes before it are digits.
pub record IsRead (limit base : ℕ) (text : List ℕ) (value at count : ℕ) : Type 0 where
  pub low : value ≤ limit
  pub whole : capped_front limit base value (drop at text) ≡ min (front_value base text) limit
  pub counted : count ≡ at
  pub row : at + length (front_digits base (drop at text)) ≡ length (front_digits base text)

pub front_start : (limit base : ℕ) (text : List ℕ) → IsRead limit base text 0 0 0
unfolding front_value
front_start limit base text = record { low = omega arith; whole = refl; counted = refl; row = omega arith }

digits_cons : (base b : ℕ) (rest : List ℕ) → digit_value b < base → front_digits base (b ∷ rest) ≡ b ∷ front_digits base rest
digits_cons base b rest is = take_while-cons (is_digit base) b rest ∙ ap (λ t. cond t (b ∷ front_digits base rest) []) (lt-ltb (digit_value b) base is)

-- a step of the loop
pub front_step : (limit base value at count b next d : ℕ) (text : List ℕ) → 2 ≤ base → at < length text → b ≡ get_or text at 0 → digit_value b < base → d ≡ digit_value b → next ≡ min (value * base + d) limit
    → IsRead limit base text value at count → IsRead limit base text next (at + 1) (count + 1)
front_step limit base value at count b next d text least within is_b is_digit is_d is_next so_far = record {
  low = omega (arith, is_next);
  whole =
      ap (λ v. capped_front limit base v (drop (at + 1) text)) (is_next ∙ ap (λ n. min (value * base + n) limit) is_d)
      ∙ front_more limit base value b (drop (at + 1) text) (omega (arith, least)) is_digit
      ∙ ap (λ n. capped_front limit base value (n ∷ drop (at + 1) text)) is_b
      ∙ sym (at_drop_more (capped_front limit base value) text at 0 within)
      ∙ so_far.whole;
  counted = omega (arith, so_far.counted);
  row = omega (arith, so_far.row, at_drop_more (λ l. length (front_digits base l)) text at 0 within, ap (λ n. length (front_digits base (n ∷ drop (at + 1) text))) is_b, ap length (digits_cons base b (drop (at + 1) text) is_digit));
}
