-- A row of decimal digits that no zero leads is what is written of its value.
use Rattle.std.proofs.Common.{◌≡◌, ◌≢◌, ◌⊎◌, inl, inr, ℕ, ◌+◌, ◌*◌, ◌/◌, ◌%◌, ◌<◌, List, [], ◌∷◌, ◌++◌, sym, ap, ◌∙◌, arith, append_assoc, append-nil}
use Rattle.std.specs.Char.{digit_value}
use Rattle.std.specs.List.{AllByRecursion}
use Rattle.std.specs.Str.Parse.{digits_value, digits_value_after}
use Rattle.std.proofs.lemmas.Bool.Decides.{nat_tests}
use Rattle.bv_num.specs.Digits.{digit_byte, digits, decimal_digits}
use Rattle.bv_num.proofs.Numerals.{digits-one, digits-more}

digit_back : (c : ℕ) → digit_value c < 10 → digit_byte (digit_value c) ≡ c
digit_back c small = grind (arith, nat_tests)

zero_digit : (c : ℕ) → digit_value c < 10 → digit_value c ≡ 0 → c ≡ 48
zero_digit c small none = sym (digit_back c small) ∙ ap digit_byte none

-- digits after those of a number that isn't 0
digits_on : (n : ℕ) (cs : List ℕ) → 0 < n → AllByRecursion (λ c. digit_value c < 10) cs → decimal_digits (digits_value_after 10 n cs) ≡ decimal_digits n ++ cs
digits_on n [] some each = sym (append-nil (decimal_digits n))
digits_on n (c ∷ cs) some each =
    let more = digits-more 10 (n * 10 + digit_value c) (omega arith) (omega (arith, some)) in
    let quotient : (n * 10 + digit_value c) / 10 ≡ n = omega (arith, each.0) in
    let remainder : (n * 10 + digit_value c) % 10 ≡ digit_value c = omega (arith, each.0) in
    digits_on (n * 10 + digit_value c) cs (omega (arith, some)) each.1
    ∙ ap (λ l. l ++ cs) (more ∙ (λ i. digits 10 (quotient i) ++ digit_byte (remainder i) ∷ []) ∙ ap (λ b. digits 10 n ++ b ∷ []) (digit_back c each.0))
    ∙ append_assoc (decimal_digits n) (c ∷ []) cs

pub digits_are : (c : ℕ) (cs : List ℕ) → digit_value c < 10 → AllByRecursion (λ b. digit_value b < 10) cs → (c ≢ 48) ⊎ (cs ≡ []) → decimal_digits (digits_value 10 (c ∷ cs)) ≡ c ∷ cs
digits_are c cs small each (inl lead) =
    let value : 0 * 10 + digit_value c ≡ digit_value c = omega arith in
    let other : digit_value c ≢ 0 = λ e. lead (zero_digit c small e) in
    ap (λ n. decimal_digits (digits_value_after 10 n cs)) value
    ∙ digits_on (digit_value c) cs (omega (arith, other)) each
    ∙ ap (λ l. l ++ cs) (digits-one 10 (digit_value c) small ∙ ap (λ b. b ∷ []) (digit_back c small))
digits_are c cs small each (inr none) =
    let value : 0 * 10 + digit_value c ≡ digit_value c = omega arith in
    ap (λ l. decimal_digits (digits_value 10 (c ∷ l))) none
    ∙ ap decimal_digits value
    ∙ digits-one 10 (digit_value c) small
    ∙ ap (λ b. b ∷ []) (digit_back c small)
    ∙ ap (λ l. c ∷ l) (sym none)
