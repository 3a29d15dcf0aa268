-- What is written of a number reads back as the number.
use Rattle.std.proofs.Common.{◌≡◌, ℕ, suc, ◌<◌, ◌≤◌, ◌^◌, true, false, cond, lt-ltb, ◌||◌, List, [], ◌∷◌, ℤ, pos, negsuc, FitsSigned, Ok, Err, if◌then◌else◌, refl, ap, ◌∙◌, arith}
use Rattle.std.specs.Char.{digit_value, is_digit}
use Rattle.std.specs.Int.{w32}
use Rattle.std.specs.List.{AllByRecursion}
use Rattle.std.specs.Str.Parse.{digits_value}
use Rattle.std.proofs.lemmas.Bool.{ne_eqb}
use Rattle.std.proofs.lemmas.List.Sums.{take_while-cons}
use Rattle.bv_num.specs.Operation.{too_big, in_range, with_sign}
use Rattle.bv_num.specs.Bits.{signed}
use Rattle.bv_num.specs.Digits.{digits, decimal_digits, decimal_text, hex_digits}
use Rattle.bv_num.specs.Value.{after_spaces, after_sign, begins_with, front_digits, front_value, signed_value, value_of, in_word, data_value}
use Rattle.bv_num.proofs.OperationLaws.{in_range-fits}
use Rattle.bv_num.proofs.Numerals.{digits-each, decimal_digits-each, digits_value-digits}

-- all of a text of digits is its front
all_front : (base : ℕ) (ds : List ℕ) → AllByRecursion (λ b. digit_value b < base) ds → front_digits base ds ≡ ds
all_front base [] each = refl
all_front base (d ∷ ds) each =
    take_while-cons (λ b. is_digit b base) d ds
    ∙ ap (λ t. cond t (d ∷ front_digits base ds) []) (lt-ltb (digit_value d) base each.0)
    ∙ ap (λ l. d ∷ l) (all_front base ds each.1)

-- the digits of a number are a front of this value
pub front_value-digits : (base n : ℕ) → 2 ≤ base → base ≤ 16 → front_value base (digits base n) ≡ n
unfolding front_value
front_value-digits base n least greatest =
    ap (digits_value base) (all_front base (digits base n) (digits-each base n least greatest)) ∙ digits_value-digits base n least greatest

no_space : (ds : List ℕ) → AllByRecursion (λ b. (48 ≤ b) × (b ≤ 57)) ds → after_spaces ds ≡ ds
no_space [] each = refl
no_space (d ∷ ds) each = ap (λ t. if t then after_spaces ds else d ∷ ds) (ne_eqb d 32 (λ e. omega (arith, each.0.0, e)))

no_sign : (ds : List ℕ) → AllByRecursion (λ b. (48 ≤ b) × (b ≤ 57)) ds → after_sign ds ≡ ds
no_sign [] each = refl
no_sign (d ∷ ds) each = (λ i. if ne_eqb d 43 (λ e. omega (arith, each.0.0, e)) i || ne_eqb d 45 (λ e. omega (arith, each.0.0, e)) i then ds else d ∷ ds)

no_minus : (ds : List ℕ) → AllByRecursion (λ b. (48 ≤ b) × (b ≤ 57)) ds → begins_with 45 ds ≡ false
no_minus [] each = refl
no_minus (d ∷ ds) each = ne_eqb d 45 (λ e. omega (arith, each.0.0, e))

signed_value-digits : (n : ℕ) → signed_value (decimal_digits n) ≡ pos n
signed_value-digits n =
    let each = decimal_digits-each n in
    (λ i. with_sign (no_minus (decimal_digits n) each i) (front_value 10 (no_sign (decimal_digits n) each i)))
    ∙ ap pos (front_value-digits 10 n (omega arith) (omega arith))

-- VAL of a number's decimal text is the number
pub value_of-decimal_text : (z : ℤ) → FitsSigned w32 z → value_of (decimal_text z) ≡ Ok z
value_of-decimal_text (pos n) fits =
    ap in_range (ap signed_value (no_space (decimal_digits n) (decimal_digits-each n)) ∙ signed_value-digits n) ∙ in_range-fits (pos n) fits
value_of-decimal_text (negsuc n) fits =
    ap in_range (ap (with_sign true) (front_value-digits 10 (suc n) (omega arith) (omega arith))) ∙ in_range-fits (negsuc n) fits

-- READ of & and a number's hexadecimal digits is the number, taken as a signed one
pub data_value-hex_digits : (n : ℕ) → n < 2 ^ 32 → data_value (38 ∷ hex_digits n) ≡ Ok (signed n)
data_value-hex_digits n small =
    ap in_word (front_value-digits 16 n (omega arith) (omega arith)) ∙ ap (λ t. if t then Ok (signed n) else Err too_big) (lt-ltb n 4294967296 small)
