-- The digits of a number: what they are, and that they read back as the number.
use Rattle.std.proofs.Common.{◌≡◌, ◌≢◌, ℕ, suc, ℤ, pos, negsuc, FitsSigned, w32, decimal, lt-ltb, if◌then◌else◌, ◌+◌, ◌*◌, ◌/◌, ◌%◌, ◌<◌, ◌≤◌, ◌^◌, List, [], ◌∷◌, ◌++◌, length, map, slice_index, refl, sym, ap, subst, ◌∙◌, arith, length-append}
use Rattle.std.specs.Char.{digit_value}
use Rattle.std.specs.Fmt.{signed_decimal}
use Rattle.std.specs.List.{AllByRecursion}
use Rattle.std.specs.Int.Digits.{digits_of, number_from_digits, AllBelowBase}
use Rattle.std.specs.Str.Parse.{digits_value}
use Rattle.std.proofs.lemmas.Bool.Decides.{nat_tests}
use Rattle.std.proofs.lemmas.List.{length-map, map-append}
use Rattle.std.proofs.lemmas.Int.Digits.{digits_value_is, number_push, number_digits_of, digits_of_step, length-digits_of-le, all_below_base_digits_of, first_digits_of}
use Rattle.std.proofs.Math.Nat.{div-eq_of_lt, mod-eq_of_lt}
use Rattle.std.proofs.lemmas.Fmt.{decimal_by_steps}
use Rattle.std.proofs.lemmas.Nat.{div_below, mod_below, div-add-mod', le-div}
use Rattle.bv_num.specs.Digits.{digit_byte, digits, decimal_digits, hex_digits, decimal_text}

-- the digits before the last, and the last
pub digits-split : (base n : ℕ) → digits base n ≡ map digit_byte (digits_of base (n / base)) ++ digit_byte (n % base) ∷ []
unfolding digits
digits-split base n = map-append digit_byte (digits_of base (n / base)) (n % base ∷ [])

-- a number below the base is one digit
pub digits-one : (base n : ℕ) → n < base → digits base n ≡ digit_byte n ∷ []
digits-one base n small =
    digits-split base n ∙ (λ i. map digit_byte (digits_of base (div-eq_of_lt small i)) ++ digit_byte (mod-eq_of_lt small i) ∷ [])

-- a greater one is the digits of its quotient by the base, and its remainder
pub digits-more : (base n : ℕ) → 2 ≤ base → base ≤ n → digits base n ≡ digits base (n / base) ++ digit_byte (n % base) ∷ []
unfolding digits
digits-more base n least great =
    let some : 0 < n / base = le-div 1 n base (omega (arith, least)) (omega (arith, great)) in
    digits-split base n ∙ ap (λ ds. map digit_byte ds ++ digit_byte (n % base) ∷ []) (digits_of_step base (n / base) least some)

-- how many digits a number has
pub length-digits-le : (base k n : ℕ) → 2 ≤ base → n < base ^ k * base → length (digits base n) ≤ k + 1
length-digits-le base k n least small =
    omega (
      arith,
      ap length (digits-split base n),
      length-append (map digit_byte (digits_of base (n / base))) (digit_byte (n % base) ∷ []),
      length-map (digits_of base (n / base)) digit_byte,
      length-digits_of-le base k (n / base) least (div_below n base (base ^ k) (omega (arith, least)) small),
    )

-- 32 bits have at most eight hexadecimal digits
pub length-hex_digits-le : (n : ℕ) → n < 2 ^ 32 → length (hex_digits n) ≤ 8
length-hex_digits-le n small = length-digits-le 16 7 n (omega arith) (omega (arith, small))

-- a digit's byte has the digit's value
pub digit_value-digit_byte : (d : ℕ) → d < 16 → digit_value (digit_byte d) ≡ d
digit_value-digit_byte d small = grind (arith, nat_tests)

-- digits below the base
all_below : (base : ℕ) (xs : List ℕ) (x : ℕ) → AllBelowBase base xs → x < base → AllBelowBase base (xs ++ x ∷ [])
all_below base [] x each below = (below, tt)
all_below base (y ∷ ys) x each below = (each.0, all_below base ys x each.1 below)

below_base : (base n : ℕ) → 2 ≤ base → AllBelowBase base (digits_of base (n / base) ++ n % base ∷ [])
below_base base n least = all_below base (digits_of base (n / base)) (n % base) (all_below_base_digits_of base (n / base) least) (mod_below n base (omega (arith, least)))

values : (base : ℕ) (ds : List ℕ) → base ≤ 16 → AllBelowBase base ds → map digit_value (map digit_byte ds) ≡ ds
values base [] greatest each = refl
values base (d ∷ ds) greatest each = (λ i. digit_value-digit_byte d (omega (arith, greatest, each.0)) i ∷ values base ds greatest each.1 i)

-- the digits of a number read back as the number
pub digits_value-digits : (base n : ℕ) → 2 ≤ base → base ≤ 16 → digits_value base (digits base n) ≡ n
unfolding digits
digits_value-digits base n least greatest =
    digits_value_is base (digits base n)
    ∙ ap (number_from_digits base) (values base (digits_of base (n / base) ++ n % base ∷ []) greatest (below_base base n least))
    ∙ number_push base (digits_of base (n / base)) (n % base)
    ∙ ap (λ q. q * base + n % base) (number_digits_of base (n / base) least)
    ∙ div-add-mod' n base

-- every byte is that of a digit below the base
is_below : (base : ℕ) (ds : List ℕ) → base ≤ 16 → AllBelowBase base ds → AllByRecursion (λ b. digit_value b < base) (map digit_byte ds)
is_below base [] greatest each = tt
is_below base (d ∷ ds) greatest each = (omega (arith, each.0, digit_value-digit_byte d (omega (arith, greatest, each.0))), is_below base ds greatest each.1)

pub digits-each : (base n : ℕ) → 2 ≤ base → base ≤ 16 → AllByRecursion (λ b. digit_value b < base) (digits base n)
unfolding digits
digits-each base n least greatest = is_below base (digits_of base (n / base) ++ n % base ∷ []) greatest (below_base base n least)

-- the bytes of decimal digits are 48 to 57
pub decimal_byte : (b : ℕ) → digit_value b < 10 → (48 ≤ b) × (b ≤ 57)
decimal_byte b small = (grind (arith, nat_tests), grind (arith, nat_tests))

decimal_bytes : (ds : List ℕ) → AllByRecursion (λ b. digit_value b < 10) ds → AllByRecursion (λ b. (48 ≤ b) × (b ≤ 57)) ds
decimal_bytes [] each = tt
decimal_bytes (d ∷ ds) each = (decimal_byte d each.0, decimal_bytes ds each.1)

pub decimal_digits-each : (n : ℕ) → AllByRecursion (λ b. (48 ≤ b) × (b ≤ 57)) (decimal_digits n)
decimal_digits-each n = decimal_bytes (decimal_digits n) (digits-each 10 n (omega arith) (omega arith))

-- the digits of a number that isn't 0 are those of std
pub digits-positive : (base n : ℕ) → 2 ≤ base → 0 < n → digits base n ≡ map digit_byte (digits_of base n)
unfolding digits
digits-positive base n least some = ap (map digit_byte) (sym (digits_of_step base n least some))

not_zero_byte : (d : ℕ) → 0 < d → digit_byte d ≢ 48
not_zero_byte d some is = grind (arith, nat_tests)

first_of_map : (ds : List ℕ) → 0 < slice_index ds 0 → slice_index (map digit_byte ds) 0 ≢ 48
first_of_map [] some = absurd (omega (arith, some))
first_of_map (d ∷ ds) some = not_zero_byte d some

-- no zero leads the digits of a number, unless it is 0
pub digits-first : (base n : ℕ) → 2 ≤ base → 0 < n → slice_index (digits base n) 0 ≢ 48
digits-first base n least some =
    subst (λ ds. slice_index ds 0 ≢ 48) (sym (digits-positive base n least some)) (first_of_map (digits_of base n) (first_digits_of base n least some))

digit_low : (d : ℕ) → d < 10 → digit_byte d ≡ 48 + d
digit_low d small = ap (λ t. if t then 48 + d else 55 + d) (lt-ltb d 10 small)

-- the decimal digits are what std writes of the number
pub decimal_digits-written : (n : ℕ) → n < 2 ^ 64 → decimal_digits n ≡ decimal n
decimal_digits-written n small =
    decimal_by_steps
    (λ m ds. decimal_digits m ≡ ds)
    (λ m below. digits-one 10 m below ∙ ap (λ d. d ∷ []) (digit_low m below))
    (λ m ds great front. digits-more 10 m (omega arith) great ∙ (λ i. front i ++ digit_low (m % 10) (omega arith) i ∷ []))
    n
    small

-- and those of a number with its sign
pub decimal_text-written : (z : ℤ) → FitsSigned w32 z → decimal_text z ≡ signed_decimal z
decimal_text-written (pos n) fits = decimal_digits-written n (omega (arith, fits))
decimal_text-written (negsuc n) fits = ap (λ ds. 45 ∷ ds) (decimal_digits-written (suc n) (omega (arith, fits)))
