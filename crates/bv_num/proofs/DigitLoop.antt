-- The loop that makes digits: what is left of a number, and the text so far.
use Rattle.std.proofs.Common.{◌≡◌, ℕ, ◌+◌, ◌*◌, ◌/◌, ◌%◌, ◌<◌, ◌≤◌, ◌^◌, List, [], ◌∷◌, ◌++◌, length, map, sym, ap, ◌∙◌, arith, append_assoc}
use Rattle.std.specs.Int.Digits.{digits_of}
use Rattle.std.proofs.lemmas.List.{map-append}
use Rattle.std.proofs.lemmas.Int.Digits.{digits_of_step, length-digits_of_step, length-digits_of-le}
use Rattle.std.proofs.lemmas.Nat.{div_below, mul-le}
use Rattle.std.proofs.Math.Nat.{pow-le-pow_left}
use Rattle.bv_num.specs.Digits.{digit_byte, digits}
use Rattle.bv_num.proofs.Numerals.{digits-split}

-- the digits of the number are those of the rest before the text, and are ten at most
abbrev pub IsLeft : ℕ → ℕ → ℕ → List ℕ → Type 0
IsLeft base n rest text = (digits base n ≡ map digit_byte (digits_of base rest) ++ text) × (length (digits_of base rest) + length text ≤ 10)

-- where the loop begins
pub left_first : (base n byte : ℕ) (text : List ℕ) → 10 ≤ base → n < 2 ^ 32 → byte ≡ digit_byte (n % base) → text ≡ byte ∷ [] → IsLeft base n (n / base) text
left_first base n byte text least small is whole =
    let room : 10 ^ 9 * 10 ≤ base ^ 9 * base = mul-le (10 ^ 9) 10 (base ^ 9) base (pow-le-pow_left least 9) least in
    let few = length-digits_of-le base 9 (n / base) (omega (arith, least)) (div_below n base (base ^ 9) (omega (arith, least)) (omega (arith, small, room))) in
    (digits-split base n ∙ ap (λ t. map digit_byte (digits_of base (n / base)) ++ t) (ap (λ b. b ∷ []) (sym is) ∙ sym whole), omega (arith, few, ap length whole))

-- its step
pub left_next : (base n rest byte : ℕ) (text more : List ℕ) → 10 ≤ base → 0 < rest → byte ≡ digit_byte (rest % base) → more ≡ byte ∷ text → IsLeft base n rest text → IsLeft base n (rest / base) more
left_next base n rest byte text more least some is whole so_far =
    let front = map digit_byte (digits_of base (rest / base)) in (
      so_far.0
          ∙ ap (λ ds. map digit_byte ds ++ text) (digits_of_step base rest (omega (arith, least)) some)
          ∙ ap (λ l. l ++ text) (map-append digit_byte (digits_of base (rest / base)) (rest % base ∷ []))
          ∙ append_assoc front (digit_byte (rest % base) ∷ []) text
          ∙ ap (λ t. front ++ t) (ap (λ b. b ∷ text) (sym is) ∙ sym whole),
      omega (arith, so_far.1, length-digits_of_step base rest (omega (arith, least)) some, ap length whole),
    )
