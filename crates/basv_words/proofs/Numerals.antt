-- A text of decimal digits alone, and what `parse` answers to it.
use Rattle.std.proofs.Common.{◌≡◌, ℕ, ◌<◌, ◌^◌, ◌==◌, Bool, true, false, not, ◌&&◌, nat_lt, List, [], ◌∷◌, length, Some, None, Result, Ok, Err, refl, sym, ap, subst, ◌∙◌, if◌then◌else◌, arith, lt-ltb, ne_eqb, slice_index, rules}
use Rattle.std.specs.Str.{all_ascii_digits}
use Rattle.std.specs.Str.Parse.{AllDigits, IsNumeral, digits_value, without_leading_plus, ParsesUnsigned}
use Rattle.std.proofs.lemmas.Str.{digit_value_digit}
use Rattle.std.proofs.lemmas.Str.Parse.{tells_all_ascii_digits, digit_from_value}
use Rattle.std.proofs.lemmas.Bool.{ltb-true}
use Rattle.basv_words.specs.Command.{number}

digits_to : (ds : List ℕ) → all_ascii_digits ds ≡ true → AllDigits 10 ds
digits_to [] is = tt
digits_to (c ∷ cs) is = let k = tells_all_ascii_digits.parts c cs is in (omega (arith, digit_value_digit c k.0), digits_to cs k.1)

digits_from : (ds : List ℕ) → AllDigits 10 ds → all_ascii_digits ds ≡ true
digits_from [] is = refl
digits_from (c ∷ cs) is = tells_all_ascii_digits.more c cs (digit_from_value c is.0) (digits_from cs is.1)

-- the test of a number, as a fact
abbrev IsNumber : List ℕ → Type 0
IsNumber word = IsNumeral 10 word × (digits_value 10 word < 2 ^ 64)

number_by : (word : List ℕ) (empty digits small : Bool) → (length word == 0) ≡ empty → all_ascii_digits word ≡ digits → nat_lt (digits_value 10 word) 18446744073709551616 ≡ small
    → number word ≡ (if not empty && (digits && small) then Some (digits_value 10 word) else None)
number_by word empty digits small e d s = ap (λ t. if not t && (all_ascii_digits word && nat_lt (digits_value 10 word) 18446744073709551616) then Some (digits_value 10 word) else None) e
    ∙ ap (λ t. if not empty && (t && nat_lt (digits_value 10 word) 18446744073709551616) then Some (digits_value 10 word) else None) d
    ∙ ap (λ t. if not empty && (digits && t) then Some (digits_value 10 word) else None) s

number_yes : (word : List ℕ) → IsNumber word → number word ≡ Some (digits_value 10 word)
number_yes word is = number_by word false true true (ne_eqb _ _ (λ e. omega (arith, e, is.0.0))) (digits_from word is.0.1) (lt-ltb _ _ (omega (arith, is.1)))

number_no : (word : List ℕ) → (IsNumber word → ⊥) → number word ≡ None
number_no word isn = by_tests (length word == 0) (all_ascii_digits word) (nat_lt (digits_value 10 word) 18446744073709551616) refl refl refl
  where
    by_tests : (empty digits small : Bool) → (length word == 0) ≡ empty → all_ascii_digits word ≡ digits → nat_lt (digits_value 10 word) 18446744073709551616 ≡ small → number word ≡ None
    by_tests true digits small e d s = number_by word true digits small e d s
    by_tests false false small e d s = number_by word false false small e d s
    by_tests false true false e d s = number_by word false true false e d s
    by_tests false true true e d s =
        let some : 0 < length word = search rules in
        let low : digits_value 10 word < 2 ^ 64 = omega (arith, ltb-true _ _ s) in
        absurd (isn ((some, digits_to word d), low))

no_plus : (word : List ℕ) → (slice_index word 0 == 43) ≡ false → without_leading_plus word ≡ word
no_plus word is = search rules

pub parsed : {E : Type 0} (word : List ℕ) (result : Result ℕ E) (n : ℕ) → (slice_index word 0 == 43) ≡ false → ParsesUnsigned 64 10 word result → result ≡ Ok n → number word ≡ Some n
parsed word result n plain parses is =
    let told = subst (ParsesUnsigned 64 10 word) is parses in
    let told2 : IsNumber word × (n ≡ digits_value 10 word) = subst (λ w. (IsNumeral 10 w × (digits_value 10 w < 2 ^ 64)) × (n ≡ digits_value 10 w)) (no_plus word plain) told in
    number_yes word told2.0 ∙ ap Some (sym told2.1)

pub unparsed : {E : Type 0} (word : List ℕ) (result : Result ℕ E) (e : E) → (slice_index word 0 == 43) ≡ false → ParsesUnsigned 64 10 word result → result ≡ Err e → number word ≡ None
unparsed word result e plain parses is =
    let told = subst (ParsesUnsigned 64 10 word) is parses in
    number_no word (λ is_number. told (subst IsNumber (sym (no_plus word plain)) is_number))
