-- The longest number, by the digits that come first.
use Rattle.std.proofs.Common.{◌≡◌, ◌≢◌, ℕ, ◌+◌, ◌^◌, ◌≤◌, ◌<◌, min, Bool, true, false, cond, take_while, List, [], ◌∷◌, ◌++◌, length, refl, sym, ap, subst, ◌∙◌, arith, append_assoc, length-append, ℤ}
use Rattle.std.specs.Int.{w32, cast_signed, cast_unsigned}
use Rattle.std.proofs.lemmas.Int.{of_z-to_z}
use Rattle.std.proofs.lemmas.List.{append_cancel_left, nil_from_length}
use Rattle.std.specs.Str.Parse.{digits_value}
use Rattle.std.proofs.lemmas.List.Sums.{take_while-cons}
use Rattle.bv_num.specs.declared.value.DigitRun.{DigitRun}
use Rattle.bv_num.specs.Digits.{is_digit}
use Rattle.bv_num.specs.Value.{front_digits, front_value}
use Rattle.bas_lex.specs.declared.number.Radix.{Radix}
use Rattle.bas_lex.specs.declared.number.Radix.TheVariants as radixes
use Rattle.bas_lex.specs.declared.symbol.SymKind.{SymKind}
use Rattle.bas_lex.specs.declared.symbol.SymKind.TheVariants as kinds
use Rattle.bas_lex.specs.Kinds.{base, value_bound, radix_mark}
use Rattle.bas_lex.specs.Cut.{Begins, Longest}
use Rattle.bas_lex.specs.Scan.{IsRun, Numbers, HasDigits}
use Rattle.bas_lex.proofs.Runs.{same_runs}

-- the run of bytes at the front that pass a test, which is as long as it can be
abbrev FrontRun : (ℕ → Bool) → List ℕ → Type 0
FrontRun test text = (rest : List ℕ) × (run : IsRun test text rest) × (run.run ≡ take_while test text)

one_more_front : (test : ℕ → Bool) (c : ℕ) (text : List ℕ) (t : Bool) → test c ≡ t → FrontRun test text → FrontRun test (c ∷ text)
one_more_front test c text true is mode_after = (
  mode_after.0,
  record { run = c ∷ mode_after.1.run; each = (is, mode_after.1.each); split = ap (λ l. c ∷ l) mode_after.1.split; stops = mode_after.1.stops },
  ap (λ l. c ∷ l) mode_after.2 ∙ sym (take_while-cons test c text ∙ ap (λ t. cond t (c ∷ take_while test text) []) is),
)
one_more_front test c text false is mode_after = (
  c ∷ text,
  record { run = []; each = tt; split = refl; stops = is },
  sym (take_while-cons test c text ∙ ap (λ t. cond t (c ∷ take_while test text) []) is),
)

front_run : (test : ℕ → Bool) (text : List ℕ) → FrontRun test text
front_run test [] = ([], record { run = []; each = tt; split = refl; stops = tt }, refl)
front_run test (c ∷ text) = one_more_front test c text (test c) refl (front_run test text)

pub digits_read : (radix : Radix) (text : List ℕ) (digits : DigitRun) → digits.value ≡ min (front_value (base radix) text) (2 ^ 32) → digits.count ≡ length (front_digits (base radix) text) → HasDigits radix text digits
unfolding front_value
digits_read radix text digits value count =
    let front = front_run (is_digit (base radix)) text in record {
      rest = front.0;
      run = front.1;
      value = value ∙ ap (λ ds. min (digits_value (base radix) ds) (2 ^ 32)) (sym front.2);
      count = count ∙ ap length (sym front.2);
    }

below_cap : (radix : Radix) (n : ℕ) → n < value_bound radix → n < 2 ^ 32
below_cap radixes.Decimal n small = omega (arith, small)
below_cap radixes.Hexadecimal n small = small
below_cap radixes.Binary n small = small

bound_within : (radix : Radix) (n : ℕ) → value_bound radix ≤ min n (2 ^ 32) → value_bound radix ≤ n
bound_within radix n large = omega (arith, large)

-- each number that begins there has the digits that were read
all_digits : (radix : Radix) (text : List ℕ) (digits : DigitRun) (has : HasDigits radix text digits) (other : SymKind) (n : ℕ) (b : Begins (Numbers radix) (radix_mark radix ++ text) other n)
    → (digits_value (base radix) has.run.run < value_bound radix) × (has.run.run ≢ []) × (n ≡ length (radix_mark radix) + digits.count)
all_digits radix text digits has (kinds.Number value) n b =
    let whole : text ≡ b.is.digits ++ b.rest = append_cancel_left (radix_mark radix) text _ (b.split ∙ ap (λ l. l ++ b.rest) b.is.spelled ∙ append_assoc (radix_mark radix) b.is.digits b.rest) in
    let same = same_runs (is_digit (base radix)) has.run.run b.is.digits has.rest b.rest has.run.each b.is.each has.run.stops b.is.all (sym has.run.split ∙ whole) in (
      subst (λ l. digits_value (base radix) l < value_bound radix) (sym same.0) b.is.small,
      λ e. b.is.some (sym same.0 ∙ e),
      omega (arith, b.size_is, ap length b.is.spelled, length-append (radix_mark radix) b.is.digits, ap length same.0, has.count),
    )
all_digits radix text digits has kind n b = absurd b.is

pub no_digits : (radix : Radix) (text : List ℕ) (digits : DigitRun) → HasDigits radix text digits → digits.count ≡ 0 → (kind : SymKind) (n : ℕ) → Begins (Numbers radix) (radix_mark radix ++ text) kind n → ⊥
no_digits radix text digits has none kind n b = (all_digits radix text digits has kind n b).1 (nil_from_length has.run.run (omega (arith, has.count, none)))

pub too_great : (radix : Radix) (text : List ℕ) (digits : DigitRun) → HasDigits radix text digits → (bound : ℕ) → bound ≡ value_bound radix → bound ≤ digits.value → (kind : SymKind) (n : ℕ) → Begins (Numbers radix) (radix_mark radix ++ text) kind n → ⊥
too_great radix text digits has bound bound_is large kind n b =
    let small = (all_digits radix text digits has kind n b).0 in
    let within = bound_within radix (digits_value (base radix) has.run.run) (omega (arith, large, bound_is, has.value)) in
    omega (arith, small, within)

pub number_best : (radix : Radix) (text : List ℕ) (digits : DigitRun) (bound size : ℕ) (value : ℤ) → HasDigits radix text digits → digits.count ≢ 0 → bound ≡ value_bound radix → digits.value < bound → value ≡ cast_signed w32 digits.value → size ≡ length (radix_mark radix) → Longest (Numbers radix) (radix_mark radix ++ text) (kinds.Number (cast_signed w32 (cast_unsigned w32 value))) (size + digits.count)
number_best radix text digits bound size value has some bound_is below value_is size_mark = record {
  begins = record {
    bytes = radix_mark radix ++ has.run.run;
    rest = has.rest;
    split = ap (λ l. radix_mark radix ++ l) has.run.split ∙ sym (append_assoc (radix_mark radix) has.run.run has.rest);
    size_is = omega (arith, length-append (radix_mark radix) has.run.run, has.count, size_mark);
    is = record {
      digits = has.run.run;
      some = λ e. some (has.count ∙ ap length e);
      each = has.run.each;
      all = has.run.stops;
      small = subst (λ v. v < value_bound radix) same_value small;
      signed = ap (λ v. cast_signed w32 (cast_unsigned w32 v)) value_is ∙ ap (λ v. cast_signed w32 v) (of_z-to_z w32 digits.value (below_cap radix digits.value small) ∙ same_value);
      spelled = refl;
    };
  };
  longest = λ other n b. omega (arith, (all_digits radix text digits has other n b).2, size_mark);
}
  where
    small : digits.value < value_bound radix
    small = omega (arith, below, bound_is)

    same_value : digits.value ≡ digits_value (base radix) has.run.run
    same_value = let low = below_cap radix digits.value small in omega (arith, low, has.value)
