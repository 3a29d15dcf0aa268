-- Whether a record is at the front, by its bytes.
use Rattle.std.proofs.Common.{◌≡◌, ◌≢◌, ◌≤◌, ◌↔◌, IsTrue, not, ℕ, ◌+◌, ◌*◌, ◌/◌, ◌%◌, ◌<◌, Bool, true, false, nat_eq, List, [], ◌∷◌, ◌++◌, length, take, drop, refl, sym, ◌∙◌, arith, take-append-drop, subst, true≢false, ◌||◌, eqb-true, eq-eqb}
use Rattle.std.specs.List.{AllByRecursion, list_any}
use Rattle.token_file.specs.declared.line.Line.{Line}
use Rattle.bv_base.specs.Limits.{longest_text, line_numbers}
use Rattle.token_file.specs.Lines.{record_start, end_mark, head_bytes, record_of, IsLine, BeginsRecord}
use Rattle.bv_base.proofs.Lists.{same_head, same_tail, same_fronts}

abbrev pub is_start : ℕ → Bool
is_start b = nat_eq b record_start

pub no_start : (bytes : List ℕ) → list_any is_start bytes ≡ false → AllByRecursion (λ b. b ≢ record_start) bytes
no_start [] none = tt
no_start (b ∷ bytes) none = cases (nat_eq b record_start) refl none (no_start bytes)
  where
    cases : (t : Bool) → nat_eq b record_start ≡ t → (t || list_any is_start bytes) ≡ false → (list_any is_start bytes ≡ false → AllByRecursion (λ b. b ≢ record_start) bytes) → (b ≢ record_start) × AllByRecursion (λ b. b ≢ record_start) bytes
    cases true is none others = absurd (true≢false none)
    cases false is none others = ((λ e. absurd (true≢false (sym (eq-eqb b record_start e) ∙ is))), others none)

pub some_start : (bytes : List ℕ) → list_any is_start bytes ≡ true → AllByRecursion (λ b. b ≢ record_start) bytes → ⊥
some_start [] some each = true≢false (sym some)
some_start (b ∷ bytes) some each = cases (nat_eq b record_start) refl some (λ s. some_start bytes s each.1)
  where
    cases : (t : Bool) → nat_eq b record_start ≡ t → (t || list_any is_start bytes) ≡ true → (list_any is_start bytes ≡ true → ⊥) → ⊥
    cases true is some others = each.0 (eqb-true b record_start is)
    cases false is some others = others some

pub split_joins : (n : ℕ) (whole front back : List ℕ) → front ≡ take n whole → back ≡ drop n whole → whole ≡ front ++ back
split_joins n whole front back is_front is_back = sym (take-append-drop n whole) ∙ (λ i. sym is_front i ++ sym is_back i)

-- a text of the right length that has a byte which begins a record belongs to no record
pub text_with_start : (high low size count : ℕ) (whole text after : List ℕ) → whole ≡ text ++ after → size ≡ count + head_bytes → length text ≡ count → list_any is_start text ≡ true → BeginsRecord (record_start ∷ high ∷ low ∷ size ∷ whole) → ⊥
text_with_start high low size count whole text after joined is_size is_count some (line, rest, is, record_is) =
    let e = (λ i. record_start ∷ high ∷ low ∷ size ∷ sym joined i) ∙ record_is in
    let same_rest = same_tail _ _ _ _ (same_tail _ _ _ _ (same_tail _ _ _ _ e)) in
    let fronts = same_fronts text line.text after rest (omega (arith, same_head _ _ _ _ same_rest, is_size, is_count)) (same_tail _ _ _ _ same_rest) in
    some_start text some (let P : List ℕ → Type 0 = λ t. AllByRecursion (λ b. b ≢ record_start) t in subst P (sym fronts.0) is.text)

-- the bytes of a record
pub is_record : (high low size count : ℕ) (whole text after : List ℕ) → whole ≡ text ++ after → high < end_mark → low < 256 → size < 256 → size ≡ count + head_bytes → length text ≡ count → list_any is_start text ≡ false
    → IsLine (record { number = high * 256 + low; text = text }) × (record_start ∷ high ∷ low ∷ size ∷ whole ≡ record_of (record { number = high * 256 + low; text = text }) ++ after)
is_record high low size count whole text after joined high_small low_small size_small is_size is_count none =
    let at_high : high ≡ (high * 256 + low) / 256 = omega arith in
    let at_low : low ≡ (high * 256 + low) % 256 = omega arith in
    let at_size : size ≡ length text + head_bytes = omega arith in
    (record { number = omega arith; short = omega arith; text = no_start text none }, (λ i. record_start ∷ at_high i ∷ at_low i ∷ at_size i ∷ joined i))

-- a line whose number and length a record can hold, by its text
pub fits_text : (line : Line) (text : List ℕ) (has_start : Bool) → line.number < line_numbers → length line.text ≤ longest_text → text ≡ line.text → has_start ≡ list_any is_start text → IsTrue (not has_start) ↔ IsLine line
fits_text line text false number short is none =
    (λ _. record { number = number; short = short; text = subst (AllByRecursion (λ b. b ≢ record_start)) is (no_start text (sym none)) }, λ _. refl)
fits_text line text true number short is some =
    (λ e. absurd (true≢false (sym e)), λ fits. absurd (some_start text (sym some) (subst (AllByRecursion (λ b. b ≢ record_start)) (sym is) fits.text)))
