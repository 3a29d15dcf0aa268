-- A body has no byte that ends a line or comes before such a byte.
use Rattle.std.proofs.Common.{◌≡◌, ◌≢◌, ℕ, suc, ◌+◌, ◌<◌, Bool, true, false, not, ◌&&◌, ◌||◌, ◌==◌, nat_le, nat_lt, if◌then◌else◌, List, [], ◌∷◌, length, take, drop, take_while, take-append-drop, Option, Some, None, refl, sym, ap, subst, ◌∙◌, arith, true≢false, leb-true}
use Rattle.std.proofs.Math.Seq.{take-append_seam}
use Rattle.std.specs.List.{AllByRecursion, list_all}
use Rattle.std.proofs.lemmas.Bool.{and_parts}
use Rattle.bv_num.specs.Digits.{is_digit}
use Rattle.bv_num.specs.Value.{front_digits, front_value}
use Rattle.bv_token.specs.Names.{begins_name, is_in_name}
use Rattle.bv_token.specs.Words.{LongestWord}
use Rattle.bv_token.proofs.Candidates.{word_visible}
use Rattle.basv_crunch.specs.declared.part.Kind.{Kind}
use Rattle.basv_crunch.specs.declared.part.Kind.TheVariants as kinds
use Rattle.basv_crunch.specs.declared.part.Part.{Part}
use Rattle.basv_crunch.specs.declared.part.Place.{Place}
use Rattle.basv_crunch.specs.declared.part.Place.TheVariants as places
use Rattle.basv_crunch.specs.Parts.{part_of, unless_none, kept, is_reference, referred, Early, Alone, Before, by_place, worded, row, single, or_else, FirstOf, after_part}
use Rattle.basv_crunch.specs.Crunched.{CutInto, CrunchesTo}
use Rattle.basv_crunch.proofs.Rows.{row_is, row_passes, all_map, all_append}

-- a byte that no part has
pub record IsControl (n : ℕ) : Type 0 where
  pub low : n < 32
  pub no_name : is_in_name n ≡ false
  pub no_hexadecimal : is_digit 16 n ≡ false
  pub no_decimal : is_digit 10 n ≡ false
  pub no_ampersand : (n == 38) ≡ false
  pub no_first : (begins_name n || n == 64) ≡ false

pub line_end : IsControl 10
line_end = record { low = omega arith; no_name = refl; no_hexadecimal = refl; no_decimal = refl; no_ampersand = refl; no_first = refl }

pub return_byte : IsControl 13
return_byte = record { low = omega arith; no_name = refl; no_hexadecimal = refl; no_decimal = refl; no_ampersand = refl; no_first = refl }

-- a list without a byte
abbrev pub Avoids : ℕ → List ℕ → Type 0
Avoids n bytes = AllByRecursion (λ b. b ≢ n) bytes

-- the text of a part is without it
abbrev SourceAvoids : ℕ → List ℕ → Option Part → Type 0
SourceAvoids n text None = Unit {0}
SourceAvoids n text (Some part) = Avoids n (take part.size text)

other_than : (test : ℕ → Bool) (n : ℕ) → test n ≡ false → (b : ℕ) → test b ≡ true → b ≢ n
other_than test n fails b passes e = true≢false (sym passes ∙ ap test e ∙ fails)

row_avoids : (n : ℕ) (test : ℕ → Bool) → test n ≡ false → (text : List ℕ) → Avoids n (take (length (take_while test text)) text)
row_avoids n test fails text = subst (Avoids n) (sym (row_is test text)) (all_map (λ b. test b ≡ true) (λ b. b ≢ n) (other_than test n fails) (take_while test text) (row_passes test text))

unless_avoids : (n : ℕ) (text : List ℕ) (kind : Kind) (size : ℕ) → Avoids n (take size text) → SourceAvoids n text (unless_none kind size)
unless_avoids n text kind size avoids = cases (size == 0)
  where
    cases : (t : Bool) → SourceAvoids n text (if t then None else Some (part_of kind size))
    cases true = tt
    cases false = avoids

kept_avoids : (n : ℕ) → IsControl n → (text : List ℕ) → SourceAvoids n text (kept text)
kept_avoids n control [] = tt
kept_avoids n control (b ∷ rest) = cases (nat_le 32 b && not (b == 127)) refl
  where
    cases : (t : Bool) → (nat_le 32 b && not (b == 127)) ≡ t → SourceAvoids n (b ∷ rest) (if t then Some (part_of (kinds.Kept b) 1) else None)
    cases true is = let low = leb-true 32 b (and_parts (nat_le 32 b) (not (b == 127)) is).0 in ((λ e. omega (arith, low, e, control.low)), tt)
    cases false is = tt

referred_avoids : (n : ℕ) → IsControl n → (text : List ℕ) → SourceAvoids n text (referred text)
referred_avoids n control text = cases (is_reference text)
  where
    cases : (t : Bool) → SourceAvoids n text (if t then unless_none (kinds.Reference (front_value 10 text)) (length (front_digits 10 text)) else None)
    cases true = unless_avoids n text (kinds.Reference (front_value 10 text)) (length (front_digits 10 text)) (row_avoids n (is_digit 10) control.no_decimal text)
    cases false = tt

-- the first three rules
abbrev EarlyAvoids : ℕ → List ℕ → Early → Type 0
EarlyAvoids n text (Alone found) = SourceAvoids n text found
EarlyAvoids n text (Before found) = SourceAvoids n text found

by_place_avoids : (n : ℕ) → IsControl n → (place : Place) (text : List ℕ) → EarlyAvoids n text (by_place place text)
by_place_avoids n control places.Quotes text = kept_avoids n control text
by_place_avoids n control places.Tail text = kept_avoids n control text
by_place_avoids n control places.Call text = unless_avoids n text kinds.Called (length (take_while is_in_name text)) (row_avoids n is_in_name control.no_name text)
by_place_avoids n control places.Awaiting text = referred_avoids n control text
by_place_avoids n control places.Start text = tt
by_place_avoids n control places.Code text = tt
by_place_avoids n control places.Referred text = tt

row_part_avoids : (n : ℕ) → IsControl n → (text : List ℕ) → SourceAvoids n text (row text)
row_part_avoids n control [] = tt
row_part_avoids n control (b ∷ rest) = cases (b == 38) (begins_name b || b == 64) refl refl
  where
    more : (size : ℕ) → b ≢ n → Avoids n (take size rest) → Avoids n (take (1 + size) (b ∷ rest))
    more size other each = subst (λ k. Avoids n (take k (b ∷ rest))) (let e : suc size ≡ 1 + size = omega arith in e) (other, each)

    cases : (t u : Bool) → (b == 38) ≡ t → (begins_name b || b == 64) ≡ u → SourceAvoids n (b ∷ rest) (if t then Some (part_of kinds.Row (1 + length (front_digits 16 rest))) else if u then Some (part_of kinds.Row (1 + length (take_while is_in_name rest))) else None)
    cases true u is _ = more (length (front_digits 16 rest)) (other_than (λ c. c == 38) n control.no_ampersand b is) (row_avoids n (is_digit 16) control.no_hexadecimal rest)
    cases false true _ is = more (length (take_while is_in_name rest)) (other_than (λ c. begins_name c || c == 64) n control.no_first b is) (row_avoids n is_in_name control.no_name rest)
    cases false false _ _ = tt

single_avoids : (n : ℕ) → IsControl n → (text : List ℕ) → SourceAvoids n text (single text)
single_avoids n control [] = tt
single_avoids n control (b ∷ rest) = cases (nat_le 32 b && nat_lt b 127) refl
  where
    cases : (t : Bool) → (nat_le 32 b && nat_lt b 127) ≡ t → SourceAvoids n (b ∷ rest) (if t then Some (part_of (kinds.Single b) 1) else None)
    cases true is = let low = leb-true 32 b (and_parts (nat_le 32 b) (nat_lt b 127) is).0 in ((λ e. omega (arith, low, e, control.low)), tt)
    cases false is = tt

visible_avoids : (n : ℕ) → n < 32 → (word : List ℕ) → list_all (nat_le 33) word ≡ true → Avoids n word
visible_avoids n low [] all = tt
visible_avoids n low (c ∷ word) all =
    let both = and_parts (nat_le 33 c) (list_all (nat_le 33) word) all in
    let least = leb-true 33 c both.0 in
    ((λ e. omega (arith, least, e, low)), visible_avoids n low word both.1)

worded_avoids : (n : ℕ) → IsControl n → (place : Place) (text : List ℕ) (word : Option (ℕ × ℕ)) → LongestWord text word → SourceAvoids n text (worded place word)
worded_avoids n control place text None longest = tt
worded_avoids n control place text (Some found) longest =
    let b = longest.0 in
    let taken : take found.0 text ≡ b.word = ap (λ k. take k text) (sym b.size_is) ∙ ap (take (length b.word)) b.spelled ∙ take-append_seam b.word b.rest in
    subst (Avoids n) (sym taken) (visible_avoids n control.low b.word (word_visible found.1 b.word b.is_word))

or_avoids : (n : ℕ) (text : List ℕ) (a b : Option Part) → SourceAvoids n text a → SourceAvoids n text b → SourceAvoids n text (or_else a b)
or_avoids n text None b is other = other
or_avoids n text (Some part) b is other = is

of_avoids : (n : ℕ) → IsControl n → (early : Early) (place : Place) (text : List ℕ) (found : Option Part) → EarlyAvoids n text early → FirstOf early place text found → SourceAvoids n text found
of_avoids n control (Alone part) place text found is first = subst (SourceAvoids n text) (sym first) is
of_avoids n control (Before (Some part)) place text found is first = subst (SourceAvoids n text) (sym first) is
of_avoids n control (Before None) place text found is first =
    subst (SourceAvoids n text) (sym first.2) (or_avoids n text (worded place first.0) (or_else (row text) (single text)) (worded_avoids n control place text first.0 first.1) (or_avoids n text (row text) (single text) (row_part_avoids n control text) (single_avoids n control text)))

cut_avoids : (n : ℕ) → IsControl n → (place : Place) (text : List ℕ) (parts : List Part) → CutInto place text parts → Avoids n text
cut_avoids n control place text [] cut = subst (Avoids n) (sym cut) tt
cut_avoids n control place text (part ∷ parts) cut =
    subst (Avoids n) (take-append-drop part.size text)
    (all_append (λ b. b ≢ n) (take part.size text) (drop part.size text) (of_avoids n control (by_place place text) place text (Some part) (by_place_avoids n control place text) cut.1) (cut_avoids n control (after_part place part.kind) (drop part.size text) parts cut.2))

pub body_avoids : (n : ℕ) → IsControl n → (body text : List ℕ) → CrunchesTo body text → Avoids n body
body_avoids n control body text is = cut_avoids n control places.Start body is.parts is.cut
