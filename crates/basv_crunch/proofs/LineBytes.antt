-- No byte of a line's text is the one that begins a record.
use Rattle.std.proofs.Common.{◌≡◌, ◌≢◌, ℕ, zero, suc, ◌+◌, ◌/◌, ◌%◌, ◌<◌, ◌≤◌, Bool, true, false, not, ◌&&◌, ◌||◌, ◌==◌, nat_le, nat_lt, if◌then◌else◌, List, [], ◌∷◌, length, take, drop, take_while, Option, Some, None, refl, sym, ap, subst, ◌∙◌, arith, true≢false, leb-true, ltb-true, All}
use Rattle.std.specs.List.{AllByRecursion}
use Rattle.std.proofs.lemmas.Bool.{and_parts}
use Rattle.bv_base.specs.Limits.{line_numbers}
use Rattle.bv_num.specs.Digits.{is_digit}
use Rattle.bv_num.specs.Value.{front_digits, front_value}
use Rattle.bv_token.specs.Names.{begins_name, is_in_name}
use Rattle.bv_token.specs.References.{line_reference, reference_of}
use Rattle.bv_token.specs.Words.{LongestWord}
use Rattle.bv_token.proofs.Candidates.{is_token_number, token_number}
use Rattle.bv_token.proofs.References.{all_in_range}
use Rattle.token_file.specs.declared.line.Line.{Line}
use Rattle.token_file.specs.Lines.{record_start, IsLine}
use Rattle.basv_crunch.specs.declared.part.Kind.{Kind}
use Rattle.basv_crunch.specs.declared.part.Kind.TheVariants as kinds
use Rattle.basv_crunch.specs.declared.part.Part.{Part}
use Rattle.basv_crunch.specs.declared.part.Place.{Place}
use Rattle.basv_crunch.specs.declared.part.Place.TheVariants as places
use Rattle.basv_crunch.specs.Parts.{part_of, unless_none, kept, is_reference, referred, Early, Alone, Before, by_place, token_at, worded, row, single, or_else, FirstOf, token_bytes, part_bytes, after_part}
use Rattle.basv_crunch.specs.Crunched.{CutInto, parts_bytes, IsLineOf, AreLines}
use Rattle.basv_crunch.proofs.Rows.{row_is, row_passes, all_map, all_append}

-- each byte is another one than 13
abbrev pub Clean : List ℕ → Type 0
Clean bytes = AllByRecursion (λ b. b ≢ record_start) bytes

not_13 : (test : ℕ → Bool) → test 13 ≡ false → (b : ℕ) → test b ≡ true → b ≢ 13
not_13 test fails b passes e = true≢false (sym passes ∙ ap test e ∙ fails)

clean_row : (test : ℕ → Bool) → test 13 ≡ false → (text : List ℕ) → Clean (take_while test text)
clean_row test fails text = all_map (λ b. test b ≡ true) (λ b. b ≢ 13) (not_13 test fails) (take_while test text) (row_passes test text)

clean_taken : (test : ℕ → Bool) → test 13 ≡ false → (text : List ℕ) → Clean (take (length (take_while test text)) text)
clean_taken test fails text = subst Clean (sym (row_is test text)) (clean_row test fails text)

-- a part's bytes are clean
abbrev pub IsCleanPart : List ℕ → Option Part → Type 0
IsCleanPart text None = Unit {0}
IsCleanPart text (Some part) = Clean (part_bytes part.kind (take part.size text))

clean_unless : (text : List ℕ) (kind : Kind) (size : ℕ) → Clean (part_bytes kind (take size text)) → IsCleanPart text (unless_none kind size)
clean_unless text kind size clean = cases (size == 0)
  where
    cases : (t : Bool) → IsCleanPart text (if t then None else Some (part_of kind size))
    cases true = tt
    cases false = clean

clean_kept : (text : List ℕ) → IsCleanPart text (kept text)
clean_kept [] = tt
clean_kept (b ∷ rest) = cases (nat_le 32 b && not (b == 127)) refl
  where
    cases : (t : Bool) → (nat_le 32 b && not (b == 127)) ≡ t → IsCleanPart (b ∷ rest) (if t then Some (part_of (kinds.Kept b) 1) else None)
    cases true is = let low = leb-true 32 b (and_parts (nat_le 32 b) (not (b == 127)) is).0 in ((λ e. omega (arith, low, e)), tt)
    cases false is = tt

clean_reference : (number : ℕ) → number < line_numbers → Clean (line_reference ∷ reference_of number)
clean_reference number low =
    ((λ e. omega (arith, e)), all_map (λ b. (64 ≤ b) × (b < 128)) (λ b. b ≢ 13) (λ b range e. omega (arith, range.0, e)) (reference_of number) (all_in_range (number % 256) (number / 256) number refl (omega (arith, low))))

clean_referred : (text : List ℕ) → IsCleanPart text (referred text)
clean_referred text = cases (is_reference text) refl
  where
    cases : (t : Bool) → is_reference text ≡ t → IsCleanPart text (if t then unless_none (kinds.Reference (front_value 10 text)) (length (front_digits 10 text)) else None)
    cases true is =
        let low = ltb-true (front_value 10 text) line_numbers (and_parts _ _ is).1 in
        clean_unless text (kinds.Reference (front_value 10 text)) (length (front_digits 10 text)) (clean_reference (front_value 10 text) low)
    cases false is = tt

-- what the first three rules give is clean
abbrev IsCleanEarly : List ℕ → Early → Type 0
IsCleanEarly text (Alone found) = IsCleanPart text found
IsCleanEarly text (Before found) = IsCleanPart text found

clean_by_place : (place : Place) (text : List ℕ) → IsCleanEarly text (by_place place text)
clean_by_place places.Quotes text = clean_kept text
clean_by_place places.Tail text = clean_kept text
clean_by_place places.Call text = clean_unless text kinds.Called (length (take_while is_in_name text)) (clean_taken is_in_name refl text)
clean_by_place places.Awaiting text = clean_referred text
clean_by_place places.Start text = tt
clean_by_place places.Code text = tt
clean_by_place places.Referred text = tt

clean_row_part : (text : List ℕ) → IsCleanPart text (row text)
clean_row_part [] = tt
clean_row_part (b ∷ rest) = cases (b == 38) (begins_name b || b == 64) refl refl
  where
    cases : (t u : Bool) → (b == 38) ≡ t → (begins_name b || b == 64) ≡ u → IsCleanPart (b ∷ rest) (if t then Some (part_of kinds.Row (1 + length (front_digits 16 rest))) else if u then Some (part_of kinds.Row (1 + length (take_while is_in_name rest))) else None)
    cases true u is _ = subst (λ n. Clean (take n (b ∷ rest))) (let e : suc (length (front_digits 16 rest)) ≡ 1 + length (front_digits 16 rest) = omega arith in e) (not_13 (λ c. c == 38) refl b is, clean_taken (is_digit 16) refl rest)
    cases false true _ is = subst (λ n. Clean (take n (b ∷ rest))) (let e : suc (length (take_while is_in_name rest)) ≡ 1 + length (take_while is_in_name rest) = omega arith in e) (not_13 (λ c. begins_name c || c == 64) refl b is, clean_taken is_in_name refl rest)
    cases false false _ _ = tt

clean_single : (text : List ℕ) → IsCleanPart text (single text)
clean_single [] = tt
clean_single (b ∷ rest) = cases (nat_le 32 b && nat_lt b 127) refl
  where
    cases : (t : Bool) → (nat_le 32 b && nat_lt b 127) ≡ t → IsCleanPart (b ∷ rest) (if t then Some (part_of (kinds.Single b) 1) else None)
    cases true is = let low = leb-true 32 b (and_parts (nat_le 32 b) (nat_lt b 127) is).0 in ((λ e. omega (arith, low, e)), tt)
    cases false is = tt

clean_token : (token : ℕ) → is_token_number token ≡ true → Clean (token_bytes token)
clean_token token is = by_size (nat_lt token 256) refl is
  where
    by_size : (t : Bool) → nat_lt token 256 ≡ t → (nat_le 127 token && t || nat_le 50688 token && (nat_lt token 51456 && nat_le 128 (token % 256))) ≡ true → Clean (if t then token ∷ [] else token / 256 ∷ token % 256 ∷ [])
    by_size true small is = ((λ e. by_low (nat_le 127 token) refl is e), tt)
      where
        by_low : (u : Bool) → nat_le 127 token ≡ u → (u && true || nat_le 50688 token && (nat_lt token 51456 && nat_le 128 (token % 256))) ≡ true → token ≡ 13 → ⊥
        by_low true low is e = omega (arith, leb-true 127 token low, e)
        by_low false low is e = let high = leb-true 50688 token (and_parts (nat_le 50688 token) (nat_lt token 51456 && nat_le 128 (token % 256)) is).0 in omega (arith, high, e)
    by_size false large is = by_low (nat_le 127 token) is
      where
        by_low : (u : Bool) → (u && false || nat_le 50688 token && (nat_lt token 51456 && nat_le 128 (token % 256))) ≡ true → Clean (token / 256 ∷ token % 256 ∷ [])
        by_low true is = pair is
          where
            pair : (nat_le 50688 token && (nat_lt token 51456 && nat_le 128 (token % 256))) ≡ true → Clean (token / 256 ∷ token % 256 ∷ [])
            pair is =
                let high = and_parts (nat_le 50688 token) (nat_lt token 51456 && nat_le 128 (token % 256)) is in
                let least = leb-true 50688 token high.0 in
                let second = leb-true 128 (token % 256) (and_parts (nat_lt token 51456) (nat_le 128 (token % 256)) high.1).1 in
                ((λ e. omega (arith, least, e)), ((λ e. omega (arith, second, e)), tt))
        by_low false is = pair is
          where
            pair : (nat_le 50688 token && (nat_lt token 51456 && nat_le 128 (token % 256))) ≡ true → Clean (token / 256 ∷ token % 256 ∷ [])
            pair is =
                let high = and_parts (nat_le 50688 token) (nat_lt token 51456 && nat_le 128 (token % 256)) is in
                let least = leb-true 50688 token high.0 in
                let second = leb-true 128 (token % 256) (and_parts (nat_lt token 51456) (nat_le 128 (token % 256)) high.1).1 in
                ((λ e. omega (arith, least, e)), ((λ e. omega (arith, second, e)), tt))

clean_at : (place : Place) (token : ℕ) → Clean (token_bytes token) → Clean (token_bytes (token_at place token))
clean_at places.Start token clean = cases (token == 139)
  where
    cases : (t : Bool) → Clean (token_bytes (if t then 204 else token))
    cases true = ((λ e. omega (arith, e)), tt)
    cases false = clean
clean_at places.Code token clean = clean
clean_at places.Quotes token clean = clean
clean_at places.Tail token clean = clean
clean_at places.Call token clean = clean
clean_at places.Awaiting token clean = clean
clean_at places.Referred token clean = clean

clean_worded : (place : Place) (text : List ℕ) (word : Option (ℕ × ℕ)) → LongestWord text word → IsCleanPart text (worded place word)
clean_worded place text None longest = tt
clean_worded place text (Some word) longest = clean_at place word.1 (clean_token word.1 (token_number word.1 longest.0.word longest.0.is_word))

clean_or : (text : List ℕ) (a b : Option Part) → IsCleanPart text a → IsCleanPart text b → IsCleanPart text (or_else a b)
clean_or text None b is other = other
clean_or text (Some part) b is other = is

clean_of : (early : Early) (place : Place) (text : List ℕ) (found : Option Part) → IsCleanEarly text early → FirstOf early place text found → IsCleanPart text found
clean_of (Alone part) place text found is first = subst (IsCleanPart text) (sym first) is
clean_of (Before (Some part)) place text found is first = subst (IsCleanPart text) (sym first) is
clean_of (Before None) place text found is first =
    subst (IsCleanPart text) (sym first.2) (clean_or text (worded place first.0) (or_else (row text) (single text)) (clean_worded place text first.0 first.1) (clean_or text (row text) (single text) (clean_row_part text) (clean_single text)))

clean_parts : (place : Place) (text : List ℕ) (parts : List Part) → CutInto place text parts → Clean (parts_bytes text parts)
clean_parts place text [] cut = tt
clean_parts place text (part ∷ parts) cut =
    all_append (λ b. b ≢ 13) (part_bytes part.kind (take part.size text)) (parts_bytes (drop part.size text) parts) (clean_of (by_place place text) place text (Some part) (clean_by_place place text) cut.1) (clean_parts (after_part place part.kind) (drop part.size text) parts cut.2)

-- the line of a piece is one that a record can hold
pub fits_record : (piece : List ℕ) (line : Line) → IsLineOf piece line → IsLine line
fits_record piece line is = record {
  number = is.low;
  short = is.short;
  text = subst Clean (sym is.body.bytes) (clean_parts places.Start _ is.body.parts is.body.cut);
}

each_line : (pieces : List (List ℕ)) (lines : List Line) → AreLines pieces lines → AllByRecursion IsLine lines
each_line [] [] are = tt
each_line [] (l ∷ ls) are = absurd are
each_line (p ∷ ps) [] are = absurd are
each_line (p ∷ ps) (l ∷ ls) are = (fits_record p l are.0, each_line ps ls are.1)

to_all : (lines : List Line) → AllByRecursion IsLine lines → All IsLine lines
to_all [] each k d within = absurd (omega (arith, within))
to_all (l ∷ ls) each zero d within = each.0
to_all (l ∷ ls) each (suc k) d within = to_all ls each.1 k d (omega (arith, within))

pub all_lines : (pieces : List (List ℕ)) (lines : List Line) → AreLines pieces lines → All IsLine lines
all_lines pieces lines are = to_all lines (each_line pieces lines are)
