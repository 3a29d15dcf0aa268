-- The text in normal form has the same lines.
use Rattle.std.proofs.Common.{◌≡◌, ◌≢◌, ℕ, zero, suc, ◌-◌, ◌/◌, ◌%◌, ◌<◌, ◌≤◌, Bool, true, false, not, cond, ◌&&◌, ◌==◌, if◌then◌else◌, List, [], ◌∷◌, ◌++◌, length, drop, take_while, map, flat_map, replicate, decimal, refl, sym, ap, subst, ◌∙◌, arith, append_assoc, length-append, lt-ltb, ltb-true}
use Rattle.std.specs.Char.{digit_value}
use Rattle.std.specs.List.{AllByRecursion, list_all}
use Rattle.std.specs.Int.Digits.{digits_of}
use Rattle.std.specs.Str.Parse.{digits_value}
use Rattle.std.proofs.lemmas.Bool.{ne_eqb}
use Rattle.bv_base.specs.Limits.{longest_text, line_numbers}
use Rattle.bv_num.specs.Digits.{is_digit, digit_byte, decimal_digits}
use Rattle.bv_num.specs.Value.{after_spaces, front_digits, front_value, begins_with}
use Rattle.bv_num.proofs.Numerals.{digits-split, digits-each, decimal_byte, decimal_digits-written, digits_value-digits}
use Rattle.bv_token.specs.Tokens.{onto_first}
use Rattle.token_file.specs.declared.line.Line.{Line}
use Rattle.lister.specs.Listing.{justified}
use Rattle.basv_crunch.specs.Pieces.{pieces, is_blank}
use Rattle.basv_crunch.specs.Crunched.{CrunchesTo, number_digits, body_of, IsLineOf, AreLines, kept_pieces, IsText}
use Rattle.basv_crunch.specs.NormalForm.{normal_line, normal_form}
use Rattle.basv_crunch.proofs.Rows.{passes, fails, all_map, all_append}
use Rattle.basv_crunch.proofs.SourceBytes.{Avoids, IsControl, line_end, return_byte, body_avoids}

-- a row stops where it is longest
row_stops : (test : ℕ → Bool) (l : List ℕ) → take_while test (drop (length (take_while test l)) l) ≡ []
row_stops test [] = refl
row_stops test (b ∷ l) = cases (test b) refl (row_stops test l)
  where
    cases : (t : Bool) → test b ≡ t → take_while test (drop (length (take_while test l)) l) ≡ [] → take_while test (drop (length (take_while test (b ∷ l))) (b ∷ l)) ≡ []
    cases true is later = ap (λ r. take_while test (drop (length r) (b ∷ l))) (passes test b l is) ∙ later
    cases false is later = ap (λ r. take_while test (drop (length r) (b ∷ l))) (fails test b l is) ∙ fails test b l is

row_append : (test : ℕ → Bool) (row body : List ℕ) → AllByRecursion (λ b. test b ≡ true) row → take_while test body ≡ [] → take_while test (row ++ body) ≡ row
row_append test [] body each stops = stops
row_append test (b ∷ row) body each stops = passes test b (row ++ body) each.0 ∙ ap (λ r. b ∷ r) (row_append test row body each.1 stops)

drop_row : (row body : List ℕ) → drop (length row) (row ++ body) ≡ body
drop_row [] body = refl
drop_row (b ∷ row) body = drop_row row body

-- what is written of a number
written : (n : ℕ) → n < line_numbers → decimal_digits n ≡ decimal n
written n low = decimal_digits-written n (omega (arith, low))

each_digit : (n : ℕ) → n < line_numbers → AllByRecursion (λ b. is_digit 10 b ≡ true) (decimal n)
each_digit n low =
    subst (AllByRecursion (λ b. is_digit 10 b ≡ true)) (written n low) (all_map (λ b. digit_value b < 10) (λ b. is_digit 10 b ≡ true) (λ b small. lt-ltb (digit_value b) 10 small) (decimal_digits n) (digits-each 10 n (omega arith) (omega arith)))

some_digit : (n : ℕ) → n < line_numbers → length (decimal n) ≢ 0
some_digit n low none = omega (arith, none, ap length (sym (written n low) ∙ digits-split 10 n), length-append (map digit_byte (digits_of 10 (n / 10))) (digit_byte (n % 10) ∷ []))

digit_range : (b : ℕ) → is_digit 10 b ≡ true → (48 ≤ b) × (b ≤ 57)
digit_range b is = decimal_byte b (ltb-true (digit_value b) 10 is)

-- spaces before a digit
spaces_passed : (k c : ℕ) (rest : List ℕ) → c ≢ 32 → after_spaces (replicate k 32 ++ c ∷ rest) ≡ c ∷ rest
spaces_passed zero c rest other = ap (λ t. if t then after_spaces rest else c ∷ rest) (ne_eqb c 32 other)
spaces_passed (suc k) c rest other = spaces_passed k c rest other

not_blank : (k c : ℕ) (rest : List ℕ) → c ≢ 32 → is_blank (replicate k 32 ++ c ∷ rest) ≡ false
not_blank zero c rest other = ap (λ t. t && list_all (λ b. b == 32) rest) (ne_eqb c 32 other)
not_blank (suc k) c rest other = not_blank k c rest other

spaces_avoid : (n k : ℕ) → n ≢ 32 → Avoids n (replicate k 32)
spaces_avoid n zero other = tt
spaces_avoid n (suc k) other = ((λ e. other (sym e)), spaces_avoid n k other)

-- a piece in normal form, without its new line
abbrev pub normal_piece : List ℕ → List ℕ
normal_piece piece = justified 5 (decimal (front_value 10 (after_spaces piece))) ++ body_of piece

-- what follows digits of which there is at least one
after_some : (k : ℕ) (row body : List ℕ) → length row ≢ 0 → AllByRecursion (λ b. is_digit 10 b ≡ true) row → (after_spaces (replicate k 32 ++ (row ++ body)) ≡ row ++ body) × (is_blank (replicate k 32 ++ (row ++ body)) ≡ false)
after_some k [] body some each = absurd (some refl)
after_some k (c ∷ row) body some each =
    let range = digit_range c each.0 in
    (spaces_passed k c (row ++ body) (λ e. omega (arith, range.0, e)), not_blank k c (row ++ body) (λ e. omega (arith, range.0, e)))

-- the value of digits before what is none
front_value_row : (row body : List ℕ) → AllByRecursion (λ b. is_digit 10 b ≡ true) row → take_while (is_digit 10) body ≡ [] → front_value 10 (row ++ body) ≡ digits_value 10 row
unfolding front_value
front_value_row row body each stops = ap (digits_value 10) (row_append (is_digit 10) row body each stops)

-- the line of spaces, digits and a body
line_again : (k number : ℕ) (body : List ℕ) (line : Line) → number < line_numbers → line.number ≡ number → take_while (is_digit 10) body ≡ [] → CrunchesTo body line.text → length line.text ≤ longest_text → IsLineOf (replicate k 32 ++ (decimal number ++ body)) line
line_again k number body line low is_number stops crunches short =
    let each = each_digit number low in
    let text_after = (after_some k (decimal number) body (some_digit number low) each).0 in
    let row : number_digits (replicate k 32 ++ (decimal number ++ body)) ≡ decimal number = ap (front_digits 10) text_after ∙ row_append (is_digit 10) (decimal number) body each stops in
    let value : front_value 10 (after_spaces (replicate k 32 ++ (decimal number ++ body))) ≡ number = ap (front_value 10) text_after ∙ front_value_row (decimal number) body each stops ∙ ap (digits_value 10) (sym (written number low)) ∙ digits_value-digits 10 number (omega arith) (omega arith) in
    let rest : body_of (replicate k 32 ++ (decimal number ++ body)) ≡ body = ap (λ r. drop (length r) (after_spaces (replicate k 32 ++ (decimal number ++ body)))) row ∙ ap (drop (length (decimal number))) text_after ∙ drop_row (decimal number) body in
    record {
      numbered = λ none. some_digit number low (ap length (sym row) ∙ none);
      number = is_number ∙ sym value;
      low = omega (arith, is_number, low);
      body = subst (λ b. CrunchesTo b line.text) (sym rest) crunches;
      short = short;
    }

-- what a piece in normal form is made of
abbrev spaces_of : List ℕ → ℕ
spaces_of piece = 5 - length (decimal (front_value 10 (after_spaces piece)))

shape : (piece : List ℕ) → normal_piece piece ≡ replicate (spaces_of piece) 32 ++ (decimal (front_value 10 (after_spaces piece)) ++ body_of piece)
shape piece = append_assoc (replicate (spaces_of piece) 32) (decimal (front_value 10 (after_spaces piece))) (body_of piece)

low_number : (piece : List ℕ) (line : Line) → IsLineOf piece line → front_value 10 (after_spaces piece) < line_numbers
low_number piece line is = omega (arith, is.number, is.low)

same_line : (piece : List ℕ) (line : Line) → IsLineOf piece line → IsLineOf (normal_piece piece) line
same_line piece line is =
    subst (λ p. IsLineOf p line) (sym (shape piece)) (line_again (spaces_of piece) (front_value 10 (after_spaces piece)) (body_of piece) line (low_number piece line is) is.number (row_stops (is_digit 10) (after_spaces piece)) is.body is.short)

is_kept : (piece : List ℕ) (line : Line) → IsLineOf piece line → is_blank (normal_piece piece) ≡ false
is_kept piece line is =
    let low = low_number piece line is in
    ap is_blank (shape piece) ∙ (after_some (spaces_of piece) (decimal (front_value 10 (after_spaces piece))) (body_of piece) (some_digit (front_value 10 (after_spaces piece)) low) (each_digit (front_value 10 (after_spaces piece)) low)).1

piece_avoids : (n : ℕ) → IsControl n → (piece : List ℕ) (line : Line) → IsLineOf piece line → Avoids n (normal_piece piece)
piece_avoids n control piece line is =
    let low = low_number piece line is in
    let value = front_value 10 (after_spaces piece) in
    subst (Avoids n) (sym (shape piece))
    (all_append (λ b. b ≢ n) (replicate (spaces_of piece) 32) (decimal value ++ body_of piece) (spaces_avoid n (spaces_of piece) (λ e. omega (arith, control.low, e)))
    (all_append (λ b. b ≢ n) (decimal value) (body_of piece) (all_map (λ b. is_digit 10 b ≡ true) (λ b. b ≢ n) (λ b digit e. (let range = digit_range b digit in omega (arith, range.0, e, control.low))) (decimal value) (each_digit value low)) (body_avoids n control (body_of piece) line.text is.body)))

-- a row without line ends and bytes 13 is a piece
piece_cut : (row rest : List ℕ) → Avoids 10 row → Avoids 13 row → pieces (row ++ 10 ∷ rest) ≡ row ∷ pieces rest
piece_cut [] rest ends returns = refl
piece_cut (b ∷ row) rest ends returns =
    (λ i. if ne_eqb b 10 ends.0 i then [] ∷ pieces (row ++ 10 ∷ rest) else if ne_eqb b 13 returns.0 i && begins_with 10 (row ++ 10 ∷ rest) then pieces (row ++ 10 ∷ rest) else onto_first b (pieces (row ++ 10 ∷ rest)))
    ∙ ap (onto_first b) (piece_cut row rest ends.1 returns.1)

line_shape : (piece rest : List ℕ) → normal_line piece ++ rest ≡ normal_piece piece ++ 10 ∷ rest
line_shape piece rest = append_assoc (normal_piece piece) (10 ∷ []) rest

normal_pieces : (all : List (List ℕ)) (lines : List Line) → AreLines all lines → pieces (flat_map normal_line all) ≡ map normal_piece all ++ [] ∷ []
normal_pieces [] [] are = refl
normal_pieces [] (l ∷ ls) are = absurd are
normal_pieces (p ∷ ps) [] are = absurd are
normal_pieces (p ∷ ps) (l ∷ ls) are =
    ap pieces (line_shape p (flat_map normal_line ps))
    ∙ piece_cut (normal_piece p) (flat_map normal_line ps) (piece_avoids 10 line_end p l are.0) (piece_avoids 13 return_byte p l are.0)
    ∙ ap (λ r. normal_piece p ∷ r) (normal_pieces ps ls are.1)

kept_again : (all : List (List ℕ)) (lines : List Line) → AreLines all lines → kept_pieces (map normal_piece all ++ [] ∷ []) ≡ map normal_piece all
kept_again [] [] are = refl
kept_again [] (l ∷ ls) are = absurd are
kept_again (p ∷ ps) [] are = absurd are
kept_again (p ∷ ps) (l ∷ ls) are =
    ap (λ t. cond (not t) (normal_piece p ∷ kept_pieces (map normal_piece ps ++ [] ∷ [])) (kept_pieces (map normal_piece ps ++ [] ∷ []))) (is_kept p l are.0)
    ∙ ap (λ r. normal_piece p ∷ r) (kept_again ps ls are.1)

lines_again : (all : List (List ℕ)) (lines : List Line) → AreLines all lines → AreLines (map normal_piece all) lines
lines_again [] [] are = tt
lines_again [] (l ∷ ls) are = absurd are
lines_again (p ∷ ps) [] are = absurd are
lines_again (p ∷ ps) (l ∷ ls) are = (same_line p l are.0, lines_again ps ls are.1)

-- the text in normal form has the lines of the text
pub text_again : (text : List ℕ) (lines : List Line) → IsText text lines → IsText (normal_form text) lines
text_again text lines is =
    let all = kept_pieces (pieces text) in
    subst (λ p. AreLines p lines) (sym (ap kept_pieces (normal_pieces all lines is) ∙ kept_again all lines is)) (lines_again all lines is)
