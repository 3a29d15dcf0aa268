-- The tokens of a body list as the body, part by part.
use Rattle.std.proofs.Common.{◌≡◌, ◌≢◌, ◌⊎◌, inl, inr, ℕ, suc, ◌+◌, ◌<◌, Bool, true, false, not, ◌&&◌, ◌||◌, ◌==◌, nat_le, nat_lt, if◌then◌else◌, List, [], ◌∷◌, ◌++◌, length, take, drop, take_while, take-append-drop, decimal, flat_map, Option, Some, None, refl, sym, ap, subst, ◌∙◌, arith, true≢false, eqb-true, eq-eqb, ltb-true}
use Rattle.std.proofs.Math.Seq.{take-append_seam}
use Rattle.std.specs.Char.{digit_value, is_ascii_digit}
use Rattle.std.specs.List.{AllByRecursion}
use Rattle.std.proofs.lemmas.Bool.{and_parts}
use Rattle.std.specs.Str.Parse.{digits_value}
use Rattle.std.proofs.lemmas.List.{append_cancel_left, nil_from_length}
use Rattle.bv_base.specs.Limits.{line_numbers}
use Rattle.bv_num.specs.Digits.{is_digit, decimal_digits}
use Rattle.bv_num.specs.Value.{front_digits, front_value, begins_with}
use Rattle.bv_num.proofs.Numerals.{decimal_digits-written}
use Rattle.bv_token.specs.Named.{else_token, line_else_token}
use Rattle.bv_token.specs.Names.{begins_name, is_in_name}
use Rattle.bv_token.specs.Tokens.{keyword_of_token}
use Rattle.bv_token.specs.Words.{word_of, LongestWord}
use Rattle.token_file.specs.declared.line.Line.{Line}
use Rattle.lister.specs.Listing.{justified, listed, listing}
use Rattle.lister.specs.Listings.{listings}
use Rattle.basv_crunch.specs.declared.part.Kind.TheVariants as kinds
use Rattle.basv_crunch.specs.declared.part.Part.{Part}
use Rattle.basv_crunch.specs.declared.part.Place.{Place}
use Rattle.basv_crunch.specs.declared.part.Place.TheVariants as places
use Rattle.basv_crunch.specs.Pieces.{pieces}
use Rattle.basv_crunch.specs.Parts.{part_of, unless_none, kept, called, is_reference, referred, Before, token_at, worded, row, single, or_else, FirstOf, FirstPart, part_bytes, after_word, after_space, after_comma, after_part}
use Rattle.basv_crunch.specs.Crunched.{CutInto, parts_bytes, CrunchesTo, body_of, IsLineOf, AreLines, kept_pieces, IsText}
use Rattle.basv_crunch.specs.NormalForm.{normal_line, normal_form}
use Rattle.basv_crunch.proofs.Rows.{passes, fails, row_is, row_passes, all_map}
use Rattle.basv_crunch.proofs.Numbers.{digits_are}
use Rattle.basv_crunch.proofs.Shown.{Lists, IsPlain, low_listed, row_listed, name_plain, digit_plain, reference_listed, token_listed}

-- where a part at the front of a text is listed with what follows, the whole text is
abbrev pub ListsPart : Place → List ℕ → Option Part → Type 0
ListsPart place text None = Unit {0}
ListsPart place text (Some part) =
    (more : List ℕ) → Lists (after_part place part.kind) more (drop part.size text) → listed 0 false (part_bytes part.kind (take part.size text) ++ more) ≡ text

-- a row of plain bytes
lists_row : (n : ℕ) (text more : List ℕ) → AllByRecursion IsPlain (take n text) → listed 0 false more ≡ drop n text → listed 0 false (take n text ++ more) ≡ text
lists_row n text more each lists = row_listed (take n text) more each ∙ ap (λ l. take n text ++ l) lists ∙ take-append-drop n text

plain_taken : (test : ℕ → Bool) (text : List ℕ) → ((c : ℕ) → test c ≡ true → IsPlain c) → AllByRecursion IsPlain (take (length (take_while test text)) text)
plain_taken test text plain = subst (AllByRecursion IsPlain) (sym (row_is test text)) (all_map (λ c. test c ≡ true) IsPlain plain (take_while test text) (row_passes test text))

lists_called : (place : Place) (text : List ℕ) → ListsPart place text (called text)
lists_called place text = cases (length (take_while is_in_name text) == 0)
  where
    cases : (t : Bool) → ListsPart place text (if t then None else Some (part_of kinds.Called (length (take_while is_in_name text))))
    cases true = tt
    cases false = λ more lists. lists_row (length (take_while is_in_name text)) text more (plain_taken is_in_name text name_plain) lists

-- a row of digits that no zero leads, or that is one digit, is what is written of its value
row_written : (text : List ℕ) → (not (begins_with 48 text) || (length (front_digits 10 text) == 1)) ≡ true → (length (front_digits 10 text) == 0) ≡ false → decimal_digits (front_value 10 text) ≡ front_digits 10 text
unfolding front_value
row_written [] leads some = absurd (true≢false some)
row_written (b ∷ rest) leads some = by_digit (is_digit 10 b) refl
  where
    by_digit : (t : Bool) → is_digit 10 b ≡ t → decimal_digits (front_value 10 (b ∷ rest)) ≡ front_digits 10 (b ∷ rest)
    by_digit false e = absurd (true≢false (ap (λ l. length l == 0) (sym (fails (is_digit 10) b rest e)) ∙ some))
    by_digit true e =
        let digits = passes (is_digit 10) b rest e in
        let tail = front_digits 10 rest in
        let each = all_map (λ c. is_digit 10 c ≡ true) (λ c. digit_value c < 10) (λ c is. ltb-true (digit_value c) 10 is) tail (row_passes (is_digit 10) rest) in
        ap (λ l. decimal_digits (digits_value 10 l)) digits
        ∙ digits_are b tail (ltb-true (digit_value b) 10 e) each (by_lead (b == 48) refl (ap (λ l. not (b == 48) || (length l == 1)) (sym digits) ∙ leads))
        ∙ sym digits
      where
        by_lead : (u : Bool) → (b == 48) ≡ u → (not u || (length (b ∷ front_digits 10 rest) == 1)) ≡ true → (b ≢ 48) ⊎ (front_digits 10 rest ≡ [])
        by_lead false other one = inl (λ is. true≢false (sym (eq-eqb b 48 is) ∙ other))
        by_lead true is one = inr (nil_from_length (front_digits 10 rest) (let size = eqb-true (length (b ∷ front_digits 10 rest)) 1 one in omega (arith, size)))

digits_written : (text : List ℕ) → is_reference text ≡ true → (length (front_digits 10 text) == 0) ≡ false → decimal (front_value 10 text) ≡ take (length (front_digits 10 text)) text
digits_written text is some =
    let parts = and_parts (not (begins_with 48 text) || (length (front_digits 10 text) == 1)) (nat_lt (front_value 10 text) line_numbers) is in
    let low = ltb-true (front_value 10 text) line_numbers parts.1 in
    sym (decimal_digits-written (front_value 10 text) (omega (arith, low))) ∙ row_written text parts.0 some ∙ sym (row_is (is_digit 10) text)

lists_referred : (place : Place) (text : List ℕ) → ListsPart place text (referred text)
lists_referred place text = cases (is_reference text) refl
  where
    number : (e : is_reference text ≡ true) → front_value 10 text < line_numbers
    number e = ltb-true (front_value 10 text) line_numbers (and_parts (not (begins_with 48 text) || (length (front_digits 10 text) == 1)) (nat_lt (front_value 10 text) line_numbers) e).1

    cases : (t : Bool) → is_reference text ≡ t → ListsPart place text (if t then unless_none (kinds.Reference (front_value 10 text)) (length (front_digits 10 text)) else None)
    cases false e = tt
    cases true e = by_size (length (front_digits 10 text) == 0) refl
      where
        by_size : (u : Bool) → (length (front_digits 10 text) == 0) ≡ u → ListsPart place text (if u then None else Some (part_of (kinds.Reference (front_value 10 text)) (length (front_digits 10 text))))
        by_size true _ = tt
        by_size false some = λ more lists. (reference_listed (front_value 10 text) more (omega (arith, number e)) ∙ (λ i. digits_written text e some i ++ lists i) ∙ take-append-drop (length (front_digits 10 text)) text)

both_else : word_of line_else_token ≡ word_of else_token
unfolding keyword_of_token
both_else = refl

else_at : (place : Place) (token : ℕ) (word : List ℕ) → word_of token ≡ Some word → word_of (token_at place token) ≡ Some word
else_at places.Start token word is = cases (token == else_token) refl
  where
    cases : (t : Bool) → (token == else_token) ≡ t → word_of (if t then line_else_token else token) ≡ Some word
    cases true e = both_else ∙ ap word_of (sym (eqb-true token else_token e)) ∙ is
    cases false e = is
else_at places.Code token word is = is
else_at places.Quotes token word is = is
else_at places.Tail token word is = is
else_at places.Call token word is = is
else_at places.Awaiting token word is = is
else_at places.Referred token word is = is

lists_worded : (place : Place) (text : List ℕ) (word : Option (ℕ × ℕ)) → LongestWord text word → ListsPart place text (worded place word)
lists_worded place text None longest = tt
lists_worded place text (Some found) longest = λ more lists. (
    let b = longest.0 in
    let size : found.0 ≡ length b.word = sym b.size_is in
    let rest : drop found.0 text ≡ b.rest = ap (λ n. drop n text) size ∙ append_cancel_left b.word _ _ (ap (λ l. l ++ drop (length b.word) text) (sym (ap (take (length b.word)) b.spelled ∙ take-append_seam b.word b.rest)) ∙ take-append-drop (length b.word) text ∙ b.spelled) in
    token_listed (token_at place found.1) b.word more b.rest (else_at place found.1 b.word b.is_word) (subst (λ r. Lists (after_word (token_at place found.1)) more r) rest lists) ∙ sym b.spelled)

lists_row_part : (place : Place) (text : List ℕ) → ListsPart place text (row text)
lists_row_part place [] = tt
lists_row_part place (b ∷ rest) = cases (b == 38) (begins_name b || b == 64) refl refl
  where
    plain_first : (test : ℕ → Bool) → test 34 ≡ false → test b ≡ true → b < 127 → IsPlain b
    plain_first test fails is low = (low, λ e. true≢false (sym is ∙ ap test e ∙ fails))

    lists_more : (n : ℕ) (more : List ℕ) → IsPlain b → AllByRecursion IsPlain (take n rest) → listed 0 false more ≡ drop (1 + n) (b ∷ rest) → listed 0 false (take (1 + n) (b ∷ rest) ++ more) ≡ b ∷ rest
    lists_more n more first each lists =
        lists_row (1 + n) (b ∷ rest) more (subst (λ m. AllByRecursion IsPlain (take m (b ∷ rest))) (let e : suc n ≡ 1 + n = omega arith in e) (first, each)) lists

    name_or_at : (begins_name b || b == 64) ≡ true → IsPlain b
    name_or_at is = by (begins_name b) refl is
      where
        by : (u : Bool) → begins_name b ≡ u → (u || b == 64) ≡ true → IsPlain b
        by true e is = name_plain b (ap (λ v. v || is_ascii_digit b) e)
        by false e is = let at : b ≡ 64 = eqb-true b 64 is in (omega (arith, at), λ f. omega (arith, at, f))

    cases : (t u : Bool) → (b == 38) ≡ t → (begins_name b || b == 64) ≡ u → ListsPart place (b ∷ rest) (if t then Some (part_of kinds.Row (1 + length (front_digits 16 rest))) else if u then Some (part_of kinds.Row (1 + length (take_while is_in_name rest))) else None)
    cases true u is _ = λ more lists. lists_more (length (front_digits 16 rest)) more (let at : b ≡ 38 = eqb-true b 38 is in (omega (arith, at), λ f. omega (arith, at, f))) (plain_taken (is_digit 16) rest digit_plain) lists
    cases false true _ is = λ more lists. lists_more (length (take_while is_in_name rest)) more (name_or_at is) (plain_taken is_in_name rest name_plain) lists
    cases false false _ _ = tt

after_space_lists : (place : Place) (more rest : List ℕ) → Lists (after_space place) more rest → listed 0 false more ≡ rest
after_space_lists places.Start more rest lists = lists
after_space_lists places.Code more rest lists = lists
after_space_lists places.Quotes more rest lists = lists
after_space_lists places.Tail more rest lists = lists
after_space_lists places.Call more rest lists = lists
after_space_lists places.Awaiting more rest lists = lists
after_space_lists places.Referred more rest lists = lists

after_comma_lists : (place : Place) (more rest : List ℕ) → Lists (after_comma place) more rest → listed 0 false more ≡ rest
after_comma_lists places.Start more rest lists = lists
after_comma_lists places.Code more rest lists = lists
after_comma_lists places.Quotes more rest lists = lists
after_comma_lists places.Tail more rest lists = lists
after_comma_lists places.Call more rest lists = lists
after_comma_lists places.Awaiting more rest lists = lists
after_comma_lists places.Referred more rest lists = lists

lists_single : (place : Place) (text : List ℕ) → ListsPart place text (single text)
lists_single place [] = tt
lists_single place (b ∷ rest) = cases (nat_le 32 b && nat_lt b 127) refl
  where
    by_byte : (q s k : Bool) (more : List ℕ) → Lists (if q then places.Quotes else if s then after_space place else if k then after_comma place else places.Code) more rest → b ∷ listed 0 q more ≡ b ∷ rest
    by_byte true s k more lists = ap (λ l. b ∷ l) lists
    by_byte false true k more lists = ap (λ l. b ∷ l) (after_space_lists place more rest lists)
    by_byte false false true more lists = ap (λ l. b ∷ l) (after_comma_lists place more rest lists)
    by_byte false false false more lists = ap (λ l. b ∷ l) lists

    cases : (t : Bool) → (nat_le 32 b && nat_lt b 127) ≡ t → ListsPart place (b ∷ rest) (if t then Some (part_of (kinds.Single b) 1) else None)
    cases true is = λ more lists. (low_listed b more (ltb-true b 127 (and_parts _ _ is).1) ∙ by_byte (b == 34) (b == 32) (b == 44) more lists)
    cases false is = tt

lists_or : (place : Place) (text : List ℕ) (a b : Option Part) → ListsPart place text a → ListsPart place text b → ListsPart place text (or_else a b)
lists_or place text None b is other = other
lists_or place text (Some part) b is other = is

-- outside quotation marks and tails
lists_before : (early : Option Part) (place : Place) (text : List ℕ) (found : Option Part) → ListsPart place text early → FirstOf (Before early) place text found → ListsPart place text found
lists_before (Some part) place text found is first = subst (ListsPart place text) (sym first) is
lists_before None place text found is first =
    subst (ListsPart place text) (sym first.2) (lists_or place text (worded place first.0) (or_else (row text) (single text)) (lists_worded place text first.0 first.1) (lists_or place text (row text) (single text) (lists_row_part place text) (lists_single place text)))

-- between quotation marks
abbrev QuotedPart : List ℕ → Option Part → Type 0
QuotedPart text None = Unit {0}
QuotedPart text (Some part) = (more : List ℕ) → Lists (after_part places.Quotes part.kind) more (drop part.size text) → listed 0 true (part_bytes part.kind (take part.size text) ++ more) ≡ text

quoted_kept : (text : List ℕ) → QuotedPart text (kept text)
quoted_kept [] = tt
quoted_kept (b ∷ rest) = cases (nat_le 32 b && not (b == 127))
  where
    by_byte : (q : Bool) (more : List ℕ) → Lists (if q then places.Code else places.Quotes) more rest → b ∷ listed 0 (not q) more ≡ b ∷ rest
    by_byte true more lists = ap (λ l. b ∷ l) lists
    by_byte false more lists = ap (λ l. b ∷ l) lists

    cases : (t : Bool) → QuotedPart (b ∷ rest) (if t then Some (part_of (kinds.Kept b) 1) else None)
    cases true = λ more lists. by_byte (b == 34) more lists
    cases false = tt

-- after REM and DATA
abbrev TailPart : List ℕ → Option Part → Type 0
TailPart text None = Unit {0}
TailPart text (Some part) = (more : List ℕ) → Lists (after_part places.Tail part.kind) more (drop part.size text) → part_bytes part.kind (take part.size text) ++ more ≡ text

tail_kept : (text : List ℕ) → TailPart text (kept text)
tail_kept [] = tt
tail_kept (b ∷ rest) = cases (nat_le 32 b && not (b == 127))
  where
    cases : (t : Bool) → TailPart (b ∷ rest) (if t then Some (part_of (kinds.Kept b) 1) else None)
    cases true = λ more lists. ap (λ l. b ∷ l) lists
    cases false = tt

nothing_lists : (place : Place) (text : List ℕ) → text ≡ [] → Lists place [] text
nothing_lists places.Start text none = sym none
nothing_lists places.Code text none = sym none
nothing_lists places.Quotes text none = sym none
nothing_lists places.Tail text none = sym none
nothing_lists places.Call text none = sym none
nothing_lists places.Awaiting text none = sym none
nothing_lists places.Referred text none = sym none

part_lists : (place : Place) (text : List ℕ) (part : Part) (more : List ℕ) → FirstPart place text (Some part) → Lists (after_part place part.kind) more (drop part.size text) → Lists place (part_bytes part.kind (take part.size text) ++ more) text
part_lists places.Start text part more first lists = lists_before None places.Start text (Some part) tt first more lists
part_lists places.Code text part more first lists = lists_before None places.Code text (Some part) tt first more lists
part_lists places.Referred text part more first lists = lists_before None places.Referred text (Some part) tt first more lists
part_lists places.Call text part more first lists = lists_before (called text) places.Call text (Some part) (lists_called places.Call text) first more lists
part_lists places.Awaiting text part more first lists = lists_before (referred text) places.Awaiting text (Some part) (lists_referred places.Awaiting text) first more lists
part_lists places.Quotes text part more first lists = (let quoted : QuotedPart text (Some part) = subst (QuotedPart text) (sym first) (quoted_kept text) in quoted more lists)
part_lists places.Tail text part more first lists = (let tail : TailPart text (Some part) = subst (TailPart text) (sym first) (tail_kept text) in tail more lists)

parts_list : (place : Place) (text : List ℕ) (parts : List Part) → CutInto place text parts → Lists place (parts_bytes text parts) text
parts_list place text [] cut = nothing_lists place text cut
parts_list place text (part ∷ parts) cut = part_lists place text part (parts_bytes (drop part.size text) parts) cut.1 (parts_list (after_part place part.kind) (drop part.size text) parts cut.2)

-- what a body becomes lists as the body
pub body_listed : (body text : List ℕ) → CrunchesTo body text → listed 0 false text ≡ body
body_listed body text is = ap (listed 0 false) is.bytes ∙ parts_list places.Start body is.parts is.cut

-- the line of a piece lists as the piece in normal form
line_listed : (piece : List ℕ) (line : Line) → IsLineOf piece line → listing line ≡ normal_line piece
line_listed piece line is = (λ i. justified 5 (decimal (is.number i)) ++ body_listed (body_of piece) line.text is.body i ++ 10 ∷ [])

lines_listed : (all : List (List ℕ)) (lines : List Line) → AreLines all lines → listings lines ≡ flat_map normal_line all
lines_listed [] [] are = refl
lines_listed [] (l ∷ ls) are = absurd are
lines_listed (p ∷ ps) [] are = absurd are
lines_listed (p ∷ ps) (l ∷ ls) are = (λ i. line_listed p l are.0 i ++ lines_listed ps ls are.1 i)

-- the listing of a text's lines is the text in normal form
pub text_listed : (text : List ℕ) (lines : List Line) → IsText text lines → listings lines ≡ normal_form text
text_listed text lines is = lines_listed (kept_pieces (pieces text)) lines is
