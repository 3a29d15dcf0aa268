-- A file has one reading: one list of lines, or one place where it is malformed.
use Rattle.std.proofs.Common.{◌≡◌, ℕ, ◌+◌, ◌/◌, ◌%◌, List, [], ◌∷◌, ◌++◌, length, flat_map, refl, sym, ap, ◌∙◌, arith, append_assoc, length-append}
use Rattle.std.specs.List.{AllByRecursion}
use Rattle.bv_base.proofs.Lists.{same_head, same_tail, same_fronts}
use Rattle.token_file.specs.declared.line.Line.{Line}
use Rattle.token_file.specs.Lines.{record_start, end_mark, head_bytes, record_of, IsLine, Lines, BeginsRecord, BeginsEnd}

number_from_bytes : (a b : ℕ) → a / 256 ≡ b / 256 → a % 256 ≡ b % 256 → a ≡ b
number_from_bytes a b high low = omega arith

-- no two records are at one place
pub same_records : (a b : Line) (rest rest' : List ℕ) → record_of a ++ rest ≡ record_of b ++ rest' → (a ≡ b) × (rest ≡ rest')
same_records a b rest rest' e =
    let at1 = same_tail _ _ _ _ e in
    let at2 = same_tail _ _ _ _ at1 in
    let at3 = same_tail _ _ _ _ at2 in
    let size : length a.text + head_bytes ≡ length b.text + head_bytes = same_head _ _ _ _ at3 in
    let number = number_from_bytes a.number b.number (same_head _ _ _ _ at1) (same_head _ _ _ _ at2) in
    let fronts = same_fronts a.text b.text rest rest' (omega arith) (same_tail _ _ _ _ at3) in
    ((λ i. record { number = number i; text = fronts.0 i }), fronts.1)

-- a record isn't the end
pub record≢end : (line : Line) (rest rest' : List ℕ) → IsLine line → record_of line ++ rest ≡ record_start ∷ end_mark ∷ rest' → ⊥
record≢end line rest rest' is e =
    let high : line.number / 256 ≡ end_mark = same_head _ _ _ _ (same_tail _ _ _ _ e) in
    omega (arith, is.number)

-- the lines of a file are determined
pub one_list_of_lines : (bytes bytes' : List ℕ) (a b : List Line) → bytes ≡ bytes' → Lines bytes a → Lines bytes' b → a ≡ b
one_list_of_lines bytes bytes' [] [] same first second = refl
one_list_of_lines bytes bytes' [] (b ∷ bs) same first second =
    absurd (record≢end b second.0 first.0 second.1 (sym second.2 ∙ sym same ∙ first.1))
one_list_of_lines bytes bytes' (a ∷ more) [] same first second =
    absurd (record≢end a first.0 second.0 first.1 (sym first.2 ∙ same ∙ second.1))
one_list_of_lines bytes bytes' (a ∷ more) (b ∷ bs) same first second =
    let records = same_records a b first.0 second.0 (sym first.2 ∙ same ∙ second.2) in
    let others = one_list_of_lines first.0 second.0 more bs records.1 first.3 second.3 in
    (λ i. records.0 i ∷ others i)

-- a file with lines is malformed nowhere
pub lines≢malformed : (bytes bytes' : List ℕ) (a b : List Line) (rest : List ℕ) → bytes ≡ bytes' → Lines bytes a → bytes' ≡ flat_map record_of b ++ rest → AllByRecursion IsLine b → (BeginsRecord rest → ⊥) → (BeginsEnd rest → ⊥) → ⊥
lines≢malformed bytes bytes' [] [] rest same lines whole each no_record no_end = no_end (lines.0, sym whole ∙ sym same ∙ lines.1)
lines≢malformed bytes bytes' [] (b ∷ bs) rest same lines whole each no_record no_end =
    record≢end b (flat_map record_of bs ++ rest) lines.0 each.0 (sym (append_assoc (record_of b) _ rest) ∙ sym whole ∙ sym same ∙ lines.1)
lines≢malformed bytes bytes' (a ∷ more) [] rest same lines whole each no_record no_end =
    no_record (a, lines.0, lines.1, sym whole ∙ sym same ∙ lines.2)
lines≢malformed bytes bytes' (a ∷ more) (b ∷ bs) rest same lines whole each no_record no_end =
    let records = same_records a b lines.0 (flat_map record_of bs ++ rest) (sym lines.2 ∙ same ∙ whole ∙ append_assoc (record_of b) _ rest) in
    lines≢malformed lines.0 (flat_map record_of bs ++ rest) more bs rest records.1 lines.3 refl each.1 no_record no_end

-- the place where a file is malformed is determined
pub one_place : (a b : List Line) (rest rest' : List ℕ) → flat_map record_of a ++ rest ≡ flat_map record_of b ++ rest' → AllByRecursion IsLine a → AllByRecursion IsLine b → (BeginsRecord rest → ⊥) → (BeginsRecord rest' → ⊥) → length (flat_map record_of a) ≡ length (flat_map record_of b)
one_place [] [] rest rest' same as_lines bs_lines no_record no_record' = refl
one_place [] (b ∷ bs) rest rest' same as_lines bs_lines no_record no_record' =
    absurd (no_record (b, flat_map record_of bs ++ rest', bs_lines.0, same ∙ append_assoc (record_of b) _ rest'))
one_place (a ∷ more) [] rest rest' same as_lines bs_lines no_record no_record' =
    absurd (no_record' (a, flat_map record_of more ++ rest, as_lines.0, sym same ∙ append_assoc (record_of a) _ rest))
one_place (a ∷ more) (b ∷ bs) rest rest' same as_lines bs_lines no_record no_record' =
    let records = same_records a b (flat_map record_of more ++ rest) (flat_map record_of bs ++ rest') (sym (append_assoc (record_of a) _ rest) ∙ same ∙ append_assoc (record_of b) _ rest') in
    let others = one_place more bs rest rest' records.1 as_lines.1 bs_lines.1 no_record no_record' in
    length-append (record_of a) _ ∙ ap (λ n. length (record_of a) + n) others ∙ ap (λ l. length (record_of l) + length (flat_map record_of bs)) records.0 ∙ sym (length-append (record_of b) _)

-- the lines whose records and the end are the bytes
pub lines_of : (lines : List Line) (bytes rest : List ℕ) → AllByRecursion IsLine lines → bytes ≡ flat_map record_of lines ++ rest → BeginsEnd rest → Lines bytes lines
lines_of [] bytes rest each whole ends = (ends.0, whole ∙ ends.1)
lines_of (line ∷ lines) bytes rest each whole ends =
    (flat_map record_of lines ++ rest, each.0, whole ∙ append_assoc (record_of line) _ rest, lines_of lines _ rest each.1 refl ends)
