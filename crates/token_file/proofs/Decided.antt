-- Every list of bytes has lines or is malformed at a place.
use Rattle.std.proofs.Common.{◌≡◌, ◌⊎◌, inl, inr, ℕ, zero, suc, ◌+◌, ◌-◌, ◌*◌, ◌/◌, ◌%◌, ◌<◌, ◌≤◌, Bool, true, false, List, [], ◌∷◌, ◌++◌, length, take, drop, flat_map, refl, sym, ap, subst, ◌∙◌, arith, append_assoc, length-append, length-take-le}
use Rattle.std.specs.List.{list_any}
use Rattle.std.proofs.lemmas.Bool.{cases_eq, cases_lt}
use Rattle.token_file.specs.declared.line.Line.{Line}
use Rattle.token_file.specs.Lines.{record_start, end_mark, head_bytes, record_of, IsLine, Lines, BeginsRecord, BeginsEnd, Malformed}
use Rattle.bv_base.proofs.Lists.{same_head, same_tail}
use Rattle.token_file.proofs.Fronts.{is_start, split_joins, text_with_start, is_record}

-- a fact that is decided by a test
abbrev pub Decided : Type 0 → Type 0
Decided P = P ⊎ (P → ⊥)

-- what a record's front says of its bytes
front_high : (high low size : ℕ) (rest : List ℕ) (line : Line) (more : List ℕ) → IsLine line → record_start ∷ high ∷ low ∷ size ∷ rest ≡ record_of line ++ more → (high < end_mark) × (low < 256) × (size ≡ length line.text + head_bytes) × (rest ≡ line.text ++ more)
front_high high low size rest line more is e =
    let at1 = same_tail _ _ _ _ e in
    let at2 = same_tail _ _ _ _ at1 in
    let at3 = same_tail _ _ _ _ at2 in
    let h : high ≡ line.number / 256 = same_head _ _ _ _ at1 in
    let l : low ≡ line.number % 256 = same_head _ _ _ _ at2 in
    (omega (arith, h, is.number), omega (arith, l), same_head _ _ _ _ at3, same_tail _ _ _ _ at3)

decide_text : (high low size count : ℕ) (rest : List ℕ) → high < end_mark → low < 256 → size < 256 → size ≡ count + head_bytes → count ≤ length rest → Decided (BeginsRecord (record_start ∷ high ∷ low ∷ size ∷ rest))
decide_text high low size count rest high_small low_small size_small is_size within = cases (list_any is_start (take count rest)) refl
  where
    joined : rest ≡ take count rest ++ drop count rest
    joined = split_joins count rest (take count rest) (drop count rest) refl refl

    cases : (t : Bool) → list_any is_start (take count rest) ≡ t → Decided (BeginsRecord (record_start ∷ high ∷ low ∷ size ∷ rest))
    cases true is = inr (λ front. text_with_start high low size count rest (take count rest) (drop count rest) joined is_size (length-take-le count rest within) is front)
    cases false is =
        let found = is_record high low size count rest (take count rest) (drop count rest) joined high_small low_small size_small is_size (length-take-le count rest within) is in
        inl (record { number = high * 256 + low; text = take count rest }, drop count rest, found.0, found.1)

decide_record : (high low size : ℕ) (rest : List ℕ) → Decided (BeginsRecord (record_start ∷ high ∷ low ∷ size ∷ rest))
decide_record high low size rest =
    elim (cases_lt high end_mark) [
      | inr h ↦ inr (λ (line, more, is, e). (let f = front_high high low size rest line more is e in omega (arith, h, f.0)))
      | inl h ↦ elim (cases_lt low 256) [
        | inr l ↦ inr (λ (line, more, is, e). (let f = front_high high low size rest line more is e in omega (arith, l, f.1)))
        | inl l ↦ elim (cases_lt size 256) [
          | inr s ↦ inr (λ (line, more, is, e). (let f = front_high high low size rest line more is e in omega (arith, s, f.2, is.short)))
          | inl s ↦ elim (cases_lt size head_bytes) [
            | inl few ↦ inr (λ (line, more, is, e). (let f = front_high high low size rest line more is e in omega (arith, few, f.2)))
            | inr enough ↦ elim (cases_lt (length rest) (size - head_bytes)) [
              | inl short ↦ inr (λ (line, more, is, e). (let f = front_high high low size rest line more is e in omega (arith, short, f.2, ap length f.3, length-append line.text more)))
              | inr within ↦ decide_text high low size (size - head_bytes) rest h l s (omega (arith, enough)) within
            ]
          ]
        ]
      ]
    ]

length_of_record : (line : Line) (more : List ℕ) (xs : List ℕ) → xs ≡ record_of line ++ more → head_bytes ≤ length xs
length_of_record line more xs e = omega (arith, ap length e, length-append (record_of line) more)

begins_with_start : (x : ℕ) (xs : List ℕ) → BeginsRecord (x ∷ xs) → x ≡ record_start
begins_with_start x xs (line, more, is, e) = same_head _ _ _ _ e

-- whether a record is at the front
decide_front : (xs : List ℕ) → Decided (BeginsRecord xs)
decide_front [] = inr (λ (line, more, is, e). (let n = length_of_record line more [] e in omega (arith, n)))
decide_front (x ∷ []) = inr (λ (line, more, is, e). (let n = length_of_record line more (x ∷ []) e in omega (arith, n)))
decide_front (x ∷ high ∷ []) = inr (λ (line, more, is, e). (let n = length_of_record line more (x ∷ high ∷ []) e in omega (arith, n)))
decide_front (x ∷ high ∷ low ∷ []) = inr (λ (line, more, is, e). (let n = length_of_record line more (x ∷ high ∷ low ∷ []) e in omega (arith, n)))
decide_front (x ∷ high ∷ low ∷ size ∷ rest) =
    elim (cases_eq x record_start) [
      | inl is ↦ subst (λ n. Decided (BeginsRecord (n ∷ high ∷ low ∷ size ∷ rest))) (sym is) (decide_record high low size rest)
      | inr other ↦ inr (λ front. other (begins_with_start x _ front))
    ]

decide_end : (xs : List ℕ) → Decided (BeginsEnd xs)
decide_end [] = inr (λ (rest, e). (let n = ap length e in omega (arith, n)))
decide_end (x ∷ []) = inr (λ (rest, e). (let n = ap length e in omega (arith, n)))
decide_end (x ∷ y ∷ rest) =
    elim (cases_eq x record_start) [
      | inr other ↦ inr (λ (more, e). other (same_head _ _ _ _ e))
      | inl is ↦ elim (cases_eq y end_mark) [
        | inr other ↦ inr (λ (more, e). other (same_head _ _ _ _ (same_tail _ _ _ _ e)))
        | inl too ↦ inl (rest, (λ i. is i ∷ too i ∷ rest))
      ]
    ]

one_more_malformed : (line : Line) (bytes rest : List ℕ) (place : ℕ) → IsLine line → bytes ≡ record_of line ++ rest → Malformed rest place → Malformed bytes (length (record_of line) + place)
one_more_malformed line bytes rest place is e m = record {
  lines = line ∷ m.lines;
  rest = m.rest;
  each = (is, m.each);
  whole = e ∙ ap (λ r. record_of line ++ r) m.whole ∙ sym (append_assoc (record_of line) _ m.rest);
  at = length-append (record_of line) (flat_map record_of m.lines) ∙ ap (λ n. length (record_of line) + n) m.at;
  no_record = m.no_record;
  no_end = m.no_end;
}

-- a list of bytes has lines, or is malformed
abbrev pub Reading : List ℕ → Type 0
Reading bytes = ((lines : List Line) × Lines bytes lines) ⊎ ((place : ℕ) × Malformed bytes place)

after_record : (bytes rest : List ℕ) (line : Line) → IsLine line → bytes ≡ record_of line ++ rest → Reading rest → Reading bytes
after_record bytes rest line is e (inl lines) = inl (line ∷ lines.0, (rest, is, e, lines.1))
after_record bytes rest line is e (inr m) = inr (length (record_of line) + m.0, one_more_malformed line bytes rest m.0 is e m.1)

by_front : (bytes : List ℕ) → ((rest : List ℕ) → length rest < length bytes → Reading rest) → Decided (BeginsRecord bytes) → Decided (BeginsEnd bytes) → Reading bytes
by_front bytes next (inl (line, rest, is, e)) end =
    after_record bytes rest line is e (next rest (omega (arith, ap length e, length-append (record_of line) rest)))
by_front bytes next (inr no_record) (inl end) = inl ([], end)
by_front bytes next (inr no_record) (inr no_end) =
    inr (0, record { lines = []; rest = bytes; each = tt; whole = refl; at = refl; no_record = no_record; no_end = no_end })

decide_within : (n : ℕ) (bytes : List ℕ) → length bytes ≤ n → Reading bytes
decide_within zero bytes within = by_front bytes (λ rest shorter. absurd (omega (arith, shorter, within))) (decide_front bytes) (decide_end bytes)
decide_within (suc n) bytes within = by_front bytes (λ rest shorter. decide_within n rest (omega (arith, shorter, within))) (decide_front bytes) (decide_end bytes)

pub every_file_is_read : (bytes : List ℕ) → Reading bytes
every_file_is_read bytes = decide_within (length bytes) bytes (omega arith)
