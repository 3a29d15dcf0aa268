-- The first piece of a text.
use Rattle.std.proofs.Common.{◌≡◌, ◌⊎◌, inl, inr, ℕ, ◌≤◌, Bool, true, false, not, ◌&&◌, ◌==◌, if◌then◌else◌, List, [], ◌∷◌, ◌++◌, length, take, drop, take_while, refl, sym, ap, subst, ◌∙◌, arith, true≢false, eqb-true, length-append, take-append-drop}
use Rattle.std.specs.List.{AllByRecursion}
use Rattle.std.proofs.lemmas.List.{append_cancel_left}
use Rattle.bv_num.specs.Value.{begins_with}
use Rattle.bv_token.specs.Tokens.{onto_first}
use Rattle.basv_crunch.specs.Pieces.{pieces, in_line, without_return}
use Rattle.basv_crunch.proofs.Rows.{passes, fails, row_is, row_passes}

pub return_dropped : (front : List ℕ) → without_return (front ++ 13 ∷ []) ≡ front
return_dropped [] = refl
return_dropped (b ∷ []) = refl
return_dropped (b ∷ c ∷ more) = ap (λ l. b ∷ l) (return_dropped (c ∷ more))

pub other_kept : (front : List ℕ) (last : ℕ) → (last == 13) ≡ false → without_return (front ++ last ∷ []) ≡ front ++ last ∷ []
other_kept [] last other = ap (λ t. if t then [] else last ∷ []) other
other_kept (b ∷ []) last other = ap (λ t. b ∷ (if t then [] else last ∷ [])) other
other_kept (b ∷ c ∷ more) last other = ap (λ l. b ∷ l) (other_kept (c ∷ more) last other)

pub without_return-le : (text : List ℕ) → length (without_return text) ≤ length text
without_return-le [] = omega arith
without_return-le (b ∷ []) = cases (b == 13)
  where
    cases : (t : Bool) → length (if t then [] else b ∷ []) ≤ length (b ∷ [])
    cases true = omega arith
    cases false = omega arith
without_return-le (b ∷ c ∷ more) = omega (arith, without_return-le (c ∷ more))

-- a row of bytes that end no line is the whole text, its one piece, or comes before a line end
abbrev pub AtEnd : List ℕ → List ℕ → Type 0
AtEnd text row = ((row ≡ text) × (pieces text ≡ text ∷ [])) ⊎ ((rest : List ℕ) × (text ≡ row ++ 10 ∷ rest) × (pieces text ≡ without_return row ∷ pieces rest))

-- what a byte that ends no line makes of the pieces after it
more_pieces : (b : ℕ) (rest : List ℕ) (t : Bool) → (b == 10) ≡ false → begins_with 10 rest ≡ t → pieces (b ∷ rest) ≡ (if b == 13 && t then pieces rest else onto_first b (pieces rest))
more_pieces b rest t other begins =
    ap (λ u. if u then [] ∷ pieces rest else if b == 13 && begins_with 10 rest then pieces rest else onto_first b (pieces rest)) other
    ∙ ap (λ u. if b == 13 && u then pieces rest else onto_first b (pieces rest)) begins

and_false : (t : Bool) → (t && false) ≡ false
and_false true = refl
and_false false = refl

not_begun : (b : ℕ) (rest : List ℕ) → (b == 10) ≡ false → begins_with 10 rest ≡ false → pieces (b ∷ rest) ≡ onto_first b (pieces rest)
not_begun b rest other begins =
    more_pieces b rest false other begins ∙ ap (λ u. if u then pieces rest else onto_first b (pieces rest)) (and_false (b == 13))

in_line_is : (c : ℕ) → in_line c ≡ true → (c == 10) ≡ false
in_line_is c is = by_test (c == 10) is
  where
    by_test : (t : Bool) → not t ≡ true → t ≡ false
    by_test true is = absurd (true≢false (sym is))
    by_test false is = refl

step : (b : ℕ) (rest row : List ℕ) → AllByRecursion (λ c. in_line c ≡ true) row → (b == 10) ≡ false → AtEnd rest row → AtEnd (b ∷ rest) (b ∷ row)
step b rest [] each other (inl whole) = inl (ap (λ l. b ∷ l) whole.0, at_end rest whole.0 whole.1)
  where
    at_end : (rest : List ℕ) → [] ≡ rest → pieces rest ≡ rest ∷ [] → pieces (b ∷ rest) ≡ (b ∷ rest) ∷ []
    at_end [] none one = not_begun b [] other refl
    at_end (c ∷ rest) none one = absurd (let no : [] ≡ c ∷ rest = none in cc)
step b rest (c ∷ row) each other (inl whole) =
    let begins : begins_with 10 rest ≡ false = ap (begins_with 10) (sym whole.0) ∙ in_line_is c each.0 in
    inl (ap (λ l. b ∷ l) whole.0, not_begun b rest other begins ∙ ap (onto_first b) whole.1)
step b rest [] each other (inr (after, split, cut)) =
    inr (after, ap (λ l. b ∷ l) split, more_pieces b rest true other (ap (begins_with 10) split) ∙ by_test (b == 13))
  where
    by_test : (t : Bool) → (if t && true then pieces rest else onto_first b (pieces rest)) ≡ (if t then [] else b ∷ []) ∷ pieces after
    by_test true = cut
    by_test false = ap (onto_first b) cut
step b rest (c ∷ row) each other (inr (after, split, cut)) =
    let begins : begins_with 10 rest ≡ false = ap (begins_with 10) split ∙ in_line_is c each.0 in
    inr (after, ap (λ l. b ∷ l) split, not_begun b rest other begins ∙ ap (onto_first b) cut)

one_more : (b : ℕ) (rest : List ℕ) (t : Bool) → (b == 10) ≡ t → AtEnd rest (take_while in_line rest) → AtEnd (b ∷ rest) (take_while in_line (b ∷ rest))
one_more b rest true is later =
    subst (AtEnd (b ∷ rest)) (sym (fails in_line b rest (ap not is))) (inr (rest, ap (λ c. c ∷ rest) (eqb-true b 10 is), ap (λ t. if t then [] ∷ pieces rest else if b == 13 && begins_with 10 rest then pieces rest else onto_first b (pieces rest)) is))
one_more b rest false is later =
    subst (AtEnd (b ∷ rest)) (sym (passes in_line b rest (ap not is))) (step b rest (take_while in_line rest) (row_passes in_line rest) is later)

pub first_piece : (text : List ℕ) → AtEnd text (take_while in_line text)
first_piece [] = inl (refl, refl)
first_piece (b ∷ rest) = one_more b rest (b == 10) refl (first_piece rest)

-- the text has no line end
pub one_piece : (text : List ℕ) (size : ℕ) → size ≡ length (take_while in_line text) → size ≡ length text → pieces text ≡ text ∷ []
one_piece text size is whole = by (first_piece text)
  where
    by : AtEnd text (take_while in_line text) → pieces text ≡ text ∷ []
    by (inl one) = one.1
    by (inr (rest, split, cut)) = absurd (omega (arith, is, whole, ap length split, length-append (take_while in_line text) (10 ∷ rest)))

-- the text has one
pub cut_piece : (text front back line after : List ℕ) (size : ℕ) → size ≡ length (take_while in_line text) → (size ≡ length text → ⊥) → front ≡ take size text → back ≡ drop size text → line ≡ without_return front → after ≡ drop 1 back → pieces text ≡ line ∷ pieces after
cut_piece text front back line after size is other is_front is_back is_line is_after = by (first_piece text)
  where
    same_front : front ≡ take_while in_line text
    same_front = is_front ∙ ap (λ n. take n text) is ∙ row_is in_line text

    by : AtEnd text (take_while in_line text) → pieces text ≡ line ∷ pieces after
    by (inl one) = absurd (other (is ∙ ap length one.0))
    by (inr (rest, split, cut)) =
        let joined : take_while in_line text ++ back ≡ take_while in_line text ++ 10 ∷ rest = ap (λ f. f ++ back) (sym same_front) ∙ (λ i. is_front i ++ is_back i) ∙ take-append-drop size text ∙ split in
        let text_after : back ≡ 10 ∷ rest = append_cancel_left (take_while in_line text) back (10 ∷ rest) joined in
        let rest_is : after ≡ rest = is_after ∙ ap (drop 1) text_after in
        let line_is : line ≡ without_return (take_while in_line text) = is_line ∙ ap without_return same_front in
        cut ∙ ap (λ l. l ∷ pieces rest) (sym line_is) ∙ ap (λ r. line ∷ pieces r) (sym rest_is)
