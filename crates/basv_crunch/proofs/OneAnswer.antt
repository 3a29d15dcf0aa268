-- The answers exclude each other.
use Rattle.std.proofs.Common.{◌≡◌, ℕ, ◌+◌, Bool, true, false, not, cond, List, [], ◌∷◌, ◌++◌, length, refl, sym, ap, subst, ◌∙◌, arith}
use Rattle.std.proofs.lemmas.List.Elements.{filter-append}
use Rattle.bv_base.proofs.Lists.{same_head, same_tail}
use Rattle.token_file.specs.declared.line.Line.{Line}
use Rattle.token_file.specs.Lines.{file_of}
use Rattle.basv_crunch.specs.Pieces.{pieces, is_blank}
use Rattle.basv_crunch.specs.Crunched.{IsLineOf, AreLines, kept_pieces, IsText, IsBadText, OneAnswer}
use Rattle.basv_crunch.proofs.PieceLines.{one_list, one_file}

-- a piece that isn't blank is kept
kept_one : (piece : List ℕ) (after : List (List ℕ)) → is_blank piece ≡ false → kept_pieces (piece ∷ after) ≡ piece ∷ kept_pieces after
kept_one piece after some = ap (λ t. cond (not t) (piece ∷ kept_pieces after) (kept_pieces after)) some

no_lines : (before : List (List ℕ)) (piece : List ℕ) (after : List (List ℕ)) (lines : List Line) → ((line : Line) → IsLineOf piece line → ⊥) → AreLines (before ++ piece ∷ after) lines → ⊥
no_lines [] piece after [] bad are = are
no_lines [] piece after (l ∷ ls) bad are = bad l are.0
no_lines (b ∷ before) piece after [] bad are = are
no_lines (b ∷ before) piece after (l ∷ ls) bad are = no_lines before piece after ls bad are.1

kept_split : (before : List (List ℕ)) (piece : List ℕ) (after : List (List ℕ)) → is_blank piece ≡ false → kept_pieces (before ++ piece ∷ after) ≡ kept_pieces before ++ piece ∷ kept_pieces after
kept_split before piece after some =
    filter-append (λ p. not (is_blank p)) before (piece ∷ after) ∙ ap (λ l. kept_pieces before ++ l) (kept_one piece after some)

-- a text with a bad piece has no lines
bad_has_no_lines : (text : List ℕ) (place : ℕ) (lines : List Line) → IsBadText text place → IsText text lines → ⊥
bad_has_no_lines text place lines bad is =
    no_lines (kept_pieces bad.before) bad.piece (kept_pieces bad.after) lines bad.bad (subst (λ p. AreLines p lines) (ap kept_pieces bad.split ∙ kept_split bad.before bad.piece bad.after bad.some) is)

-- the number of the pieces before the first bad one is determined
one_place : (before before' : List (List ℕ)) (piece piece' : List ℕ) (after after' : List (List ℕ)) (lines lines' : List Line) → before ++ piece ∷ after ≡ before' ++ piece' ∷ after' → AreLines (kept_pieces before) lines → AreLines (kept_pieces before') lines' → is_blank piece ≡ false → is_blank piece' ≡ false → ((line : Line) → IsLineOf piece line → ⊥) → ((line : Line) → IsLineOf piece' line → ⊥) → length before ≡ length before'
one_place [] [] piece piece' after after' lines lines' same good good' some some' bad bad' = refl
one_place [] (b ∷ bs) piece piece' after after' lines lines' same good good' some some' bad bad' =
    absurd (no_lines [] piece (kept_pieces bs) lines' bad (subst (λ p. AreLines p lines') (ap (λ h. kept_pieces (h ∷ bs)) (sym (same_head _ _ _ _ same)) ∙ kept_one piece bs some) good'))
one_place (b ∷ bs) [] piece piece' after after' lines lines' same good good' some some' bad bad' =
    absurd (no_lines [] piece' (kept_pieces bs) lines bad' (subst (λ p. AreLines p lines) (ap (λ h. kept_pieces (h ∷ bs)) (same_head _ _ _ _ same) ∙ kept_one piece' bs some') good))
one_place (b ∷ bs) (c ∷ cs) piece piece' after after' lines lines' same good good' some some' bad bad' =
    let first = dropped (is_blank b) refl lines good in
    let second = dropped' (is_blank c) refl lines' good' in
    let others = one_place bs cs piece piece' after after' first.0 second.0 (same_tail _ _ _ _ same) first.1 second.1 some some' bad bad' in
    omega (arith, others)
  where
    dropped : (t : Bool) → is_blank b ≡ t → (l : List Line) → AreLines (kept_pieces (b ∷ bs)) l → (rest : List Line) × AreLines (kept_pieces bs) rest
    dropped true is l are = (l, subst (λ p. AreLines p l) (ap (λ t. cond (not t) (b ∷ kept_pieces bs) (kept_pieces bs)) is) are)
    dropped false is [] are = absurd (subst (λ p. AreLines p []) (kept_one b bs is) are)
    dropped false is (x ∷ l) are = (l, (subst (λ p. AreLines p (x ∷ l)) (kept_one b bs is) are).1)

    dropped' : (t : Bool) → is_blank c ≡ t → (l : List Line) → AreLines (kept_pieces (c ∷ cs)) l → (rest : List Line) × AreLines (kept_pieces cs) rest
    dropped' true is l are = (l, subst (λ p. AreLines p l) (ap (λ t. cond (not t) (c ∷ kept_pieces cs) (kept_pieces cs)) is) are)
    dropped' false is [] are = absurd (subst (λ p. AreLines p []) (kept_one c cs is) are)
    dropped' false is (x ∷ l) are = (l, (subst (λ p. AreLines p (x ∷ l)) (kept_one c cs is) are).1)

pub one_answer : (text : List ℕ) → OneAnswer text
one_answer text = record {
  one_file = one_file text;
  one_bad = λ a b first second. first.counted ∙ ap (λ n. n + 1) (one_place first.before second.before first.piece second.piece first.after second.after first.lines second.lines (sym first.split ∙ second.split) first.good second.good first.some second.some first.bad second.bad) ∙ sym second.counted;
  file_or_bad = λ file place is bad. bad_has_no_lines text place is.lines bad is.is_text;
  file_or_long = λ file is long. (let same : is.lines ≡ long.lines = one_list (kept_pieces (pieces text)) is.lines long.lines is.is_text long.is_text in omega (arith, is.short, long.long, ap length (is.exact ∙ ap file_of same)));
  bad_or_long = λ place bad long. bad_has_no_lines text place long.lines bad long.is_text;
}
