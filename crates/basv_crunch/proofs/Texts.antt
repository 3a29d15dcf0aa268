-- The lines of a text, piece by piece.
use Rattle.std.proofs.Common.{◌≡◌, ℕ, ◌+◌, ◌<◌, ◌≤◌, true, false, not, cond, List, [], ◌∷◌, ◌++◌, length, Result, Ok, Err, IfOk, IfErr, Vec, Global, refl, sym, ap, subst, ◌∙◌, arith, append_assoc, append-nil, length-append}
use Rattle.std.proofs.lemmas.List.Elements.{filter-append}
use Rattle.bv_base.specs.Limits.{crunched_file_bytes}
use Rattle.token_file.specs.declared.line.Line.{Line}
use Rattle.token_file.specs.Lines.{file_of}
use Rattle.basv_crunch.specs.declared.error.CrunchError.{CrunchError}
use Rattle.basv_crunch.specs.declared.error.CrunchError.TheVariants as errors
use Rattle.basv_crunch.specs.Pieces.{pieces, is_blank}
use Rattle.basv_crunch.specs.Crunched.{IsLineOf, AreLines, kept_pieces, IsText, IsFileOf, ExplainsCrunch}
use Rattle.basv_crunch.proofs.PieceLines.{one_file}
use Rattle.basv_crunch.specs.Adding.{AddsPiece, IsBadPiece, IsFinished}

pub lines-append : (a b : List (List ℕ)) (x y : List Line) → AreLines a x → AreLines b y → AreLines (a ++ b) (x ++ y)
lines-append [] b [] y first second = second
lines-append [] b (l ∷ x) y first second = absurd first
lines-append (p ∷ a) b [] y first second = absurd first
lines-append (p ∷ a) b (l ∷ x) y first second = (first.0, lines-append a b x y first.1 second)

pub kept-append : (a b : List (List ℕ)) → kept_pieces (a ++ b) ≡ kept_pieces a ++ kept_pieces b
kept-append a b = filter-append (λ piece. not (is_blank piece)) a b

-- The pieces before the rest of a text are these lines, and the rest's first piece has this number.
pub record IsSoFar (text rest : List ℕ) (lines : List Line) (number : ℕ) : Type 0 where
  pub before : List (List ℕ)
  pub split : pieces text ≡ before ++ pieces rest
  pub good : AreLines (kept_pieces before) lines
  pub counted : number ≡ length before + 1
  pub within : number + length rest ≤ length text + 1

pub so_far_first : (text : List ℕ) → IsSoFar text text [] 1
so_far_first text = record { before = []; split = refl; good = tt; counted = refl; within = omega arith }

more_good : (before : List (List ℕ)) (piece : List ℕ) (lines lines' : List Line) → AreLines (kept_pieces before) lines → AddsPiece piece lines lines' → AreLines (kept_pieces (before ++ piece ∷ [])) lines'
more_good before piece lines lines' good adds =
    subst (λ p. AreLines p lines') (sym (kept-append before (piece ∷ []))) (subst (AreLines (kept_pieces before ++ kept_pieces (piece ∷ []))) (sym adds.whole) (lines-append (kept_pieces before) (kept_pieces (piece ∷ [])) lines adds.added good adds.are_lines))

pub so_far_next : (text rest piece after : List ℕ) (lines lines' : List Line) (number : ℕ) → pieces rest ≡ piece ∷ pieces after → length piece + length after < length rest → AddsPiece piece lines lines' → IsSoFar text rest lines number → IsSoFar text after lines' (number + 1)
so_far_next text rest piece after lines lines' number cut shorter adds s = record {
  before = s.before ++ piece ∷ [];
  split = s.split ∙ ap (λ l. s.before ++ l) cut ∙ sym (append_assoc s.before (piece ∷ []) (pieces after));
  good = more_good s.before piece lines lines' s.good adds;
  counted = omega (arith, s.counted, length-append s.before (piece ∷ []));
  within = omega (arith, s.within, shorter);
}

pub so_far_done : (text rest piece : List ℕ) (lines lines' : List Line) (number : ℕ) → pieces rest ≡ piece ∷ [] → AddsPiece piece lines lines' → IsSoFar text rest lines number → IsText text lines'
so_far_done text rest piece lines lines' number cut adds s =
    subst (λ p. AreLines (kept_pieces p) lines') (sym (s.split ∙ ap (λ l. s.before ++ l) cut)) (more_good s.before piece lines lines' s.good adds)

pub so_far_bad : (text rest piece : List ℕ) (after : List (List ℕ)) (lines : List Line) (number : ℕ) (error : CrunchError) → pieces rest ≡ piece ∷ after → IsBadPiece piece number error → IsSoFar text rest lines number → ExplainsCrunch text error
so_far_bad text rest piece after lines number (errors.BadText line) cut bad s = record {
  before = s.before;
  piece = piece;
  after = after;
  lines = lines;
  split = s.split ∙ ap (λ l. s.before ++ l) cut;
  good = s.good;
  some = bad.1;
  bad = bad.2;
  counted = bad.0 ∙ s.counted;
}
so_far_bad text rest piece after lines number errors.TooLong cut bad s = absurd bad
so_far_bad text rest piece after lines number errors.NoMemory cut bad s = tt

pub finished : (text : List ℕ) (lines : List Line) (error : CrunchError) → IsText text lines → IsFinished lines error → ExplainsCrunch text error
finished text lines (errors.BadText line) is ends = absurd ends
finished text lines errors.TooLong is ends = record { lines = lines; is_text = is; long = ends }
finished text lines errors.NoMemory is ends = tt

-- a piece that isn't blank is a line or bad
pub adds_line : (piece : List ℕ) (line : Line) (lines : List Line) → is_blank piece ≡ false → IsLineOf piece line → AddsPiece piece lines (lines ++ line ∷ [])
adds_line piece line lines some is = record {
  added = line ∷ [];
  are_lines = subst (λ p. AreLines p (line ∷ [])) (ap (λ t. cond t (piece ∷ []) []) (sym (ap not some))) (is, tt);
  whole = refl;
}

pub adds_none : (piece : List ℕ) (lines : List Line) → is_blank piece ≡ true → AddsPiece piece lines lines
adds_none piece lines blank = record {
  added = [];
  are_lines = subst (λ p. AreLines p []) (ap (λ t. cond t (piece ∷ []) []) (sym (ap not blank))) tt;
  whole = sym (append-nil lines);
}

-- a piece that isn't blank has a byte
pub has_byte : (piece : List ℕ) → is_blank piece ≡ false → 0 < length piece
has_byte [] some = absurd (let no : true ≡ false = some in cc)
has_byte (b ∷ piece) some = omega arith

-- what the end answers, by the lines of the text
pub file_or_not : (text : List ℕ) (lines lines' : List Line) (answer : Result (Vec ℕ Global) CrunchError) → IsText text lines → lines' ≡ lines → IfOk answer (λ file. (file.items ≡ file_of lines') × (length file.items ≤ crunched_file_bytes)) → IfOk answer (λ file. IsFileOf text file.items)
file_or_not text lines lines' (Ok file) is same ok = record { lines = lines; is_text = is; exact = ok.0 ∙ ap file_of same; short = ok.1 }
file_or_not text lines lines' (Err error) is same ok = tt

pub finished_or_not : (text : List ℕ) (lines lines' : List Line) (answer : Result (Vec ℕ Global) CrunchError) → IsText text lines → lines' ≡ lines → IfErr answer (IsFinished lines') → IfErr answer (ExplainsCrunch text)
finished_or_not text lines lines' (Ok file) is same err = tt
finished_or_not text lines lines' (Err error) is same err = finished text lines error is (subst (λ l. IsFinished l error) same err)

-- the file is the only one
pub only_or_not : (text : List ℕ) (answer : Result (Vec ℕ Global) CrunchError) → IfOk answer (λ file. IsFileOf text file.items) → IfOk answer (λ file. (other : List ℕ) → IsFileOf text other → other ≡ file.items)
only_or_not text (Ok file) is = λ other also. one_file text other file.items also is
only_or_not text (Err error) is = tt
