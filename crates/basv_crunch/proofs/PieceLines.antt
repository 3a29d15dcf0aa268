-- Why a piece is no line, and that it is one line at most.
use Rattle.std.proofs.Common.{◌≡◌, ℕ, ◌<◌, List, [], ◌∷◌, length, drop, refl, sym, ap, subst, ◌∙◌, arith}
use Rattle.bv_base.specs.Limits.{longest_text}
use Rattle.bv_num.specs.Value.{after_spaces, front_digits}
use Rattle.token_file.specs.declared.line.Line.{Line}
use Rattle.token_file.specs.Lines.{file_of}
use Rattle.basv_crunch.specs.Pieces.{pieces}
use Rattle.basv_crunch.specs.Crunched.{CrunchesTo, body_of, IsLineOf, AreLines, kept_pieces, IsFileOf}
use Rattle.basv_crunch.proofs.Bodies.{one_text}

pub body_is : (piece unspaced body : List ℕ) (count : ℕ) → unspaced ≡ after_spaces piece → count ≡ length (front_digits 10 unspaced) → body ≡ drop count unspaced → body ≡ body_of piece
body_is piece unspaced body count is_unspaced is_count is_body =
    is_body ∙ ap (λ n. drop n unspaced) is_count ∙ ap (λ u. drop (length (front_digits 10 u)) u) is_unspaced

pub no_body : (piece body : List ℕ) → body ≡ body_of piece → ((other : List ℕ) → CrunchesTo body other → ⊥) → (line : Line) → IsLineOf piece line → ⊥
no_body piece body is none line l = none line.text (subst (λ b. CrunchesTo b line.text) (sym is) l.body)

pub too_long : (piece body text : List ℕ) → body ≡ body_of piece → CrunchesTo body text → longest_text < length text → (line : Line) → IsLineOf piece line → ⊥
too_long piece body text is crunches long line l =
    let same : line.text ≡ text = one_text body line.text text (subst (λ b. CrunchesTo b line.text) (sym is) l.body) crunches in
    omega (arith, l.short, long, ap length same)

-- a piece is one line at most
pub one_line : (piece : List ℕ) (a b : Line) → IsLineOf piece a → IsLineOf piece b → a ≡ b
one_line piece a b p q =
    let number : a.number ≡ b.number = p.number ∙ sym q.number in
    let text : a.text ≡ b.text = one_text (body_of piece) a.text b.text p.body q.body in
    (λ i. record { number = number i; text = text i })

-- pieces are one list of lines at most
pub one_list : (all : List (List ℕ)) (a b : List Line) → AreLines all a → AreLines all b → a ≡ b
one_list [] [] [] p q = refl
one_list [] [] (b ∷ bs) p q = absurd q
one_list [] (a ∷ more) b p q = absurd p
one_list (piece ∷ all) [] b p q = absurd p
one_list (piece ∷ all) (a ∷ more) [] p q = absurd q
one_list (piece ∷ all) (a ∷ more) (b ∷ bs) p q =
    let line = one_line piece a b p.0 q.0 in
    let others = one_list all more bs p.1 q.1 in
    (λ i. line i ∷ others i)

-- a text has one file at most
pub one_file : (text a b : List ℕ) → IsFileOf text a → IsFileOf text b → a ≡ b
one_file text a b p q = p.exact ∙ ap file_of (one_list (kept_pieces (pieces text)) p.lines q.lines p.is_text q.is_text) ∙ sym q.exact
