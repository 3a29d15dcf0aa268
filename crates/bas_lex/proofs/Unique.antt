-- A text is cut in one way at most.
use Rattle.std.proofs.Common.{◌≡◌, ◌⊎◌, inl, inr, ℕ, Bool, true, false, not, ◌||◌, ◌==◌, if◌then◌else◌, List, [], ◌∷◌, ◌++◌, length, refl, sym, ap, subst, ◌∙◌, arith, append-nil, true≢false, eqb-true}
use Rattle.std.specs.List.{list_all}
use Rattle.std.proofs.lemmas.Bool.{or_cases, and_right, cond-true, cond-false, false_from_ne_true}
use Rattle.bv_token.specs.declared.tokens.TheConstants.{REM, DATA}
use Rattle.bv_token.specs.Tokens.{begins_pair}
use Rattle.bas_lex.specs.Bytes.{space}
use Rattle.bas_lex.specs.declared.symbol.Mode.{Mode}
use Rattle.bas_lex.specs.declared.symbol.Sym.{Sym}
use Rattle.bas_lex.specs.declared.symbol.SymKind.{SymKind}
use Rattle.bas_lex.specs.declared.symbol.SymKind.TheVariants as kinds
use Rattle.bas_lex.specs.Kinds.{IsSymbol, signs}
use Rattle.bas_lex.specs.Cut.{Piece, Space, Comment, Symbol, Tailed, begins_comment, AtComment, Fits, mode_after, at_line, Cuts, symbols_of, Symbols, NoPiece, Bad}
use Rattle.bv_base.proofs.Lists.{same_head, same_tail, same_fronts}
use Rattle.bas_lex.proofs.Tokens.{pair_begins}
use Rattle.bas_lex.proofs.Classes.{OfSign, OfToken, class_of, of_class, class_of_symbol, at_place}
use Rattle.bas_lex.proofs.OneKind.{one_kind}
use Rattle.bas_lex.proofs.Pieces.{no_piece_at_end, symbol_is}

-- no sign begins with a space
abbrev no_space_first : List ℕ → Bool
no_space_first [] = true
no_space_first (c ∷ more) = not (c == space)

no_sign_with_space : list_all no_space_first signs ≡ true
unfolding signs
no_sign_with_space = refl

-- no symbol begins with a space
no_space_symbol : (asm : Bool) (kind : SymKind) (more rest : List ℕ) → of_class OfSign asm kind (space ∷ more) rest → ⊥
no_space_symbol asm (kinds.Mark n) more rest is = true≢false (sym (at_place no_space_first signs n (space ∷ more) no_sign_with_space is))
no_space_symbol asm kind more rest is = is

-- no symbol begins with REM or DATA
no_tailed_symbol : (asm : Bool) (kind : SymKind) (token : ℕ) (more rest : List ℕ) → begins_pair token ≡ false → (token ≡ REM) ⊎ (token ≡ DATA) → of_class OfToken asm kind (token ∷ more) rest → ⊥
no_tailed_symbol asm (kinds.Token n) token more rest alone which (inl single) = by_token which
  where
    same : token ≡ n
    same = same_head token n more [] single.spelled

    by_token : (token ≡ REM) ⊎ (token ≡ DATA) → ⊥
    by_token (inl e) = single.not_rem (sym same ∙ e)
    by_token (inr e) = single.not_data (sym same ∙ e)
no_tailed_symbol asm (kinds.Token n) token more rest alone which (inr pair) =
    let same : token ≡ pair.first = same_head token pair.first more (pair.second ∷ []) pair.spelled in
    true≢false (sym (subst (λ m. begins_pair m ≡ true) (sym same) (pair_begins pair.first pair.second pair.keyword)) ∙ alone)
no_tailed_symbol asm kind token more rest alone which is = is

-- the kinds of pieces
data Tag : Type 0 where
  IsSpace IsComment IsOne IsTailed : Tag

abbrev tag_of : Piece → Tag
tag_of Space = IsSpace
tag_of (Comment bytes) = IsComment
tag_of (Symbol kind bytes) = IsOne
tag_of (Tailed token tail) = IsTailed

-- the kind of the piece that begins with a byte, if any does
abbrev tag_at : Bool → ℕ → Tag
tag_at asm c = if begins_comment asm c then IsComment else if c == space then IsSpace else if c == REM || c == DATA then IsTailed else IsOne

-- a piece that fits, by the first byte
record Tagged (asm : Bool) (piece : Piece) (text : List ℕ) : Type 0 where
  first : ℕ
  after : List ℕ
  split : text ≡ first ∷ after
  tag : tag_of piece ≡ tag_at asm first

tag_symbol : (asm : Bool) (kind : SymKind) (bytes text rest : List ℕ) (first : ℕ) (more rest' : List ℕ) → text ≡ first ∷ more → (AtComment asm text → ⊥) → of_class (class_of first) asm kind (first ∷ rest) rest' → Tagged asm (Symbol kind bytes) text
tag_symbol asm kind bytes text rest first more rest' split absent is = record {
  first = first;
  after = more;
  split = split;
  tag = sym (cond-false (begins_comment asm first) _ _ (false_from_ne_true (begins_comment asm first) (λ e. absent (first, more, split, e))) ∙ cond-false (first == space) _ _ no_space ∙ cond-false (first == REM || first == DATA) _ _ no_tailed);
}
  where
    no_space : (first == space) ≡ false
    no_space = false_from_ne_true (first == space) (λ e. no_space_symbol asm kind rest rest' (subst (λ n. of_class (class_of n) asm kind (n ∷ rest) rest') (eqb-true first space e) is))

    no_tailed : (first == REM || first == DATA) ≡ false
    no_tailed = false_from_ne_true (first == REM || first == DATA) (λ e. by_token (or_cases (first == REM) (first == DATA) e))
      where
        by_token : ((first == REM) ≡ true) ⊎ ((first == DATA) ≡ true) → ⊥
        by_token (inl e) = no_tailed_symbol asm kind REM rest rest' refl (inl refl) (subst (λ n. of_class (class_of n) asm kind (n ∷ rest) rest') (eqb-true first REM e) is)
        by_token (inr e) = no_tailed_symbol asm kind DATA rest rest' refl (inr refl) (subst (λ n. of_class (class_of n) asm kind (n ∷ rest) rest') (eqb-true first DATA e) is)

tagged : (asm : Bool) (piece : Piece) (text rest : List ℕ) → Fits asm piece text rest → Tagged asm piece text
tagged asm Space text rest fits = record { first = space; after = rest; split = fits.0; tag = sym (cond-false (begins_comment asm space) _ _ (and_right asm false refl)) }
tagged asm (Comment bytes) text rest fits =
    let at = fits.1.0 in
    record { first = at.0; after = at.1 ++ rest; split = fits.0 ∙ ap (λ l. l ++ rest) at.2; tag = sym (cond-true (begins_comment asm at.0) _ _ at.3) }
tagged asm (Tailed token tail) text rest fits = record { first = token; after = tail ++ rest; split = fits.0; tag = by_token fits.1.0 }
  where
    by_token : ((token ≡ REM) × (asm ≡ false)) ⊎ (token ≡ DATA) → IsTailed ≡ tag_at asm token
    by_token (inl (e, asm_off)) = sym (ap (λ n. tag_at asm n) e ∙ ap (λ a. tag_at a REM) asm_off)
    by_token (inr e) = sym (ap (λ n. tag_at asm n) e ∙ cond-false (begins_comment asm DATA) _ _ (and_right asm false refl))
tagged asm (Symbol kind bytes) text rest fits =
    let b = fits.1.1.begins in
    let c = class_of_symbol asm kind b.bytes b.rest b.is in
    let split : text ≡ c.first ∷ (c.more ++ b.rest) = fits.0 ∙ b.split ∙ ap (λ l. l ++ b.rest) c.spelled in
    tag_symbol asm kind bytes text c.more c.first (c.more ++ b.rest) b.rest split (λ at. fits.1.0 (subst (AtComment asm) fits.0 at))
    (subst (λ l. of_class (class_of c.first) asm kind l b.rest) c.spelled c.is)

no_other_tag : (asm : Bool) (text : List ℕ) (p q : Piece) → Tagged asm p text → Tagged asm q text → tag_of p ≡ tag_of q
no_other_tag asm text p q t u = t.tag ∙ ap (λ c. tag_at asm c) (same_head _ _ _ _ (sym t.split ∙ u.split)) ∙ sym u.tag

whole_line : (bytes bytes' rest rest' text : List ℕ) → text ≡ bytes ++ rest → rest ≡ [] → text ≡ bytes' ++ rest' → rest' ≡ [] → bytes ≡ bytes'
whole_line bytes bytes' rest rest' text e empty e' empty' =
    sym (append-nil bytes) ∙ ap (λ r. bytes ++ r) (sym empty) ∙ sym e ∙ e' ∙ ap (λ r. bytes' ++ r) empty' ∙ append-nil bytes'

same_tags : (asm : Bool) (p q : Piece) (text rest rest' : List ℕ) → tag_of p ≡ tag_of q → Fits asm p text rest → Fits asm q text rest' → (p ≡ q) × (rest ≡ rest')
same_tags asm Space Space text rest rest' tag f g = (refl, same_tail _ _ _ _ (sym f.0 ∙ g.0))
same_tags asm (Comment bytes) (Comment bytes') text rest rest' tag f g =
    (ap (λ l. Comment l) (whole_line bytes bytes' rest rest' text f.0 f.1.1 g.0 g.1.1), f.1.1 ∙ sym g.1.1)
same_tags asm (Tailed token tail) (Tailed token' tail') text rest rest' tag f g =
    let e = sym f.0 ∙ g.0 in
    let tails = whole_line tail tail' rest rest' (tail ++ rest) refl f.1.1 (same_tail _ _ _ _ e) g.1.1 in
    ((λ i. Tailed (same_head _ _ _ _ e i) (tails i)), f.1.1 ∙ sym g.1.1)
same_tags asm (Symbol kind bytes) (Symbol kind' bytes') text rest rest' tag f g =
    let e = sym f.0 ∙ g.0 in
    let no_more = f.1.1.longest kind' (length bytes') (record { bytes = bytes'; rest = rest'; split = e; size_is = refl; is = symbol_is asm kind' bytes' rest' g.1.1 }) in
    let no_less = g.1.1.longest kind (length bytes) (record { bytes = bytes; rest = rest; split = sym e; size_is = refl; is = symbol_is asm kind bytes rest f.1.1 }) in
    let fronts = same_fronts bytes bytes' rest rest' (omega (arith, no_more, no_less)) e in
    let there = subst (λ r. IsSymbol asm kind bytes' r) fronts.1 (subst (λ l. IsSymbol asm kind l rest) fronts.0 (symbol_is asm kind bytes rest f.1.1)) in
    let same = one_kind asm kind kind' bytes' rest' there (symbol_is asm kind' bytes' rest' g.1.1) in
    ((λ i. Symbol (same i) (fronts.0 i)), fronts.1)
same_tags asm Space (Comment b) text rest rest' tag f g = cc
same_tags asm Space (Symbol k b) text rest rest' tag f g = cc
same_tags asm Space (Tailed t b) text rest rest' tag f g = cc
same_tags asm (Comment a) Space text rest rest' tag f g = cc
same_tags asm (Comment a) (Symbol k b) text rest rest' tag f g = cc
same_tags asm (Comment a) (Tailed t b) text rest rest' tag f g = cc
same_tags asm (Symbol k a) Space text rest rest' tag f g = cc
same_tags asm (Symbol k a) (Comment b) text rest rest' tag f g = cc
same_tags asm (Symbol k a) (Tailed t b) text rest rest' tag f g = cc
same_tags asm (Tailed t a) Space text rest rest' tag f g = cc
same_tags asm (Tailed t a) (Comment b) text rest rest' tag f g = cc
same_tags asm (Tailed t a) (Symbol k b) text rest rest' tag f g = cc

-- one piece at most begins a text
pub one_piece : (asm : Bool) (p q : Piece) (text rest rest' : List ℕ) → Fits asm p text rest → Fits asm q text rest' → (p ≡ q) × (rest ≡ rest')
one_piece asm p q text rest rest' f g = same_tags asm p q text rest rest' (no_other_tag asm text p q (tagged asm p text rest f) (tagged asm q text rest' g)) f g

-- Two cuts of one text that both go as far as pieces begin are the same.
one_way : (mode mode' : Mode) (text text' : List ℕ) (ps qs : List Piece) (last last' : Mode) (rest rest' : List ℕ) → mode ≡ mode' → text ≡ text' → Cuts mode text ps last rest → Cuts mode' text' qs last' rest' → NoPiece last.asm rest → NoPiece last'.asm rest' → (ps ≡ qs) × ((last ≡ last') × (rest ≡ rest'))
one_way mode mode' text text' [] [] last last' rest rest' same_mode same_text f g end end' =
    (refl, (f.0 ∙ same_mode ∙ sym g.0, f.1 ∙ same_text ∙ sym g.1))
one_way mode mode' text text' [] (q ∷ qs) last last' rest rest' same_mode same_text f g end end' =
    absurd (end q g.0 (subst (λ (m : Mode). Fits m.asm q rest g.0) (sym (f.0 ∙ same_mode)) (subst (λ t. Fits mode'.asm q t g.0) (sym (f.1 ∙ same_text)) g.1)))
one_way mode mode' text text' (p ∷ ps) [] last last' rest rest' same_mode same_text f g end end' =
    absurd (end' p f.0 (subst (λ (m : Mode). Fits m.asm p rest' f.0) (same_mode ∙ sym g.0) (subst (λ t. Fits mode.asm p t f.0) (same_text ∙ sym g.1) f.1)))
one_way mode mode' text text' (p ∷ ps) (q ∷ qs) last last' rest rest' same_mode same_text f g end end' =
    let here : Fits mode'.asm p text' f.0 = subst (λ (m : Mode). Fits m.asm p text' f.0) same_mode (subst (λ t. Fits mode.asm p t f.0) same_text f.1) in
    let same = one_piece mode'.asm p q text' f.0 g.0 here g.1 in
    let others = one_way (mode_after mode p) (mode_after mode' q) f.0 g.0 ps qs last last' rest rest' (λ i. mode_after (same_mode i) (same.0 i)) same.1 f.2 g.2 end end' in
    ((λ i. same.0 i ∷ others.0 i), others.1)

pub cut_once : (asm : Bool) (text : List ℕ) (a b : List Sym) (c d : Bool) → Symbols asm text a c → Symbols asm text b d → (a ≡ b) × (c ≡ d)
cut_once asm text a b c d f g =
    let same = one_way (at_line asm) (at_line asm) text text f.pieces g.pieces f.last g.last [] [] refl refl f.cut g.cut (no_piece_at_end f.last.asm [] refl) (no_piece_at_end g.last.asm [] refl) in
    (f.listed ∙ ap (λ ps. symbols_of 0 (at_line asm) ps) same.0 ∙ sym g.listed, f.after ∙ ap (λ (m : Mode). m.asm) same.1.0 ∙ sym g.after)

pub bad_once : (asm : Bool) (text : List ℕ) (a b : ℕ) → Bad asm text a → Bad asm text b → a ≡ b
bad_once asm text a b f g =
    let same = one_way (at_line asm) (at_line asm) text text f.pieces g.pieces f.last g.last f.rest g.rest refl refl f.cut g.cut f.none g.none in
    omega (arith, f.at_is, g.at_is, ap length same.1.1)

pub never_both : (asm : Bool) (text : List ℕ) (list : List Sym) (after : Bool) (at : ℕ) → Symbols asm text list after → Bad asm text at → ⊥
never_both asm text list after at f g =
    let same = one_way (at_line asm) (at_line asm) text text f.pieces g.pieces f.last g.last [] g.rest refl refl f.cut g.cut (no_piece_at_end f.last.asm [] refl) g.none in
    g.some (sym same.1.1)
