-- What begins a text: a piece, or none.
use Rattle.std.proofs.Common.{◌≡◌, ◌≢◌, ◌⊎◌, inl, inr, ℕ, suc, ◌+◌, ◌<◌, Bool, false, List, [], ◌∷◌, ◌++◌, length, drop, None, refl, sym, ap, subst, ◌∙◌, arith, append-nil, length-append, true≢false}
use Rattle.std.proofs.Math.Seq.{drop-append_seam}
use Rattle.bv_token.specs.declared.tokens.TheConstants.{REM, DATA}
use Rattle.bas_lex.specs.Bytes.{space}
use Rattle.bas_lex.specs.declared.front.Front.{Front}
use Rattle.bas_lex.specs.declared.symbol.Mode.{Mode}
use Rattle.bas_lex.specs.declared.symbol.Sym.{Sym}
use Rattle.bas_lex.specs.declared.symbol.SymKind.{SymKind}
use Rattle.bas_lex.specs.declared.symbol.SymKind.TheVariants as kinds
use Rattle.bas_lex.specs.Kinds.{IsSymbol}
use Rattle.bas_lex.specs.Cut.{Begins, Longest, Piece, Space, Comment, Symbol, Tailed, begins_comment, AtComment, Fits, mode_after_symbol, symbol_at, NoPiece}
use Rattle.bas_lex.specs.Scan.{Best}
use Rattle.bas_lex.specs.Next.{TakesPiece}
use Rattle.bv_base.proofs.Lists.{same_head, same_fronts}
use Rattle.bas_lex.proofs.Classes.{class_of_symbol}

-- no symbol is empty
pub no_empty_symbol : (asm : Bool) (kind : SymKind) (bytes rest : List ℕ) → IsSymbol asm kind bytes rest → bytes ≢ []
no_empty_symbol asm kind bytes rest is e =
    let c = class_of_symbol asm kind bytes rest is in let differ : [] ≡ c.first ∷ c.more = sym e ∙ c.spelled in cc

-- nothing begins the empty text
pub no_piece_at_end : (asm : Bool) (text : List ℕ) → text ≡ [] → NoPiece asm text
no_piece_at_end asm text empty Space rest fits = let differ : [] ≡ space ∷ rest = sym empty ∙ fits.0 in cc
no_piece_at_end asm text empty (Tailed token tail) rest fits = let differ : [] ≡ token ∷ (tail ++ rest) = sym empty ∙ fits.0 in cc
no_piece_at_end asm text empty (Comment bytes) rest fits =
    let comment = fits.1.0 in
    let differ : [] ≡ comment.0 ∷ (comment.1 ++ rest) = sym empty ∙ fits.0 ∙ ap (λ l. l ++ rest) comment.2 in
    cc
no_piece_at_end asm text empty (Symbol kind bytes) rest fits =
    let b = fits.1.1.begins in
    no_empty_symbol asm kind b.bytes b.rest b.is (no_front b.bytes b.rest (sym b.split ∙ sym fits.0 ∙ empty))
  where
    no_front : (xs ys : List ℕ) → xs ++ ys ≡ [] → xs ≡ []
    no_front [] ys e = refl
    no_front (x ∷ xs) ys e = absurd (let differ : x ∷ (xs ++ ys) ≡ [] = e in cc)

-- nothing begins a text where no symbol does, and its first byte begins nothing else
pub no_piece : (asm : Bool) (text : List ℕ) (first : ℕ) (after : List ℕ) → text ≡ first ∷ after → begins_comment asm first ≡ false → first ≢ space → first ≢ REM → first ≢ DATA → Best (IsSymbol asm) text None → NoPiece asm text
no_piece asm text first after text_is no_comment no_space not_rem not_data none Space rest fits = no_space (same_head _ _ _ _ (sym text_is ∙ fits.0))
no_piece asm text first after text_is no_comment no_space not_rem not_data none (Tailed token tail) rest fits =
    by_token fits.1.0
  where
    same : first ≡ token
    same = same_head first token after (tail ++ rest) (sym text_is ∙ fits.0)

    by_token : ((token ≡ REM) × (asm ≡ false)) ⊎ (token ≡ DATA) → ⊥
    by_token (inl e) = not_rem (same ∙ e.0)
    by_token (inr e) = not_data (same ∙ e)
no_piece asm text first after text_is no_comment no_space not_rem not_data none (Comment bytes) rest fits =
    let comment = fits.1.0 in
    let same : first ≡ comment.0 = same_head _ _ _ _ (sym text_is ∙ fits.0 ∙ ap (λ l. l ++ rest) comment.2) in
    true≢false (sym comment.3 ∙ sym (ap (begins_comment asm) same) ∙ no_comment)
no_piece asm text first after text_is no_comment no_space not_rem not_data none (Symbol kind bytes) rest fits =
    none kind (length bytes) (subst (λ t. Begins (IsSymbol asm) t kind (length bytes)) (sym fits.0) fits.1.1.begins)

-- where the first byte begins no comment
pub not_at_comment : (asm : Bool) (text : List ℕ) (first : ℕ) (after : List ℕ) → text ≡ first ∷ after → begins_comment asm first ≡ false → AtComment asm text → ⊥
not_at_comment asm text first after text_is no_comment at =
    true≢false (sym at.3 ∙ sym (ap (begins_comment asm) (same_head _ _ _ _ (sym text_is ∙ at.2))) ∙ no_comment)

-- a comment to the line's end
pub takes_comment : (at : ℕ) (text : List ℕ) (mode : Mode) (list : List Sym) → AtComment mode.asm text → TakesPiece at text mode list [] mode list
takes_comment at text mode list comment = record {
  piece = Comment text;
  fits = (sym (append-nil text), (comment, refl));
  mode_is = refl;
  added = sym (append-nil list);
}

-- REM or DATA, and its Tail to the line's end
pub takes_tailed : (at : ℕ) (text : List ℕ) (mode : Mode) (list list' : List Sym) (token number : ℕ) (tail : List ℕ) (a b : Sym) → text ≡ token ∷ tail → ((token ≡ REM) × (mode.asm ≡ false)) ⊎ (token ≡ DATA) → number ≡ token → a ≡ symbol_at at mode (kinds.Token number) 1 → b ≡ symbol_at (at + 1) mode kinds.Tail (length tail) → list' ≡ list ++ a ∷ b ∷ [] → TakesPiece at text mode list [] mode list'
takes_tailed at text mode list list' token number tail a b text_is is number_is a_is b_is list_is = record {
  piece = Tailed token tail;
  fits = (text_is ∙ ap (λ l. token ∷ l) (sym (append-nil tail)), (is, refl));
  mode_is = refl;
  added = list_is ∙ (λ i. list ++ (a_is ∙ ap (λ n. symbol_at at mode (kinds.Token n) 1) number_is) i ∷ b_is i ∷ []);
}

-- the longest symbol of n bytes as the front of a text
longest_front : (asm : Bool) (text : List ℕ) (kind : SymKind) (size : ℕ) (l : Longest (IsSymbol asm) text kind size) → (text ≡ l.begins.bytes ++ drop size text) × Longest (IsSymbol asm) (l.begins.bytes ++ drop size text) kind (length l.begins.bytes)
longest_front asm text kind size l =
    let b = l.begins in
    let rest_is : drop size text ≡ b.rest = ap (λ n. drop n text) (sym b.size_is) ∙ ap (λ t. drop (length b.bytes) t) b.split ∙ drop-append_seam b.bytes b.rest in
    let whole : text ≡ b.bytes ++ drop size text = b.split ∙ ap (λ r. b.bytes ++ r) (sym rest_is) in
    (whole, subst (λ n. Longest (IsSymbol asm) (b.bytes ++ drop size text) kind n) (sym b.size_is) (subst (λ t. Longest (IsSymbol asm) t kind size) whole l))

pub takes_symbol : (at : ℕ) (text : List ℕ) (mode mode' : Mode) (list list' : List Sym) (front : Front) (rest : List ℕ) (a : Sym) → (AtComment mode.asm text → ⊥) → Longest (IsSymbol mode.asm) text front.kind front.size → rest ≡ drop front.size text → mode' ≡ mode_after_symbol mode front.kind → a ≡ symbol_at at mode front.kind front.size → list' ≡ list ++ a ∷ [] → TakesPiece at text mode list rest mode' list'
takes_symbol at text mode mode' list list' front rest a no_comment longest rest_is mode_is a_is list_is =
    let f = longest_front mode.asm text front.kind front.size longest in
    let bytes = longest.begins.bytes in
    record {
      piece = Symbol front.kind bytes;
      fits = (
        f.0 ∙ ap (λ r. bytes ++ r) (sym rest_is),
        (
          λ at_comment. no_comment (subst (AtComment mode.asm) (ap (λ r. bytes ++ r) rest_is ∙ sym f.0) at_comment),
          subst (λ r. Longest (IsSymbol mode.asm) (bytes ++ r) front.kind (length bytes)) (sym rest_is) f.1,
        ),
      );
      mode_is = mode_is;
      added = list_is ∙ (λ i. list ++ (a_is ∙ ap (λ n. symbol_at at mode front.kind n) (sym longest.begins.size_is)) i ∷ []);
    }

-- a piece has a byte or more
pub piece_shortens : (asm : Bool) (piece : Piece) (text rest : List ℕ) → Fits asm piece text rest → length rest < length text
piece_shortens asm Space text rest fits = omega (arith, ap length fits.0)
piece_shortens asm (Tailed token tail) text rest fits = omega (arith, ap length fits.0, length-append tail rest)
piece_shortens asm (Comment bytes) text rest fits =
    let size : length bytes ≡ suc (length fits.1.0.1) = ap length fits.1.0.2 in omega (arith, ap length fits.0, length-append bytes rest, size)
piece_shortens asm (Symbol kind bytes) text rest fits =
    let b = fits.1.1.begins in
    let some : 0 < length b.bytes = not_empty b.bytes (no_empty_symbol asm kind b.bytes b.rest b.is) in
    omega (arith, ap length fits.0, length-append bytes rest, some, b.size_is)
  where
    not_empty : (xs : List ℕ) → xs ≢ [] → 0 < length xs
    not_empty [] none = absurd (none refl)
    not_empty (x ∷ xs) some = omega arith

-- the symbol of a piece
pub symbol_is : (asm : Bool) (kind : SymKind) (bytes rest : List ℕ) → Longest (IsSymbol asm) (bytes ++ rest) kind (length bytes) → IsSymbol asm kind bytes rest
symbol_is asm kind bytes rest longest =
    let b = longest.begins in
    let same = same_fronts b.bytes bytes b.rest rest b.size_is (sym b.split) in
    subst (λ r. IsSymbol asm kind bytes r) same.1 (subst (λ l. IsSymbol asm kind l b.rest) same.0 b.is)
