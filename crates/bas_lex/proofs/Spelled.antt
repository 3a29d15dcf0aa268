-- Each symbol's part of the text is spelled as its kind is.
use Rattle.std.proofs.Common.{◌≡◌, ◌⊎◌, inl, inr, ℕ, ◌+◌, ◌-◌, Bool, List, [], ◌∷◌, ◌++◌, length, take, drop, slice_range, refl, sym, ap, subst, ◌∙◌, arith, append_assoc, length-append}
use Rattle.std.specs.List.{AllByRecursion}
use Rattle.std.proofs.Math.Seq.{take-append_seam, drop-append_seam}
use Rattle.bas_lex.specs.declared.symbol.Mode.{Mode}
use Rattle.bas_lex.specs.declared.symbol.Sym.{Sym}
use Rattle.bas_lex.specs.declared.symbol.SymKind.{SymKind}
use Rattle.bas_lex.specs.declared.symbol.SymKind.TheVariants as kinds
use Rattle.bas_lex.specs.Kinds.{IsSymbol}
use Rattle.bas_lex.specs.Cut.{Piece, Space, Comment, Symbol, Tailed, bytes_of, IsPiece, mode_after, at_line, Cuts, symbol_at, piece_symbols, symbols_of, Symbols, IsTailed, IsSpelled}
use Rattle.bas_lex.proofs.Runs.{all_joined}
use Rattle.bas_lex.proofs.Pieces.{symbol_is}

-- the part of a text between a front and a back
middle : (front part back : List ℕ) (from : ℕ) → from ≡ length front → slice_range (front ++ (part ++ back)) from (from + length part) ≡ part
middle front part back from e =
    let size : from + length part - from ≡ length part = omega arith in
    (λ i. take (size i) (drop (e i) (front ++ (part ++ back)))) ∙ ap (λ l. take (length part) l) (drop-append_seam front (part ++ back)) ∙ take-append_seam part back

-- a symbol of n bytes at the place after a front
spelled_at : (text front part back : List ℕ) (from : ℕ) (mode : Mode) (kind : SymKind) → text ≡ front ++ (part ++ back) → from ≡ length front
    → (((asm : Bool) × (rest : List ℕ) × IsSymbol asm kind part rest) ⊎ IsTailed kind part) → IsSpelled text (symbol_at from mode kind (length part))
spelled_at text front part back from mode kind text_is from_is is =
    let P : List ℕ → Type 0 = λ l. ((asm : Bool) × (rest : List ℕ) × IsSymbol asm kind l rest) ⊎ IsTailed kind l in
    subst P (sym (ap (λ t. slice_range t from (from + length part)) text_is ∙ middle front part back from from_is)) is

piece_spelled : (text front next : List ℕ) (from : ℕ) (mode : Mode) (piece : Piece) → text ≡ front ++ (bytes_of piece ++ next) → from ≡ length front → IsPiece mode.asm piece next → AllByRecursion (IsSpelled text) (piece_symbols from mode piece)
piece_spelled text front next from mode Space text_is from_is is = tt
piece_spelled text front next from mode (Comment bytes) text_is from_is is = tt
piece_spelled text front next from mode (Symbol kind bytes) text_is from_is is =
    (spelled_at text front bytes next from mode kind text_is from_is (inl (mode.asm, next, symbol_is mode.asm kind bytes next is.1)), tt)
piece_spelled text front next from mode (Tailed token tail) text_is from_is is = (
  spelled_at text front (token ∷ []) (tail ++ next) from mode (kinds.Token token) text_is from_is (inr (refl, which is.0)),
  (
    spelled_at text (front ++ token ∷ []) tail next (from + 1) mode kinds.Tail (text_is ∙ sym (append_assoc front (token ∷ []) (tail ++ next))) (omega (arith, from_is, length-append front (token ∷ []))) (inr tt),
    tt,
  ),
)
  where
    which : {A B C : Type 0} → (A × B) ⊎ C → A ⊎ C
    which (inl both) = inl both.0
    which (inr c) = inr c

cut_spelled : (text front rest last_rest : List ℕ) (from : ℕ) (mode last : Mode) (pieces : List Piece) → text ≡ front ++ rest → from ≡ length front → Cuts mode rest pieces last last_rest → AllByRecursion (IsSpelled text) (symbols_of from mode pieces)
cut_spelled text front rest last_rest from mode last [] text_is from_is cut = tt
cut_spelled text front rest last_rest from mode last (piece ∷ pieces) text_is from_is cut =
    let here : text ≡ front ++ (bytes_of piece ++ cut.0) = text_is ∙ ap (λ l. front ++ l) cut.1.0 in
    all_joined (IsSpelled text) (piece_symbols from mode piece) _ (piece_spelled text front cut.0 from mode piece here from_is cut.1.1)
    (cut_spelled text (front ++ bytes_of piece) cut.0 last_rest (from + length (bytes_of piece)) (mode_after mode piece) last pieces (here ∙ sym (append_assoc front (bytes_of piece) cut.0)) (omega (arith, from_is, length-append front (bytes_of piece))) cut.2)

-- the symbols of a text are spelled as their kinds are
pub texts_spelled : (asm asm_after : Bool) (text : List ℕ) (list : List Sym) → Symbols asm text list asm_after → AllByRecursion (IsSpelled text) list
texts_spelled asm asm_after text list s =
    subst (λ l. AllByRecursion (IsSpelled text) l) (sym s.listed) (cut_spelled text [] text [] 0 (at_line asm) s.last s.pieces refl refl s.cut)
