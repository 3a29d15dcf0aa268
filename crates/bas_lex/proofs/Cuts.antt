-- Cuts of a text, piece by piece.
use Rattle.std.proofs.Common.{◌≡◌, ◌≢◌, ℕ, ◌+◌, ◌≤◌, ◌<◌, Bool, List, [], ◌∷◌, ◌++◌, length, refl, sym, ap, subst, ◌∙◌, arith, append_assoc, append-nil, length-append}
use Rattle.std.proofs.lemmas.List.{nil_from_length}
use Rattle.bas_lex.specs.declared.symbol.LexError.{LexError}
use Rattle.bas_lex.specs.declared.symbol.LexError.TheVariants as errors
use Rattle.bas_lex.specs.declared.symbol.Mode.{Mode}
use Rattle.bas_lex.specs.declared.symbol.Sym.{Sym}
use Rattle.bas_lex.specs.Cut.{Piece, bytes_of, Fits, mode_after, at_line, Cuts, piece_symbols, symbols_of, Symbols, Bad, Explains, NoPiece}
use Rattle.bas_lex.specs.Next.{TakesPiece, ExplainsPiece}
use Rattle.bas_lex.proofs.Pieces.{piece_shortens}

-- one piece more
cuts_more : (mode last : Mode) (text rest next : List ℕ) (pieces : List Piece) (piece : Piece) → Cuts mode text pieces last rest → Fits last.asm piece rest next → Cuts mode text (pieces ++ piece ∷ []) (mode_after last piece) next
cuts_more mode last text rest next [] piece cut fits =
    (next, subst (λ (m : Mode). Fits m.asm piece text next) cut.0 (subst (λ t. Fits last.asm piece t next) cut.1 fits), (ap (λ (m : Mode). mode_after m piece) cut.0, refl))
cuts_more mode last text rest next (p ∷ pieces) piece cut fits = (cut.0, cut.1, cuts_more (mode_after mode p) last cut.0 rest next pieces piece cut.2 fits)

pub cuts_within : (mode last : Mode) (text rest : List ℕ) (pieces : List Piece) → Cuts mode text pieces last rest → length rest ≤ length text
cuts_within mode last text rest [] cut = omega (arith, ap length cut.1)
cuts_within mode last text rest (p ∷ pieces) cut =
    let shorter = piece_shortens mode.asm p text cut.0 cut.1 in
    let within = cuts_within (mode_after mode p) last cut.0 rest pieces cut.2 in
    omega (arith, shorter, within)

symbols_more : (from at : ℕ) (mode last : Mode) (text rest : List ℕ) (pieces : List Piece) (piece : Piece) → Cuts mode text pieces last rest → from + length text ≡ at + length rest → symbols_of from mode (pieces ++ piece ∷ []) ≡ symbols_of from mode pieces ++ piece_symbols at last piece
symbols_more from at mode last text rest [] piece cut place =
    let same : from ≡ at = omega (arith, place, ap length cut.1) in
    append-nil (piece_symbols from mode piece) ∙ (λ i. piece_symbols (same i) (sym cut.0 i) piece)
symbols_more from at mode last text rest (p ∷ pieces) piece cut place =
    let others = symbols_more (from + length (bytes_of p)) at (mode_after mode p) last cut.0 rest pieces piece cut.2 (omega (arith, place, ap length cut.1.0, length-append (bytes_of p) cut.0)) in
    ap (λ l. piece_symbols from mode p ++ l) others ∙ sym (append_assoc (piece_symbols from mode p) (symbols_of (from + length (bytes_of p)) (mode_after mode p) pieces) (piece_symbols at last piece))

-- what was cut so far
pub record IsCutSoFar (asm : Bool) (text : List ℕ) (mode : Mode) (rest : List ℕ) (list : List Sym) : Type 0 where
  pub pieces : List Piece
  pub cut : Cuts (at_line asm) text pieces mode rest
  pub listed : list ≡ symbols_of 0 (at_line asm) pieces

pub cut_more : (asm : Bool) (text : List ℕ) (mode mode' : Mode) (rest rest' : List ℕ) (list list' : List Sym) (at : ℕ) → IsCutSoFar asm text mode rest list → at + length rest ≡ length text → TakesPiece at rest mode list rest' mode' list' → IsCutSoFar asm text mode' rest' list'
cut_more asm text mode mode' rest rest' list list' at so_far place taken = record {
  pieces = so_far.pieces ++ taken.piece ∷ [];
  cut = subst (λ m. Cuts (at_line asm) text (so_far.pieces ++ taken.piece ∷ []) m rest') (sym taken.mode_is) (cuts_more (at_line asm) mode text rest rest' so_far.pieces taken.piece so_far.cut taken.fits);
  listed = taken.added ∙ ap (λ l. l ++ piece_symbols at mode taken.piece) so_far.listed
      ∙ sym (symbols_more 0 at (at_line asm) mode text rest so_far.pieces taken.piece so_far.cut (omega (arith, place)));
}

pub all_cut : (asm : Bool) (text : List ℕ) (mode : Mode) (rest : List ℕ) (list list' : List Sym) → IsCutSoFar asm text mode rest list → length rest ≡ 0 → list' ≡ list → Symbols asm text list' mode.asm
all_cut asm text mode rest list list' so_far none list_is = record {
  pieces = so_far.pieces;
  last = mode;
  cut = subst (λ r. Cuts (at_line asm) text so_far.pieces mode r) (nil_from_length rest none) so_far.cut;
  listed = list_is ∙ so_far.listed;
  after = refl;
}

pub is_bad : (asm : Bool) (text : List ℕ) (mode : Mode) (rest : List ℕ) (list : List Sym) (at : ℕ) → IsCutSoFar asm text mode rest list → at + length rest ≡ length text → rest ≢ [] → NoPiece mode.asm rest → Bad asm text at
is_bad asm text mode rest list at so_far place some none = record {
  pieces = so_far.pieces;
  last = mode;
  rest = rest;
  cut = so_far.cut;
  at_is = place;
  some = some;
  none = none;
}

-- why a piece was not taken is why the text has no symbols
pub explains : (asm : Bool) (text : List ℕ) (mode : Mode) (rest : List ℕ) (list : List Sym) (at : ℕ) (error : LexError) → IsCutSoFar asm text mode rest list → at + length rest ≡ length text → 0 < length rest → ExplainsPiece at mode rest error → Explains asm text error
explains asm text mode rest list at (errors.Bad place) so_far place_is some why =
    is_bad asm text mode rest list place so_far (omega (arith, place_is, why.0)) (λ e. omega (arith, some, ap length e)) why.1
explains asm text mode rest list at errors.NoMemory so_far place_is some why = tt
