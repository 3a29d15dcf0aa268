-- What the reader takes from the front of a text.
use Rattle.std.specs.Prelude.{◌≡◌, ◌⊎◌, ℕ, Bool, false, List, ◌∷◌, ◌++◌}
use Rattle.bv_token.specs.declared.tokens.TheConstants.{REM, DATA}
use Rattle.bas_lex.specs.declared.scan.Next.{Next}
use Rattle.bas_lex.specs.declared.scan.Next.TheVariants as nexts
use Rattle.bas_lex.specs.declared.symbol.LexError.{LexError}
use Rattle.bas_lex.specs.declared.symbol.LexError.TheVariants as errors
use Rattle.bas_lex.specs.declared.symbol.Mode.{Mode}
use Rattle.bas_lex.specs.declared.symbol.Sym.{Sym}
use Rattle.bas_lex.specs.Bytes.{space}
use Rattle.bas_lex.specs.Kinds.{IsSymbol}
use Rattle.bas_lex.specs.Cut.{Longest, Piece, AtComment, NoPiece, Fits, mode_after, piece_symbols}

-- what comes first in a text
abbrev pub IsNext : Bool → List ℕ → Next → Type 0
IsNext asm text (nexts.Space after) = text ≡ space ∷ after.now
IsNext asm text nexts.Comment = AtComment asm text
IsNext asm text (nexts.Tailed token tail) = (text ≡ token ∷ tail.now) × (((token ≡ REM) × (asm ≡ false)) ⊎ (token ≡ DATA))
IsNext asm text (nexts.Symbol front) = (AtComment asm text → ⊥) × Longest (IsSymbol asm) text front.kind front.size
IsNext asm text nexts.Nothing = NoPiece asm text

-- A piece was taken from a place of the text: its symbols were added, and the text is read on after it.
pub record TakesPiece (at : ℕ) (text : List ℕ) (mode : Mode) (list : List Sym) (rest : List ℕ) (mode' : Mode) (list' : List Sym) : Type 0 where
  pub piece : Piece
  pub fits : Fits mode.asm piece text rest
  pub mode_is : mode' ≡ mode_after mode piece
  pub added : list' ≡ list ++ piece_symbols at mode piece

-- when no piece was taken: running out of memory is free
abbrev pub ExplainsPiece : ℕ → Mode → List ℕ → LexError → Type 0
ExplainsPiece at mode text (errors.Bad place) = (place ≡ at) × NoPiece mode.asm text
ExplainsPiece at mode text errors.NoMemory = Unit {0}
