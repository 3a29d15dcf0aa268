-- What the making of a file's lines answers, piece by piece.
use Rattle.std.specs.Prelude.{◌≡◌, ℕ, ◌<◌, false, List, [], ◌∷◌, ◌++◌, length}
use Rattle.bv_base.specs.Limits.{crunched_file_bytes}
use Rattle.token_file.specs.declared.line.Line.{Line}
use Rattle.token_file.specs.Lines.{file_of}
use Rattle.basv_crunch.specs.declared.error.CrunchError.{CrunchError}
use Rattle.basv_crunch.specs.declared.error.CrunchError.TheVariants as errors
use Rattle.basv_crunch.specs.Pieces.{is_blank}
use Rattle.basv_crunch.specs.Crunched.{IsLineOf, AreLines, kept_pieces}

-- The line of a piece was added, or none for a blank one.
pub record AddsPiece (piece : List ℕ) (lines lines' : List Line) : Type 0 where
  pub added : List Line
  pub are_lines : AreLines (kept_pieces (piece ∷ [])) added
  pub whole : lines' ≡ lines ++ added

-- why no line was added: running out of memory is free
abbrev pub IsBadPiece : List ℕ → ℕ → CrunchError → Type 0
IsBadPiece piece number (errors.BadText line) = (line ≡ number) × (is_blank piece ≡ false) × ((other : Line) → IsLineOf piece other → ⊥)
IsBadPiece piece number errors.TooLong = ⊥
IsBadPiece piece number errors.NoMemory = Unit {0}

-- why these lines have no file
abbrev pub IsFinished : List Line → CrunchError → Type 0
IsFinished lines (errors.BadText line) = ⊥
IsFinished lines errors.TooLong = crunched_file_bytes < length (file_of lines)
IsFinished lines errors.NoMemory = Unit {0}
