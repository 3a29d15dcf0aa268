-- The file of a text, or why it has none. This project's own.
use Rattle.std.specs.Prelude.{◌≡◌, ◌≢◌, ℕ, ◌+◌, ◌<◌, ◌≤◌, false, not, List, [], ◌∷◌, ◌++◌, length, take, drop, filter, Some}
use Rattle.bv_base.specs.Limits.{longest_text, line_numbers, crunched_file_bytes}
use Rattle.bv_num.specs.Value.{after_spaces, front_digits, front_value}
use Rattle.token_file.specs.declared.line.Line.{Line}
use Rattle.token_file.specs.Lines.{file_of}
use Rattle.basv_crunch.specs.declared.part.Part.{Part}
use Rattle.basv_crunch.specs.declared.part.Place.{Place}
use Rattle.basv_crunch.specs.declared.part.Place.TheVariants as places
use Rattle.basv_crunch.specs.declared.error.CrunchError.{CrunchError}
use Rattle.basv_crunch.specs.declared.error.CrunchError.TheVariants as errors
use Rattle.basv_crunch.specs.Pieces.{pieces, is_blank}
use Rattle.basv_crunch.specs.Parts.{FirstPart, part_bytes, after_part}

-- a text from a place on is these parts, each by the first rule that fits
abbrev pub CutInto : Place → List ℕ → List Part → Type 0
CutInto place text [] = text ≡ []
CutInto place text (part ∷ parts) =
    (text ≢ []) × FirstPart place text (Some part) × CutInto (after_part place part.kind) (drop part.size text) parts

-- the bytes of a text's parts in the file
abbrev pub parts_bytes : List ℕ → List Part → List ℕ
parts_bytes text [] = []
parts_bytes text (part ∷ parts) = part_bytes part.kind (take part.size text) ++ parts_bytes (drop part.size text) parts

-- A body becomes this text of a line.
pub record CrunchesTo (body text : List ℕ) : Type 0 where
  pub parts : List Part
  pub cut : CutInto places.Start body parts
  pub bytes : text ≡ parts_bytes body parts

-- the digits at the front of a piece after its spaces, all that are there
abbrev pub number_digits : List ℕ → List ℕ
number_digits piece = front_digits 10 (after_spaces piece)

-- what follows the number of a piece
abbrev pub body_of : List ℕ → List ℕ
body_of piece = drop (length (number_digits piece)) (after_spaces piece)

-- A piece is this line: spaces, decimal digits of a number that a line can have, and a body that becomes the line's
-- text, which a record can hold.
pub record IsLineOf (piece : List ℕ) (line : Line) : Type 0 where
  pub numbered : length (number_digits piece) ≢ 0
  pub number : line.number ≡ front_value 10 (after_spaces piece)
  pub low : line.number < line_numbers
  pub body : CrunchesTo (body_of piece) line.text
  pub short : length line.text ≤ longest_text

-- these pieces are these lines, one by one
abbrev pub AreLines : List (List ℕ) → List Line → Type 0
AreLines [] [] = Unit {0}
AreLines (piece ∷ more) (line ∷ lines) = IsLineOf piece line × AreLines more lines
AreLines [] (line ∷ lines) = ⊥
AreLines (piece ∷ more) [] = ⊥

-- the pieces that aren't blank
abbrev pub kept_pieces : List (List ℕ) → List (List ℕ)
kept_pieces all = filter (λ piece. not (is_blank piece)) all

-- the text is these lines
abbrev pub IsText : List ℕ → List Line → Type 0
IsText text lines = AreLines (kept_pieces (pieces text)) lines

-- The file of a text: that of its lines, where it isn't too long.
pub record IsFileOf (text file : List ℕ) : Type 0 where
  pub lines : List Line
  pub is_text : IsText text lines
  pub exact : file ≡ file_of lines
  pub short : length file ≤ crunched_file_bytes

-- The first bad piece of a text, counted from 1 with the blank ones: each before it is blank or a line, and it is
-- neither.
pub record IsBadText (text : List ℕ) (place : ℕ) : Type 0 where
  pub before : List (List ℕ)
  pub piece : List ℕ
  pub after : List (List ℕ)
  pub lines : List Line
  pub split : pieces text ≡ before ++ piece ∷ after
  pub good : AreLines (kept_pieces before) lines
  pub some : is_blank piece ≡ false
  pub bad : (line : Line) → IsLineOf piece line → ⊥
  pub counted : place ≡ length before + 1

-- The text is lines whose file is too long.
pub record IsTooLong (text : List ℕ) : Type 0 where
  pub lines : List Line
  pub is_text : IsText text lines
  pub long : crunched_file_bytes < length (file_of lines)

-- when each error comes: running out of memory is free
abbrev pub ExplainsCrunch : List ℕ → CrunchError → Type 0
ExplainsCrunch text (errors.BadText line) = IsBadText text line
ExplainsCrunch text errors.TooLong = IsTooLong text
ExplainsCrunch text errors.NoMemory = Unit {0}

-- A text has one file at most, one first bad piece at most, or is too long, and never two of these.
pub record OneAnswer (text : List ℕ) : Type 0 where
  pub one_file : (a b : List ℕ) → IsFileOf text a → IsFileOf text b → a ≡ b
  pub one_bad : (a b : ℕ) → IsBadText text a → IsBadText text b → a ≡ b
  pub file_or_bad : (file : List ℕ) (place : ℕ) → IsFileOf text file → IsBadText text place → ⊥
  pub file_or_long : (file : List ℕ) → IsFileOf text file → IsTooLong text → ⊥
  pub bad_or_long : (place : ℕ) → IsBadText text place → IsTooLong text → ⊥
