-- What the listing of a text's file is: the text in normal form. This project's own.
use Rattle.std.specs.Prelude.{◌≡◌, ℕ, List, [], ◌∷◌, ◌++◌, decimal, flat_map}
use Rattle.bv_num.specs.Value.{after_spaces, front_value}
use Rattle.token_file.specs.declared.line.Line.{Line}
use Rattle.token_file.specs.Lines.{Lines, HasOneReading}
use Rattle.lister.specs.Listing.{justified}
use Rattle.lister.specs.Listings.{listings}
use Rattle.basv_crunch.specs.Pieces.{pieces}
use Rattle.basv_crunch.specs.Crunched.{body_of, kept_pieces, IsText, IsFileOf}

-- a piece in normal form: its number at the right of five columns, its body, and a new line
abbrev pub normal_line : List ℕ → List ℕ
normal_line piece = justified 5 (decimal (front_value 10 (after_spaces piece))) ++ body_of piece ++ 10 ∷ []

-- a text in normal form: its pieces but for the blank ones
abbrev pub normal_form : List ℕ → List ℕ
normal_form text = flat_map normal_line (kept_pieces (pieces text))

-- The file reads back as the lines of the text and in no other way. Their listing is the text in normal form, whose
-- file is this one again, and no other.
pub record ReadsBack (text file : List ℕ) : Type 0 where
  pub lines : List Line
  pub is_text : IsText text lines
  pub read : Lines file lines
  pub once : HasOneReading file lines
  pub listing : listings lines ≡ normal_form text
  pub again : IsFileOf (listings lines) file
  pub again_only : (other : List ℕ) → IsFileOf (listings lines) other → other ≡ file
