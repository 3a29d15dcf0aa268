-- The records of a tokenised BASIC V file, as Acorn's interpreter keeps a program: a line is the byte 13, its number
-- with the high byte first, the record's length, and its text; 13 and 255 end the program.
use Rattle.std.specs.Prelude.{◌≡◌, ◌≢◌, ◌⊎◌, ℕ, ◌+◌, ◌/◌, ◌%◌, ◌<◌, ◌≤◌, List, [], ◌∷◌, ◌++◌, length, flat_map}
use Rattle.std.specs.List.{AllByRecursion}
use Rattle.token_file.specs.declared.line.Line.{Line}
use Rattle.bv_base.specs.Limits.{longest_text, line_numbers}

-- the byte that begins each record, and the program's end
abbrev pub record_start : ℕ
record_start = 13

-- the byte after it at the program's end
abbrev pub end_mark : ℕ
end_mark = 255

-- the bytes of a record before its text
abbrev pub head_bytes : ℕ
head_bytes = 4

-- the bytes of a line: the byte that begins a record, the number with its high byte first, the length of the head and
-- the text together, the text
abbrev pub record_of : Line → List ℕ
record_of line = record_start ∷ (line.number / 256) ∷ (line.number % 256) ∷ (length line.text + head_bytes) ∷ line.text

-- What can be a line: the number's high byte isn't the end's mark, the length is a byte, and the text has no byte that
-- begins a record.
pub record IsLine (line : Line) : Type 0 where
  pub number : line.number < line_numbers
  pub short : length line.text ≤ longest_text
  pub text : AllByRecursion (λ b. b ≢ record_start) line.text

-- A file of these lines: their records, then the end, then anything.
abbrev pub Lines : List ℕ → List Line → Type 0
Lines bytes [] = (rest : List ℕ) × (bytes ≡ record_start ∷ end_mark ∷ rest)
Lines bytes (line ∷ lines) = (rest : List ℕ) × IsLine line × (bytes ≡ record_of line ++ rest) × Lines rest lines

-- a whole record is at the front
abbrev pub BeginsRecord : List ℕ → Type 0
BeginsRecord bytes = (line : Line) × (rest : List ℕ) × IsLine line × (bytes ≡ record_of line ++ rest)

-- the end of the program is at the front
abbrev pub BeginsEnd : List ℕ → Type 0
BeginsEnd bytes = (rest : List ℕ) × (bytes ≡ record_start ∷ end_mark ∷ rest)

-- Whole records fill the bytes up to a place, and neither a whole record nor the end is there.
pub record Malformed (bytes : List ℕ) (place : ℕ) : Type 0 where
  pub lines : List Line
  pub rest : List ℕ
  pub each : AllByRecursion IsLine lines
  pub whole : bytes ≡ flat_map record_of lines ++ rest
  pub at : length (flat_map record_of lines) ≡ place
  pub no_record : BeginsRecord rest → ⊥
  pub no_end : BeginsEnd rest → ⊥

-- the bytes of a file of these lines, with nothing after the end
abbrev pub file_of : List Line → List ℕ
file_of lines = flat_map record_of lines ++ record_start ∷ end_mark ∷ []

-- A file has these lines and no others, and is malformed nowhere.
pub record HasOneReading (bytes : List ℕ) (lines : List Line) : Type 0 where
  pub only : (other : List Line) → Lines bytes other → other ≡ lines
  pub nowhere : (place : ℕ) → Malformed bytes place → ⊥

-- Every file has one list of lines, or is malformed at one place, and never both.
pub record OneReading (bytes : List ℕ) : Type 0 where
  pub read_or_malformed : ((lines : List Line) × Lines bytes lines) ⊎ ((place : ℕ) × Malformed bytes place)
  pub read_once : (a b : List Line) → Lines bytes a → Lines bytes b → a ≡ b
  pub malformed_once : (a b : ℕ) → Malformed bytes a → Malformed bytes b → a ≡ b
  pub never_both : (lines : List Line) (place : ℕ) → Lines bytes lines → Malformed bytes place → ⊥
