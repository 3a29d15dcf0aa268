-- What the statements of output write, and the column after it (BBC BASIC Reference Manual: PRINT, COUNT, VDU, MODE, COLOUR,
-- CLS). That the column is counted modulo 65,536, and that a new line is the bytes 10 and 13, is this project's own.
use Rattle.std.specs.Prelude.{ℕ, ◌+◌, ◌-◌, ◌/◌, ◌%◌, ℤ, Bool, true, false, List, [], ◌∷◌, ◌++◌, length, replicate, nat_le, codes, if◌then◌else◌}
use Rattle.bas_ast.specs.declared.expressions.NumberFormat.{NumberFormat}
use Rattle.bas_ast.specs.declared.expressions.NumberFormat.TheVariants.{Decimal, Hexadecimal}
use Rattle.bv_num.specs.Bits.{pattern}
use Rattle.bv_num.specs.Digits.{decimal_digits, decimal_text, hex_digits}

-- A part of the output: what a statement writes at once.
pub data Part : Type 0 where
  -- PRINT: a number, right-justified in ten columns or unpadded
  Number : (padded : Bool) (format : NumberFormat) (value : ℤ) → Part
  -- PRINT: the bytes of a string
  Text : (text : List ℕ) → Part
  -- PRINT: a comma
  Field : Part
  -- PRINT: `'`, and the end
  NewLine : Part
  -- PRINT: SPC
  Spaces : (amount : ℤ) → Part
  -- PRINT: TAB
  Tab : (column : ℤ) → Part
  -- VDU: a number, and one with `;` after it
  Byte : (value : ℤ) → Part
  Word : (value : ℤ) → Part
  Mode : (number : ℤ) → Part
  Colour : (number : ℤ) → Part
  -- CLS
  Clear : Part
  -- the end of a run by an error that no handler takes, at a line
  Closing : (text : List ℕ) (line : ℕ) → Part

-- the low byte of a number's 32 bits, and the byte above it
abbrev pub low_byte : ℤ → ℕ
low_byte z = pattern z % 256

-- the byte above the low one
abbrev pub second_byte : ℤ → ℕ
second_byte z = pattern z / 256 % 256

-- the bytes of a new line
abbrev pub new_line : List ℕ
new_line = 10 ∷ 13 ∷ []

-- n spaces
abbrev pub spaces : ℕ → List ℕ
spaces n = replicate n 32

-- a number's text: after `~` the hexadecimal digits of its 32 bits
abbrev pub number_text : NumberFormat → ℤ → List ℕ
number_text Decimal value = decimal_text value
number_text Hexadecimal value = hex_digits (pattern value)

-- right-justified in ten columns, or as it is
abbrev pub justified : Bool → List ℕ → List ℕ
justified true text = spaces (10 - length text) ++ text
justified false text = text

-- the number of spaces from a column to the next multiple of ten, which may be the column itself
abbrev pub to_field : ℕ → ℕ
to_field column = (10 - column % 10) % 10

-- what leads to a column: spaces, after a new line where the output is past it
abbrev pub to_column : ℕ → ℕ → List ℕ
to_column wanted column = if nat_le column wanted then spaces (wanted - column) else new_line ++ spaces wanted

-- the bytes of a part that is written at a column
abbrev pub part_bytes : Part → ℕ → List ℕ
part_bytes (Number padded format value) column = justified padded (number_text format value)
part_bytes (Text text) column = text
part_bytes Field column = spaces (to_field column)
part_bytes NewLine column = new_line
part_bytes (Spaces amount) column = spaces (low_byte amount)
part_bytes (Tab wanted) column = to_column (low_byte wanted) column
part_bytes (Byte value) column = low_byte value ∷ []
part_bytes (Word value) column = low_byte value ∷ second_byte value ∷ []
part_bytes (Mode number) column = 22 ∷ low_byte number ∷ []
part_bytes (Colour number) column = 17 ∷ low_byte number ∷ []
part_bytes Clear column = 12 ∷ []
part_bytes (Closing text line) column = new_line ++ text ++ codes " at line " ++ decimal_digits line ++ new_line

-- the column after n more bytes
abbrev pub advanced : ℕ → ℕ → ℕ
advanced n column = (column + n) % 65536

-- the column after a part that is written at a column: PRINT's bytes count, those of VDU and COLOUR don't, and a new line,
-- CLS and MODE set it to 0
abbrev pub column_after : Part → ℕ → ℕ
column_after (Number padded format value) column = advanced (length (justified padded (number_text format value))) column
column_after (Text text) column = advanced (length text) column
column_after Field column = advanced (to_field column) column
column_after NewLine column = 0
column_after (Spaces amount) column = advanced (low_byte amount) column
column_after (Tab wanted) column = low_byte wanted
column_after (Byte value) column = column
column_after (Word value) column = column
column_after (Mode number) column = 0
column_after (Colour number) column = column
column_after Clear column = 0
column_after (Closing text line) column = 0

-- the bytes of parts that are written one after another
abbrev pub parts_bytes : List Part → ℕ → List ℕ
parts_bytes [] column = []
parts_bytes (p ∷ ps) column = part_bytes p column ++ parts_bytes ps (column_after p column)

-- and the column after them all
abbrev pub column_after_parts : List Part → ℕ → ℕ
column_after_parts [] column = column
column_after_parts (p ∷ ps) column = column_after_parts ps (column_after p column)
