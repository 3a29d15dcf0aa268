-- Texts between quotation marks, and the items of DATA (BBC BASIC Reference Manual, DATA and READ; what an item's spaces and
-- quotation marks mean is this project's own).
use Rattle.std.specs.Prelude.{ℕ, Bool, true, false, not, ◌&&◌, ◌==◌, List, [], ◌∷◌, if◌then◌else◌}
use Rattle.bas_ast.specs.declared.program.DataItem.{DataItem}

-- the byte of a quotation mark, of a comma and of a space
abbrev pub quotation_mark : ℕ
quotation_mark = 34

abbrev pub comma : ℕ
comma = 44

abbrev pub space : ℕ
space = 32

-- The text from a place between quotation marks to the next one that isn't doubled, or to the end. Two in a row stand for one.
-- It says whether a quotation mark stands directly before, which may be the first of two.
abbrev pub quoted_from : Bool → List ℕ → List ℕ
quoted_from after_mark [] = []
quoted_from false (c ∷ rest) = if c == quotation_mark then quoted_from true rest else c ∷ quoted_from false rest
quoted_from true (c ∷ rest) = if c == quotation_mark then c ∷ quoted_from false rest else []

-- the text of a string between quotation marks
abbrev pub literal_text : List ℕ → List ℕ
literal_text [] = []
literal_text (mark ∷ rest) = quoted_from false rest

-- a byte in front of the first of some pieces
abbrev pub with_first : ℕ → List (List ℕ) → List (List ℕ)
with_first c [] = (c ∷ []) ∷ []
with_first c (piece ∷ pieces) = (c ∷ piece) ∷ pieces

-- The pieces between the commas that are outside quotation marks. Each quotation mark leads inside or outside.
abbrev pub pieces_from : Bool → List ℕ → List (List ℕ)
pieces_from inside [] = [] ∷ []
pieces_from inside (c ∷ rest) =
    if c == comma && not inside then [] ∷ pieces_from inside rest
    else if c == quotation_mark then with_first c (pieces_from (not inside) rest)
    else with_first c (pieces_from inside rest)

-- the bytes after the spaces in front
abbrev pub without_spaces : List ℕ → List ℕ
without_spaces [] = []
without_spaces (c ∷ rest) = if c == space then without_spaces rest else c ∷ rest

-- the text between quotation marks where one stands in front, and else the bytes as they are
abbrev pub unquoted : List ℕ → List ℕ
unquoted [] = []
unquoted (c ∷ rest) = if c == quotation_mark then quoted_from false rest else c ∷ rest

-- The text of an item, from a piece: leading spaces are dropped, and so is what stands after the closing quotation mark.
abbrev pub item_text : List ℕ → List ℕ
item_text piece = unquoted (without_spaces piece)

-- an item of the line at a place
abbrev pub data_item : ℕ → List ℕ → DataItem
data_item line piece = record { line = line; text = item_text piece }
