-- The variables of a program, and where each of them is kept (BBC BASIC Reference Manual, resident integer variables).
use Rattle.std.specs.Prelude.{ℕ, Bool, false, ◌-◌, ◌==◌, ◌&&◌, ℤ, List, [], ◌∷◌, Option, None, Some, nat_le, slice_get, if◌then◌else◌}
use Rattle.bas_ast.specs.declared.program.Name.{Name}
use Rattle.bas_ast.specs.declared.targets.SimpleVariable.{SimpleVariable}
use Rattle.bas_ast.specs.declared.targets.SimpleVariable.TheVariants as simple

-- A value: a number, or the bytes of a string.
pub data Value : Type 0 where
  Number : (value : ℤ) → Value
  Text : (text : List ℕ) → Value

-- The cell of an integer: a resident, or that of the name at a place among the program's names.
pub data Cell : Type 0 where
  Resident : (index : ℕ) → Cell
  Integer : (name : ℕ) → Cell

-- Where a simple variable is kept: an integer's cell, or the string of the name at a place.
pub data Slot : Type 0 where
  OfNumber : (cell : Cell) → Slot
  OfText : (name : ℕ) → Slot

-- whether two cells are the same one
abbrev pub same_cell : Cell → Cell → Bool
same_cell (Resident a) (Resident b) = a == b
same_cell (Integer a) (Integer b) = a == b
same_cell _ _ = false

-- the number of resident integers: A% to Z%, and then @%
abbrev pub residents : ℕ
residents = 27

-- the place among the residents of the name of two bytes, if it is one of them
abbrev pub resident_of_two : ℕ → ℕ → Option ℕ
resident_of_two first suffix =
    if (nat_le 65 first && nat_le first 90) && (suffix == 37) then Some (first - 65)
    else if (first == 64) && (suffix == 37) then Some 26
    else None

-- the place of a name among the residents
abbrev pub resident_of : List ℕ → Option ℕ
resident_of (first ∷ suffix ∷ []) = resident_of_two first suffix
resident_of _ = None

-- the cell of an integer with the name at a place, which may be a resident
abbrev pub cell_by : Option ℕ → ℕ → Cell
cell_by None name = Integer name
cell_by (Some index) name = Resident index

-- the bytes of a name that may be there
abbrev pub text_of_name : Option Name → List ℕ
text_of_name None = []
text_of_name (Some name) = name.text

-- the cell of the integer with the name at a place
abbrev pub integer_cell : List Name → ℕ → Cell
integer_cell names name = cell_by (resident_of (text_of_name (slice_get names name))) name

-- where a variable is kept
abbrev pub slot_of : List Name → SimpleVariable → Slot
slot_of names (simple.Number name) = OfNumber (integer_cell names name)
slot_of names (simple.Text name) = OfText name
