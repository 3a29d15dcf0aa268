-- A cell of a resident is one of the residents.
use Rattle.std.proofs.Common.{◌≡◌, ℕ, ◌-◌, ◌<◌, List, [], ◌∷◌, Option, None, Some, refl, arith}
use Rattle.std.specs.Prelude.{Bool, true, false, ◌&&◌, ◌==◌, nat_le, slice_get, if◌then◌else◌}
use Rattle.std.proofs.lemmas.Bool.{leb-true}
use Rattle.bas_ast.specs.declared.program.Name.{Name}
use Rattle.bas_store.specs.Cells.{Cell, Resident, Integer, residents, resident_of, cell_by, text_of_name, integer_cell}

-- a place that may be there is one of a resident
abbrev IsOne : Option ℕ → Type 0
IsOne None = Unit {0}
IsOne (Some index) = index < residents

one_of : (low high percent sign : Bool) (first : ℕ) → nat_le first 90 ≡ high
    → IsOne (if (low && high) && percent then Some (first - 65) else if sign && percent then Some 26 else None)
one_of true true true sign first is = omega (arith, leb-true first 90 is)
one_of true true false true first is = tt
one_of true true false false first is = tt
one_of true false true true first is = omega arith
one_of true false true false first is = tt
one_of true false false true first is = tt
one_of true false false false first is = tt
one_of false high true true first is = omega arith
one_of false high true false first is = tt
one_of false high false true first is = tt
one_of false high false false first is = tt

resident_one : (text : List ℕ) → IsOne (resident_of text)
resident_one [] = tt
resident_one (first ∷ []) = tt
resident_one (first ∷ suffix ∷ []) = one_of (nat_le 65 first) (nat_le first 90) (suffix == 37) (first == 64) first refl
resident_one (first ∷ suffix ∷ third ∷ text) = tt

-- a cell that is a resident's
abbrev pub IsOneCell : Cell → Type 0
IsOneCell (Resident index) = index < residents
IsOneCell (Integer name) = Unit {0}

cell_one : (resident : Option ℕ) (name : ℕ) → IsOne resident → IsOneCell (cell_by resident name)
cell_one None name is = tt
cell_one (Some index) name is = is

pub integer_one : (names : List Name) (name : ℕ) → IsOneCell (integer_cell names name)
integer_one names name = cell_one (resident_of (text_of_name (slice_get names name))) name (resident_one (text_of_name (slice_get names name)))
