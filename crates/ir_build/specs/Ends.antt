-- The table of where the structures of items end, as it is made from the last item of a program to the first. This project's own.
use Rattle.std.specs.Prelude.{◌≡◌, ℕ, ◌+◌, List, [], ◌∷◌, Bool, length, reverse, slice_index_or, if◌then◌else◌}
use Rattle.bas_ast.specs.declared.lines.Item.{Item}
use Rattle.bas_ast.specs.declared.program.Prog.{Prog}
use Rattle.bas_ast.specs.Structures.{Family, while_family, if_family, case_family, ends_if, bound}
use Rattle.bas_sem.specs.Places.{Row, rows, end_among, ends_search, end_of}
use Rattle.ir_build.specs.declared.ends.Ends.{Ends}
use Rattle.ir_build.specs.declared.ends.Role.{Role}
use Rattle.ir_build.specs.declared.ends.Role.TheVariants.{Opens, Closes, Divides, Neither}

-- A kind of ends: the family of structures that they stand in, and which items are such ends.
pub record Kind : Type 0 where
  pub family : Family
  pub is_end : Item → Bool

-- the ends that a WHILE, a block IF, its ELSE, a CASE, and a WHEN or OTHERWISE look for
abbrev pub from_while : Kind
from_while = record { family = while_family; is_end = (λ x. while_family.closes (bound x)) }

abbrev pub from_if : Kind
from_if = record { family = if_family; is_end = (λ x. ends_if (bound x)) }

abbrev pub from_else : Kind
from_else = record { family = if_family; is_end = (λ x. if_family.closes (bound x)) }

abbrev pub from_case : Kind
from_case = record { family = case_family; is_end = ends_search }

abbrev pub from_when : Kind
from_when = record { family = case_family; is_end = (λ x. case_family.closes (bound x)) }

-- what an item is to ends of a kind, by whether it opens a structure, closes one, and is an end
abbrev pub role_by : (opens closes ends : Bool) → Role
role_by opens closes ends = if opens then Opens else if closes then Closes else if ends then Divides else Neither

abbrev pub role_of : Kind → Item → Role
role_of kind x = role_by (kind.family.opens (bound x)) (kind.family.closes (bound x)) (kind.is_end x)

-- without the first of these places
abbrev pub without_first : List ℕ → List ℕ
without_first [] = []
without_first (place ∷ places) = places

-- The places after the ends that structures before an item have, the innermost structure's first: by those that structures before
-- what follows the item have. What closes a structure is the end of one more. What only divides one stands in place of the end that
-- comes later.
abbrev pub unmatched_before : Role → (after : ℕ) → List ℕ → List ℕ
unmatched_before Opens after places = without_first places
unmatched_before Closes after places = after ∷ places
unmatched_before Divides after places = after ∷ without_first places
unmatched_before Neither after places = places

-- for each of these rows, which begin at a place, the place after what its structure leads to
abbrev pub ends_of : List Row → ℕ → List ℕ
ends_of [] place = []
ends_of (row ∷ rest) place = end_of (bound row.item) rest (place + 1) ∷ ends_of rest (place + 1)

-- These are the places after the ends of a kind among these rows, which begin at a place, that structures before them have, the
-- innermost structure's last; where there is none, the end is after all of the program's items.
abbrev pub AreUnmatched : Kind → (places : List ℕ) (total : ℕ) → List Row → ℕ → Type 0
AreUnmatched kind places total rows place =
    (depth : ℕ) → end_among kind.family kind.is_end depth rows place ≡ slice_index_or (reverse places) depth total

-- What the table has once these rows, which begin at a place, are added.
pub record AreEnds (table : Ends) (rows : List Row) (place : ℕ) : Type 0 where
  pub from_while : AreUnmatched from_while table.from_while table.total rows place
  pub from_if : AreUnmatched from_if table.from_if table.total rows place
  pub from_else : AreUnmatched from_else table.from_else table.total rows place
  pub from_case : AreUnmatched from_case table.from_case table.total rows place
  pub from_when : AreUnmatched from_when table.from_when table.total rows place
  pub ends : reverse table.ends ≡ ends_of rows place
  pub total : place + length rows ≡ table.total

-- the table of a whole program
abbrev pub AreEndsOf : Ends → Prog → Type 0
AreEndsOf table prog = AreEnds table (rows prog) 0
