-- The places of a program: its items are numbered from 0, over all lines in the order of the file. This project's own.
use Rattle.std.specs.Prelude.{ℕ, Bool, true, false, zero, suc, ◌+◌, ◌-◌, ◌==◌, ◌&&◌, List, [], ◌∷◌, Option, None, Some, map, flat_map, length, drop, nat_lt, slice_get, if◌then◌else◌}
use Rattle.bas_ast.specs.declared.expressions.Any.{Any}
use Rattle.bas_ast.specs.declared.lines.Head.TheVariants as head
use Rattle.bas_ast.specs.declared.lines.Item.{Item}
use Rattle.bas_ast.specs.declared.lines.Item.TheVariants as item
use Rattle.bas_ast.specs.declared.program.Prog.{Prog}
use Rattle.bas_ast.specs.declared.program.ProgLine.{ProgLine}
use Rattle.bas_ast.specs.Structures.{Bound, OpensWhile, OpensIf, DividesIf, OpensCase, DividesCase, Family, while_family, if_family, case_family, ends_if, bound}

-- an item, with the number of its line
pub record Row : Type 0 where
  pub line : ℕ
  pub item : Item

-- the items of a program in the order of the file
abbrev pub rows : Prog → List Row
rows prog = flat_map (λ line. map (λ item. record { line = line.number; item = item }) line.items) prog.lines

-- the item at a place, if there is one
abbrev pub row_at : Prog → ℕ → Option Row
row_at prog place = slice_get (rows prog) place

-- the items of a line after the one at a place
abbrev pub rest_among : List ProgLine → ℕ → List Item
rest_among [] place = []
rest_among (line ∷ lines) place = if nat_lt place (length line.items) then drop (place + 1) line.items else rest_among lines (place - length line.items)

-- the items of its line after a place
abbrev pub rest_of_line : Prog → ℕ → List Item
rest_of_line prog place = rest_among prog.lines place

-- the place of the line after the one in which a place is
abbrev pub next_line : Prog → ℕ → ℕ
next_line prog place = place + 1 + length (rest_of_line prog place)

-- the place after the first ELSE among these items, which begin at a place; or after them all, where there is none
abbrev pub after_else : List Item → ℕ → ℕ
after_else [] place = place
after_else (item.Else ∷ items) place = place + 1
after_else (_ ∷ items) place = after_else items (place + 1)

-- where an IF at a place goes on with 0: after the first ELSE after it on its line, or else at the next line
abbrev pub else_place : Prog → ℕ → ℕ
else_place prog place = after_else (rest_of_line prog place) (place + 1)

-- the place after the first ELSE among these items, which begin at a place, if there is one
abbrev pub found_else : List Item → ℕ → Option ℕ
found_else [] place = None
found_else (item.Else ∷ items) place = Some (place + 1)
found_else (_ ∷ items) place = found_else items (place + 1)

-- where ON goes on whose number has no line: after the first ELSE after it on its line, if there is one
abbrev pub on_else : Prog → ℕ → Option ℕ
on_else prog place = found_else (rest_of_line prog place) (place + 1)

-- ---- structures over lines

-- how many structures of a family are open after an item, by how many are before it
abbrev pub depth_after : Family → Bound → ℕ → ℕ
depth_after family b depth = if family.opens b then suc depth else if family.closes b then depth - 1 else depth

-- The place after the first of these rows, which begin at a place, that is an end and stands within none of the family's structures,
-- of which this number are open before them; or the place after them all, where there is none.
abbrev pub end_among : Family → (Item → Bool) → ℕ → List Row → ℕ → ℕ
end_among family is_end depth [] place = place
end_among family is_end depth (row ∷ rest) place =
    if depth == 0 && is_end row.item then place + 1 else end_among family is_end (depth_after family (bound row.item) depth) rest (place + 1)

-- what ends the search of a CASE for its value
abbrev pub ends_search : Item → Bool
ends_search (item.Head head.Otherwise) = true
ends_search (item.Head head.EndCase) = true
ends_search _ = false

-- The place after what an item's structure leads to, among the rows after the item, which begin at a place: from WHILE its ENDWHILE,
-- from a block IF its ELSE or ENDIF, from its ELSE its ENDIF, from CASE its OTHERWISE or ENDCASE, from WHEN and OTHERWISE their ENDCASE.
abbrev pub end_of : Bound → List Row → ℕ → ℕ
end_of OpensWhile rest place = end_among while_family (λ x. while_family.closes (bound x)) 0 rest place
end_of OpensIf rest place = end_among if_family (λ x. ends_if (bound x)) 0 rest place
end_of DividesIf rest place = end_among if_family (λ x. if_family.closes (bound x)) 0 rest place
end_of OpensCase rest place = end_among case_family ends_search 0 rest place
end_of DividesCase rest place = end_among case_family (λ x. case_family.closes (bound x)) 0 rest place
end_of _ rest place = place

-- the place after what the structure of an item at a place leads to
abbrev pub after_end : Prog → Bound → ℕ → ℕ
after_end prog b place = end_of b (drop (place + 1) (rows prog)) (place + 1)

-- A WHEN of a CASE: its line, its values, and the place after it.
pub record Branch : Type 0 where
  pub line : ℕ
  pub values : List Any
  pub after : ℕ

-- What an item is to a CASE before it, within which this number of others are open: one of its WHENs, the end of its search, or neither.
pub data Division : Type 0 where
  Divides : (values : List Any) → Division
  Ends : Division
  Neither : Division

abbrev pub division : ℕ → Item → Division
division zero (item.Head (head.When values)) = Divides values
division zero (item.Head head.Otherwise) = Ends
division zero (item.Head head.EndCase) = Ends
division depth x = Neither

-- the WHENs from an item of a line on, which has this place after it, by those after it
abbrev pub with_division : Division → (line after : ℕ) → List Branch → List Branch
with_division (Divides values) line after later = record { line = line; values = values; after = after } ∷ later
with_division Ends line after later = []
with_division Neither line after later = later

-- the WHENs of a CASE before these rows, which begin at a place, within which this number of others are open
abbrev pub branches_among : ℕ → List Row → ℕ → List Branch
branches_among depth [] place = []
branches_among depth (row ∷ rest) place =
    with_division (division depth row.item) row.line (place + 1) (branches_among (depth_after case_family (bound row.item) depth) rest (place + 1))

-- the WHENs that a CASE at a place looks at, in the order of the file: its own, up to its OTHERWISE or ENDCASE
abbrev pub branches_of : Prog → ℕ → List Branch
branches_of prog place = branches_among 0 (drop (place + 1) (rows prog)) (place + 1)

-- ---- lines

-- the place of the first line of a number among these, which begin at a place
abbrev pub line_among : List ProgLine → ℕ → ℕ → Option ℕ
line_among [] number place = None
line_among (line ∷ lines) number place = if line.number == number then Some place else line_among lines number (place + length line.items)

-- the place of the first line of a number, if the program has one
abbrev pub line_place : Prog → ℕ → Option ℕ
line_place prog number = line_among prog.lines number 0

-- the first line of a number among these, which begin at a place among the lines
abbrev pub number_among : List ProgLine → ℕ → ℕ → Option ℕ
number_among [] number at = None
number_among (line ∷ lines) number at = if line.number == number then Some at else number_among lines number (at + 1)

-- the place among the lines of the first line of a number, if the program has one
abbrev pub line_of_number : Prog → ℕ → Option ℕ
line_of_number prog number = number_among prog.lines number 0
