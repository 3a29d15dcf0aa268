-- The first line of a program that has an item whose structure has no end.
use Rattle.std.specs.Prelude.{ℕ, Bool, true, ◌&&◌, List, [], ◌∷◌, ◌++◌, Option, Some, None, flat_map, if◌then◌else◌}
use Rattle.bas_ast.specs.declared.lines.Item.{Item}
use Rattle.bas_ast.specs.declared.program.ProgLine.{ProgLine}
use Rattle.bas_ast.specs.Structures.{bound, has_end}

-- the items of lines, in order
abbrev pub items_of : List ProgLine → List Item
items_of lines = flat_map (λ line. line.items) lines

-- whether each of these items' structures has its end, among these or those after them
abbrev pub closed_in : List Item → List Item → Bool
closed_in [] after = true
closed_in (x ∷ xs) after = has_end (bound x) (xs ++ after) && closed_in xs after

-- The number of the first line that has an item whose structure has no end, in file order.
abbrev pub first_unclosed : List ProgLine → Option ℕ
first_unclosed [] = None
first_unclosed (line ∷ lines) = if closed_in line.items (items_of lines) then first_unclosed lines else Some line.number
