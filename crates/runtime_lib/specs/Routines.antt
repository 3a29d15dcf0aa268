-- How routines are put together: each is its piece, and then the jump to the address in R14. This project's own.
use Rattle.std.specs.Prelude.{ℕ, List, [], ◌∷◌, ◌++◌}
use Rattle.code_frag.specs.declared.item.Item.{Item}
use Rattle.code_frag.specs.Language.{Piece, items, jump_to}
use Rattle.code_frag.specs.Words.{FragState}

-- the number of routines, and of their labels
abbrev pub routines_count : ℕ
routines_count = 18

-- the items of a routine
abbrev pub routine_items : Piece → List Item
routine_items piece = items piece ++ jump_to 14 ∷ []

-- a fragment with a routine's items at its end
abbrev pub with_piece : Piece → FragState → FragState
with_piece piece f = record { items = f.items ++ routine_items piece; places = f.places }
