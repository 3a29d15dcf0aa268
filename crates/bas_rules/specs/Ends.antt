-- The ends of structures, counted from the last item of a program to the first: how many there are after a place that could end
-- what stands before it.
use Rattle.std.specs.Prelude.{◌+◌, ◌-◌, Bool, true, false, ◌&&◌, ◌||◌, ◌==◌, nat_lt, List, [], ◌∷◌}
use Rattle.bas_ast.specs.declared.lines.Item.{Item}
use Rattle.bas_ast.specs.Structures.{Bound, OpensWhile, ClosesWhile, OpensIf, DividesIf, ClosesIf, OpensCase, DividesCase, ClosesCase, NoBound, bound}
use Rattle.bas_rules.specs.declared.structures.Ends.{Ends}

abbrev pub no_ends : Ends
no_ends = record { whiles = 0; ifs = 0; has_else = false; cases = 0 }

-- the ends from an item on, from those after it
abbrev pub ends_before : Bound → Ends → Ends
ends_before OpensWhile ends = record ends { whiles = ends.whiles - 1 }
ends_before ClosesWhile ends = record ends { whiles = ends.whiles + 1 }
ends_before OpensIf ends = record ends { ifs = ends.ifs - 1; has_else = ends.has_else && nat_lt 0 ends.ifs }
ends_before DividesIf ends = record ends { has_else = ends.has_else || (ends.ifs == 0) }
ends_before ClosesIf ends = record ends { ifs = ends.ifs + 1 }
ends_before OpensCase ends = record ends { cases = ends.cases - 1 }
ends_before DividesCase ends = ends
ends_before ClosesCase ends = record ends { cases = ends.cases + 1 }
ends_before NoBound ends = ends

-- whether an item's structure has its end among the ends after it
abbrev pub has_end_by : Bound → Ends → Bool
has_end_by OpensWhile ends = nat_lt 0 ends.whiles
has_end_by ClosesWhile ends = true
has_end_by OpensIf ends = nat_lt 0 ends.ifs || ends.has_else
has_end_by DividesIf ends = nat_lt 0 ends.ifs
has_end_by ClosesIf ends = true
has_end_by OpensCase ends = nat_lt 0 ends.cases
has_end_by DividesCase ends = nat_lt 0 ends.cases
has_end_by ClosesCase ends = true
has_end_by NoBound ends = true

-- the ends from some items on, from those after them
abbrev pub ends_from : Ends → List Item → Ends
ends_from after [] = after
ends_from after (x ∷ xs) = ends_before (bound x) (ends_from after xs)

-- whether each of some items' structures has its end
abbrev pub closed_from : Ends → List Item → Bool
closed_from after [] = true
closed_from after (x ∷ xs) = has_end_by (bound x) (ends_from after xs) && closed_from after xs
