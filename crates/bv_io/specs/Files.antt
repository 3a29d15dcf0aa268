-- Contents by their names. This project's own.
use Rattle.std.specs.Prelude.{ℕ, List, map, String, string_bytes, Vec}
use Rattle.std.specs.Ordering.{nat_cmp}
use Rattle.std.specs.Cmp.Lexicographic.{slice_cmp}
use Rattle.std.specs.Coded.{Coded, coded_ℕ, coded_list}
use Rattle.std.specs.FinMap.{FinMap, code, from_entries}
use Rattle.std.proofs.Common.{Global}

-- contents by their names, in the order of the names' bytes
abbrev pub Held : Type 0
Held = FinMap (slice_cmp nat_cmp) (List ℕ)

-- contents are stored as their entries
abbrev pub held_code : Coded Held
held_code = code (coded_list coded_ℕ) (coded_list coded_ℕ)

-- an entry of a map from texts to bytes
abbrev pub file_of : String Global × Vec ℕ Global → List ℕ × List ℕ
file_of entry = (string_bytes entry.0, entry.1.items)

-- the contents that the entries of a map are
abbrev pub files_of : List (String Global × Vec ℕ Global) → Held
files_of entries = from_entries (map file_of entries)
