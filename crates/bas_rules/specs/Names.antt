-- The names of a program (BBC BASIC Reference Manual, variables, procedures and functions). A name is one by its kind and its
-- text.
use Rattle.std.specs.Prelude.{ℕ, ◌-◌, Bool, ◌&&◌, nat_eq, min, List, [], ◌∷◌, ◌++◌, length, map, drop, take, Option, Some, None, if◌then◌else◌}
use Rattle.std.specs.List.{list_any, position_or_len}
use Rattle.std.specs.Str.{bytes_eq}
use Rattle.bv_base.specs.Limits as limit
use Rattle.bas_rules.specs.declared.names.Key.{Key}
use Rattle.bas_ast.specs.declared.program.Name.{Name}
use Rattle.bas_ast.specs.declared.program.NameKind.{NameKind}
use Rattle.bas_ast.specs.declared.program.NameKind.TheVariants as kind
use Rattle.bas_ast.specs.declared.terminals.Terminal.{Terminal}
use Rattle.bas_ast.specs.declared.terminals.Terminal.TheVariants as t

-- the number of a kind, which is another for each
abbrev pub kind_number : NameKind → ℕ
kind_number kind.Integer = 0
kind_number kind.Text = 1
kind_number kind.IntegerArray = 2
kind_number kind.TextArray = 3
kind_number kind.Label = 4
kind_number kind.Procedure = 5
kind_number kind.Function = 6

-- whether two names are one
abbrev pub same_name : Name → Name → Bool
same_name a b = nat_eq (kind_number a.kind) (kind_number b.kind) && bytes_eq a.text b.text

-- the bytes without the last one
abbrev pub without_last : List ℕ → List ℕ
without_last bytes = take (length bytes - 1) bytes

abbrev pub named : NameKind → List ℕ → Option Name
named kind text = Some (record { kind = kind; text = text })

-- The name that a terminal is, from the bytes of its symbol: with the suffix, and without FN, PROC and the bracket.
abbrev pub name_of : List ℕ → Terminal → Option Name
name_of bytes (t.IntName n) = named kind.Integer bytes
name_of bytes (t.StrName n) = named kind.Text bytes
name_of bytes (t.IntArray n) = named kind.IntegerArray (without_last bytes)
name_of bytes (t.StrArray n) = named kind.TextArray (without_last bytes)
name_of bytes (t.Label n) = named kind.Label bytes
name_of bytes (t.Procedure n) = named kind.Procedure (drop 1 bytes)
name_of bytes (t.ProcedureOpen n) = named kind.Procedure (without_last (drop 1 bytes))
name_of bytes (t.NumFunction n) = named kind.Function (drop 1 bytes)
name_of bytes (t.NumFunctionOpen n) = named kind.Function (without_last (drop 1 bytes))
name_of bytes (t.StrFunction n) = named kind.Function (drop 1 bytes)
name_of bytes (t.StrFunctionOpen n) = named kind.Function (without_last (drop 1 bytes))
name_of bytes _ = None

-- the terminal of a name with another number
abbrev pub renumbered : Terminal → ℕ → Terminal
renumbered (t.IntName n) k = t.IntName k
renumbered (t.StrName n) k = t.StrName k
renumbered (t.IntArray n) k = t.IntArray k
renumbered (t.StrArray n) k = t.StrArray k
renumbered (t.Label n) k = t.Label k
renumbered (t.Procedure n) k = t.Procedure k
renumbered (t.ProcedureOpen n) k = t.ProcedureOpen k
renumbered (t.NumFunction n) k = t.NumFunction k
renumbered (t.NumFunctionOpen n) k = t.NumFunctionOpen k
renumbered (t.StrFunction n) k = t.StrFunction k
renumbered (t.StrFunctionOpen n) k = t.StrFunctionOpen k
renumbered terminal k = terminal

-- names with one more, which goes last unless it is among them
abbrev pub add_name : List Name → Name → List Name
add_name names name = if list_any (same_name name) names then names else names ++ name ∷ []

-- The number of a name: its place among names, or for a new one their number. Past the limit of names it is the limit.
abbrev pub number_of : List Name → Name → ℕ
number_of names name = min (position_or_len (same_name name) names) limit.names

-- a name with its own bytes
abbrev pub name_of_key : Key → Name
name_of_key key = record { kind = key.kind; text = key.text.now }

-- the names of keys
abbrev pub names_of : List Key → List Name
names_of keys = map name_of_key keys
