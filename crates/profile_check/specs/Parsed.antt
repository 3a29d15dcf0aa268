-- What the parser of lines answers.
use Rattle.std.specs.Prelude.{ℕ, List, Option, Some, None}
use Rattle.bas_ast.specs.declared.lines.Item.{Item}
use Rattle.bas_ast.specs.declared.program.Name.{Name}
use Rattle.bas_ast.specs.declared.program.ProgLine.{ProgLine}
use Rattle.profile_check.specs.declared.refusal.Refusal.{Refusal}
use Rattle.profile_check.specs.declared.refusal.Refusal.TheVariants as refusals
use Rattle.profile_check.specs.Cutting.{Cut}
use Rattle.profile_check.specs.Programs.{IsLine, AreLines, numbered}
use Rattle.profile_check.specs.Refused.{IsFirstOutside}
use Rattle.profile_check.specs.Tables.{Lists, no_lists}

-- the items of a line, or that it is outside
abbrev pub ItemsParsed : List Name → ℕ → Lists → Cut → Option (List Item) → Type 0
ItemsParsed labels place lists cut (Some items) = IsLine labels place lists cut items
ItemsParsed labels place lists cut None = (items : List Item) → IsLine labels place lists cut items → ⊥

-- the lists after a line
abbrev pub lists_after : List Name → ℕ → Lists → Cut → Lists
lists_after labels place lists cut = (numbered labels place lists cut).lists

-- all lines are these
abbrev pub LinesParsed : List Name → List Cut → List ProgLine → Lists → Type 0
LinesParsed labels cuts progs after = AreLines labels 0 no_lists cuts progs after

-- one of the lines is outside, whatever comes after them
abbrev pub ExplainsLines : List Name → List Cut → Refusal → Type 0
ExplainsLines labels cuts (refusals.Outside number) = (bad : Option ℕ) → IsFirstOutside labels 0 no_lists cuts bad number
ExplainsLines labels cuts (refusals.Malformed at) = ⊥
ExplainsLines labels cuts (refusals.Limit which count) = ⊥
ExplainsLines labels cuts refusals.NoMemory = Unit {0}
