-- The structures over lines: what opens one has its end later in the program (BBC BASIC Reference Manual, WHILE, IF, CASE).
use Rattle.std.specs.Prelude.{◌≡◌, ℕ, suc, ◌-◌, Bool, true, false, ◌&&◌, ◌==◌, List, [], ◌∷◌, if◌then◌else◌}
use Rattle.bas_ast.specs.declared.lines.Head.TheVariants as head
use Rattle.bas_ast.specs.declared.lines.Item.{Item}
use Rattle.bas_ast.specs.declared.lines.Item.TheVariants as item
use Rattle.bas_ast.specs.declared.statements.Flow.TheVariants as flow
use Rattle.bas_ast.specs.declared.statements.Stmt.TheVariants as stmt

-- what an item is to the structures
pub data Bound : Type 0 where
  OpensWhile : Bound
  ClosesWhile : Bound
  OpensIf : Bound
  DividesIf : Bound
  ClosesIf : Bound
  OpensCase : Bound
  DividesCase : Bound
  ClosesCase : Bound
  NoBound : Bound

abbrev pub bound : Item → Bound
bound (item.Stmt (stmt.Flow (flow.While x))) = OpensWhile
bound (item.Stmt (stmt.Flow flow.EndWhile)) = ClosesWhile
bound (item.BlockIf x) = OpensIf
bound (item.Head head.BlockElse) = DividesIf
bound (item.Head head.EndIf) = ClosesIf
bound (item.Case x) = OpensCase
bound (item.Head (head.When vs)) = DividesCase
bound (item.Head head.Otherwise) = DividesCase
bound (item.Head head.EndCase) = ClosesCase
bound _ = NoBound

-- A family of structures: what opens one within another and what closes it.
pub record Family : Type 0 where
  pub opens : Bound → Bool
  pub closes : Bound → Bool

abbrev pub while_family : Family
while_family = record { opens = (λ b. elim b [ OpensWhile ↦ true | _ ↦ false ]); closes = (λ b. elim b [ ClosesWhile ↦ true | _ ↦ false ]) }

abbrev pub if_family : Family
if_family = record { opens = (λ b. elim b [ OpensIf ↦ true | _ ↦ false ]); closes = (λ b. elim b [ ClosesIf ↦ true | _ ↦ false ]) }

abbrev pub case_family : Family
case_family = record { opens = (λ b. elim b [ OpensCase ↦ true | _ ↦ false ]); closes = (λ b. elim b [ ClosesCase ↦ true | _ ↦ false ]) }

-- Whether an end comes later, at depth 0, where structures of the family are counted between.
abbrev pub ends_at : Family → (Bound → Bool) → ℕ → List Item → Bool
ends_at family is_end depth [] = false
ends_at family is_end depth (x ∷ xs) =
    if depth == 0 && is_end (bound x) then true
    else if family.opens (bound x) then ends_at family is_end (suc depth) xs
    else if family.closes (bound x) then ends_at family is_end (depth - 1) xs
    else ends_at family is_end depth xs

-- what ends a block IF: its ELSE or its ENDIF
abbrev pub ends_if : Bound → Bool
ends_if DividesIf = true
ends_if ClosesIf = true
ends_if _ = false

-- whether an item's structure has its end later
abbrev pub has_end : Bound → List Item → Bool
has_end OpensWhile xs = ends_at while_family while_family.closes 0 xs
has_end OpensIf xs = ends_at if_family ends_if 0 xs
has_end DividesIf xs = ends_at if_family if_family.closes 0 xs
has_end OpensCase xs = ends_at case_family case_family.closes 0 xs
has_end DividesCase xs = ends_at case_family case_family.closes 0 xs
has_end _ xs = true

-- Each item's structure has its end.
abbrev pub IsClosed : List Item → Type 0
IsClosed [] = Unit {0}
IsClosed (x ∷ xs) = (has_end (bound x) xs ≡ true) × IsClosed xs
