-- Why lines are no program: the first cause in order. This project's own.
use Rattle.std.specs.Prelude.{◌≡◌, ◌⊎◌, ℕ, ◌+◌, ◌<◌, false, List, [], ◌∷◌, Option, Some, length}
use Rattle.bv_base.specs.Limits as limit
use Rattle.token_file.specs.declared.line.Line.{Line}
use Rattle.bas_ast.specs.declared.lines.Item.{Item}
use Rattle.bas_ast.specs.declared.program.Name.{Name}
use Rattle.bas_ast.specs.declared.program.ProgLine.{ProgLine}
use Rattle.bas_ast.specs.Structures.{IsClosed}
use Rattle.profile_check.specs.declared.refusal.Refusal.{Refusal}
use Rattle.profile_check.specs.declared.refusal.Refusal.TheVariants as refusals
use Rattle.profile_check.specs.declared.refusal.Which.TheVariants as limits
use Rattle.profile_check.specs.Cutting.{Cut, IsCut}
use Rattle.profile_check.specs.Programs.{IsLine, AreSpelled, labels_of, numbered}
use Rattle.bas_rules.specs.Structures.{items_of, first_unclosed}
use Rattle.profile_check.specs.Tables.{Lists, no_lists}

-- The first of the lines that is no line of a program has this number; or where each is one, the line after them has it, in
-- which a place is bad.
abbrev pub IsFirstOutside : List Name → ℕ → Lists → List Cut → Option ℕ → ℕ → Type 0
IsFirstOutside labels place lists [] bad number = bad ≡ Some number
IsFirstOutside labels place lists (cut ∷ cuts) bad number =
    (((items : List Item) → IsLine labels place lists cut items → ⊥) × (cut.number ≡ number))
    ⊎ ((items : List Item) × IsLine labels place lists cut items × IsFirstOutside labels (place + 1) (numbered labels place lists cut).lists cuts bad number)

-- A line with a bad place, or that the grammar or the profile doesn't have, and this number is that of the first.
pub record IsOutside (lines : List Line) (number : ℕ) : Type 0 where
  pub cuts : List Cut
  pub bad : Option ℕ
  pub cut : IsCut false lines cuts bad
  pub first : IsFirstOutside (labels_of cuts) 0 no_lists cuts bad number

-- A structure without end, and this number is that of the first line that has one.
pub record IsUnclosed (lines : List Line) (number : ℕ) : Type 0 where
  pub progs : List ProgLine
  pub lists : Lists
  pub spelled : AreSpelled lines progs lists
  pub first : first_unclosed progs ≡ Some number

-- More names than a program can have.
pub record HasTooManyNames (lines : List Line) : Type 0 where
  pub progs : List ProgLine
  pub lists : Lists
  pub spelled : AreSpelled lines progs lists
  pub closed : IsClosed (items_of progs)
  pub many : limit.names < length lists.names

-- what lines can be refused for, in the order in which it is asked
pub data Cause : Type 0 where
  OutsideLine OpenStructure TooManyNames : Cause

abbrev pub causes : List Cause
causes = OutsideLine ∷ OpenStructure ∷ TooManyNames ∷ []

-- a cause holds of the lines, and this is the refusal for it
abbrev pub Holds : Cause → List Line → Refusal → Type 0
Holds OutsideLine lines reason = (number : ℕ) × IsOutside lines number × (reason ≡ refusals.Outside number)
Holds OpenStructure lines reason = (number : ℕ) × IsUnclosed lines number × (reason ≡ refusals.Outside number)
Holds TooManyNames lines reason = HasTooManyNames lines × (reason ≡ refusals.Limit limits.Names (limit.names + 1))

-- the first cause of a list that holds
abbrev pub FirstOf : {C : Type 0} → (C → Refusal → Type 0) → List C → Refusal → Type 0
FirstOf holds [] reason = ⊥
FirstOf holds (cause ∷ later) reason = holds cause reason ⊎ (((other : Refusal) → holds cause other → ⊥) × FirstOf holds later reason)

-- Lines are refused for the first cause that holds. Want of memory is no cause of their own.
abbrev pub AreRefused : List Line → Refusal → Type 0
AreRefused lines reason = FirstOf (λ cause other. Holds cause lines other) causes reason

-- what a refusal says: the lines are refused so, or there was no memory
abbrev pub Explained : List Line → Refusal → Type 0
Explained lines refusals.NoMemory = Unit {0}
Explained lines reason = AreRefused lines reason
