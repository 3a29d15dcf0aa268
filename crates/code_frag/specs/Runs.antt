-- That the words of a piece do on the board what it owes. This project's own.
use Rattle.std.specs.Prelude.{◌≡◌, ℕ, ◌+◌, ◌*◌, ◌%◌, ◌<◌, ◌≤◌, Bool, true, false, List, [], ◌∷◌, ◌++◌, length, ℤ}
use Rattle.bv_base.specs.MemoryMap.{image_start}
use Rattle.arm_isa.specs.declared.instruction.Instr.TheVariants.{Branch}
use Rattle.arm_isa.specs.Fields.{offset_field}
use Rattle.arm_isa.specs.Words.{means}
use Rattle.arm2_machine.specs.Machine.{Machine}
use Rattle.arm_core.specs.Core.{Core, word, IsAt}
use Rattle.arm_core.specs.Effects.{return_place}
use Rattle.arm_core.specs.Made.{EndsRun, target_of}
use Rattle.code_frag.specs.declared.item.Item.{Item}
use Rattle.code_frag.specs.declared.item.Item.TheVariants.{Ins, Jump}
use Rattle.code_frag.specs.Demands.{ToLabel, ToPlace, ToEnd, Out, Falls, Leaves, Post}
use Rattle.code_frag.specs.Places.{data_start}
use Rattle.code_frag.specs.Rows.{Row, Rising}

-- the word of an item stands in a memory: an instruction as it is, and a branch that leads to its label's address
abbrev pub StandsItem : (ℕ → ℕ) → (ℕ → ℕ) → ℕ → Item → Type 0
StandsItem code entry pc (Ins i) = means (word code pc) ≡ i
StandsItem code entry pc (Jump k link to) = (words : ℤ) × (means (word code pc) ≡ Branch k link words) × (target_of pc (offset_field words) ≡ entry to.number)

-- Items stand in a memory from an address on. It stays closed, so that no goal shows the words of a routine.
unfoldable pub Stands : List Item → (ℕ → ℕ) → (ℕ → ℕ) → ℕ → Type 0
Stands [] code entry pc = Unit {0}
Stands (i ∷ is) code entry pc = StandsItem code entry pc i × Stands is code entry (pc + 4)

-- n words from an address on lie where code lies
pub record IsCode (place n : ℕ) : Type 0 where
  pub low : image_start ≤ place
  pub aligned : place % 4 ≡ 0
  pub high : place + 4 * n ≤ data_start

-- the code's bytes are as they were
pub record SameCode (code mem : ℕ → ℕ) : Type 0 where
  pub kept : (a : ℕ) → image_start ≤ a → a < data_start → mem a ≡ code a

-- where a row of steps has come, by the end of its piece; after the piece is the address next
abbrev pub Comes : (ℕ → ℕ) → Out → ℕ → Core → Machine → Type 0
Comes entry Falls next t m = IsAt t next m
Comes entry (Leaves (ToLabel k)) next t m = IsAt t (entry k) m
Comes entry (Leaves (ToPlace a)) next t m = IsAt t a m
Comes entry (Leaves (ToEnd report)) next t m = (pc : ℕ) × IsAt t pc m × EndsRun t m report

-- who leaves to a label or an address has made an instruction
abbrev pub Moved : Out → List ℕ → Type 0
Moved Falls places = Unit {0}
Moved (Leaves (ToLabel k)) places = 0 < length places
Moved (Leaves (ToPlace a)) places = 0 < length places
Moved (Leaves (ToEnd report)) places = Unit {0}

-- A run of the board from a core at an address to the end of a piece, where what is asked holds. The code stays as it was, and
-- a flat piece is made at rising addresses of its own.
pub record EndsAt (code entry : ℕ → ℕ) (flat : Bool) (Q : Post) (place next : ℕ) (s : Core) (m : Machine) : Type 0 where
  pub out : Out
  pub end : Core
  pub machine : Machine
  pub places : List ℕ
  pub bytes : List ℕ
  pub holds : Q out end
  pub same : SameCode code end.mem
  pub row : Row places m bytes machine
  pub writes : end.out ≡ s.out ++ bytes
  pub comes : Comes entry out next end machine
  pub rises : flat ≡ true → Rising places place next
  pub moved : Moved out places

-- an entry that is called comes back to the address in R14, or leaves
pub record Meets (code entry : ℕ → ℕ) (Asks : ℕ → Core → Type 0) (Does : ℕ → Core → Out → Core → Type 0) (e : ℕ) : Type 0 where
  pub runs : (s : Core) (m : Machine) → SameCode code s.mem → IsAt s (entry e) m → Asks e s → EndsAt code entry false (Does e s) (entry e) (return_place (s.regs 14)) s m

-- each entry of a list meets its contract
abbrev pub MeetEach : (code entry : ℕ → ℕ) (Asks : ℕ → Core → Type 0) (Does : ℕ → Core → Out → Core → Type 0) → List ℕ → Type 0
MeetEach code entry Asks Does [] = Unit {0}
MeetEach code entry Asks Does (e ∷ es) = Meets code entry Asks Does e × MeetEach code entry Asks Does es
