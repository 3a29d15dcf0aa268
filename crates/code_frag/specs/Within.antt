-- That a run of a piece is made in own words: the address of each of its steps is in a set of addresses. This project's own.
use Rattle.std.specs.Prelude.{◌≡◌, ℕ, ◌+◌, ◌*◌, ◌<◌, ◌≤◌, ◌&&◌, nat_le, nat_lt, Bool, true, false, List, [], ◌∷◌}
use Rattle.arm2_machine.specs.Machine.{Machine}
use Rattle.arm_core.specs.Core.{Core, IsAt}
use Rattle.arm_core.specs.Effects.{return_place}
use Rattle.code_frag.specs.Demands.{ToLabel, ToPlace, ToEnd, Out, Falls, Leaves, Post}
use Rattle.code_frag.specs.Runs.{SameCode, EndsAt}

-- addresses that are all in a set
abbrev pub AllIn : (ℕ → Bool) → List ℕ → Type 0
AllIn own [] = Unit {0}
AllIn own (p ∷ ps) = (own p ≡ true) × AllIn own ps

-- n words from an address on are in a set
pub record IsOwn (own : ℕ → Bool) (place n : ℕ) : Type 0 where
  pub each : (a : ℕ) → place ≤ a → a < place + 4 * n → own a ≡ true

-- the set of n words from an address on
abbrev pub words_at : ℕ → ℕ → ℕ → Bool
words_at place n a = nat_le place a && nat_lt a (place + 4 * n)

-- the step that ends the run, where there is one, is in the set
abbrev pub LastIn : (ℕ → Bool) → Out → Machine → Type 0
LastIn own Falls m = Unit {0}
LastIn own (Leaves (ToLabel k)) m = Unit {0}
LastIn own (Leaves (ToPlace a)) m = Unit {0}
LastIn own (Leaves (ToEnd report)) m = own m.regs.pc ≡ true

-- a run to the end of a piece, each step of which is made at an address of the set
pub record EndsWithin (code entry : ℕ → ℕ) (own : ℕ → Bool) (flat : Bool) (Q : Post) (place next : ℕ) (s : Core) (m : Machine) : Type 0 where
  pub run : EndsAt code entry flat Q place next s m
  pub within : AllIn own run.places
  pub last : LastIn own run.out run.machine

-- an entry meets its contract, and each of its steps is made at an address of the set, until it comes back or leaves
pub record MeetsWithin (code entry : ℕ → ℕ) (own : ℕ → Bool) (Asks : ℕ → Core → Type 0) (Does : ℕ → Core → Out → Core → Type 0) (e : ℕ) : Type 0 where
  pub runs : (s : Core) (m : Machine) → SameCode code s.mem → IsAt s (entry e) m → Asks e s → EndsWithin code entry own false (Does e s) (entry e) (return_place (s.regs 14)) s m

-- the same of each entry of a list
abbrev pub MeetEachWithin : (code entry : ℕ → ℕ) (own : ℕ → Bool) (Asks : ℕ → Core → Type 0) (Does : ℕ → Core → Out → Core → Type 0) → List ℕ → Type 0
MeetEachWithin code entry own Asks Does [] = Unit {0}
MeetEachWithin code entry own Asks Does (e ∷ es) = MeetsWithin code entry own Asks Does e × MeetEachWithin code entry own Asks Does es
