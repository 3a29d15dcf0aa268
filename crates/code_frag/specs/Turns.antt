-- What is asked at each turn of a loop whose invariant has a number that falls. This project's own.
use Rattle.std.specs.Prelude.{◌≡◌, ℕ, ◌<◌, true, false}
use Rattle.arm_core.specs.Core.{Core, meets}
use Rattle.code_frag.specs.Demands.{Out, Post, on_falls, Owes}
use Rattle.code_frag.specs.Language.{Piece}

-- the invariant of a loop with a lower number
pub record Less (I : ℕ → Core → Type 0) (n : ℕ) (s : Core) : Type 0 where
  pub count : ℕ
  pub less : count < n
  pub inv : I count s

-- the end of a turn whose test comes last
pub record Round (Asks : ℕ → Core → Type 0) (Does : ℕ → Core → Out → Core → Type 0) (k : ℕ) (rest : Piece) (Q : Post) (I : ℕ → Core → Type 0) (n : ℕ) (s : Core) : Type 0 where
  pub more : meets k s ≡ true → Less I n s
  pub done : meets k s ≡ false → Owes Asks Does rest Q s

-- after the test, where it comes first
pub record Turn (Asks : ℕ → Core → Type 0) (Does : ℕ → Core → Out → Core → Type 0) (k : ℕ) (body rest : Piece) (Q : Post) (I : ℕ → Core → Type 0) (n : ℕ) (s : Core) : Type 0 where
  pub more : meets k s ≡ true → Owes Asks Does body (on_falls (Less I n) Q) s
  pub done : meets k s ≡ false → Owes Asks Does rest Q s
