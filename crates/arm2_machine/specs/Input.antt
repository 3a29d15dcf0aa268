-- The bytes that a run may read. This project's own.
use Rattle.std.specs.Prelude.{◌≡◌, ℕ, List, [], ◌∷◌, Option, Some, None}

-- the next byte was taken, or there was none
abbrev pub TakesByte : List ℕ → Option ℕ → List ℕ → Type 0
TakesByte old None new = (old ≡ []) × (new ≡ [])
TakesByte old (Some byte) new = old ≡ byte ∷ new
