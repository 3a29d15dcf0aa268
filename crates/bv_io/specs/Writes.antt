-- Bytes that are handed to a sink, each by a write of its own. This project's own.
use Rattle.std.specs.Prelude.{◌≡◌, ℕ, List, [], ◌∷◌, ◌++◌}
use Rattle.bv_io.specs.Log.{Event, Wrote, NotWritten}

-- the log of a sink after each byte was a write of its own, and was accepted
abbrev pub byte_writes : List ℕ → List Event → List Event
byte_writes [] log = log
byte_writes (byte ∷ bytes) log = byte_writes bytes (Wrote (byte ∷ []) ∷ log)

-- Each byte was a write of its own, up to one that was not accepted.
pub record FailsAtByte (bytes : List ℕ) (old new : List Event) : Type 0 where
  pub accepted : List ℕ
  pub byte : ℕ
  pub rest : List ℕ
  pub split : bytes ≡ accepted ++ byte ∷ rest
  pub log : new ≡ NotWritten (byte ∷ []) ∷ byte_writes accepted old
