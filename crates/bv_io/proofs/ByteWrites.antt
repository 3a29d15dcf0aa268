-- Bytes in two parts, each byte a write of its own.
use Rattle.std.specs.Prelude.{◌≡◌, ℕ, List, [], ◌∷◌, ◌++◌, refl}
use Rattle.bv_io.specs.Log.{Event, Wrote}
use Rattle.bv_io.specs.Writes.{byte_writes}

pub byte_writes-append : (first more : List ℕ) (log : List Event) → byte_writes (first ++ more) log ≡ byte_writes more (byte_writes first log)
byte_writes-append [] more log = refl
byte_writes-append (byte ∷ first) more log = byte_writes-append first more (Wrote (byte ∷ []) ∷ log)
