-- What the reader of a file answers.
use Rattle.std.specs.Prelude.{◌≡◌, ℕ, List, ◌++◌}
use Rattle.token_file.specs.declared.read.Front.{Front}
use Rattle.token_file.specs.declared.read.Front.TheVariants.{Record, End, Neither}
use Rattle.token_file.specs.declared.read.FileError.{FileError}
use Rattle.token_file.specs.declared.read.FileError.TheVariants as errors
use Rattle.token_file.specs.Lines.{IsLine, record_of, BeginsRecord, BeginsEnd, Malformed}

-- what is at the front of these bytes
abbrev pub IsFront : List ℕ → Front → Type 0
IsFront bytes (Record number text after) =
    IsLine (record { number = number; text = text.now }) × (bytes ≡ record_of (record { number = number; text = text.now }) ++ after.now)
IsFront bytes End = BeginsEnd bytes
IsFront bytes Neither = (BeginsRecord bytes → ⊥) × (BeginsEnd bytes → ⊥)

-- when each error comes: running out of memory is free
abbrev pub ExplainsFile : List ℕ → FileError → Type 0
ExplainsFile bytes (errors.Malformed at) = Malformed bytes at
ExplainsFile bytes errors.NoMemory = Unit {0}
