-- What the reader has read so far.
use Rattle.std.proofs.Common.{◌≡◌, ℕ, List, ◌++◌, flat_map}
use Rattle.std.specs.List.{AllByRecursion}
use Rattle.token_file.specs.declared.line.Line.{Line}
use Rattle.token_file.specs.Lines.{IsLine, record_of}

-- whole records of these lines, and then the rest
pub record IsReadSoFar (bytes : List ℕ) (lines : List Line) (rest : List ℕ) : Type 0 where
  pub each : AllByRecursion IsLine lines
  pub whole : bytes ≡ flat_map record_of lines ++ rest
