-- The listing of a program. This project's own.
use Rattle.std.specs.Prelude.{ℕ, List, flat_map}
use Rattle.token_file.specs.declared.line.Line.{Line}
use Rattle.lister.specs.Listing.{listing}

-- the listing of every line, in order
abbrev pub listings : List Line → List ℕ
listings lines = flat_map listing lines
