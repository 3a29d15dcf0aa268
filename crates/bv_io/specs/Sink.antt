-- What a sink says that it was given. This project's own.
use Rattle.std.specs.Prelude.{◌≡◌, ℕ, List, ◌++◌, take, Option, Some, None}

-- what was written, with these bytes after it, where it is told
abbrev pub with_bytes : Option (List ℕ) → List ℕ → Option (List ℕ)
with_bytes None bytes = None
with_bytes (Some written) bytes = Some (written ++ bytes)

-- some first part of the bytes was written
abbrev pub WritesPart : Option (List ℕ) → List ℕ → Option (List ℕ) → Type 0
WritesPart old bytes new = (n : ℕ) × (new ≡ with_bytes old (take n bytes))
