-- What a shelf tells of its contents, and when a count of faults has risen. This project's own.
use Rattle.std.specs.Prelude.{◌≡◌, ℕ, ◌+◌, ◌-◌, ◌^◌, ◌<◌, ◌≤◌, min, List, length, Option, Some, None}

-- A count one higher. It is a `u64`, and stands still at its greatest value.
abbrev pub counted : ℕ → ℕ
counted n = min (n + 1) (2 ^ 64 - 1)

-- a count of faults rose
abbrev pub Rose : ℕ → ℕ → Type 0
Rose before after = counted before ≤ after

-- Either nothing is told of a name, or this is told: a content, or that none is held.
abbrev pub Tells : Option (Option (List ℕ)) → Option (List ℕ) → Type 0
Tells None content = Unit {0}
Tells (Some told) content = told ≡ content

-- Either nothing is told of a name, or a content of more bytes than these.
abbrev pub TellsMore : Option (Option (List ℕ)) → ℕ → Type 0
TellsMore None max = Unit {0}
TellsMore (Some None) max = ⊥
TellsMore (Some (Some bytes)) max = max < length bytes
