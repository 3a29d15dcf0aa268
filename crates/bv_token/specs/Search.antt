-- The search for the longest keyword at the front of a text, candidate by candidate.
use Rattle.std.specs.Prelude.{ℕ, ◌+◌, ◌-◌, ◌*◌, nat_lt, List, map, slice_index, Option, Some, None, if◌then◌else◌}
use Rattle.bv_token.specs.Tokens.{pairs}

-- the pairs as numbers
abbrev pub pair_tokens : List ℕ
pair_tokens = map (λ p. 256 * p.first + p.second) pairs

-- the tokens and pairs that may have a word, in rising order: the 129 bytes from 127 on, and the pairs
abbrev pub candidate : ℕ → ℕ
candidate place = if nat_lt place 129 then 127 + place else slice_index pair_tokens (place - 129)

-- the longer of a word that was found, by its size and its token, and another one, which loses where both are as long
abbrev pub longer : Option (ℕ × ℕ) → Option ℕ → ℕ → Option (ℕ × ℕ)
longer found None token = found
longer None (Some size) token = Some (size, token)
longer (Some old) (Some size) token = if nat_lt old.0 size then Some (size, token) else Some old
