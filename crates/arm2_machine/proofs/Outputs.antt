-- A new line, which is written in two writes of a byte.
use Rattle.std.proofs.Common.{◌≡◌, ℕ, List, [], ◌∷◌, Option, refl, sym}
use Rattle.bv_io.specs.Sink.{with_bytes, WritesPart}
use Rattle.bv_io.proofs.Loops.{with_bytes-nil, with_bytes-append, part_of_piece}

-- where the first byte fails, a first part was written: that byte may be in it
pub first_of_two : (old after : Option (List ℕ)) (first second : ℕ) → WritesPart old (first ∷ []) after → WritesPart old (first ∷ second ∷ []) after
first_of_two old after first second part =
    part_of_piece old old after [] (first ∷ []) _ (sym (with_bytes-nil old)) (second ∷ [], refl) part

-- where the second byte fails, the first was written
pub second_of_two : (old written after : Option (List ℕ)) (first second : ℕ) → written ≡ with_bytes old (first ∷ []) → WritesPart written (second ∷ []) after → WritesPart old (first ∷ second ∷ []) after
second_of_two old written after first second so part =
    part_of_piece old written after (first ∷ []) (second ∷ []) _ so ([], refl) part

-- both bytes were written, one after the other
pub both_of_two : (old : Option (List ℕ)) (first second : ℕ) → with_bytes (with_bytes old (first ∷ [])) (second ∷ []) ≡ with_bytes old (first ∷ second ∷ [])
both_of_two old first second = with_bytes-append old (first ∷ []) (second ∷ [])
