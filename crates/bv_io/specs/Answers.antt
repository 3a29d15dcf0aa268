-- What a shelf in memory answers of a content. This project's own.
use Rattle.std.specs.Prelude.{◌≡◌, ℕ, ◌≤◌, List, length, Option, Some, None, Result, Ok, Err, Vec}
use Rattle.std.proofs.Common.{Global}
use Rattle.bv_io.specs.declared.shelf.TakeError.{TakeError}
use Rattle.bv_io.specs.declared.shelf.TakeError.TheVariants as take_errors
use Rattle.bv_io.specs.Shelf.{TellsMore}

-- what a content, or its absence, answers to a caller that takes at most this number of bytes
abbrev pub AnswersContent : Option (List ℕ) → ℕ → Result (Vec ℕ Global) TakeError → Type 0
AnswersContent content max (Ok bytes) = (content ≡ Some bytes.items) × (length bytes.items ≤ max)
AnswersContent content max (Err take_errors.Missing) = content ≡ None
AnswersContent content max (Err take_errors.TooLong) = TellsMore (Some content) max
AnswersContent content max (Err take_errors.Failed) = ⊥
AnswersContent content max (Err take_errors.NoMemory) = Unit {0}
