-- `list FILE`: why it ends as it does, and what it promises. This project's own.
use Rattle.std.specs.Prelude.{◌≡◌, ◌⊎◌, ℕ, ◌+◌, ◌<◌, ◌≤◌, List, ◌∷◌, length, Some, None}
use Rattle.bv_base.specs.Limits.{file_bytes}
use Rattle.bv_io.specs.Log.{Wrote, NotWritten}
use Rattle.bv_io.specs.Shelf.{Rose}
use Rattle.bv_io.specs.Sink.{with_bytes, WritesPart}
use Rattle.token_file.specs.declared.line.Line.{Line}
use Rattle.token_file.specs.Lines.{Lines, Malformed}
use Rattle.profile_check.specs.declared.refusal.Refusal.{Refusal}
use Rattle.profile_check.specs.declared.refusal.Refusal.TheVariants as refusals
use Rattle.profile_check.specs.declared.refusal.Which.TheVariants as limits
use Rattle.basv_top.specs.declared.status.Status.{Status}
use Rattle.basv_top.specs.declared.status.Status.TheVariants as statuses
use Rattle.basv_top.specs.Ending.{Ending, Done, Usage, Refused, ReadFault, WriteFault, NotImage, BadText, Ran, refusal_status, long_file}
use Rattle.basv_top.specs.Seen.{SeenShelf, SeenSink, Silent, Same}
use Rattle.basv_top.specs.Taking.{IsContent, CannotRead, TakeFails, Takes}
use Rattle.lister.specs.Listings.{listings}

-- The bytes of a file are refused by `list` for this reason: they are too many, or not the records of lines.
abbrev pub Unlistable : List ℕ → Refusal → Type 0
Unlistable bytes (refusals.Malformed at) = (length bytes ≤ file_bytes) × Malformed bytes at
Unlistable bytes (refusals.Outside line) = ⊥
Unlistable bytes (refusals.Limit limits.File count) = (file_bytes < length bytes) × (count ≡ file_bytes + 1)
Unlistable bytes (refusals.Limit which count) = ⊥
Unlistable bytes refusals.NoMemory = ⊥

-- Why bytes that were taken end a list like this, and what the output got in one write: the listing of every line, or,
-- where the output failed, a first part of it.
abbrev pub BytesEndList : List ℕ → SeenSink → SeenSink → Ending → Type 0
BytesEndList bytes before after Done =
    (lines : List Line) × Lines bytes lines × (after.log ≡ Wrote (listings lines) ∷ before.log) × (after.written ≡ with_bytes before.written (listings lines))
BytesEndList bytes before after Usage = ⊥
BytesEndList bytes before after (Refused reason) = ((reason ≡ refusals.NoMemory) ⊎ Unlistable bytes reason) × Silent before after
BytesEndList bytes before after (ReadFault name) = ⊥
BytesEndList bytes before after WriteFault =
    (lines : List Line) × Lines bytes lines × (after.log ≡ NotWritten (listings lines) ∷ before.log)
    × WritesPart before.written (listings lines) after.written × Rose before.faults after.faults
BytesEndList bytes before after (NotImage at) = ⊥
BytesEndList bytes before after (BadText piece) = ⊥
BytesEndList bytes before after (Ran end bound) = ⊥

-- why `list` ends so
abbrev pub EndsList : SeenShelf → SeenShelf → SeenSink → SeenSink → List ℕ → Ending → Type 0
EndsList before after out_before out_after file ending =
    (TakeFails before after file file_bytes long_file ending × Silent out_before out_after)
    ⊎ ((bytes : List ℕ) × Takes before after file bytes × (length bytes ≤ file_bytes) × BytesEndList bytes out_before out_after ending)

-- What `list` promises of its status.
pub record Lists (before after : SeenShelf) (out_before out_after : SeenSink) (file : List ℕ) (status : Status) : Type 0 where
  -- done, it has written the listing of every line of the file, in one write
  pub listed : status ≡ statuses.Done
      → (bytes : List ℕ) × (lines : List Line) × Takes before after file bytes × Lines bytes lines
      × (out_after.log ≡ Wrote (listings lines) ∷ out_before.log) × (out_after.written ≡ with_bytes out_before.written (listings lines))
  -- a file that has lines is listed, where the output did not fail and there was memory
  pub complete : (bytes : List ℕ) (lines : List Line) → IsContent before after file bytes → length bytes ≤ file_bytes → Lines bytes lines
      → (Rose out_before.faults out_after.faults → ⊥) → (status ≡ statuses.Done) ⊎ (status ≡ statuses.NoMemory)
  -- a file that is too long or has no lines is refused for that, where there was memory
  pub refused : (bytes : List ℕ) (reason : Refusal) → IsContent before after file bytes → Unlistable bytes reason
      → (status ≡ refusal_status reason) ⊎ (status ≡ statuses.NoMemory)
  -- a file that isn't there can't be read
  pub missing : before.content file ≡ Some None → (status ≡ statuses.ReadFault) ⊎ (status ≡ statuses.NoMemory)
  pub unreadable : status ≡ statuses.ReadFault → CannotRead before after file
  -- the shelf is as it was, and the output too unless the list came to write
  pub same : Same before after
  pub silent : (status ≡ statuses.Done → ⊥) → (status ≡ statuses.WriteFault → ⊥) → Silent out_before out_after
