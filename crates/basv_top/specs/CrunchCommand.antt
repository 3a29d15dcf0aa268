-- `crunch TEXT FILE`: why it ends as it does, and what it promises. This project's own.
use Rattle.std.specs.Prelude.{◌≡◌, ◌≢◌, ◌⊎◌, ℕ, ◌<◌, ◌≤◌, List, ◌∷◌, length, Some, None}
use Rattle.bv_base.specs.Limits.{text_file_bytes}
use Rattle.bv_io.specs.declared.shelf.PutError.TheVariants as put_errors
use Rattle.bv_io.specs.Log.{Took, Put, NotPut}
use Rattle.bv_io.specs.Shelf.{Rose, Tells}
use Rattle.profile_check.specs.declared.refusal.Refusal.TheVariants as refusals
use Rattle.basv_crunch.specs.Crunched.{IsFileOf, IsBadText, IsTooLong}
use Rattle.basv_crunch.specs.NormalForm.{ReadsBack}
use Rattle.basv_top.specs.declared.status.Status.{Status}
use Rattle.basv_top.specs.declared.status.Status.TheVariants as statuses
use Rattle.basv_top.specs.CompileCommand.{MayWrite}
use Rattle.basv_top.specs.Ending.{Ending, Done, Usage, Refused, ReadFault, WriteFault, NotImage, BadText, Ran, status_of, long_text, long_crunched}
use Rattle.basv_top.specs.Seen.{SeenShelf, SeenSink, Silent, Same}
use Rattle.basv_top.specs.Taking.{IsContent, CannotRead, TakeFails}

-- The bytes of a text are refused so: they are too many, a piece of them is no line, or their file would be too long.
abbrev pub Uncrunchable : List ℕ → Ending → Type 0
Uncrunchable bytes (Refused reason) =
    ((text_file_bytes < length bytes) × (reason ≡ long_text)) ⊎ ((length bytes ≤ text_file_bytes) × IsTooLong bytes × (reason ≡ long_crunched))
Uncrunchable bytes (BadText piece) = (length bytes ≤ text_file_bytes) × IsBadText bytes piece
Uncrunchable bytes ending = ⊥

-- The shelf gave the bytes under TEXT, and was then handed their file for FILE.
pub record PutsFile (before after : SeenShelf) (text file bytes : List ℕ) : Type 0 where
  pub contents : List ℕ
  pub is_file : IsFileOf bytes contents
  pub reading : ReadsBack bytes contents
  pub logged : after.log ≡ Put file contents ∷ Took text bytes ∷ before.log
  pub held : Tells (after.content file) (Some contents)

-- Why bytes that were taken end a tokenising like this.
abbrev pub BytesEndCrunch : SeenShelf → SeenShelf → List ℕ → List ℕ → List ℕ → Ending → Type 0
BytesEndCrunch before after text file bytes Done = PutsFile before after text file bytes
BytesEndCrunch before after text file bytes Usage = ⊥
BytesEndCrunch before after text file bytes (Refused reason) =
    ((after.log ≡ Took text bytes ∷ before.log) × ((reason ≡ refusals.NoMemory) ⊎ (IsTooLong bytes × (reason ≡ long_crunched))))
    ⊎ ((contents : List ℕ) × (after.log ≡ NotPut file contents put_errors.NoMemory ∷ Took text bytes ∷ before.log) × (reason ≡ refusals.NoMemory))
BytesEndCrunch before after text file bytes (ReadFault name) = ⊥
BytesEndCrunch before after text file bytes WriteFault =
    (contents : List ℕ) × IsFileOf bytes contents × (after.log ≡ NotPut file contents put_errors.Failed ∷ Took text bytes ∷ before.log)
    × Rose before.put_faults after.put_faults
BytesEndCrunch before after text file bytes (NotImage at) = ⊥
BytesEndCrunch before after text file bytes (BadText piece) = (after.log ≡ Took text bytes ∷ before.log) × IsBadText bytes piece
BytesEndCrunch before after text file bytes (Ran end bound) = ⊥

-- why `crunch` ends so
abbrev pub EndsCrunch : SeenShelf → SeenShelf → List ℕ → List ℕ → Ending → Type 0
EndsCrunch before after text file ending =
    TakeFails before after text text_file_bytes long_text ending
    ⊎ ((bytes : List ℕ) × Tells (before.content text) (Some bytes) × (length bytes ≤ text_file_bytes) × BytesEndCrunch before after text file bytes ending)

-- What `crunch` promises of its status.
pub record Crunches (before after : SeenShelf) (out_before out_after : SeenSink) (text file : List ℕ) (status : Status) : Type 0 where
  -- Done, it has taken the text and put its file under FILE, which reads back as the lines of the text; and it asked nothing
  -- else of the shelf.
  pub crunched : status ≡ statuses.Done → (bytes : List ℕ) × Tells (before.content text) (Some bytes) × PutsFile before after text file bytes
  -- a text that has a file is tokenised, where the shelf failed at no put and there was memory
  pub complete : (bytes contents : List ℕ) → IsContent before after text bytes → length bytes ≤ text_file_bytes → IsFileOf bytes contents
      → (Rose before.put_faults after.put_faults → ⊥) → (status ≡ statuses.Done) ⊎ (status ≡ statuses.NoMemory)
  -- a text that has none is refused for its reason, where there was memory
  pub refused : (bytes : List ℕ) (ending : Ending) → IsContent before after text bytes → Uncrunchable bytes ending
      → (status ≡ status_of ending) ⊎ (status ≡ statuses.NoMemory)
  -- a text that isn't there can't be read
  pub missing : before.content text ≡ Some None → (status ≡ statuses.ReadFault) ⊎ (status ≡ statuses.NoMemory)
  pub unreadable : status ≡ statuses.ReadFault → CannotRead before after text
  -- no name but FILE changes, and that only where the file came to be written; the output was not called
  pub others : (n : List ℕ) → n ≢ file → after.content n ≡ before.content n
  pub same : MayWrite status ⊎ Same before after
  pub silent : Silent out_before out_after
