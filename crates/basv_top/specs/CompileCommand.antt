-- `compile FILE IMAGE`: why it ends as it does, and what it promises. This project's own.
use Rattle.std.specs.Prelude.{◌≡◌, ◌≢◌, ◌⊎◌, ℕ, List, ◌∷◌, Some, None}
use Rattle.bv_base.specs.Limits.{file_bytes}
use Rattle.bv_io.specs.declared.shelf.PutError.TheVariants as put_errors
use Rattle.bv_io.specs.Log.{Took, Put, NotPut}
use Rattle.bv_io.specs.Shelf.{Rose, Tells}
use Rattle.bas_ast.specs.declared.program.Prog.{Prog}
use Rattle.profile_check.specs.declared.refusal.Refusal.{Refusal}
use Rattle.profile_check.specs.declared.refusal.Refusal.TheVariants as refusals
use Rattle.bas_compile.specs.Correct.{CompilesTo}
use Rattle.profile_check.specs.Files as files
use Rattle.profile_check.specs.Files.{Accepted}
use Rattle.basv_top.specs.declared.status.Status.{Status}
use Rattle.basv_top.specs.declared.status.Status.TheVariants as statuses
use Rattle.basv_top.specs.Ending.{Ending, Done, Usage, Refused, ReadFault, WriteFault, NotImage, BadText, Ran, refusal_status, long_file}
use Rattle.basv_top.specs.Seen.{SeenShelf, SeenSink, Silent, Same}
use Rattle.basv_top.specs.Taking.{IsContent, CannotRead, TakeFails}

-- the shelf gave these bytes under FILE, and was asked nothing else
abbrev pub OnlyTook : SeenShelf → SeenShelf → List ℕ → List ℕ → Type 0
OnlyTook before after file bytes = after.log ≡ Took file bytes ∷ before.log

-- The shelf gave the bytes under FILE, and was then handed contents for IMAGE to which they compile.
pub record PutsImage (before after : SeenShelf) (file image bytes : List ℕ) : Type 0 where
  pub contents : List ℕ
  pub compiled : CompilesTo bytes contents
  pub logged : after.log ≡ Put image contents ∷ Took file bytes ∷ before.log
  pub held : Tells (after.content image) (Some contents)

-- Why bytes that were taken end a compile like this.
abbrev pub BytesEndCompile : SeenShelf → SeenShelf → List ℕ → List ℕ → List ℕ → Ending → Type 0
BytesEndCompile before after file image bytes Done = PutsImage before after file image bytes
BytesEndCompile before after file image bytes Usage = ⊥
BytesEndCompile before after file image bytes (Refused reason) =
    (OnlyTook before after file bytes × files.FileExplained bytes reason)
    ⊎ ((contents : List ℕ) × (after.log ≡ NotPut image contents put_errors.NoMemory ∷ Took file bytes ∷ before.log) × (reason ≡ refusals.NoMemory))
BytesEndCompile before after file image bytes (ReadFault name) = ⊥
BytesEndCompile before after file image bytes WriteFault =
    (contents : List ℕ) × CompilesTo bytes contents × (after.log ≡ NotPut image contents put_errors.Failed ∷ Took file bytes ∷ before.log)
    × Rose before.put_faults after.put_faults
BytesEndCompile before after file image bytes (NotImage at) = ⊥
BytesEndCompile before after file image bytes (BadText piece) = ⊥
BytesEndCompile before after file image bytes (Ran end bound) = ⊥

-- why `compile` ends so
abbrev pub EndsCompile : SeenShelf → SeenShelf → List ℕ → List ℕ → Ending → Type 0
EndsCompile before after file image ending =
    TakeFails before after file file_bytes long_file ending
    ⊎ ((bytes : List ℕ) × Tells (before.content file) (Some bytes) × BytesEndCompile before after file image bytes ending)

-- the image may have been written
abbrev pub MayWrite : Status → Type 0
MayWrite status = (status ≡ statuses.Done) ⊎ (status ≡ statuses.WriteFault)

-- What `compile` promises of its status.
pub record Compiles (before after : SeenShelf) (out_before out_after : SeenSink) (file image : List ℕ) (status : Status) : Type 0 where
  -- Done, it has taken the file and put an image under IMAGE that agrees with the one program that the file is accepted
  -- as, on every input; and it asked nothing else of the shelf.
  pub headline : status ≡ statuses.Done → (bytes : List ℕ) × Tells (before.content file) (Some bytes) × PutsImage before after file image bytes
  -- an accepted file is compiled, where the shelf failed at no put and there was memory
  pub complete : (bytes : List ℕ) (program : Prog) → IsContent before after file bytes → Accepted bytes program
      → (Rose before.put_faults after.put_faults → ⊥) → (status ≡ statuses.Done) ⊎ (status ≡ statuses.NoMemory)
  -- a refused file is refused for its reason, where there was memory
  pub refused : (bytes : List ℕ) (reason : Refusal) → IsContent before after file bytes → files.Refused bytes reason
      → (status ≡ refusal_status reason) ⊎ (status ≡ statuses.NoMemory)
  -- a file that isn't there can't be read
  pub missing : before.content file ≡ Some None → (status ≡ statuses.ReadFault) ⊎ (status ≡ statuses.NoMemory)
  pub unreadable : status ≡ statuses.ReadFault → CannotRead before after file
  -- no name but IMAGE changes, and that only where the image came to be written; the output was not called
  pub others : (n : List ℕ) → n ≢ image → after.content n ≡ before.content n
  pub same : MayWrite status ⊎ Same before after
  pub silent : Silent out_before out_after
