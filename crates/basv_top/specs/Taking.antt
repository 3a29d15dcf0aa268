-- Taking a content from a shelf, and what comes of it. This project's own.
use Rattle.std.specs.Prelude.{◌≡◌, ◌⊎◌, ℕ, ◌≤◌, List, ◌∷◌, ◌++◌, Some, None}
use Rattle.bv_io.specs.declared.shelf.TakeError.TheVariants as take_errors
use Rattle.bv_io.specs.Log.{Event, Took, NotTaken}
use Rattle.bv_io.specs.Shelf.{Rose, Tells, TellsMore}
use Rattle.profile_check.specs.declared.refusal.Refusal.{Refusal}
use Rattle.profile_check.specs.declared.refusal.Refusal.TheVariants as refusals
use Rattle.basv_top.specs.Ending.{Ending, Done, Usage, Refused, ReadFault, WriteFault, NotImage, BadText, Ran}
use Rattle.basv_top.specs.Seen.{SeenShelf, Same}

-- the shelf gave these bytes under the name, when it was asked for the first time
abbrev pub Gave : SeenShelf → SeenShelf → List ℕ → List ℕ → Type 0
Gave before after name bytes = (later : List Event) × (after.log ≡ later ++ Took name bytes ∷ before.log)

-- These bytes are the content of the name for this call: the shelf gave them, or it holds them and failed at no take.
abbrev pub IsContent : SeenShelf → SeenShelf → List ℕ → List ℕ → Type 0
IsContent before after name bytes =
    Gave before after name bytes ⊎ ((before.content name ≡ Some (Some bytes)) × (Rose before.take_faults after.take_faults → ⊥))

-- Nothing is held under the name, or the shelf failed to give it. It was asked once.
abbrev pub CannotRead : SeenShelf → SeenShelf → List ℕ → Type 0
CannotRead before after name =
    ((after.log ≡ NotTaken name take_errors.Missing ∷ before.log) × (before.content name ≡ Some None))
    ⊎ ((after.log ≡ NotTaken name take_errors.Failed ∷ before.log) × Rose before.take_faults after.take_faults)

-- Why a command ends whose name could not be taken, where a content of more than this number of bytes is refused like this.
abbrev pub TakeFails : SeenShelf → SeenShelf → List ℕ → ℕ → Refusal → Ending → Type 0
TakeFails before after name max too_long Done = ⊥
TakeFails before after name max too_long Usage = ⊥
TakeFails before after name max too_long (Refused reason) =
    ((after.log ≡ NotTaken name take_errors.NoMemory ∷ before.log) × (reason ≡ refusals.NoMemory))
    ⊎ ((after.log ≡ NotTaken name take_errors.TooLong ∷ before.log) × TellsMore (before.content name) max × (reason ≡ too_long))
TakeFails before after name max too_long (ReadFault missing) = (missing ≡ name) × CannotRead before after name
TakeFails before after name max too_long WriteFault = ⊥
TakeFails before after name max too_long (NotImage at) = ⊥
TakeFails before after name max too_long (BadText piece) = ⊥
TakeFails before after name max too_long (Ran end bound) = ⊥

-- no name changed and no put failed, and the count of failed takes did not fall
pub record Calm (before after : SeenShelf) : Type 0 where
  pub same : Same before after
  pub put_faults : after.put_faults ≡ before.put_faults
  pub take_faults : before.take_faults ≤ after.take_faults

-- the shelf was asked once, and gave these bytes, which are those that it tells
abbrev pub Takes : SeenShelf → SeenShelf → List ℕ → List ℕ → Type 0
Takes before after name bytes = (after.log ≡ Took name bytes ∷ before.log) × Tells (before.content name) (Some bytes)
