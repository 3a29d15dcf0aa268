-- The statuses of names that could not be taken.
use Rattle.std.proofs.Common.{◌≡◌, ℕ, List}
use Rattle.basv_top.specs.declared.status.Status.TheVariants as statuses
use Rattle.basv_top.specs.Ending as endings
use Rattle.basv_top.specs.Ending.{Ending, status_of}
use Rattle.basv_top.specs.Seen.{SeenShelf}
use Rattle.basv_top.specs.Taking.{CannotRead, TakeFails}
use Rattle.basv_top.specs.RunPromises.{IsRunStatus}
use Rattle.basv_top.proofs.Statuses.{refused≢, refused≢run}

-- none of a run
pub untaken≢run : (before after : SeenShelf) (name : List ℕ) (max : ℕ) (long : _) (ending : Ending) → TakeFails before after name max long ending → IsRunStatus (status_of ending) → ⊥
untaken≢run before after name max long endings.Done fails ends = fails
untaken≢run before after name max long endings.Usage fails ends = fails
untaken≢run before after name max long (endings.Refused reason) fails ends = refused≢run reason ends
untaken≢run before after name max long (endings.ReadFault missing) fails ends = ends
untaken≢run before after name max long endings.WriteFault fails ends = fails
untaken≢run before after name max long (endings.NotImage at) fails ends = fails
untaken≢run before after name max long (endings.BadText piece) fails ends = fails
untaken≢run before after name max long (endings.Ran end bound) fails ends = fails

-- nor that of a fault in writing
pub untaken≢write : (before after : SeenShelf) (name : List ℕ) (max : ℕ) (long : _) (ending : Ending) → TakeFails before after name max long ending → status_of ending ≡ statuses.WriteFault → ⊥
untaken≢write before after name max long endings.Done fails ends = fails
untaken≢write before after name max long endings.Usage fails ends = fails
untaken≢write before after name max long (endings.Refused reason) fails ends = refused≢ reason statuses.WriteFault ends (λ none. none)
untaken≢write before after name max long (endings.ReadFault missing) fails ends = cc
untaken≢write before after name max long endings.WriteFault fails ends = fails
untaken≢write before after name max long (endings.NotImage at) fails ends = fails
untaken≢write before after name max long (endings.BadText piece) fails ends = fails
untaken≢write before after name max long (endings.Ran end bound) fails ends = fails

-- where it can't be read, the name is why
pub untaken_unread : (before after : SeenShelf) (name : List ℕ) (max : ℕ) (long : _) (ending : Ending) → TakeFails before after name max long ending → status_of ending ≡ statuses.ReadFault → CannotRead before after name
untaken_unread before after name max long endings.Done fails is = absurd fails
untaken_unread before after name max long endings.Usage fails is = absurd fails
untaken_unread before after name max long (endings.Refused reason) fails is = absurd (refused≢ reason statuses.ReadFault is (λ none. none))
untaken_unread before after name max long (endings.ReadFault missing) fails is = fails.1
untaken_unread before after name max long endings.WriteFault fails is = absurd fails
untaken_unread before after name max long (endings.NotImage at) fails is = absurd fails
untaken_unread before after name max long (endings.BadText piece) fails is = absurd fails
untaken_unread before after name max long (endings.Ran end bound) fails is = absurd fails
