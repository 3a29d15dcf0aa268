-- What a take that was made, or could not be made, says of the content of its name.
use Rattle.std.proofs.Common.{◌≡◌, ◌⊎◌, inl, inr, ℕ, ◌<◌, List, [], ◌∷◌, ◌++◌, length, get_or, Option, Some, None, unwrap_or, Err, Vec, Global, IsErrOf, refl, sym, ap, subst, ◌∙◌, append_assoc, arith}
use Rattle.std.proofs.lemmas.List.{append_cancel_right, length-append}
use Rattle.profile_check.specs.declared.refusal.Refusal.{Refusal}
use Rattle.bv_io.specs.declared.shelf.TakeError.{TakeError}
use Rattle.bv_io.specs.declared.shelf.TakeError.TheVariants as take_errors
use Rattle.bv_io.specs.Log.{Event, Took, NotTaken}
use Rattle.bv_io.specs.Shelf.{Rose, Tells, TellsMore}
use Rattle.basv_top.specs.declared.status.Status.TheVariants as statuses
use Rattle.basv_top.specs.Ending as endings
use Rattle.basv_top.specs.Ending.{Ending, take_ending, status_of, refusal_status}
use Rattle.basv_top.specs.Seen.{SeenShelf}
use Rattle.basv_top.specs.Taking.{Gave, IsContent, CannotRead, TakeFails}

-- the last of one element
one_event : (later : List Event) (e f : Event) → later ++ e ∷ [] ≡ f ∷ [] → e ≡ f
one_event [] e f is = ap (λ l. get_or l 0 e) is
one_event (x ∷ xs) e f is = absurd (omega (arith, ap length is, length-append xs (e ∷ [])))

-- where lists of events end in one each, these are the same
same_first : (xs ys : List Event) (e f : Event) → xs ++ e ∷ [] ≡ ys ++ f ∷ [] → e ≡ f
same_first [] ys e f is = sym (one_event ys f e (sym is))
same_first (x ∷ xs) [] e f is = one_event (x ∷ xs) e f is
same_first (x ∷ xs) (y ∷ ys) e f is = same_first xs ys e f (ap tail is)
  where
    tail : List Event → List Event
    tail [] = []
    tail (z ∷ zs) = zs

-- the first event that came after a log is one
pub one_first : (xs ys log : List Event) (e f : Event) → xs ++ e ∷ log ≡ ys ++ f ∷ log → e ≡ f
one_first xs ys log e f is = same_first xs ys e f (append_cancel_right (xs ++ e ∷ []) (ys ++ f ∷ []) log (append_assoc xs (e ∷ []) log ∙ is ∙ sym (append_assoc ys (f ∷ []) log)))

-- the bytes of an event that is a take which gave some
abbrev bytes_of : Event → List ℕ → List ℕ
bytes_of (Took name bytes) default = bytes
bytes_of event default = default

-- an event is a take that gave bytes
abbrev IsTook : Event → Type 0
IsTook (Took name bytes) = Unit {0}
IsTook event = ⊥

pub same_bytes : (name file bytes given : List ℕ) → Took name bytes ≡ Took file given → given ≡ bytes
same_bytes name file bytes given is = sym (ap (λ e. bytes_of e bytes) is)

-- what is told of a name is the content that it holds
pub told_is : (told : Option (Option (List ℕ))) (bytes given : List ℕ) → told ≡ Some (Some bytes) → Tells told (Some given) → given ≡ bytes
told_is told bytes given is tells = let e : Some bytes ≡ Some given = subst (λ t. Tells t (Some given)) is tells in sym (ap (λ o. unwrap_or o bytes) e)

missing≢told : (bytes : List ℕ) → Some (Some bytes) ≡ Some None → ⊥
missing≢told bytes e = let held : Some bytes ≡ None = ap (λ o. unwrap_or o None) e in cc

-- a name under which nothing is held gave nothing
pub missing≢taken : (told : Option (Option (List ℕ))) (given : List ℕ) → told ≡ Some None → Tells told (Some given) → ⊥
missing≢taken told given is tells = let e : None ≡ Some given = subst (λ t. Tells t (Some given)) is tells in cc

-- the bytes that were taken are the content of the name
module _ (before after : SeenShelf) (name bytes given : List ℕ) where
  pub gave_is : Gave before after name given → Tells (before.content name) (Some given) → IsContent before after name bytes → given ≡ bytes
  gave_is gave tells (inl other) = same_bytes name name bytes given (one_first other.0 gave.0 before.log (Took name bytes) (Took name given) (sym other.1 ∙ gave.1))
  gave_is gave tells (inr held) = told_is (before.content name) bytes given held.0 tells

  pub taken_is : after.log ≡ Took name given ∷ before.log → Tells (before.content name) (Some given) → IsContent before after name bytes → given ≡ bytes
  taken_is logged tells is = gave_is ([], logged) tells is

  pub taken_before_is : (event : Event) → after.log ≡ event ∷ Took name given ∷ before.log → Tells (before.content name) (Some given) → IsContent before after name bytes → given ≡ bytes
  taken_before_is event logged tells is = gave_is (event ∷ [], logged) tells is

module _ (before after : SeenShelf) (name : List ℕ) (max : ℕ) (long : Refusal) where
  -- a take that gave bytes is no take that gave none
  not_given : (error : TakeError) (bytes : List ℕ) → after.log ≡ NotTaken name error ∷ before.log → Gave before after name bytes → ⊥
  not_given error bytes logged gave =
      let e : Took name bytes ≡ NotTaken name error = one_first gave.0 [] before.log (Took name bytes) (NotTaken name error) (sym gave.1 ∙ logged) in
      subst IsTook e tt

  cannot_read : (bytes : List ℕ) → CannotRead before after name → IsContent before after name bytes → ⊥
  cannot_read bytes (inl missing) (inl gave) = not_given take_errors.Missing bytes missing.0 gave
  cannot_read bytes (inr failed) (inl gave) = not_given take_errors.Failed bytes failed.0 gave
  cannot_read bytes (inl missing) (inr held) = missing≢told bytes (sym held.0 ∙ missing.1)
  cannot_read bytes (inr failed) (inr held) = held.1 failed.1

  -- a name that has a content is not taken only where memory runs out, or for its length
  pub untaken_content : (bytes : List ℕ) (ending : Ending) → TakeFails before after name max long ending → IsContent before after name bytes → (status_of ending ≡ statuses.NoMemory) ⊎ ((ending ≡ endings.Refused long) × (max < length bytes))
  untaken_content bytes endings.Done fails is = absurd fails
  untaken_content bytes endings.Usage fails is = absurd fails
  untaken_content bytes (endings.Refused reason) (inl none) is = inl (ap refusal_status none.1)
  untaken_content bytes (endings.Refused reason) (inr more) (inl gave) = absurd (not_given take_errors.TooLong bytes more.0 gave)
  untaken_content bytes (endings.Refused reason) (inr more) (inr held) = inr (ap endings.Refused more.2, subst (λ t. TellsMore t max) held.0 more.1)
  untaken_content bytes (endings.ReadFault missing) fails is = absurd (cannot_read bytes fails.1 is)
  untaken_content bytes endings.WriteFault fails is = absurd fails
  untaken_content bytes (endings.NotImage at) fails is = absurd fails
  untaken_content bytes (endings.BadText piece) fails is = absurd fails
  untaken_content bytes (endings.Ran end bound) fails is = absurd fails

  -- a name under which nothing is held can't be read
  pub untaken_missing : (ending : Ending) → TakeFails before after name max long ending → before.content name ≡ Some None → (status_of ending ≡ statuses.ReadFault) ⊎ (status_of ending ≡ statuses.NoMemory)
  untaken_missing endings.Done fails is = absurd fails
  untaken_missing endings.Usage fails is = absurd fails
  untaken_missing (endings.Refused reason) (inl none) is = inr (ap refusal_status none.1)
  untaken_missing (endings.Refused reason) (inr more) is = absurd (subst (λ t. TellsMore t max) is more.1)
  untaken_missing (endings.ReadFault missing) fails is = inl refl
  untaken_missing endings.WriteFault fails is = absurd fails
  untaken_missing (endings.NotImage at) fails is = absurd fails
  untaken_missing (endings.BadText piece) fails is = absurd fails
  untaken_missing (endings.Ran end bound) fails is = absurd fails

  -- why a name could not be taken, by the shelf's error
  pub take_fails : (error : TakeError) (ending : Ending) → ending ≡ take_ending error name long → after.log ≡ NotTaken name error ∷ before.log
      → (IsErrOf {T = Vec ℕ Global} (Err error) take_errors.Missing → before.content name ≡ Some None)
      → (IsErrOf {T = Vec ℕ Global} (Err error) take_errors.TooLong → TellsMore (before.content name) max)
      → (IsErrOf {T = Vec ℕ Global} (Err error) take_errors.Failed → Rose before.take_faults after.take_faults) → TakeFails before after name max long ending
  take_fails error ending is logged missing more failed = subst (TakeFails before after name max long) (sym is) (by_error error logged missing more failed)
    where
      by_error : (error : TakeError) → after.log ≡ NotTaken name error ∷ before.log
          → (IsErrOf {T = Vec ℕ Global} (Err error) take_errors.Missing → before.content name ≡ Some None)
          → (IsErrOf {T = Vec ℕ Global} (Err error) take_errors.TooLong → TellsMore (before.content name) max)
          → (IsErrOf {T = Vec ℕ Global} (Err error) take_errors.Failed → Rose before.take_faults after.take_faults) → TakeFails before after name max long (take_ending error name long)
      by_error take_errors.Missing logged missing more failed = (refl, inl (logged, missing refl))
      by_error take_errors.Failed logged missing more failed = (refl, inr (logged, failed refl))
      by_error take_errors.TooLong logged missing more failed = inr (logged, more refl, refl)
      by_error take_errors.NoMemory logged missing more failed = inl (logged, refl)
