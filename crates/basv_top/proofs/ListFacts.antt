-- What `list` promises follows from why it ends.
use Rattle.std.proofs.Common.{◌≡◌, ◌⊎◌, inl, inr, ℕ, ◌<◌, ◌≤◌, List, ◌∷◌, length, Some, None, refl, sym, ap, subst, ◌∙◌, arith}
use Rattle.bv_base.specs.Limits.{file_bytes}
use Rattle.bv_io.specs.Log.{Wrote}
use Rattle.bv_io.specs.Shelf.{Rose}
use Rattle.bv_io.specs.Sink.{with_bytes}
use Rattle.token_file.specs.declared.line.Line.{Line}
use Rattle.token_file.specs.Lines.{Lines}
use Rattle.token_file.proofs.OneReading.{one_reading}
use Rattle.profile_check.specs.declared.refusal.Refusal.{Refusal}
use Rattle.profile_check.specs.declared.refusal.Refusal.TheVariants as refusals
use Rattle.profile_check.specs.declared.refusal.Which.TheVariants as limits
use Rattle.basv_top.specs.declared.status.Status.TheVariants as statuses
use Rattle.basv_top.specs.Ending as endings
use Rattle.basv_top.specs.Ending.{Ending, status_of, refusal_status, long_file}
use Rattle.lister.specs.Listings.{listings}
use Rattle.basv_top.specs.Seen.{SeenShelf, SeenSink, Silent, Same}
use Rattle.basv_top.specs.Taking.{IsContent, CannotRead, Takes}
use Rattle.basv_top.specs.ListCommand.{Unlistable, EndsList, Lists}
use Rattle.basv_top.proofs.Taken.{taken_is, missing≢taken, untaken_content, untaken_missing}
use Rattle.basv_top.proofs.Statuses.{refused≢}

-- a file that has lines can be listed
listable : (bytes : List ℕ) (lines : List Line) (reason : Refusal) → length bytes ≤ file_bytes → Lines bytes lines → Unlistable bytes reason → ⊥
listable bytes lines (refusals.Malformed at) short read why = (one_reading bytes).never_both lines at read why.1
listable bytes lines (refusals.Outside line) short read why = why
listable bytes lines (refusals.Limit limits.File count) short read why = omega (arith, short, why.0)
listable bytes lines (refusals.Limit limits.Names count) short read why = why
listable bytes lines (refusals.Limit limits.Strings count) short read why = why
listable bytes lines (refusals.Limit limits.Parameters count) short read why = why
listable bytes lines (refusals.Limit limits.Dimensions count) short read why = why
listable bytes lines (refusals.Limit limits.Input count) short read why = why
listable bytes lines (refusals.Limit limits.Image count) short read why = why
listable bytes lines (refusals.Limit limits.Text count) short read why = why
listable bytes lines refusals.NoMemory short read why = why

-- too many bytes are refused for that alone
only_long : (bytes : List ℕ) (reason : Refusal) → file_bytes < length bytes → Unlistable bytes reason → refusal_status reason ≡ statuses.Limit
only_long bytes (refusals.Malformed at) long why = absurd (omega (arith, long, why.0))
only_long bytes (refusals.Outside line) long why = absurd why
only_long bytes (refusals.Limit which count) long why = refl
only_long bytes refusals.NoMemory long why = absurd why

-- bytes are refused with one status
unlistable_once : (bytes : List ℕ) (a b : Refusal) → Unlistable bytes a → Unlistable bytes b → refusal_status a ≡ refusal_status b
unlistable_once bytes (refusals.Malformed at) (refusals.Malformed place) r q = refl
unlistable_once bytes (refusals.Malformed at) (refusals.Outside line) r q = absurd q
unlistable_once bytes (refusals.Malformed at) (refusals.Limit limits.File count) r q = absurd (omega (arith, r.0, q.0))
unlistable_once bytes (refusals.Malformed at) (refusals.Limit limits.Names count) r q = absurd q
unlistable_once bytes (refusals.Malformed at) (refusals.Limit limits.Strings count) r q = absurd q
unlistable_once bytes (refusals.Malformed at) (refusals.Limit limits.Parameters count) r q = absurd q
unlistable_once bytes (refusals.Malformed at) (refusals.Limit limits.Dimensions count) r q = absurd q
unlistable_once bytes (refusals.Malformed at) (refusals.Limit limits.Input count) r q = absurd q
unlistable_once bytes (refusals.Malformed at) (refusals.Limit limits.Image count) r q = absurd q
unlistable_once bytes (refusals.Malformed at) (refusals.Limit limits.Text count) r q = absurd q
unlistable_once bytes (refusals.Malformed at) refusals.NoMemory r q = absurd q
unlistable_once bytes (refusals.Outside line) b r q = absurd r
unlistable_once bytes (refusals.Limit limits.File count) b r q = sym (only_long bytes b r.0 q)
unlistable_once bytes (refusals.Limit limits.Names count) b r q = absurd r
unlistable_once bytes (refusals.Limit limits.Strings count) b r q = absurd r
unlistable_once bytes (refusals.Limit limits.Parameters count) b r q = absurd r
unlistable_once bytes (refusals.Limit limits.Dimensions count) b r q = absurd r
unlistable_once bytes (refusals.Limit limits.Input count) b r q = absurd r
unlistable_once bytes (refusals.Limit limits.Image count) b r q = absurd r
unlistable_once bytes (refusals.Limit limits.Text count) b r q = absurd r
unlistable_once bytes refusals.NoMemory b r q = absurd r

module _ (before after : SeenShelf) (out_before out_after : SeenSink) (file : List ℕ) where
  listed : (ending : Ending) → EndsList before after out_before out_after file ending → status_of ending ≡ statuses.Done
      → (bytes : List ℕ) × (lines : List Line) × Takes before after file bytes × Lines bytes lines
      × (out_after.log ≡ Wrote (listings lines) ∷ out_before.log) × (out_after.written ≡ with_bytes out_before.written (listings lines))
  listed endings.Done (inl fails) is = absurd fails.0
  listed endings.Done (inr (bytes, takes, short, ends)) is = (bytes, ends.0, takes, ends.1, ends.2, ends.3)
  listed endings.Usage ends is = cc
  listed (endings.Refused reason) ends is = absurd (refused≢ reason statuses.Done is (λ none. none))
  listed (endings.ReadFault name) ends is = cc
  listed endings.WriteFault ends is = cc
  listed (endings.NotImage at) ends is = cc
  listed (endings.BadText piece) ends is = cc
  listed (endings.Ran end bound) (inl fails) is = absurd fails.0
  listed (endings.Ran end bound) (inr ends) is = absurd ends.3

  complete : (bytes : List ℕ) (lines : List Line) (ending : Ending) → EndsList before after out_before out_after file ending → IsContent before after file bytes → length bytes ≤ file_bytes → Lines bytes lines
      → (Rose out_before.faults out_after.faults → ⊥) → (status_of ending ≡ statuses.Done) ⊎ (status_of ending ≡ statuses.NoMemory)
  complete bytes lines ending (inl fails) is short read calm =
      elim (untaken_content before after file file_bytes long_file bytes ending fails.0 is) [
        | inl none ↦ inr none
        | inr long ↦ absurd (let l = long.1 in omega (arith, l, short))
      ]
  complete bytes lines endings.Done (inr ends) is short read calm = inl refl
  complete bytes lines endings.Usage (inr ends) is short read calm = absurd ends.3
  complete bytes lines (endings.Refused reason) (inr (given, takes, fits, (inl none, silent))) is short read calm = inr (ap refusal_status none)
  complete bytes lines (endings.Refused reason) (inr (given, takes, fits, (inr why, silent))) is short read calm =
      let same = taken_is before after file bytes given takes.0 takes.1 is in
      absurd (listable bytes lines reason short read (subst (λ b. Unlistable b reason) same why))
  complete bytes lines (endings.ReadFault name) (inr ends) is short read calm = absurd ends.3
  complete bytes lines endings.WriteFault (inr ends) is short read calm = absurd (calm ends.3.4)
  complete bytes lines (endings.NotImage at) (inr ends) is short read calm = absurd ends.3
  complete bytes lines (endings.BadText piece) (inr ends) is short read calm = absurd ends.3
  complete bytes lines (endings.Ran end bound) (inr ends) is short read calm = absurd ends.3

  refused : (bytes : List ℕ) (reason : Refusal) (ending : Ending) → EndsList before after out_before out_after file ending → IsContent before after file bytes → Unlistable bytes reason
      → (status_of ending ≡ refusal_status reason) ⊎ (status_of ending ≡ statuses.NoMemory)
  refused bytes reason ending (inl fails) is why =
      elim (untaken_content before after file file_bytes long_file bytes ending fails.0 is) [
        | inl none ↦ inr none
        | inr long ↦ inl (ap status_of long.0 ∙ sym (only_long bytes reason long.1 why))
      ]
  refused bytes reason endings.Done (inr (given, takes, fits, ends)) is why =
      let same = taken_is before after file bytes given takes.0 takes.1 is in
      absurd (listable bytes ends.0 reason (subst (λ b. length b ≤ file_bytes) same fits) (subst (λ b. Lines b ends.0) same ends.1) why)
  refused bytes reason endings.Usage (inr ends) is why = absurd ends.3
  refused bytes reason (endings.Refused other) (inr (given, takes, fits, (inl none, silent))) is why = inr (ap refusal_status none)
  refused bytes reason (endings.Refused other) (inr (given, takes, fits, (inr also, silent))) is why =
      let same = taken_is before after file bytes given takes.0 takes.1 is in
      inl (unlistable_once bytes other reason (subst (λ b. Unlistable b other) same also) why)
  refused bytes reason (endings.ReadFault name) (inr ends) is why = absurd ends.3
  refused bytes reason endings.WriteFault (inr (given, takes, fits, ends)) is why =
      let same = taken_is before after file bytes given takes.0 takes.1 is in
      absurd (listable bytes ends.0 reason (subst (λ b. length b ≤ file_bytes) same fits) (subst (λ b. Lines b ends.0) same ends.1) why)
  refused bytes reason (endings.NotImage at) (inr ends) is why = absurd ends.3
  refused bytes reason (endings.BadText piece) (inr ends) is why = absurd ends.3
  refused bytes reason (endings.Ran end bound) (inr ends) is why = absurd ends.3

  missing : (ending : Ending) → EndsList before after out_before out_after file ending → before.content file ≡ Some None → (status_of ending ≡ statuses.ReadFault) ⊎ (status_of ending ≡ statuses.NoMemory)
  missing ending (inl fails) is = untaken_missing before after file file_bytes long_file ending fails.0 is
  missing ending (inr ends) is = absurd (missing≢taken (before.content file) ends.0 is ends.1.1)

  unreadable : (ending : Ending) → EndsList before after out_before out_after file ending → status_of ending ≡ statuses.ReadFault → CannotRead before after file
  unreadable endings.Done ends is = cc
  unreadable endings.Usage ends is = cc
  unreadable (endings.Refused reason) ends is = absurd (refused≢ reason statuses.ReadFault is (λ none. none))
  unreadable (endings.ReadFault name) (inl fails) is = fails.0.1
  unreadable (endings.ReadFault name) (inr ends) is = absurd ends.3
  unreadable endings.WriteFault ends is = cc
  unreadable (endings.NotImage at) ends is = cc
  unreadable (endings.BadText piece) ends is = cc
  unreadable (endings.Ran end bound) (inl fails) is = absurd fails.0
  unreadable (endings.Ran end bound) (inr ends) is = absurd ends.3

  silent : (ending : Ending) → EndsList before after out_before out_after file ending → (status_of ending ≡ statuses.Done → ⊥) → (status_of ending ≡ statuses.WriteFault → ⊥) → Silent out_before out_after
  silent ending (inl fails) not_done no_fault = fails.1
  silent endings.Done (inr ends) not_done no_fault = absurd (not_done refl)
  silent endings.Usage (inr ends) not_done no_fault = absurd ends.3
  silent (endings.Refused reason) (inr ends) not_done no_fault = ends.3.1
  silent (endings.ReadFault name) (inr ends) not_done no_fault = absurd ends.3
  silent endings.WriteFault (inr ends) not_done no_fault = absurd (no_fault refl)
  silent (endings.NotImage at) (inr ends) not_done no_fault = absurd ends.3
  silent (endings.BadText piece) (inr ends) not_done no_fault = absurd ends.3
  silent (endings.Ran end bound) (inr ends) not_done no_fault = absurd ends.3

  pub lists : (ending : Ending) → EndsList before after out_before out_after file ending → Same before after → Lists before after out_before out_after file (status_of ending)
  lists ending ends same = record {
    listed = listed ending ends;
    complete = λ bytes lines. complete bytes lines ending ends;
    refused = λ bytes reason. refused bytes reason ending ends;
    missing = missing ending ends;
    unreadable = unreadable ending ends;
    same = same;
    silent = silent ending ends;
  }
