-- What `crunch` promises follows from why it ends.
use Rattle.std.proofs.Common.{◌≡◌, ◌≢◌, ◌⊎◌, inl, inr, ℕ, ◌<◌, ◌≤◌, List, length, Some, None, refl, sym, ap, subst, ◌∙◌, arith}
use Rattle.bv_base.specs.Limits.{text_file_bytes}
use Rattle.bv_io.specs.declared.shelf.PutError.TheVariants as put_errors
use Rattle.bv_io.specs.Log.{Put, NotPut}
use Rattle.bv_io.specs.Shelf.{Rose, Tells}
use Rattle.basv_crunch.specs.Crunched.{IsFileOf, IsBadText, IsTooLong}
use Rattle.basv_crunch.proofs.OneAnswer.{one_answer}
use Rattle.basv_top.specs.declared.status.Status.TheVariants as statuses
use Rattle.basv_top.specs.Ending as endings
use Rattle.basv_top.specs.Ending.{Ending, status_of, refusal_status, long_text, long_crunched}
use Rattle.basv_top.specs.Seen.{SeenShelf, SeenSink, Silent, Same}
use Rattle.basv_top.specs.Taking.{IsContent, CannotRead}
use Rattle.basv_top.specs.CompileCommand.{MayWrite}
use Rattle.basv_top.specs.CrunchCommand.{Uncrunchable, PutsFile, EndsCrunch, Crunches}
use Rattle.basv_top.proofs.Taken.{taken_is, taken_before_is, missing≢taken, untaken_content, untaken_missing}
use Rattle.basv_top.proofs.Statuses.{refused≢}

-- a text that has a file is refused for nothing
file≢uncrunchable : (bytes contents : List ℕ) (ending : Ending) → length bytes ≤ text_file_bytes → IsFileOf bytes contents → Uncrunchable bytes ending → ⊥
file≢uncrunchable bytes contents endings.Done short file why = why
file≢uncrunchable bytes contents endings.Usage short file why = why
file≢uncrunchable bytes contents (endings.Refused reason) short file (inl long) = omega (arith, short, long.0)
file≢uncrunchable bytes contents (endings.Refused reason) short file (inr long) = (one_answer bytes).file_or_long contents file long.1
file≢uncrunchable bytes contents (endings.ReadFault name) short file why = why
file≢uncrunchable bytes contents endings.WriteFault short file why = why
file≢uncrunchable bytes contents (endings.NotImage at) short file why = why
file≢uncrunchable bytes contents (endings.BadText piece) short file why = (one_answer bytes).file_or_bad contents piece file why.1
file≢uncrunchable bytes contents (endings.Ran end bound) short file why = why

-- a text that is too long, or whose file is, is refused with one status
long_once : (bytes : List ℕ) (ending : Ending) → (text_file_bytes < length bytes) ⊎ IsTooLong bytes → Uncrunchable bytes ending → status_of ending ≡ statuses.Limit
long_once bytes endings.Done long why = absurd why
long_once bytes endings.Usage long why = absurd why
long_once bytes (endings.Refused reason) long (inl why) = ap refusal_status why.1
long_once bytes (endings.Refused reason) long (inr why) = ap refusal_status why.2
long_once bytes (endings.ReadFault name) long why = absurd why
long_once bytes endings.WriteFault long why = absurd why
long_once bytes (endings.NotImage at) long why = absurd why
long_once bytes (endings.BadText piece) (inl long) why = absurd (omega (arith, long, why.0))
long_once bytes (endings.BadText piece) (inr long) why = absurd ((one_answer bytes).bad_or_long piece why.1 long)
long_once bytes (endings.Ran end bound) long why = absurd why

-- and one of which a piece is no line with another
bad_once : (bytes : List ℕ) (place : ℕ) (ending : Ending) → length bytes ≤ text_file_bytes → IsBadText bytes place → Uncrunchable bytes ending → status_of ending ≡ statuses.BadText
bad_once bytes place endings.Done short bad why = absurd why
bad_once bytes place endings.Usage short bad why = absurd why
bad_once bytes place (endings.Refused reason) short bad (inl long) = absurd (omega (arith, short, long.0))
bad_once bytes place (endings.Refused reason) short bad (inr long) = absurd ((one_answer bytes).bad_or_long place bad long.1)
bad_once bytes place (endings.ReadFault name) short bad why = absurd why
bad_once bytes place endings.WriteFault short bad why = absurd why
bad_once bytes place (endings.NotImage at) short bad why = absurd why
bad_once bytes place (endings.BadText piece) short bad why = refl
bad_once bytes place (endings.Ran end bound) short bad why = absurd why

module _ (before after : SeenShelf) (text file : List ℕ) where
  crunched : (ending : Ending) → EndsCrunch before after text file ending → status_of ending ≡ statuses.Done
      → (bytes : List ℕ) × Tells (before.content text) (Some bytes) × PutsFile before after text file bytes
  crunched endings.Done (inl fails) is = absurd fails
  crunched endings.Done (inr ends) is = (ends.0, ends.1, ends.3)
  crunched endings.Usage ends is = cc
  crunched (endings.Refused reason) ends is = absurd (refused≢ reason statuses.Done is (λ none. none))
  crunched (endings.ReadFault name) ends is = cc
  crunched endings.WriteFault ends is = cc
  crunched (endings.NotImage at) ends is = cc
  crunched (endings.BadText piece) ends is = cc
  crunched (endings.Ran end bound) (inl fails) is = absurd fails
  crunched (endings.Ran end bound) (inr ends) is = absurd ends.3

  complete : (bytes contents : List ℕ) (ending : Ending) → EndsCrunch before after text file ending → IsContent before after text bytes → length bytes ≤ text_file_bytes → IsFileOf bytes contents
      → (Rose before.put_faults after.put_faults → ⊥) → (status_of ending ≡ statuses.Done) ⊎ (status_of ending ≡ statuses.NoMemory)
  complete bytes contents ending (inl fails) is short file_is calm =
      elim (untaken_content before after text text_file_bytes long_text bytes ending fails is) [
        | inl none ↦ inr none
        | inr long ↦ absurd (let l = long.1 in omega (arith, l, short))
      ]
  complete bytes contents endings.Done (inr ends) is short file_is calm = inl refl
  complete bytes contents endings.Usage (inr ends) is short file_is calm = absurd ends.3
  complete bytes contents (endings.Refused reason) (inr (given, tells, fits, inl (logged, inl none))) is short file_is calm = inr (ap refusal_status none)
  complete bytes contents (endings.Refused reason) (inr (given, tells, fits, inl (logged, inr long))) is short file_is calm =
      let same = taken_is before after text bytes given logged tells is in
      absurd ((one_answer bytes).file_or_long contents file_is (subst IsTooLong same long.0))
  complete bytes contents (endings.Refused reason) (inr (given, tells, fits, inr why)) is short file_is calm = inr (ap refusal_status why.2)
  complete bytes contents (endings.ReadFault name) (inr ends) is short file_is calm = absurd ends.3
  complete bytes contents endings.WriteFault (inr ends) is short file_is calm = absurd (calm ends.3.3)
  complete bytes contents (endings.NotImage at) (inr ends) is short file_is calm = absurd ends.3
  complete bytes contents (endings.BadText piece) (inr (given, tells, fits, bad)) is short file_is calm =
      let same = taken_is before after text bytes given bad.0 tells is in
      absurd ((one_answer bytes).file_or_bad contents piece file_is (subst (λ b. IsBadText b piece) same bad.1))
  complete bytes contents (endings.Ran end bound) (inr ends) is short file_is calm = absurd ends.3

  refused : (bytes : List ℕ) (verdict ending : Ending) → EndsCrunch before after text file ending → IsContent before after text bytes → Uncrunchable bytes verdict
      → (status_of ending ≡ status_of verdict) ⊎ (status_of ending ≡ statuses.NoMemory)
  refused bytes verdict ending (inl fails) is why =
      elim (untaken_content before after text text_file_bytes long_text bytes ending fails is) [
        | inl none ↦ inr none
        | inr long ↦ inl (ap status_of long.0 ∙ sym (long_once bytes verdict (inl long.1) why))
      ]
  refused bytes verdict endings.Done (inr (given, tells, fits, puts)) is why =
      let same = taken_before_is before after text bytes given (Put file puts.contents) puts.logged tells is in
      absurd (file≢uncrunchable bytes puts.contents verdict (subst (λ b. length b ≤ text_file_bytes) same fits) (subst (λ b. IsFileOf b puts.contents) same puts.is_file) why)
  refused bytes verdict endings.Usage (inr ends) is why = absurd ends.3
  refused bytes verdict (endings.Refused reason) (inr (given, tells, fits, inl (logged, inl none))) is why = inr (ap refusal_status none)
  refused bytes verdict (endings.Refused reason) (inr (given, tells, fits, inl (logged, inr long))) is why =
      let same = taken_is before after text bytes given logged tells is in
      inl (ap refusal_status long.1 ∙ sym (long_once bytes verdict (inr (subst IsTooLong same long.0)) why))
  refused bytes verdict (endings.Refused reason) (inr (given, tells, fits, inr also)) is why = inr (ap refusal_status also.2)
  refused bytes verdict (endings.ReadFault name) (inr ends) is why = absurd ends.3
  refused bytes verdict endings.WriteFault (inr (given, tells, fits, puts)) is why =
      let same = taken_before_is before after text bytes given (NotPut file puts.0 put_errors.Failed) puts.2 tells is in
      absurd (file≢uncrunchable bytes puts.0 verdict (subst (λ b. length b ≤ text_file_bytes) same fits) (subst (λ b. IsFileOf b puts.0) same puts.1) why)
  refused bytes verdict (endings.NotImage at) (inr ends) is why = absurd ends.3
  refused bytes verdict (endings.BadText piece) (inr (given, tells, fits, bad)) is why =
      let same = taken_is before after text bytes given bad.0 tells is in
      inl (sym (bad_once bytes piece verdict (subst (λ b. length b ≤ text_file_bytes) same fits) (subst (λ b. IsBadText b piece) same bad.1) why))
  refused bytes verdict (endings.Ran end bound) (inr ends) is why = absurd ends.3

  missing : (ending : Ending) → EndsCrunch before after text file ending → before.content text ≡ Some None → (status_of ending ≡ statuses.ReadFault) ⊎ (status_of ending ≡ statuses.NoMemory)
  missing ending (inl fails) is = untaken_missing before after text text_file_bytes long_text ending fails is
  missing ending (inr ends) is = absurd (missing≢taken (before.content text) ends.0 is ends.1)

  unreadable : (ending : Ending) → EndsCrunch before after text file ending → status_of ending ≡ statuses.ReadFault → CannotRead before after text
  unreadable endings.Done ends is = cc
  unreadable endings.Usage ends is = cc
  unreadable (endings.Refused reason) ends is = absurd (refused≢ reason statuses.ReadFault is (λ none. none))
  unreadable (endings.ReadFault name) (inl fails) is = fails.1
  unreadable (endings.ReadFault name) (inr ends) is = absurd ends.3
  unreadable endings.WriteFault ends is = cc
  unreadable (endings.NotImage at) ends is = cc
  unreadable (endings.BadText piece) ends is = cc
  unreadable (endings.Ran end bound) (inl fails) is = absurd fails
  unreadable (endings.Ran end bound) (inr ends) is = absurd ends.3

  pub crunches : (out_before out_after : SeenSink) (ending : Ending) → EndsCrunch before after text file ending → Silent out_before out_after
      → ((n : List ℕ) → n ≢ file → after.content n ≡ before.content n) → MayWrite (status_of ending) ⊎ Same before after
      → Crunches before after out_before out_after text file (status_of ending)
  crunches out_before out_after ending ends silent others same = record {
    crunched = crunched ending ends;
    complete = λ bytes contents. complete bytes contents ending ends;
    refused = λ bytes verdict. refused bytes verdict ending ends;
    missing = missing ending ends;
    unreadable = unreadable ending ends;
    others = others;
    same = same;
    silent = silent;
  }
