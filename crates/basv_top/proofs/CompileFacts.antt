-- What `compile` promises follows from why it ends.
use Rattle.std.proofs.Common.{◌≡◌, ◌≢◌, ◌⊎◌, inl, inr, ℕ, List, Some, None, refl, ap, subst, ◌∙◌, arith}
use Rattle.bv_base.specs.Limits.{file_bytes}
use Rattle.bv_io.specs.declared.shelf.PutError.TheVariants as put_errors
use Rattle.bv_io.specs.Log.{Put, NotPut}
use Rattle.bv_io.specs.Shelf.{Rose, Tells}
use Rattle.bas_ast.specs.declared.program.Prog.{Prog}
use Rattle.profile_check.specs.declared.refusal.Refusal.{Refusal}
use Rattle.profile_check.specs.declared.refusal.Refusal.TheVariants as refusals
use Rattle.profile_check.specs.Files.{Accepted, Refused, FileExplained}
use Rattle.profile_check.proofs.FileVerdicts.{never_both, refused_once}
use Rattle.basv_top.specs.declared.status.Status.TheVariants as statuses
use Rattle.basv_top.specs.Ending as endings
use Rattle.basv_top.specs.Ending.{Ending, status_of, refusal_status, long_file}
use Rattle.basv_top.specs.Seen.{SeenShelf, SeenSink, Silent, Same}
use Rattle.basv_top.specs.Taking.{IsContent, CannotRead}
use Rattle.basv_top.specs.CompileCommand.{PutsImage, EndsCompile, Compiles, MayWrite}
use Rattle.basv_top.proofs.Taken.{taken_is, taken_before_is, missing≢taken, untaken_content, untaken_missing}
use Rattle.basv_top.proofs.Statuses.{refused≢}

-- a refusal that is explained, of bytes that are accepted, wants memory
explained_accepted : (bytes : List ℕ) (program : Prog) (reason : Refusal) → Accepted bytes program → FileExplained bytes reason → refusal_status reason ≡ statuses.NoMemory
explained_accepted bytes program refusals.NoMemory accepted why = refl
explained_accepted bytes program (refusals.Malformed at) accepted why = absurd (never_both bytes program (refusals.Malformed at) accepted why)
explained_accepted bytes program (refusals.Outside line) accepted why = absurd (never_both bytes program (refusals.Outside line) accepted why)
explained_accepted bytes program (refusals.Limit which count) accepted why = absurd (never_both bytes program (refusals.Limit which count) accepted why)

-- a refusal that is explained, of bytes that are refused, has their reason or wants memory
explained_refused : (bytes : List ℕ) (reason given : Refusal) → Refused bytes reason → FileExplained bytes given → (refusal_status given ≡ refusal_status reason) ⊎ (refusal_status given ≡ statuses.NoMemory)
explained_refused bytes reason refusals.NoMemory refused why = inr refl
explained_refused bytes reason (refusals.Malformed at) refused why = inl (ap refusal_status (refused_once bytes (refusals.Malformed at) reason why refused))
explained_refused bytes reason (refusals.Outside line) refused why = inl (ap refusal_status (refused_once bytes (refusals.Outside line) reason why refused))
explained_refused bytes reason (refusals.Limit which count) refused why = inl (ap refusal_status (refused_once bytes (refusals.Limit which count) reason why refused))

module _ (before after : SeenShelf) (file image : List ℕ) where
  -- where the file was taken

  headline : (ending : Ending) → EndsCompile before after file image ending → status_of ending ≡ statuses.Done
      → (bytes : List ℕ) × Tells (before.content file) (Some bytes) × PutsImage before after file image bytes
  headline endings.Done (inl fails) is = absurd fails
  headline endings.Done (inr ends) is = ends
  headline endings.Usage (inl fails) is = absurd fails
  headline endings.Usage (inr ends) is = absurd ends.2
  headline (endings.Refused reason) ends is = absurd (refused≢ reason statuses.Done is (λ none. none))
  headline (endings.ReadFault name) ends is = cc
  headline endings.WriteFault ends is = cc
  headline (endings.NotImage at) ends is = cc
  headline (endings.BadText piece) ends is = cc
  headline (endings.Ran end bound) (inl fails) is = absurd fails
  headline (endings.Ran end bound) (inr ends) is = absurd ends.2

  complete : (bytes : List ℕ) (program : Prog) (ending : Ending) → EndsCompile before after file image ending → IsContent before after file bytes → Accepted bytes program
      → (Rose before.put_faults after.put_faults → ⊥) → (status_of ending ≡ statuses.Done) ⊎ (status_of ending ≡ statuses.NoMemory)
  complete bytes program ending (inl fails) is accepted calm =
      elim (untaken_content before after file file_bytes long_file bytes ending fails is) [
        | inl none ↦ inr none
        | inr long ↦ absurd (let l = long.1 in let s = accepted.short in omega (arith, l, s))
      ]
  complete bytes program endings.Done (inr ends) is accepted calm = inl refl
  complete bytes program endings.Usage (inr ends) is accepted calm = absurd ends.2
  complete bytes program (endings.Refused reason) (inr (given, tells, inl why)) is accepted calm =
      let same = taken_is before after file bytes given why.0 tells is in
      inr (explained_accepted bytes program reason accepted (subst (λ b. FileExplained b reason) same why.1))
  complete bytes program (endings.Refused reason) (inr (given, tells, inr why)) is accepted calm = inr (ap refusal_status why.2)
  complete bytes program (endings.ReadFault name) (inr ends) is accepted calm = absurd ends.2
  complete bytes program endings.WriteFault (inr ends) is accepted calm = absurd (calm ends.2.3)
  complete bytes program (endings.NotImage at) (inr ends) is accepted calm = absurd ends.2
  complete bytes program (endings.BadText piece) (inr ends) is accepted calm = absurd ends.2
  complete bytes program (endings.Ran end bound) (inr ends) is accepted calm = absurd ends.2

  refused : (bytes : List ℕ) (reason : Refusal) (ending : Ending) → EndsCompile before after file image ending → IsContent before after file bytes → Refused bytes reason
      → (status_of ending ≡ refusal_status reason) ⊎ (status_of ending ≡ statuses.NoMemory)
  refused bytes reason ending (inl fails) is why =
      elim (untaken_content before after file file_bytes long_file bytes ending fails is) [
        | inl none ↦ inr none
        | inr long ↦ inl (ap status_of long.0 ∙ ap refusal_status (refused_once bytes long_file reason (inl (long.1, refl)) why))
      ]
  refused bytes reason endings.Done (inr (given, tells, puts)) is why =
      let same = taken_before_is before after file bytes given (Put image puts.contents) puts.logged tells is in
      absurd (never_both bytes puts.compiled.program reason (subst (λ b. Accepted b puts.compiled.program) same puts.compiled.accepted) why)
  refused bytes reason endings.Usage (inr ends) is why = absurd ends.2
  refused bytes reason (endings.Refused other) (inr (given, tells, inl explained)) is why =
      let same = taken_is before after file bytes given explained.0 tells is in
      explained_refused bytes reason other why (subst (λ b. FileExplained b other) same explained.1)
  refused bytes reason (endings.Refused other) (inr (given, tells, inr explained)) is why = inr (ap refusal_status explained.2)
  refused bytes reason (endings.ReadFault name) (inr ends) is why = absurd ends.2
  refused bytes reason endings.WriteFault (inr (given, tells, puts)) is why =
      let same = taken_before_is before after file bytes given (NotPut image puts.0 put_errors.Failed) puts.2 tells is in
      absurd (never_both bytes puts.1.program reason (subst (λ b. Accepted b puts.1.program) same puts.1.accepted) why)
  refused bytes reason (endings.NotImage at) (inr ends) is why = absurd ends.2
  refused bytes reason (endings.BadText piece) (inr ends) is why = absurd ends.2
  refused bytes reason (endings.Ran end bound) (inr ends) is why = absurd ends.2

  missing : (ending : Ending) → EndsCompile before after file image ending → before.content file ≡ Some None → (status_of ending ≡ statuses.ReadFault) ⊎ (status_of ending ≡ statuses.NoMemory)
  missing ending (inl fails) is = untaken_missing before after file file_bytes long_file ending fails is
  missing ending (inr ends) is = absurd (missing≢taken (before.content file) ends.0 is ends.1)

  unreadable : (ending : Ending) → EndsCompile before after file image ending → status_of ending ≡ statuses.ReadFault → CannotRead before after file
  unreadable endings.Done ends is = cc
  unreadable endings.Usage ends is = cc
  unreadable (endings.Refused reason) ends is = absurd (refused≢ reason statuses.ReadFault is (λ none. none))
  unreadable (endings.ReadFault name) (inl fails) is = fails.1
  unreadable (endings.ReadFault name) (inr ends) is = absurd ends.2
  unreadable endings.WriteFault ends is = cc
  unreadable (endings.NotImage at) ends is = cc
  unreadable (endings.BadText piece) ends is = cc
  unreadable (endings.Ran end bound) (inl fails) is = absurd fails
  unreadable (endings.Ran end bound) (inr ends) is = absurd ends.2

  pub compiles : (out_before out_after : SeenSink) (ending : Ending) → EndsCompile before after file image ending → Silent out_before out_after
      → ((n : List ℕ) → n ≢ image → after.content n ≡ before.content n) → MayWrite (status_of ending) ⊎ Same before after
      → Compiles before after out_before out_after file image (status_of ending)
  compiles out_before out_after ending ends silent others same = record {
    headline = headline ending ends;
    complete = λ bytes program. complete bytes program ending ends;
    refused = λ bytes reason. refused bytes reason ending ends;
    missing = missing ending ends;
    unreadable = unreadable ending ends;
    others = others;
    same = same;
    silent = silent;
  }
