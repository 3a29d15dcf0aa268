-- The statuses of refusals, of runs, and of the other endings are apart.
use Rattle.std.proofs.Common.{◌≡◌, subst}
use Rattle.bv_run.specs.declared.report.Report.TheVariants as reports
use Rattle.bv_run.specs.declared.report.RunEnd.{RunEnd}
use Rattle.bv_run.specs.declared.report.RunEnd.TheVariants as ends
use Rattle.profile_check.specs.declared.refusal.Refusal.{Refusal}
use Rattle.profile_check.specs.declared.refusal.Refusal.TheVariants as refusals
use Rattle.basv_top.specs.declared.status.Status.{Status}
use Rattle.basv_top.specs.declared.status.Status.TheVariants as statuses
use Rattle.basv_top.specs.Ending.{refusal_status, end_status}
use Rattle.basv_top.specs.RunPromises.{IsRunStatus}

-- a refusal has one of these statuses
abbrev pub IsRefusalStatus : Status → Type 0
IsRefusalStatus statuses.Malformed = Unit {0}
IsRefusalStatus statuses.Outside = Unit {0}
IsRefusalStatus statuses.Limit = Unit {0}
IsRefusalStatus statuses.NoMemory = Unit {0}
IsRefusalStatus status = ⊥

pub refusal_has : (reason : Refusal) → IsRefusalStatus (refusal_status reason)
refusal_has (refusals.Malformed at) = tt
refusal_has (refusals.Outside line) = tt
refusal_has (refusals.Limit which count) = tt
refusal_has refusals.NoMemory = tt

-- a refusal has no other status
pub refused≢ : (reason : Refusal) (status : Status) → refusal_status reason ≡ status → (IsRefusalStatus status → ⊥) → ⊥
refused≢ reason status is other = other (subst IsRefusalStatus is (refusal_has reason))

pub run_has : (end : RunEnd) → IsRunStatus (end_status end)
run_has (ends.Over reports.Done) = tt
run_has (ends.Over (reports.Failed error line)) = tt
run_has (ends.Over (reports.Stray kind address line)) = tt
run_has (ends.Over (reports.InputEnded line)) = tt
run_has ends.Going = tt
run_has (ends.Broken kind address) = tt

-- a refusal's status is none of a run's
pub refused≢run : (reason : Refusal) → IsRunStatus (refusal_status reason) → ⊥
refused≢run (refusals.Malformed at) is = is
refused≢run (refusals.Outside line) is = is
refused≢run (refusals.Limit which count) is = is
refused≢run refusals.NoMemory is = is
