-- The line of an ending that isn't done.
use Rattle.std.proofs.Common.{◌≡◌, ◌≢◌, [], ◌∷◌, ◌++◌, refl}
use Rattle.bv_run.specs.declared.report.Report.TheVariants as reports
use Rattle.bv_run.specs.declared.report.RunEnd.TheVariants as ends
use Rattle.basv_top.specs.declared.status.Status.TheVariants as statuses
use Rattle.basv_top.specs.Ending.{Ending, Done, Usage, Refused, ReadFault, WriteFault, NotImage, BadText, Ran, status_of, text_of, line_of}

-- the line of an ending that isn't done is its text and a new line
pub line_of_ending : (ending : Ending) → status_of ending ≢ statuses.Done → line_of ending ≡ text_of ending ++ 10 ∷ []
line_of_ending Done other = absurd (other refl)
line_of_ending Usage other = refl
line_of_ending (Refused reason) other = refl
line_of_ending (ReadFault name) other = refl
line_of_ending WriteFault other = refl
line_of_ending (NotImage at) other = refl
line_of_ending (BadText piece) other = refl
line_of_ending (Ran (ends.Over reports.Done) bound) other = absurd (other refl)
line_of_ending (Ran (ends.Over (reports.Failed error line)) bound) other = refl
line_of_ending (Ran (ends.Over (reports.Stray kind address line)) bound) other = refl
line_of_ending (Ran (ends.Over (reports.InputEnded line)) bound) other = refl
line_of_ending (Ran ends.Going bound) other = refl
line_of_ending (Ran (ends.Broken kind address) bound) other = refl
