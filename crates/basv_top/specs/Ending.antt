-- How the program ends, with which status, and what it then says on the error output. This project's own.
use Rattle.std.specs.Prelude.{ℕ, ◌+◌, ◌/◌, ◌%◌, ◌^◌, List, [], ◌∷◌, ◌++◌, map, Result, Ok, Err, codes, decimal}
use Rattle.std.specs.Fmt.{signed_decimal}
use Rattle.arm2_machine.specs.declared.image.ImageError.{ImageError}
use Rattle.arm2_machine.specs.declared.image.ImageError.TheVariants as image_errors
use Rattle.basv_crunch.specs.declared.error.CrunchError.{CrunchError}
use Rattle.basv_crunch.specs.declared.error.CrunchError.TheVariants as crunch_errors
use Rattle.bv_base.specs.Limits.{file_bytes, input_bytes, image_words, text_file_bytes, crunched_file_bytes}
use Rattle.bv_num.specs.Digits.{digit_byte}
use Rattle.bv_run.specs.declared.report.Report.{Report}
use Rattle.bv_run.specs.declared.report.Report.TheVariants as reports
use Rattle.bv_run.specs.declared.report.RunEnd.{RunEnd}
use Rattle.bv_run.specs.declared.report.RunEnd.TheVariants as ends
use Rattle.bv_run.specs.declared.report.Trap.{Trap}
use Rattle.bv_run.specs.declared.report.Trap.TheVariants as traps
use Rattle.bv_io.specs.declared.shelf.TakeError.{TakeError}
use Rattle.bv_io.specs.declared.shelf.TakeError.TheVariants as take_errors
use Rattle.bv_io.specs.declared.shelf.PutError.{PutError}
use Rattle.bv_io.specs.declared.shelf.PutError.TheVariants as put_errors
use Rattle.basv_top.specs.declared.ending.Ending.{Ending as Told}
use Rattle.basv_top.specs.declared.ending.Ending.TheVariants as tells
use Rattle.profile_check.specs.declared.refusal.Refusal.{Refusal}
use Rattle.profile_check.specs.declared.refusal.Refusal.TheVariants as refusals
use Rattle.profile_check.specs.declared.refusal.Which.{Which}
use Rattle.profile_check.specs.declared.refusal.Which.TheVariants as limits
use Rattle.basv_top.specs.declared.message.Message.{Message}
use Rattle.basv_top.specs.declared.status.Status.{Status}
use Rattle.basv_top.specs.declared.status.Status.TheVariants as statuses

-- The command was done, the words are no command, the file is refused for a reason, the name could not be taken,
-- something could not be written, the file is no image, a piece of the text is no line, or the image ran until it ended so,
-- or reached its bound.
pub data Ending : Type 0 where
  Done : Ending
  Usage : Ending
  Refused : (reason : Refusal) → Ending
  ReadFault : (name : List ℕ) → Ending
  WriteFault : Ending
  NotImage : (at : ℕ) → Ending
  BadText : (piece : ℕ) → Ending
  Ran : (end : RunEnd) (bound : ℕ) → Ending

-- an ending as the code has it
abbrev pub told : Told → Ending
told tells.Done = Done
told tells.Usage = Usage
told (tells.Refused reason) = Refused reason
told (tells.ReadFault name) = ReadFault name.now
told tells.WriteFault = WriteFault
told (tells.NotImage at) = NotImage at
told (tells.BadText line) = BadText line
told (tells.Ran end bound) = Ran end bound

-- the number of a status, as a process ends with it
abbrev pub status_number : Status → ℕ
status_number statuses.Done = 0
status_number statuses.Usage = 1
status_number statuses.Malformed = 2
status_number statuses.Outside = 3
status_number statuses.Limit = 4
status_number statuses.ReadFault = 5
status_number statuses.WriteFault = 6
status_number statuses.NotImage = 7
status_number statuses.Failed = 8
status_number statuses.Bound = 9
status_number statuses.NoMemory = 10
status_number statuses.Stray = 11
status_number statuses.InputEnded = 12
status_number statuses.Broken = 13
status_number statuses.BadText = 14

-- the status of a refusal
abbrev pub refusal_status : Refusal → Status
refusal_status (refusals.Malformed at) = statuses.Malformed
refusal_status (refusals.Outside line) = statuses.Outside
refusal_status (refusals.Limit which count) = statuses.Limit
refusal_status refusals.NoMemory = statuses.NoMemory

-- the status of a run by its report
abbrev pub report_status : Report → Status
report_status reports.Done = statuses.Done
report_status (reports.Failed error line) = statuses.Failed
report_status (reports.Stray kind address line) = statuses.Stray
report_status (reports.InputEnded line) = statuses.InputEnded

-- the status of a run by its end
abbrev pub end_status : RunEnd → Status
end_status (ends.Over report) = report_status report
end_status ends.Going = statuses.Bound
end_status (ends.Broken kind address) = statuses.Broken

-- the status of an ending
abbrev pub status_of : Ending → Status
status_of Done = statuses.Done
status_of Usage = statuses.Usage
status_of (Refused reason) = refusal_status reason
status_of (ReadFault name) = statuses.ReadFault
status_of WriteFault = statuses.WriteFault
status_of (NotImage at) = statuses.NotImage
status_of (BadText piece) = statuses.BadText
status_of (Ran end bound) = end_status end

-- a limit, by its word
abbrev pub limit_word : Which → List ℕ
limit_word limits.File = codes "file"
limit_word limits.Names = codes "names"
limit_word limits.Strings = codes "strings"
limit_word limits.Parameters = codes "parameters"
limit_word limits.Dimensions = codes "dimensions"
limit_word limits.Input = codes "input"
limit_word limits.Image = codes "image"
limit_word limits.Text = codes "text"

-- the text of a message
abbrev pub message_text : Message → List ℕ
message_text message = message.text.now ++ message.name.now ++ message.link.now ++ message.number.now ++ message.tail.now ++ message.line.now

-- what is said of a refusal
abbrev pub refusal_text : Refusal → List ℕ
refusal_text (refusals.Malformed at) = codes "malformed file at byte " ++ decimal at
refusal_text (refusals.Outside line) = codes "outside the profile at line " ++ decimal line
refusal_text (refusals.Limit which count) = codes "limit " ++ limit_word which ++ codes " at " ++ decimal count
refusal_text refusals.NoMemory = codes "no memory"

-- a kind of trap, by its word
abbrev pub trap_word : Trap → List ℕ
trap_word traps.Data = codes "data"
trap_word traps.Fetch = codes "fetch"
trap_word traps.Undefined = codes "undefined"
trap_word traps.Unpredictable = codes "unpredictable"
trap_word traps.Swi = codes "swi"

-- the eight hexadecimal digits of an address, the highest first, in upper case
abbrev pub address_digits : ℕ → List ℕ
address_digits address = map (λ place. digit_byte (address / 16 ^ place % 16)) (7 ∷ 6 ∷ 5 ∷ 4 ∷ 3 ∷ 2 ∷ 1 ∷ 0 ∷ [])

-- what is said of a trap, with its address
abbrev pub trap_text : Trap → ℕ → List ℕ
trap_text kind address = trap_word kind ++ codes " at &" ++ address_digits address

-- what is said of a report: nothing where the program came to its end
abbrev pub report_text : Report → List ℕ
report_text reports.Done = []
report_text (reports.Failed error line) = codes "error " ++ signed_decimal error ++ codes " at line " ++ decimal line
report_text (reports.Stray kind address line) = codes "stray " ++ trap_text kind address ++ codes " from line " ++ decimal line
report_text (reports.InputEnded line) = codes "input ended at line " ++ decimal line

-- what is said of a run that ended so, under a bound
abbrev pub end_text : RunEnd → ℕ → List ℕ
end_text (ends.Over report) bound = report_text report
end_text ends.Going bound = codes "bound " ++ decimal bound ++ codes " reached"
end_text (ends.Broken kind address) bound = codes "broken " ++ trap_text kind address

-- what is said of an ending
abbrev pub text_of : Ending → List ℕ
text_of Done = []
text_of Usage = codes "usage: basv list FILE / compile FILE IMAGE / interp FILE / run IMAGE / selftest SEED LINES / crunch TEXT FILE"
text_of (Refused reason) = refusal_text reason
text_of (ReadFault name) = codes "cannot read " ++ name
text_of WriteFault = codes "cannot write"
text_of (NotImage at) = codes "not an image at byte " ++ decimal at
text_of (BadText piece) = codes "bad text at line " ++ decimal piece
text_of (Ran end bound) = end_text end bound

-- what the error output gets: nothing where the command, or the program that ran, was done; else one line
abbrev pub line_of : Ending → List ℕ
line_of Done = []
line_of (Ran (ends.Over reports.Done) bound) = []
line_of ending = text_of ending ++ 10 ∷ []

-- how a command ends whose file could not be taken from a shelf, where one that is too long is refused so
abbrev pub take_ending : TakeError → List ℕ → Refusal → Ending
take_ending take_errors.Missing name too_long = ReadFault name
take_ending take_errors.Failed name too_long = ReadFault name
take_ending take_errors.TooLong name too_long = Refused too_long
take_ending take_errors.NoMemory name too_long = Refused refusals.NoMemory

-- how a command ends whose file could not be put on a shelf
abbrev pub put_ending : PutError → Ending
put_ending put_errors.Failed = WriteFault
put_ending put_errors.NoMemory = Refused refusals.NoMemory

-- how a command ends that went to its end or was broken off
abbrev pub ended : Result Unit Told → Ending
ended (Ok _) = Done
ended (Err ending) = told ending

-- how `run` ends, whose image ran under a bound or was broken off
abbrev pub ended_run : Result RunEnd Told → ℕ → Ending
ended_run (Ok end) bound = Ran end bound
ended_run (Err ending) bound = told ending

-- how a program's file of too many bytes is refused: the count stops one past the limit
abbrev pub long_file : Refusal
long_file = refusals.Limit limits.File (file_bytes + 1)

-- how a text of too many bytes is refused
abbrev pub long_text : Refusal
long_text = refusals.Limit limits.Text (text_file_bytes + 1)

-- how a text is refused whose file would have too many bytes
abbrev pub long_crunched : Refusal
long_crunched = refusals.Limit limits.File (crunched_file_bytes + 1)

-- how an image of too many words is refused
abbrev pub long_image : Refusal
long_image = refusals.Limit limits.Image (image_words + 1)

-- how an input of too many bytes is refused
abbrev pub long_input : Refusal
long_input = refusals.Limit limits.Input (input_bytes + 1)

-- how `run` ends whose image could not be read
abbrev pub image_ending : ImageError → Ending
image_ending (image_errors.NotImage at) = NotImage at
image_ending image_errors.TooLong = Refused long_image
image_ending image_errors.NoMemory = Refused refusals.NoMemory

-- how `crunch` ends whose text has no file
abbrev pub crunch_ending : CrunchError → Ending
crunch_ending (crunch_errors.BadText piece) = BadText piece
crunch_ending crunch_errors.TooLong = Refused long_crunched
crunch_ending crunch_errors.NoMemory = Refused refusals.NoMemory
