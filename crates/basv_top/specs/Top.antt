-- What the program does, by the command that its words are. This project's own.
use Rattle.std.specs.Prelude.{◌≡◌, ◌≢◌, ◌⊎◌, ℕ, List, Option, Some, None}
use Rattle.basv_top.specs.declared.status.Status.{Status}
use Rattle.profile_check.specs.declared.refusal.Refusal.TheVariants as refusals
use Rattle.basv_words.specs.Command.{Command, Listing, Compile, Run, Interpret, Crunch}
use Rattle.basv_top.specs.Ending.{Ending, Usage, Refused, status_of, line_of}
use Rattle.basv_top.specs.Seen.{SeenShelf, SeenSink, Silent, Same, Writes}
use Rattle.basv_top.specs.ListCommand.{EndsList}
use Rattle.basv_top.specs.CompileCommand.{EndsCompile, MayWrite}
use Rattle.basv_top.specs.CrunchCommand.{EndsCrunch}
use Rattle.basv_top.specs.RunCommand.{EndsRun}
use Rattle.basv_top.specs.InterpCommand.{EndsInterp}

-- why a command ends so, or words that are none
abbrev pub EndsRead : SeenShelf → SeenShelf → SeenSink → SeenSink → Option Command → Ending → Type 0
EndsRead before after out_before out_after None ending = (ending ≡ Usage) × (after ≡ before) × Silent out_before out_after
EndsRead before after out_before out_after (Some (Listing file)) ending = EndsList before after out_before out_after file ending
EndsRead before after out_before out_after (Some (Compile file image)) ending = EndsCompile before after file image ending × Silent out_before out_after
EndsRead before after out_before out_after (Some (Run image options)) ending = EndsRun before after out_before out_after image options ending
EndsRead before after out_before out_after (Some (Interpret file options)) ending = EndsInterp before after out_before out_after file options ending
EndsRead before after out_before out_after (Some (Crunch text file)) ending = EndsCrunch before after text file ending × Silent out_before out_after

-- the words couldn't be read for want of memory, and nothing was done
abbrev pub EndsUnread : SeenShelf → SeenShelf → SeenSink → SeenSink → Ending → Type 0
EndsUnread before after out_before out_after ending = (ending ≡ Refused refusals.NoMemory) × (after ≡ before) × Silent out_before out_after

-- why the words end so
abbrev pub EndsCommand : SeenShelf → SeenShelf → SeenSink → SeenSink → Option Command → Ending → Type 0
EndsCommand before after out_before out_after command ending =
    EndsUnread before after out_before out_after ending ⊎ EndsRead before after out_before out_after command ending

-- The program ended in some way, for its reason, with the status of that way, and with its line on the error output.
pub record Ends (before after : SeenShelf) (out_before out_after err_before err_after : SeenSink) (command : Option Command) (status : Status) : Type 0 where
  pub ending : Ending
  pub status_is : status ≡ status_of ending
  pub explained : EndsCommand before after out_before out_after command ending
  pub line : Writes err_before err_after (line_of ending)

-- no name changes but a compile's IMAGE, a tokenising's FILE, and the name of a run's arena
abbrev pub OnlyNamed : SeenShelf → SeenShelf → Option Command → Type 0
OnlyNamed before after (Some (Compile file image)) = (n : List ℕ) → n ≢ image → after.content n ≡ before.content n
OnlyNamed before after (Some (Crunch text file)) = (n : List ℕ) → n ≢ file → after.content n ≡ before.content n
OnlyNamed before after (Some (Run image options)) = (n : List ℕ) → options.arena ≢ Some n → after.content n ≡ before.content n
OnlyNamed before after (Some (Interpret file options)) = (n : List ℕ) → options.arena ≢ Some n → after.content n ≡ before.content n
OnlyNamed before after command = Same before after

-- nor any, where a command other than a run has a status without something written
abbrev pub SameUnlessWritten : SeenShelf → SeenShelf → Option Command → Status → Type 0
SameUnlessWritten before after (Some (Run image options)) status = Unit {0}
SameUnlessWritten before after (Some (Interpret file options)) status = Unit {0}
SameUnlessWritten before after command status = MayWrite status ⊎ Same before after
