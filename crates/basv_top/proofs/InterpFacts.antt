-- A file is a program or is refused, and not both; so what `interp` promises follows from why it ends. And what the
-- interpreter says of its run, as a run's ending has it.
use Rattle.std.proofs.Common.{◌≡◌, ◌⊎◌, inl, inr, ℕ, ◌≤◌, List, [], ◌∷◌, length, false, refl, sym, ap, subst, ◌∙◌, arith}
use Rattle.std.specs.List.{AllByRecursion}
use Rattle.bv_base.specs.Bytes.{zeros}
use Rattle.bv_base.specs.Limits.{file_bytes}
use Rattle.bv_base.specs.MemoryMap.{arena_bytes}
use Rattle.bv_io.specs.Shelf.{Rose}
use Rattle.bv_io.specs.Sink.{with_bytes, WritesPart}
use Rattle.bv_io.specs.Writes.{byte_writes, FailsAtByte}
use Rattle.bv_run.specs.Outcome.{Outcome, output_of}
use Rattle.bv_run.specs.declared.report.RunEnd.{RunEnd}
use Rattle.bv_run.specs.declared.report.RunEnd.TheVariants as ends
use Rattle.bas_ast.specs.declared.program.Prog.{Prog}
use Rattle.bas_interp.specs.Runs.{InterpState, OfPrograms, outcome_by}
use Rattle.bas_sem.specs.Meaning.{source_run}
use Rattle.ir_build.specs.Code.{flat_code}
use Rattle.profile_check.specs.declared.refusal.Refusal.{Refusal}
use Rattle.profile_check.specs.declared.refusal.Refusal.TheVariants as refusals
use Rattle.profile_check.specs.Files as files
use Rattle.profile_check.specs.Files.{Accepted, FileExplained}
use Rattle.profile_check.proofs.FileVerdicts.{accepted_once, refused_once, never_both}
use Rattle.basv_words.specs.Command.{Options}
use Rattle.basv_top.specs.declared.status.Status.TheVariants as statuses
use Rattle.basv_top.specs.Ending as endings
use Rattle.basv_top.specs.Ending.{Ending, status_of, refusal_status, long_file}
use Rattle.basv_top.specs.InterpCommand.{NoProgram, RunsAsMeant, EndsInterp, Interprets}
use Rattle.basv_top.specs.Running.{end_of, arena_left, WritesRun, FaultsRun}
use Rattle.basv_top.specs.RunPromises.{IsRunStatus}
use Rattle.basv_top.specs.Seen.{SeenShelf, SeenSink}
use Rattle.basv_top.proofs.Statuses.{refused≢, refused≢run}
use Rattle.basv_top.proofs.RunningFacts.{IsJudged, promises}

-- a program's file is refused for nothing
program≢refused : (bytes : List ℕ) (prog : Prog) (ending : Ending) → Accepted bytes prog → NoProgram bytes ending → ⊥
program≢refused bytes prog endings.Done is why = why
program≢refused bytes prog endings.Usage is why = why
program≢refused bytes prog (endings.Refused reason) is why = never_both bytes prog reason is why
program≢refused bytes prog (endings.ReadFault name) is why = why
program≢refused bytes prog endings.WriteFault is why = why
program≢refused bytes prog (endings.NotImage at) is why = why
program≢refused bytes prog (endings.BadText piece) is why = why
program≢refused bytes prog (endings.Ran end bound) is why = why

-- a file is refused with one status
refused_as : (bytes : List ℕ) (reason : Refusal) (ending : Ending) → files.Refused bytes reason → NoProgram bytes ending → status_of ending ≡ refusal_status reason
refused_as bytes reason endings.Done is why = absurd why
refused_as bytes reason endings.Usage is why = absurd why
refused_as bytes reason (endings.Refused other) is why = ap refusal_status (refused_once bytes other reason why is)
refused_as bytes reason (endings.ReadFault name) is why = absurd why
refused_as bytes reason endings.WriteFault is why = absurd why
refused_as bytes reason (endings.NotImage at) is why = absurd why
refused_as bytes reason (endings.BadText piece) is why = absurd why
refused_as bytes reason (endings.Ran end bound) is why = absurd why

file_once : (bytes : List ℕ) (a b : Ending) → NoProgram bytes a → NoProgram bytes b → status_of a ≡ status_of b
file_once bytes endings.Done b why other = absurd why
file_once bytes endings.Usage b why other = absurd why
file_once bytes (endings.Refused reason) b why other = sym (refused_as bytes reason b why other)
file_once bytes (endings.ReadFault name) b why other = absurd why
file_once bytes endings.WriteFault b why other = absurd why
file_once bytes (endings.NotImage at) b why other = absurd why
file_once bytes (endings.BadText piece) b why other = absurd why
file_once bytes (endings.Ran end bound) b why other = absurd why

-- a refusal has no status of a run, and is no fault
file≢run : (bytes : List ℕ) (ending : Ending) → NoProgram bytes ending → IsRunStatus (status_of ending) → ⊥
file≢run bytes endings.Done why is = why
file≢run bytes endings.Usage why is = why
file≢run bytes (endings.Refused reason) why is = refused≢run reason is
file≢run bytes (endings.ReadFault name) why is = why
file≢run bytes endings.WriteFault why is = why
file≢run bytes (endings.NotImage at) why is = why
file≢run bytes (endings.BadText piece) why is = why
file≢run bytes (endings.Ran end bound) why is = why

file_unread : (bytes : List ℕ) (ending : Ending) → NoProgram bytes ending → status_of ending ≡ statuses.ReadFault → ⊥
file_unread bytes endings.Done why is = why
file_unread bytes endings.Usage why is = why
file_unread bytes (endings.Refused reason) why is = refused≢ reason statuses.ReadFault is (λ none. none)
file_unread bytes (endings.ReadFault name) why is = why
file_unread bytes endings.WriteFault why is = why
file_unread bytes (endings.NotImage at) why is = why
file_unread bytes (endings.BadText piece) why is = why
file_unread bytes (endings.Ran end bound) why is = why

file_unwritten : (bytes : List ℕ) (ending : Ending) → NoProgram bytes ending → status_of ending ≡ statuses.WriteFault → ⊥
file_unwritten bytes endings.Done why is = why
file_unwritten bytes endings.Usage why is = why
file_unwritten bytes (endings.Refused reason) why is = refused≢ reason statuses.WriteFault is (λ none. none)
file_unwritten bytes (endings.ReadFault name) why is = why
file_unwritten bytes endings.WriteFault why is = why
file_unwritten bytes (endings.NotImage at) why is = why
file_unwritten bytes (endings.BadText piece) why is = why
file_unwritten bytes (endings.Ran end bound) why is = why

pub file_judged : IsJudged RunsAsMeant NoProgram file_bytes long_file
file_judged = record {
  one = λ bytes a b x y. x.2 ∙ ap source_run (accepted_once bytes x.0 y.0 x.1 y.1) ∙ sym y.2;
  short = λ bytes a x. x.1.short;
  good = λ bytes a ending x why. program≢refused bytes x.0 ending x.1 why;
  once = file_once;
  long = λ bytes ending long why. refused_as bytes long_file ending (inl (long, refl)) why;
  no_run = file≢run;
  no_read = file_unread;
  no_write = file_unwritten;
}

pub interprets : (before after : SeenShelf) (out_before out_after : SeenSink) (file : List ℕ) (options : Options) (ending : Ending) → EndsInterp before after out_before out_after file options ending → Interprets before after out_before out_after file options (status_of ending)
interprets before after out_before out_after file options = promises RunsAsMeant NoProgram file_bytes long_file file_judged before after out_before out_after file options

-- a refusal that is explained is the file's, or wants memory
pub explained_ending : (bytes : List ℕ) (reason : Refusal) → FileExplained bytes reason → NoProgram bytes (endings.Refused reason) ⊎ (endings.Refused reason ≡ endings.Refused refusals.NoMemory)
explained_ending bytes refusals.NoMemory why = inr refl
explained_ending bytes (refusals.Malformed at) why = inl why
explained_ending bytes (refusals.Outside line) why = inl why
explained_ending bytes (refusals.Limit which count) why = inl why

-- texts that fit a line fit a string
pub texts_fit : (texts : List (List ℕ)) → AllByRecursion (λ text. length text ≤ 251) texts → AllByRecursion (λ text. length text ≤ 255) texts
texts_fit [] each = tt
texts_fit (text ∷ texts) each = (omega (arith, each.0), texts_fit texts each.1)

-- how the run ended, and the arena that it left
end_is : (outcome : Outcome) (end : RunEnd) (out arena : List ℕ) → outcome ≡ outcome_by end out arena → end_of outcome ≡ end
end_is outcome (ends.Over report) out arena is = ap end_of is
end_is outcome ends.Going out arena is = ap end_of is
end_is outcome (ends.Broken kind address) out arena is = ap end_of is

arena_is : (outcome : Outcome) (end : RunEnd) (out arena : List ℕ) → outcome ≡ outcome_by end out arena → arena_left outcome ≡ arena
arena_is outcome (ends.Over report) out arena is = ap arena_left is
arena_is outcome ends.Going out arena is = ap arena_left is
arena_is outcome (ends.Broken kind address) out arena is = ap arena_left is

-- What the interpreter of a program says of its run, of the program.
module _ (s : InterpState) (prog : Prog) (input : List ℕ) (bound : ℕ) (is : s ≡ record { ir = flat_code prog; input = input; arena = zeros arena_bytes; closed = false }) where
  of_program : (Holds : Outcome → Type 0) → OfPrograms s.ir (λ p. Holds (source_run p s.input bound)) → Holds (source_run prog input bound)
  of_program Holds each = subst (λ i. Holds (source_run prog i bound)) (ap (λ t. t.input) is) (each prog (sym (ap (λ t. t.ir) is)))

  pub run_faults : (before after : SeenSink) → OfPrograms s.ir (λ p. WritesPart before.written (output_of (source_run p s.input bound)) after.written)
      → OfPrograms s.ir (λ p. FailsAtByte (output_of (source_run p s.input bound)) before.log after.log) → Rose before.faults after.faults
      → FaultsRun (source_run prog input bound) before after
  run_faults before after part byte rose = (
    of_program (λ o. WritesPart before.written (output_of o) after.written) part,
    of_program (λ o. FailsAtByte (output_of o) before.log after.log) byte,
    rose,
  )

  pub run_writes : (before after : SeenSink) → OfPrograms s.ir (λ p. after.written ≡ with_bytes before.written (output_of (source_run p s.input bound)))
      → OfPrograms s.ir (λ p. after.log ≡ byte_writes (output_of (source_run p s.input bound)) before.log)
      → WritesRun (source_run prog input bound) before after
  run_writes before after written logged = (
    of_program (λ o. after.written ≡ with_bytes before.written (output_of o)) written,
    of_program (λ o. after.log ≡ byte_writes (output_of o) before.log) logged,
  )

  pub run_ends : (end : RunEnd) (arena : List ℕ) → OfPrograms s.ir (λ p. source_run p s.input bound ≡ outcome_by end (output_of (source_run p s.input bound)) arena)
      → (end_of (source_run prog input bound) ≡ end) × (arena_left (source_run prog input bound) ≡ arena)
  run_ends end arena ends_so =
      let whole = of_program (λ o. o ≡ outcome_by end (output_of o) arena) ends_so in
      (end_is (source_run prog input bound) end _ arena whole, arena_is (source_run prog input bound) end _ arena whole)
