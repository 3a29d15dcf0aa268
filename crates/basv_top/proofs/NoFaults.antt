-- Where neither the shelf nor the output fails, and each name is held, neither fault comes.
use Rattle.std.proofs.Common.{◌≡◌, ◌≢◌, inl, inr, ℕ, List, Option, Some, None, refl, sym, ap, ◌∙◌}
use Rattle.bv_io.specs.Log.{Event}
use Rattle.bv_io.specs.Shelf.{Rose}
use Rattle.basv_words.specs.Command.{Command, Options, Listing, Compile, Run, Interpret, Crunch}
use Rattle.basv_top.specs.declared.status.Status.{Status}
use Rattle.basv_top.specs.declared.status.Status.TheVariants as statuses
use Rattle.basv_top.specs.Ending as endings
use Rattle.basv_top.specs.Ending.{Ending, status_of}
use Rattle.basv_top.specs.CompileCommand.{Compiles, EndsCompile}
use Rattle.basv_top.specs.CrunchCommand.{Crunches, EndsCrunch}
use Rattle.basv_top.specs.InterpCommand.{Interprets}
use Rattle.basv_top.specs.ListCommand.{Lists, EndsList}
use Rattle.basv_top.specs.RunCommand.{Runs}
use Rattle.basv_top.specs.Running.{Runner}
use Rattle.basv_top.specs.RunPromises.{CannotReadInput, RunPromises}
use Rattle.basv_top.specs.Seen.{SeenShelf, SeenSink}
use Rattle.basv_top.specs.Taking.{CannotRead}
use Rattle.basv_top.specs.Top.{EndsCommand}
use Rattle.basv_top.proofs.Statuses.{refused≢}
use Rattle.basv_top.proofs.Untaken.{untaken≢write}

module _ (before after : SeenShelf) (out_before out_after : SeenSink) (held : (n : List ℕ) → before.content n ≡ Some None → ⊥) (takes : Rose before.take_faults after.take_faults → ⊥)
    (puts : Rose before.put_faults after.put_faults → ⊥) (writes : Rose out_before.faults out_after.faults → ⊥) where
  readable : (name : List ℕ) → CannotRead before after name → ⊥
  readable name (inl (logged, none)) = held name none
  readable name (inr (logged, rose)) = takes rose

  input_readable : (first : Event) (o : Option (List ℕ)) → CannotReadInput before after first o → ⊥
  input_readable first None cannot = cannot
  input_readable first (Some name) (inl (logged, none)) = held name none
  input_readable first (Some name) (inr (logged, rose)) = takes rose

  run_read : (RunsAs : List ℕ → Runner → Type 0) (Refuses : List ℕ → Ending → Type 0) (name : List ℕ) (options : Options) (status : Status)
      → RunPromises RunsAs Refuses before after out_before out_after name options status → status ≡ statuses.ReadFault → ⊥
  run_read RunsAs Refuses name options status p is = elim (p.unreadable is) [
    | inl cannot ↦ readable name cannot
    | inr why ↦ input_readable _ options.input why.3
  ]

  run_written : (RunsAs : List ℕ → Runner → Type 0) (Refuses : List ℕ → Ending → Type 0) (name : List ℕ) (options : Options) (status : Status)
      → RunPromises RunsAs Refuses before after out_before out_after name options status → status ≡ statuses.WriteFault → ⊥
  run_written RunsAs Refuses name options status p is = elim (p.unwritten is) [
    | inl fault ↦ writes fault.0
    | inr rose ↦ puts rose
  ]

  list_written : (file : List ℕ) (ending : Ending) → EndsList before after out_before out_after file ending → status_of ending ≡ statuses.WriteFault → ⊥
  list_written file ending (inl (fails, silent)) is = untaken≢write before after file _ _ ending fails is
  list_written file endings.Done (inr why) is = cc
  list_written file endings.Usage (inr why) is = why.3
  list_written file (endings.Refused reason) (inr why) is = refused≢ reason statuses.WriteFault is (λ none. none)
  list_written file (endings.ReadFault name) (inr why) is = why.3
  list_written file endings.WriteFault (inr why) is = writes why.3.4
  list_written file (endings.NotImage at) (inr why) is = why.3
  list_written file (endings.BadText piece) (inr why) is = why.3
  list_written file (endings.Ran end bound) (inr why) is = why.3

  compile_written : (file image : List ℕ) (ending : Ending) → EndsCompile before after file image ending → status_of ending ≡ statuses.WriteFault → ⊥
  compile_written file image ending (inl fails) is = untaken≢write before after file _ _ ending fails is
  compile_written file image endings.Done (inr why) is = cc
  compile_written file image endings.Usage (inr why) is = why.2
  compile_written file image (endings.Refused reason) (inr why) is = refused≢ reason statuses.WriteFault is (λ none. none)
  compile_written file image (endings.ReadFault name) (inr why) is = why.2
  compile_written file image endings.WriteFault (inr why) is = puts why.2.3
  compile_written file image (endings.NotImage at) (inr why) is = why.2
  compile_written file image (endings.BadText piece) (inr why) is = why.2
  compile_written file image (endings.Ran end bound) (inr why) is = why.2

  crunch_written : (text file : List ℕ) (ending : Ending) → EndsCrunch before after text file ending → status_of ending ≡ statuses.WriteFault → ⊥
  crunch_written text file ending (inl fails) is = untaken≢write before after text _ _ ending fails is
  crunch_written text file endings.Done (inr why) is = cc
  crunch_written text file endings.Usage (inr why) is = why.3
  crunch_written text file (endings.Refused reason) (inr why) is = refused≢ reason statuses.WriteFault is (λ none. none)
  crunch_written text file (endings.ReadFault name) (inr why) is = why.3
  crunch_written text file endings.WriteFault (inr why) is = puts why.3.3
  crunch_written text file (endings.NotImage at) (inr why) is = why.3
  crunch_written text file (endings.BadText piece) (inr why) is = cc
  crunch_written text file (endings.Ran end bound) (inr why) is = why.3

  -- What the program promises of each command.
  pub record Promised (command : Option Command) (status : Status) : Type 0 where
    pub compile : (file image : List ℕ) → command ≡ Some (Compile file image) → Compiles before after out_before out_after file image status
    pub list : (file : List ℕ) → command ≡ Some (Listing file) → Lists before after out_before out_after file status
    pub run : (image : List ℕ) (options : Options) → command ≡ Some (Run image options) → Runs before after out_before out_after image options status
    pub interp : (file : List ℕ) (options : Options) → command ≡ Some (Interpret file options) → Interprets before after out_before out_after file options status
    pub crunch : (text file : List ℕ) → command ≡ Some (Crunch text file) → Crunches before after out_before out_after text file status
    pub ending : Ending
    pub status_is : status ≡ status_of ending
    pub explained : EndsCommand before after out_before out_after command ending

  pub no_read_fault : (command : Option Command) (status : Status) → Promised command status → status ≢ statuses.ReadFault
  no_read_fault None status p is = elim p.explained [
    | inl unread ↦ let memory : status ≡ statuses.NoMemory = p.status_is ∙ ap status_of unread.0 in cc
    | inr why ↦ let usage : status ≡ statuses.Usage = p.status_is ∙ ap status_of why.0 in cc
  ]
  no_read_fault (Some (Listing file)) status p is = readable file ((p.list file refl).unreadable is)
  no_read_fault (Some (Compile file image)) status p is = readable file ((p.compile file image refl).unreadable is)
  no_read_fault (Some (Run image options)) status p is = run_read _ _ image options status (p.run image options refl) is
  no_read_fault (Some (Interpret file options)) status p is = run_read _ _ file options status (p.interp file options refl) is
  no_read_fault (Some (Crunch text file)) status p is = readable text ((p.crunch text file refl).unreadable is)

  pub no_write_fault : (command : Option Command) (status : Status) → Promised command status → status ≢ statuses.WriteFault
  no_write_fault None status p is = elim p.explained [
    | inl unread ↦ let memory : status ≡ statuses.NoMemory = p.status_is ∙ ap status_of unread.0 in cc
    | inr why ↦ let usage : status ≡ statuses.Usage = p.status_is ∙ ap status_of why.0 in cc
  ]
  no_write_fault (Some (Listing file)) status p is = elim p.explained [
    | inl unread ↦ let memory : status ≡ statuses.NoMemory = p.status_is ∙ ap status_of unread.0 in cc
    | inr why ↦ list_written file p.ending why (sym p.status_is ∙ is)
  ]
  no_write_fault (Some (Compile file image)) status p is = elim p.explained [
    | inl unread ↦ let memory : status ≡ statuses.NoMemory = p.status_is ∙ ap status_of unread.0 in cc
    | inr why ↦ compile_written file image p.ending why.0 (sym p.status_is ∙ is)
  ]
  no_write_fault (Some (Run image options)) status p is = run_written _ _ image options status (p.run image options refl) is
  no_write_fault (Some (Interpret file options)) status p is = run_written _ _ file options status (p.interp file options refl) is
  no_write_fault (Some (Crunch text file)) status p is = elim p.explained [
    | inl unread ↦ let memory : status ≡ statuses.NoMemory = p.status_is ∙ ap status_of unread.0 in cc
    | inr why ↦ crunch_written text file p.ending why.0 (sym p.status_is ∙ is)
  ]
