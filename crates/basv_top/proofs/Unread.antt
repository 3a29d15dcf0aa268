-- Where the words couldn't be read for want of memory, each command keeps what it promises.
use Rattle.std.proofs.Common.{◌≡◌, ℕ, List, Option, Some, None, inl, inr, refl, sym, ap, subst}
use Rattle.basv_words.specs.Command.{Command, Options, Listing, Compile, Run, Interpret, Crunch}
use Rattle.basv_top.specs.declared.status.Status.{Status}
use Rattle.basv_top.specs.declared.status.Status.TheVariants as statuses
use Rattle.basv_top.specs.CompileCommand.{Compiles}
use Rattle.basv_top.specs.CrunchCommand.{Crunches}
use Rattle.basv_top.specs.Ending.{Ending, status_of}
use Rattle.basv_top.specs.ListCommand.{Lists}
use Rattle.basv_top.specs.Running.{Runner}
use Rattle.basv_top.specs.RunPromises.{RunPromises}
use Rattle.basv_top.specs.Seen.{SeenShelf, SeenSink, Silent}
use Rattle.basv_top.specs.Top.{EndsCommand, EndsRead, OnlyNamed, SameUnlessWritten}

abbrev IsNoMemory : Status → Type 0
IsNoMemory statuses.NoMemory = Unit {0}
IsNoMemory status = ⊥

module _ (before after : SeenShelf) (out_before out_after : SeenSink) where
  -- what holds of the status of a command that was read, and for want of memory, holds of the status
  pub read_or : (P : Status → Type 0) (command : Option Command) (ending : Ending) → EndsCommand before after out_before out_after command ending
      → (after ≡ before → Silent out_before out_after → P statuses.NoMemory) → (EndsRead before after out_before out_after command ending → P (status_of ending)) → P (status_of ending)
  read_or P command ending (inl unread) free read = subst P (sym (ap status_of unread.0)) (free unread.1 unread.2)
  read_or P command ending (inr why) free read = read why

  module _ (same : after ≡ before) (silent : Silent out_before out_after) where
    kept : (n : List ℕ) → after.content n ≡ before.content n
    kept n = ap (λ (s : SeenShelf). s.content n) same

    pub compile_unread : (file image : List ℕ) → Compiles before after out_before out_after file image statuses.NoMemory
    compile_unread file image = record {
      headline = λ is. absurd (subst IsNoMemory is tt);
      complete = λ bytes program content accepted failed. inr refl;
      refused = λ bytes reason content refused. inr refl;
      missing = λ none. inr refl;
      unreadable = λ is. absurd (subst IsNoMemory is tt);
      others = λ n other. kept n;
      same = inr kept;
      silent = silent;
    }

    pub crunch_unread : (text file : List ℕ) → Crunches before after out_before out_after text file statuses.NoMemory
    crunch_unread text file = record {
      crunched = λ is. absurd (subst IsNoMemory is tt);
      complete = λ bytes contents content short made failed. inr refl;
      refused = λ bytes ending content refused. inr refl;
      missing = λ none. inr refl;
      unreadable = λ is. absurd (subst IsNoMemory is tt);
      others = λ n other. kept n;
      same = inr kept;
      silent = silent;
    }

    pub list_unread : (file : List ℕ) → Lists before after out_before out_after file statuses.NoMemory
    list_unread file = record {
      listed = λ is. absurd (subst IsNoMemory is tt);
      complete = λ bytes lines content short are failed. inr refl;
      refused = λ bytes reason content refused. inr refl;
      missing = λ none. inr refl;
      unreadable = λ is. absurd (subst IsNoMemory is tt);
      same = kept;
      silent = λ undone unwritten. silent;
    }

    pub run_unread : (RunsAs : List ℕ → Runner → Type 0) (Refuses : List ℕ → Ending → Type 0) (name : List ℕ) (options : Options) → RunPromises RunsAs Refuses before after out_before out_after name options statuses.NoMemory
    run_unread RunsAs Refuses name options = record {
      ran = λ run. absurd run;
      complete = λ bytes input runner runs content is_input out_failed put_failed. inr refl;
      refused = λ bytes ending content refused. inr refl;
      long_input = λ bytes input i runner runs content is_input holds failed long. inr refl;
      missing = λ none. inr refl;
      no_input = λ bytes i runner runs content is_input none. inr refl;
      unreadable = λ is. absurd (subst IsNoMemory is tt);
      unwritten = λ is. absurd (subst IsNoMemory is tt);
      others = λ n other. kept n;
      same = λ unrun unwritten. kept;
      silent = λ unrun unwritten free. silent;
    }

    pub only_named : (command : Option Command) → OnlyNamed before after command
    only_named None = kept
    only_named (Some (Listing file)) = kept
    only_named (Some (Compile file image)) = λ n other. kept n
    only_named (Some (Run image options)) = λ n other. kept n
    only_named (Some (Interpret file options)) = λ n other. kept n
    only_named (Some (Crunch text file)) = λ n other. kept n

    pub same_unless_written : (command : Option Command) (status : Status) → SameUnlessWritten before after command status
    same_unless_written None status = inr kept
    same_unless_written (Some (Listing file)) status = inr kept
    same_unless_written (Some (Compile file image)) status = inr kept
    same_unless_written (Some (Run image options)) status = tt
    same_unless_written (Some (Interpret file options)) status = tt
    same_unless_written (Some (Crunch text file)) status = inr kept
