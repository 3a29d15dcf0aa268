-- What a command that runs something promises follows from why it ends, whatever it is that runs.
use Rattle.std.proofs.Common.{◌≡◌, ◌≢◌, ◌⊎◌, inl, inr, ℕ, ◌<◌, ◌≤◌, List, [], ◌∷◌, ◌++◌, length, Option, Some, None, refl, sym, ap, subst, ◌∙◌, append_assoc, arith}
use Rattle.bv_base.specs.Limits.{input_bytes}
use Rattle.bv_io.specs.Log.{Event, Took, NotTaken, Put}
use Rattle.bv_io.specs.declared.shelf.TakeError.TheVariants as take_errors
use Rattle.bv_io.specs.Shelf.{Rose, Tells}
use Rattle.bv_run.specs.Outcome.{Outcome}
use Rattle.profile_check.specs.declared.refusal.Refusal.{Refusal}
use Rattle.basv_words.specs.Command.{Options}
use Rattle.basv_top.specs.declared.status.Status.{Status}
use Rattle.basv_top.specs.declared.status.Status.TheVariants as statuses
use Rattle.basv_top.specs.Ending as endings
use Rattle.basv_top.specs.Ending.{Ending, status_of, end_status, long_input}
use Rattle.basv_top.specs.Seen.{SeenShelf, SeenSink, Silent, Same}
use Rattle.basv_top.specs.Taking.{Gave, IsContent, CannotRead, TakeFails, Takes, Calm}
use Rattle.basv_top.specs.Running.{Runner, end_of, arena_left, TakesInput, InputFails, PutsArena, ArenaUnput, ArenaFaults, RunEnds, EndsRunning}
use Rattle.basv_top.specs.RunPromises.{IsRunStatus, HasRun, after_input, after_arena, InputTold, ArenaTold, IsInput, CannotReadInput, RunPromises}
use Rattle.basv_top.proofs.Taken.{gave_is, told_is, missing≢taken, untaken_content, untaken_missing}
use Rattle.basv_top.proofs.Statuses.{run_has}
use Rattle.basv_top.proofs.Untaken.{untaken≢run, untaken≢write, untaken_unread}

-- What runs and what is refused are apart.
pub record IsJudged (RunsAs : List ℕ → Runner → Type 0) (Refuses : List ℕ → Ending → Type 0) (max : ℕ) (too_long : Refusal) : Type 0 where
  pub one : (bytes : List ℕ) (a b : Runner) → RunsAs bytes a → RunsAs bytes b → a ≡ b
  pub short : (bytes : List ℕ) (a : Runner) → RunsAs bytes a → length bytes ≤ max
  pub good : (bytes : List ℕ) (a : Runner) (ending : Ending) → RunsAs bytes a → Refuses bytes ending → ⊥
  pub once : (bytes : List ℕ) (a b : Ending) → Refuses bytes a → Refuses bytes b → status_of a ≡ status_of b
  pub long : (bytes : List ℕ) (ending : Ending) → max < length bytes → Refuses bytes ending → status_of ending ≡ status_of (endings.Refused too_long)
  pub no_run : (bytes : List ℕ) (ending : Ending) → Refuses bytes ending → IsRunStatus (status_of ending) → ⊥
  pub no_read : (bytes : List ℕ) (ending : Ending) → Refuses bytes ending → status_of ending ≡ statuses.ReadFault → ⊥
  pub no_write : (bytes : List ℕ) (ending : Ending) → Refuses bytes ending → status_of ending ≡ statuses.WriteFault → ⊥

-- a count that rose from a later moment rose
rose_before : (a b c : ℕ) → a ≤ b → Rose b c → Rose a c
rose_before a b c le rose = omega (arith, le, rose)

-- the log after the input and after the arena
ready_log : (taken ready : SeenShelf) (o : Option (List ℕ)) (input : List ℕ) (log : List Event) → TakesInput taken ready o input → taken.log ≡ log → ready.log ≡ after_input o input log
ready_log taken ready None input log takes is = ap (λ s. s.log) takes.0 ∙ is
ready_log taken ready (Some n) input log takes is = takes.0.0 ∙ ap (λ l. Took n input ∷ l) is

put_log : (ready after : SeenShelf) (o : Option (List ℕ)) (arena : List ℕ) (log : List Event) → PutsArena ready after o arena → ready.log ≡ log → after.log ≡ after_arena o arena log
put_log ready after None arena log puts is = ap (λ s. s.log) puts ∙ is
put_log ready after (Some n) arena log puts is = puts.0 ∙ ap (λ l. Put n arena ∷ l) is

arena_told : (ready after : SeenShelf) (o : Option (List ℕ)) (arena : List ℕ) → PutsArena ready after o arena → ArenaTold after o arena
arena_told ready after None arena puts = tt
arena_told ready after (Some n) arena puts = puts.1

-- what came after an event in a log
more_log : (log : List Event) (f : Event) (a : List Event) → a ≡ f ∷ log → (later : List Event) × (a ≡ later ++ log)
more_log log f a is = (f ∷ [], is)

input_later : (o : Option (List ℕ)) (input : List ℕ) (log : List Event) → (later : List Event) × (after_input o input log ≡ later ++ log)
input_later None input log = ([], refl)
input_later (Some n) input log = (Took n input ∷ [], refl)

module _ (RunsAs : List ℕ → Runner → Type 0) (Refuses : List ℕ → Ending → Type 0) (max : ℕ) (too_long : Refusal) (judged : IsJudged RunsAs Refuses max too_long) where
  module _ (before after : SeenShelf) (out_before out_after : SeenSink) (name : List ℕ) (options : Options) where
    -- what a shelf gave at first stays given
    gave_from : (taken : SeenShelf) (bytes : List ℕ) → Takes before taken name bytes → (later : List Event) × (after.log ≡ later ++ taken.log) → Gave before after name bytes
    gave_from taken bytes takes later = (later.0, later.1 ∙ ap (λ l. later.0 ++ l) takes.0)

    -- what a take that failed logged
    fails_later : (taken : SeenShelf) (n : List ℕ) (limit : ℕ) (long : Refusal) (ending : Ending) → TakeFails taken after n limit long ending → (later : List Event) × (after.log ≡ later ++ taken.log)
    fails_later taken n limit long endings.Done fails = absurd fails
    fails_later taken n limit long endings.Usage fails = absurd fails
    fails_later taken n limit long (endings.Refused reason) (inl none) = more_log taken.log _ after.log none.0
    fails_later taken n limit long (endings.Refused reason) (inr more) = more_log taken.log _ after.log more.0
    fails_later taken n limit long (endings.ReadFault missing) (is, inl none) = more_log taken.log _ after.log none.0
    fails_later taken n limit long (endings.ReadFault missing) (is, inr failed) = more_log taken.log _ after.log failed.0
    fails_later taken n limit long endings.WriteFault fails = absurd fails
    fails_later taken n limit long (endings.NotImage at) fails = absurd fails
    fails_later taken n limit long (endings.BadText piece) fails = absurd fails
    fails_later taken n limit long (endings.Ran end bound) fails = absurd fails

    input_fails_later : (taken : SeenShelf) (o : Option (List ℕ)) (ending : Ending) → InputFails taken after o ending → (later : List Event) × (after.log ≡ later ++ taken.log)
    input_fails_later taken None ending fails = absurd fails
    input_fails_later taken (Some n) ending fails = fails_later taken n input_bytes long_input ending fails

    unput_later : (ready : SeenShelf) (o : Option (List ℕ)) (arena : List ℕ) → ArenaUnput ready after o arena → (later : List Event) × (after.log ≡ later ++ ready.log)
    unput_later ready None arena unput = absurd unput
    unput_later ready (Some n) arena unput = more_log ready.log _ after.log unput.0

    faults_later : (ready : SeenShelf) (o : Option (List ℕ)) (arena : List ℕ) → ArenaFaults ready after o arena → (later : List Event) × (after.log ≡ later ++ ready.log)
    faults_later ready None arena faults = absurd faults
    faults_later ready (Some n) arena faults = more_log ready.log _ after.log faults.0

    puts_later : (ready : SeenShelf) (o : Option (List ℕ)) (arena : List ℕ) → PutsArena ready after o arena → (later : List Event) × (after.log ≡ later ++ ready.log)
    puts_later ready None arena puts = ([], ap (λ s. s.log) puts)
    puts_later ready (Some n) arena puts = more_log ready.log _ after.log puts.0

    ends_later : (ready : SeenShelf) (outcome : Outcome) (ending : Ending) → RunEnds outcome options.arena options.steps ready after out_before out_after ending → (later : List Event) × (after.log ≡ later ++ ready.log)
    ends_later ready outcome ending (inl (is, same, silent)) = ([], ap (λ s. s.log) same)
    ends_later ready outcome ending (inr (inl (is, writes, unput))) = unput_later ready options.arena (arena_left outcome) unput
    ends_later ready outcome ending (inr (inr (inl (is, faults, same)))) = ([], ap (λ s. s.log) same)
    ends_later ready outcome ending (inr (inr (inr (inl (is, writes, faults))))) = faults_later ready options.arena (arena_left outcome) faults
    ends_later ready outcome ending (inr (inr (inr (inr (is, writes, puts))))) = puts_later ready options.arena (arena_left outcome) puts

    -- the bytes that were taken are the content of the name
    content_is : (taken : SeenShelf) (given bytes : List ℕ) → Takes before taken name given → (later : List Event) × (after.log ≡ later ++ taken.log) → IsContent before after name bytes → given ≡ bytes
    content_is taken given bytes takes later is = gave_is before after name bytes given (gave_from taken given takes later) takes.1 is

    -- and so with the bytes of the input
    input_content : (taken : SeenShelf) (bytes n input : List ℕ) → Takes before taken name bytes → Calm before taken → IsInput before after (Took name bytes) (Some n) input → IsContent taken after n input
    input_content taken bytes n input takes calm (short, inl gave) = inl (gave.0, gave.1 ∙ ap (λ l. gave.0 ++ Took n input ∷ l) (sym takes.0))
    input_content taken bytes n input takes calm (short, inr held) = inr (calm.same n ∙ held.0, λ rose. held.1 (rose_before before.take_faults taken.take_faults after.take_faults calm.take_faults rose))

    input_is : (taken ready : SeenShelf) (o : Option (List ℕ)) (bytes given input : List ℕ) → Takes before taken name bytes → Calm before taken → TakesInput taken ready o given → (later : List Event) × (after.log ≡ later ++ ready.log) → IsInput before after (Took name bytes) o input → given ≡ input
    input_is taken ready None bytes given input takes calm took later is = took.1 ∙ sym is
    input_is taken ready (Some n) bytes given input takes calm took later is =
        gave_is taken after n input given (later.0, later.1 ∙ ap (λ l. later.0 ++ l) took.0.0) took.0.1 (input_content taken bytes n input takes calm is)

    ready_later : (taken ready : SeenShelf) (o : Option (List ℕ)) (input : List ℕ) → TakesInput taken ready o input → (later : List Event) × (after.log ≡ later ++ ready.log) → (later : List Event) × (after.log ≡ later ++ taken.log)
    ready_later taken ready None input took later = (later.0, later.1 ∙ ap (λ s. later.0 ++ s.log) took.0)
    ready_later taken ready (Some n) input took later = (later.0 ++ Took n input ∷ [], later.1 ∙ ap (λ l. later.0 ++ l) took.0.0 ∙ sym (append_assoc later.0 (Took n input ∷ []) taken.log))

    input_told : (taken ready : SeenShelf) (o : Option (List ℕ)) (input : List ℕ) → Calm before taken → TakesInput taken ready o input → InputTold before o input
    input_told taken ready None input calm took = took.1
    input_told taken ready (Some n) input calm took = (subst (λ c. Tells c (Some input)) (calm.same n) took.0.1, took.1)

    abbrev pub Ends : Ending → Type 0
    Ends ending = EndsRunning RunsAs Refuses max too_long before after out_before out_after name options ending

    -- the story of a run that went to its end or its bound
    ran : (ending : Ending) → Ends ending → IsRunStatus (status_of ending)
        → (bytes input : List ℕ) × (runner : Runner) × RunsAs bytes runner × Tells (before.content name) (Some bytes) × InputTold before options.input input
        × HasRun (runner input options.steps) out_before out_after (status_of ending)
        × (after.log ≡ after_arena options.arena (arena_left (runner input options.steps)) (after_input options.input input (Took name bytes ∷ before.log)))
        × ArenaTold after options.arena (arena_left (runner input options.steps))
    ran ending (inl (fails, calm, silent)) runs = absurd (untaken≢run before after name max too_long ending fails runs)
    ran ending (inr (bytes, taken, takes, calm, short, inr (inl why, same, silent))) runs = absurd (judged.no_run bytes ending why runs)
    ran ending (inr (bytes, taken, takes, calm, short, inr (inr is, same, silent))) runs = absurd (subst (λ e. IsRunStatus (status_of e)) is runs)
    ran ending (inr (bytes, taken, takes, calm, short, inl (runner, runs_as, inl (fails, still, silent)))) runs = absurd (by_input options.input fails)
      where
        by_input : (o : Option (List ℕ)) → InputFails taken after o ending → ⊥
        by_input None fails = fails
        by_input (Some n) fails = untaken≢run taken after n input_bytes long_input ending fails runs
    ran ending (inr (bytes, taken, takes, calm, short, inl (runner, runs_as, inr (input, ready, took, calm_in, inl (is, same, silent))))) runs = absurd (subst (λ e. IsRunStatus (status_of e)) is runs)
    ran ending (inr (bytes, taken, takes, calm, short, inl (runner, runs_as, inr (input, ready, took, calm_in, inr (inl (is, writes, unput)))))) runs = absurd (subst (λ e. IsRunStatus (status_of e)) is runs)
    ran ending (inr (bytes, taken, takes, calm, short, inl (runner, runs_as, inr (input, ready, took, calm_in, inr (inr (inl (is, faults, same))))))) runs = absurd (subst (λ e. IsRunStatus (status_of e)) is runs)
    ran ending (inr (bytes, taken, takes, calm, short, inl (runner, runs_as, inr (input, ready, took, calm_in, inr (inr (inr (inl (is, writes, faults)))))))) runs = absurd (subst (λ e. IsRunStatus (status_of e)) is runs)
    ran ending (inr (bytes, taken, takes, calm, short, inl (runner, runs_as, inr (input, ready, took, calm_in, inr (inr (inr (inr (is, writes, puts)))))))) runs =
        let log = Took name bytes ∷ before.log in (
          bytes,
          input,
          runner,
          runs_as,
          takes.1,
          input_told taken ready options.input input calm took,
          (ap status_of is, writes),
          put_log ready after options.arena (arena_left (runner input options.steps)) (after_input options.input input log) puts (ready_log taken ready options.input input log took takes.0),
          arena_told ready after options.arena (arena_left (runner input options.steps)) puts,
        )

    -- the run of the same bytes on the same input
    complete : (bytes input : List ℕ) (runner : Runner) (ending : Ending) → Ends ending → RunsAs bytes runner → IsContent before after name bytes → IsInput before after (Took name bytes) options.input input
        → (Rose out_before.faults out_after.faults → ⊥) → (Rose before.put_faults after.put_faults → ⊥)
        → HasRun (runner input options.steps) out_before out_after (status_of ending) ⊎ (status_of ending ≡ statuses.NoMemory)
    complete bytes input runner ending (inl (fails, calm, silent)) runs_as is is_in out_calm put_calm =
        elim (untaken_content before after name max too_long bytes ending fails is) [
          | inl none ↦ inr none
          | inr long ↦ absurd (let l = long.1 in let s = judged.short bytes runner runs_as in omega (arith, l, s))
        ]
    complete bytes input runner ending (inr (given, taken, takes, calm, short, inr (inl why, same, silent))) runs_as is is_in out_calm put_calm =
        let e = content_is taken given bytes takes ([], ap (λ s. s.log) same) is in
        absurd (judged.good bytes runner ending runs_as (subst (λ b. Refuses b ending) e why))
    complete bytes input runner ending (inr (given, taken, takes, calm, short, inr (inr none, same, silent))) runs_as is is_in out_calm put_calm = inr (ap status_of none)
    complete bytes input runner ending (inr (given, taken, takes, calm, short, inl (other, other_runs_as, inl (fails, still, silent)))) runs_as is is_in out_calm put_calm = by_input options.input fails is_in
      where
        by_input : (o : Option (List ℕ)) → InputFails taken after o ending → IsInput before after (Took name bytes) o input → HasRun (runner input options.steps) out_before out_after (status_of ending) ⊎ (status_of ending ≡ statuses.NoMemory)
        by_input None fails is_in = absurd fails
        by_input (Some n) fails is_in =
            let e = content_is taken given bytes takes (fails_later taken n input_bytes long_input ending fails) is in
            let here = subst (λ b. Takes before taken name b) e takes in
            elim (untaken_content taken after n input_bytes long_input input ending fails (input_content taken bytes n input here calm is_in)) [
              | inl none ↦ inr none
              | inr long ↦ absurd (let l = long.1 in let s = is_in.0 in omega (arith, l, s))
            ]
    complete bytes input runner ending (inr (given, taken, takes, calm, short, inl (other, other_runs_as, inr (took_input, ready, took, calm_in, end)))) runs_as is is_in out_calm put_calm =
        let later = ends_later ready (other took_input options.steps) ending end in
        let e = content_is taken given bytes takes (ready_later taken ready options.input took_input took later) is in
        let here = subst (λ b. Takes before taken name b) e takes in
        let same_runner = judged.one bytes other runner (subst (λ b. RunsAs b other) e other_runs_as) runs_as in
        let same_input = input_is taken ready options.input bytes took_input input here calm took later is_in in
        by_end (subst (λ o. RunEnds o options.arena options.steps ready after out_before out_after ending) (ap (λ r. r took_input options.steps) same_runner ∙ ap (λ i. runner i options.steps) same_input) end)
      where
        no_faults : (o : Option (List ℕ)) (arena : List ℕ) → ArenaFaults ready after o arena → ⊥
        no_faults None arena faults = faults
        no_faults (Some n) arena faults = put_calm (subst (λ c. Rose c after.put_faults) (calm_in.put_faults ∙ calm.put_faults) faults.1)

        by_end : RunEnds (runner input options.steps) options.arena options.steps ready after out_before out_after ending → HasRun (runner input options.steps) out_before out_after (status_of ending) ⊎ (status_of ending ≡ statuses.NoMemory)
        by_end (inl (is, same, silent)) = inr (ap status_of is)
        by_end (inr (inl (is, writes, unput))) = inr (ap status_of is)
        by_end (inr (inr (inl (is, faults, same)))) = absurd (out_calm faults.2)
        by_end (inr (inr (inr (inl (is, writes, faults))))) = absurd (no_faults options.arena (arena_left (runner input options.steps)) faults)
        by_end (inr (inr (inr (inr (is, writes, puts))))) = inl (ap status_of is, writes)

    refused : (bytes : List ℕ) (verdict ending : Ending) → Ends ending → IsContent before after name bytes → Refuses bytes verdict → (status_of ending ≡ status_of verdict) ⊎ (status_of ending ≡ statuses.NoMemory)
    refused bytes verdict ending (inl (fails, calm, silent)) is why =
        elim (untaken_content before after name max too_long bytes ending fails is) [
          | inl none ↦ inr none
          | inr long ↦ inl (ap status_of long.0 ∙ sym (judged.long bytes verdict long.1 why))
        ]
    refused bytes verdict ending (inr (given, taken, takes, calm, short, inr (inl also, same, silent))) is why =
        let e = content_is taken given bytes takes ([], ap (λ s. s.log) same) is in
        inl (judged.once bytes ending verdict (subst (λ b. Refuses b ending) e also) why)
    refused bytes verdict ending (inr (given, taken, takes, calm, short, inr (inr none, same, silent))) is why = inr (ap status_of none)
    refused bytes verdict ending (inr (given, taken, takes, calm, short, inl (runner, runs_as, inl (fails, still, silent)))) is why =
        let e = content_is taken given bytes takes (input_fails_later taken options.input ending fails) is in
        absurd (judged.good bytes runner verdict (subst (λ b. RunsAs b runner) e runs_as) why)
    refused bytes verdict ending (inr (given, taken, takes, calm, short, inl (runner, runs_as, inr (input, ready, took, calm_in, end)))) is why =
        let e = content_is taken given bytes takes (ready_later taken ready options.input input took (ends_later ready (runner input options.steps) ending end)) is in
        absurd (judged.good bytes runner verdict (subst (λ b. RunsAs b runner) e runs_as) why)

    -- an input that is too long, and one that isn't there
    long_in : (bytes input i : List ℕ) (runner : Runner) (ending : Ending) → Ends ending → RunsAs bytes runner → IsContent before after name bytes → options.input ≡ Some i → before.content i ≡ Some (Some input)
        → (Rose before.take_faults after.take_faults → ⊥) → input_bytes < length input → (status_of ending ≡ statuses.Limit) ⊎ (status_of ending ≡ statuses.NoMemory)
    long_in bytes input i runner ending (inl (fails, calm, silent)) runs_as is chosen held no_fault long =
        elim (untaken_content before after name max too_long bytes ending fails is) [
          | inl none ↦ inr none
          | inr more ↦ absurd (let l = more.1 in let s = judged.short bytes runner runs_as in omega (arith, l, s))
        ]
    long_in bytes input i runner ending (inr (given, taken, takes, calm, short, inr (inl why, same, silent))) runs_as is chosen held no_fault long =
        let e = content_is taken given bytes takes ([], ap (λ s. s.log) same) is in
        absurd (judged.good bytes runner ending runs_as (subst (λ b. Refuses b ending) e why))
    long_in bytes input i runner ending (inr (given, taken, takes, calm, short, inr (inr none, same, silent))) runs_as is chosen held no_fault long = inr (ap status_of none)
    long_in bytes input i runner ending (inr (given, taken, takes, calm, short, inl (other, other_runs_as, inl (fails, still, silent)))) runs_as is chosen held no_fault long =
        elim (untaken_content taken after i input_bytes long_input input ending (subst (λ o. InputFails taken after o ending) chosen fails) (inr (calm.same i ∙ held, λ rose. no_fault (rose_before before.take_faults taken.take_faults after.take_faults calm.take_faults rose)))) [
          | inl none ↦ inr none
          | inr more ↦ inl (ap status_of more.0)
        ]
    long_in bytes input i runner ending (inr (given, taken, takes, calm, short, inl (other, other_runs_as, inr (took_input, ready, took, calm_in, end)))) runs_as is chosen held no_fault long =
        let t = subst (λ o. TakesInput taken ready o took_input) chosen took in
        let e = told_is (taken.content i) input took_input (calm.same i ∙ held) t.0.1 in
        absurd (let s = t.1 in omega (arith, s, long, ap length e))

    no_input : (bytes i : List ℕ) (runner : Runner) (ending : Ending) → Ends ending → RunsAs bytes runner → IsContent before after name bytes → options.input ≡ Some i → before.content i ≡ Some None
        → (status_of ending ≡ statuses.ReadFault) ⊎ (status_of ending ≡ statuses.NoMemory)
    no_input bytes i runner ending (inl (fails, calm, silent)) runs_as is chosen none_held =
        elim (untaken_content before after name max too_long bytes ending fails is) [
          | inl none ↦ inr none
          | inr more ↦ absurd (let l = more.1 in let s = judged.short bytes runner runs_as in omega (arith, l, s))
        ]
    no_input bytes i runner ending (inr (given, taken, takes, calm, short, inr (inl why, same, silent))) runs_as is chosen none_held =
        let e = content_is taken given bytes takes ([], ap (λ s. s.log) same) is in
        absurd (judged.good bytes runner ending runs_as (subst (λ b. Refuses b ending) e why))
    no_input bytes i runner ending (inr (given, taken, takes, calm, short, inr (inr none, same, silent))) runs_as is chosen none_held = inr (ap status_of none)
    no_input bytes i runner ending (inr (given, taken, takes, calm, short, inl (other, other_runs_as, inl (fails, still, silent)))) runs_as is chosen none_held =
        untaken_missing taken after i input_bytes long_input ending (subst (λ o. InputFails taken after o ending) chosen fails) (calm.same i ∙ none_held)
    no_input bytes i runner ending (inr (given, taken, takes, calm, short, inl (other, other_runs_as, inr (took_input, ready, took, calm_in, end)))) runs_as is chosen none_held =
        absurd (missing≢taken (taken.content i) took_input (calm.same i ∙ none_held) (subst (λ o. TakesInput taken ready o took_input) chosen took).0.1)

    missing : (ending : Ending) → Ends ending → before.content name ≡ Some None → (status_of ending ≡ statuses.ReadFault) ⊎ (status_of ending ≡ statuses.NoMemory)
    missing ending (inl (fails, calm, silent)) none_held = untaken_missing before after name max too_long ending fails none_held
    missing ending (inr (bytes, taken, takes, calm, short, rest)) none_held = absurd (missing≢taken (before.content name) bytes none_held takes.1)

    -- a run's own end is no fault
    run≢ : (outcome : Outcome) (status : Status) → end_status (end_of outcome) ≡ status → (IsRunStatus status → ⊥) → ⊥
    run≢ outcome status is other = other (subst IsRunStatus is (run_has (end_of outcome)))

    unreadable : (ending : Ending) → Ends ending → status_of ending ≡ statuses.ReadFault
        → CannotRead before after name ⊎ ((bytes : List ℕ) × (runner : Runner) × RunsAs bytes runner × CannotReadInput before after (Took name bytes) options.input)
    unreadable ending (inl (fails, calm, silent)) is = inl (untaken_unread before after name max too_long ending fails is)
    unreadable ending (inr (bytes, taken, takes, calm, short, inr (inl why, same, silent))) is = absurd (judged.no_read bytes ending why is)
    unreadable ending (inr (bytes, taken, takes, calm, short, inr (inr none, same, silent))) is = absurd (let e = ap status_of (sym none) ∙ is in cc)
    unreadable ending (inr (bytes, taken, takes, calm, short, inl (runner, runs_as, inl (fails, still, silent)))) is = inr (bytes, runner, runs_as, by_input options.input fails)
      where
        by_input : (o : Option (List ℕ)) → InputFails taken after o ending → CannotReadInput before after (Took name bytes) o
        by_input None fails = fails
        by_input (Some n) fails =
            elim (untaken_unread taken after n input_bytes long_input ending fails is) [
              | inl none ↦ inl (none.0 ∙ ap (λ l. NotTaken n take_errors.Missing ∷ l) takes.0, sym (calm.same n) ∙ none.1)
              | inr failed ↦ inr (failed.0 ∙ ap (λ l. NotTaken n take_errors.Failed ∷ l) takes.0, rose_before before.take_faults taken.take_faults after.take_faults calm.take_faults failed.1)
            ]
    unreadable ending (inr (bytes, taken, takes, calm, short, inl (runner, runs_as, inr (input, ready, took, calm_in, end)))) is = absurd (by_end end)
      where
        by_end : RunEnds (runner input options.steps) options.arena options.steps ready after out_before out_after ending → ⊥
        by_end (inl (why, same, silent)) = let e = ap status_of (sym why) ∙ is in cc
        by_end (inr (inl (why, writes, unput))) = let e = ap status_of (sym why) ∙ is in cc
        by_end (inr (inr (inl (why, faults, same)))) = let e = ap status_of (sym why) ∙ is in cc
        by_end (inr (inr (inr (inl (why, writes, faults))))) = let e = ap status_of (sym why) ∙ is in cc
        by_end (inr (inr (inr (inr (why, writes, puts))))) = run≢ (runner input options.steps) statuses.ReadFault (ap status_of (sym why) ∙ is) (λ x. x)

    unwritten : (ending : Ending) → Ends ending → status_of ending ≡ statuses.WriteFault
        → (Rose out_before.faults out_after.faults × ((bytes input : List ℕ) × (after.log ≡ after_input options.input input (Took name bytes ∷ before.log)))) ⊎ Rose before.put_faults after.put_faults
    unwritten ending (inl (fails, calm, silent)) is = absurd (untaken≢write before after name max too_long ending fails is)
    unwritten ending (inr (bytes, taken, takes, calm, short, inr (inl why, same, silent))) is = absurd (judged.no_write bytes ending why is)
    unwritten ending (inr (bytes, taken, takes, calm, short, inr (inr none, same, silent))) is = absurd (let e = ap status_of (sym none) ∙ is in cc)
    unwritten ending (inr (bytes, taken, takes, calm, short, inl (runner, runs_as, inl (fails, still, silent)))) is = absurd (by_input options.input fails)
      where
        by_input : (o : Option (List ℕ)) → InputFails taken after o ending → ⊥
        by_input None fails = fails
        by_input (Some n) fails = untaken≢write taken after n input_bytes long_input ending fails is
    unwritten ending (inr (bytes, taken, takes, calm, short, inl (runner, runs_as, inr (input, ready, took, calm_in, end)))) is = by_end end
      where
        rose_arena : (o : Option (List ℕ)) (arena : List ℕ) → ArenaFaults ready after o arena → Rose before.put_faults after.put_faults
        rose_arena None arena faults = absurd faults
        rose_arena (Some n) arena faults = subst (λ c. Rose c after.put_faults) (calm_in.put_faults ∙ calm.put_faults) faults.1

        by_end : RunEnds (runner input options.steps) options.arena options.steps ready after out_before out_after ending
            → (Rose out_before.faults out_after.faults × ((bytes input : List ℕ) × (after.log ≡ after_input options.input input (Took name bytes ∷ before.log)))) ⊎ Rose before.put_faults after.put_faults
        by_end (inl (why, same, silent)) = absurd (let e = ap status_of (sym why) ∙ is in cc)
        by_end (inr (inl (why, writes, unput))) = absurd (let e = ap status_of (sym why) ∙ is in cc)
        by_end (inr (inr (inl (why, faults, same)))) = inl (faults.2, (bytes, input, ap (λ s. s.log) same ∙ ready_log taken ready options.input input (Took name bytes ∷ before.log) took takes.0))
        by_end (inr (inr (inr (inl (why, writes, faults))))) = inr (rose_arena options.arena (arena_left (runner input options.steps)) faults)
        by_end (inr (inr (inr (inr (why, writes, puts))))) = absurd (run≢ (runner input options.steps) statuses.WriteFault (ap status_of (sym why) ∙ is) (λ x. x))

    -- what changed, by what became of the arena
    others_put : (ready : SeenShelf) (o : Option (List ℕ)) (arena : List ℕ) → PutsArena ready after o arena → (n : List ℕ) → o ≢ Some n → after.content n ≡ ready.content n
    others_put ready None arena puts n other = ap (λ s. s.content n) puts
    others_put ready (Some m) arena puts n other = puts.2 n (λ e. other (ap Some (sym e)))

    others_fault : (ready : SeenShelf) (o : Option (List ℕ)) (arena : List ℕ) → ArenaFaults ready after o arena → (n : List ℕ) → o ≢ Some n → after.content n ≡ ready.content n
    others_fault ready None arena faults n other = absurd faults
    others_fault ready (Some m) arena faults n other = faults.2 n (λ e. other (ap Some (sym e)))

    same_unput : (ready : SeenShelf) (o : Option (List ℕ)) (arena : List ℕ) → ArenaUnput ready after o arena → Same ready after
    same_unput ready None arena unput = absurd unput
    same_unput ready (Some m) arena unput = unput.1

    pub others : (ending : Ending) → Ends ending → (n : List ℕ) → options.arena ≢ Some n → after.content n ≡ before.content n
    others ending (inl (fails, calm, silent)) n other = calm.same n
    others ending (inr (bytes, taken, takes, calm, short, inr (why, same, silent))) n other = ap (λ s. s.content n) same ∙ calm.same n
    others ending (inr (bytes, taken, takes, calm, short, inl (runner, runs_as, inl (fails, still, silent)))) n other = still.same n ∙ calm.same n
    others ending (inr (bytes, taken, takes, calm, short, inl (runner, runs_as, inr (input, ready, took, calm_in, end)))) n other = by_end end ∙ calm_in.same n ∙ calm.same n
      where
        by_end : RunEnds (runner input options.steps) options.arena options.steps ready after out_before out_after ending → after.content n ≡ ready.content n
        by_end (inl (why, same, silent)) = ap (λ s. s.content n) same
        by_end (inr (inl (why, writes, unput))) = same_unput ready options.arena (arena_left (runner input options.steps)) unput n
        by_end (inr (inr (inl (why, faults, same)))) = ap (λ s. s.content n) same
        by_end (inr (inr (inr (inl (why, writes, faults))))) = others_fault ready options.arena (arena_left (runner input options.steps)) faults n other
        by_end (inr (inr (inr (inr (why, writes, puts))))) = others_put ready options.arena (arena_left (runner input options.steps)) puts n other

    same_all : (ending : Ending) → Ends ending → (IsRunStatus (status_of ending) → ⊥) → (status_of ending ≡ statuses.WriteFault → ⊥) → Same before after
    same_all ending (inl (fails, calm, silent)) no_run no_fault = calm.same
    same_all ending (inr (bytes, taken, takes, calm, short, inr (why, same, silent))) no_run no_fault = λ n. ap (λ s. s.content n) same ∙ calm.same n
    same_all ending (inr (bytes, taken, takes, calm, short, inl (runner, runs_as, inl (fails, still, silent)))) no_run no_fault = λ n. still.same n ∙ calm.same n
    same_all ending (inr (bytes, taken, takes, calm, short, inl (runner, runs_as, inr (input, ready, took, calm_in, end)))) no_run no_fault = λ n. by_end n end ∙ calm_in.same n ∙ calm.same n
      where
        by_end : (n : List ℕ) → RunEnds (runner input options.steps) options.arena options.steps ready after out_before out_after ending → after.content n ≡ ready.content n
        by_end n (inl (why, same, silent)) = ap (λ s. s.content n) same
        by_end n (inr (inl (why, writes, unput))) = same_unput ready options.arena (arena_left (runner input options.steps)) unput n
        by_end n (inr (inr (inl (why, faults, same)))) = ap (λ s. s.content n) same
        by_end n (inr (inr (inr (inl (why, writes, faults))))) = absurd (no_fault (ap status_of why))
        by_end n (inr (inr (inr (inr (why, writes, puts))))) = absurd (no_run (subst (λ e. IsRunStatus (status_of e)) (sym why) (run_has (end_of (runner input options.steps)))))

    silent_all : (ending : Ending) → Ends ending → (IsRunStatus (status_of ending) → ⊥) → (status_of ending ≡ statuses.WriteFault → ⊥) → (status_of ending ≡ statuses.NoMemory → options.arena ≡ None) → Silent out_before out_after
    silent_all ending (inl (fails, calm, silent)) no_run no_fault no_arena = silent
    silent_all ending (inr (bytes, taken, takes, calm, short, inr (why, same, silent))) no_run no_fault no_arena = silent
    silent_all ending (inr (bytes, taken, takes, calm, short, inl (runner, runs_as, inl (fails, still, silent)))) no_run no_fault no_arena = silent
    silent_all ending (inr (bytes, taken, takes, calm, short, inl (runner, runs_as, inr (input, ready, took, calm_in, end)))) no_run no_fault no_arena = by_end end
      where
        by_end : RunEnds (runner input options.steps) options.arena options.steps ready after out_before out_after ending → Silent out_before out_after
        by_end (inl (why, same, silent)) = silent
        by_end (inr (inl (why, writes, unput))) = absurd (subst (λ o. ArenaUnput ready after o (arena_left (runner input options.steps))) (no_arena (ap status_of why)) unput)
        by_end (inr (inr (inl (why, faults, same)))) = absurd (no_fault (ap status_of why))
        by_end (inr (inr (inr (inl (why, writes, faults))))) = absurd (no_fault (ap status_of why))
        by_end (inr (inr (inr (inr (why, writes, puts))))) = absurd (no_run (subst (λ e. IsRunStatus (status_of e)) (sym why) (run_has (end_of (runner input options.steps)))))

    pub promises : (ending : Ending) → Ends ending → RunPromises RunsAs Refuses before after out_before out_after name options (status_of ending)
    promises ending ends = record {
      ran = ran ending ends;
      complete = λ bytes input runner. complete bytes input runner ending ends;
      refused = λ bytes verdict. refused bytes verdict ending ends;
      long_input = λ bytes input i runner. long_in bytes input i runner ending ends;
      missing = missing ending ends;
      no_input = λ bytes i runner. no_input bytes i runner ending ends;
      unreadable = unreadable ending ends;
      unwritten = unwritten ending ends;
      others = others ending ends;
      same = same_all ending ends;
      silent = silent_all ending ends;
    }
