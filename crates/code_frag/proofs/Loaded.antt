-- The words of an image in the memory of its board, and runs that end.
use Rattle.std.proofs.Common.{◌≡◌, ℕ, ◌+◌, ◌*◌, ◌^◌, ◌<◌, ◌≤◌, Bool, List, [], ◌∷◌, length, slice_index, ap, subst, ◌∙◌, arith, append-nil}
use Rattle.bv_base.specs.Bytes.{zeros}
use Rattle.bv_base.specs.Limits.{image_words}
use Rattle.bv_base.specs.MemoryMap.{ram_end, image_start, arena_start, arena_end, arena_bytes}
use Rattle.bv_run.specs.declared.report.Report.{Report}
use Rattle.bv_run.specs.Outcome as outcomes
use Rattle.bv_run.specs.Runs.{Ended, Over, run, with_front, outcome_of}
use Rattle.bv_run.proofs.RunLaws.{run-going, run_stops}
use Rattle.arm2_machine.specs.Machine.{Machine, loaded, arena_of}
use Rattle.arm2_machine.specs.Step.{board_step, board_run}
use Rattle.arm2_machine.proofs.Memory.{HasAt, loaded_has, arena_of-loaded_ram}
use Rattle.arm_core.specs.Core.{Core, IsAt, first_core}
use Rattle.arm_core.specs.Made.{EndsRun}
use Rattle.arm_core.proofs.Arena.{arena-same}
use Rattle.arm_core.proofs.Start.{loaded-is}
use Rattle.arm_core.proofs.MemoryWords.{word-fetched}
use Rattle.code_frag.specs.Demands.{ToEnd, Leaves, Post}
use Rattle.code_frag.specs.Rows.{Row}
use Rattle.code_frag.specs.Runs.{Stands, Comes, EndsAt}
use Rattle.code_frag.specs.Words.{FragState, IsFrag, words_of}
use Rattle.code_frag.proofs.RowLaws.{row_run}
use Rattle.code_frag.proofs.WordLaws.{HasWords, label_address, stands-words, length-words_of, are-words}

-- words that stand in the board's list stand in the core's memory
pub has_words : (ws : List ℕ) (s : Core) (pc : ℕ) (m : Machine) (a : ℕ) → IsAt s pc m → a + 4 * length ws ≤ ram_end → HasAt m.ram a ws → HasWords ws s.mem a
has_words [] s pc m a is inside has = tt
has_words (w ∷ ws) s pc m a is inside has = (word-fetched s pc m a w is (omega (arith, inside)) has.0, has_words ws s pc m (a + 4) is (omega (arith, inside)) has.1)

-- the board after the step that ends its run
pub record HasEnded (m : Machine) (end : Core) (bytes : List ℕ) (steps : ℕ) (report : Report) : Type 0 where
  pub last : Machine
  pub machine : Machine
  pub pc : ℕ
  pub run : run board_step (steps + 1) m [] ≡ Ended last bytes (Over report)
  pub is : IsAt end pc machine
  pub ram : last.ram ≡ machine.ram

ended_by : (places : List ℕ) (m machine : Machine) (bytes : List ℕ) (end : Core) (report : Report) → Row places m bytes machine → (pc : ℕ) × IsAt end pc machine × EndsRun end machine report → HasEnded m end bytes (length places) report
ended_by places m machine bytes end report row there = record {
  last = there.2.machine;
  machine = machine;
  pc = there.0;
  run = run-going board_step (length places) 1 m machine bytes (row_run places m machine bytes row) ∙ ap (with_front bytes) (run_stops board_step machine there.2.machine [] (Over report) [] there.2.ends)
      ∙ ap (λ l. Ended there.2.machine l (Over report)) (append-nil bytes);
  is = there.1;
  ram = there.2.ram;
}

-- a piece that leads to the end of the run ends it, one step after its row
pub ends_run : (code entry : ℕ → ℕ) (flat : Bool) (Q : Post) (place next : ℕ) (s : Core) (m : Machine) (x : EndsAt code entry flat Q place next s m) (report : Report) → x.out ≡ Leaves (ToEnd report) → HasEnded m x.end x.bytes (length x.places) report
ends_run code entry flat Q place next s m x report is = ended_by x.places m x.machine x.bytes x.end report x.row (subst (λ o. Comes entry o next x.end x.machine) is x.comes)

-- the items of a fragment stand in the memory of a board that was loaded with its words
pub image_stands : (f : FragState) (input : List ℕ) → IsFrag f → length f.items ≤ image_words → ((k : ℕ) → slice_index input k < 2 ^ 8)
    → Stands f.items (first_core (words_of f) input).mem (label_address f.places image_start) image_start
image_stands f input good few bytes =
    let long = length-words_of f in
    let is = loaded-is (words_of f) input (omega (arith, long, few)) bytes in
    stands-words f (first_core (words_of f) input).mem image_start good (omega (arith, few)) (omega arith)
    (has_words (words_of f) (first_core (words_of f) input) image_start (loaded (words_of f) input) image_start is (omega (arith, long, few))
    (loaded_has (words_of f) (omega (arith, long, few)) (are-words f good (omega (arith, few)))))

-- what the board shows of a run that ends and stores nothing into the arena
pub shows_end : (words input : List ℕ) (end : Core) (bytes : List ℕ) (steps : ℕ) (report : Report) → IsAt (first_core words input) image_start (loaded words input) → HasEnded (loaded words input) end bytes steps report
    → ((a : ℕ) → arena_start ≤ a → a < arena_end → end.mem a ≡ (first_core words input).mem a)
    → board_run words input (steps + 1) ≡ outcomes.Over bytes (zeros arena_bytes) report
shows_end words input end bytes steps report start e same =
    ap (outcome_of (λ m. arena_of m.ram)) e.run
    ∙ ap (λ arena. outcomes.Over bytes arena report)
    (ap arena_of e.ram ∙ arena-same (first_core words input) end image_start e.pc (loaded words input) e.machine start e.is same ∙ arena_of-loaded_ram words)
