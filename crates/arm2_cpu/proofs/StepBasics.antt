-- One instruction at the PC: what is fetched, its condition, and its class.
use Rattle.std.proofs.Common.{◌≡◌, ℕ, not, true, false, if◌then◌else◌, List, Some, None, refl, sym, ap, ◌∙◌}
use Rattle.std.proofs.lemmas.Bool.{cond-true, cond-false}
use Rattle.bv_run.specs.declared.report.Trap.TheVariants as traps
use Rattle.arm_isa.specs.declared.classes.Class.{Class}
use Rattle.arm_isa.specs.declared.classes.Class.TheVariants as classes
use Rattle.arm_isa.specs.declared.instruction.Instr.{Instr}
use Rattle.arm_isa.specs.declared.instruction.Instr.TheVariants.{Data, Mul, Single, Block, Branch, Swi, Undefined}
use Rattle.arm_isa.specs.Fields.{bits}
use Rattle.arm_isa.specs.Table.{class_of}
use Rattle.arm_isa.specs.Words.{means, read_as, word_of, IsValid}
use Rattle.arm_isa.proofs.RoundTrip.{means-word_of}
use Rattle.arm2_cpu.specs.declared.event.CpuEvent.TheVariants as events
use Rattle.arm2_alu.specs.declared.regs.Regs.{Regs}
use Rattle.arm2_alu.specs.Conditions.{holds}
use Rattle.arm2_cpu.specs.Memory.{Space, read_word}
use Rattle.arm2_cpu.specs.Outcomes.{Stepped, with_memory, ran, trapped}
use Rattle.arm2_alu.specs.Registers.{at_next}
use Rattle.arm2_cpu.specs.Step.{class_step, instruction_step, word_step, fetched_step, cpu_step}
use Rattle.arm2_cpu.specs.Unpredictable.{is_unpredictable}

-- the instruction at the PC
pub record Fetches (s : Space) (r : Regs) (bytes : List ℕ) (i : Instr) : Type 0 where
  pub word : ℕ
  pub fetched : read_word s bytes (not r.svc) r.pc ≡ Some word
  pub meaning : means word ≡ i

-- the word of a valid instruction is that instruction
pub fetches_word : {s : Space} {r : Regs} {bytes : List ℕ} (i : Instr) → IsValid i → read_word s bytes (not r.svc) r.pc ≡ Some (word_of i) → Fetches s r bytes i
fetches_word i valid fetched = record { word = word_of i; fetched = fetched; meaning = means-word_of i valid }

-- a step after which the run goes on with these registers and this memory
abbrev pub goes : Regs → List ℕ → Stepped
goes r bytes = record { event = events.Ran; regs = r; bytes = bytes }

-- the condition of an instruction
abbrev pub condition_of : Instr → ℕ
condition_of (Data cond imm op s rn rd op2) = cond
condition_of (Mul cond acc s rd rn rs rm) = cond
condition_of (Single cond reg pre up byte wb load rn rd offset) = cond
condition_of (Block cond pre up psr wb load rn list) = cond
condition_of (Branch cond link words) = cond
condition_of (Swi cond number) = cond
condition_of (Undefined word) = bits word 31 28

condition-read_as : (c : Class) (w : ℕ) → condition_of (read_as c w) ≡ bits w 31 28
condition-read_as classes.Data w = refl
condition-read_as classes.Multiply w = refl
condition-read_as classes.Single w = refl
condition-read_as classes.Block w = refl
condition-read_as classes.Branch w = refl
condition-read_as classes.Swi w = refl
condition-read_as classes.Undefined w = refl

condition-means : (w : ℕ) → condition_of (means w) ≡ bits w 31 28
unfolding means
condition-means w = condition-read_as (class_of w) w

-- the step by the word, and by the instruction
by_word : (s : Space) (r : Regs) (bytes : List ℕ) (i : Instr) (f : Fetches s r bytes i) → cpu_step s r bytes ≡ word_step s r bytes f.word
unfolding cpu_step
by_word s r bytes i f = ap (fetched_step s r bytes) f.fetched

condition_at : (s : Space) (r : Regs) (bytes : List ℕ) (i : Instr) (f : Fetches s r bytes i) → bits f.word 31 28 ≡ condition_of i
condition_at s r bytes i f = sym (condition-means f.word) ∙ ap condition_of f.meaning

by_condition : (s : Space) (r : Regs) (bytes : List ℕ) (i : Instr) (f : Fetches s r bytes i)
    → word_step s r bytes f.word ≡ (if holds (condition_of i) r then instruction_step s r bytes i else with_memory bytes (ran (at_next r)))
unfolding word_step
by_condition s r bytes i f = (λ j. if holds (condition_at s r bytes i f j) r then instruction_step s r bytes (f.meaning j) else with_memory bytes (ran (at_next r)))

-- a condition that fails
pub step-skipped : (s : Space) (r : Regs) (bytes : List ℕ) (i : Instr) → Fetches s r bytes i → holds (condition_of i) r ≡ false → cpu_step s r bytes ≡ goes (at_next r) bytes
step-skipped s r bytes i f fails =
    by_word s r bytes i f ∙ by_condition s r bytes i f ∙ cond-false (holds (condition_of i) r) _ _ fails

unlisted : (s : Space) (r : Regs) (bytes : List ℕ) (i : Instr) → is_unpredictable i ≡ false → instruction_step s r bytes i ≡ class_step s r bytes i
unfolding instruction_step
unlisted s r bytes i fine = cond-false (is_unpredictable i) _ _ fine

when_listed : (s : Space) (r : Regs) (bytes : List ℕ) (i : Instr) → is_unpredictable i ≡ true → instruction_step s r bytes i ≡ with_memory bytes (trapped traps.Unpredictable r)
unfolding instruction_step
when_listed s r bytes i listed = cond-true (is_unpredictable i) _ _ listed

-- a condition that holds, of an instruction that isn't unpredictable
pub step-by_class : (s : Space) (r : Regs) (bytes : List ℕ) (i : Instr) → Fetches s r bytes i → holds (condition_of i) r ≡ true → is_unpredictable i ≡ false → cpu_step s r bytes ≡ class_step s r bytes i
step-by_class s r bytes i f meets open_not =
    by_word s r bytes i f ∙ by_condition s r bytes i f ∙ cond-true (holds (condition_of i) r) _ _ meets ∙ unlisted s r bytes i open_not

-- an unpredictable instruction traps
pub step-unpredictable : (s : Space) (r : Regs) (bytes : List ℕ) (i : Instr) → Fetches s r bytes i → holds (condition_of i) r ≡ true → is_unpredictable i ≡ true → cpu_step s r bytes ≡ with_memory bytes (trapped traps.Unpredictable r)
step-unpredictable s r bytes i f meets listed =
    by_word s r bytes i f ∙ by_condition s r bytes i f ∙ cond-true (holds (condition_of i) r) _ _ meets ∙ when_listed s r bytes i listed

-- a refused fetch traps
pub step-no_fetch : (s : Space) (r : Regs) (bytes : List ℕ) → read_word s bytes (not r.svc) r.pc ≡ None → cpu_step s r bytes ≡ with_memory bytes (trapped traps.Fetch r)
unfolding cpu_step
step-no_fetch s r bytes none = ap (fetched_step s r bytes) none
