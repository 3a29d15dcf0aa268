-- That the board does with a core what the definitions of its instructions say. This project's own.
use Rattle.std.specs.Prelude.{◌≡◌, ℕ, ◌+◌, ◌*◌, ◌%◌, ◌^◌, ◌<◌, ◌≤◌, Bool, true, false, List, [], ◌++◌, length, slice_index, Some, ℤ}
use Rattle.bv_base.specs.Limits.{image_words}
use Rattle.bv_base.specs.MemoryMap.{ram_end, image_start}
use Rattle.bv_run.specs.declared.report.Report.{Report}
use Rattle.bv_run.specs.Runs.{Goes, Ends, Over}
use Rattle.arm_isa.specs.declared.instruction.Instr.{Instr}
use Rattle.arm_isa.specs.declared.instruction.Instr.TheVariants.{Data, Branch, Swi}
use Rattle.arm_isa.specs.Fields.{offset_field}
use Rattle.arm_isa.specs.Numbers.{MOV, AL, R14, R15}
use Rattle.arm_isa.specs.Words.{means}
use Rattle.arm2_machine.specs.Machine.{Machine, loaded}
use Rattle.arm2_machine.specs.Step.{board_step}
use Rattle.arm2_machine.specs.Swi.{swi_end}
use Rattle.arm_core.specs.Core.{Core, put, word, meets, IsAt, first_core}
use Rattle.arm_core.specs.Effects.{is_plain, executed, CanMake, report_in, link_value, return_place}

-- the board makes one step, after which it is another core at another address
pub record Makes (s : Core) (m : Machine) (pc : ℕ) (t : Core) : Type 0 where
  pub machine : Machine
  pub bytes : List ℕ
  pub goes : board_step m ≡ Goes machine bytes
  pub out : t.out ≡ s.out ++ bytes
  pub is : IsAt t pc machine

-- the board is a core at an instruction
pub record AtInstruction (s : Core) (pc : ℕ) (m : Machine) (i : Instr) : Type 0 where
  pub is : IsAt s pc m
  pub inside : pc + 4 < ram_end
  pub instruction : means (word s.mem pc) ≡ i

-- the step ends the run
pub record EndsRun (s : Core) (m : Machine) (report : Report) : Type 0 where
  pub machine : Machine
  pub ends : board_step m ≡ Ends machine [] (Over report)
  pub ram : machine.ram ≡ m.ram

-- where a branch leads
abbrev pub target_of : ℕ → ℕ → ℕ
target_of pc field = (pc + 8 + 4 * field) % 2 ^ 26

-- One step of the board, by the instruction at the PC.
pub record StepsAreMade : Type 0 where
  -- an instruction inside a piece leads to the next one, and does what its effect says
  pub plain : (i : Instr) (s : Core) (pc : ℕ) (m : Machine) → AtInstruction s pc m i → is_plain i ≡ true → CanMake i s → Makes s m (pc + 4) (executed i s)
  -- a branch whose condition holds leads to its target, and another to the next instruction
  pub branch : (cond : ℕ) (words : ℤ) (s : Core) (pc : ℕ) (m : Machine) → AtInstruction s pc m (Branch cond false words) → meets cond s ≡ true → Makes s m (target_of pc (offset_field words)) s
  pub no_branch : (cond : ℕ) (link : Bool) (words : ℤ) (s : Core) (pc : ℕ) (m : Machine) → AtInstruction s pc m (Branch cond link words) → meets cond s ≡ false → Makes s m (pc + 4) s
  -- BL leaves in R14 where MOV PC,R14 leads back
  pub link : (words : ℤ) (s : Core) (pc : ℕ) (m : Machine) → AtInstruction s pc m (Branch AL true words) → Makes s m (target_of pc (offset_field words)) (put R14 (link_value pc s) s)
  pub returns : (s : Core) (pc : ℕ) → pc + 4 < ram_end → pc % 4 ≡ 0 → (link_value pc s < 2 ^ 32) × (return_place (link_value pc s) ≡ pc + 4)
  -- MOV PC,Rm
  pub jump : (rm : ℕ) (s : Core) (pc : ℕ) (m : Machine) → AtInstruction s pc m (Data AL false MOV false 0 R15 rm) → rm < R15 → Makes s m (return_place (s.regs rm)) s
  -- SWI &11 with a report in R0 to R3
  pub end : (report : Report) (s : Core) (pc : ℕ) (m : Machine) → AtInstruction s pc m (Swi AL swi_end) → report_in s ≡ Some report → EndsRun s m report
  -- the board of a loaded image is its first core
  pub start : (words input : List ℕ) → length words ≤ image_words → ((k : ℕ) → slice_index input k < 2 ^ 8) → IsAt (first_core words input) image_start (loaded words input)
