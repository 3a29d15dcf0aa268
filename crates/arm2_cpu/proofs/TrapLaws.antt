-- A trap changes nothing.
use Rattle.std.proofs.Common.{◌≡◌, ℕ, ◌==◌, not, Bool, true, false, if◌then◌else◌, List, length, Option, Some, None, ℤ, refl, subst}
use Rattle.arm_isa.specs.declared.instruction.Instr.{Instr}
use Rattle.arm_isa.specs.declared.instruction.Instr.TheVariants.{Data, Mul, Single, Block, Branch, Swi, Undefined}
use Rattle.arm_isa.specs.Fields.{bits, bit}
use Rattle.arm_isa.specs.Words.{means}
use Rattle.arm2_cpu.specs.declared.access.Access.{Access}
use Rattle.arm2_cpu.specs.declared.event.CpuEvent.{CpuEvent}
use Rattle.arm2_cpu.specs.declared.event.CpuEvent.TheVariants as events
use Rattle.arm2_alu.specs.declared.operations.Computed.{Computed}
use Rattle.arm2_alu.specs.declared.regs.Regs.{Regs}
use Rattle.arm_isa.specs.Numbers.{R15}
use Rattle.arm2_cpu.specs.Access.{single_access, block_access}
use Rattle.arm2_cpu.specs.Block.{registers_in, refused_word, unless_refused, store_block, load_with_r15, load_block, last_word, block_step}
use Rattle.arm2_cpu.specs.Branch.{branch_step}
use Rattle.arm2_alu.specs.Conditions.{holds}
use Rattle.arm2_cpu.specs.Data.{tested, set_with_flags, concluded, data_step}
use Rattle.arm2_cpu.specs.Memory.{Space, read_word}
use Rattle.arm2_cpu.specs.Multiply.{multiply_step}
use Rattle.arm2_alu.specs.Operations.{is_test}
use Rattle.arm2_cpu.specs.Outcomes.{Done, Stepped, IfTrap, with_memory}
use Rattle.arm2_alu.specs.Registers.{takes_psr}
use Rattle.arm2_cpu.specs.Single.{can_transfer, load_single, store_single, single_step}
use Rattle.arm2_cpu.specs.Step.{class_step, instruction_step, word_step, fetched_step, cpu_step}
use Rattle.arm2_cpu.specs.Unpredictable.{is_unpredictable}

-- the registers are as they were, and so is the memory
abbrev Keeps : Regs → Done → Type 0
Keeps r d = IfTrap d.event (d.regs ≡ r)

abbrev KeepsAll : Regs → List ℕ → Stepped → Type 0
KeepsAll r bytes x = IfTrap x.event ((x.regs ≡ r) × (x.bytes ≡ bytes))

either : (b : Bool) (x y : Done) (r : Regs) → Keeps r x → Keeps r y → Keeps r (if b then x else y)
either true x y r p q = p
either false x y r p q = q

either_all : (b : Bool) (x y : Stepped) (r : Regs) (bytes : List ℕ) → KeepsAll r bytes x → KeepsAll r bytes y → KeepsAll r bytes (if b then x else y)
either_all true x y r bytes p q = p
either_all false x y r bytes p q = q

with_bytes_too : (e : CpuEvent) (r1 r : Regs) (bytes : List ℕ) → IfTrap e (r1 ≡ r) → IfTrap e ((r1 ≡ r) × (bytes ≡ bytes))
with_bytes_too events.Ran r1 r bytes p = tt
with_bytes_too (events.Swi number) r1 r bytes p = tt
with_bytes_too (events.Trap kind address) r1 r bytes p = (p, refl)

memory_kept : (d : Done) (r : Regs) (bytes : List ℕ) → Keeps r d → KeepsAll r bytes (with_memory bytes d)
memory_kept d r bytes p = with_bytes_too d.event d.regs r bytes p

tested_keeps : (r : Regs) (rd : ℕ) (x : Computed) → Keeps r (tested r rd x)
unfolding tested
tested_keeps r rd x = either (rd == R15) _ _ r (either (takes_psr r x.value) _ _ r tt refl) tt

set_keeps : (r : Regs) (rd : ℕ) (x : Computed) → Keeps r (set_with_flags r rd x)
unfolding set_with_flags
set_keeps r rd x = either (rd == R15) _ _ r (either (takes_psr r x.value) _ _ r tt refl) tt

data_keeps : (r : Regs) (imm : Bool) (op : ℕ) (flags : Bool) (rn rd op2 : ℕ) → Keeps r (data_step r imm op flags rn rd op2)
unfolding data_step concluded
data_keeps r imm op flags rn rd op2 = either (is_test op) _ _ r (tested_keeps r rd _) (either flags _ _ r (set_keeps r rd _) tt)

multiply_keeps : (r : Regs) (acc flags : Bool) (rd rn rs rm : ℕ) → Keeps r (multiply_step r acc flags rd rn rs rm)
unfolding multiply_step
multiply_keeps r acc flags rd rn rs rm = tt

load_keeps : (s : Space) (r : Regs) (bytes : List ℕ) (byte : Bool) (rd : ℕ) (a : Access) → Keeps r (load_single s r bytes byte rd a)
unfolding load_single
load_keeps s r bytes byte rd a = either (can_transfer s byte a) _ _ r tt refl

store_keeps : (s : Space) (r : Regs) (bytes : List ℕ) (byte : Bool) (rd : ℕ) (a : Access) → KeepsAll r bytes (store_single s r bytes byte rd a)
unfolding store_single
store_keeps s r bytes byte rd a = either_all (can_transfer s byte a) _ _ r bytes tt (refl, refl)

single_keeps : (s : Space) (r : Regs) (bytes : List ℕ) (load byte : Bool) (rd : ℕ) (a : Access) → KeepsAll r bytes (single_step s r bytes load byte rd a)
unfolding single_step
single_keeps s r bytes load byte rd a = either_all load _ _ r bytes (memory_kept _ r bytes (load_keeps s r bytes byte rd a)) (store_keeps s r bytes byte rd a)

load_r15_keeps : (s : Space) (r : Regs) (bytes : List ℕ) (psr : Bool) (list : ℕ) (a : Access) → Keeps r (load_with_r15 s r bytes psr list a)
unfolding load_with_r15
load_r15_keeps s r bytes psr list a = either psr _ _ r (either (takes_psr r (last_word s bytes list a)) _ _ r tt refl) tt

load_block_keeps : (s : Space) (r : Regs) (bytes : List ℕ) (psr : Bool) (list : ℕ) (a : Access) → Keeps r (load_block s r bytes psr list a)
unfolding load_block
load_block_keeps s r bytes psr list a = either (bit list 15) _ _ r (load_r15_keeps s r bytes psr list a) tt

store_block_keeps : (s : Space) (r : Regs) (bytes : List ℕ) (psr : Bool) (list : ℕ) (a : Access) → KeepsAll r bytes (store_block s r bytes psr list a)
unfolding store_block
store_block_keeps s r bytes psr list a = tt

refused_keeps : (o : Option ℕ) (r : Regs) (bytes : List ℕ) (x : Stepped) → KeepsAll r bytes x → KeepsAll r bytes (unless_refused o r bytes x)
refused_keeps None r bytes x p = p
refused_keeps (Some at) r bytes x p = (refl, refl)

block_keeps : (s : Space) (r : Regs) (bytes : List ℕ) (psr load : Bool) (list : ℕ) (a : Access) → KeepsAll r bytes (block_step s r bytes psr load list a)
unfolding block_step
block_keeps s r bytes psr load list a =
    refused_keeps (refused_word (length (registers_in list)) s a.user a.address) r bytes _
    (either_all load _ _ r bytes (memory_kept _ r bytes (load_block_keeps s r bytes psr list a)) (store_block_keeps s r bytes psr list a))

branch_keeps : (r : Regs) (link : Bool) (words : ℤ) → Keeps r (branch_step r link words)
unfolding branch_step
branch_keeps r link words = tt

class_keeps : (s : Space) (r : Regs) (bytes : List ℕ) (i : Instr) → KeepsAll r bytes (class_step s r bytes i)
unfolding class_step
class_keeps s r bytes (Data cond imm op flags rn rd op2) = memory_kept _ r bytes (data_keeps r imm op flags rn rd op2)
class_keeps s r bytes (Mul cond acc flags rd rn rs rm) = memory_kept _ r bytes (multiply_keeps r acc flags rd rn rs rm)
class_keeps s r bytes (Single cond reg pre up byte wb load rn rd offset) = single_keeps s r bytes load byte rd (single_access r reg pre up wb rn offset)
class_keeps s r bytes (Block cond pre up psr wb load rn list) = block_keeps s r bytes psr load list (block_access r pre up wb rn (length (registers_in list)))
class_keeps s r bytes (Branch cond link words) = memory_kept _ r bytes (branch_keeps r link words)
class_keeps s r bytes (Swi cond number) = tt
class_keeps s r bytes (Undefined word) = (refl, refl)

instruction_keeps : (s : Space) (r : Regs) (bytes : List ℕ) (i : Instr) → KeepsAll r bytes (instruction_step s r bytes i)
unfolding instruction_step
instruction_keeps s r bytes i = either_all (is_unpredictable i) _ _ r bytes (refl, refl) (class_keeps s r bytes i)

word_keeps : (s : Space) (r : Regs) (bytes : List ℕ) (word : ℕ) → KeepsAll r bytes (word_step s r bytes word)
unfolding word_step
word_keeps s r bytes word = either_all (holds (bits word 31 28) r) _ _ r bytes (instruction_keeps s r bytes (means word)) tt

-- the same of the step of a word that is known
pub word-keeps_at : (s : Space) (r : Regs) (bytes : List ℕ) (word : ℕ) (x : Stepped) → word_step s r bytes word ≡ x → IfTrap x.event ((x.regs ≡ r) × (x.bytes ≡ bytes))
word-keeps_at s r bytes word x is = subst (KeepsAll r bytes) is (word_keeps s r bytes word)

fetched_keeps : (s : Space) (r : Regs) (bytes : List ℕ) (word : Option ℕ) → KeepsAll r bytes (fetched_step s r bytes word)
fetched_keeps s r bytes None = (refl, refl)
fetched_keeps s r bytes (Some word) = word_keeps s r bytes word

-- a trap changes no register and no byte
pub trap-keeps : (s : Space) (r : Regs) (bytes : List ℕ) → IfTrap (cpu_step s r bytes).event (((cpu_step s r bytes).regs ≡ r) × ((cpu_step s r bytes).bytes ≡ bytes))
unfolding cpu_step
trap-keeps s r bytes = fetched_keeps s r bytes (read_word s bytes (not r.svc) r.pc)
