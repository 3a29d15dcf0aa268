-- What the board does at each instruction that the compiler writes. They are made in supervisor mode.
use Rattle.std.proofs.Common.{◌≡◌, ℕ, ◌+◌, ◌*◌, ◌%◌, ◌<◌, ◌==◌, ◌&&◌, not, true, false, if◌then◌else◌, [], ◌∷◌, slice_index, Some, refl, ap, ◌∙◌, arith, eq-eqb, lt-ltb}
use Rattle.bv_run.specs.declared.report.Report.TheVariants.{Done}
use Rattle.bv_run.specs.Runs.{Goes, Ends, Over}
use Rattle.arm_isa.specs.declared.instruction.Instr.{Instr}
use Rattle.arm_isa.specs.declared.instruction.Instr.TheVariants.{Data, Swi}
use Rattle.arm_isa.specs.Words.{means, word_of}
use Rattle.arm_isa.proofs.ImmediateLaws.{immediate_value-byte}
use Rattle.arm_isa.proofs.RoundTrip.{means_at}
use Rattle.arm_isa.proofs.ValidLaws.{valid-data_immediate, valid-swi}
use Rattle.arm_isa.specs.Numbers.{MOV}
use Rattle.arm2_alu.specs.declared.regs.Regs.{Regs}
use Rattle.arm2_cpu.specs.Memory.{read_word}
use Rattle.arm2_cpu.specs.Outcomes.{Stepped}
use Rattle.arm2_alu.specs.Registers.{at_next, with_banked}
use Rattle.arm2_cpu.specs.Step.{cpu_step}
use Rattle.arm2_alu.proofs.RegisterLaws.{holds-always}
use Rattle.arm2_cpu.proofs.StepBasics.{Fetches}
use Rattle.arm2_cpu.proofs.StepLaws.{step-mov_immediate, step-swi}
use Rattle.bv_base.specs.MemoryMap.{pad, return_entry}
use Rattle.arm2_machine.specs.Machine.{Machine, board_space, fetched, entered, with_low}
use Rattle.arm2_machine.specs.Swi.{swi_write, swi_end, called}
use Rattle.arm2_machine.specs.Step.{instructed, board_step}

-- supervisor mode executes the processor's instruction
supervised : (m : Machine) (s : Stepped) → m.regs.svc ≡ true → cpu_step board_space m.regs m.ram ≡ s → board_step m ≡ instructed m s
unfolding board_step
supervised m s svc is = (λ i. if not (svc i) && m.regs.pc == pad then Goes (record m { regs = entered m.regs return_entry }) [] else instructed m (is i))

-- an instruction that supervisor mode fetches
fetches : (m : Machine) (i : Instr) (w : ℕ) → m.regs.svc ≡ true → fetched m.ram m.regs.pc ≡ Some w → means w ≡ i → Fetches board_space m.regs m.ram i
fetches m i w svc at is = record { word = w; fetched = (λ k. read_word board_space m.ram (not (svc k)) m.regs.pc) ∙ at; meaning = is }

means-move : (register n : ℕ) → register < 13 → n < 256 → means (0xe3a00000 + 4096 * register + n) ≡ Data 14 true MOV false 0 register n
unfolding word_of
means-move register n is_register small =
    means_at _ _ (valid-data_immediate 14 13 0 register n _ (omega arith) (omega arith) (omega arith) (omega (arith, is_register)) (omega (arith, small))) (omega arith)

means-call : (number : ℕ) → number < 16777216 → means (0xef000000 + number) ≡ Swi 14 number
unfolding word_of
means-call number small = means_at _ _ (valid-swi 14 number (omega arith) small) (omega arith)

-- R0 to R12 are the same in both modes
low_register : (r : Regs) (n value : ℕ) → n < 13 → with_banked r.svc r n value ≡ with_low r n value
unfolding with_banked
low_register r n value low = rw (lt-ltb n 13 low) refl

-- MOV Rd, #n
pub step_move : (m : Machine) (register n : ℕ) → register < 13 → n < 256 → m.regs.svc ≡ true → fetched m.ram m.regs.pc ≡ Some (0xe3a00000 + 4096 * register + n) → board_step m ≡ Goes (record m { regs = at_next (with_low m.regs register n) }) []
step_move m register n is_register small svc at =
    supervised m _ svc (step-mov_immediate board_space m.regs m.ram 14 0 register n (fetches m _ _ svc at (means-move register n is_register small)) (holds-always m.regs) (omega (arith, is_register)))
    ∙ ap (λ r. Goes (record m { regs = at_next r }) []) (ap (with_banked m.regs.svc m.regs register) (immediate_value-byte n small) ∙ low_register m.regs register n is_register)

-- a call of the board
step_call : (m : Machine) (number : ℕ) → number < 16777216 → m.regs.svc ≡ true → fetched m.ram m.regs.pc ≡ Some (0xef000000 + number) → board_step m ≡ called (record m { regs = at_next m.regs }) m.regs.pc number
step_call m number small svc at = supervised m _ svc (step-swi board_space m.regs m.ram 14 number (fetches m _ _ svc at (means-call number small)) (holds-always m.regs))

-- SWI &00 writes the low byte of R0
pub step_write : (m : Machine) → m.regs.svc ≡ true → fetched m.ram m.regs.pc ≡ Some 0xef000000 → board_step m ≡ Goes (record m { regs = at_next m.regs }) ((slice_index m.regs.low 0 % 256) ∷ [])
step_write m svc at = step_call m swi_write (omega arith) svc at

called_end : (m : Machine) (at : ℕ) → m.regs.svc ≡ true → slice_index m.regs.low 0 ≡ 0 → called m at swi_end ≡ Ends m [] (Over Done)
called_end m at svc zero = rw svc (rw (eq-eqb (slice_index m.regs.low 0) 0 zero) refl)

-- SWI &11 with R0 = 0 ends the run as done
pub step_done : (m : Machine) → slice_index m.regs.low 0 ≡ 0 → m.regs.svc ≡ true → fetched m.ram m.regs.pc ≡ Some 0xef000011 → board_step m ≡ Ends (record m { regs = at_next m.regs }) [] (Over Done)
step_done m zero svc at = step_call m swi_end (omega arith) svc at ∙ called_end (record m { regs = at_next m.regs }) m.regs.pc svc zero
