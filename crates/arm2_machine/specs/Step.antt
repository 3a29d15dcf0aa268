-- One step of the machine, and the board's run under a bound. This project's own.
use Rattle.std.specs.Prelude.{ℕ, ◌==◌, ◌&&◌, not, Bool, if◌then◌else◌, List, [], ◌∷◌}
use Rattle.bv_run.specs.Outcome.{Outcome}
use Rattle.bv_run.specs.Runs.{Turn, Goes, Ends, End, Over, Broken, run, outcome_of}
use Rattle.arm2_cpu.specs.declared.event.CpuEvent.{CpuEvent}
use Rattle.arm2_cpu.specs.declared.event.CpuEvent.TheVariants as events
use Rattle.arm2_alu.specs.declared.regs.Regs.{Regs}
use Rattle.arm2_cpu.specs.Outcomes.{Stepped}
use Rattle.arm2_cpu.specs.Step.{cpu_step}
use Rattle.bv_base.specs.MemoryMap.{pad, return_entry}
use Rattle.arm2_machine.specs.declared.step.Output.{Output}
use Rattle.arm2_machine.specs.declared.step.Output.TheVariants as outputs
use Rattle.arm2_machine.specs.declared.step.StepOutcome.{StepOutcome}
use Rattle.arm2_machine.specs.declared.step.StepOutcome.TheVariants as outcomes
use Rattle.arm2_machine.specs.Machine.{Machine, board_space, loaded, arena_of, entered, trapped}
use Rattle.arm2_machine.specs.Swi.{called}

-- what an instruction's event comes to
abbrev pub after_event : Machine → ℕ → CpuEvent → Turn Machine End
after_event m at events.Ran = Goes m []
after_event m at (events.Swi number) = called m at number
after_event m at (events.Trap kind address) = trapped m kind address

-- the machine with what an instruction left
abbrev pub with_step : Machine → Stepped → Machine
with_step m s = record m { regs = s.regs; ram = s.bytes }

-- one instruction of the processor
abbrev pub instructed : Machine → Stepped → Turn Machine End
instructed m s = after_event (with_step m s) m.regs.pc s.event

-- user mode has come to the pad
abbrev pub is_at_pad : Regs → Bool
is_at_pad r = not r.svc && r.pc == pad

-- One step of the board: user mode at the pad goes back to the supervisor; else one instruction is executed.
unfoldable pub board_step : Machine → Turn Machine End
board_step m =
    if is_at_pad m.regs then Goes (record m { regs = entered m.regs return_entry }) []
    else instructed m (cpu_step board_space m.regs m.ram)

-- what the board shows of an image after at most this many steps
abbrev pub board_run : List ℕ → List ℕ → ℕ → Outcome
board_run words input bound = outcome_of (λ m. arena_of m.ram) (run board_step bound (loaded words input) [])

-- the bytes of an output
abbrev pub bytes_of : Output → List ℕ
bytes_of outputs.Nothing = []
bytes_of (outputs.Byte byte) = byte ∷ []
bytes_of outputs.NewLine = 10 ∷ 13 ∷ []

-- a step by what it answers and the state that it leaves
abbrev pub turn_of : StepOutcome → Machine → Turn Machine End
turn_of (outcomes.Continued output) m = Goes m (bytes_of output)
turn_of (outcomes.Over report) m = Ends m [] (Over report)
turn_of (outcomes.Broken kind address) m = Ends m [] (Broken kind address)
