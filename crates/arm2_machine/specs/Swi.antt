-- The board's calls, which are software interrupts. This project's own.
use Rattle.std.specs.Prelude.{ℕ, ◌+◌, ◌-◌, ◌%◌, ◌^◌, ◌==◌, ◌&&◌, nat_le, nat_lt, not, Bool, if◌then◌else◌, List, [], ◌∷◌, slice_index, Option, Some, None}
use Rattle.bv_run.specs.declared.report.Report.{Report}
use Rattle.bv_run.specs.Runs.{Turn, Goes, Ends, End, Over}
use Rattle.arm2_machine.specs.Machine.{Machine, with_low, refused}
use Rattle.arm2_machine.specs.Reports.{report_of}

-- writes the low byte of R0
abbrev pub swi_write : ℕ
swi_write = 0x00

-- writes a new line
abbrev pub swi_new_line : ℕ
swi_new_line = 0x03

-- takes a byte of the input into R0
abbrev pub swi_read : ℕ
swi_read = 0x04

-- ends the run with the report in R0 to R3
abbrev pub swi_end : ℕ
swi_end = 0x11

-- the first of the 256 that write the low byte of their number
abbrev pub swi_character : ℕ
swi_character = 0x100

-- the next byte of the input comes into R0, or all ones where there is none
abbrev pub with_input : Machine → List ℕ → Machine
with_input m [] = record m { regs = with_low m.regs 0 (2 ^ 32 - 1) }
with_input m (byte ∷ rest) = record m { regs = with_low m.regs 0 byte; input = rest }

-- ends with a report, or is no call where there is none
abbrev pub reported : Machine → ℕ → Option Report → Turn Machine End
reported m at None = refused m at
reported m at (Some report) = Ends m [] (Over report)

-- the numbers of the calls that write their low byte
abbrev pub is_character : ℕ → Bool
is_character number = nat_le swi_character number && nat_lt number (swi_character + 256)

-- a call that user mode alone has
abbrev pub called_by_user : Machine → ℕ → ℕ → Turn Machine End
called_by_user m at number = if is_character number then Goes m ((number % 256) ∷ []) else refused m at

-- What a call does, by its number and the mode. The address is that of its instruction, and the PC that of the next.
abbrev pub called : Machine → ℕ → ℕ → Turn Machine End
called m at number =
    if number == swi_write then Goes m ((slice_index m.regs.low 0 % 256) ∷ [])
    else if number == swi_new_line then Goes m (10 ∷ 13 ∷ [])
    else if not m.regs.svc then called_by_user m at number
    else if number == swi_read then Goes (with_input m m.input) []
    else if number == swi_end then reported m at (report_of m.regs.low)
    else refused m at
