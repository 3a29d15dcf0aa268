-- The board's machine: its state, its start, and what it does at a trap. This project's own, but for the registers, which
-- are the ARM2's.
use Rattle.std.specs.Prelude.{ℕ, ◌-◌, ◌*◌, true, false, if◌then◌else◌, List, [], ◌++◌, length, take, drop, flat_map, replicate, slice_set, Option, refl}
use Rattle.std.proofs.Common.{lit≤}
use Rattle.bv_base.specs.MemoryMap.{arena_start, arena_end, arena_bytes}
use Rattle.bv_run.specs.declared.report.Trap.{Trap}
use Rattle.bv_run.specs.declared.report.Trap.TheVariants as traps
use Rattle.bv_base.specs.Bytes.{zeros}
use Rattle.bv_run.specs.Runs.{Turn, Goes, Ends, End, Broken}
use Rattle.arm2_alu.specs.declared.regs.Regs.{Regs}
use Rattle.arm2_cpu.specs.Memory.{Space, read_word}
use Rattle.arm2_memory.specs.Window.{window, IsPlace}
use Rattle.bv_base.specs.MemoryMap.{ram_end, image_start, trap_entry}
use Rattle.arm2_machine.specs.Reports.{trap_number}
use Rattle.bv_base.specs.Words.{word_bytes}

-- the RAM, of which user mode may use the arena alone
abbrev pub board_space : Space
board_space = window 0 ram_end arena_start arena_end

-- the arena lies in the RAM
pub board_place : IsPlace 0 ram_end arena_start arena_end
board_place = record { start_aligned = refl; end_aligned = refl; low_aligned = refl; high_aligned = refl; begins = lit≤ tt; ordered = lit≤ tt; ends = lit≤ tt }

-- the word that the supervisor fetches at an address
abbrev pub fetched : List ℕ → ℕ → Option ℕ
fetched ram a = read_word board_space ram false a

-- the processor's registers, the memory, and the input that is left
pub record Machine : Type 0 where
  pub regs : Regs
  pub ram : List ℕ
  pub input : List ℕ

-- The memory with these words from an image's place on, and 0 elsewhere. It stays closed, so that no proof counts
-- through a memory.
unfoldable pub loaded_ram : List ℕ → List ℕ
loaded_ram words = zeros image_start ++ (flat_map word_bytes words ++ zeros (ram_end - image_start - 4 * length words))

-- the registers at the start of a run: all 0, no flag set, in supervisor mode at the image's first word
abbrev pub first_regs : Regs
first_regs = record { low = replicate 13 0; user13 = 0; user14 = 0; svc13 = 0; svc14 = 0; pc = image_start; psr = 0; svc = true }

-- the board at its start
abbrev pub loaded : List ℕ → List ℕ → Machine
loaded words input = record { regs = first_regs; ram = loaded_ram words; input = input }

-- the arena's bytes
unfoldable pub arena_of : List ℕ → List ℕ
arena_of ram = take arena_bytes (drop arena_start ram)

-- the processor in supervisor mode, at an entry
abbrev pub entered : Regs → ℕ → Regs
entered r entry = record r { svc = true; pc = entry }

-- a register from R0 to R12 takes a value
abbrev pub with_low : Regs → ℕ → ℕ → Regs
with_low r n value = record r { low = slice_set r.low n value }

-- A trap: user mode goes to the supervisor, with the kind in R0 and the address in R1. The supervisor's own trap breaks the
-- run.
abbrev pub trapped : Machine → Trap → ℕ → Turn Machine End
trapped m kind address =
    if m.regs.svc then Ends m [] (Broken kind address)
    else Goes (record m { regs = entered (with_low (with_low m.regs 0 (trap_number kind)) 1 address) trap_entry }) []

-- a call that isn't there traps at its instruction
abbrev pub refused : Machine → ℕ → Turn Machine End
refused m at = trapped (record m { regs = record m.regs { pc = at } }) traps.Swi at
