-- A core: what an instruction of the supervisor reads and changes, as functions and flags. This project's own, but for the
-- registers, flags and conditions, which are the ARM2's (VL86C010 (ARM2) data manual).
use Rattle.std.specs.Prelude.{◌≡◌, ℕ, ◌+◌, ◌*◌, ◌/◌, ◌%◌, ◌^◌, ◌<◌, ◌==◌, ◌&&◌, not, Bool, true, false, if◌then◌else◌, List, [], length, slice_index}
use Rattle.std.specs.Int.{from_bool}
use Rattle.bv_base.specs.MemoryMap.{ram_end}
use Rattle.arm_isa.specs.Numbers.{EQ, CS, MI, VS, HI, GE, GT}
use Rattle.arm2_alu.specs.Conditions.{same}
use Rattle.arm2_alu.proofs.RegisterLaws.{registers_of, updated}
use Rattle.arm2_cpu.proofs.MemoryFunctions.{bytes_of}
use Rattle.arm2_machine.specs.Machine.{Machine, board_space, loaded_ram}

-- R0 to R14 by their numbers, the flags, the memory by addresses, what was written, and the input that is left
pub record Core : Type 0 where
  pub regs : ℕ → ℕ
  pub n : Bool
  pub z : Bool
  pub c : Bool
  pub v : Bool
  pub mem : ℕ → ℕ
  pub out : List ℕ
  pub input : List ℕ

-- a register takes a value
abbrev pub put : ℕ → ℕ → Core → Core
put rd value s = record s { regs = updated s.regs rd value }

-- the word at an address, the lowest byte first
abbrev pub word : (ℕ → ℕ) → ℕ → ℕ
word m a = m a + m (a + 1) * 2 ^ 8 + m (a + 2) * 2 ^ 16 + m (a + 3) * 2 ^ 24

-- the memory with another word at an address. It stays closed, so that no goal shows four bytes for a word.
unfoldable pub put_word : (ℕ → ℕ) → ℕ → ℕ → ℕ → ℕ
put_word m a x = updated (updated (updated (updated m a (x % 2 ^ 8)) (a + 1) (x / 2 ^ 8 % 2 ^ 8)) (a + 2) (x / 2 ^ 16 % 2 ^ 8)) (a + 3) (x / 2 ^ 24 % 2 ^ 8)

-- the number that the flags are in R15, with I and F clear
abbrev pub psr_of : Core → ℕ
psr_of s = from_bool s.n * 2 ^ 5 + from_bool s.z * 2 ^ 4 + from_bool s.c * 2 ^ 3 + from_bool s.v * 2 ^ 2

-- the conditions EQ, CS, MI, VS, HI, GE, GT and AL, which are the even ones
abbrev pub even_meets : ℕ → Core → Bool
even_meets cond s =
    if cond == EQ then s.z
    else if cond == CS then s.c
    else if cond == MI then s.n
    else if cond == VS then s.v
    else if cond == HI then s.c && not s.z
    else if cond == GE then same s.n s.v
    else if cond == GT then not s.z && same s.n s.v
    else true

-- whether the flags meet a condition: each odd condition is the contrary of the one before it
abbrev pub meets : ℕ → Core → Bool
meets cond s = if cond % 2 == 0 then even_meets cond s else not (even_meets (cond / 2 * 2) s)

-- registers are words, and memory and input are bytes
pub record IsGood (s : Core) : Type 0 where
  pub regs : (k : ℕ) → s.regs k < 2 ^ 32
  pub mem : (a : ℕ) → s.mem a < 2 ^ 8
  pub input : (k : ℕ) → slice_index s.input k < 2 ^ 8

-- the board is this core, in supervisor mode at an address
pub record IsAt (s : Core) (place : ℕ) (m : Machine) : Type 0 where
  pub good : IsGood s
  pub regs : registers_of m.regs ≡ s.regs
  pub psr : m.regs.psr ≡ psr_of s
  pub mem : bytes_of board_space m.ram ≡ s.mem
  pub input : m.input ≡ s.input
  pub pc : m.regs.pc ≡ place
  pub svc : m.regs.svc ≡ true
  pub low : length m.regs.low ≡ 13
  pub ram : length m.ram ≡ ram_end

-- the core of a loaded image: all registers 0, no flag set, nothing written
abbrev pub first_core : List ℕ → List ℕ → Core
first_core words input = record {
  regs = λ k. 0;
  n = false;
  z = false;
  c = false;
  v = false;
  mem = bytes_of board_space (loaded_ram words);
  out = [];
  input = input;
}
