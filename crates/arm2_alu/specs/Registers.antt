-- The registers, by mode (VL86C010 (ARM2) data manual, registers). R15 holds N Z C V in bits 31 to 28, I and F in bits 27
-- and 26, the PC in bits 25 to 2, and the mode in bits 1 and 0.
use Rattle.std.specs.Prelude.{◌≡◌, ℕ, ◌+◌, ◌*◌, ◌/◌, ◌%◌, ◌^◌, ◌<◌, ◌==◌, ◌||◌, not, nat_lt, Bool, if◌then◌else◌, slice_index, slice_set}
use Rattle.arm_isa.specs.Numbers.{R13}
use Rattle.arm2_alu.specs.declared.regs.Regs.{Regs}

-- the PC is a multiple of 4 of 26 bits, and there are six flags
pub record IsValidRegs (r : Regs) : Type 0 where
  pub aligned : r.pc % 4 ≡ 0
  pub pc : r.pc < 2 ^ 26
  pub psr : r.psr < 2 ^ 6

-- a register from R0 to R14 in the bank of a mode: supervisor mode (true) has an R13 and R14 of its own
unfoldable pub banked : Bool → Regs → ℕ → ℕ
banked svc r n =
    if nat_lt n R13 then slice_index r.low n
    else if n == R13 then (if svc then r.svc13 else r.user13)
    else (if svc then r.svc14 else r.user14)

-- the registers with another value in one of them
unfoldable pub with_banked : Bool → Regs → ℕ → ℕ → Regs
with_banked svc r n value =
    if nat_lt n R13 then record r { low = slice_set r.low n value }
    else if n == R13 then (if svc then record r { svc13 = value } else record r { user13 = value })
    else (if svc then record r { svc14 = value } else record r { user14 = value })

-- a register from R0 to R14, as the current mode has it
abbrev pub register : Regs → ℕ → ℕ
register r n = banked r.svc r n

abbrev pub with_register : Regs → ℕ → ℕ → Regs
with_register r n value = with_banked r.svc r n value

-- the number of the mode
abbrev pub mode : Bool → ℕ
mode svc = if svc then 3 else 0

-- the address n bytes ahead of the instruction, modulo 2^26. That it wraps there is this project's own.
abbrev pub pc_ahead : Regs → ℕ → ℕ
pc_ahead r ahead = (r.pc + ahead) % 2 ^ 26

-- R15 with its flags and mode
unfoldable pub r15 : Regs → ℕ → ℕ
r15 r ahead = r.psr * 2 ^ 26 + pc_ahead r ahead + mode r.svc

-- the next instruction
abbrev pub at_next : Regs → Regs
at_next r = record r { pc = pc_ahead r 4 }

-- a jump to the address in bits 25 to 2 of a value
abbrev pub jumped : Regs → ℕ → Regs
jumped r value = record r { pc = value % 2 ^ 26 / 4 * 4 }

-- a value's mode is user or supervisor mode, or plays no part, since user mode doesn't take it
abbrev pub takes_psr : Regs → ℕ → Bool
takes_psr r value = not r.svc || (value % 4 == 0) || (value % 4 == 3)

-- The flags from a value: user mode takes N Z C V from bits 31 to 28, supervisor mode also I and F from bits 27 and 26 and
-- the mode from bits 1 and 0.
unfoldable pub with_psr : Regs → ℕ → Regs
with_psr r value =
    if r.svc then record r { psr = value / 2 ^ 26; svc = value % 4 == 3 }
    else record r { psr = value / 2 ^ 28 * 4 + r.psr % 4 }
