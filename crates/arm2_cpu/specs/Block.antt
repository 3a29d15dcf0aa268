-- LDM and STM (VL86C010 (ARM2) data manual, block data transfer).
use Rattle.std.specs.Prelude.{ℕ, zero, suc, ◌+◌, ◌*◌, ◌%◌, ◌^◌, ◌==◌, ◌&&◌, not, Bool, false, if◌then◌else◌, List, [], ◌∷◌, length, Option, Some, None}
use Rattle.bv_run.specs.declared.report.Trap.TheVariants as traps
use Rattle.arm2_cpu.specs.declared.access.Access.{Access}
use Rattle.arm2_alu.specs.declared.regs.Regs.{Regs}
use Rattle.arm_isa.specs.Numbers.{R15}
use Rattle.arm2_cpu.specs.Access.{with_base, can_use, data_trapped}
use Rattle.arm_isa.specs.Fields.{bit}
use Rattle.arm2_cpu.specs.Memory.{Space, word_in, with_word}
use Rattle.arm2_cpu.specs.Outcomes.{Done, Stepped, with_memory, ran, trapped}
use Rattle.arm2_alu.specs.Registers.{banked, with_banked, r15, at_next, jumped, takes_psr, with_psr}

-- the registers of a list, among k from n on: those whose bit is 1, rising
unfoldable pub registers_among : ℕ → ℕ → ℕ → List ℕ
registers_among zero n list = []
registers_among (suc k) n list = if bit list n then n ∷ registers_among k (n + 1) list else registers_among k (n + 1) list

-- the registers of a list, and those of them below R15
abbrev pub registers_in : ℕ → List ℕ
registers_in list = registers_among 16 0 list

abbrev pub low_registers_in : ℕ → List ℕ
low_registers_in list = registers_among 15 0 list

-- the next word's address, modulo 2^32
abbrev pub next_word : ℕ → ℕ
next_word at = (at + 4) % 2 ^ 32

-- the address of the first refused word, among k from an address up
unfoldable pub refused_word : ℕ → Space → Bool → ℕ → Option ℕ
refused_word zero s user at = None
refused_word (suc k) s user at = if can_use s user at then refused_word k s user (next_word at) else Some at

-- the user bank is transferred with ^, unless R15 is loaded. What ^ means for the base is this project's own.
abbrev pub uses_user_bank : Bool → Bool → ℕ → Bool
uses_user_bank psr load list = psr && not (load && bit list 15)

-- the mode whose R13 and R14 are transferred
abbrev pub bank_of : Regs → Bool → Bool → ℕ → Bool
bank_of r psr load list = if uses_user_bank psr load list then false else r.svc

-- what is stored of a register: of R15 the address plus 12 with its flags, which is this project's own
unfoldable pub stored_value : Regs → Bool → ℕ → ℕ
stored_value r svc n = if n == R15 then r15 r 12 else banked svc r n

-- the memory with registers from an address up
unfoldable pub with_block : List ℕ → Space → List ℕ → Regs → Bool → ℕ → List ℕ
with_block [] s bytes r svc at = bytes
with_block (n ∷ ns) s bytes r svc at = with_block ns s (with_word s bytes at (stored_value r svc n)) r svc (next_word at)

-- the registers with the words from an address up
unfoldable pub with_words : List ℕ → Space → List ℕ → Regs → Bool → ℕ → Regs
with_words [] s bytes r svc at = r
with_words (n ∷ ns) s bytes r svc at = with_words ns s bytes (with_banked svc r n (word_in s bytes at)) svc (next_word at)

-- STM: the registers are stored as they were, the base too, which is this project's own; then the base takes its value
unfoldable pub store_block : Space → Regs → List ℕ → Bool → ℕ → Access → Stepped
store_block s r bytes psr list a =
    with_memory (with_block (registers_in list) s bytes r (bank_of r psr false list) a.address) (ran (at_next (with_base r a)))

-- the word for R15 is the last
abbrev pub last_word : Space → List ℕ → ℕ → Access → ℕ
last_word s bytes list a = word_in s bytes ((a.address + 4 * length (low_registers_in list)) % 2 ^ 32)

-- the base takes its value, and the registers below R15 theirs
abbrev pub with_low_words : Space → Regs → List ℕ → Bool → ℕ → Access → Regs
with_low_words s r bytes svc list a = with_words (low_registers_in list) s bytes (with_base r a) svc a.address

-- LDM that loads R15 jumps there; ^ takes the flags too, and in supervisor mode I, F and the mode
unfoldable pub load_with_r15 : Space → Regs → List ℕ → Bool → ℕ → Access → Done
load_with_r15 s r bytes psr list a =
    let loaded = with_low_words s r bytes r.svc list a in
    let value = last_word s bytes list a in
    if psr then (if takes_psr r value then ran (jumped (with_psr loaded value) value) else trapped traps.Unpredictable r)
    else ran (jumped loaded value)

-- LDM
unfoldable pub load_block : Space → Regs → List ℕ → Bool → ℕ → Access → Done
load_block s r bytes psr list a =
    if bit list 15 then load_with_r15 s r bytes psr list a
    else ran (at_next (with_low_words s r bytes (if psr then false else r.svc) list a))

-- Nothing is transferred unless all addresses may be used, which are tried from the lowest up. This order is this project's own.
abbrev pub unless_refused : Option ℕ → Regs → List ℕ → Stepped → Stepped
unless_refused None r bytes s = s
unless_refused (Some at) r bytes s = with_memory bytes (data_trapped at r)

unfoldable pub block_step : Space → Regs → List ℕ → Bool → Bool → ℕ → Access → Stepped
block_step s r bytes psr load list a =
    unless_refused (refused_word (length (registers_in list)) s a.user a.address) r bytes
    (if load then with_memory bytes (load_block s r bytes psr list a) else store_block s r bytes psr list a)
