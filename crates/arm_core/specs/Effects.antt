-- What each instruction that generated code uses does to a core, and when it may be made (VL86C010 (ARM2) data manual; the
-- board's calls are this project's own).
use Rattle.std.specs.Prelude.{◌≡◌, ℕ, zero, suc, ◌+◌, ◌-◌, ◌*◌, ◌/◌, ◌%◌, ◌^◌, ◌<◌, ◌≤◌, ◌==◌, ◌&&◌, ◌||◌, not, nat_lt, Bool, true, false, if◌then◌else◌, List, [], ◌∷◌, ◌++◌, length, bit_and, bit_or, bit_xor, Option, Some, None}
use Rattle.std.specs.Int.{w32, cast_signed}
use Rattle.bv_base.specs.MemoryMap.{ram_end}
use Rattle.bv_run.specs.declared.report.Report.{Report}
use Rattle.bv_run.specs.declared.report.Report.TheVariants as reports
use Rattle.arm_isa.specs.declared.instruction.Instr.{Instr}
use Rattle.arm_isa.specs.declared.instruction.Instr.TheVariants.{Data, Mul, Single, Block, Branch, Swi, Undefined}
use Rattle.arm_isa.specs.Fields.{bits, bit}
use Rattle.arm_isa.specs.Immediates.{turns_of, immediate_value}
use Rattle.arm_isa.specs.Numbers.{AND, EOR, SUB, RSB, ADD, ADC, SBC, RSC, TST, TEQ, CMP, CMN, ORR, MOV, BIC, AL, R15}
use Rattle.arm2_alu.specs.declared.operations.Computed.{Computed}
use Rattle.arm2_alu.specs.declared.shifts.Shifted.{Shifted}
use Rattle.arm2_alu.specs.Conditions.{same}
use Rattle.arm2_alu.specs.Operations.{is_test}
use Rattle.arm2_alu.specs.Shifts.{complement, shifted, shifted_by_field}
use Rattle.arm2_alu.proofs.RegisterLaws.{updated}
use Rattle.arm2_alu.proofs.ValueLaws.{compared, summed, summed_with, borrowed}
use Rattle.arm2_cpu.specs.Access.{writes_back}
use Rattle.arm2_machine.specs.Reports.{stray_of, trap_of}
use Rattle.arm2_machine.specs.Swi.{swi_write, swi_new_line, swi_read}
use Rattle.arm_core.specs.Core.{Core, put, word, put_word, psr_of, meets}

-- ---- data processing

-- a register, shifted by a number of bits that stands in the instruction
abbrev pub shifted_register : ℕ → Core → Shifted
shifted_register op2 s =
    if bits op2 11 4 == 0 then record { value = s.regs (bits op2 3 0); carry = s.c }
    else shifted_by_field (bits op2 6 5) (s.regs (bits op2 3 0)) (bits op2 11 7) s.c

-- a register, shifted by the number of bits in the low byte of another
abbrev pub shifted_by_register : ℕ → Core → Shifted
shifted_by_register op2 s = shifted (bits op2 6 5) (s.regs (bits op2 3 0)) (s.regs (bits op2 11 8) % 2 ^ 8) s.c

-- the second operand: bit 4 of a register operand says which of the two shifts it is
abbrev pub operand_in : Bool → ℕ → Core → Shifted
operand_in imm op2 s =
    if imm then record { value = immediate_value op2; carry = if turns_of op2 == 0 then s.c else bit (immediate_value op2) 31 }
    else if bit op2 4 then shifted_by_register op2 s
    else shifted_register op2 s

-- the value of an operation without a sum
abbrev pub bitwise : ℕ → ℕ → ℕ → ℕ
bitwise op a b =
    if (op == AND) || (op == TST) then bit_and a b
    else if (op == EOR) || (op == TEQ) then bit_xor a b
    else if op == ORR then bit_or a b
    else if op == MOV then b
    else if op == BIC then bit_and a (complement b)
    else complement b

-- the result of an operation on a first operand and a shifted second one, with C and V as they were
abbrev pub result_of : ℕ → ℕ → Shifted → Bool → Bool → Computed
result_of op a b c v =
    if (op == SUB) || (op == CMP) then compared a b.value
    else if op == RSB then compared b.value a
    else if (op == ADD) || (op == CMN) then summed a b.value
    else if op == ADC then summed_with a b.value c
    else if op == SBC then borrowed a b.value c
    else if op == RSC then borrowed b.value a c
    else record { value = bitwise op a b.value; carry = b.carry; overflow = v }

-- the flags by a result
abbrev pub flagged_by : Computed → Core → Core
flagged_by x s = record s { n = bit x.value 31; z = x.value == 0; c = x.carry; v = x.overflow }

-- what is done with a result: a test sets flags, another operation writes Rd, and with S sets flags too
abbrev pub with_result : ℕ → Bool → ℕ → Computed → Core → Core
with_result op flags rd x s =
    if is_test op then flagged_by x s
    else if flags then put rd x.value (flagged_by x s)
    else put rd x.value s

-- an operation on Rn and the second operand
abbrev pub computes : Bool → ℕ → Bool → ℕ → ℕ → ℕ → Core → Core
computes imm op flags rn rd op2 s = with_result op flags rd (result_of op (s.regs rn) (operand_in imm op2 s) s.c s.v) s

-- an instruction whose condition fails does nothing
abbrev pub on_condition : Bool → Core → Core → Core
on_condition b t s = if b then t else s

-- ---- multiplication

-- the low 32 bits of Rm times Rs, and of Rn more for MLA
abbrev pub product_in : Bool → ℕ → ℕ → ℕ → Core → ℕ
product_in acc rn rs rm s = (if acc then s.regs rm * s.regs rs + s.regs rn else s.regs rm * s.regs rs) % 2 ^ 32

-- ---- LDR and STR

-- the offset: a number, or a register that may be shifted
abbrev pub offset_in : Bool → ℕ → Core → ℕ
offset_in reg offset s = if reg then (shifted_register offset s).value else offset

-- a base with an offset added or subtracted, modulo 2^32
abbrev pub moved_by : Bool → ℕ → ℕ → ℕ
moved_by up base offset = if up then (base + offset) % 2 ^ 32 else (base + (2 ^ 32 - offset)) % 2 ^ 32

-- the address: with P that of the moved base, else of the base
abbrev pub address_of : Bool → Bool → Bool → ℕ → ℕ → Core → ℕ
address_of reg pre up rn offset s = if pre then moved_by up (s.regs rn) (offset_in reg offset s) else s.regs rn

-- the base takes the moved address where it is written back
abbrev pub with_moved_base : Bool → Bool → Bool → Bool → ℕ → ℕ → Core → Core
with_moved_base reg pre up wb rn offset s = if writes_back pre wb then put rn (moved_by up (s.regs rn) (offset_in reg offset s)) s else s

-- what is read at an address
abbrev pub read_at : Bool → (ℕ → ℕ) → ℕ → ℕ
read_at byte m a = if byte then m a else word m a

-- the memory with what is stored at an address
abbrev pub stored_at : Bool → (ℕ → ℕ) → ℕ → ℕ → ℕ → ℕ
stored_at byte m a x = if byte then updated m a (x % 2 ^ 8) else put_word m a x

-- a load into Rd, or a store of it, beside what the base takes
abbrev pub transfers : Bool → Bool → ℕ → ℕ → Core → Core → Core
transfers load byte rd a s based =
    if load then put rd (read_at byte s.mem a) based
    else record based { mem = stored_at byte s.mem a (s.regs rd) }

-- ---- LDM and STM

-- the registers of a list, among k from n on: those whose bit is 1, rising
abbrev pub listed_among : ℕ → ℕ → ℕ → List ℕ
listed_among zero n list = []
listed_among (suc k) n list = if bit list n then n ∷ listed_among k (n + 1) list else listed_among k (n + 1) list

-- the registers of a list, below R15
abbrev pub listed : ℕ → List ℕ
listed list = listed_among 15 0 list

-- the memory with registers from an address up
abbrev pub stored_words : List ℕ → (ℕ → ℕ) → (ℕ → ℕ) → ℕ → ℕ → ℕ
stored_words [] regs m a = m
stored_words (n ∷ ns) regs m a = stored_words ns regs (put_word m a (regs n)) (a + 4)

-- the registers with the words from an address up
abbrev pub loaded_words : List ℕ → (ℕ → ℕ) → ℕ → (ℕ → ℕ) → ℕ → ℕ
loaded_words [] m a regs = regs
loaded_words (n ∷ ns) m a regs = loaded_words ns m (a + 4) (updated regs n (word m a))

-- what is written back of a base with n registers
abbrev pub block_target : Bool → ℕ → ℕ → ℕ
block_target up base count = moved_by up base (4 * count)

-- where the block begins: IA at the base, IB 4 bytes above it, DA 4 bytes above the moved base, DB at it
abbrev pub block_begins : Bool → Bool → ℕ → ℕ → ℕ
block_begins pre up base count = (if up then base else block_target up base count) + (if same pre up then 4 else 0)

-- LDM or STM: the registers are stored as they were, the base too
abbrev pub moves_block : Bool → Bool → Bool → Bool → ℕ → ℕ → Core → Core
moves_block pre up wb load rn list s =
    let count = length (listed list) in
    let start = block_begins pre up (s.regs rn) count in
    let based = if wb then put rn (block_target up (s.regs rn) count) s else s in
    if load then record based { regs = loaded_words (listed list) s.mem start based.regs }
    else record based { mem = stored_words (listed list) s.regs s.mem start }

-- ---- the board's calls

-- the next byte of the input comes into R0, or all ones where there is none
abbrev pub takes_input : List ℕ → Core → Core
takes_input [] s = put 0 (2 ^ 32 - 1) s
takes_input (byte ∷ rest) s = record s { regs = updated s.regs 0 byte; input = rest }

-- &00 writes the low byte of R0, &03 a new line, and &04 takes a byte of the input
abbrev pub board_call : ℕ → Core → Core
board_call number s =
    if number == swi_write then record s { out = s.out ++ ((s.regs 0 % 2 ^ 8) ∷ []) }
    else if number == swi_new_line then record s { out = s.out ++ (10 ∷ 13 ∷ []) }
    else takes_input s.input s

-- the report that R0 to R3 stand for at &11, if they do
abbrev pub report_in : Core → Option Report
report_in s =
    if s.regs 0 == 0 then Some reports.Done
    else if s.regs 0 == 1 then Some (reports.Failed (cast_signed w32 (s.regs 1)) (s.regs 2 % 65536))
    else if s.regs 0 == 2 then stray_of (trap_of (s.regs 1)) (s.regs 3) (s.regs 2 % 65536)
    else if s.regs 0 == 3 then Some (reports.InputEnded (s.regs 2 % 65536))
    else None

-- ---- branches

-- what BL leaves in R14: the next address, with the flags and the mode
abbrev pub link_value : ℕ → Core → ℕ
link_value pc s = psr_of s * 2 ^ 26 + (pc + 4) + 3

-- where MOV PC,Rm leads: bits 25 to 2
abbrev pub return_place : ℕ → ℕ
return_place x = x % 2 ^ 26 / 4 * 4

-- ---- an instruction that the next one follows

-- The instructions that stand inside a piece: they are followed by the next one, concern R0 to R14 alone, and are neither
-- undefined nor unpredictable.

-- a register below R15, shifted by a number
abbrev pub is_plain_register : ℕ → Bool
is_plain_register op2 = nat_lt op2 (2 ^ 12) && (not (bit op2 4) && nat_lt (bits op2 3 0) R15)

-- the same, or shifted by another register below R15: bit 7 is clear there, since the word is a multiplication's where it is set
abbrev pub is_plain_operand : ℕ → Bool
is_plain_operand op2 =
    nat_lt op2 (2 ^ 12) && (nat_lt (bits op2 3 0) R15 && (not (bit op2 4) || (not (bit op2 7) && nat_lt (bits op2 11 8) R15)))

-- data processing: a test has S, and no field is R15
abbrev pub is_plain_data : Bool → ℕ → Bool → ℕ → ℕ → ℕ → Bool
is_plain_data imm op flags rn rd op2 =
    (not (is_test op) || flags) && (nat_lt rn R15 && (nat_lt rd R15 && (imm || is_plain_operand op2)))

-- LDR and STR: no field is R15, and the base that is written back is not loaded; not as in user mode
abbrev pub is_plain_single : Bool → Bool → Bool → Bool → Bool → ℕ → ℕ → ℕ → Bool
is_plain_single reg pre byte wb load rn rd offset =
    (pre || not wb) && (nat_lt rn R15 && (nat_lt rd R15 && (not (load && (writes_back pre wb && (rd == rn))) && (not reg || is_plain_register offset))))

-- LDM and STM: without R15 and ^, of a list that is not empty, and a base that is written back is not in it
abbrev pub is_plain_block : Bool → Bool → ℕ → ℕ → Bool
is_plain_block psr wb rn list =
    not psr && (nat_lt rn R15 && (nat_lt list (2 ^ 15) && (not (list == 0) && not (wb && bit list rn))))

-- MUL and MLA: Rd is not Rm, and no field is R15
abbrev pub is_plain_multiply : ℕ → ℕ → ℕ → ℕ → Bool
is_plain_multiply rd rn rs rm = not (rd == rm) && (nat_lt rd R15 && (nat_lt rn R15 && (nat_lt rs R15 && nat_lt rm R15)))

-- the calls &00, &03 and &04
abbrev pub is_plain_call : ℕ → Bool
is_plain_call number = (number == swi_write) || ((number == swi_new_line) || (number == swi_read))

-- by class; all but data processing are always made
abbrev pub is_plain : Instr → Bool
is_plain (Data cond imm op s rn rd op2) = is_plain_data imm op s rn rd op2
is_plain (Mul cond acc s rd rn rs rm) = (cond == AL) && is_plain_multiply rd rn rs rm
is_plain (Single cond reg pre up byte wb load rn rd offset) = (cond == AL) && is_plain_single reg pre byte wb load rn rd offset
is_plain (Block cond pre up psr wb load rn list) = (cond == AL) && is_plain_block psr wb rn list
is_plain (Branch cond link words) = false
is_plain (Swi cond number) = (cond == AL) && is_plain_call number
is_plain (Undefined word) = false

-- what a plain instruction does
abbrev pub executed : Instr → Core → Core
executed (Data cond imm op flags rn rd op2) s = on_condition (meets cond s) (computes imm op flags rn rd op2 s) s
executed (Mul cond acc flags rd rn rs rm) s =
    let value = product_in acc rn rs rm s in
    put rd value (if flags then flagged_by (record { value = value; carry = s.c; overflow = s.v }) s else s)
executed (Single cond reg pre up byte wb load rn rd offset) s =
    transfers load byte rd (address_of reg pre up rn offset s) s (with_moved_base reg pre up wb rn offset s)
executed (Block cond pre up psr wb load rn list) s = moves_block pre up wb load rn list s
executed (Branch cond link words) s = s
executed (Swi cond number) s = board_call number s
executed (Undefined word) s = s

-- the memory has what an access takes: a word lies at a multiple of 4
abbrev pub CanUse : Bool → ℕ → Type 0
CanUse true a = a < ram_end
CanUse false a = (a % 4 ≡ 0) × (a < ram_end)

-- the memory has the words of a block, which begins at a multiple of 4
abbrev pub CanUseBlock : ℕ → ℕ → Type 0
CanUseBlock start count = (start % 4 ≡ 0) × (start + 4 * count ≤ ram_end)

-- when a plain instruction may be made
abbrev pub CanMake : Instr → Core → Type 0
CanMake (Data cond imm op flags rn rd op2) s = Unit {0}
CanMake (Mul cond acc flags rd rn rs rm) s = Unit {0}
CanMake (Single cond reg pre up byte wb load rn rd offset) s = CanUse byte (address_of reg pre up rn offset s)
CanMake (Block cond pre up psr wb load rn list) s =
    CanUseBlock (block_begins pre up (s.regs rn) (length (listed list))) (length (listed list))
CanMake (Branch cond link words) s = Unit {0}
CanMake (Swi cond number) s = Unit {0}
CanMake (Undefined word) s = Unit {0}
