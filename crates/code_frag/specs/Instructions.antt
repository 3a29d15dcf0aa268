-- The instructions that routines are written with, as pieces of one word (VL86C010 (ARM2) data manual).
use Rattle.std.specs.Prelude.{ℕ, ◌+◌, ◌*◌, ◌^◌, Bool, true, false}
use Rattle.arm_isa.specs.declared.instruction.Instr.TheVariants.{Data, Mul, Single, Block, Swi}
use Rattle.arm_isa.specs.Numbers.{LSL, LSR, ASR, ROR, AND, EOR, SUB, RSB, ADD, TST, TEQ, CMP, CMN, ORR, MOV, BIC, MVN, AL}
use Rattle.arm2_machine.specs.Swi.{swi_write, swi_new_line, swi_read}
use Rattle.code_frag.specs.Language.{Piece, Do}

-- a second operand: an immediate, or a register that may be shifted
pub record Second : Type 0 where
  pub imm : Bool
  pub field : ℕ

-- a number below 256, or the field of another immediate
abbrev pub num : ℕ → Second
num n = record { imm = true; field = n }

-- a register as it is
abbrev pub reg : ℕ → Second
reg rm = record { imm = false; field = rm }

-- a register shifted left by 1 to 31 bits
abbrev pub lsl : ℕ → ℕ → Second
lsl rm by = record { imm = false; field = by * 2 ^ 7 + rm }

-- a register shifted right by 1 to 31 bits
abbrev pub lsr : ℕ → ℕ → Second
lsr rm by = record { imm = false; field = by * 2 ^ 7 + 1 * 2 ^ 5 + rm }

-- a register shifted right with its sign, by 1 to 31 bits
abbrev pub asr : ℕ → ℕ → Second
asr rm by = record { imm = false; field = by * 2 ^ 7 + 2 * 2 ^ 5 + rm }

-- a register shifted by the number of bits in the low byte of another, by the kind of the shift
abbrev pub shift_by : ℕ → ℕ → ℕ → Second
shift_by kind rm rs = record { imm = false; field = rs * 2 ^ 8 + kind * 2 ^ 5 + 1 * 2 ^ 4 + rm }

-- Rm shifted left by Rs
abbrev pub lsl_by : ℕ → ℕ → Second
lsl_by rm rs = shift_by LSL rm rs

-- Rm shifted right by Rs
abbrev pub lsr_by : ℕ → ℕ → Second
lsr_by rm rs = shift_by LSR rm rs

-- Rm shifted right with its sign, by Rs
abbrev pub asr_by : ℕ → ℕ → Second
asr_by rm rs = shift_by ASR rm rs

-- Rm rotated right by Rs
abbrev pub ror_by : ℕ → ℕ → Second
ror_by rm rs = shift_by ROR rm rs

-- data processing without flags
abbrev pub process : ℕ → ℕ → ℕ → Second → Piece
process op rd rn x = Do (Data AL x.imm op false rn rd x.field)

-- data processing with flags
abbrev pub process_flags : ℕ → ℕ → ℕ → Second → Piece
process_flags op rd rn x = Do (Data AL x.imm op true rn rd x.field)

-- data processing under a condition
abbrev pub process_if : ℕ → ℕ → ℕ → ℕ → Second → Piece
process_if k op rd rn x = Do (Data k x.imm op false rn rd x.field)

-- Rd = x
abbrev pub mov : ℕ → Second → Piece
mov rd x = process MOV rd 0 x

-- Rd = the complement of x
abbrev pub mvn : ℕ → Second → Piece
mvn rd x = process MVN rd 0 x

-- Rd = Rn + x
abbrev pub add : ℕ → ℕ → Second → Piece
add rd rn x = process ADD rd rn x

-- Rd = Rn - x
abbrev pub sub : ℕ → ℕ → Second → Piece
sub rd rn x = process SUB rd rn x

-- Rd = x - Rn
abbrev pub rsb : ℕ → ℕ → Second → Piece
rsb rd rn x = process RSB rd rn x

-- Rd = Rn AND x
abbrev pub and : ℕ → ℕ → Second → Piece
and rd rn x = process AND rd rn x

-- Rd = Rn OR x
abbrev pub orr : ℕ → ℕ → Second → Piece
orr rd rn x = process ORR rd rn x

-- Rd = Rn EOR x
abbrev pub eor : ℕ → ℕ → Second → Piece
eor rd rn x = process EOR rd rn x

-- Rd = Rn AND the complement of x
abbrev pub bic : ℕ → ℕ → Second → Piece
bic rd rn x = process BIC rd rn x

-- Rd = Rn + x, with flags
abbrev pub adds : ℕ → ℕ → Second → Piece
adds rd rn x = process_flags ADD rd rn x

-- Rd = Rn - x, with flags
abbrev pub subs : ℕ → ℕ → Second → Piece
subs rd rn x = process_flags SUB rd rn x

-- Rd = x - Rn, with flags
abbrev pub rsbs : ℕ → ℕ → Second → Piece
rsbs rd rn x = process_flags RSB rd rn x

-- the flags of Rn - x
abbrev pub cmp : ℕ → Second → Piece
cmp rn x = process_flags CMP 0 rn x

-- the flags of Rn + x
abbrev pub cmn : ℕ → Second → Piece
cmn rn x = process_flags CMN 0 rn x

-- the flags of Rn AND x
abbrev pub tst : ℕ → Second → Piece
tst rn x = process_flags TST 0 rn x

-- the flags of Rn EOR x
abbrev pub teq : ℕ → Second → Piece
teq rn x = process_flags TEQ 0 rn x

-- Rd = Rm times Rs
abbrev pub mul : ℕ → ℕ → ℕ → Piece
mul rd rm rs = Do (Mul AL false false rd 0 rs rm)

-- LDR Rd,[Rn,#offset]
abbrev pub ldr : ℕ → ℕ → ℕ → Piece
ldr rd rn offset = Do (Single AL false true true false false true rn rd offset)

-- STR Rd,[Rn,#offset]
abbrev pub str : ℕ → ℕ → ℕ → Piece
str rd rn offset = Do (Single AL false true true false false false rn rd offset)

-- LDRB Rd,[Rn,#offset]
abbrev pub ldrb : ℕ → ℕ → ℕ → Piece
ldrb rd rn offset = Do (Single AL false true true true false true rn rd offset)

-- STRB Rd,[Rn,#offset]
abbrev pub strb : ℕ → ℕ → ℕ → Piece
strb rd rn offset = Do (Single AL false true true true false false rn rd offset)

-- STR Rd,[Rn,#-4]!, of a stack that grows downwards
abbrev pub push : ℕ → ℕ → Piece
push rd rn = Do (Single AL false true false false true false rn rd 4)

-- LDR Rd,[Rn],#4
abbrev pub pull : ℕ → ℕ → Piece
pull rd rn = Do (Single AL false false true false false true rn rd 4)

-- STMDB Rn!,{..}, by the list's number
abbrev pub push_all : ℕ → ℕ → Piece
push_all rn list = Do (Block AL true false false true false rn list)

-- LDMIA Rn!,{..}, by the list's number
abbrev pub pull_all : ℕ → ℕ → Piece
pull_all rn list = Do (Block AL false true false true true rn list)

-- writes the low byte of R0
abbrev pub write_byte : Piece
write_byte = Do (Swi AL swi_write)

-- writes a new line
abbrev pub new_line : Piece
new_line = Do (Swi AL swi_new_line)

-- takes a byte of the input into R0, or all ones where there is none
abbrev pub read_byte : Piece
read_byte = Do (Swi AL swi_read)
