-- Words and instructions (VL86C010 (ARM2) data manual, instruction set).
use Rattle.std.specs.Prelude.{◌≡◌, ℕ, ◌+◌, ◌*◌, ◌^◌, ◌<◌, Bool, ℤ, pos, negsuc}
use Rattle.std.specs.Int.{from_bool}
use Rattle.arm_isa.specs.declared.classes.Class.{Class}
use Rattle.arm_isa.specs.declared.classes.Class.TheVariants as classes
use Rattle.arm_isa.specs.declared.instruction.Instr.{Instr}
use Rattle.arm_isa.specs.declared.instruction.Instr.TheVariants.{Data, Mul, Single, Block, Branch, Swi, Undefined}
use Rattle.arm_isa.specs.Fields.{bits, bit, signed_offset, offset_field}
use Rattle.arm_isa.specs.Table.{class_of}

-- data processing: condition, I, operation, S, Rn, Rd, second operand
abbrev pub data_of : ℕ → Instr
data_of w = Data (bits w 31 28) (bit w 25) (bits w 24 21) (bit w 20) (bits w 19 16) (bits w 15 12) (bits w 11 0)

-- MUL and MLA: condition, A, S, Rd, Rn, Rs, Rm
abbrev pub multiply_of : ℕ → Instr
multiply_of w = Mul (bits w 31 28) (bit w 21) (bit w 20) (bits w 19 16) (bits w 15 12) (bits w 11 8) (bits w 3 0)

-- LDR and STR: condition, I, P, U, B, W, L, Rn, Rd, offset
abbrev pub single_of : ℕ → Instr
single_of w = Single (bits w 31 28) (bit w 25) (bit w 24) (bit w 23) (bit w 22) (bit w 21) (bit w 20) (bits w 19 16) (bits w 15 12) (bits w 11 0)

-- LDM and STM: condition, P, U, S, W, L, Rn, list of registers
abbrev pub block_of : ℕ → Instr
block_of w = Block (bits w 31 28) (bit w 24) (bit w 23) (bit w 22) (bit w 21) (bit w 20) (bits w 19 16) (bits w 15 0)

-- B and BL: condition, L, signed distance in words
abbrev pub branch_of : ℕ → Instr
branch_of w = Branch (bits w 31 28) (bit w 24) (signed_offset (bits w 23 0))

-- SWI: condition, number
abbrev pub swi_of : ℕ → Instr
swi_of w = Swi (bits w 31 28) (bits w 23 0)

-- a word read as one of a class
abbrev pub read_as : Class → ℕ → Instr
read_as classes.Data w = data_of w
read_as classes.Multiply w = multiply_of w
read_as classes.Single w = single_of w
read_as classes.Block w = block_of w
read_as classes.Branch w = branch_of w
read_as classes.Swi w = swi_of w
read_as classes.Undefined w = Undefined w

-- the instruction that a word is
unfoldable pub means : ℕ → Instr
means w = read_as (class_of w) w

-- the flags P, U, B (of one register) or S (of a block), W and L of a transfer, at bits 24 to 20
abbrev pub transfer_flags : Bool → Bool → Bool → Bool → Bool → ℕ
transfer_flags pre up third wb load =
    from_bool pre * 2 ^ 24 + from_bool up * 2 ^ 23 + from_bool third * 2 ^ 22 + from_bool wb * 2 ^ 21 + from_bool load * 2 ^ 20

-- the word of an instruction: the sum of its fields, each at its place, and of the bits that show its class
unfoldable pub word_of : Instr → ℕ
word_of (Data cond imm op s rn rd op2) =
    cond * 2 ^ 28 + from_bool imm * 2 ^ 25 + op * 2 ^ 21 + from_bool s * 2 ^ 20 + rn * 2 ^ 16 + rd * 2 ^ 12 + op2
word_of (Mul cond acc s rd rn rs rm) =
    cond * 2 ^ 28 + from_bool acc * 2 ^ 21 + from_bool s * 2 ^ 20 + rd * 2 ^ 16 + rn * 2 ^ 12 + rs * 2 ^ 8 + 9 * 2 ^ 4 + rm
word_of (Single cond reg pre up byte wb load rn rd offset) =
    cond * 2 ^ 28 + 1 * 2 ^ 26 + from_bool reg * 2 ^ 25 + transfer_flags pre up byte wb load + rn * 2 ^ 16 + rd * 2 ^ 12 + offset
word_of (Block cond pre up psr wb load rn list) =
    cond * 2 ^ 28 + 4 * 2 ^ 25 + transfer_flags pre up psr wb load + rn * 2 ^ 16 + list
word_of (Branch cond link words) = cond * 2 ^ 28 + 5 * 2 ^ 25 + from_bool link * 2 ^ 24 + offset_field words
word_of (Swi cond number) = cond * 2 ^ 28 + 15 * 2 ^ 24 + number
word_of (Undefined word) = word

-- the class of an instruction
abbrev pub class_named : Instr → Class
class_named (Data cond imm op s rn rd op2) = classes.Data
class_named (Mul cond acc s rd rn rs rm) = classes.Multiply
class_named (Single cond reg pre up byte wb load rn rd offset) = classes.Single
class_named (Block cond pre up psr wb load rn list) = classes.Block
class_named (Branch cond link words) = classes.Branch
class_named (Swi cond number) = classes.Swi
class_named (Undefined word) = classes.Undefined

-- a distance that 24 bits can hold, from -2^23 up to 2^23
abbrev pub FitsOffset : ℤ → Type 0
FitsOffset (pos n) = n < 2 ^ 23
FitsOffset (negsuc n) = n < 2 ^ 23

-- fields in range
abbrev pub Fits : Instr → Type 0
Fits (Data cond imm op s rn rd op2) = (cond < 2 ^ 4) × (op < 2 ^ 4) × (rn < 2 ^ 4) × (rd < 2 ^ 4) × (op2 < 2 ^ 12)
Fits (Mul cond acc s rd rn rs rm) = (cond < 2 ^ 4) × (rd < 2 ^ 4) × (rn < 2 ^ 4) × (rs < 2 ^ 4) × (rm < 2 ^ 4)
Fits (Single cond reg pre up byte wb load rn rd offset) = (cond < 2 ^ 4) × (rn < 2 ^ 4) × (rd < 2 ^ 4) × (offset < 2 ^ 12)
Fits (Block cond pre up psr wb load rn list) = (cond < 2 ^ 4) × (rn < 2 ^ 4) × (list < 2 ^ 16)
Fits (Branch cond link words) = (cond < 2 ^ 4) × FitsOffset words
Fits (Swi cond number) = (cond < 2 ^ 4) × (number < 2 ^ 24)
Fits (Undefined word) = word < 2 ^ 32

-- An instruction that has a word: its fields are in range, and its word isn't classed otherwise.
pub record IsValid (i : Instr) : Type 0 where
  pub fits : Fits i
  pub own_class : class_of (word_of i) ≡ class_named i
