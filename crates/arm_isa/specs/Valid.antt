-- The test of an instruction's fields.
use Rattle.std.specs.Prelude.{ℕ, ◌^◌, Bool, true, false, ◌&&◌, ◌||◌, not, nat_lt, ℤ, pos, negsuc}
use Rattle.arm_isa.specs.declared.classes.Class.{Class}
use Rattle.arm_isa.specs.declared.classes.Class.TheVariants as classes
use Rattle.arm_isa.specs.declared.instruction.Instr.{Instr}
use Rattle.arm_isa.specs.declared.instruction.Instr.TheVariants.{Data, Mul, Single, Block, Branch, Swi, Undefined}
use Rattle.arm_isa.specs.Fields.{bit, has_bits_7_and_4}
use Rattle.arm_isa.specs.Table.{class_of}

-- two fields of four bits
abbrev pub are_nibbles : ℕ → ℕ → Bool
are_nibbles a b = nat_lt a (2 ^ 4) && nat_lt b (2 ^ 4)

-- a second operand of data processing: twelve bits, and a register operand doesn't have both bits 7 and 4
abbrev pub is_operand : Bool → ℕ → Bool
is_operand imm op2 = nat_lt op2 (2 ^ 12) && (imm || not (has_bits_7_and_4 op2))

-- an offset of LDR and STR: twelve bits, and a register offset doesn't have bit 4
abbrev pub is_offset : Bool → ℕ → Bool
is_offset reg offset = nat_lt offset (2 ^ 12) && not (reg && bit offset 4)

-- a distance that 24 bits can hold
abbrev pub is_distance : ℤ → Bool
is_distance (pos n) = nat_lt n (2 ^ 23)
is_distance (negsuc n) = nat_lt n (2 ^ 23)

-- the class of the undefined words
abbrev pub is_undefined : Class → Bool
is_undefined classes.Data = false
is_undefined classes.Multiply = false
is_undefined classes.Single = false
is_undefined classes.Block = false
is_undefined classes.Branch = false
is_undefined classes.Swi = false
is_undefined classes.Undefined = true

-- Whether an instruction has a word, as a test that computes.
abbrev pub is_valid : Instr → Bool
is_valid (Data cond imm op s rn rd op2) = are_nibbles cond op && (are_nibbles rn rd && is_operand imm op2)
is_valid (Mul cond acc s rd rn rs rm) = nat_lt cond (2 ^ 4) && (are_nibbles rd rn && are_nibbles rs rm)
is_valid (Single cond reg pre up byte wb load rn rd offset) = nat_lt cond (2 ^ 4) && (are_nibbles rn rd && is_offset reg offset)
is_valid (Block cond pre up psr wb load rn list) = are_nibbles cond rn && nat_lt list (2 ^ 16)
is_valid (Branch cond link words) = nat_lt cond (2 ^ 4) && is_distance words
is_valid (Swi cond number) = nat_lt cond (2 ^ 4) && nat_lt number (2 ^ 24)
is_valid (Undefined word) = nat_lt word (2 ^ 32) && is_undefined (class_of word)
