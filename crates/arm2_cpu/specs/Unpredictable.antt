-- The instructions that trap as unpredictable, whatever the registers hold. Three more depend on a value, which may name a mode
-- that doesn't exist: they are in Data (tested, set_with_flags) and in Block (load_with_r15). All of this is this project's own.
use Rattle.std.specs.Prelude.{ℕ, ◌==◌, ◌&&◌, ◌||◌, not, Bool, false}
use Rattle.arm_isa.specs.Fields.{bits, bit}
use Rattle.arm_isa.specs.declared.instruction.Instr.{Instr}
use Rattle.arm_isa.specs.declared.instruction.Instr.TheVariants.{Data, Mul, Single, Block, Branch, Swi, Undefined}
use Rattle.arm_isa.specs.Numbers.{R15}
use Rattle.arm2_cpu.specs.Access.{writes_back}
use Rattle.arm2_cpu.specs.Block.{uses_user_bank}
use Rattle.arm2_alu.specs.Operands.{by_register}
use Rattle.arm2_alu.specs.Operations.{is_test}

-- data processing: a test without S, or R15 as the amount of a shift
abbrev pub is_unpredictable_data : Bool → ℕ → Bool → ℕ → Bool
is_unpredictable_data imm op s op2 = (is_test op && not s) || (by_register imm op2 && (bits op2 11 8 == R15))

-- MUL and MLA: Rd is Rm, or R15 in any field
abbrev pub is_unpredictable_multiply : ℕ → ℕ → ℕ → ℕ → Bool
is_unpredictable_multiply rd rn rs rm = (rd == rm) || (rd == R15) || (rn == R15) || (rs == R15) || (rm == R15)

-- LDR and STR: R15 as the offset, R15 written back, a load into its written-back base, or a byte loaded into R15
abbrev pub is_unpredictable_single : Bool → Bool → Bool → Bool → Bool → ℕ → ℕ → ℕ → Bool
is_unpredictable_single reg pre byte wb load rn rd offset =
    (reg && (bits offset 3 0 == R15))
    || (writes_back pre wb && (rn == R15))
    || (load && writes_back pre wb && (rd == rn))
    || (load && byte && (rd == R15))

-- LDM and STM: an empty list, R15 as the base, the base in the list with W, or the user bank with W
abbrev pub is_unpredictable_block : Bool → Bool → Bool → ℕ → ℕ → Bool
is_unpredictable_block psr wb load rn list =
    (list == 0) || (rn == R15) || (wb && (bit list rn || uses_user_bank psr load list))

-- the list, by class
unfoldable pub is_unpredictable : Instr → Bool
is_unpredictable (Data cond imm op s rn rd op2) = is_unpredictable_data imm op s op2
is_unpredictable (Mul cond acc s rd rn rs rm) = is_unpredictable_multiply rd rn rs rm
is_unpredictable (Single cond reg pre up byte wb load rn rd offset) = is_unpredictable_single reg pre byte wb load rn rd offset
is_unpredictable (Block cond pre up psr wb load rn list) = is_unpredictable_block psr wb load rn list
is_unpredictable (Branch cond link words) = false
is_unpredictable (Swi cond number) = false
is_unpredictable (Undefined word) = false
