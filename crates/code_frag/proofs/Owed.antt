-- What an instruction owes lets it be made, leaves the code as it was, and gives what is asked after it.
use Rattle.std.proofs.Common.{◌≡◌, ℕ, suc, ◌+◌, ◌*◌, ◌%◌, ◌^◌, ◌<◌, ◌≤◌, ◌⊎◌, ◌==◌, Bool, true, false, if◌then◌else◌, List, [], ◌∷◌, length, inl, inr, refl, ◌∙◌, arith}
use Rattle.bv_base.specs.MemoryMap.{ram_end, image_start}
use Rattle.arm_isa.specs.declared.instruction.Instr.{Instr}
use Rattle.arm_isa.specs.declared.instruction.Instr.TheVariants.{Data, Mul, Single, Block, Branch, Swi, Undefined}
use Rattle.arm2_alu.specs.Operations.{is_test}
use Rattle.arm2_cpu.specs.Access.{writes_back}
use Rattle.arm2_alu.proofs.RegisterLaws.{updated}
use Rattle.arm2_alu.specs.declared.operations.Computed.{Computed}
use Rattle.arm_core.specs.Core.{Core, put, word, put_word, meets, IsGood}
use Rattle.arm_core.specs.Effects.{moved_by, offset_in, CanUse, CanUseBlock, is_plain, address_of, with_moved_base, transfers, listed, stored_words, block_begins, moves_block, takes_input, flagged_by, result_of, operand_in, product_in, executed, CanMake}
use Rattle.arm_core.proofs.MemoryWords.{updated-other, byte-put_other}
use Rattle.arm_core.proofs.TransferSteps.{word-lt}
use Rattle.code_frag.specs.Demands.{transfer_owes, block_owes, instruction_owes}
use Rattle.code_frag.specs.Places.{data_start, IsData}
use Rattle.code_frag.specs.Runs.{SameCode}

-- data lies in memory, and apart from the code
data_inside : (a n : ℕ) → IsData a n → a + n ≤ ram_end
data_inside a n (inl below) = omega (arith, below)
data_inside a n (inr above) = above.1

data_apart : (a n b : ℕ) → IsData a n → image_start ≤ b → b < data_start → (b < a) ⊎ (a + n ≤ b)
data_apart a n b (inl below) low high = inr (omega (arith, below, low))
data_apart a n b (inr above) low high = inl (omega (arith, above.0, high))

-- ---- it may be made

transfer_can : (load byte : Bool) (a : ℕ) (m : ℕ → ℕ) (Q : Type 0) → transfer_owes load byte a m Q → CanUse byte a
transfer_can true true a m Q owes = owes.0
transfer_can true false a m Q owes = (owes.0, owes.1)
transfer_can false true a m Q owes = let inside = data_inside a 1 owes.0 in omega (arith, inside)
transfer_can false false a m Q owes = let inside = data_inside a 4 owes.1 in (owes.0, omega (arith, inside))

block_can : (load : Bool) (a count : ℕ) (m : ℕ → ℕ) (Q : Type 0) → block_owes load a count m Q → CanUseBlock a count
block_can true a count m Q owes = owes.0
block_can false a count m Q owes = (owes.0, data_inside a (4 * count) owes.1)

pub owes-can : (i : Instr) (Q : Core → Type 0) (s : Core) → instruction_owes i Q s → CanMake i s
owes-can (Data cond imm op flags rn rd op2) Q s owes = tt
owes-can (Mul cond acc flags rd rn rs rm) Q s owes = tt
owes-can (Single cond reg pre up byte wb load rn rd offset) Q s owes = transfer_can load byte _ s.mem _ owes
owes-can (Block cond pre up psr wb load rn list) Q s owes = block_can load _ _ s.mem _ owes
owes-can (Branch cond link words) Q s owes = tt
owes-can (Swi cond number) Q s owes = tt
owes-can (Undefined word) Q s owes = tt

-- ---- what is asked after it

transfer_then : (load byte : Bool) (a : ℕ) (s : Core) (Q : Type 0) → IsGood s → transfer_owes load byte a s.mem Q → Q
transfer_then true true a s Q good owes = owes.1 (good.mem a)
transfer_then true false a s Q good owes = owes.2 (word-lt s a good)
transfer_then false true a s Q good owes = owes.1
transfer_then false false a s Q good owes = owes.2

block_then : (load : Bool) (a count : ℕ) (s : Core) (Q : Type 0) → IsGood s → block_owes load a count s.mem Q → Q
block_then true a count s Q good owes = owes.1 (λ b. word-lt s b good)
block_then false a count s Q good owes = owes.2

pub owes-then : (i : Instr) (Q : Core → Type 0) (s : Core) → IsGood s → (is_plain i) ≡ true → instruction_owes i Q s → Q (executed i s)
owes-then (Data cond imm op flags rn rd op2) Q s good plain owes = owes
owes-then (Mul cond acc flags rd rn rs rm) Q s good plain owes = owes
owes-then (Single cond reg pre up byte wb load rn rd offset) Q s good plain owes = transfer_then load byte _ s _ good owes
owes-then (Block cond pre up psr wb load rn list) Q s good plain owes = block_then load _ _ s _ good owes
owes-then (Branch cond link words) Q s good plain owes = owes
owes-then (Swi cond number) Q s good plain owes = owes
owes-then (Undefined word) Q s good plain owes = owes

-- ---- the code stays

-- a word of data, and words of data
code-put : (code m : ℕ → ℕ) (a x : ℕ) → IsData a 4 → SameCode code m → SameCode code (put_word m a x)
code-put code m a x is same = record { kept = λ b low high. byte-put_other m a x b (data_apart a 4 b is low high) ∙ same.kept b low high }

first_data : (a n : ℕ) → IsData a (4 * suc n) → IsData a 4
first_data a n (inl below) = inl (omega (arith, below))
first_data a n (inr above) = inr (above.0, omega (arith, above.1))

rest_data : (a n : ℕ) → IsData a (4 * suc n) → IsData (a + 4) (4 * n)
rest_data a n (inl below) = inl (omega (arith, below))
rest_data a n (inr above) = inr (omega (arith, above.0), omega (arith, above.1))

code-words : (ns : List ℕ) (code regs m : ℕ → ℕ) (a : ℕ) → IsData a (4 * length ns) → SameCode code m → SameCode code (stored_words ns regs m a)
code-words [] code regs m a is same = same
code-words (n ∷ ns) code regs m a is same =
    code-words ns code regs (put_word m a (regs n)) (a + 4) (rest_data a (length ns) is) (code-put code m a (regs n) (first_data a (length ns) is) same)

code-byte : (code m : ℕ → ℕ) (a x : ℕ) → IsData a 1 → SameCode code m → SameCode code (updated m a x)
code-byte code m a x is same = record { kept = λ b low high. updated-other m a x b (apart (data_apart a 1 b is low high)) ∙ same.kept b low high }
  where
    apart : {b : ℕ} → (b < a) ⊎ (a + 1 ≤ b) → b ≡ a → ⊥
    apart (inl below) e = omega (arith, below, e)
    apart (inr above) e = omega (arith, above, e)

transfer_code : (code : ℕ → ℕ) (load byte : Bool) (rd a : ℕ) (s t : Core) (Q : Type 0) → t.mem ≡ s.mem → transfer_owes load byte a s.mem Q → SameCode code s.mem → SameCode code (transfers load byte rd a s t).mem
transfer_code code true byte rd a s t Q kept owes same = record { kept = λ b low high. (λ i. kept i b) ∙ same.kept b low high }
transfer_code code false true rd a s t Q kept owes same = code-byte code s.mem a (s.regs rd % 2 ^ 8) owes.0 same
transfer_code code false false rd a s t Q kept owes same = code-put code s.mem a (s.regs rd) owes.1 same

pub base_mem : (b : Bool) (reg pre up : Bool) (rn offset : ℕ) (s : Core) → (if b then put rn (moved_by up (s.regs rn) (offset_in reg offset s)) s else s).mem ≡ s.mem
base_mem true reg pre up rn offset s = refl
base_mem false reg pre up rn offset s = refl

pub data_mem : (b test flags : Bool) (rd : ℕ) (x : Computed) (s : Core)
    → (if b then (if test then flagged_by x s else if flags then put rd x.value (flagged_by x s) else put rd x.value s) else s).mem ≡ s.mem
data_mem false test flags rd x s = refl
data_mem true true flags rd x s = refl
data_mem true false true rd x s = refl
data_mem true false false rd x s = refl

pub product_mem : (flags : Bool) (rd value : ℕ) (s : Core) → (put rd value (if flags then flagged_by (record { value = value; carry = s.c; overflow = s.v }) s else s)).mem ≡ s.mem
product_mem true rd value s = refl
product_mem false rd value s = refl

block_code : (code : ℕ → ℕ) (pre up wb load : Bool) (rn list : ℕ) (s : Core) (Q : Type 0) → block_owes load (block_begins pre up (s.regs rn) (length (listed list))) (length (listed list)) s.mem Q
    → SameCode code s.mem → SameCode code (moves_block pre up wb load rn list s).mem
block_code code pre up true true rn list s Q owes same = same
block_code code pre up false true rn list s Q owes same = same
block_code code pre up true false rn list s Q owes same = code-words (listed list) code s.regs s.mem _ owes.1 same
block_code code pre up false false rn list s Q owes same = code-words (listed list) code s.regs s.mem _ owes.1 same

input_mem : (input : List ℕ) (s : Core) → (takes_input input s).mem ≡ s.mem
input_mem [] s = refl
input_mem (byte ∷ rest) s = refl

pub call_mem : (a b : Bool) (s : Core) (x y : List ℕ) → (if a then record s { out = x } else if b then record s { out = y } else takes_input s.input s).mem ≡ s.mem
call_mem true b s x y = refl
call_mem false true s x y = refl
call_mem false false s x y = input_mem s.input s

code-same : (code : ℕ → ℕ) (m k : ℕ → ℕ) → k ≡ m → SameCode code m → SameCode code k
code-same code m k kept same = record { kept = λ b low high. (λ i. kept i b) ∙ same.kept b low high }

pub owes-code : (code : ℕ → ℕ) (i : Instr) (Q : Core → Type 0) (s : Core) → instruction_owes i Q s → SameCode code s.mem → SameCode code (executed i s).mem
owes-code code (Data cond imm op flags rn rd op2) Q s owes same =
    code-same code s.mem _ (data_mem (meets cond s) (is_test op) flags rd (result_of op (s.regs rn) (operand_in imm op2 s) s.c s.v) s) same
owes-code code (Mul cond acc flags rd rn rs rm) Q s owes same = code-same code s.mem _ (product_mem flags rd (product_in acc rn rs rm s) s) same
owes-code code (Single cond reg pre up byte wb load rn rd offset) Q s owes same =
    transfer_code code load byte rd (address_of reg pre up rn offset s) s (with_moved_base reg pre up wb rn offset s) _ (base_mem (writes_back pre wb) reg pre up rn offset s) owes same
owes-code code (Block cond pre up psr wb load rn list) Q s owes same = block_code code pre up wb load rn list s _ owes same
owes-code code (Branch cond link words) Q s owes same = same
owes-code code (Swi cond number) Q s owes same = code-same code s.mem _ (call_mem (number == 0) (number == 3) s _ _) same
owes-code code (Undefined word) Q s owes same = same
