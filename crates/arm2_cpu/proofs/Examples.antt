-- The laws at work: a few instructions at the PC, by their words.
use Rattle.std.proofs.Common.{length, ◌*◌, ◌-◌, ◌≤◌, ◌∷◌, [], None, ◌≡◌, ℕ, ◌+◌, ◌/◌, ◌%◌, ◌^◌, ◌<◌, ◌==◌, not, true, false, List, Some, ℤ, pos, ◌+ℤ◌, refl, ◌∙◌, ap, arith}
use Rattle.std.specs.Int.{w32, cast_signed}
use Rattle.arm_isa.specs.declared.instruction.Instr.TheVariants.{Block, Branch, Data, Single, Swi}
use Rattle.arm_isa.specs.Words.{word_of, FitsOffset}
use Rattle.arm_isa.proofs.ValidLaws.{valid-branch, valid-data_immediate}
use Rattle.arm_isa.proofs.ValidTest.{valid_by_test}
use Rattle.arm_isa.proofs.ImmediateLaws.{immediate_value-byte}
use Rattle.arm2_cpu.specs.declared.event.CpuEvent.TheVariants as events
use Rattle.arm2_alu.specs.declared.regs.Regs.{Regs}
use Rattle.arm2_alu.specs.declared.shifts.Shifted.{Shifted}
use Rattle.arm_isa.specs.Numbers.{ASR}
use Rattle.arm2_cpu.specs.Branch.{branch_target}
use Rattle.arm_isa.specs.Fields.{bit}
use Rattle.arm2_alu.specs.Conditions.{carry, with_flags}
use Rattle.arm2_alu.specs.Results.{flagged}
use Rattle.arm2_alu.specs.Operations.{is_signed_word}
use Rattle.arm2_alu.specs.Shifts.{shifted}
use Rattle.arm2_cpu.specs.Memory.{Space, read_word, word_in, with_word}
use Rattle.arm2_alu.specs.Registers.{IsValidRegs, register, with_register, at_next, jumped, pc_ahead, r15}
use Rattle.arm2_cpu.specs.Step.{cpu_step}
use Rattle.arm2_cpu.specs.Block.{registers_among, registers_in, low_registers_in, next_word, refused_word, with_block, with_words}
use Rattle.arm2_cpu.specs.Access.{moved, offset_of}
use Rattle.arm2_alu.proofs.RegisterLaws.{holds-always, holds-at_pc, holds-vs, holds-with_register, pc-with_flags, pc-with_register, r15-jump, register-at_pc, register-same, svc-with_flags, svc-with_register}
use Rattle.arm2_cpu.proofs.StepBasics.{goes, fetches_word}
use Rattle.arm2_cpu.proofs.TransferLaws.{block_start, step-ldm_pc, step-ldr, step-stm, with_words-more, with_words-none, offset-lsl, not_open-offset_lsl, moved-up, moved-down, with_block-more, with_block-none, refused-more, refused-none}
use Rattle.arm2_alu.proofs.ValueLaws.{first-register, plain_is_amount, shift_is_amount, not_open-by_register, second-plain, second-lsl, second-by_register, summed}
use Rattle.arm2_alu.proofs.ShiftValues.{shifted-asr_high}
use Rattle.arm2_cpu.proofs.StepLaws.{step-data, step-mov_by_register, step-adds, step-branch, step-branch_link, step-mov_immediate, step-data_immediate, step-jump_register, step-swi}

-- MOV Rd,#n, of a byte
mov_byte : (s : Space) (r : Regs) (bytes : List ℕ) (rd n : ℕ) → rd < 15 → n < 256
    → read_word s bytes (not r.svc) r.pc ≡ Some (word_of (Data 14 true 13 false 0 rd n))
    → cpu_step s r bytes ≡ goes (at_next (with_register r rd n)) bytes
mov_byte s r bytes rd n low small word =
    step-mov_immediate s r bytes 14 0 rd n (fetches_word _ (valid-data_immediate 14 13 0 rd n false (omega arith) (omega arith) (omega arith) (omega (arith, low)) (omega (arith, small))) word) (holds-always r) low
    ∙ ap (λ v. goes (at_next (with_register r rd v)) bytes) (immediate_value-byte n small)

-- ADD R0,R0,#1: the value is the sum modulo 2^32
add_one : (s : Space) (r : Regs) (bytes : List ℕ) → register r 0 < 2 ^ 32
    → read_word s bytes (not r.svc) r.pc ≡ Some 0xe2800001
    → cpu_step s r bytes ≡ goes (at_next (with_register r 0 ((register r 0 + 1) % 2 ^ 32))) bytes
unfolding word_of
add_one s r bytes small word =
    step-data_immediate s r bytes 14 4 0 0 1 (fetches_word (Data 14 true 4 false 0 0 1) (valid_by_test _ refl) word) (holds-always r) refl (omega arith) (omega arith) small

-- ADD R0,R1,R2,LSL #2
add_shifted : (s : Space) (r : Regs) (bytes : List ℕ) (base index : ℕ) → register r 1 ≡ base → register r 2 ≡ index → base < 2 ^ 32 → 4 * index < 2 ^ 32
    → read_word s bytes (not r.svc) r.pc ≡ Some 0xe0810102
    → cpu_step s r bytes ≡ goes (at_next (with_register r 0 ((base + 4 * index) % 2 ^ 32))) bytes
unfolding word_of
add_shifted s r bytes base index is_base is_index small below word =
    step-data s r bytes 14 false 4 1 0 258 base (4 * index) (fetches_word (Data 14 false 4 false 1 0 258) (valid_by_test _ refl) word) (holds-always r) refl
    (shift_is_amount 2 0 2 (omega arith) (omega arith)) (omega arith) (first-register r 8 1 (omega arith) ∙ is_base)
    (second-lsl r 2 2 (omega arith) (omega arith) (omega arith) ∙ omega (arith, is_index, below)) small below

-- MOV R0,R1,ASR R2 of a word with the sign: the bits that come in are 1
shift_by_register : (s : Space) (r : Regs) (bytes : List ℕ) (n by : ℕ) → register r 1 ≡ n → register r 2 ≡ by → 2 ^ 31 ≤ n → n < 2 ^ 32 → 0 < by → by ≤ 32
    → read_word s bytes (not r.svc) r.pc ≡ Some 0xe1a00251
    → cpu_step s r bytes ≡ goes (at_next (with_register r 0 (n / 2 ^ by + (2 ^ 32 - 2 ^ (32 - by))))) bytes
unfolding word_of
shift_by_register s r bytes n by is_n is_by high small some few word =
    let amount : register r 2 % 2 ^ 8 ≡ by = omega (arith, is_by, few) in
    step-mov_by_register s r bytes 14 0 0 593 _ (fetches_word (Data 14 false 13 false 0 0 593) (valid_by_test _ refl) word) (holds-always r)
    (not_open-by_register 2 2 1 (omega arith) (omega arith) (omega arith)) (omega arith)
    (ap (λ (x : Shifted). x.value)
    (second-by_register r 2 2 1 (omega arith) (omega arith) (omega arith) ∙ (λ i. shifted ASR (is_n i) (amount i) (carry r)) ∙ shifted-asr_high n by (carry r) high small some few))

-- LDR R0,[R1,R2,LSL #2]: the word that an index of words leads to
load_indexed : (s : Space) (r : Regs) (bytes : List ℕ) (base index : ℕ) → register r 1 ≡ base → register r 2 ≡ index
    → base % 4 ≡ 0 → base + 4 * index < 2 ^ 26 → s.allows (not r.svc) (base + 4 * index) ≡ true
    → read_word s bytes (not r.svc) r.pc ≡ Some 0xe7910102
    → cpu_step s r bytes ≡ goes (at_next (with_register r 0 (word_in s bytes (base + 4 * index)))) bytes
unfolding word_of
load_indexed s r bytes base index is_base is_index aligned low allowed word =
    let offset : offset_of r true 258 ≡ 4 * index = offset-lsl r 2 2 (omega arith) (omega arith) (omega arith) ∙ omega (arith, is_index, low) in
    let place = (λ i. moved true ((first-register r 8 1 (omega arith) ∙ is_base) i) (offset i)) ∙ moved-up base (4 * index) (omega (arith, low)) in
    step-ldr s r bytes 14 true true 1 0 258 (base + 4 * index) (fetches_word (Single 14 true true true false false true 1 0 258) (valid_by_test _ refl) word) (holds-always r)
    (not_open-offset_lsl 2 2 (omega arith)) (omega arith) place (omega (arith, aligned)) low allowed

-- MOV PC,R14
return : (s : Space) (r : Regs) (bytes : List ℕ)
    → read_word s bytes (not r.svc) r.pc ≡ Some 0xe1a0f00e
    → cpu_step s r bytes ≡ goes (jumped r (register r 14)) bytes
unfolding word_of
return s r bytes word = step-jump_register s r bytes 14 0 14 (fetches_word (Data 14 false 13 false 0 15 14) (valid_by_test _ refl) word) (holds-always r) (omega arith)

-- SWI &11
end : (s : Space) (r : Regs) (bytes : List ℕ)
    → read_word s bytes (not r.svc) r.pc ≡ Some 0xef000011
    → cpu_step s r bytes ≡ record { event = events.Swi 17; regs = at_next r; bytes = bytes }
unfolding word_of
end s r bytes word = step-swi s r bytes 14 17 (fetches_word (Swi 14 17) (valid_by_test _ refl) word) (holds-always r)

-- STMDB R13!,{R0,R14}: two words on a stack that grows down
two_registers : registers_in 0x4001 ≡ 0 ∷ 14 ∷ []
unfolding registers_among
two_registers = refl

push : (s : Space) (r : Regs) (bytes : List ℕ) (top : ℕ) → register r 13 ≡ top → 8 ≤ top → top % 4 ≡ 0 → top < 2 ^ 26
    → s.allows (not r.svc) (top - 8) ≡ true → s.allows (not r.svc) (top - 4) ≡ true
    → read_word s bytes (not r.svc) r.pc ≡ Some 0xe92d4001
    → cpu_step s r bytes ≡ goes (at_next (with_register r 13 (top - 8))) (with_word s (with_word s bytes (top - 8) (register r 0)) (top - 4) (register r 14))
unfolding word_of
push s r bytes top is room aligned low first second word =
    let above : next_word (top - 8) ≡ top - 4 = omega (arith, room, low) in
    let user = not r.svc in
    let allowed : refused_word 2 s user (top - 8) ≡ None =
    refused-more 1 s user (top - 8) (omega (arith, low)) first (ap (refused_word 1 s user) above ∙ refused-more 0 s user (top - 4) (omega (arith, low)) second (refused-none s user (next_word (top - 4)))) in
    step-stm s r bytes 14 true false true 13 0x4001 (top - 8) (top - 8) (fetches_word (Block 14 true false false true false 13 0x4001) (valid_by_test _ refl) word) (holds-always r) refl
    ((λ i. moved false (is i) (4 * length (two_registers i))) ∙ moved-down top 8 room (omega (arith, low)))
    (omega (arith, room, aligned, low))
    (ap (λ ns. refused_word (length ns) s user (top - 8)) two_registers ∙ allowed)
    ∙ ap (goes (at_next (with_register r 13 (top - 8))))
    (ap (λ ns. with_block ns s bytes r r.svc (top - 8)) two_registers
    ∙ with_block-more 0 (14 ∷ []) s bytes r (top - 8) (omega arith)
    ∙ with_block-more 14 [] s (with_word s bytes (top - 8) (register r 0)) r (next_word (top - 8)) (omega arith)
    ∙ with_block-none s _ r r.svc (next_word (next_word (top - 8)))
    ∙ ap (λ at. with_word s (with_word s bytes (top - 8) (register r 0)) at (register r 14)) above)

-- LDMIA R13!,{R0,R1,PC}: three words from a stack that grows down, of which the last is where to go on
low_popped : low_registers_in 0x8003 ≡ 0 ∷ 1 ∷ []
unfolding registers_among
low_popped = refl

popped : registers_in 0x8003 ≡ 0 ∷ 1 ∷ 15 ∷ []
unfolding registers_among
popped = refl

pop : (s : Space) (r : Regs) (bytes : List ℕ) (top : ℕ) → register r 13 ≡ top → top % 4 ≡ 0 → top + 12 < 2 ^ 26
    → s.allows (not r.svc) top ≡ true → s.allows (not r.svc) (top + 4) ≡ true → s.allows (not r.svc) (top + 8) ≡ true
    → read_word s bytes (not r.svc) r.pc ≡ Some 0xe8bd8003
    → cpu_step s r bytes ≡ goes (jumped (with_register (with_register (with_register r 13 (top + 12)) 0 (word_in s bytes top)) 1 (word_in s bytes (top + 4))) (word_in s bytes (top + 8))) bytes
unfolding word_of
pop s r bytes top is aligned low first second third word =
    let user = not r.svc in
    let at1 : next_word top ≡ top + 4 = omega (arith, low) in
    let at2 : next_word (top + 4) ≡ top + 8 = omega (arith, low) in
    let allowed : refused_word 3 s user top ≡ None =
    refused-more 2 s user top (omega (arith, low)) first (ap (refused_word 2 s user) at1
    ∙ refused-more 1 s user (top + 4) (omega (arith, low)) second (ap (refused_word 1 s user) at2
    ∙ refused-more 0 s user (top + 8) (omega (arith, low)) third (refused-none s user (next_word (top + 8))))) in
    let r1 = with_register r 13 (top + 12) in
    let r2 = with_register r1 0 (word_in s bytes top) in
    let same1 = svc-with_register r 13 (top + 12) in
    let same2 = svc-with_register r1 0 (word_in s bytes top) ∙ same1 in
    let last : (top + 4 * length (low_registers_in 0x8003)) % 2 ^ 32 ≡ top + 8 = ap (λ ns. (top + 4 * length ns) % 2 ^ 32) low_popped ∙ omega (arith, low) in
    step-ldm_pc s r bytes 14 false true true 13 0x8003 (top + 12) top (fetches_word (Block 14 false true false true true 13 0x8003) (valid_by_test _ refl) word) (holds-always r) refl refl
    ((λ i. moved true (is i) (4 * length (popped i))) ∙ moved-up top 12 (omega (arith, low)))
    (ap (λ b. block_start false true b (top + 12)) is ∙ omega (arith, aligned, low))
    (ap (λ ns. refused_word (length ns) s user top) popped ∙ allowed)
    ∙ ap (λ at. goes (jumped (with_words (low_registers_in 0x8003) s bytes r1 r.svc top) (word_in s bytes at)) bytes) last
    ∙ ap (λ x. goes (jumped x (word_in s bytes (top + 8))) bytes)
    (ap (λ ns. with_words ns s bytes r1 r.svc top) low_popped
    ∙ with_words-more 0 (1 ∷ []) s bytes r1 r.svc top same1
    ∙ with_words-more 1 [] s bytes r2 r.svc (next_word top) same2
    ∙ with_words-none s bytes _ r.svc (next_word (next_word top))
    ∙ ap (λ at. with_register r2 1 (word_in s bytes at)) at1)

-- BL, and MOV PC,R14 where it leads: back to the instruction after the BL, with the flags as they are
call_and_return : (s : Space) (r : Regs) (bytes : List ℕ) (words : ℤ) → IsValidRegs r → length r.low ≡ 13 → FitsOffset words
    → read_word s bytes (not r.svc) r.pc ≡ Some (word_of (Branch 14 true words))
    → read_word s bytes (not r.svc) (branch_target r words) ≡ Some 0xe1a0f00e
    → (let called = record (with_register r 14 (r15 r 4)) { pc = branch_target r words } in
    (cpu_step s r bytes ≡ goes called bytes) × (cpu_step s called bytes ≡ goes (record called { pc = pc_ahead r 4 }) bytes))
call_and_return s r bytes words valid whole fits there back =
    let called = record (with_register r 14 (r15 r 4)) { pc = branch_target r words } in
    let fetched = (λ i. read_word s bytes (not (svc-with_register r 14 (r15 r 4) i)) (branch_target r words)) ∙ back in
    let link = register-at_pc (with_register r 14 (r15 r 4)) (branch_target r words) 14 ∙ register-same r 14 (r15 r 4) whole in (
      step-branch_link s r bytes 14 words (fetches_word (Branch 14 true words) (valid-branch 14 true words (omega arith) fits) there) (holds-always r),
      return s called bytes fetched ∙ ap (λ v. goes (jumped called v) bytes) link ∙ ap (λ x. goes x bytes) (r15-jump called r 4 valid (omega arith)),
    )

-- ADDS R0,R0,R1 and BVS: the branch is taken where the signed sum is out of range
add_checked : (s : Space) (r : Regs) (bytes : List ℕ) (a b words : ℕ) → register r 0 ≡ a → register r 1 ≡ b → words < 2 ^ 23
    → is_signed_word (cast_signed w32 a +ℤ cast_signed w32 b) ≡ false
    → read_word s bytes (not r.svc) r.pc ≡ Some 0xe0900001
    → read_word s bytes (not r.svc) (pc_ahead r 4) ≡ Some (word_of (Branch 6 false (pos words)))
    → (let after = at_next (with_register (flagged (summed a b) r) 0 ((a + b) % 2 ^ 32)) in
    (cpu_step s r bytes ≡ goes after bytes) × (cpu_step s after bytes ≡ goes (record after { pc = branch_target after (pos words) }) bytes))
unfolding word_of
add_checked s r bytes a b words first second fits outside add branch =
    let x = summed a b in
    let n = bit x.value 31 in
    let z = x.value == 0 in
    let flags = with_flags n z x.carry x.overflow r in
    let value = (a + b) % 2 ^ 32 in
    let after = at_next (with_register flags 0 value) in
    let mode = svc-with_register flags 0 value ∙ svc-with_flags n z x.carry x.overflow r in
    let place = pc-with_register flags 0 value ∙ pc-with_flags n z x.carry x.overflow r in
    let fetched = (λ i. read_word s bytes (not (mode i)) ((place i + 4) % 2 ^ 26)) ∙ branch in
    let overflowed = holds-at_pc 6 (with_register flags 0 value) (pc_ahead (with_register flags 0 value) 4) ∙ holds-with_register 6 flags 0 value ∙ holds-vs n z x.carry x.overflow r ∙ ap not outside in (
      step-adds s r bytes 14 false 0 0 1 a b (fetches_word (Data 14 false 4 true 0 0 1) (valid_by_test _ refl) add) (holds-always r) (plain_is_amount 1 (omega arith)) (omega arith)
          (first-register r 8 0 (omega arith) ∙ first) (ap (λ (y : Shifted). y.value) (second-plain r 1 (omega arith)) ∙ second),
      step-branch s after bytes 6 (pos words) (fetches_word (Branch 6 false (pos words)) (valid-branch 6 false (pos words) (omega arith) fits) fetched) overflowed,
    )
