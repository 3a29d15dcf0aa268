-- The laws at work: a word that is written out, and one with variable fields.
use Rattle.std.proofs.Common.{◌≡◌, ℕ, ◌+◌, ◌*◌, ◌^◌, ◌<◌, true, false, negsuc, refl, arith}
use Rattle.arm_isa.specs.declared.instruction.Instr.TheVariants.{Data, Single, Branch}
use Rattle.arm_isa.specs.Fields.{bits}
use Rattle.arm_isa.specs.Table.{class_of}
use Rattle.arm_isa.specs.Words.{means, word_of, IsValid}
use Rattle.arm_isa.proofs.FieldLemmas.{nibble_at}
use Rattle.arm_isa.proofs.RoundTrip.{means_at}
use Rattle.arm_isa.proofs.ValidLaws.{valid-data_immediate}
use Rattle.arm_isa.proofs.ValidTest.{valid_by_test}
use Rattle.arm_isa.proofs.InstructionWords.{means_by_test, means-data_immediate, means-single_immediate}

-- MOV PC,R14 by computation: what its word means, its word, that it is valid, and all three at once
mov_pc_r14 : means 0xe1a0f00e ≡ Data 14 false 13 false 0 15 14
unfolding means class_of
mov_pc_r14 = refl

word-mov_pc_r14 : word_of (Data 14 false 13 false 0 15 14) ≡ 0xe1a0f00e
unfolding word_of
word-mov_pc_r14 = refl

valid-mov_pc_r14 : IsValid (Data 14 false 13 false 0 15 14)
valid-mov_pc_r14 = valid_by_test _ refl

means-mov_pc_r14 : means (word_of (Data 14 false 13 false 0 15 14)) ≡ Data 14 false 13 false 0 15 14
means-mov_pc_r14 = means_by_test _ refl

-- one field of its word, and of any word with that field
rd-mov_pc_r14 : bits 0xe1a0f00e 15 12 ≡ 15
rd-mov_pc_r14 = refl

rd-any : (above rd below : ℕ) → rd < 16 → below < 2 ^ 12 → bits (above * 2 ^ 16 + rd * 2 ^ 12 + below) 15 12 ≡ rd
rd-any above rd below register small = nibble_at above rd below 12 register small

-- a branch with link to itself
bl_back : means 0xebfffffe ≡ Branch 14 true (negsuc 1)
unfolding means class_of
bl_back = refl

-- MOV Rd,#n by lemma, for any register and byte: as a sum of fields, and as a number with two of them
mov_byte : (rd n : ℕ) → rd < 16 → n < 256 → means (14 * 2 ^ 28 + 1 * 2 ^ 25 + 13 * 2 ^ 21 + 0 * 2 ^ 20 + 0 * 2 ^ 16 + rd * 2 ^ 12 + n) ≡ Data 14 true 13 false 0 rd n
mov_byte rd n register small = means-data_immediate 14 13 0 rd n false (omega arith) (omega arith) (omega arith) register (omega (arith, small))

mov_byte_number : (rd n : ℕ) → rd < 16 → n < 256 → means (0xe3a00000 + 4096 * rd + n) ≡ Data 14 true 13 false 0 rd n
unfolding word_of
mov_byte_number rd n register small =
    means_at _ _ (valid-data_immediate 14 13 0 rd n false (omega arith) (omega arith) (omega arith) register (omega (arith, small))) (omega arith)

-- LDR Rd,[R11,#offset]
load_local : (rd offset : ℕ) → rd < 16 → offset < 4096 → means (14 * 2 ^ 28 + 1 * 2 ^ 26 + 0 * 2 ^ 25 + (1 * 2 ^ 24 + 1 * 2 ^ 23 + 0 * 2 ^ 22 + 0 * 2 ^ 21 + 1 * 2 ^ 20) + 11 * 2 ^ 16 + rd * 2 ^ 12 + offset) ≡ Single 14 false true true false false true 11 rd offset
load_local rd offset register small = means-single_immediate 14 11 rd offset true true false false true (omega arith) (omega arith) register small
