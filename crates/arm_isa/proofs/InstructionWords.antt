-- For each class: the word of an instruction is this sum of fields, and the word that is this sum is that instruction.
use Rattle.std.proofs.Common.{◌≡◌, ℕ, ◌+◌, ◌*◌, ◌^◌, ◌<◌, Bool, true, false, ℤ, refl}
use Rattle.std.specs.Int.{from_bool}
use Rattle.arm_isa.specs.declared.instruction.Instr.{Instr}
use Rattle.arm_isa.specs.declared.instruction.Instr.TheVariants.{Data, Mul, Single, Block, Branch, Swi}
use Rattle.arm_isa.specs.Fields.{bit, has_bits_7_and_4, offset_field}
use Rattle.arm_isa.specs.Words.{means, word_of, transfer_flags, FitsOffset}
use Rattle.arm_isa.specs.Valid.{is_valid}
use Rattle.arm_isa.proofs.RoundTrip.{means-word_of}
use Rattle.arm_isa.proofs.ValidLaws.{valid-data_immediate, valid-data_register, valid-multiply, valid-single_immediate, valid-single_register, valid-block, valid-branch, valid-swi}
use Rattle.arm_isa.proofs.ValidTest.{valid_by_test}

-- an instruction that passes the test, which computes where its fields are known
pub means_by_test : (i : Instr) → is_valid i ≡ true → means (word_of i) ≡ i
means_by_test i is = means-word_of i (valid_by_test i is)

pub word-data : (cond op rn rd op2 : ℕ) (imm s : Bool) → word_of (Data cond imm op s rn rd op2) ≡ cond * 2 ^ 28 + from_bool imm * 2 ^ 25 + op * 2 ^ 21 + from_bool s * 2 ^ 20 + rn * 2 ^ 16 + rd * 2 ^ 12 + op2
unfolding word_of
word-data cond op rn rd op2 imm s = refl

pub means-data_immediate : (cond op rn rd op2 : ℕ) (s : Bool) → cond < 2 ^ 4 → op < 2 ^ 4 → rn < 2 ^ 4 → rd < 2 ^ 4 → op2 < 2 ^ 12 → means (cond * 2 ^ 28 + 1 * 2 ^ 25 + op * 2 ^ 21 + from_bool s * 2 ^ 20 + rn * 2 ^ 16 + rd * 2 ^ 12 + op2) ≡ Data cond true op s rn rd op2
unfolding word_of
means-data_immediate cond op rn rd op2 s c o n d p = means-word_of _ (valid-data_immediate cond op rn rd op2 s c o n d p)

pub means-data_register : (cond op rn rd op2 : ℕ) (s : Bool) → cond < 2 ^ 4 → op < 2 ^ 4 → rn < 2 ^ 4 → rd < 2 ^ 4 → op2 < 2 ^ 12 → has_bits_7_and_4 op2 ≡ false → means (cond * 2 ^ 28 + 0 * 2 ^ 25 + op * 2 ^ 21 + from_bool s * 2 ^ 20 + rn * 2 ^ 16 + rd * 2 ^ 12 + op2) ≡ Data cond false op s rn rd op2
unfolding word_of
means-data_register cond op rn rd op2 s c o n d p plain = means-word_of _ (valid-data_register cond op rn rd op2 s c o n d p plain)

pub word-multiply : (cond rd rn rs rm : ℕ) (acc s : Bool) → word_of (Mul cond acc s rd rn rs rm) ≡ cond * 2 ^ 28 + from_bool acc * 2 ^ 21 + from_bool s * 2 ^ 20 + rd * 2 ^ 16 + rn * 2 ^ 12 + rs * 2 ^ 8 + 9 * 2 ^ 4 + rm
unfolding word_of
word-multiply cond rd rn rs rm acc s = refl

pub means-multiply : (cond rd rn rs rm : ℕ) (acc s : Bool) → cond < 2 ^ 4 → rd < 2 ^ 4 → rn < 2 ^ 4 → rs < 2 ^ 4 → rm < 2 ^ 4 → means (cond * 2 ^ 28 + from_bool acc * 2 ^ 21 + from_bool s * 2 ^ 20 + rd * 2 ^ 16 + rn * 2 ^ 12 + rs * 2 ^ 8 + 9 * 2 ^ 4 + rm) ≡ Mul cond acc s rd rn rs rm
unfolding word_of
means-multiply cond rd rn rs rm acc s c d n r m = means-word_of _ (valid-multiply cond rd rn rs rm acc s c d n r m)

pub word-single : (cond rn rd offset : ℕ) (reg pre up byte wb load : Bool) → word_of (Single cond reg pre up byte wb load rn rd offset) ≡ cond * 2 ^ 28 + 1 * 2 ^ 26 + from_bool reg * 2 ^ 25 + transfer_flags pre up byte wb load + rn * 2 ^ 16 + rd * 2 ^ 12 + offset
unfolding word_of
word-single cond rn rd offset reg pre up byte wb load = refl

pub means-single_immediate : (cond rn rd offset : ℕ) (pre up byte wb load : Bool) → cond < 2 ^ 4 → rn < 2 ^ 4 → rd < 2 ^ 4 → offset < 2 ^ 12 → means (cond * 2 ^ 28 + 1 * 2 ^ 26 + 0 * 2 ^ 25 + transfer_flags pre up byte wb load + rn * 2 ^ 16 + rd * 2 ^ 12 + offset) ≡ Single cond false pre up byte wb load rn rd offset
unfolding word_of
means-single_immediate cond rn rd offset pre up byte wb load c n d o = means-word_of _ (valid-single_immediate cond rn rd offset pre up byte wb load c n d o)

pub means-single_register : (cond rn rd offset : ℕ) (pre up byte wb load : Bool) → cond < 2 ^ 4 → rn < 2 ^ 4 → rd < 2 ^ 4 → offset < 2 ^ 12 → bit offset 4 ≡ false → means (cond * 2 ^ 28 + 1 * 2 ^ 26 + 1 * 2 ^ 25 + transfer_flags pre up byte wb load + rn * 2 ^ 16 + rd * 2 ^ 12 + offset) ≡ Single cond true pre up byte wb load rn rd offset
unfolding word_of
means-single_register cond rn rd offset pre up byte wb load c n d o plain = means-word_of _ (valid-single_register cond rn rd offset pre up byte wb load c n d o plain)

pub word-block : (cond rn list : ℕ) (pre up psr wb load : Bool) → word_of (Block cond pre up psr wb load rn list) ≡ cond * 2 ^ 28 + 4 * 2 ^ 25 + transfer_flags pre up psr wb load + rn * 2 ^ 16 + list
unfolding word_of
word-block cond rn list pre up psr wb load = refl

pub means-block : (cond rn list : ℕ) (pre up psr wb load : Bool) → cond < 2 ^ 4 → rn < 2 ^ 4 → list < 2 ^ 16 → means (cond * 2 ^ 28 + 4 * 2 ^ 25 + transfer_flags pre up psr wb load + rn * 2 ^ 16 + list) ≡ Block cond pre up psr wb load rn list
unfolding word_of
means-block cond rn list pre up psr wb load c n l = means-word_of _ (valid-block cond rn list pre up psr wb load c n l)

pub word-branch : (cond : ℕ) (link : Bool) (words : ℤ) → word_of (Branch cond link words) ≡ cond * 2 ^ 28 + 5 * 2 ^ 25 + from_bool link * 2 ^ 24 + offset_field words
unfolding word_of
word-branch cond link words = refl

pub means-branch : (cond : ℕ) (link : Bool) (words : ℤ) → cond < 2 ^ 4 → FitsOffset words → means (cond * 2 ^ 28 + 5 * 2 ^ 25 + from_bool link * 2 ^ 24 + offset_field words) ≡ Branch cond link words
unfolding word_of
means-branch cond link words c w = means-word_of _ (valid-branch cond link words c w)

pub word-swi : (cond number : ℕ) → word_of (Swi cond number) ≡ cond * 2 ^ 28 + 15 * 2 ^ 24 + number
unfolding word_of
word-swi cond number = refl

pub means-swi : (cond number : ℕ) → cond < 2 ^ 4 → number < 2 ^ 24 → means (cond * 2 ^ 28 + 15 * 2 ^ 24 + number) ≡ Swi cond number
unfolding word_of
means-swi cond number c n = means-word_of _ (valid-swi cond number c n)
