-- An instruction is read back from its word, class by class, and a word is the sum of the fields that are read from it.
use Rattle.std.proofs.Common.{◌≡◌, ℕ, ◌^◌, ◌<◌, refl, ap, ◌∙◌, arith}
use Rattle.arm_isa.specs.declared.classes.Class.{Class}
use Rattle.arm_isa.specs.declared.classes.Class.TheVariants as classes
use Rattle.arm_isa.specs.declared.instruction.Instr.{Instr}
use Rattle.arm_isa.specs.declared.instruction.Instr.TheVariants.{Data, Mul, Single, Block, Branch, Swi, Undefined}
use Rattle.arm_isa.specs.Fields.{bits, signed_offset, offset_field}
use Rattle.arm_isa.specs.Words.{read_as, word_of, class_named, Fits}
use Rattle.arm_isa.proofs.FieldLemmas.{from_bool-lt, flag_of, from_bool_bit, signed-offset_field, offset_field-signed, offset_field-lt, fits-signed_offset}
use Rattle.arm_isa.proofs.ClassBits.{HasClassBits}

-- an instruction in range is read back from its word
pub read_as-word_of : (i : Instr) → Fits i → read_as (class_named i) (word_of i) ≡ i
unfolding word_of
read_as-word_of (Data cond imm op s rn rd op2) f =
    let b1 = from_bool-lt imm in
    let b2 = from_bool-lt s in
    let w : ℕ = word_of (Data cond imm op s rn rd op2) in
    let e0 : bits w 31 28 ≡ cond = omega (arith, f, b1, b2) in
    let e1 = flag_of imm (bits w 25 25) (omega (arith, f, b1, b2)) in
    let e2 : bits w 24 21 ≡ op = omega (arith, f, b1, b2) in
    let e3 = flag_of s (bits w 20 20) (omega (arith, f, b1, b2)) in
    let e4 : bits w 19 16 ≡ rn = omega (arith, f, b1, b2) in
    let e5 : bits w 15 12 ≡ rd = omega (arith, f, b1, b2) in
    let e6 : bits w 11 0 ≡ op2 = omega (arith, f, b1, b2) in
    (λ j. Data (e0 j) (e1 j) (e2 j) (e3 j) (e4 j) (e5 j) (e6 j))
read_as-word_of (Mul cond acc s rd rn rs rm) f =
    let b1 = from_bool-lt acc in
    let b2 = from_bool-lt s in
    let w : ℕ = word_of (Mul cond acc s rd rn rs rm) in
    let e0 : bits w 31 28 ≡ cond = omega (arith, f, b1, b2) in
    let e1 = flag_of acc (bits w 21 21) (omega (arith, f, b1, b2)) in
    let e2 = flag_of s (bits w 20 20) (omega (arith, f, b1, b2)) in
    let e3 : bits w 19 16 ≡ rd = omega (arith, f, b1, b2) in
    let e4 : bits w 15 12 ≡ rn = omega (arith, f, b1, b2) in
    let e5 : bits w 11 8 ≡ rs = omega (arith, f, b1, b2) in
    let e6 : bits w 3 0 ≡ rm = omega (arith, f, b1, b2) in
    (λ j. Mul (e0 j) (e1 j) (e2 j) (e3 j) (e4 j) (e5 j) (e6 j))
read_as-word_of (Single cond reg pre up byte wb load rn rd offset) f =
    let b1 = from_bool-lt reg in
    let b2 = from_bool-lt pre in
    let b3 = from_bool-lt up in
    let b4 = from_bool-lt byte in
    let b5 = from_bool-lt wb in
    let b6 = from_bool-lt load in
    let w : ℕ = word_of (Single cond reg pre up byte wb load rn rd offset) in
    let e0 : bits w 31 28 ≡ cond = omega (arith, f, b1, b2, b3, b4, b5, b6) in
    let e1 = flag_of reg (bits w 25 25) (omega (arith, f, b1, b2, b3, b4, b5, b6)) in
    let e2 = flag_of pre (bits w 24 24) (omega (arith, f, b1, b2, b3, b4, b5, b6)) in
    let e3 = flag_of up (bits w 23 23) (omega (arith, f, b1, b2, b3, b4, b5, b6)) in
    let e4 = flag_of byte (bits w 22 22) (omega (arith, f, b1, b2, b3, b4, b5, b6)) in
    let e5 = flag_of wb (bits w 21 21) (omega (arith, f, b1, b2, b3, b4, b5, b6)) in
    let e6 = flag_of load (bits w 20 20) (omega (arith, f, b1, b2, b3, b4, b5, b6)) in
    let e7 : bits w 19 16 ≡ rn = omega (arith, f, b1, b2, b3, b4, b5, b6) in
    let e8 : bits w 15 12 ≡ rd = omega (arith, f, b1, b2, b3, b4, b5, b6) in
    let e9 : bits w 11 0 ≡ offset = omega (arith, f, b1, b2, b3, b4, b5, b6) in
    (λ j. Single (e0 j) (e1 j) (e2 j) (e3 j) (e4 j) (e5 j) (e6 j) (e7 j) (e8 j) (e9 j))
read_as-word_of (Block cond pre up psr wb load rn list) f =
    let b1 = from_bool-lt pre in
    let b2 = from_bool-lt up in
    let b3 = from_bool-lt psr in
    let b4 = from_bool-lt wb in
    let b5 = from_bool-lt load in
    let w : ℕ = word_of (Block cond pre up psr wb load rn list) in
    let e0 : bits w 31 28 ≡ cond = omega (arith, f, b1, b2, b3, b4, b5) in
    let e1 = flag_of pre (bits w 24 24) (omega (arith, f, b1, b2, b3, b4, b5)) in
    let e2 = flag_of up (bits w 23 23) (omega (arith, f, b1, b2, b3, b4, b5)) in
    let e3 = flag_of psr (bits w 22 22) (omega (arith, f, b1, b2, b3, b4, b5)) in
    let e4 = flag_of wb (bits w 21 21) (omega (arith, f, b1, b2, b3, b4, b5)) in
    let e5 = flag_of load (bits w 20 20) (omega (arith, f, b1, b2, b3, b4, b5)) in
    let e6 : bits w 19 16 ≡ rn = omega (arith, f, b1, b2, b3, b4, b5) in
    let e7 : bits w 15 0 ≡ list = omega (arith, f, b1, b2, b3, b4, b5) in
    (λ j. Block (e0 j) (e1 j) (e2 j) (e3 j) (e4 j) (e5 j) (e6 j) (e7 j))
read_as-word_of (Branch cond link words) f =
    let b1 = from_bool-lt link in
    let low = offset_field-lt words f.1 in
    let w : ℕ = word_of (Branch cond link words) in
    let e0 : bits w 31 28 ≡ cond = omega (arith, f, b1, low) in
    let e1 = flag_of link (bits w 24 24) (omega (arith, f, b1, low)) in
    let e2 : bits w 23 0 ≡ offset_field words = omega (arith, f, b1, low) in
    let e3 = ap signed_offset e2 ∙ signed-offset_field words f.1 in
    (λ j. Branch (e0 j) (e1 j) (e3 j))
read_as-word_of (Swi cond number) f =
    let w : ℕ = word_of (Swi cond number) in
    let e0 : bits w 31 28 ≡ cond = omega (arith, f) in
    let e1 : bits w 23 0 ≡ number = omega (arith, f) in
    (λ j. Swi (e0 j) (e1 j))
read_as-word_of (Undefined word) f = refl

-- a word is the sum of the fields that are read from it
pub word_of-read_as : (c : Class) (w : ℕ) → w < 2 ^ 32 → HasClassBits c w → word_of (read_as c w) ≡ w
unfolding word_of
word_of-read_as classes.Data w small is =
    let b1 = from_bool_bit (bits w 25 25) (omega arith) in
    let b2 = from_bool_bit (bits w 20 20) (omega arith) in
    omega (arith, b1, b2, is)
word_of-read_as classes.Multiply w small is =
    let b1 = from_bool_bit (bits w 21 21) (omega arith) in
    let b2 = from_bool_bit (bits w 20 20) (omega arith) in
    omega (arith, b1, b2, is)
word_of-read_as classes.Single w small is =
    let b1 = from_bool_bit (bits w 25 25) (omega arith) in
    let b2 = from_bool_bit (bits w 24 24) (omega arith) in
    let b3 = from_bool_bit (bits w 23 23) (omega arith) in
    let b4 = from_bool_bit (bits w 22 22) (omega arith) in
    let b5 = from_bool_bit (bits w 21 21) (omega arith) in
    let b6 = from_bool_bit (bits w 20 20) (omega arith) in
    omega (arith, b1, b2, b3, b4, b5, b6, is)
word_of-read_as classes.Block w small is =
    let b2 = from_bool_bit (bits w 24 24) (omega arith) in
    let b3 = from_bool_bit (bits w 23 23) (omega arith) in
    let b4 = from_bool_bit (bits w 22 22) (omega arith) in
    let b5 = from_bool_bit (bits w 21 21) (omega arith) in
    let b6 = from_bool_bit (bits w 20 20) (omega arith) in
    omega (arith, b2, b3, b4, b5, b6, is)
word_of-read_as classes.Branch w small is =
    let b1 = from_bool_bit (bits w 24 24) (omega arith) in
    let low = offset_field-signed (bits w 23 0) (omega arith) in
    omega (arith, b1, low, is)
word_of-read_as classes.Swi w small is = omega (arith, is)
word_of-read_as classes.Undefined w small is = refl

-- what is read is in range
pub fits-read_as : (c : Class) (w : ℕ) → w < 2 ^ 32 → Fits (read_as c w)
fits-read_as classes.Data w small = (omega arith, omega arith, omega arith, omega arith, omega arith)
fits-read_as classes.Multiply w small = (omega arith, omega arith, omega arith, omega arith, omega arith)
fits-read_as classes.Single w small = (omega arith, omega arith, omega arith, omega arith)
fits-read_as classes.Block w small = (omega arith, omega arith, omega arith)
fits-read_as classes.Branch w small = (omega arith, fits-signed_offset (bits w 23 0) (omega arith))
fits-read_as classes.Swi w small = (omega arith, omega arith)
fits-read_as classes.Undefined w small = small

pub class_named-read_as : (c : Class) (w : ℕ) → class_named (read_as c w) ≡ c
class_named-read_as classes.Data w = refl
class_named-read_as classes.Multiply w = refl
class_named-read_as classes.Single w = refl
class_named-read_as classes.Block w = refl
class_named-read_as classes.Branch w = refl
class_named-read_as classes.Swi w = refl
class_named-read_as classes.Undefined w = refl
