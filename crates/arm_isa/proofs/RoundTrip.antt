-- Words and instructions correspond one to one.
use Rattle.std.proofs.Common.{◌≡◌, ℕ, ◌^◌, ◌<◌, refl, sym, ap, subst, ◌∙◌, arith}
use Rattle.arm_isa.specs.declared.classes.Class.{Class}
use Rattle.arm_isa.specs.declared.instruction.Instr.{Instr}
use Rattle.arm_isa.specs.declared.instruction.Instr.TheVariants.{Data, Mul, Single, Block, Branch, Swi, Undefined}
use Rattle.arm_isa.specs.Table.{class_of}
use Rattle.arm_isa.specs.Words.{read_as, means, word_of, class_named, Fits, IsValid}
use Rattle.arm_isa.proofs.FieldLemmas.{from_bool-lt, transfer_flags-lt, offset_field-lt}
use Rattle.arm_isa.proofs.ClassBits.{has_class_bits}
use Rattle.arm_isa.proofs.Laws.{read_as-word_of, word_of-read_as, fits-read_as, class_named-read_as}

-- a word of a class is read as one
pub means_by_class : (w : ℕ) (c : Class) → class_of w ≡ c → means w ≡ read_as c w
unfolding means
means_by_class w c is = ap (λ k. read_as k w) is

-- the word of a valid instruction means that instruction
pub means-word_of : (i : Instr) → IsValid i → means (word_of i) ≡ i
means-word_of i valid = means_by_class (word_of i) (class_named i) valid.own_class ∙ read_as-word_of i valid.fits

-- the same, for a word that is equal to it
pub means_at : (w : ℕ) (i : Instr) → IsValid i → w ≡ word_of i → means w ≡ i
means_at w i valid is = ap means is ∙ means-word_of i valid

-- the word of what a word means is that word
pub word_of-means : (w : ℕ) → w < 2 ^ 32 → word_of (means w) ≡ w
word_of-means w small = ap word_of (means_by_class w (class_of w) refl) ∙ word_of-read_as (class_of w) w small (has_class_bits w)

-- what a word means is valid
pub valid-means : (w : ℕ) → w < 2 ^ 32 → IsValid (means w)
valid-means w small =
    let is = means_by_class w (class_of w) refl in
    record {
      fits = subst Fits (sym is) (fits-read_as (class_of w) w small);
      own_class = ap class_of (word_of-means w small) ∙ sym (ap class_named is ∙ class_named-read_as (class_of w) w);
    }

-- an instruction has one word
pub one_word : (w : ℕ) (i : Instr) → w < 2 ^ 32 → means w ≡ i → w ≡ word_of i
one_word w i small is = sym (word_of-means w small) ∙ ap word_of is

-- the same, against an equal of its word
pub only_at : (w : ℕ) (i : Instr) → w ≡ word_of i → (other : ℕ) → other < 2 ^ 32 → means other ≡ i → other ≡ w
only_at w i is other small same = one_word other i small same ∙ sym is

-- instructions with one word are one
pub same_word : (i j : Instr) → IsValid i → IsValid j → word_of i ≡ word_of j → i ≡ j
same_word i j first second is = sym (means-word_of i first) ∙ ap means is ∙ means-word_of j second

-- the word of an instruction in range has 32 bits
pub word_of-lt : (i : Instr) → Fits i → word_of i < 2 ^ 32
unfolding word_of
word_of-lt (Data cond imm op s rn rd op2) f = let b1 = from_bool-lt imm in let b2 = from_bool-lt s in omega (arith, f, b1, b2)
word_of-lt (Mul cond acc s rd rn rs rm) f = let b1 = from_bool-lt acc in let b2 = from_bool-lt s in omega (arith, f, b1, b2)
word_of-lt (Single cond reg pre up byte wb load rn rd offset) f =
    let b1 = from_bool-lt reg in
    let flags = transfer_flags-lt pre up byte wb load in
    omega (arith, f, b1, flags)
word_of-lt (Block cond pre up psr wb load rn list) f = let flags = transfer_flags-lt pre up psr wb load in omega (arith, f, flags)
word_of-lt (Branch cond link words) f = let b1 = from_bool-lt link in let low = offset_field-lt words f.1 in omega (arith, f, b1, low)
word_of-lt (Swi cond number) f = omega (arith, f)
word_of-lt (Undefined word) f = f
