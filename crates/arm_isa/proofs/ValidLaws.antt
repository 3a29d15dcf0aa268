-- Which instructions are valid, class by class.
use Rattle.std.proofs.Common.{◌≡◌, ℕ, ◌+◌, ◌*◌, ◌%◌, ◌^◌, ◌<◌, Bool, true, false, ◌==◌, ◌&&◌, ℤ, refl, sym, ap, ◌∙◌, arith, eq-eqb, eqb-true, true≢false}
use Rattle.std.proofs.lemmas.Bool.{and_parts}
use Rattle.arm_isa.specs.declared.instruction.Instr.TheVariants.{Data, Mul, Single, Block, Branch, Swi}
use Rattle.arm_isa.specs.Fields.{bits, bit, has_bits_7_and_4}
use Rattle.arm_isa.specs.Table.{is_multiply}
use Rattle.arm_isa.specs.Words.{word_of, FitsOffset, IsValid}
use Rattle.arm_isa.proofs.FieldLemmas.{from_bool-lt, offset_field-lt, fits_offset-between}
use Rattle.arm_isa.proofs.ClassBits.{class-multiply, class-group_0, class-group_1, class-group_2, class-group_3, class-group_4, class-group_5, class-group_7}

-- data processing with an immediate
pub valid-data_immediate : (cond op rn rd op2 : ℕ) (s : Bool) → cond < 2 ^ 4 → op < 2 ^ 4 → rn < 2 ^ 4 → rd < 2 ^ 4 → op2 < 2 ^ 12 → IsValid (Data cond true op s rn rd op2)
unfolding word_of
valid-data_immediate cond op rn rd op2 s c o n d p =
    let flag = from_bool-lt s in
    record { fits = (c, o, n, d, p); own_class = class-group_1 (word_of (Data cond true op s rn rd op2)) (omega (arith, c, o, n, d, p, flag)) }

-- a word without both bits 7 and 4 is no multiplication
no_multiply : (w : ℕ) → has_bits_7_and_4 w ≡ false → is_multiply w ≡ false
no_multiply w plain = cases (is_multiply w) refl
  where
    cases : (t : Bool) → is_multiply w ≡ t → is_multiply w ≡ false
    cases false is = is
    cases true is =
        let nine = eqb-true (bits w 7 4) 9 (and_parts (bits w 27 22 == 0) (bits w 7 4 == 9) is).1 in
        let seven = eq-eqb (bits w 7 7) 1 (omega (arith, nine)) in
        let four = eq-eqb (bits w 4 4) 1 (omega (arith, nine)) in
        let both : has_bits_7_and_4 w ≡ true = rw (seven, four) refl in
        absurd (true≢false (sym both ∙ plain))

-- data processing with a register operand, which doesn't have both bits 7 and 4
pub valid-data_register : (cond op rn rd op2 : ℕ) (s : Bool) → cond < 2 ^ 4 → op < 2 ^ 4 → rn < 2 ^ 4 → rd < 2 ^ 4 → op2 < 2 ^ 12 → has_bits_7_and_4 op2 ≡ false → IsValid (Data cond false op s rn rd op2)
unfolding word_of
valid-data_register cond op rn rd op2 s c o n d p plain =
    let flag = from_bool-lt s in
    let w : ℕ = word_of (Data cond false op s rn rd op2) in
    let seven : bits w 7 7 ≡ bits op2 7 7 = omega (arith, p) in
    let four : bits w 4 4 ≡ bits op2 4 4 = omega (arith, p) in
    let same : has_bits_7_and_4 w ≡ false = (λ i. (seven i == 1) && (four i == 1)) ∙ plain in
    record {
      fits = (c, o, n, d, p);
      own_class = class-group_0 w (no_multiply w same) (omega (arith, c, o, n, d, p, flag)) ∙ rw same refl;
    }

-- data processing with a register, after the bits of a shift by a number: bit 4 is clear
pub valid-data_by_number : (cond op rn rd shift rm : ℕ) (s : Bool) → cond < 2 ^ 4 → op < 2 ^ 4 → rn < 2 ^ 4 → rd < 2 ^ 4 → shift % 2 ^ 5 ≡ 0 → shift < 2 ^ 12 → rm < 2 ^ 4 → IsValid (Data cond false op s rn rd (shift + rm))
valid-data_by_number cond op rn rd shift rm s c o n d k h m =
    let op2 : ℕ = shift + rm in
    let four : bits op2 4 4 ≡ 0 = omega (arith, k, m) in
    let plain : has_bits_7_and_4 op2 ≡ false = rw four (and_false (bit op2 7)) in
    valid-data_register cond op rn rd op2 s c o n d (omega (arith, k, h, m)) plain
  where
    and_false : (t : Bool) → (t && false) ≡ false
    and_false true = refl
    and_false false = refl

-- data processing with a register, after the bits of a shift by a register: bit 7 is clear
pub valid-data_by_register : (cond op rn rd shift rm : ℕ) (s : Bool) → cond < 2 ^ 4 → op < 2 ^ 4 → rn < 2 ^ 4 → rd < 2 ^ 4 → shift % 2 ^ 4 ≡ 0 → shift % 2 ^ 8 < 2 ^ 7 → shift < 2 ^ 12 → rm < 2 ^ 4 → IsValid (Data cond false op s rn rd (shift + rm))
valid-data_by_register cond op rn rd shift rm s c o n d k b h m =
    let op2 : ℕ = shift + rm in
    let seven : bits op2 7 7 ≡ 0 = omega (arith, k, b, m) in
    let plain : has_bits_7_and_4 op2 ≡ false = rw seven refl in
    valid-data_register cond op rn rd op2 s c o n d (omega (arith, k, h, m)) plain

-- data processing with a register that is shifted by a number of bits
pub valid-data_shift : (cond op rn rd amount kind rm : ℕ) (s : Bool) → cond < 2 ^ 4 → op < 2 ^ 4 → rn < 2 ^ 4 → rd < 2 ^ 4 → amount < 32 → kind < 4 → rm < 2 ^ 4 → IsValid (Data cond false op s rn rd (amount * 2 ^ 7 + kind * 2 ^ 5 + rm))
valid-data_shift cond op rn rd amount kind rm s c o n d a k m =
    valid-data_by_number cond op rn rd (amount * 2 ^ 7 + kind * 2 ^ 5) rm s c o n d (omega arith) (omega (arith, a, k)) m

-- data processing with a register that is shifted by a register
pub valid-data_shift_by_register : (cond op rn rd rs kind rm : ℕ) (s : Bool) → cond < 2 ^ 4 → op < 2 ^ 4 → rn < 2 ^ 4 → rd < 2 ^ 4 → rs < 2 ^ 4 → kind < 4 → rm < 2 ^ 4 → IsValid (Data cond false op s rn rd (rs * 2 ^ 8 + kind * 2 ^ 5 + 1 * 2 ^ 4 + rm))
valid-data_shift_by_register cond op rn rd rs kind rm s c o n d r k m =
    valid-data_by_register cond op rn rd (rs * 2 ^ 8 + kind * 2 ^ 5 + 1 * 2 ^ 4) rm s c o n d (omega arith) (omega (arith, k)) (omega (arith, r, k)) m

-- data processing with a register as it is
pub valid-data_plain : (cond op rn rd rm : ℕ) (s : Bool) → cond < 2 ^ 4 → op < 2 ^ 4 → rn < 2 ^ 4 → rd < 2 ^ 4 → rm < 2 ^ 4 → IsValid (Data cond false op s rn rd rm)
valid-data_plain cond op rn rd rm s c o n d m =
    let seven : bits rm 7 7 ≡ 0 = omega (arith, m) in
    let plain : has_bits_7_and_4 rm ≡ false = rw seven refl in
    valid-data_register cond op rn rd rm s c o n d (omega (arith, m)) plain

-- MUL and MLA
pub valid-multiply : (cond rd rn rs rm : ℕ) (acc s : Bool) → cond < 2 ^ 4 → rd < 2 ^ 4 → rn < 2 ^ 4 → rs < 2 ^ 4 → rm < 2 ^ 4 → IsValid (Mul cond acc s rd rn rs rm)
unfolding word_of
valid-multiply cond rd rn rs rm acc s c d n t m =
    let b1 = from_bool-lt acc in
    let b2 = from_bool-lt s in
    let w : ℕ = word_of (Mul cond acc s rd rn rs rm) in
    let top = eq-eqb (bits w 27 22) 0 (omega (arith, c, d, n, t, m, b1, b2)) in
    let nine = eq-eqb (bits w 7 4) 9 (omega (arith, m)) in
    record { fits = (c, d, n, t, m); own_class = class-multiply w (rw (top, nine) refl) }

-- a transfer with a number for its offset
pub valid-single_immediate : (cond rn rd offset : ℕ) (pre up byte wb load : Bool) → cond < 2 ^ 4 → rn < 2 ^ 4 → rd < 2 ^ 4 → offset < 2 ^ 12 → IsValid (Single cond false pre up byte wb load rn rd offset)
unfolding word_of
valid-single_immediate cond rn rd offset pre up byte wb load c n d o =
    let b2 = from_bool-lt pre in
    let b3 = from_bool-lt up in
    let b4 = from_bool-lt byte in
    let b5 = from_bool-lt wb in
    let b6 = from_bool-lt load in
    record { fits = (c, n, d, o); own_class = class-group_2 (word_of (Single cond false pre up byte wb load rn rd offset)) (omega (arith, c, n, d, o, b2, b3, b4, b5, b6)) }

-- a transfer with a register for its offset, which doesn't have bit 4
pub valid-single_register : (cond rn rd offset : ℕ) (pre up byte wb load : Bool) → cond < 2 ^ 4 → rn < 2 ^ 4 → rd < 2 ^ 4 → offset < 2 ^ 12 → bit offset 4 ≡ false → IsValid (Single cond true pre up byte wb load rn rd offset)
unfolding word_of
valid-single_register cond rn rd offset pre up byte wb load c n d o plain =
    let b2 = from_bool-lt pre in
    let b3 = from_bool-lt up in
    let b4 = from_bool-lt byte in
    let b5 = from_bool-lt wb in
    let b6 = from_bool-lt load in
    let w : ℕ = word_of (Single cond true pre up byte wb load rn rd offset) in
    let four : bits w 4 4 ≡ bits offset 4 4 = omega (arith, o) in
    let same : bit w 4 ≡ false = ap (λ k. k == 1) four ∙ plain in
    record { fits = (c, n, d, o); own_class = class-group_3 w (omega (arith, c, n, d, o, b2, b3, b4, b5, b6)) ∙ rw same refl }

-- a transfer with a register for its offset, after the bits of a shift by a number
pub valid-single_by_number : (cond rn rd shift rm : ℕ) (pre up byte wb load : Bool) → cond < 2 ^ 4 → rn < 2 ^ 4 → rd < 2 ^ 4 → shift % 2 ^ 5 ≡ 0 → shift < 2 ^ 12 → rm < 2 ^ 4 → IsValid (Single cond true pre up byte wb load rn rd (shift + rm))
valid-single_by_number cond rn rd shift rm pre up byte wb load c n d k h m =
    let offset : ℕ = shift + rm in
    let four : bits offset 4 4 ≡ 0 = omega (arith, k, m) in
    let plain : bit offset 4 ≡ false = rw four refl in
    valid-single_register cond rn rd offset pre up byte wb load c n d (omega (arith, k, h, m)) plain

-- a transfer with a register for its offset that is shifted by a number of bits
pub valid-single_shift : (cond rn rd amount kind rm : ℕ) (pre up byte wb load : Bool) → cond < 2 ^ 4 → rn < 2 ^ 4 → rd < 2 ^ 4 → amount < 32 → kind < 4 → rm < 2 ^ 4 → IsValid (Single cond true pre up byte wb load rn rd (amount * 2 ^ 7 + kind * 2 ^ 5 + rm))
valid-single_shift cond rn rd amount kind rm pre up byte wb load c n d a k m =
    valid-single_by_number cond rn rd (amount * 2 ^ 7 + kind * 2 ^ 5) rm pre up byte wb load c n d (omega arith) (omega (arith, a, k)) m

-- a transfer with a register as it is for its offset
pub valid-single_plain : (cond rn rd rm : ℕ) (pre up byte wb load : Bool) → cond < 2 ^ 4 → rn < 2 ^ 4 → rd < 2 ^ 4 → rm < 2 ^ 4 → IsValid (Single cond true pre up byte wb load rn rd rm)
valid-single_plain cond rn rd rm pre up byte wb load c n d m =
    let four : bits rm 4 4 ≡ 0 = omega (arith, m) in
    let plain : bit rm 4 ≡ false = rw four refl in
    valid-single_register cond rn rd rm pre up byte wb load c n d (omega (arith, m)) plain

-- a block transfer, whose list of registers has sixteen bits
pub valid-block : (cond rn list : ℕ) (pre up psr wb load : Bool) → cond < 2 ^ 4 → rn < 2 ^ 4 → list < 2 ^ 16 → IsValid (Block cond pre up psr wb load rn list)
unfolding word_of
valid-block cond rn list pre up psr wb load c n l =
    let b2 = from_bool-lt pre in
    let b3 = from_bool-lt up in
    let b4 = from_bool-lt psr in
    let b5 = from_bool-lt wb in
    let b6 = from_bool-lt load in
    record { fits = (c, n, l); own_class = class-group_4 (word_of (Block cond pre up psr wb load rn list)) (omega (arith, c, n, l, b2, b3, b4, b5, b6)) }

-- a branch, whose distance has 24 bits with its sign
pub valid-branch : (cond : ℕ) (link : Bool) (words : ℤ) → cond < 2 ^ 4 → FitsOffset words → IsValid (Branch cond link words)
unfolding word_of
valid-branch cond link words c w =
    let b1 = from_bool-lt link in
    let low = offset_field-lt words w in
    record { fits = (c, w); own_class = class-group_5 (word_of (Branch cond link words)) (omega (arith, c, b1, low)) }

-- a software interrupt
pub valid-swi : (cond number : ℕ) → cond < 2 ^ 4 → number < 2 ^ 24 → IsValid (Swi cond number)
unfolding word_of
valid-swi cond number c n =
    let w : ℕ = word_of (Swi cond number) in
    let top = eq-eqb (bits w 24 24) 1 (omega (arith, c, n)) in
    record { fits = (c, n); own_class = class-group_7 w (omega (arith, c, n)) ∙ rw top refl }

-- those laws whose premises are bounds of the fields, for a crate that encodes: `using(arm_isa::proofs::ValidLaws::valid_instructions)`
pub ruleset valid_instructions = (valid-data_immediate, valid-data_plain, valid-data_by_number, valid-data_by_register, valid-multiply, valid-single_immediate, valid-single_plain, valid-single_by_number, valid-block, valid-branch, fits_offset-between, valid-swi)
