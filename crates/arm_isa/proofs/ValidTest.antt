-- The test of an instruction's fields says whether it is valid.
use Rattle.std.proofs.Common.{◌≡◌, ◌↔◌, ℕ, ◌^◌, ◌<◌, Bool, true, false, ◌==◌, ◌&&◌, not, nat_lt, ℤ, pos, negsuc, refl, sym, ap, ◌∙◌, arith, lt-ltb, ltb-true, true≢false}
use Rattle.std.proofs.lemmas.Bool.{and_parts}
use Rattle.arm_isa.specs.declared.classes.Class.{Class}
use Rattle.arm_isa.specs.declared.classes.Class.TheVariants as classes
use Rattle.arm_isa.specs.declared.instruction.Instr.{Instr}
use Rattle.arm_isa.specs.declared.instruction.Instr.TheVariants.{Data, Mul, Single, Block, Branch, Swi, Undefined}
use Rattle.arm_isa.specs.Fields.{bits, bit, has_bits_7_and_4}
use Rattle.arm_isa.specs.Table.{is_multiply, class_of}
use Rattle.arm_isa.specs.Words.{word_of, FitsOffset, IsValid}
use Rattle.arm_isa.specs.Valid.{are_nibbles, is_distance, is_undefined, is_valid}
use Rattle.arm_isa.proofs.FieldLemmas.{from_bool-lt}
use Rattle.arm_isa.proofs.ClassBits.{class-multiply, class-group_0, class-group_3}
use Rattle.arm_isa.proofs.ValidLaws.{valid-data_immediate, valid-data_register, valid-multiply, valid-single_immediate, valid-single_register, valid-block, valid-branch, valid-swi}

nibbles : (a b : ℕ) → are_nibbles a b ≡ true → (a < 2 ^ 4) × (b < 2 ^ 4)
nibbles a b is =
    let both = and_parts (nat_lt a (2 ^ 4)) (nat_lt b (2 ^ 4)) is in
    (ltb-true a (2 ^ 4) both.0, ltb-true b (2 ^ 4) both.1)

both_true : (a b : Bool) → a ≡ true → b ≡ true → (a && b) ≡ true
both_true a b left right = rw (left, right) refl

nibbles_true : (a b : ℕ) → a < 2 ^ 4 → b < 2 ^ 4 → are_nibbles a b ≡ true
nibbles_true a b p q = both_true _ _ (lt-ltb a (2 ^ 4) p) (lt-ltb b (2 ^ 4) q)

not_true : (t : Bool) → not t ≡ true → t ≡ false
not_true true is = absurd (true≢false (sym is))
not_true false is = refl

distance_fits : (z : ℤ) → is_distance z ≡ true → FitsOffset z
distance_fits (pos n) is = ltb-true n (2 ^ 23) is
distance_fits (negsuc n) is = ltb-true n (2 ^ 23) is

fits_distance : (z : ℤ) → FitsOffset z → is_distance z ≡ true
fits_distance (pos n) is = lt-ltb n (2 ^ 23) is
fits_distance (negsuc n) is = lt-ltb n (2 ^ 23) is

undefined : (c : Class) → is_undefined c ≡ true → c ≡ classes.Undefined
undefined classes.Data is = absurd (true≢false (sym is))
undefined classes.Multiply is = absurd (true≢false (sym is))
undefined classes.Single is = absurd (true≢false (sym is))
undefined classes.Block is = absurd (true≢false (sym is))
undefined classes.Branch is = absurd (true≢false (sym is))
undefined classes.Swi is = absurd (true≢false (sym is))
undefined classes.Undefined is = refl

-- an instruction that passes the test is valid
pub valid_by_test : (i : Instr) → is_valid i ≡ true → IsValid i
unfolding word_of
valid_by_test (Data cond true op s rn rd op2) is =
    let a = and_parts (are_nibbles cond op) _ is in
    let b = and_parts (are_nibbles rn rd) _ a.1 in
    let c = and_parts (nat_lt op2 (2 ^ 12)) _ b.1 in
    let x = nibbles cond op a.0 in
    let y = nibbles rn rd b.0 in
    valid-data_immediate cond op rn rd op2 s x.0 x.1 y.0 y.1 (ltb-true op2 (2 ^ 12) c.0)
valid_by_test (Data cond false op s rn rd op2) is =
    let a = and_parts (are_nibbles cond op) _ is in
    let b = and_parts (are_nibbles rn rd) _ a.1 in
    let c = and_parts (nat_lt op2 (2 ^ 12)) _ b.1 in
    let x = nibbles cond op a.0 in
    let y = nibbles rn rd b.0 in
    valid-data_register cond op rn rd op2 s x.0 x.1 y.0 y.1 (ltb-true op2 (2 ^ 12) c.0) (not_true _ c.1)
valid_by_test (Mul cond acc s rd rn rs rm) is =
    let a = and_parts (nat_lt cond (2 ^ 4)) _ is in
    let b = and_parts (are_nibbles rd rn) _ a.1 in
    let x = nibbles rd rn b.0 in
    let y = nibbles rs rm b.1 in
    valid-multiply cond rd rn rs rm acc s (ltb-true cond (2 ^ 4) a.0) x.0 x.1 y.0 y.1
valid_by_test (Single cond true pre up byte wb load rn rd offset) is =
    let a = and_parts (nat_lt cond (2 ^ 4)) _ is in
    let b = and_parts (are_nibbles rn rd) _ a.1 in
    let c = and_parts (nat_lt offset (2 ^ 12)) _ b.1 in
    let x = nibbles rn rd b.0 in
    valid-single_register cond rn rd offset pre up byte wb load (ltb-true cond (2 ^ 4) a.0) x.0 x.1 (ltb-true offset (2 ^ 12) c.0) (not_true _ c.1)
valid_by_test (Single cond false pre up byte wb load rn rd offset) is =
    let a = and_parts (nat_lt cond (2 ^ 4)) _ is in
    let b = and_parts (are_nibbles rn rd) _ a.1 in
    let c = and_parts (nat_lt offset (2 ^ 12)) _ b.1 in
    let x = nibbles rn rd b.0 in
    valid-single_immediate cond rn rd offset pre up byte wb load (ltb-true cond (2 ^ 4) a.0) x.0 x.1 (ltb-true offset (2 ^ 12) c.0)
valid_by_test (Block cond pre up psr wb load rn list) is =
    let a = and_parts (are_nibbles cond rn) _ is in
    let x = nibbles cond rn a.0 in
    valid-block cond rn list pre up psr wb load x.0 x.1 (ltb-true list (2 ^ 16) a.1)
valid_by_test (Branch cond link words) is =
    let a = and_parts (nat_lt cond (2 ^ 4)) _ is in
    valid-branch cond link words (ltb-true cond (2 ^ 4) a.0) (distance_fits words a.1)
valid_by_test (Swi cond number) is =
    let a = and_parts (nat_lt cond (2 ^ 4)) _ is in
    valid-swi cond number (ltb-true cond (2 ^ 4) a.0) (ltb-true number (2 ^ 24) a.1)
valid_by_test (Undefined word) is =
    let a = and_parts (nat_lt word (2 ^ 32)) _ is in
    record { fits = ltb-true word (2 ^ 32) a.0; own_class = undefined (class_of word) a.1 }

-- data with a register operand doesn't have both bits 7 and 4 of it
plain_operand : (cond op rn rd op2 : ℕ) (s : Bool) → IsValid (Data cond false op s rn rd op2) → has_bits_7_and_4 op2 ≡ false
unfolding word_of
plain_operand cond op rn rd op2 s valid = cases (has_bits_7_and_4 op2) refl
  where
    w : ℕ
    w = word_of (Data cond false op s rn rd op2)

    same : has_bits_7_and_4 w ≡ (has_bits_7_and_4 op2)
    same =
        let seven : bits w 7 7 ≡ bits op2 7 7 = omega arith in
        let four : bits w 4 4 ≡ bits op2 4 4 = omega arith in
        (λ i. (seven i == 1) && (four i == 1))

    multiply : (t : Bool) → is_multiply w ≡ t → has_bits_7_and_4 w ≡ true → ⊥
    multiply true is both = let e = sym (class-multiply w is) ∙ valid.own_class in cc
    multiply false is both =
        let flag = from_bool-lt s in
        let e = sym (class-group_0 w is (omega (arith, valid.fits, flag))) ∙ valid.own_class in
        let u : classes.Undefined ≡ classes.Data = sym (rw both refl) ∙ e in
        cc

    cases : (t : Bool) → has_bits_7_and_4 op2 ≡ t → has_bits_7_and_4 op2 ≡ false
    cases false is = is
    cases true is = absurd (multiply (is_multiply w) refl (same ∙ is))

-- a transfer with a register offset doesn't have bit 4 of it
plain_offset : (cond rn rd offset : ℕ) (pre up byte wb load : Bool) → IsValid (Single cond true pre up byte wb load rn rd offset) → bit offset 4 ≡ false
unfolding word_of
plain_offset cond rn rd offset pre up byte wb load valid = cases (bit offset 4) refl
  where
    w : ℕ
    w = word_of (Single cond true pre up byte wb load rn rd offset)

    same : bit w 4 ≡ bit offset 4
    same = let four : bits w 4 4 ≡ bits offset 4 4 = omega arith in ap (λ k. k == 1) four

    cases : (t : Bool) → bit offset 4 ≡ t → bit offset 4 ≡ false
    cases false is = is
    cases true is =
        let b2 = from_bool-lt pre in
        let b3 = from_bool-lt up in
        let b4 = from_bool-lt byte in
        let b5 = from_bool-lt wb in
        let b6 = from_bool-lt load in
        let e = sym (class-group_3 w (omega (arith, valid.fits, b2, b3, b4, b5, b6))) ∙ valid.own_class in
        let set : bit w 4 ≡ true = same ∙ is in
        let u : classes.Undefined ≡ classes.Single = sym (rw set refl) ∙ e in
        cc

-- a valid instruction passes the test
pub test_of_valid : (i : Instr) → IsValid i → is_valid i ≡ true
unfolding word_of
test_of_valid (Data cond true op s rn rd op2) valid =
    let f = valid.fits in
    both_true _ _ (nibbles_true cond op f.0 f.1) (both_true _ _ (nibbles_true rn rd f.2 f.3) (both_true _ _ (lt-ltb op2 (2 ^ 12) f.4) refl))
test_of_valid (Data cond false op s rn rd op2) valid =
    let f = valid.fits in
    let plain = plain_operand cond op rn rd op2 s valid in
    both_true _ _ (nibbles_true cond op f.0 f.1) (both_true _ _ (nibbles_true rn rd f.2 f.3) (both_true _ _ (lt-ltb op2 (2 ^ 12) f.4) (ap not plain)))
test_of_valid (Mul cond acc s rd rn rs rm) valid =
    let f = valid.fits in
    both_true _ _ (lt-ltb cond (2 ^ 4) f.0) (both_true _ _ (nibbles_true rd rn f.1 f.2) (nibbles_true rs rm f.3 f.4))
test_of_valid (Single cond true pre up byte wb load rn rd offset) valid =
    let f = valid.fits in
    let plain = plain_offset cond rn rd offset pre up byte wb load valid in
    both_true _ _ (lt-ltb cond (2 ^ 4) f.0) (both_true _ _ (nibbles_true rn rd f.1 f.2) (both_true _ _ (lt-ltb offset (2 ^ 12) f.3) (ap not plain)))
test_of_valid (Single cond false pre up byte wb load rn rd offset) valid =
    let f = valid.fits in
    both_true _ _ (lt-ltb cond (2 ^ 4) f.0) (both_true _ _ (nibbles_true rn rd f.1 f.2) (both_true _ _ (lt-ltb offset (2 ^ 12) f.3) refl))
test_of_valid (Block cond pre up psr wb load rn list) valid =
    let f = valid.fits in
    both_true _ _ (nibbles_true cond rn f.0 f.1) (lt-ltb list (2 ^ 16) f.2)
test_of_valid (Branch cond link words) valid =
    let f = valid.fits in
    both_true _ _ (lt-ltb cond (2 ^ 4) f.0) (fits_distance words f.1)
test_of_valid (Swi cond number) valid =
    let f = valid.fits in
    both_true _ _ (lt-ltb cond (2 ^ 4) f.0) (lt-ltb number (2 ^ 24) f.1)
test_of_valid (Undefined word) valid =
    both_true _ _ (lt-ltb word (2 ^ 32) valid.fits) (ap is_undefined valid.own_class)

pub valid_iff : (i : Instr) (t : Bool) → t ≡ is_valid i → (t ≡ true) ↔ IsValid i
valid_iff i t is = (λ e. valid_by_test i (sym is ∙ e), λ v. is ∙ test_of_valid i v)
