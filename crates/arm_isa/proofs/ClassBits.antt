-- The class of a word by its bits.
use Rattle.std.proofs.Common.{◌≡◌, ◌≢◌, ℕ, zero, suc, ◌/◌, ◌%◌, ◌^◌, ◌<◌, Bool, true, false, ◌==◌, ◌&&◌, if◌then◌else◌, refl, sym, subst, ◌∙◌, arith, eq-eqb, eqb-true}
use Rattle.std.proofs.lemmas.Bool.{and_parts, eqb-false}
use Rattle.std.proofs.lemmas.Bool.Decides.{eqb_tells}
use Rattle.std.proofs.Common.{inl, inr}
use Rattle.arm_isa.specs.declared.classes.Class.{Class}
use Rattle.arm_isa.specs.declared.classes.Class.TheVariants.{Data, Multiply, Single, Block, Branch, Swi, Undefined}
use Rattle.arm_isa.specs.Fields.{bits, bit, has_bits_7_and_4}
use Rattle.arm_isa.specs.Table.{is_multiply, class_of}

pub differ : (n k : ℕ) → n ≢ k → (n == k) ≡ false
differ n k other = elim (eqb_tells n k) [ inl t ↦ absurd (other t.1) | inr f ↦ f.0 ]

pub class-multiply : (w : ℕ) → is_multiply w ≡ true → class_of w ≡ Multiply
unfolding class_of
class-multiply w is = rw is refl

-- bits 27 to 25 are 0
pub class-group_0 : (w : ℕ) → is_multiply w ≡ false → bits w 27 25 ≡ 0 → class_of w ≡ (if has_bits_7_and_4 w then Undefined else Data)
unfolding class_of
class-group_0 w other is =
    let group = eq-eqb (bits w 27 25) 0 is in
    let top = eq-eqb (bits w 27 26) 0 (omega (arith, is)) in
    rw (other, group, top) refl

multiply_bits : (w : ℕ) → is_multiply w ≡ true → (bits w 27 22 ≡ 0) × (bits w 7 4 ≡ 9)
multiply_bits w is =
    let both = and_parts (bits w 27 22 == 0) (bits w 7 4 == 9) is in
    (eqb-true (bits w 27 22) 0 both.0, eqb-true (bits w 7 4) 9 both.1)

-- without bits 7 and 4 such a word is no multiplication
pub class-group_0_plain : (w : ℕ) → bits w 27 25 ≡ 0 → has_bits_7_and_4 w ≡ false → class_of w ≡ Data
class-group_0_plain w is plain = cases (is_multiply w) refl
  where
    cases : (t : Bool) → is_multiply w ≡ t → class_of w ≡ Data
    cases true e =
        let nine = (multiply_bits w e).1 in
        let seven : bit w 7 ≡ true = eq-eqb (w / 2 ^ 7 % 2) 1 (omega (arith, nine)) in
        let four : bit w 4 ≡ true = eq-eqb (w / 2 ^ 4 % 2) 1 (omega (arith, nine)) in
        let both : has_bits_7_and_4 w ≡ true = rw (seven, four) refl in
        cc
    cases false e = class-group_0 w e is ∙ rw plain refl

pub class-group_0_set : (w : ℕ) → bits w 27 25 ≡ 0 → has_bits_7_and_4 w ≡ true → is_multiply w ≡ false → class_of w ≡ Undefined
class-group_0_set w is set other = class-group_0 w other is ∙ rw set refl

pub class-group_1 : (w : ℕ) → bits w 27 25 ≡ 1 → class_of w ≡ Data
unfolding class_of
class-group_1 w is =
    let other = differ (bits w 27 22) 0 (λ e. omega (arith, is, e)) in
    let group = differ (bits w 27 25) 0 (λ e. omega (arith, is, e)) in
    let top = eq-eqb (bits w 27 26) 0 (omega (arith, is)) in
    rw (other, group, top) refl

-- not a multiplication, nor data
abbrev pub later : ℕ → Class
later w =
    if (bits w 27 25 == 3) && bit w 4 then Undefined
    else if bits w 27 26 == 1 then Single
    else if bits w 27 25 == 4 then Block
    else if bits w 27 25 == 5 then Branch
    else if bits w 27 24 == 15 then Swi
    else Undefined

class-later : (w : ℕ) → 1 < bits w 27 25 → class_of w ≡ later w
unfolding class_of
class-later w is =
    let other = differ (bits w 27 22) 0 (λ e. omega (arith, is, e)) in
    let group = differ (bits w 27 25) 0 (λ e. omega (arith, is, e)) in
    let top = differ (bits w 27 26) 0 (λ e. omega (arith, is, e)) in
    rw (other, group, top) refl

pub class-group_2 : (w : ℕ) → bits w 27 25 ≡ 2 → class_of w ≡ Single
class-group_2 w is =
    let top = eq-eqb (bits w 27 26) 1 (omega (arith, is)) in
    class-later w (omega (arith, is)) ∙ rw (is, top) refl

pub class-group_3 : (w : ℕ) → bits w 27 25 ≡ 3 → class_of w ≡ (if bit w 4 then Undefined else Single)
class-group_3 w is =
    let top = eq-eqb (bits w 27 26) 1 (omega (arith, is)) in
    class-later w (omega (arith, is)) ∙ rw (is, top) refl

-- bits 27 and 26 are 01
pub class-single : (w : ℕ) → bits w 27 26 ≡ 1 → class_of w ≡ (if bit w 25 && bit w 4 then Undefined else Single)
class-single w is = cases (bit w 25) refl
  where
    cases : (t : Bool) → bit w 25 ≡ t → class_of w ≡ (if bit w 25 && bit w 4 then Undefined else Single)
    cases true e =
        let one = eqb-true (w / 2 ^ 25 % 2) 1 e in
        class-group_3 w (omega (arith, is, one)) ∙ rw e refl
    cases false e =
        let zero = eqb-false (w / 2 ^ 25 % 2) 1 e in
        class-group_2 w (omega (arith, is, zero)) ∙ rw e refl

pub class-group_4 : (w : ℕ) → bits w 27 25 ≡ 4 → class_of w ≡ Block
class-group_4 w is =
    let top = differ (bits w 27 26) 1 (λ e. omega (arith, is, e)) in
    class-later w (omega (arith, is)) ∙ rw (is, top) refl

pub class-group_5 : (w : ℕ) → bits w 27 25 ≡ 5 → class_of w ≡ Branch
class-group_5 w is =
    let top = differ (bits w 27 26) 1 (λ e. omega (arith, is, e)) in
    class-later w (omega (arith, is)) ∙ rw (is, top) refl

pub class-group_6 : (w : ℕ) → bits w 27 25 ≡ 6 → class_of w ≡ Undefined
class-group_6 w is =
    let top = differ (bits w 27 26) 1 (λ e. omega (arith, is, e)) in
    let four = differ (bits w 27 24) 15 (λ e. omega (arith, is, e)) in
    class-later w (omega (arith, is)) ∙ rw (is, top, four) refl

same_four : (w : ℕ) → bits w 27 25 ≡ 7 → (bits w 27 24 == 15) ≡ bit w 24
same_four w is = elim (eqb_tells (bits w 24 24) 1) [
  | inl t ↦ (let one = t.1 in eq-eqb (bits w 27 24) 15 (omega (arith, is, one))) ∙ sym t.0
  | inr f ↦ (let zero = f.1 in differ (bits w 27 24) 15 (λ e. omega (arith, is, zero, e))) ∙ sym f.0
]

pub class-group_7 : (w : ℕ) → bits w 27 25 ≡ 7 → class_of w ≡ (if bit w 24 then Swi else Undefined)
class-group_7 w is =
    let top = differ (bits w 27 26) 1 (λ e. omega (arith, is, e)) in
    let four = same_four w is in
    class-later w (omega (arith, is)) ∙ rw (is, top, four) refl

-- the bits that the words of a class share
abbrev pub HasClassBits : Class → ℕ → Type 0
HasClassBits Data w = bits w 27 26 ≡ 0
HasClassBits Multiply w = (bits w 27 22 ≡ 0) × (bits w 7 4 ≡ 9)
HasClassBits Single w = bits w 27 26 ≡ 1
HasClassBits Block w = bits w 27 25 ≡ 4
HasClassBits Branch w = bits w 27 25 ≡ 5
HasClassBits Swi w = bits w 27 24 ≡ 15
HasClassBits Undefined w = Unit {0}

-- bit n is 1
one_bit : (n : ℕ) → (n == 1) ≡ true → n ≡ 1
one_bit n is = eqb-true n 1 is

choose : (P : Class → Type 0) (t : Bool) (a b : Class) → (t ≡ true → P a) → (t ≡ false → P b) → P (if t then a else b)
choose P true a b left right = left refl
choose P false a b left right = right refl

-- the words of a class have its bits
pub has_class_bits : (w : ℕ) → HasClassBits (class_of w) w
has_class_bits w = multiply (is_multiply w) refl
  where
    P : Class → Type 0
    P c = HasClassBits c w

    by_group : is_multiply w ≡ false → (g : ℕ) → bits w 27 25 ≡ g → P (class_of w)
    by_group other zero is = subst P (sym (class-group_0 w other is)) (choose P (has_bits_7_and_4 w) Undefined Data (λ t. tt) (λ t. omega (arith, is)))
    by_group other (suc zero) is = subst P (sym (class-group_1 w is)) (omega (arith, is))
    by_group other (suc (suc zero)) is = subst P (sym (class-group_2 w is)) (omega (arith, is))
    by_group other (suc (suc (suc zero))) is = subst P (sym (class-group_3 w is)) (choose P (bit w 4) Undefined Single (λ t. tt) (λ t. omega (arith, is)))
    by_group other (suc (suc (suc (suc zero)))) is = subst P (sym (class-group_4 w is)) is
    by_group other (suc (suc (suc (suc (suc zero))))) is = subst P (sym (class-group_5 w is)) is
    by_group other (suc (suc (suc (suc (suc (suc zero)))))) is = subst P (sym (class-group_6 w is)) tt
    by_group other (suc (suc (suc (suc (suc (suc (suc zero))))))) is = subst P (sym (class-group_7 w is)) (choose P (bit w 24) Swi Undefined (λ t. (let top = one_bit (bits w 24 24) t in omega (arith, is, top))) (λ t. tt))
    by_group other (suc (suc (suc (suc (suc (suc (suc (suc g)))))))) is = absurd (omega (arith, is))

    multiply : (t : Bool) → is_multiply w ≡ t → P (class_of w)
    multiply true is = subst P (sym (class-multiply w is)) (multiply_bits w is)
    multiply false is = by_group is (bits w 27 25) refl
