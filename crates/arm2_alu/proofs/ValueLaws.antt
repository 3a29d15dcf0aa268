-- What operations and operands give, in plain numbers.
use Rattle.std.proofs.Common.{◌≡◌, ℕ, suc, ◌+◌, ◌-◌, ◌*◌, ◌/◌, ◌%◌, ◌^◌, ◌<◌, ◌≤◌, ◌==◌, ◌||◌, not, nat_le, nat_lt, Bool, true, false, if◌then◌else◌, bit_and, bit_or, bit_xor, ℤ, pos, negsuc, ◌+ℤ◌, ◌-ℤ◌, refl, ap, ◌∙◌, arith, lt-ltb, le-ltb, ltb-true, ltb-false}
use Rattle.std.proofs.lemmas.Bool.{ne_eqb}
use Rattle.std.proofs.lemmas.Int.{ints}
use Rattle.std.proofs.lemmas.Bool.Decides.{nat_tests}
use Rattle.std.proofs.lemmas.Nat.{and_le_l, or_lt, xor_lt}
use Rattle.std.specs.Int.{w32, cast_signed, from_bool}
use Rattle.arm_isa.specs.Fields.{bits, bit}
use Rattle.arm_isa.specs.Immediates.{rotated, turns_of, immediate_value}
use Rattle.arm_isa.proofs.ImmediateLaws.{immediate_value-byte}
use Rattle.arm_isa.proofs.ShiftFields.{shift-fields, register_shift-fields}
use Rattle.arm2_alu.specs.declared.operations.Computed.{Computed}
use Rattle.arm_isa.specs.Numbers.{AND, EOR, SUB, RSB, ADD, ADC, SBC, RSC, TST, TEQ, CMP, CMN, ORR, MOV, BIC, MVN, R15, ASR}
use Rattle.arm2_alu.specs.declared.regs.Regs.{Regs}
use Rattle.arm2_alu.specs.declared.shifts.Shifted.{Shifted}
use Rattle.arm2_alu.specs.Conditions.{carry}
use Rattle.arm2_alu.specs.Operands.{by_register, first_operand, second_operand, whole_operand, immediate_operand, amount_operand, register_operand}
use Rattle.arm2_alu.specs.Operations.{is_signed_word, added, subtracted, logical, computed}
use Rattle.arm2_alu.specs.Registers.{register, pc_ahead, r15}
use Rattle.arm2_alu.specs.Shifts.{complement, shifted_by_field, shifted}
use Rattle.arm2_alu.proofs.ShiftValues.{shifted-lsl, shifted-lsr, shifted-ror, field-amount, field-lsl_0}

-- a difference modulo 2^32
abbrev pub minus : ℕ → ℕ → ℕ
minus a b = (a + (2 ^ 32 - b)) % 2 ^ 32

-- the value of an operation, of a first operand, a second one and C
abbrev pub value_of : ℕ → ℕ → ℕ → Bool → ℕ
value_of op a b c =
    if (op == SUB) || (op == CMP) then minus a b
    else if op == RSB then minus b a
    else if (op == ADD) || (op == CMN) then (a + b) % 2 ^ 32
    else if op == ADC then (a + b + from_bool c) % 2 ^ 32
    else if op == SBC then (a + (2 ^ 32 - 1 - b) + from_bool c) % 2 ^ 32
    else if op == RSC then (b + (2 ^ 32 - 1 - a) + from_bool c) % 2 ^ 32
    else logical op a b

sum_value : (a b : ℕ) (c : Bool) → (added a b c).value ≡ (a + b + from_bool c) % 2 ^ 32
unfolding added
sum_value a b c = refl

plain_sum : (a b : ℕ) → (added a b false).value ≡ (a + b) % 2 ^ 32
unfolding added
plain_sum a b = omega arith

difference_value : (a b : ℕ) → b < 2 ^ 32 → (subtracted a b true).value ≡ minus a b
unfolding added
difference_value a b small = omega (arith, small)

by_choice : (t1 t2 t3 t4 t5 t6 : Bool) (x1 x2 x3 x4 x5 x6 x7 : Computed) (y1 y2 y3 y4 y5 y6 y7 : ℕ)
    → x1.value ≡ y1 → x2.value ≡ y2 → x3.value ≡ y3 → x4.value ≡ y4 → x5.value ≡ y5 → x6.value ≡ y6 → x7.value ≡ y7
    → (if t1 then x1 else if t2 then x2 else if t3 then x3 else if t4 then x4 else if t5 then x5 else if t6 then x6 else x7).value
    ≡ (if t1 then y1 else if t2 then y2 else if t3 then y3 else if t4 then y4 else if t5 then y5 else if t6 then y6 else y7)
by_choice true t2 t3 t4 t5 t6 x1 x2 x3 x4 x5 x6 x7 y1 y2 y3 y4 y5 y6 y7 e1 e2 e3 e4 e5 e6 e7 = e1
by_choice false true t3 t4 t5 t6 x1 x2 x3 x4 x5 x6 x7 y1 y2 y3 y4 y5 y6 y7 e1 e2 e3 e4 e5 e6 e7 = e2
by_choice false false true t4 t5 t6 x1 x2 x3 x4 x5 x6 x7 y1 y2 y3 y4 y5 y6 y7 e1 e2 e3 e4 e5 e6 e7 = e3
by_choice false false false true t5 t6 x1 x2 x3 x4 x5 x6 x7 y1 y2 y3 y4 y5 y6 y7 e1 e2 e3 e4 e5 e6 e7 = e4
by_choice false false false false true t6 x1 x2 x3 x4 x5 x6 x7 y1 y2 y3 y4 y5 y6 y7 e1 e2 e3 e4 e5 e6 e7 = e5
by_choice false false false false false true x1 x2 x3 x4 x5 x6 x7 y1 y2 y3 y4 y5 y6 y7 e1 e2 e3 e4 e5 e6 e7 = e6
by_choice false false false false false false x1 x2 x3 x4 x5 x6 x7 y1 y2 y3 y4 y5 y6 y7 e1 e2 e3 e4 e5 e6 e7 = e7

pub value-computed : (op a : ℕ) (b : Shifted) (c v : Bool) → a < 2 ^ 32 → b.value < 2 ^ 32 → (computed op a b c v).value ≡ value_of op a b.value c
unfolding computed
value-computed op a b c v small below =
    by_choice ((op == SUB) || (op == CMP)) (op == RSB) ((op == ADD) || (op == CMN)) (op == ADC) (op == SBC) (op == RSC)
    _ _ _ _ _ _ _ _ _ _ _ _ _ _
    (difference_value a b.value below) (difference_value b.value a small) (plain_sum a b.value)
    (sum_value a b.value c) (sum_value a (complement b.value) c) (sum_value b.value (complement a) c) refl

-- the operations without a sum
pub value-and : (a b : ℕ) (c : Bool) → value_of AND a b c ≡ bit_and a b
unfolding logical
value-and a b c = refl

pub value-eor : (a b : ℕ) (c : Bool) → value_of EOR a b c ≡ bit_xor a b
unfolding logical
value-eor a b c = refl

pub value-orr : (a b : ℕ) (c : Bool) → value_of ORR a b c ≡ bit_or a b
unfolding logical
value-orr a b c = refl

pub value-mov : (a b : ℕ) (c : Bool) → value_of MOV a b c ≡ b
unfolding logical
value-mov a b c = refl

pub value-bic : (a b : ℕ) (c : Bool) → value_of BIC a b c ≡ bit_and a (complement b)
unfolding logical
value-bic a b c = refl

pub value-mvn : (a b : ℕ) (c : Bool) → value_of MVN a b c ≡ complement b
unfolding logical
value-mvn a b c = refl

-- an operation on words gives a word
either_lt : (t : Bool) (x y : ℕ) → x < 2 ^ 32 → y < 2 ^ 32 → (if t then x else y) < 2 ^ 32
either_lt true x y p q = p
either_lt false x y p q = q

logical_lt : (op a b : ℕ) → a < 2 ^ 32 → b < 2 ^ 32 → logical op a b < 2 ^ 32
unfolding logical
logical_lt op a b small below =
    let other : complement b < 2 ^ 32 = omega arith in
    either_lt ((op == AND) || (op == TST)) _ _ (let e = and_le_l a b in omega (arith, e, small))
    (either_lt ((op == EOR) || (op == TEQ)) _ _ (xor_lt 32 a b small below)
    (either_lt (op == ORR) _ _ (or_lt 32 a b small below)
    (either_lt (op == MOV) _ _ below (either_lt (op == BIC) _ _ (let e = and_le_l a (complement b) in omega (arith, e, small)) other))))

pub value-lt : (op a b : ℕ) (c : Bool) → a < 2 ^ 32 → b < 2 ^ 32 → value_of op a b c < 2 ^ 32
value-lt op a b c small below =
    either_lt ((op == SUB) || (op == CMP)) _ _ (omega arith)
    (either_lt (op == RSB) _ _ (omega arith)
    (either_lt ((op == ADD) || (op == CMN)) _ _ (omega arith)
    (either_lt (op == ADC) _ _ (omega arith)
    (either_lt (op == SBC) _ _ (omega arith)
    (either_lt (op == RSC) _ _ (omega arith) (logical_lt op a b small below))))))

-- CMP and SUB: C is set where nothing is borrowed, V where the signed difference is out of range
abbrev pub compared : ℕ → ℕ → Computed
compared a b = record {
  value = minus a b;
  carry = nat_le b a;
  overflow = not (is_signed_word (cast_signed w32 a -ℤ cast_signed w32 b));
}

borrow : (a b : ℕ) → b < 2 ^ 32 → nat_le (2 ^ 32) (a + complement b + from_bool true) ≡ nat_le b a
borrow a b small = grind (arith, nat_tests)

-- a word as a signed number
pub signed-low : (n : ℕ) → n < 2 ^ 31 → cast_signed w32 n ≡ pos n
signed-low n low = rw (lt-ltb n (2 ^ 31) low) refl

pub signed-high : (n : ℕ) → 2 ^ 31 ≤ n → cast_signed w32 n ≡ negsuc (2 ^ 32 - suc n)
signed-high n high = rw (le-ltb n (2 ^ 31) high) refl

signed_complement : (n : ℕ) → n < 2 ^ 32 → cast_signed w32 (complement n) ≡ negsuc 0 -ℤ cast_signed w32 n
signed_complement n small = cases (nat_lt n (2 ^ 31)) refl
  where
    cases : (t : Bool) → nat_lt n (2 ^ 31) ≡ t → cast_signed w32 (complement n) ≡ negsuc 0 -ℤ cast_signed w32 n
    cases true e =
        let low = ltb-true n (2 ^ 31) e in
        let is = signed-low n low in
        let other = signed-high (complement n) (omega (arith, low)) in
        omega (arith, ints, is, other, small)
    cases false e =
        let high = ltb-false n (2 ^ 31) e in
        let is = signed-high n high in
        let other = signed-low (complement n) (omega (arith, high, small)) in
        omega (arith, ints, is, other, small)

signed_difference : (a b : ℕ) → b < 2 ^ 32 → cast_signed w32 a +ℤ cast_signed w32 (complement b) +ℤ pos (from_bool true) ≡ cast_signed w32 a -ℤ cast_signed w32 b
signed_difference a b below = ap (λ z. cast_signed w32 a +ℤ z +ℤ pos 1) (signed_complement b below) ∙ difference (cast_signed w32 a) (cast_signed w32 b)
  where
    difference : (x y : ℤ) → x +ℤ (negsuc 0 -ℤ y) +ℤ pos 1 ≡ x -ℤ y
    difference x y = omega (arith, ints)

pub subtracted-compared : (a b : ℕ) → a < 2 ^ 32 → b < 2 ^ 32 → subtracted a b true ≡ compared a b
unfolding added
subtracted-compared a b small below =
    let value : (a + complement b + from_bool true) % 2 ^ 32 ≡ minus a b = omega (arith, below) in
    (λ i. record { value = value i; carry = borrow a b below i; overflow = not (is_signed_word (signed_difference a b below i)) })

pub computed-cmp : (a : ℕ) (b : Shifted) (c v : Bool) → a < 2 ^ 32 → b.value < 2 ^ 32 → computed CMP a b c v ≡ compared a b.value
unfolding computed
computed-cmp a b c v small below = subtracted-compared a b.value small below

pub computed-sub : (a : ℕ) (b : Shifted) (c v : Bool) → a < 2 ^ 32 → b.value < 2 ^ 32 → computed SUB a b c v ≡ compared a b.value
unfolding computed
computed-sub a b c v small below = subtracted-compared a b.value small below

pub computed-rsb : (a : ℕ) (b : Shifted) (c v : Bool) → a < 2 ^ 32 → b.value < 2 ^ 32 → computed RSB a b c v ≡ compared b.value a
unfolding computed
computed-rsb a b c v small below = subtracted-compared b.value a below small

-- ADD and CMN: C is set where the sum passes 32 bits, V where the signed sum is out of range
abbrev pub summed : ℕ → ℕ → Computed
summed a b = record {
  value = (a + b) % 2 ^ 32;
  carry = nat_le (2 ^ 32) (a + b);
  overflow = not (is_signed_word (cast_signed w32 a +ℤ cast_signed w32 b));
}

added_summed : (a b : ℕ) → added a b false ≡ summed a b
unfolding added
added_summed a b =
    let same : a + b + from_bool false ≡ a + b = omega arith in
    (λ i. record { value = same i % 2 ^ 32; carry = nat_le (2 ^ 32) (same i); overflow = not (is_signed_word (sum (cast_signed w32 a) (cast_signed w32 b) i)) })
  where
    sum : (x y : ℤ) → x +ℤ y +ℤ pos 0 ≡ x +ℤ y
    sum x y = omega (arith, ints)

pub computed-add : (a : ℕ) (b : Shifted) (c v : Bool) → computed ADD a b c v ≡ summed a b.value
unfolding computed
computed-add a b c v = added_summed a b.value

pub computed-cmn : (a : ℕ) (b : Shifted) (c v : Bool) → computed CMN a b c v ≡ summed a b.value
unfolding computed
computed-cmn a b c v = added_summed a b.value

-- ADC: the same of the sum with C
abbrev pub summed_with : ℕ → ℕ → Bool → Computed
summed_with a b c = record {
  value = (a + b + from_bool c) % 2 ^ 32;
  carry = nat_le (2 ^ 32) (a + b + from_bool c);
  overflow = not (is_signed_word (cast_signed w32 a +ℤ cast_signed w32 b +ℤ pos (from_bool c)));
}

pub computed-adc : (a : ℕ) (b : Shifted) (c v : Bool) → computed ADC a b c v ≡ summed_with a b.value c
unfolding computed added
computed-adc a b c v = refl

-- SBC and RSC: the difference, and 1 less where C is 0
abbrev pub borrowed : ℕ → ℕ → Bool → Computed
borrowed a b c = record {
  value = minus a (b + from_bool (not c));
  carry = nat_le (b + from_bool (not c)) a;
  overflow = not (is_signed_word (cast_signed w32 a -ℤ cast_signed w32 b -ℤ pos (from_bool (not c))));
}

pub subtracted-borrowed : (a b : ℕ) (c : Bool) → b < 2 ^ 32 → subtracted a b c ≡ borrowed a b c
unfolding added
subtracted-borrowed a b c small = (λ i. record {
  value = value c i;
  carry = no_borrow c i;
  overflow = not (is_signed_word ((ap (λ z. cast_signed w32 a +ℤ z +ℤ pos (from_bool c)) (signed_complement b small) ∙ difference c (cast_signed w32 a) (cast_signed w32 b)) i));
})
  where
    value : (c : Bool) → (a + complement b + from_bool c) % 2 ^ 32 ≡ minus a (b + from_bool (not c))
    value true = omega (arith, small)
    value false = omega (arith, small)

    no_borrow : (c : Bool) → nat_le (2 ^ 32) (a + complement b + from_bool c) ≡ nat_le (b + from_bool (not c)) a
    no_borrow true = grind (arith, nat_tests)
    no_borrow false = grind (arith, nat_tests)

    difference : (c : Bool) (x y : ℤ) → x +ℤ (negsuc 0 -ℤ y) +ℤ pos (from_bool c) ≡ x -ℤ y -ℤ pos (from_bool (not c))
    difference true x y = omega (arith, ints)
    difference false x y = omega (arith, ints)

pub computed-sbc : (a : ℕ) (b : Shifted) (c v : Bool) → b.value < 2 ^ 32 → computed SBC a b c v ≡ borrowed a b.value c
unfolding computed
computed-sbc a b c v below = subtracted-borrowed a b.value c below

pub computed-rsc : (a : ℕ) (b : Shifted) (c v : Bool) → a < 2 ^ 32 → computed RSC a b c v ≡ borrowed b.value a c
unfolding computed
computed-rsc a b c v small = subtracted-borrowed b.value a c small

-- the operations without a sum: C by the shift, and V stays
abbrev pub carried : ℕ → Shifted → Bool → Computed
carried value b v = record { value = value; carry = b.carry; overflow = v }

pub computed-and : (a : ℕ) (b : Shifted) (c v : Bool) → computed AND a b c v ≡ carried (bit_and a b.value) b v
unfolding computed logical
computed-and a b c v = refl

pub computed-tst : (a : ℕ) (b : Shifted) (c v : Bool) → computed TST a b c v ≡ carried (bit_and a b.value) b v
unfolding computed logical
computed-tst a b c v = refl

pub computed-eor : (a : ℕ) (b : Shifted) (c v : Bool) → computed EOR a b c v ≡ carried (bit_xor a b.value) b v
unfolding computed logical
computed-eor a b c v = refl

pub computed-teq : (a : ℕ) (b : Shifted) (c v : Bool) → computed TEQ a b c v ≡ carried (bit_xor a b.value) b v
unfolding computed logical
computed-teq a b c v = refl

pub computed-orr : (a : ℕ) (b : Shifted) (c v : Bool) → computed ORR a b c v ≡ carried (bit_or a b.value) b v
unfolding computed logical
computed-orr a b c v = refl

pub computed-mov : (a : ℕ) (b : Shifted) (c v : Bool) → computed MOV a b c v ≡ carried b.value b v
unfolding computed logical
computed-mov a b c v = refl

pub computed-bic : (a : ℕ) (b : Shifted) (c v : Bool) → computed BIC a b c v ≡ carried (bit_and a (complement b.value)) b v
unfolding computed logical
computed-bic a b c v = refl

pub computed-mvn : (a : ℕ) (b : Shifted) (c v : Bool) → computed MVN a b c v ≡ carried (complement b.value) b v
unfolding computed logical
computed-mvn a b c v = refl

-- a difference is 0 exactly where the numbers are equal
pub difference-zero : (a b : ℕ) → a < 2 ^ 32 → b < 2 ^ 32 → (minus a b == 0) ≡ (a == b)
difference-zero a b small below = grind (arith, nat_tests)

-- operands
-- a register below R15
pub not_r15 : (n : ℕ) → n < 15 → (n == R15) ≡ false
not_r15 n low = ne_eqb n 15 (λ e. omega (arith, e, low))

pub first-register : (r : Regs) (ahead n : ℕ) → n < 15 → first_operand r ahead n ≡ register r n
unfolding first_operand
first-register r ahead n low = rw (not_r15 n low) refl

pub first-pc : (r : Regs) (ahead : ℕ) → first_operand r ahead 15 ≡ pc_ahead r ahead
unfolding first_operand
first-pc r ahead = refl

pub whole-register : (r : Regs) (ahead n : ℕ) → n < 15 → whole_operand r ahead n ≡ register r n
unfolding whole_operand
whole-register r ahead n low = rw (not_r15 n low) refl

pub whole-pc : (r : Regs) (ahead : ℕ) → whole_operand r ahead 15 ≡ r15 r ahead
unfolding whole_operand
whole-pc r ahead = refl

pub second-immediate : (r : Regs) (op2 : ℕ) → (second_operand r true op2).value ≡ immediate_value op2
unfolding second_operand immediate_operand
second-immediate r op2 = refl

-- an immediate with its carry
pub second-immediate_carry : (r : Regs) (op2 : ℕ)
    → second_operand r true op2 ≡ record { value = immediate_value op2; carry = if turns_of op2 == 0 then carry r else bit (immediate_value op2) 31 }
unfolding second_operand immediate_operand
second-immediate_carry r op2 = refl

-- a byte: C stays
pub second-byte : (r : Regs) (op2 : ℕ) → op2 < 256 → second_operand r true op2 ≡ record { value = op2; carry = carry r }
second-byte r op2 small =
    let unturned : turns_of op2 ≡ 0 = omega (arith, small) in
    second-immediate_carry r op2
    ∙ (λ i. record { value = immediate_value-byte op2 small i; carry = if unturned i == 0 then carry r else bit (immediate_value op2) 31 })

-- a register whose shift has its amount in the instruction, and one that isn't shifted
pub shift_is_amount : (amount kind rm : ℕ) → kind < 4 → rm < 15 → by_register false (amount * 2 ^ 7 + kind * 2 ^ 5 + rm) ≡ false
shift_is_amount amount kind rm four low = ne_eqb (bits (amount * 2 ^ 7 + kind * 2 ^ 5 + rm) 4 4) 1 (λ e. omega (arith, e, four, low))

pub plain_is_amount : (rm : ℕ) → rm < 15 → by_register false rm ≡ false
plain_is_amount rm low = ne_eqb (bits rm 4 4) 1 (λ e. omega (arith, e, low))

pub amount-shifted : (r : Regs) (amount kind rm : ℕ) → amount < 32 → kind < 4 → rm < 15
    → amount_operand r (amount * 2 ^ 7 + kind * 2 ^ 5 + rm) ≡ shifted_by_field kind (register r rm) amount (carry r)
unfolding amount_operand
amount-shifted r amount kind rm few four low =
    let fields = shift-fields amount kind rm few four (omega (arith, low)) in
    (λ i. shifted_by_field (fields.2 i) (whole_operand r 8 (fields.4 i)) (fields.1 i) (carry r))
    ∙ ap (λ w. shifted_by_field kind w amount (carry r)) (whole-register r 8 rm low)

pub amount-plain : (r : Regs) (rm : ℕ) → rm < 15 → amount_operand r rm ≡ record { value = register r rm; carry = carry r }
amount-plain r rm low =
    ap (amount_operand r) (let e : rm ≡ 0 * 2 ^ 7 + 0 * 2 ^ 5 + rm = omega arith in e)
    ∙ amount-shifted r 0 0 rm (omega arith) (omega arith) low ∙ field-lsl_0 (register r rm) (carry r)

pub amount-lsl : (r : Regs) (amount rm : ℕ) → 0 < amount → amount < 32 → rm < 15
    → amount_operand r (amount * 2 ^ 7 + rm) ≡ record { value = register r rm * 2 ^ amount % 2 ^ 32; carry = bit (register r rm) (32 - amount) }
amount-lsl r amount rm some few low =
    ap (amount_operand r) (let e : amount * 2 ^ 7 + rm ≡ amount * 2 ^ 7 + 0 * 2 ^ 5 + rm = omega arith in e)
    ∙ amount-shifted r amount 0 rm few (omega arith) low ∙ field-amount 0 (register r rm) amount (carry r) some
    ∙ shifted-lsl (register r rm) amount (carry r) some (omega (arith, few))

-- the second operand is that register
second_by_amount : (r : Regs) (op2 : ℕ) → by_register false op2 ≡ false → second_operand r false op2 ≡ amount_operand r op2
unfolding second_operand
second_by_amount r op2 amount = rw amount refl

pub second-shifted : (r : Regs) (amount kind rm : ℕ) → amount < 32 → kind < 4 → rm < 15
    → second_operand r false (amount * 2 ^ 7 + kind * 2 ^ 5 + rm) ≡ shifted_by_field kind (register r rm) amount (carry r)
second-shifted r amount kind rm few four low =
    second_by_amount r (amount * 2 ^ 7 + kind * 2 ^ 5 + rm) (shift_is_amount amount kind rm four low) ∙ amount-shifted r amount kind rm few four low

-- Rm
pub second-plain : (r : Regs) (rm : ℕ) → rm < 15 → second_operand r false rm ≡ record { value = register r rm; carry = carry r }
second-plain r rm low = second_by_amount r rm (plain_is_amount rm low) ∙ amount-plain r rm low

-- the value of a register that is shifted by 1 to 31 bits
second_value : (r : Regs) (amount kind rm : ℕ) → 0 < amount → amount < 32 → kind < 4 → rm < 15
    → (second_operand r false (amount * 2 ^ 7 + kind * 2 ^ 5 + rm)).value ≡ (shifted kind (register r rm) amount (carry r)).value
second_value r amount kind rm some few four low =
    ap (λ (x : Shifted). x.value) (second-shifted r amount kind rm few four low ∙ field-amount kind (register r rm) amount (carry r) some)

-- Rm,LSL #amount
pub second-lsl : (r : Regs) (amount rm : ℕ) → 0 < amount → amount < 32 → rm < 15 → (second_operand r false (amount * 2 ^ 7 + rm)).value ≡ register r rm * 2 ^ amount % 2 ^ 32
second-lsl r amount rm some few low =
    ap (λ k. (second_operand r false k).value) (let e : amount * 2 ^ 7 + rm ≡ amount * 2 ^ 7 + 0 * 2 ^ 5 + rm = omega arith in e)
    ∙ second_value r amount 0 rm some few (omega arith) low
    ∙ ap (λ (x : Shifted). x.value) (shifted-lsl (register r rm) amount (carry r) some (omega (arith, few)))

-- Rm,LSR #amount
pub second-lsr : (r : Regs) (amount rm : ℕ) → 0 < amount → amount < 32 → rm < 15 → (second_operand r false (amount * 2 ^ 7 + 1 * 2 ^ 5 + rm)).value ≡ register r rm / 2 ^ amount
second-lsr r amount rm some few low =
    second_value r amount 1 rm some few (omega arith) low
    ∙ ap (λ (x : Shifted). x.value) (shifted-lsr (register r rm) amount (carry r) some)

-- Rm,ASR #amount
pub second-asr : (r : Regs) (amount rm : ℕ) → 0 < amount → amount < 32 → rm < 15 → (second_operand r false (amount * 2 ^ 7 + 2 * 2 ^ 5 + rm)).value ≡ (shifted ASR (register r rm) amount (carry r)).value
second-asr r amount rm some few low = second_value r amount 2 rm some few (omega arith) low

-- Rm,ROR #amount
pub second-ror : (r : Regs) (amount rm : ℕ) → 0 < amount → amount < 32 → rm < 15 → (second_operand r false (amount * 2 ^ 7 + 3 * 2 ^ 5 + rm)).value ≡ rotated (register r rm) amount
second-ror r amount rm some few low =
    second_value r amount 3 rm some few (omega arith) low
    ∙ ap (λ (x : Shifted). x.value) (shifted-ror (register r rm) amount (carry r) some)
    ∙ ap (rotated (register r rm)) (let e : amount % 32 ≡ amount = omega (arith, few) in e)

-- Rm shifted by a register's low byte: R15 in its place is unpredictable
pub not_open-by_register : (rs kind rm : ℕ) → rs < 15 → kind < 4 → rm < 15 → (bits (rs * 2 ^ 8 + kind * 2 ^ 5 + 1 * 2 ^ 4 + rm) 11 8 == R15) ≡ false
not_open-by_register rs kind rm amount four low = ne_eqb (bits (rs * 2 ^ 8 + kind * 2 ^ 5 + 1 * 2 ^ 4 + rm) 11 8) 15 (λ e. omega (arith, e, amount, four, low))

pub second-by_register : (r : Regs) (rs kind rm : ℕ) → rs < 16 → kind < 4 → rm < 15
    → second_operand r false (rs * 2 ^ 8 + kind * 2 ^ 5 + 1 * 2 ^ 4 + rm) ≡ shifted kind (register r rm) (register r rs % 2 ^ 8) (carry r)
unfolding second_operand register_operand
second-by_register r rs kind rm sixteen four low =
    let op2 = rs * 2 ^ 8 + kind * 2 ^ 5 + 1 * 2 ^ 4 + rm in
    let fields = register_shift-fields rs kind rm sixteen four (omega (arith, low)) in
    (λ i. if fields.4 i then shifted (fields.3 i) (whole_operand r 12 (fields.5 i)) (register r (fields.1 i) % 2 ^ 8) (carry r) else amount_operand r op2)
    ∙ ap (λ w. shifted kind w (register r rs % 2 ^ 8) (carry r)) (whole-register r 12 rm low)
