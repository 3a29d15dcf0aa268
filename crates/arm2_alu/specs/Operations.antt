-- The sixteen operations of data processing (VL86C010 (ARM2) data manual, data processing). Sums are exact: C is set where
-- the sum of the words passes 32 bits, V where the sum of the signed words is outside the range of signed words.
use Rattle.std.specs.Prelude.{ℕ, ◌+◌, ◌%◌, ◌^◌, ◌==◌, ◌||◌, ◌&&◌, not, nat_lt, nat_le, Bool, true, false, if◌then◌else◌, ℤ, pos, negsuc, ◌+ℤ◌, bit_and, bit_or, bit_xor}
use Rattle.std.specs.Int.{w32, cast_signed, from_bool}
use Rattle.arm2_alu.specs.declared.shifts.Shifted.{Shifted}
use Rattle.arm2_alu.specs.declared.operations.Computed.{Computed}
use Rattle.arm_isa.specs.Numbers.{AND, EOR, SUB, RSB, ADD, ADC, SBC, RSC, TST, TEQ, CMP, CMN, ORR, MOV, BIC}
use Rattle.arm2_alu.specs.Shifts.{complement}

-- a signed number has 32 bits: from -2^31 up to 2^31
abbrev pub is_signed_word : ℤ → Bool
is_signed_word (pos n) = nat_lt n (2 ^ 31)
is_signed_word (negsuc n) = nat_lt n (2 ^ 31)

-- a sum with a carry in
unfoldable pub added : ℕ → ℕ → Bool → Computed
added a b c = record {
  value = (a + b + from_bool c) % 2 ^ 32;
  carry = nat_le (2 ^ 32) (a + b + from_bool c);
  overflow = not (is_signed_word (cast_signed w32 a +ℤ cast_signed w32 b +ℤ pos (from_bool c)));
}

-- a difference: the sum with the complement and 1, or with the complement and C, so that C is set where nothing is borrowed
abbrev pub subtracted : ℕ → ℕ → Bool → Computed
subtracted a b c = added a (complement b) c

-- the operations that only set flags
abbrev pub is_test : ℕ → Bool
is_test op = nat_le TST op && nat_le op CMN

-- the value of an operation without a sum, of a first operand and a shifted one: C by the shift, and V stays
unfoldable pub logical : ℕ → ℕ → ℕ → ℕ
logical op a b =
    if (op == AND) || (op == TST) then bit_and a b
    else if (op == EOR) || (op == TEQ) then bit_xor a b
    else if op == ORR then bit_or a b
    else if op == MOV then b
    else if op == BIC then bit_and a (complement b)
    else complement b

-- an operation on a first operand and a shifted second one, with C and V as they were
unfoldable pub computed : ℕ → ℕ → Shifted → Bool → Bool → Computed
computed op a b c v =
    if (op == SUB) || (op == CMP) then subtracted a b.value true
    else if op == RSB then subtracted b.value a true
    else if (op == ADD) || (op == CMN) then added a b.value false
    else if op == ADC then added a b.value c
    else if op == SBC then subtracted a b.value c
    else if op == RSC then subtracted b.value a c
    else record { value = logical op a b.value; carry = b.carry; overflow = v }
