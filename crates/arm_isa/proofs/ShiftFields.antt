-- Register operands: the field of a register that is shifted, and what it holds.
use Rattle.std.proofs.Common.{◌≡◌, ℕ, ◌+◌, ◌*◌, ◌^◌, ◌<◌, true, false, ◌==◌, arith, eqb-true}
use Rattle.std.proofs.lemmas.Bool.{eqb-false}
use Rattle.arm_isa.specs.Fields.{bits, bit}
use Rattle.arm_isa.proofs.FieldLemmas.{flag_of}

-- the number of a bit that is clear
clear : (n : ℕ) → n < 2 → (n == 1) ≡ false → n ≡ 0
clear n small is = let other = eqb-false n 1 is in omega (arith, small, other)

-- a register that is shifted by a number of bits: amount, kind and register
pub shift-fields : (amount kind rm : ℕ) → amount < 32 → kind < 4 → rm < 2 ^ 4
    → let op2 = amount * 2 ^ 7 + kind * 2 ^ 5 + rm in
    (op2 < 2 ^ 12) × (bits op2 11 7 ≡ amount) × (bits op2 6 5 ≡ kind) × (bit op2 4 ≡ false) × (bits op2 3 0 ≡ rm)
shift-fields amount kind rm a k m =
    (omega (arith, a, k, m), omega (arith, a, k, m), omega (arith, k, m), flag_of false _ (omega (arith, m)), omega (arith, m))

-- and back
pub shift-of_fields : (op2 : ℕ) → op2 < 2 ^ 12 → bit op2 4 ≡ false → bits op2 11 7 * 2 ^ 7 + bits op2 6 5 * 2 ^ 5 + bits op2 3 0 ≡ op2
shift-of_fields op2 small plain =
    let four = clear (bits op2 4 4) (omega arith) plain in
    omega (arith, small, four)

-- a register that is shifted by a register: the register of the amount, kind and register
pub register_shift-fields : (rs kind rm : ℕ) → rs < 2 ^ 4 → kind < 4 → rm < 2 ^ 4
    → let op2 = rs * 2 ^ 8 + kind * 2 ^ 5 + 1 * 2 ^ 4 + rm in
    (op2 < 2 ^ 12) × (bits op2 11 8 ≡ rs) × (bit op2 7 ≡ false) × (bits op2 6 5 ≡ kind) × (bit op2 4 ≡ true) × (bits op2 3 0 ≡ rm)
register_shift-fields rs kind rm r k m =
    (omega (arith, r, k, m), omega (arith, r, k, m), flag_of false _ (omega (arith, k, m)), omega (arith, k, m), flag_of true _ (omega (arith, m)), omega (arith, m))

-- and back
pub register_shift-of_fields : (op2 : ℕ) → op2 < 2 ^ 12 → bit op2 7 ≡ false → bit op2 4 ≡ true → bits op2 11 8 * 2 ^ 8 + bits op2 6 5 * 2 ^ 5 + 1 * 2 ^ 4 + bits op2 3 0 ≡ op2
register_shift-of_fields op2 small plain set =
    let seven = clear (bits op2 7 7) (omega arith) plain in
    let four = eqb-true (bits op2 4 4) 1 set in
    omega (arith, small, seven, four)
