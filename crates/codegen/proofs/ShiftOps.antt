-- The operators that shift: by the amount's low five bits, one after the other, and then by whether its low byte is 32 or more.
use Rattle.std.proofs.Common.{◌≡◌, ℕ, zero, suc, ◌+◌, ◌-◌, ◌*◌, ◌/◌, ◌%◌, ◌^◌, ◌<◌, ◌≤◌, ◌==◌, ◌⊎◌, inl, inr, not, nat_le, nat_lt, Bool, true, false, if◌then◌else◌, ℤ, pos, negsuc, Ok, refl, sym, ap, ◌∙◌, arith, bit_and, lt-ltb, le-ltb}
use Rattle.std.proofs.lemmas.Bool.{ne_eqb, cond-false, cond-true, cases_lt, leb-true, leb-false}
use Rattle.std.proofs.lemmas.Int.{of_z-to_z}
use Rattle.std.proofs.lemmas.Nat.{pow-add, pow_pos, mul-mod_first}
use Rattle.std.proofs.lemmas.Nat.Bits.{and_pow, bit_at-lt}
use Rattle.std.proofs.Math.Nat.{mul_assoc, div-eq_of_lt, div-le_self, div-div-eq-div-mul, mul-mod_left}
use Rattle.std.proofs.Math.Pow.{pow_mono}
use Rattle.std.specs.Int.{w32, bit_at}
use Rattle.bas_ast.specs.declared.expressions.BinaryOp.{BinaryOp}
use Rattle.bas_ast.specs.declared.expressions.BinaryOp.TheVariants as op
use Rattle.bas_ir.specs.Places.{Pending}
use Rattle.bas_sem.specs.Operators.{of_two}
use Rattle.bas_sem.specs.State.{State}
use Rattle.bv_num.specs.Bits.{signed}
use Rattle.bv_num.specs.Shift.{floor_quotient, shifted}
use Rattle.bv_num.specs.declared.shifts.ShiftKind.TheVariants as shifts
use Rattle.arm_isa.specs.Numbers.{ASR, CS, NE, MOV, TST}
use Rattle.arm_isa.proofs.ImmediateLaws.{immediate_value-byte, gives_byte_3}
use Rattle.arm2_alu.specs.declared.shifts.Shifted.{Shifted}
use Rattle.arm2_alu.specs.Shifts as alu
use Rattle.arm2_alu.proofs.ShiftValues.{sign-high}
use Rattle.arm2_alu.proofs.ValueLaws.{compared, signed-low, signed-high}
use Rattle.arm_core.specs.Core.{Core, put, meets}
use Rattle.arm_core.specs.Effects.{flagged_by, operand_in, result_of}
use Rattle.arm_core.proofs.Comparisons.{after-cs}
use Rattle.arm_core.proofs.ShiftedOperands.{operand-shifted, lsl-value, lsr-value, asr-value_low}
use Rattle.code_frag.specs.Demands.{Post, Owes}
use Rattle.code_frag.specs.Instructions.{Second, num, reg, lsl, lsr, asr, process_if, mov}
use Rattle.code_frag.specs.Language as language
use Rattle.code_frag.specs.Language.{Skip, ◌⨾◌}
use Rattle.code_frag.proofs.Rules.{end_here, seq_then, skip_then, set_then, test_then, set_where_then, skip_where_then}
use Rattle.codegen.specs.Operations.{binary_code, shift_where, shift_by, shift_out}
use Rattle.codegen.specs.StandsFor.{Site}
use Rattle.codegen.proofs.Arriving.{CodeAsks, CodeDoes, Free}
use Rattle.codegen.proofs.ArithmeticOps.{AreWords, Computes, computed_word}

-- ---- shifts of numbers

-- the value of a second operand
abbrev operand : Second → Core → ℕ
operand x s = (operand_in x.imm x.field s).value

-- A shift is a function of an amount and a number. Amounts add up; an operand shifts R1 by 1 to 31 bits; and an operand is what
-- is left of R1, shifted before, by 32 or more.
record Shifts (by_bits : ℕ → ℕ → Second) (left : Second) (moved : ℕ → ℕ → ℕ) : Type 0 where
  none : (n : ℕ) → n < 2 ^ 32 → moved 0 n ≡ n
  twice : (i j n : ℕ) → n < 2 ^ 32 → moved i (moved j n) ≡ moved (j + i) n
  small : (k n : ℕ) → n < 2 ^ 32 → moved k n < 2 ^ 32
  value : (k n : ℕ) (s : Core) → 0 < k → k < 32 → n < 2 ^ 32 → s.regs 1 ≡ n → operand (by_bits 1 k) s ≡ moved k n
  out : (k j n : ℕ) (s : Core) → 32 ≤ k → n < 2 ^ 32 → s.regs 1 ≡ moved j n → operand left s ≡ moved k n

-- ---- left

-- the low 32 bits of a product
abbrev left_by : ℕ → ℕ → ℕ
left_by k n = n * 2 ^ k % 2 ^ 32

-- what moves up by 32 places or more is gone
left_out : (k n : ℕ) → 32 ≤ k → left_by k n ≡ 0
left_out k n far =
    let split : 2 ^ k ≡ 2 ^ (k - 32) * 2 ^ 32 = ap (λ j. 2 ^ j) (let e : k ≡ k - 32 + 32 = omega (arith, far) in e) ∙ pow-add 2 (k - 32) 32 in
    ap (λ q. q % 2 ^ 32) (ap (λ q. n * q) split ∙ sym (mul_assoc n (2 ^ (k - 32)) (2 ^ 32))) ∙ mul-mod_left (n * 2 ^ (k - 32)) (2 ^ 32)

-- LSL is that
left_shifts : Shifts lsl (num 0) left_by
left_shifts = record {
  none = λ n word. omega (arith, word);
  twice = λ i j n word. mul-mod_first (n * 2 ^ j) (2 ^ i) (2 ^ 32) ∙ ap (λ q. q % 2 ^ 32) (mul_assoc n (2 ^ j) (2 ^ i) ∙ ap (λ q. n * q) (sym (pow-add 2 j i)));
  small = λ k n word. omega arith;
  value = λ k n s some few word is. lsl-value k 1 s some few (omega arith) ∙ ap (left_by k) is;
  out = λ k j n s far word is. sym (left_out k n far);
}

-- ---- right

-- a quotient
abbrev right_by : ℕ → ℕ → ℕ
right_by k n = n / 2 ^ k

-- a quotient of a quotient
right_twice : (i j n : ℕ) → right_by i (right_by j n) ≡ right_by (j + i) n
right_twice i j n = div-div-eq-div-mul n (2 ^ j) (2 ^ i) ∙ ap (λ q. n / q) (sym (pow-add 2 j i))

-- what moves down by all its places is gone
right_out : (width k n : ℕ) → n < 2 ^ width → width ≤ k → right_by k n ≡ 0
right_out width k n word far = div-eq_of_lt {m = 2 ^ k} (let grows = pow_mono {i = width} {j = k} far in omega (arith, word, grows))

-- LSR is that
right_shifts : Shifts lsr (num 0) right_by
right_shifts = record {
  none = λ n word. omega arith;
  twice = λ i j n word. right_twice i j n;
  small = λ k n word. let less = div-le_self n (2 ^ k) in omega (arith, word, less);
  value = λ k n s some few word is. lsr-value k 1 s some few (omega arith) ∙ ap (right_by k) is;
  out = λ k j n s far word is. sym (right_out 32 k n word far);
}

-- ---- right with the sign

-- a number whose sign is 1 is shifted as its complement
abbrev signed_by : ℕ → ℕ → ℕ
signed_by k n = if nat_lt n (2 ^ 31) then n / 2 ^ k else 2 ^ 32 - 1 - (2 ^ 32 - 1 - n) / 2 ^ k

-- from 0 on it is the quotient
signed_low : (k n : ℕ) → n < 2 ^ 31 → signed_by k n ≡ n / 2 ^ k
signed_low k n low = cond-true (nat_lt n (2 ^ 31)) (n / 2 ^ k) (2 ^ 32 - 1 - (2 ^ 32 - 1 - n) / 2 ^ k) (lt-ltb n (2 ^ 31) low)

-- and below 0 the complement of the complement's quotient
signed_high : (k n : ℕ) → 2 ^ 31 ≤ n → signed_by k n ≡ 2 ^ 32 - 1 - (2 ^ 32 - 1 - n) / 2 ^ k
signed_high k n high = cond-false (nat_lt n (2 ^ 31)) (n / 2 ^ k) (2 ^ 32 - 1 - (2 ^ 32 - 1 - n) / 2 ^ k) (le-ltb n (2 ^ 31) high)

-- the sign stays
signed_keeps_low : (k n : ℕ) → n < 2 ^ 31 → signed_by k n < 2 ^ 31
signed_keeps_low k n low = let is = signed_low k n low in let less = div-le_self n (2 ^ k) in omega (arith, low, is, less)

signed_keeps_high : (k n : ℕ) → 2 ^ 31 ≤ n → 2 ^ 31 ≤ signed_by k n
signed_keeps_high k n high = let is = signed_high k n high in let less = div-le_self (2 ^ 32 - 1 - n) (2 ^ k) in omega (arith, high, is, less)

-- it is a word
signed_small : (k n : ℕ) → n < 2 ^ 32 → signed_by k n < 2 ^ 32
signed_small k n word = by (cases_lt n (2 ^ 31))
  where
    by : (n < 2 ^ 31) ⊎ (2 ^ 31 ≤ n) → signed_by k n < 2 ^ 32
    by (inl low) = let less = signed_keeps_low k n low in omega (arith, less)
    by (inr high) = let is = signed_high k n high in omega (arith, is)

-- one shift after another is a shift by both amounts
signed_twice : (i j n : ℕ) → n < 2 ^ 32 → signed_by i (signed_by j n) ≡ signed_by (j + i) n
signed_twice i j n word = by (cases_lt n (2 ^ 31))
  where
    by : (n < 2 ^ 31) ⊎ (2 ^ 31 ≤ n) → signed_by i (signed_by j n) ≡ signed_by (j + i) n
    by (inl low) =
        signed_low i (signed_by j n) (signed_keeps_low j n low) ∙ ap (λ m. m / 2 ^ i) (signed_low j n low) ∙ right_twice i j n ∙ sym (signed_low (j + i) n low)
    by (inr high) =
        let c = 2 ^ 32 - 1 - n in
        let less = div-le_self c (2 ^ j) in
        signed_high i (signed_by j n) (signed_keeps_high j n high)
        ∙ ap (λ m. 2 ^ 32 - 1 - (2 ^ 32 - 1 - m) / 2 ^ i) (signed_high j n high)
        ∙ ap (λ m. 2 ^ 32 - 1 - m / 2 ^ i) (let back : 2 ^ 32 - 1 - (2 ^ 32 - 1 - c / 2 ^ j) ≡ c / 2 ^ j = omega (arith, less) in back)
        ∙ ap (λ m. 2 ^ 32 - 1 - m) (right_twice i j c) ∙ sym (signed_high (j + i) n high)

-- the sign alone is left by 31 places or more
signed_out : (k j n : ℕ) → n < 2 ^ 32 → 31 ≤ k → 31 ≤ j → signed_by k n ≡ signed_by j n
signed_out k j n word far_k far_j = by (cases_lt n (2 ^ 31))
  where
    by : (n < 2 ^ 31) ⊎ (2 ^ 31 ≤ n) → signed_by k n ≡ signed_by j n
    by (inl low) = signed_low k n low ∙ right_out 31 k n low far_k ∙ sym (right_out 31 j n low far_j) ∙ sym (signed_low j n low)
    by (inr high) =
        let c = 2 ^ 32 - 1 - n in
        signed_high k n high
        ∙ ap (λ m. 2 ^ 32 - 1 - m) (right_out 31 k c (omega (arith, high)) far_k ∙ sym (right_out 31 j c (omega (arith, high)) far_j))
        ∙ sym (signed_high j n high)

-- the processor's shift of a number whose sign is 1
asr-high : (n k : ℕ) (c : Bool) → 0 < k → 2 ^ 31 ≤ n → n < 2 ^ 32 → (alu.shifted ASR n k c).value ≡ 2 ^ 32 - 1 - (2 ^ 32 - 1 - n) / 2 ^ k
unfolding alu.shifted alu.shifted_signed alu.shifted_right
asr-high n k c some high word = rw (ne_eqb k 0 (λ e. omega (arith, e, some))) (rw (sign-high n high word) refl)

-- ASR is that
signed_value : (k n : ℕ) (s : Core) → 0 < k → k < 32 → n < 2 ^ 32 → s.regs 1 ≡ n → operand (asr 1 k) s ≡ signed_by k n
signed_value k n s some few word is = by (cases_lt (s.regs 1) (2 ^ 31)) ∙ ap (signed_by k) is
  where
    by : (s.regs 1 < 2 ^ 31) ⊎ (2 ^ 31 ≤ s.regs 1) → operand (asr 1 k) s ≡ signed_by k (s.regs 1)
    by (inl low) = asr-value_low k 1 s some few (omega arith) low ∙ sym (signed_low k (s.regs 1) low)
    by (inr high) =
        ap (λ (x : Shifted). x.value) (operand-shifted k ASR 1 s some few (omega arith) (omega arith)) ∙ asr-high (s.regs 1) k s.c some high (omega (arith, is, word)) ∙ sym (signed_high k (s.regs 1) high)

-- and all of a shift by 32 or more is ASR #31 after the five bits
signed_shifts : Shifts asr (asr 1 31) signed_by
signed_shifts = record {
  none = λ n word. by_none n word (cases_lt n (2 ^ 31));
  twice = signed_twice;
  small = signed_small;
  value = signed_value;
  out = λ k j n s far word is.
      signed_value 31 (signed_by j n) s (omega arith) (omega arith) (signed_small j n word) is ∙ signed_twice 31 j n word ∙ signed_out (j + 31) k n word (omega arith) (omega (arith, far));
}
  where
    by_none : (n : ℕ) → n < 2 ^ 32 → (n < 2 ^ 31) ⊎ (2 ^ 31 ≤ n) → signed_by 0 n ≡ n
    by_none n word (inl low) = signed_low 0 n low ∙ omega arith
    by_none n word (inr high) = signed_high 0 n high ∙ omega (arith, word)

-- ---- the code

-- the amount is in R0 and a number in R1, and the state stands as it was
record Shifting (image : Site) (p : Pending) (st : State) (a n : ℕ) (u : Core) : Type 0 where
  free : Free image p st u
  amount : u.regs 0 ≡ a
  number : u.regs 1 ≡ n

module _ {image : Site} {p : Pending} {st : State} {rest : language.Piece} {Q : Post} {u : Core} (a n : ℕ) (is : Shifting image p st a n u) where
  -- R1 takes another number where a bit of the amount is 1
  where_then : (bit next : ℕ) (x : Second) (t : Bool) → bit < 256 → not (bit_and a bit == 0) ≡ t → ((v : Core) → v.regs 1 ≡ n → operand x v ≡ next)
      → ((v : Core) → Shifting image p st a (if t then next else n) v → Owes CodeAsks CodeDoes rest Q v) → Owes CodeAsks CodeDoes (shift_where bit x ⨾ rest) Q u
  where_then bit next x t byte tests value owes = seq_then (test_then (result_of TST (u.regs 0) (operand_in true bit u) u.c u.v) refl refl (seq_then (by t tests owes)))
    where
      tested : Core
      tested = flagged_by (result_of TST (u.regs 0) (operand_in true bit u) u.c u.v) u

      said : meets NE tested ≡ not (bit_and a bit == 0)
      said = λ i. not (bit_and (is.amount i) (immediate_value-byte bit byte i) == 0)

      by : (t : Bool) → not (bit_and a bit == 0) ≡ t → ((v : Core) → Shifting image p st a (if t then next else n) v → Owes CodeAsks CodeDoes rest Q v)
          → Owes CodeAsks CodeDoes (process_if NE MOV 1 0 x ⨾ Skip ⨾ rest) Q tested
      by true tests owes =
          set_where_then next (said ∙ tests) refl (value tested is.number)
          (skip_then (owes _ (record { free = record { holds = is.free.holds; numbers = is.free.numbers; texts = is.free.texts }; amount = is.amount; number = refl })))
      by false tests owes =
          skip_where_then (said ∙ tests)
          (skip_then (owes _ (record { free = record { holds = is.free.holds; numbers = is.free.numbers; texts = is.free.texts }; amount = is.amount; number = is.number })))

module _ {by_bits : ℕ → ℕ → Second} {left : Second} {moved : ℕ → ℕ → ℕ} (laws : Shifts by_bits left moved) {image : Site} {p : Pending} {st : State} where
  -- a bit of the amount adds what its place is worth to the shift
  bit_then : {rest : language.Piece} {Q : Post} {u : Core} (a n j k : ℕ) → k < 5 → n < 2 ^ 32 → Shifting image p st a (moved j n) u
      → ((v : Core) → Shifting image p st a (moved (j + bit_at a k * 2 ^ k) n) v → Owes CodeAsks CodeDoes rest Q v) → Owes CodeAsks CodeDoes (shift_where (2 ^ k) (by_bits 1 (2 ^ k)) ⨾ rest) Q u
  bit_then {rest} {Q} {u} a n j k few word is owes = by (bit_at a k) refl (bit_at-lt a k)
    where
      some : 0 < 2 ^ k
      some = pow_pos k

      most : 2 ^ k ≤ 16
      most = pow_mono {i = k} {j = 4} (omega (arith, few))

      further : (v : Core) → v.regs 1 ≡ moved j n → operand (by_bits 1 (2 ^ k)) v ≡ moved (j + 2 ^ k) n
      further v at = laws.value (2 ^ k) (moved j n) v some (omega (arith, most)) (laws.small j n word) at ∙ laws.twice (2 ^ k) j n word

      tests : (b : ℕ) → bit_at a k ≡ b → not (bit_and a (2 ^ k) == 0) ≡ not (b * 2 ^ k == 0)
      tests b e = ap (λ m. not (m == 0)) (and_pow a k ∙ ap (λ b. b * 2 ^ k) e)

      adds : (b m : ℕ) → bit_at a k ≡ b → m ≡ j + b * 2 ^ k → moved m n ≡ moved (j + bit_at a k * 2 ^ k) n
      adds b m e sum = ap (λ i. moved i n) (sum ∙ ap (λ b. j + b * 2 ^ k) (sym e))

      by : (b : ℕ) → bit_at a k ≡ b → b < 2 → Owes CodeAsks CodeDoes (shift_where (2 ^ k) (by_bits 1 (2 ^ k)) ⨾ rest) Q u
      by zero e low =
          where_then a (moved j n) is (2 ^ k) (moved (j + 2 ^ k) n) (by_bits 1 (2 ^ k)) false (omega (arith, most)) (tests 0 e ∙ ap (λ m. not (m == 0)) (let none : 0 * 2 ^ k ≡ 0 = omega arith in none)) further
          (λ v next. owes v (record { free = next.free; amount = next.amount; number = next.number ∙ adds 0 j e (omega arith) }))
      by (suc zero) e low =
          where_then a (moved j n) is (2 ^ k) (moved (j + 2 ^ k) n) (by_bits 1 (2 ^ k)) true (omega (arith, most)) (tests 1 e ∙ ap not (ne_eqb (1 * 2 ^ k) 0 (λ none. omega (arith, none, some)))) further
          (λ v next. owes v (record { free = next.free; amount = next.amount; number = next.number ∙ adds 1 (j + 2 ^ k) e (omega arith) }))
      by (suc (suc b)) e low = absurd (omega (arith, low))

  -- the low five bits of the amount
  five_then : {rest : language.Piece} {Q : Post} {u : Core} (a n : ℕ) → n < 2 ^ 32 → Shifting image p st a n u → ((v : Core) → Shifting image p st a (moved (a % 32) n) v → Owes CodeAsks CodeDoes rest Q v)
      → Owes CodeAsks CodeDoes (shift_by by_bits ⨾ rest) Q u
  five_then {rest} {Q} {u} a n word is owes =
      seq_then (bit_then a n 0 0 (omega arith) word (record { free = is.free; amount = is.amount; number = is.number ∙ sym (laws.none n word) })
      (λ u1 is1. seq_then (bit_then a n _ 1 (omega arith) word is1
      (λ u2 is2. seq_then (bit_then a n _ 2 (omega arith) word is2
      (λ u3 is3. seq_then (bit_then a n _ 3 (omega arith) word is3
      (λ u4 is4. seq_then (bit_then a n _ 4 (omega arith) word is4
      (λ u5 is5. skip_then (owes u5 (record { free = is5.free; amount = is5.amount; number = is5.number ∙ ap (λ k. moved k n) sum }))))))))))))
    where
      sum : 0 + bit_at a 0 * 2 ^ 0 + bit_at a 1 * 2 ^ 1 + bit_at a 2 * 2 ^ 2 + bit_at a 3 * 2 ^ 3 + bit_at a 4 * 2 ^ 4 ≡ a % 32
      sum = omega arith

  -- where the amount's low byte is 32 or more, R1 is what is left, and below 32 the five bits are all of that byte
  out_then : {rest : language.Piece} {Q : Post} {u : Core} (a n : ℕ) → n < 2 ^ 32 → Shifting image p st a (moved (a % 32) n) u → ((v : Core) → Shifting image p st a (moved (a % 256) n) v → Owes CodeAsks CodeDoes rest Q v)
      → Owes CodeAsks CodeDoes (shift_out left ⨾ rest) Q u
  out_then {rest} {Q} {u} a n word is owes =
      seq_then (set_then byte refl (lsl-value 24 0 u (omega arith) (omega arith) (omega arith) ∙ ap (λ r. r * 2 ^ 24 % 2 ^ 32) is.amount)
      (seq_then (test_then (compared byte (32 * 2 ^ 24)) refl (ap (compared byte) (let gives = gives_byte_3 32 (omega arith) in gives.value))
      (seq_then (by (nat_le (32 * 2 ^ 24) byte) (after-cs byte (32 * 2 ^ 24) (put 2 byte u)) refl)))))
    where
      byte : ℕ
      byte = a * 2 ^ 24 % 2 ^ 32

      tested : Core
      tested = flagged_by (compared byte (32 * 2 ^ 24)) (put 2 byte u)

      by : (t : Bool) → meets CS tested ≡ t → nat_le (32 * 2 ^ 24) byte ≡ t → Owes CodeAsks CodeDoes (process_if CS MOV 1 0 left ⨾ Skip ⨾ rest) Q tested
      by true e far =
          set_where_then (moved (a % 256) n) e refl (laws.out (a % 256) (a % 32) n tested (let more = leb-true (32 * 2 ^ 24) byte far in omega (arith, more)) word is.number)
          (skip_then (owes _ (record { free = record { holds = is.free.holds; numbers = is.free.numbers; texts = is.free.texts }; amount = is.amount; number = refl })))
      by false e far =
          skip_where_then e
          (skip_then (owes _ (record {
            free = record { holds = is.free.holds; numbers = is.free.numbers; texts = is.free.texts };
            amount = is.amount;
            number = is.number ∙ ap (λ k. moved k n) (let less = leb-false (32 * 2 ^ 24) byte far in let same : a % 32 ≡ a % 256 = omega (arith, less) in same);
          })))

  -- all of the code: R0 is R1, shifted by the amount's low byte
  shift_owes : {s : Core} (line : ℕ) (z : ℤ) → AreWords s → Free image p st s → signed (moved (s.regs 0 % 256) (s.regs 1)) ≡ z
      → Owes CodeAsks CodeDoes (shift_by by_bits ⨾ shift_out left ⨾ mov 0 (reg 1) ⨾ Skip) (Computes image (Ok z) line p st) s
  shift_owes {s} line z good f value =
      five_then (s.regs 0) (s.regs 1) (good.regs 1) (record { free = f; amount = refl; number = refl })
      (λ u shifting. out_then (s.regs 0) (s.regs 1) (good.regs 1) shifting
      (λ v shifted. set_then (v.regs 1) refl refl
      (end_here (computed_word (Ok z) line z refl (record { holds = shifted.free.holds; numbers = shifted.free.numbers; texts = shifted.free.texts }) (ap signed shifted.number ∙ value)
      (let word = laws.small (s.regs 0 % 256) (s.regs 1) (good.regs 1) in let is = shifted.number in omega (arith, word, is))))))

-- ---- the operators

-- `<<` is the shift of the patterns
left_is : (n a : ℕ) → n < 2 ^ 32 → a < 2 ^ 32 → signed (left_by (a % 256) n) ≡ shifted shifts.Left (signed n) (signed a)
left_is n a word amount = sym (λ i. signed (of_z-to_z w32 n word i * 2 ^ (of_z-to_z w32 a amount i % 256) % 2 ^ 32))

-- `>>>` is, too
right_is : (n a : ℕ) → n < 2 ^ 32 → a < 2 ^ 32 → signed (right_by (a % 256) n) ≡ shifted shifts.RightLogical (signed n) (signed a)
right_is n a word amount = sym (λ i. signed (of_z-to_z w32 n word i / 2 ^ (of_z-to_z w32 a amount i % 256)))

-- `>>` rounds the quotient down, as the complement's quotient does below 0
quotient_is : (n k : ℕ) → n < 2 ^ 32 → signed (signed_by k n) ≡ floor_quotient (signed n) (2 ^ k)
quotient_is n k word = by (cases_lt n (2 ^ 31))
  where
    by : (n < 2 ^ 31) ⊎ (2 ^ 31 ≤ n) → signed (signed_by k n) ≡ floor_quotient (signed n) (2 ^ k)
    by (inl low) = signed-low (signed_by k n) (signed_keeps_low k n low) ∙ ap (λ m. pos m) (signed_low k n low) ∙ ap (λ z. floor_quotient z (2 ^ k)) (sym (signed-low n low))
    by (inr high) =
        let c = 2 ^ 32 - 1 - n in
        let less = div-le_self c (2 ^ k) in
        signed-high (signed_by k n) (signed_keeps_high k n high)
        ∙ ap (λ m. negsuc m) (ap (λ m. 2 ^ 32 - suc m) (signed_high k n high) ∙ (let back : 2 ^ 32 - suc (2 ^ 32 - 1 - c / 2 ^ k) ≡ c / 2 ^ k = omega (arith, less) in back))
        ∙ ap (λ z. floor_quotient z (2 ^ k)) (ap (λ m. negsuc m) (let same : c ≡ 2 ^ 32 - suc n = omega arith in same) ∙ sym (signed-high n high))

module _ {image : Site} {p : Pending} {st : State} {s : Core} (good : AreWords s) (f : Free image p st s) (line : ℕ) (fits : line < 65536) where
  abbrev Owed : BinaryOp → Type 0
  Owed o = Owes CodeAsks CodeDoes (binary_code o line) (Computes image (of_two o (signed (s.regs 1)) (signed (s.regs 0))) line p st) s

  pub shift_left_owes : Owed op.ShiftLeft
  shift_left_owes = shift_owes left_shifts line _ good f (left_is (s.regs 1) (s.regs 0) (good.regs 1) (good.regs 0))

  pub shift_right_signed_owes : Owed op.ShiftRightSigned
  shift_right_signed_owes =
      shift_owes signed_shifts line _ good f
      (quotient_is (s.regs 1) (s.regs 0 % 256) (good.regs 1) ∙ ap (λ a. floor_quotient (signed (s.regs 1)) (2 ^ (a % 256))) (sym (of_z-to_z w32 (s.regs 0) (good.regs 0))))

  pub shift_right_owes : Owed op.ShiftRight
  shift_right_owes = shift_owes right_shifts line _ good f (right_is (s.regs 1) (s.regs 0) (good.regs 1) (good.regs 0))
