-- What operands and operations give on a core, and that it is a word.
use Rattle.std.proofs.Common.{◌≡◌, ℕ, ◌+◌, ◌*◌, ◌/◌, ◌%◌, ◌^◌, ◌<◌, ◌==◌, ◌&&◌, ◌||◌, not, nat_lt, Bool, true, false, if◌then◌else◌, refl, sym, ap, ◌∙◌, arith, ltb-true, eqb-true}
use Rattle.std.proofs.lemmas.Bool.{and_parts, not-true}
use Rattle.std.proofs.Math.Nat.{div-le_self}
use Rattle.std.specs.Int.{from_bool}
use Rattle.arm_isa.specs.Fields.{bits, bit}
use Rattle.arm_isa.specs.Immediates.{immediate_value}
use Rattle.arm_isa.specs.Numbers.{LSL, LSR, ASR, SUB, CMP, RSB, ADD, CMN, ADC, SBC, RSC}
use Rattle.arm_isa.proofs.ImmediateLaws.{immediate_value-lt}
use Rattle.arm_isa.proofs.Rotations.{rotated-lt}
use Rattle.arm2_alu.specs.declared.operations.Computed.{Computed}
use Rattle.arm2_alu.specs.declared.shifts.Shifted.{Shifted}
use Rattle.arm2_alu.specs.Operands.{immediate_operand, amount_operand, register_operand, second_operand}
use Rattle.arm2_alu.specs.Operations.{computed, logical}
use Rattle.arm2_alu.specs.Shifts.{complement, complemented, shifted_left, shifted_right, shifted_signed, turned_right, shifted, rotated_through_carry, shifted_by_field}
use Rattle.arm2_alu.proofs.ShiftValues.{field-lsl_0}
use Rattle.arm2_alu.proofs.ValueLaws.{value-computed, value-lt, whole-register, subtracted-compared, computed-add, computed-adc, subtracted-borrowed}
use Rattle.arm2_machine.specs.Machine.{Machine}
use Rattle.arm_core.specs.Core.{Core, IsGood, IsAt}
use Rattle.arm_core.specs.Effects.{shifted_register, shifted_by_register, operand_in, bitwise, result_of, is_plain_register, is_plain_operand}
use Rattle.arm_core.proofs.States.{reads, reads-carry}

-- ---- shifts give words

quotient_lt : (n k : ℕ) → n < 2 ^ 32 → n / 2 ^ k < 2 ^ 32
quotient_lt n k small = omega (arith, small, div-le_self n (2 ^ k))

right_lt : (n by : ℕ) → n < 2 ^ 32 → (shifted_right n by).value < 2 ^ 32
unfolding shifted_right
right_lt n by small = quotient_lt n by small

signed_lt : (n by : ℕ) → n < 2 ^ 32 → (shifted_signed n by).value < 2 ^ 32
unfolding shifted_signed
signed_lt n by small = each (bit n 31)
  where
    each : (b : Bool) → (if b then complemented (shifted_right (complement n) by) else shifted_right n by).value < 2 ^ 32
    each true = omega arith
    each false = right_lt n by small

pub shifted-lt : (kind n by : ℕ) (c : Bool) → n < 2 ^ 32 → (shifted kind n by c).value < 2 ^ 32
unfolding shifted shifted_left turned_right
shifted-lt kind n by c small = each (by == 0) (kind == LSL) (kind == LSR) (kind == ASR)
  where
    each : (b0 b1 b2 b3 : Bool) → (if b0 then record { value = n; carry = c } else if b1 then shifted_left n by else if b2 then shifted_right n by else if b3 then shifted_signed n by else turned_right n by).value < 2 ^ 32
    each true b1 b2 b3 = small
    each false true b2 b3 = omega arith
    each false false true b3 = right_lt n by small
    each false false false true = signed_lt n by small
    each false false false false = rotated-lt n (by % 32) small (omega arith)

pub field-lt : (kind n by : ℕ) (c : Bool) → n < 2 ^ 32 → (shifted_by_field kind n by c).value < 2 ^ 32
unfolding shifted_by_field rotated_through_carry
field-lt kind n by c small = each (by == 0) (kind == LSL) (kind == LSR) (kind == ASR)
  where
    each : (b0 b1 b2 b3 : Bool) → (if b0 then (if b1 then record { value = n; carry = c } else if b2 then shifted LSR n 32 c else if b3 then shifted ASR n 32 c else rotated_through_carry n c) else shifted kind n by c).value < 2 ^ 32
    each true true b2 b3 = small
    each true false true b3 = shifted-lt LSR n 32 c small
    each true false false true = shifted-lt ASR n 32 c small
    each true false false false = half c
      where
        half : (b : Bool) → from_bool b * 2 ^ 31 + n / 2 < 2 ^ 32
        half true = omega (arith, small)
        half false = omega (arith, small)
    each false b1 b2 b3 = shifted-lt kind n by c small

pub operand-lt : (imm : Bool) (op2 : ℕ) (s : Core) → IsGood s → (operand_in imm op2 s).value < 2 ^ 32
operand-lt true op2 s good = immediate_value-lt op2
operand-lt false op2 s good = by_kind (bit op2 4)
  where
    each : (b : Bool) → (if b then record { value = s.regs (bits op2 3 0); carry = s.c } else shifted_by_field (bits op2 6 5) (s.regs (bits op2 3 0)) (bits op2 11 7) s.c).value < 2 ^ 32
    each true = good.regs (bits op2 3 0)
    each false = field-lt (bits op2 6 5) (s.regs (bits op2 3 0)) (bits op2 11 7) s.c (good.regs (bits op2 3 0))

    by_kind : (b : Bool) → (if b then shifted_by_register op2 s else shifted_register op2 s).value < 2 ^ 32
    by_kind true = shifted-lt (bits op2 6 5) (s.regs (bits op2 3 0)) (s.regs (bits op2 11 8) % 2 ^ 8) s.c (good.regs (bits op2 3 0))
    by_kind false = each (bits op2 11 4 == 0)

-- ---- operands

-- the parts of a plain register operand
pub plain-parts : (op2 : ℕ) → is_plain_register op2 ≡ true → (bit op2 4 ≡ false) × (bits op2 3 0 < 15)
plain-parts op2 plain =
    let rest = (and_parts (nat_lt op2 (2 ^ 12)) (not (bit op2 4) && nat_lt (bits op2 3 0) 15) plain).1 in
    let parts = and_parts (not (bit op2 4)) (nat_lt (bits op2 3 0) 15) rest in
    (not-true (bit op2 4) parts.0, ltb-true (bits op2 3 0) 15 parts.1)

-- and of a plain second operand
pub operand-parts : (op2 : ℕ) → is_plain_operand op2 ≡ true → (bits op2 3 0 < 15) × (bit op2 4 ≡ true → bits op2 11 8 < 15)
operand-parts op2 plain =
    let rest = (and_parts (nat_lt op2 (2 ^ 12)) (nat_lt (bits op2 3 0) 15 && (not (bit op2 4) || (not (bit op2 7) && nat_lt (bits op2 11 8) 15))) plain).1 in
    let parts = and_parts (nat_lt (bits op2 3 0) 15) (not (bit op2 4) || (not (bit op2 7) && nat_lt (bits op2 11 8) 15)) rest in (
      ltb-true (bits op2 3 0) 15 parts.0,
      λ e. let there : (not (bit op2 7) && nat_lt (bits op2 11 8) 15) ≡ true = sym (λ i. not (e i) || (not (bit op2 7) && nat_lt (bits op2 11 8) 15)) ∙ parts.1 in
          ltb-true (bits op2 11 8) 15 (and_parts (not (bit op2 7)) (nat_lt (bits op2 11 8) 15) there).1,
    )

amount_is : (s : Core) (pc : ℕ) (m : Machine) (op2 : ℕ) → IsAt s pc m → bit op2 4 ≡ false → bits op2 3 0 < 15 → amount_operand m.regs op2 ≡ shifted_register op2 s
unfolding amount_operand
amount_is s pc m op2 is clear low =
    (λ i. shifted_by_field (bits op2 6 5) ((whole-register m.regs 8 (bits op2 3 0) low ∙ reads s pc m is (bits op2 3 0) low) i) (bits op2 11 7) (reads-carry s m.regs is.psr i))
    ∙ each (bits op2 11 4 == 0) refl
  where
    each : (b : Bool) → (bits op2 11 4 == 0) ≡ b
        → shifted_by_field (bits op2 6 5) (s.regs (bits op2 3 0)) (bits op2 11 7) s.c
        ≡ (if b then record { value = s.regs (bits op2 3 0); carry = s.c } else shifted_by_field (bits op2 6 5) (s.regs (bits op2 3 0)) (bits op2 11 7) s.c)
    each true e =
        let none = eqb-true (bits op2 11 4) 0 e in
        let kind : bits op2 6 5 ≡ 0 = omega (arith, none) in
        let by : bits op2 11 7 ≡ 0 = omega (arith, none) in
        (λ i. shifted_by_field (kind i) (s.regs (bits op2 3 0)) (by i) s.c) ∙ field-lsl_0 (s.regs (bits op2 3 0)) s.c
    each false e = refl

pub amount-is : (s : Core) (pc : ℕ) (m : Machine) (op2 : ℕ) → IsAt s pc m → is_plain_register op2 ≡ true → amount_operand m.regs op2 ≡ shifted_register op2 s
amount-is s pc m op2 is plain = let parts = plain-parts op2 plain in amount_is s pc m op2 is parts.0 parts.1

-- a register that is shifted by another
by_register_is : (s : Core) (pc : ℕ) (m : Machine) (op2 : ℕ) → IsAt s pc m → bits op2 3 0 < 15 → bits op2 11 8 < 15 → register_operand m.regs op2 ≡ shifted_by_register op2 s
unfolding register_operand
by_register_is s pc m op2 is low count =
    (λ i. shifted (bits op2 6 5) ((whole-register m.regs 12 (bits op2 3 0) low ∙ reads s pc m is (bits op2 3 0) low) i) (reads s pc m is (bits op2 11 8) count i % 2 ^ 8) (reads-carry s m.regs is.psr i))

pub operand-is : (s : Core) (pc : ℕ) (m : Machine) (imm : Bool) (op2 : ℕ) → IsAt s pc m → (imm || is_plain_operand op2) ≡ true → second_operand m.regs imm op2 ≡ operand_in imm op2 s
unfolding second_operand immediate_operand
operand-is s pc m true op2 is plain = (λ i. record { value = immediate_value op2; carry = if bits op2 11 8 == 0 then reads-carry s m.regs is.psr i else bit (immediate_value op2) 31 })
operand-is s pc m false op2 is plain = each (bit op2 4) refl
  where
    each : (b : Bool) → bit op2 4 ≡ b → (if b then register_operand m.regs op2 else amount_operand m.regs op2) ≡ (if b then shifted_by_register op2 s else shifted_register op2 s)
    each true e = let parts = operand-parts op2 plain in by_register_is s pc m op2 is parts.0 (parts.1 e)
    each false e = amount_is s pc m op2 is e (operand-parts op2 plain).0

-- ---- operations

pub result-is : (op a : ℕ) (b : Shifted) (c v : Bool) → a < 2 ^ 32 → b.value < 2 ^ 32 → computed op a b c v ≡ result_of op a b c v
unfolding computed logical
result-is op a b c v small below =
    (λ i. if (op == SUB) || (op == CMP) then subtracted-compared a b.value small below i
    else if op == RSB then subtracted-compared b.value a below small i
    else if (op == ADD) || (op == CMN) then computed-add a b c v i
    else if op == ADC then computed-adc a b c v i
    else if op == SBC then subtracted-borrowed a b.value c below i
    else if op == RSC then subtracted-borrowed b.value a c small i
    else record { value = bitwise op a b.value; carry = b.carry; overflow = v })

pub result-lt : (op a : ℕ) (b : Shifted) (c v : Bool) → a < 2 ^ 32 → b.value < 2 ^ 32 → (result_of op a b c v).value < 2 ^ 32
result-lt op a b c v small below =
    let is = ap (λ (x : Computed). x.value) (result-is op a b c v small below) in
    let value = value-computed op a b c v small below in
    omega (arith, is, value, value-lt op a b.value c small below)
