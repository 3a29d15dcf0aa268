-- What the second operand of an instruction is that shifts a register: by 1 to 31 bits, or by the low byte of another register.
use Rattle.std.proofs.Common.{◌≡◌, ℕ, ◌+◌, ◌-◌, ◌*◌, ◌/◌, ◌%◌, ◌^◌, ◌<◌, ◌≤◌, ◌==◌, false, ap, ◌∙◌, arith}
use Rattle.std.proofs.lemmas.Bool.{ne_eqb, cond-true, cond-false}
use Rattle.arm_isa.specs.Fields.{bits, bit}
use Rattle.arm_isa.specs.Immediates.{rotated}
use Rattle.arm_isa.specs.Numbers.{LSL, LSR, ASR, ROR}
use Rattle.arm_isa.proofs.ShiftFields.{shift-fields, register_shift-fields}
use Rattle.arm2_alu.specs.declared.shifts.Shifted.{Shifted}
use Rattle.arm2_alu.specs.Shifts.{shifted, shifted_by_field}
use Rattle.arm2_alu.proofs.ShiftValues.{field-amount, shifted-lsl, shifted-lsr, shifted-asr_low, shifted-asr_high, shifted-ror}
use Rattle.arm_core.specs.Core.{Core}
use Rattle.arm_core.specs.Effects.{shifted_register, shifted_by_register, operand_in}

-- the register, shifted
pub operand-shifted : (by kind rm : ℕ) (s : Core) → 0 < by → by < 32 → kind < 4 → rm < 15 → operand_in false (by * 2 ^ 7 + kind * 2 ^ 5 + rm) s ≡ shifted kind (s.regs rm) by s.c
operand-shifted by kind rm s some few four low =
    let op2 = by * 2 ^ 7 + kind * 2 ^ 5 + rm in
    let fields = shift-fields by kind rm few four (omega (arith, low)) in
    let shifts : (bits op2 11 4 == 0) ≡ false = ne_eqb (bits op2 11 4) 0 (λ e. omega (arith, e, some)) in
    cond-false (bit op2 4) (shifted_by_register op2 s) (shifted_register op2 s) fields.3
    ∙ cond-false (bits op2 11 4 == 0) (record { value = s.regs (bits op2 3 0); carry = s.c }) (shifted_by_field (bits op2 6 5) (s.regs (bits op2 3 0)) (bits op2 11 7) s.c) shifts
    ∙ (λ i. shifted_by_field (fields.2 i) (s.regs (fields.4 i)) (fields.1 i) s.c)
    ∙ field-amount kind (s.regs rm) by s.c some

-- Rm,LSL #by
pub lsl-value : (by rm : ℕ) (s : Core) → 0 < by → by < 32 → rm < 15 → (operand_in false (by * 2 ^ 7 + rm) s).value ≡ s.regs rm * 2 ^ by % 2 ^ 32
lsl-value by rm s some few low =
    let sum : by * 2 ^ 7 + rm ≡ by * 2 ^ 7 + 0 * 2 ^ 5 + rm = omega arith in
    ap (λ op2. (operand_in false op2 s).value) sum
    ∙ ap (λ (x : Shifted). x.value) (operand-shifted by LSL rm s some few (omega arith) low ∙ shifted-lsl (s.regs rm) by s.c some (omega (arith, few)))

-- Rm,LSR #by
pub lsr-value : (by rm : ℕ) (s : Core) → 0 < by → by < 32 → rm < 15 → (operand_in false (by * 2 ^ 7 + 1 * 2 ^ 5 + rm) s).value ≡ s.regs rm / 2 ^ by
lsr-value by rm s some few low =
    ap (λ (x : Shifted). x.value) (operand-shifted by LSR rm s some few (omega arith) low ∙ shifted-lsr (s.regs rm) by s.c some)

-- Rm,ASR #by, of a number that isn't negative
pub asr-value_low : (by rm : ℕ) (s : Core) → 0 < by → by < 32 → rm < 15 → s.regs rm < 2 ^ 31 → (operand_in false (by * 2 ^ 7 + 2 * 2 ^ 5 + rm) s).value ≡ s.regs rm / 2 ^ by
asr-value_low by rm s some few low small =
    ap (λ (x : Shifted). x.value) (operand-shifted by ASR rm s some few (omega arith) low ∙ shifted-asr_low (s.regs rm) by s.c small ∙ shifted-lsr (s.regs rm) by s.c some)

-- and of one that is: the bits that come in are 1
pub asr-value_high : (by rm : ℕ) (s : Core) → 0 < by → by < 32 → rm < 15 → 2 ^ 31 ≤ s.regs rm → s.regs rm < 2 ^ 32
    → (operand_in false (by * 2 ^ 7 + 2 * 2 ^ 5 + rm) s).value ≡ s.regs rm / 2 ^ by + (2 ^ 32 - 2 ^ (32 - by))
asr-value_high by rm s some few low high small =
    ap (λ (x : Shifted). x.value) (operand-shifted by ASR rm s some few (omega arith) low ∙ shifted-asr_high (s.regs rm) by s.c high small some (omega (arith, few)))

-- ---- by the low byte of a register

-- the register, shifted
pub operand-by_register : (rs kind rm : ℕ) (s : Core) → rs < 15 → kind < 4 → rm < 15 → operand_in false (rs * 2 ^ 8 + kind * 2 ^ 5 + 1 * 2 ^ 4 + rm) s ≡ shifted kind (s.regs rm) (s.regs rs % 2 ^ 8) s.c
operand-by_register rs kind rm s count four low =
    let op2 = rs * 2 ^ 8 + kind * 2 ^ 5 + 1 * 2 ^ 4 + rm in
    let fields = register_shift-fields rs kind rm (omega (arith, count)) four (omega (arith, low)) in
    cond-true (bit op2 4) (shifted_by_register op2 s) (shifted_register op2 s) fields.4
    ∙ (λ i. shifted (fields.3 i) (s.regs (fields.5 i)) (s.regs (fields.1 i) % 2 ^ 8) s.c)

-- Rm,LSL Rs, by 1 to 32 bits
pub lsl_by-value : (rs rm by : ℕ) (s : Core) → rs < 15 → rm < 15 → s.regs rs % 2 ^ 8 ≡ by → 0 < by → by ≤ 32 → (operand_in false (rs * 2 ^ 8 + 0 * 2 ^ 5 + 1 * 2 ^ 4 + rm) s).value ≡ s.regs rm * 2 ^ by % 2 ^ 32
lsl_by-value rs rm by s count low is some few =
    ap (λ (x : Shifted). x.value) (operand-by_register rs LSL rm s count (omega arith) low ∙ ap (λ k. shifted LSL (s.regs rm) k s.c) is ∙ shifted-lsl (s.regs rm) by s.c some few)

-- Rm,LSR Rs, by 1 bit or more
pub lsr_by-value : (rs rm by : ℕ) (s : Core) → rs < 15 → rm < 15 → s.regs rs % 2 ^ 8 ≡ by → 0 < by → (operand_in false (rs * 2 ^ 8 + 1 * 2 ^ 5 + 1 * 2 ^ 4 + rm) s).value ≡ s.regs rm / 2 ^ by
lsr_by-value rs rm by s count low is some =
    ap (λ (x : Shifted). x.value) (operand-by_register rs LSR rm s count (omega arith) low ∙ ap (λ k. shifted LSR (s.regs rm) k s.c) is ∙ shifted-lsr (s.regs rm) by s.c some)

-- Rm,ASR Rs, of a number that isn't negative
pub asr_by-value_low : (rs rm by : ℕ) (s : Core) → rs < 15 → rm < 15 → s.regs rs % 2 ^ 8 ≡ by → 0 < by → s.regs rm < 2 ^ 31 → (operand_in false (rs * 2 ^ 8 + 2 * 2 ^ 5 + 1 * 2 ^ 4 + rm) s).value ≡ s.regs rm / 2 ^ by
asr_by-value_low rs rm by s count low is some small =
    ap (λ (x : Shifted). x.value)
    (operand-by_register rs ASR rm s count (omega arith) low ∙ ap (λ k. shifted ASR (s.regs rm) k s.c) is ∙ shifted-asr_low (s.regs rm) by s.c small ∙ shifted-lsr (s.regs rm) by s.c some)

-- and of one that is, by 1 to 32 bits: the bits that come in are 1
pub asr_by-value_high : (rs rm by : ℕ) (s : Core) → rs < 15 → rm < 15 → s.regs rs % 2 ^ 8 ≡ by → 0 < by → by ≤ 32 → 2 ^ 31 ≤ s.regs rm → s.regs rm < 2 ^ 32
    → (operand_in false (rs * 2 ^ 8 + 2 * 2 ^ 5 + 1 * 2 ^ 4 + rm) s).value ≡ s.regs rm / 2 ^ by + (2 ^ 32 - 2 ^ (32 - by))
asr_by-value_high rs rm by s count low is some few high small =
    ap (λ (x : Shifted). x.value)
    (operand-by_register rs ASR rm s count (omega arith) low ∙ ap (λ k. shifted ASR (s.regs rm) k s.c) is ∙ shifted-asr_high (s.regs rm) by s.c high small some few)

-- Rm,ROR Rs, by 1 bit or more: the number of bits counts modulo 32
pub ror_by-value : (rs rm by : ℕ) (s : Core) → rs < 15 → rm < 15 → s.regs rs % 2 ^ 8 ≡ by → 0 < by → (operand_in false (rs * 2 ^ 8 + 3 * 2 ^ 5 + 1 * 2 ^ 4 + rm) s).value ≡ rotated (s.regs rm) (by % 32)
ror_by-value rs rm by s count low is some =
    ap (λ (x : Shifted). x.value) (operand-by_register rs ROR rm s count (omega arith) low ∙ ap (λ k. shifted ROR (s.regs rm) k s.c) is ∙ shifted-ror (s.regs rm) by s.c some)
