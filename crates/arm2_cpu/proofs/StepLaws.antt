-- One instruction at the PC, for each form that generated code uses: exactly these registers and this memory.
use Rattle.std.proofs.Common.{◌≡◌, ℕ, ◌+◌, ◌%◌, ◌^◌, ◌<◌, ◌==◌, ◌||◌, ◌&&◌, not, Bool, true, false, if◌then◌else◌, List, ℤ, refl, ap, ◌∙◌, arith}
use Rattle.std.proofs.Math.Bool.{and-false}
use Rattle.arm_isa.specs.declared.instruction.Instr.TheVariants.{Data, Branch, Swi}
use Rattle.arm_isa.specs.Fields.{bits}
use Rattle.arm_isa.specs.Immediates.{immediate_value}
use Rattle.arm_isa.proofs.ImmediateLaws.{immediate_value-lt}
use Rattle.arm2_cpu.specs.declared.event.CpuEvent.TheVariants as events
use Rattle.arm2_alu.specs.declared.operations.Computed.{Computed}
use Rattle.arm_isa.specs.Numbers.{SUB, ADD, CMP, MOV, R15}
use Rattle.arm2_alu.specs.declared.regs.Regs.{Regs}
use Rattle.arm2_alu.specs.declared.shifts.Shifted.{Shifted}
use Rattle.arm2_cpu.specs.Branch.{branch_step, branch_target}
use Rattle.arm2_alu.specs.Conditions.{carry, overflow, holds}
use Rattle.arm2_alu.specs.Results.{flagged, loaded}
use Rattle.arm2_cpu.specs.Data.{tested, set_with_flags, concluded, data_step}
use Rattle.arm2_cpu.specs.Memory.{Space}
use Rattle.arm2_alu.specs.Operands.{by_register, ahead_of, first_operand, second_operand}
use Rattle.arm2_alu.specs.Operations.{is_test, logical, computed}
use Rattle.arm2_cpu.specs.Outcomes.{with_memory, ran}
use Rattle.arm2_alu.specs.Registers.{register, with_register, r15, at_next, jumped}
use Rattle.arm2_cpu.specs.Step.{class_step, cpu_step}
use Rattle.arm2_cpu.specs.Unpredictable.{is_unpredictable_data, is_unpredictable}
use Rattle.arm2_cpu.proofs.StepBasics.{Fetches, goes, step-skipped, step-by_class}
use Rattle.arm2_alu.proofs.ValueLaws.{not_r15, minus, value_of, compared, summed, value-computed, computed-cmp, computed-sub, computed-add, first-register, second-immediate, plain_is_amount, second-plain}

-- a register takes a value
pub loaded-register : (r : Regs) (rd value : ℕ) → rd < 15 → loaded r rd value ≡ at_next (with_register r rd value)
unfolding loaded
loaded-register r rd value low = rw (not_r15 rd low) refl

-- ---- data processing

-- data processing that is executed
data_by_class : (s : Space) (r : Regs) (bytes : List ℕ) (cond : ℕ) (imm : Bool) (op : ℕ) (flags : Bool) (rn rd op2 : ℕ)
    → Fetches s r bytes (Data cond imm op flags rn rd op2) → holds cond r ≡ true → is_unpredictable_data imm op flags op2 ≡ false
    → cpu_step s r bytes ≡ with_memory bytes (data_step r imm op flags rn rd op2)
unfolding class_step is_unpredictable
data_by_class s r bytes cond imm op flags rn rd op2 f meets fine = step-by_class s r bytes (Data cond imm op flags rn rd op2) f meets fine

-- the result of an operation
abbrev pub outcome : Regs → Bool → ℕ → ℕ → ℕ → Computed
outcome r imm op rn op2 = computed op (first_operand r (ahead_of imm op2) rn) (second_operand r imm op2) (carry r) (overflow r)

not_open : (imm : Bool) (op : ℕ) (flags : Bool) (op2 : ℕ) → (is_test op && not flags) ≡ false → by_register imm op2 ≡ false → is_unpredictable_data imm op flags op2 ≡ false
not_open imm op flags op2 no_test no_register = (λ i. no_test i || (no_register i && (bits op2 11 8 == R15)))

-- without S
data_plain : (r : Regs) (imm : Bool) (op rn rd op2 : ℕ) → is_test op ≡ false → rd < 15
    → data_step r imm op false rn rd op2 ≡ ran (at_next (with_register r rd (outcome r imm op rn op2).value))
unfolding data_step concluded
data_plain r imm op rn rd op2 no_test low = rw no_test (ap ran (loaded-register r rd (outcome r imm op rn op2).value low))

-- the operands by their values
first_at : (r : Regs) (imm : Bool) (rn op2 a : ℕ) → by_register imm op2 ≡ false → first_operand r 8 rn ≡ a → first_operand r (ahead_of imm op2) rn ≡ a
first_at r imm rn op2 a no_register first = (λ i. first_operand r (if no_register i then 12 else 8) rn) ∙ first

outcome_value : (r : Regs) (imm : Bool) (op rn op2 a b : ℕ) → by_register imm op2 ≡ false → first_operand r 8 rn ≡ a → (second_operand r imm op2).value ≡ b → a < 2 ^ 32 → b < 2 ^ 32
    → (outcome r imm op rn op2).value ≡ value_of op a b (carry r)
outcome_value r imm op rn op2 a b no_register first second small below =
    let one = first_at r imm rn op2 a no_register first in
    value-computed op (first_operand r (ahead_of imm op2) rn) (second_operand r imm op2) (carry r) (overflow r) (omega (arith, one, small)) (omega (arith, second, below))
    ∙ (λ i. value_of op (one i) (second i) (carry r))

-- data processing without S, with an immediate or a register operand: Rd takes the value
pub step-data : (s : Space) (r : Regs) (bytes : List ℕ) (cond : ℕ) (imm : Bool) (op rn rd op2 a b : ℕ)
    → Fetches s r bytes (Data cond imm op false rn rd op2) → holds cond r ≡ true → is_test op ≡ false → by_register imm op2 ≡ false → rd < 15
    → first_operand r 8 rn ≡ a → (second_operand r imm op2).value ≡ b → a < 2 ^ 32 → b < 2 ^ 32
    → cpu_step s r bytes ≡ goes (at_next (with_register r rd (value_of op a b (carry r)))) bytes
step-data s r bytes cond imm op rn rd op2 a b f meets no_test no_register low first second small below =
    data_by_class s r bytes cond imm op false rn rd op2 f meets (not_open imm op false op2 (λ i. no_test i && not false) no_register)
    ∙ ap (with_memory bytes) (data_plain r imm op rn rd op2 no_test low)
    ∙ ap (λ v. goes (at_next (with_register r rd v)) bytes) (outcome_value r imm op rn op2 a b no_register first second small below)

-- the same with an immediate, from a register
pub step-data_immediate : (s : Space) (r : Regs) (bytes : List ℕ) (cond op rn rd op2 : ℕ)
    → Fetches s r bytes (Data cond true op false rn rd op2) → holds cond r ≡ true → is_test op ≡ false → rn < 15 → rd < 15
    → register r rn < 2 ^ 32
    → cpu_step s r bytes ≡ goes (at_next (with_register r rd (value_of op (register r rn) (immediate_value op2) (carry r)))) bytes
step-data_immediate s r bytes cond op rn rd op2 f meets no_test from low small =
    step-data s r bytes cond true op rn rd op2 (register r rn) (immediate_value op2) f meets no_test refl low (first-register r 8 rn from) (second-immediate r op2) small (immediate_value-lt op2)

-- the same with a register that isn't shifted
pub step-data_register : (s : Space) (r : Regs) (bytes : List ℕ) (cond op rn rd rm : ℕ)
    → Fetches s r bytes (Data cond false op false rn rd rm) → holds cond r ≡ true → is_test op ≡ false → rn < 15 → rd < 15 → rm < 15
    → register r rn < 2 ^ 32 → register r rm < 2 ^ 32
    → cpu_step s r bytes ≡ goes (at_next (with_register r rd (value_of op (register r rn) (register r rm) (carry r)))) bytes
step-data_register s r bytes cond op rn rd rm f meets no_test from low other small below =
    step-data s r bytes cond false op rn rd rm (register r rn) (register r rm) f meets no_test (plain_is_amount rm other) low (first-register r 8 rn from) (ap (λ (x : Shifted). x.value) (second-plain r rm other)) small below

-- MOV Rd,#n and MOV Rd,Rm, whatever Rn is
moved_value : (r : Regs) (imm : Bool) (rn op2 : ℕ) → (outcome r imm MOV rn op2).value ≡ (second_operand r imm op2).value
unfolding computed logical
moved_value r imm rn op2 = refl

pub step-mov : (s : Space) (r : Regs) (bytes : List ℕ) (cond : ℕ) (imm : Bool) (rn rd op2 b : ℕ)
    → Fetches s r bytes (Data cond imm MOV false rn rd op2) → holds cond r ≡ true → by_register imm op2 ≡ false → rd < 15
    → (second_operand r imm op2).value ≡ b
    → cpu_step s r bytes ≡ goes (at_next (with_register r rd b)) bytes
step-mov s r bytes cond imm rn rd op2 b f meets no_register low second =
    data_by_class s r bytes cond imm MOV false rn rd op2 f meets (not_open imm MOV false op2 refl no_register)
    ∙ ap (with_memory bytes) (data_plain r imm MOV rn rd op2 refl low)
    ∙ ap (λ v. goes (at_next (with_register r rd v)) bytes) (moved_value r imm rn op2 ∙ second)

pub step-mov_immediate : (s : Space) (r : Regs) (bytes : List ℕ) (cond rn rd op2 : ℕ)
    → Fetches s r bytes (Data cond true MOV false rn rd op2) → holds cond r ≡ true → rd < 15
    → cpu_step s r bytes ≡ goes (at_next (with_register r rd (immediate_value op2))) bytes
step-mov_immediate s r bytes cond rn rd op2 f meets low = step-mov s r bytes cond true rn rd op2 (immediate_value op2) f meets refl low (second-immediate r op2)

pub step-mov_register : (s : Space) (r : Regs) (bytes : List ℕ) (cond rn rd rm : ℕ)
    → Fetches s r bytes (Data cond false MOV false rn rd rm) → holds cond r ≡ true → rd < 15 → rm < 15
    → cpu_step s r bytes ≡ goes (at_next (with_register r rd (register r rm))) bytes
step-mov_register s r bytes cond rn rd rm f meets low other =
    step-mov s r bytes cond false rn rd rm (register r rm) f meets (plain_is_amount rm other) low (ap (λ (x : Shifted). x.value) (second-plain r rm other))

-- a shift whose amount is in a register below R15
not_open_by_register : (op : ℕ) (flags : Bool) (op2 : ℕ) → (is_test op && not flags) ≡ false → (bits op2 11 8 == R15) ≡ false → is_unpredictable_data false op flags op2 ≡ false
not_open_by_register op flags op2 no_test amount = (λ i. no_test i || (by_register false op2 && amount i)) ∙ and-false (by_register false op2)

-- data processing whose shift has its amount in a register, from a register
pub step-data_by_register : (s : Space) (r : Regs) (bytes : List ℕ) (cond op rn rd op2 b : ℕ)
    → Fetches s r bytes (Data cond false op false rn rd op2) → holds cond r ≡ true → is_test op ≡ false → (bits op2 11 8 == R15) ≡ false → rn < 15 → rd < 15
    → (second_operand r false op2).value ≡ b → register r rn < 2 ^ 32 → b < 2 ^ 32
    → cpu_step s r bytes ≡ goes (at_next (with_register r rd (value_of op (register r rn) b (carry r)))) bytes
step-data_by_register s r bytes cond op rn rd op2 b f meets no_test amount from low second small below =
    let one = first-register r (ahead_of false op2) rn from in
    data_by_class s r bytes cond false op false rn rd op2 f meets (not_open_by_register op false op2 (λ i. no_test i && not false) amount)
    ∙ ap (with_memory bytes) (data_plain r false op rn rd op2 no_test low)
    ∙ ap (λ v. goes (at_next (with_register r rd v)) bytes)
    (value-computed op (first_operand r (ahead_of false op2) rn) (second_operand r false op2) (carry r) (overflow r) (omega (arith, one, small)) (omega (arith, second, below))
    ∙ (λ i. value_of op (one i) (second i) (carry r)))

-- MOV Rd,Rm whose shift has its amount in a register, whatever Rn is
pub step-mov_by_register : (s : Space) (r : Regs) (bytes : List ℕ) (cond rn rd op2 b : ℕ)
    → Fetches s r bytes (Data cond false MOV false rn rd op2) → holds cond r ≡ true → (bits op2 11 8 == R15) ≡ false → rd < 15
    → (second_operand r false op2).value ≡ b
    → cpu_step s r bytes ≡ goes (at_next (with_register r rd b)) bytes
step-mov_by_register s r bytes cond rn rd op2 b f meets amount low second =
    data_by_class s r bytes cond false MOV false rn rd op2 f meets (not_open_by_register MOV false op2 refl amount)
    ∙ ap (with_memory bytes) (data_plain r false MOV rn rd op2 refl low)
    ∙ ap (λ v. goes (at_next (with_register r rd v)) bytes) (moved_value r false rn op2 ∙ second)

-- ---- flags

data_flagged : (r : Regs) (imm : Bool) (op rn rd op2 : ℕ) → is_test op ≡ false → rd < 15
    → data_step r imm op true rn rd op2 ≡ ran (at_next (with_register (flagged (outcome r imm op rn op2) r) rd (outcome r imm op rn op2).value))
unfolding data_step concluded set_with_flags
data_flagged r imm op rn rd op2 no_test low =
    rw (no_test, not_r15 rd low) (ap ran (loaded-register (flagged (outcome r imm op rn op2) r) rd (outcome r imm op rn op2).value low))

-- data processing with S into a register: the flags, and the value
pub step-data_flags : (s : Space) (r : Regs) (bytes : List ℕ) (cond : ℕ) (imm : Bool) (op rn rd op2 : ℕ) (x : Computed)
    → Fetches s r bytes (Data cond imm op true rn rd op2) → holds cond r ≡ true → is_test op ≡ false → by_register imm op2 ≡ false → rd < 15
    → outcome r imm op rn op2 ≡ x
    → cpu_step s r bytes ≡ goes (at_next (with_register (flagged x r) rd x.value)) bytes
step-data_flags s r bytes cond imm op rn rd op2 x f meets no_test no_register low is =
    data_by_class s r bytes cond imm op true rn rd op2 f meets (not_open imm op true op2 (and-false (is_test op)) no_register)
    ∙ ap (with_memory bytes) (data_flagged r imm op rn rd op2 no_test low)
    ∙ ap (λ y. goes (at_next (with_register (flagged y r) rd y.value)) bytes) is

pub step-data_flags_by_register : (s : Space) (r : Regs) (bytes : List ℕ) (cond op rn rd op2 : ℕ) (x : Computed)
    → Fetches s r bytes (Data cond false op true rn rd op2) → holds cond r ≡ true → is_test op ≡ false → (bits op2 11 8 == R15) ≡ false → rd < 15
    → outcome r false op rn op2 ≡ x
    → cpu_step s r bytes ≡ goes (at_next (with_register (flagged x r) rd x.value)) bytes
step-data_flags_by_register s r bytes cond op rn rd op2 x f meets no_test amount low is =
    data_by_class s r bytes cond false op true rn rd op2 f meets (not_open_by_register op true op2 (and-false (is_test op)) amount)
    ∙ ap (with_memory bytes) (data_flagged r false op rn rd op2 no_test low)
    ∙ ap (λ y. goes (at_next (with_register (flagged y r) rd y.value)) bytes) is

-- the outcome by its operands
pub outcome-of : (r : Regs) (imm : Bool) (op rn op2 a : ℕ) (b : Shifted) → by_register imm op2 ≡ false → first_operand r 8 rn ≡ a → second_operand r imm op2 ≡ b
    → outcome r imm op rn op2 ≡ computed op a b (carry r) (overflow r)
outcome-of r imm op rn op2 a b no_register first second = (λ i. computed op (first_at r imm rn op2 a no_register first i) (second i) (carry r) (overflow r))

pub outcome-by_register : (r : Regs) (op rn op2 : ℕ) (b : Shifted) → rn < 15 → second_operand r false op2 ≡ b → outcome r false op rn op2 ≡ computed op (register r rn) b (carry r) (overflow r)
outcome-by_register r op rn op2 b from second = (λ i. computed op (first-register r (ahead_of false op2) rn from i) (second i) (carry r) (overflow r))

-- ADDS: N and Z by the sum, C where it passes 32 bits, V where the signed sum is out of range
pub step-adds : (s : Space) (r : Regs) (bytes : List ℕ) (cond : ℕ) (imm : Bool) (rn rd op2 a b : ℕ)
    → Fetches s r bytes (Data cond imm ADD true rn rd op2) → holds cond r ≡ true → by_register imm op2 ≡ false → rd < 15
    → first_operand r 8 rn ≡ a → (second_operand r imm op2).value ≡ b
    → cpu_step s r bytes ≡ goes (at_next (with_register (flagged (summed a b) r) rd ((a + b) % 2 ^ 32))) bytes
step-adds s r bytes cond imm rn rd op2 a b f meets no_register low first second =
    step-data_flags s r bytes cond imm ADD rn rd op2 (summed a b) f meets refl no_register low
    (outcome-of r imm ADD rn op2 a (second_operand r imm op2) no_register first refl ∙ computed-add a (second_operand r imm op2) (carry r) (overflow r) ∙ ap (summed a) second)

-- SUBS: N and Z by the difference, C where nothing is borrowed, V where the signed difference is out of range
pub step-subs : (s : Space) (r : Regs) (bytes : List ℕ) (cond : ℕ) (imm : Bool) (rn rd op2 a b : ℕ)
    → Fetches s r bytes (Data cond imm SUB true rn rd op2) → holds cond r ≡ true → by_register imm op2 ≡ false → rd < 15
    → first_operand r 8 rn ≡ a → (second_operand r imm op2).value ≡ b → a < 2 ^ 32 → b < 2 ^ 32
    → cpu_step s r bytes ≡ goes (at_next (with_register (flagged (compared a b) r) rd (minus a b))) bytes
step-subs s r bytes cond imm rn rd op2 a b f meets no_register low first second small below =
    step-data_flags s r bytes cond imm SUB rn rd op2 (compared a b) f meets refl no_register low
    (outcome-of r imm SUB rn op2 a (second_operand r imm op2) no_register first refl
    ∙ computed-sub a (second_operand r imm op2) (carry r) (overflow r) small (omega (arith, second, below)) ∙ ap (compared a) second)

data_tested : (r : Regs) (imm : Bool) (op : ℕ) (flags : Bool) (rn rd op2 : ℕ) → is_test op ≡ true → rd < 15
    → data_step r imm op flags rn rd op2 ≡ ran (at_next (flagged (outcome r imm op rn op2) r))
unfolding data_step concluded tested
data_tested r imm op flags rn rd op2 test low = rw (test, not_r15 rd low) refl

-- TST, TEQ, CMP and CMN: the flags alone
pub step-test : (s : Space) (r : Regs) (bytes : List ℕ) (cond : ℕ) (imm : Bool) (op rn rd op2 : ℕ) (x : Computed)
    → Fetches s r bytes (Data cond imm op true rn rd op2) → holds cond r ≡ true → is_test op ≡ true → by_register imm op2 ≡ false → rd < 15
    → outcome r imm op rn op2 ≡ x
    → cpu_step s r bytes ≡ goes (at_next (flagged x r)) bytes
step-test s r bytes cond imm op rn rd op2 x f meets test no_register low is =
    data_by_class s r bytes cond imm op true rn rd op2 f meets (not_open imm op true op2 (and-false (is_test op)) no_register)
    ∙ ap (with_memory bytes) (data_tested r imm op true rn rd op2 test low)
    ∙ ap (λ y. goes (at_next (flagged y r)) bytes) is

pub step-test_by_register : (s : Space) (r : Regs) (bytes : List ℕ) (cond op rn rd op2 : ℕ) (x : Computed)
    → Fetches s r bytes (Data cond false op true rn rd op2) → holds cond r ≡ true → is_test op ≡ true → (bits op2 11 8 == R15) ≡ false → rd < 15
    → outcome r false op rn op2 ≡ x
    → cpu_step s r bytes ≡ goes (at_next (flagged x r)) bytes
step-test_by_register s r bytes cond op rn rd op2 x f meets test amount low is =
    data_by_class s r bytes cond false op true rn rd op2 f meets (not_open_by_register op true op2 (and-false (is_test op)) amount)
    ∙ ap (with_memory bytes) (data_tested r false op true rn rd op2 test low)
    ∙ ap (λ y. goes (at_next (flagged y r)) bytes) is

compared_outcome : (r : Regs) (imm : Bool) (rn op2 a b : ℕ) → by_register imm op2 ≡ false → first_operand r 8 rn ≡ a → (second_operand r imm op2).value ≡ b → a < 2 ^ 32 → b < 2 ^ 32
    → outcome r imm CMP rn op2 ≡ compared a b
compared_outcome r imm rn op2 a b no_register first second small below =
    let one = first_at r imm rn op2 a no_register first in
    computed-cmp (first_operand r (ahead_of imm op2) rn) (second_operand r imm op2) (carry r) (overflow r) (omega (arith, one, small)) (omega (arith, second, below))
    ∙ (λ i. compared (one i) (second i))

-- CMP: N and Z by the difference, C where nothing is borrowed, V where the signed difference is out of range
pub step-cmp : (s : Space) (r : Regs) (bytes : List ℕ) (cond : ℕ) (imm : Bool) (rn rd op2 a b : ℕ)
    → Fetches s r bytes (Data cond imm CMP true rn rd op2) → holds cond r ≡ true → by_register imm op2 ≡ false → rd < 15
    → first_operand r 8 rn ≡ a → (second_operand r imm op2).value ≡ b → a < 2 ^ 32 → b < 2 ^ 32
    → cpu_step s r bytes ≡ goes (at_next (flagged (compared a b) r)) bytes
step-cmp s r bytes cond imm rn rd op2 a b f meets no_register low first second small below =
    step-test s r bytes cond imm CMP rn rd op2 (compared a b) f meets refl no_register low (compared_outcome r imm rn op2 a b no_register first second small below)

-- ---- jumps

jump_plain : (r : Regs) (rn rm : ℕ) → data_step r false MOV false rn 15 rm ≡ ran (jumped r (outcome r false MOV rn rm).value)
unfolding data_step concluded loaded
jump_plain r rn rm = refl

-- MOV PC,Rm: a jump that keeps the flags
pub step-jump_register : (s : Space) (r : Regs) (bytes : List ℕ) (cond rn rm : ℕ)
    → Fetches s r bytes (Data cond false MOV false rn 15 rm) → holds cond r ≡ true → rm < 15
    → cpu_step s r bytes ≡ goes (jumped r (register r rm)) bytes
step-jump_register s r bytes cond rn rm f meets low =
    data_by_class s r bytes cond false MOV false rn 15 rm f meets (not_open false MOV false rm refl (plain_is_amount rm low))
    ∙ ap (with_memory bytes) (jump_plain r rn rm)
    ∙ ap (λ v. goes (jumped r v) bytes) (moved_value r false rn rm ∙ ap (λ (x : Shifted). x.value) (second-plain r rm low))

branch_by_class : (s : Space) (r : Regs) (bytes : List ℕ) (cond : ℕ) (link : Bool) (words : ℤ)
    → Fetches s r bytes (Branch cond link words) → holds cond r ≡ true → cpu_step s r bytes ≡ with_memory bytes (branch_step r link words)
unfolding class_step is_unpredictable
branch_by_class s r bytes cond link words f meets = step-by_class s r bytes (Branch cond link words) f meets refl

-- B
pub step-branch : (s : Space) (r : Regs) (bytes : List ℕ) (cond : ℕ) (words : ℤ)
    → Fetches s r bytes (Branch cond false words) → holds cond r ≡ true
    → cpu_step s r bytes ≡ goes (record r { pc = branch_target r words }) bytes
unfolding branch_step
step-branch s r bytes cond words f meets = branch_by_class s r bytes cond false words f meets

-- BL: R14 takes the next address with the flags and the mode
pub step-branch_link : (s : Space) (r : Regs) (bytes : List ℕ) (cond : ℕ) (words : ℤ)
    → Fetches s r bytes (Branch cond true words) → holds cond r ≡ true
    → cpu_step s r bytes ≡ goes (record (with_register r 14 (r15 r 4)) { pc = branch_target r words }) bytes
unfolding branch_step
step-branch_link s r bytes cond words f meets = branch_by_class s r bytes cond true words f meets

-- a branch whose condition fails
pub step-branch_skipped : (s : Space) (r : Regs) (bytes : List ℕ) (cond : ℕ) (link : Bool) (words : ℤ)
    → Fetches s r bytes (Branch cond link words) → holds cond r ≡ false
    → cpu_step s r bytes ≡ goes (at_next r) bytes
step-branch_skipped s r bytes cond link words f fails = step-skipped s r bytes (Branch cond link words) f fails

-- SWI
pub step-swi : (s : Space) (r : Regs) (bytes : List ℕ) (cond number : ℕ)
    → Fetches s r bytes (Swi cond number) → holds cond r ≡ true
    → cpu_step s r bytes ≡ record { event = events.Swi number; regs = at_next r; bytes = bytes }
unfolding class_step is_unpredictable
step-swi s r bytes cond number f meets = step-by_class s r bytes (Swi cond number) f meets refl
