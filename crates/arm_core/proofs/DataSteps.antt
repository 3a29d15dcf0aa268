-- The steps of data processing and of multiplication.
use Rattle.std.proofs.Common.{◌≡◌, ℕ, ◌+◌, ◌*◌, ◌%◌, ◌^◌, ◌<◌, ◌⊎◌, ◌==◌, ◌&&◌, ◌||◌, not, nat_lt, Bool, true, false, if◌then◌else◌, List, [], inl, inr, refl, sym, ap, subst, ◌∙◌, arith, ltb-true, append-nil}
use Rattle.std.proofs.lemmas.Bool.{and_parts, not-true, false≢true, ne_eqb}
use Rattle.bv_base.specs.MemoryMap.{ram_end}
use Rattle.arm_isa.specs.Fields.{bits, bit}
use Rattle.arm_isa.specs.declared.instruction.Instr.{Instr}
use Rattle.arm_isa.specs.declared.instruction.Instr.TheVariants.{Data, Mul}
use Rattle.arm2_alu.specs.declared.operations.Computed.{Computed}
use Rattle.arm2_alu.specs.declared.regs.Regs.{Regs}
use Rattle.arm2_alu.specs.declared.shifts.Shifted.{Shifted}
use Rattle.arm2_alu.specs.Conditions.{carry, overflow, holds}
use Rattle.arm2_alu.specs.Operands.{ahead_of, second_operand}
use Rattle.arm2_alu.specs.Operations.{is_test, computed}
use Rattle.arm2_alu.specs.Registers.{register, with_register, at_next}
use Rattle.arm2_alu.specs.Results.{flagged}
use Rattle.arm2_alu.proofs.ValueLaws.{value_of, value-computed, first-register}
use Rattle.arm2_cpu.specs.Step.{cpu_step}
use Rattle.arm2_cpu.proofs.StepBasics.{Fetches, goes, step-skipped, condition_of}
use Rattle.arm2_cpu.proofs.StepLaws.{outcome, step-data, step-data_by_register, step-data_flags, step-data_flags_by_register, step-test, step-test_by_register}
use Rattle.arm2_cpu.proofs.TransferLaws.{multiply_outcome, step-mul, step-mla, step-muls, step-mlas}
use Rattle.arm2_machine.specs.Machine.{Machine, board_space}
use Rattle.arm_core.specs.Core.{Core, put, meets, IsAt}
use Rattle.arm_core.specs.Effects.{operand_in, result_of, flagged_by, computes, on_condition, product_in, is_plain_operand, is_plain_data, is_plain_multiply}
use Rattle.arm_core.specs.Made.{Makes, AtInstruction}
use Rattle.arm_core.proofs.States.{reads, reads-carry, reads-overflow, reads-condition, fetches, supervised, is-next, is-put, is-flagged}
use Rattle.arm_core.proofs.Values.{operand-parts, operand-lt, operand-is, result-is, result-lt}

-- a step of the processor that writes nothing
pub made : (s t : Core) (pc to : ℕ) (m : Machine) (r : Regs) (ram : List ℕ) → IsAt s pc m → cpu_step board_space m.regs m.ram ≡ goes r ram → t.out ≡ s.out
    → IsAt t to (record m { regs = r; ram = ram }) → Makes s m to t
made s t pc to m r ram is step same after = record {
  machine = record m { regs = r; ram = ram };
  bytes = [];
  goes = supervised s pc m (goes r ram) is step;
  out = same ∙ sym (append-nil s.out);
  is = after;
}

-- a condition that fails
pub made-skipped : (s : Core) (pc : ℕ) (m : Machine) (i : Instr) → AtInstruction s pc m i → holds (condition_of i) m.regs ≡ false → Makes s m (pc + 4) s
made-skipped s pc m i at fails =
    made s s pc (pc + 4) m _ m.ram at.is (step-skipped board_space m.regs m.ram i (fetches s pc m i at) fails) refl (is-next s pc m at.is at.inside)

-- the flags by a result that is equal to another
pub is-flagged_as : (s : Core) (pc : ℕ) (m : Machine) (y x : Computed) → IsAt s pc m → y ≡ x → IsAt (flagged_by x s) pc (record m { regs = flagged y m.regs })
is-flagged_as s pc m y x is same = subst (λ z. IsAt (flagged_by x s) pc (record m { regs = flagged z m.regs })) (sym same) (is-flagged s pc m x is)

-- ---- data processing

-- the number of bits of a shift is in the instruction, or in a register below R15
abbrev IsCounted : Bool → ℕ → Type 0
IsCounted true op2 = Unit {0}
IsCounted false op2 = (bit op2 4 ≡ false) ⊎ ((bits op2 11 8 == 15) ≡ false)

counted : (imm : Bool) (op2 : ℕ) → (imm || is_plain_operand op2) ≡ true → IsCounted imm op2
counted true op2 plain = tt
counted false op2 plain = each (bit op2 4) refl
  where
    each : (b : Bool) → bit op2 4 ≡ b → (bit op2 4 ≡ false) ⊎ ((bits op2 11 8 == 15) ≡ false)
    each true e = inr (let low = (operand-parts op2 plain).1 e in ne_eqb (bits op2 11 8) 15 (λ f. omega (arith, f, low)))
    each false e = inl e

-- the steps of the processor, with either
test_step : (m : Machine) (cond : ℕ) (imm : Bool) (op rn rd op2 : ℕ) (x : Computed) → Fetches board_space m.regs m.ram (Data cond imm op true rn rd op2) → holds cond m.regs ≡ true → is_test op ≡ true → IsCounted imm op2 → rd < 15
    → outcome m.regs imm op rn op2 ≡ x → cpu_step board_space m.regs m.ram ≡ goes (at_next (flagged x m.regs)) m.ram
test_step m cond true op rn rd op2 x f holding test c low is = step-test board_space m.regs m.ram cond true op rn rd op2 x f holding test refl low is
test_step m cond false op rn rd op2 x f holding test (inl c) low is = step-test board_space m.regs m.ram cond false op rn rd op2 x f holding test c low is
test_step m cond false op rn rd op2 x f holding test (inr c) low is = step-test_by_register board_space m.regs m.ram cond op rn rd op2 x f holding test c low is

flags_step : (m : Machine) (cond : ℕ) (imm : Bool) (op rn rd op2 : ℕ) (x : Computed) → Fetches board_space m.regs m.ram (Data cond imm op true rn rd op2) → holds cond m.regs ≡ true → is_test op ≡ false → IsCounted imm op2 → rd < 15
    → outcome m.regs imm op rn op2 ≡ x → cpu_step board_space m.regs m.ram ≡ goes (at_next (with_register (flagged x m.regs) rd x.value)) m.ram
flags_step m cond true op rn rd op2 x f holding test c low is = step-data_flags board_space m.regs m.ram cond true op rn rd op2 x f holding test refl low is
flags_step m cond false op rn rd op2 x f holding test (inl c) low is = step-data_flags board_space m.regs m.ram cond false op rn rd op2 x f holding test c low is
flags_step m cond false op rn rd op2 x f holding test (inr c) low is = step-data_flags_by_register board_space m.regs m.ram cond op rn rd op2 x f holding test c low is

plain_step : (m : Machine) (cond : ℕ) (imm : Bool) (op rn rd op2 b : ℕ) → Fetches board_space m.regs m.ram (Data cond imm op false rn rd op2) → holds cond m.regs ≡ true → is_test op ≡ false → IsCounted imm op2 → rn < 15 → rd < 15
    → (second_operand m.regs imm op2).value ≡ b → register m.regs rn < 2 ^ 32 → b < 2 ^ 32 → cpu_step board_space m.regs m.ram ≡ goes (at_next (with_register m.regs rd (value_of op (register m.regs rn) b (carry m.regs)))) m.ram
plain_step m cond true op rn rd op2 b f holding test c from low is small below =
    step-data board_space m.regs m.ram cond true op rn rd op2 (register m.regs rn) b f holding test refl low (first-register m.regs 8 rn from) is small below
plain_step m cond false op rn rd op2 b f holding test (inl c) from low is small below =
    step-data board_space m.regs m.ram cond false op rn rd op2 (register m.regs rn) b f holding test c low (first-register m.regs 8 rn from) is small below
plain_step m cond false op rn rd op2 b f holding test (inr c) from low is small below =
    step-data_by_register board_space m.regs m.ram cond op rn rd op2 b f holding test c from low is small below

-- the parts of a plain instruction
record DataParts (imm : Bool) (op : ℕ) (flags : Bool) (rn rd op2 : ℕ) : Type 0 where
  tests : (not (is_test op) || flags) ≡ true
  first : rn < 15
  last : rd < 15
  second : (imm || is_plain_operand op2) ≡ true

data_parts : (imm : Bool) (op : ℕ) (flags : Bool) (rn rd op2 : ℕ) → is_plain_data imm op flags rn rd op2 ≡ true → DataParts imm op flags rn rd op2
data_parts imm op flags rn rd op2 plain =
    let a = and_parts (not (is_test op) || flags) (nat_lt rn 15 && (nat_lt rd 15 && (imm || is_plain_operand op2))) plain in
    let b = and_parts (nat_lt rn 15) (nat_lt rd 15 && (imm || is_plain_operand op2)) a.1 in
    let c = and_parts (nat_lt rd 15) (imm || is_plain_operand op2) b.1 in
    record { tests = a.0; first = ltb-true rn 15 b.0; last = ltb-true rd 15 c.0; second = c.1 }

module _ (s : Core) (pc : ℕ) (m : Machine) (cond : ℕ) (imm : Bool) (op rn rd op2 : ℕ) (flags : Bool) (at : AtInstruction s pc m (Data cond imm op flags rn rd op2)) (parts : DataParts imm op flags rn rd op2) (holding : holds cond m.regs ≡ true) where
  abbrev result : Computed
  result = result_of op (s.regs rn) (operand_in imm op2 s) s.c s.v

  first_value : register m.regs rn ≡ s.regs rn
  first_value = reads s pc m at.is rn parts.first

  by_core : computed op (s.regs rn) (operand_in imm op2 s) (carry m.regs) (overflow m.regs) ≡ result
  by_core =
      (λ i. computed op (s.regs rn) (operand_in imm op2 s) (reads-carry s m.regs at.is.psr i) (reads-overflow s m.regs at.is.psr i))
      ∙ result-is op (s.regs rn) (operand_in imm op2 s) s.c s.v (at.is.good.regs rn) (operand-lt imm op2 s at.is.good)

  outcome_is : outcome m.regs imm op rn op2 ≡ result
  outcome_is =
      (λ i. computed op ((first-register m.regs (ahead_of imm op2) rn parts.first ∙ first_value) i) (operand-is s pc m imm op2 at.is parts.second i) (carry m.regs) (overflow m.regs))
      ∙ by_core

  result_small : result.value < 2 ^ 32
  result_small = result-lt op (s.regs rn) (operand_in imm op2 s) s.c s.v (at.is.good.regs rn) (operand-lt imm op2 s at.is.good)

  value_is : value_of op (register m.regs rn) (operand_in imm op2 s).value (carry m.regs) ≡ result.value
  value_is =
      ap (λ a. value_of op a (operand_in imm op2 s).value (carry m.regs)) first_value
      ∙ sym (value-computed op (s.regs rn) (operand_in imm op2 s) (carry m.regs) (overflow m.regs) (at.is.good.regs rn) (operand-lt imm op2 s at.is.good))
      ∙ ap (λ (x : Computed). x.value) by_core

data_tested : (s : Core) (pc : ℕ) (m : Machine) (cond : ℕ) (imm : Bool) (op rn rd op2 : ℕ) (at : AtInstruction s pc m (Data cond imm op true rn rd op2)) (parts : DataParts imm op true rn rd op2)
    → holds cond m.regs ≡ true → is_test op ≡ true → Makes s m (pc + 4) (flagged_by (result_of op (s.regs rn) (operand_in imm op2 s) s.c s.v) s)
data_tested s pc m cond imm op rn rd op2 at parts holding test =
    let x = result_of op (s.regs rn) (operand_in imm op2 s) s.c s.v in
    made s (flagged_by x s) pc (pc + 4) m _ m.ram at.is
    (test_step m cond imm op rn rd op2 x (fetches s pc m _ at) holding test (counted imm op2 parts.second) parts.last (outcome_is s pc m cond imm op rn rd op2 true at parts holding))
    refl
    (is-next (flagged_by x s) pc _ (is-flagged s pc m x at.is) at.inside)

data_flagged : (s : Core) (pc : ℕ) (m : Machine) (cond : ℕ) (imm : Bool) (op rn rd op2 : ℕ) (at : AtInstruction s pc m (Data cond imm op true rn rd op2)) (parts : DataParts imm op true rn rd op2)
    → holds cond m.regs ≡ true → is_test op ≡ false
    → (let x = result_of op (s.regs rn) (operand_in imm op2 s) s.c s.v in Makes s m (pc + 4) (put rd x.value (flagged_by x s)))
data_flagged s pc m cond imm op rn rd op2 at parts holding test =
    let x = result_of op (s.regs rn) (operand_in imm op2 s) s.c s.v in
    made s (put rd x.value (flagged_by x s)) pc (pc + 4) m _ m.ram at.is
    (flags_step m cond imm op rn rd op2 x (fetches s pc m _ at) holding test (counted imm op2 parts.second) parts.last (outcome_is s pc m cond imm op rn rd op2 true at parts holding))
    refl
    (is-next (put rd x.value (flagged_by x s)) pc _ (is-put (flagged_by x s) pc _ rd x.value x.value (is-flagged s pc m x at.is) parts.last refl (result_small s pc m cond imm op rn rd op2 true at parts holding)) at.inside)

data_plain : (s : Core) (pc : ℕ) (m : Machine) (cond : ℕ) (imm : Bool) (op rn rd op2 : ℕ) (at : AtInstruction s pc m (Data cond imm op false rn rd op2)) (parts : DataParts imm op false rn rd op2)
    → holds cond m.regs ≡ true → is_test op ≡ false
    → Makes s m (pc + 4) (put rd (result_of op (s.regs rn) (operand_in imm op2 s) s.c s.v).value s)
data_plain s pc m cond imm op rn rd op2 at parts holding test =
    let x = result_of op (s.regs rn) (operand_in imm op2 s) s.c s.v in
    let b = operand_in imm op2 s in
    made s (put rd x.value s) pc (pc + 4) m _ m.ram at.is
    (plain_step m cond imm op rn rd op2 b.value (fetches s pc m _ at) holding test (counted imm op2 parts.second) parts.first parts.last
    (ap (λ (y : Shifted). y.value) (operand-is s pc m imm op2 at.is parts.second))
    (omega (arith, first_value s pc m cond imm op rn rd op2 false at parts holding, at.is.good.regs rn)) (operand-lt imm op2 s at.is.good))
    refl
    (is-next (put rd x.value s) pc _ (is-put s pc m rd _ x.value at.is parts.last (value_is s pc m cond imm op rn rd op2 false at parts holding) (result_small s pc m cond imm op rn rd op2 false at parts holding)) at.inside)

-- with a condition that holds
data_held : (s : Core) (pc : ℕ) (m : Machine) (cond : ℕ) (imm : Bool) (op : ℕ) (flags : Bool) (rn rd op2 : ℕ) (at : AtInstruction s pc m (Data cond imm op flags rn rd op2)) (parts : DataParts imm op flags rn rd op2)
    → holds cond m.regs ≡ true → (test : Bool) → is_test op ≡ test
    → (let x = result_of op (s.regs rn) (operand_in imm op2 s) s.c s.v in Makes s m (pc + 4) (if test then flagged_by x s else if flags then put rd x.value (flagged_by x s) else put rd x.value s))
data_held s pc m cond imm op true rn rd op2 at parts holding true test = data_tested s pc m cond imm op rn rd op2 at parts holding test
data_held s pc m cond imm op false rn rd op2 at parts holding true test = absurd (false≢true (sym (λ i. not (test i) || false) ∙ parts.tests))
data_held s pc m cond imm op true rn rd op2 at parts holding false test = data_flagged s pc m cond imm op rn rd op2 at parts holding test
data_held s pc m cond imm op false rn rd op2 at parts holding false test = data_plain s pc m cond imm op rn rd op2 at parts holding test

pub data-made : (s : Core) (pc : ℕ) (m : Machine) (cond : ℕ) (imm : Bool) (op : ℕ) (flags : Bool) (rn rd op2 : ℕ) → AtInstruction s pc m (Data cond imm op flags rn rd op2)
    → is_plain_data imm op flags rn rd op2 ≡ true → Makes s m (pc + 4) (on_condition (meets cond s) (computes imm op flags rn rd op2 s) s)
data-made s pc m cond imm op flags rn rd op2 at plain = each (meets cond s) refl
  where
    each : (b : Bool) → meets cond s ≡ b → Makes s m (pc + 4) (on_condition b (computes imm op flags rn rd op2 s) s)
    each true e = data_held s pc m cond imm op flags rn rd op2 at (data_parts imm op flags rn rd op2 plain) (reads-condition s m.regs at.is.psr cond ∙ e) (is_test op) refl
    each false e = made-skipped s pc m _ at (reads-condition s m.regs at.is.psr cond ∙ e)

-- ---- multiplication

record ProductParts (rd rn rs rm : ℕ) : Type 0 where
  apart : (rd == rm) ≡ false
  d : rd < 15
  n : rn < 15
  t : rs < 15
  m : rm < 15

product_parts : (rd rn rs rm : ℕ) → is_plain_multiply rd rn rs rm ≡ true → ProductParts rd rn rs rm
product_parts rd rn rs rm plain =
    let a = and_parts (not (rd == rm)) (nat_lt rd 15 && (nat_lt rn 15 && (nat_lt rs 15 && nat_lt rm 15))) plain in
    let b = and_parts (nat_lt rd 15) (nat_lt rn 15 && (nat_lt rs 15 && nat_lt rm 15)) a.1 in
    let c = and_parts (nat_lt rn 15) (nat_lt rs 15 && nat_lt rm 15) b.1 in
    let d = and_parts (nat_lt rs 15) (nat_lt rm 15) c.1 in
    record { apart = not-true (rd == rm) a.0; d = ltb-true rd 15 b.0; n = ltb-true rn 15 c.0; t = ltb-true rs 15 d.0; m = ltb-true rm 15 d.1 }

-- the product by the registers of the board
product_is : (acc : Bool) (rd rn rs rm : ℕ) (s : Core) (pc : ℕ) (m : Machine) → IsAt s pc m → ProductParts rd rn rs rm
    → (if acc then register m.regs rm * register m.regs rs + register m.regs rn else register m.regs rm * register m.regs rs) % 2 ^ 32 ≡ product_in acc rn rs rm s
product_is acc rd rn rs rm s pc m is p =
    (λ i. (if acc then reads s pc m is rm p.m i * reads s pc m is rs p.t i + reads s pc m is rn p.n i else reads s pc m is rm p.m i * reads s pc m is rs p.t i) % 2 ^ 32)

-- Rd takes a product
product_put : (acc : Bool) (rd rn rs rm value : ℕ) (s : Core) (pc : ℕ) (m : Machine) → IsAt s pc m → pc + 4 < ram_end → ProductParts rd rn rs rm → value ≡ product_in acc rn rs rm s
    → IsAt (put rd (product_in acc rn rs rm s) s) (pc + 4) (record m { regs = at_next (with_register m.regs rd value) })
product_put acc rd rn rs rm value s pc m is inside p same =
    is-next _ pc _ (is-put s pc m rd value (product_in acc rn rs rm s) is p.d same (omega arith)) inside

product_flagged : (acc : Bool) (rd rn rs rm value : ℕ) (s : Core) (pc : ℕ) (m : Machine) → IsAt s pc m → pc + 4 < ram_end → ProductParts rd rn rs rm → value ≡ product_in acc rn rs rm s
    → (let x = product_in acc rn rs rm s in IsAt (put rd x (flagged_by (record { value = x; carry = s.c; overflow = s.v }) s)) (pc + 4) (record m { regs = at_next (with_register (flagged (multiply_outcome m.regs value) m.regs) rd value) }))
product_flagged acc rd rn rs rm value s pc m is inside p same =
    let x = product_in acc rn rs rm s in
    is-next _ pc _ (is-put _ pc _ rd value x
    (is-flagged_as s pc m (multiply_outcome m.regs value) (record { value = x; carry = s.c; overflow = s.v }) is
    (λ i. record { value = same i; carry = reads-carry s m.regs is.psr i; overflow = reads-overflow s m.regs is.psr i }))
    p.d same (omega arith)) inside

pub multiply-made : (s : Core) (pc : ℕ) (m : Machine) (acc flags : Bool) (rd rn rs rm : ℕ) → AtInstruction s pc m (Mul 14 acc flags rd rn rs rm)
    → is_plain_multiply rd rn rs rm ≡ true
    → (let x = product_in acc rn rs rm s in Makes s m (pc + 4) (put rd x (if flags then flagged_by (record { value = x; carry = s.c; overflow = s.v }) s else s)))
multiply-made s pc m false false rd rn rs rm at plain =
    let p = product_parts rd rn rs rm plain in
    made s _ pc (pc + 4) m _ m.ram at.is
    (step-mul board_space m.regs m.ram 14 rd rn rs rm (fetches s pc m _ at) (reads-condition s m.regs at.is.psr 14) p.d p.n p.t p.m p.apart) refl
    (product_put false rd rn rs rm _ s pc m at.is at.inside p (product_is false rd rn rs rm s pc m at.is p))
multiply-made s pc m true false rd rn rs rm at plain =
    let p = product_parts rd rn rs rm plain in
    made s _ pc (pc + 4) m _ m.ram at.is
    (step-mla board_space m.regs m.ram 14 rd rn rs rm (fetches s pc m _ at) (reads-condition s m.regs at.is.psr 14) p.d p.n p.t p.m p.apart) refl
    (product_put true rd rn rs rm _ s pc m at.is at.inside p (product_is true rd rn rs rm s pc m at.is p))
multiply-made s pc m false true rd rn rs rm at plain =
    let p = product_parts rd rn rs rm plain in
    made s _ pc (pc + 4) m _ m.ram at.is
    (step-muls board_space m.regs m.ram 14 rd rn rs rm (fetches s pc m _ at) (reads-condition s m.regs at.is.psr 14) p.d p.n p.t p.m p.apart) refl
    (product_flagged false rd rn rs rm _ s pc m at.is at.inside p (product_is false rd rn rs rm s pc m at.is p))
multiply-made s pc m true true rd rn rs rm at plain =
    let p = product_parts rd rn rs rm plain in
    made s _ pc (pc + 4) m _ m.ram at.is
    (step-mlas board_space m.regs m.ram 14 rd rn rs rm (fetches s pc m _ at) (reads-condition s m.regs at.is.psr 14) p.d p.n p.t p.m p.apart) refl
    (product_flagged true rd rn rs rm _ s pc m at.is at.inside p (product_is true rd rn rs rm s pc m at.is p))
