-- One instruction at the PC that multiplies, or that reads or writes memory: exactly these registers and this memory.
use Rattle.std.proofs.Common.{◌-◌, ◌≤◌, ◌≡◌, ℕ, zero, suc, ◌+◌, ◌*◌, ◌%◌, ◌^◌, ◌<◌, ◌==◌, ◌||◌, ◌&&◌, not, Bool, true, false, if◌then◌else◌, List, [], ◌∷◌, length, Option, Some, None, refl, sym, ap, ◌∙◌, arith, lt-ltb}
use Rattle.std.proofs.Math.Bool.{or-false}
use Rattle.std.proofs.lemmas.Bool.{ne_eqb}
use Rattle.arm_isa.specs.declared.instruction.Instr.TheVariants.{Mul, Single, Block}
use Rattle.arm_isa.specs.Fields.{bits, bit}
use Rattle.arm_isa.specs.Immediates.{rotated}
use Rattle.arm2_alu.specs.declared.operations.Computed.{Computed}
use Rattle.arm2_alu.specs.declared.regs.Regs.{Regs}
use Rattle.arm_isa.specs.Numbers.{R15}
use Rattle.arm2_alu.specs.declared.shifts.Shifted.{Shifted}
use Rattle.arm2_cpu.specs.Access.{moved, offset_of, single_access, block_access, with_base_taking, can_use}
use Rattle.arm2_cpu.specs.Block.{registers_in, low_registers_in, next_word, refused_word, stored_value, with_block, with_words, store_block, load_block, load_with_r15, block_step}
use Rattle.arm2_alu.specs.Conditions.{same, carry, overflow, holds}
use Rattle.arm2_alu.specs.Results.{flagged, loaded}
use Rattle.arm2_cpu.specs.Memory.{Space, word_in, byte_at, with_word, with_byte, word_address}
use Rattle.arm2_cpu.specs.Multiply.{product, multiplied, multiply_step}
use Rattle.arm2_alu.specs.Operands.{first_operand, whole_operand, amount_operand}
use Rattle.arm2_alu.specs.Registers.{register, with_banked, with_register, at_next, jumped}
use Rattle.arm2_alu.specs.Shifts.{shifted_by_field}
use Rattle.arm2_cpu.specs.Single.{read_unit, with_unit, can_transfer, load_single, store_single, single_step}
use Rattle.arm2_cpu.specs.Step.{class_step, cpu_step}
use Rattle.arm2_cpu.specs.Unpredictable.{is_unpredictable_multiply, is_unpredictable_single, is_unpredictable_block, is_unpredictable}
use Rattle.arm2_cpu.proofs.StepBasics.{Fetches, goes, step-by_class}
use Rattle.arm2_cpu.proofs.StepLaws.{loaded-register}
use Rattle.arm2_alu.proofs.ValueLaws.{not_r15, first-register, whole-register, amount-shifted, amount-plain, amount-lsl}

-- ---- multiplication

multiply_fine : (rd rn rs rm : ℕ) → rd < 15 → rn < 15 → rs < 15 → rm < 15 → (rd == rm) ≡ false → is_unpredictable_multiply rd rn rs rm ≡ false
multiply_fine rd rn rs rm d n s m apart = (λ i. apart i || not_r15 rd d i || not_r15 rn n i || not_r15 rs s i || not_r15 rm m i)

-- MUL or MLA
multiply_by_class : (s : Space) (r : Regs) (bytes : List ℕ) (cond : ℕ) (acc flags : Bool) (rd rn rs rm : ℕ)
    → Fetches s r bytes (Mul cond acc flags rd rn rs rm) → holds cond r ≡ true → rd < 15 → rn < 15 → rs < 15 → rm < 15 → (rd == rm) ≡ false
    → cpu_step s r bytes ≡ goes (multiplied r flags rd (product r acc rn rs rm)) bytes
unfolding class_step is_unpredictable multiply_step
multiply_by_class s r bytes cond acc flags rd rn rs rm f meets d n t m apart =
    step-by_class s r bytes (Mul cond acc flags rd rn rs rm) f meets (multiply_fine rd rn rs rm d n t m apart)

plain_product : (r : Regs) (rn rs rm : ℕ) → product r false rn rs rm ≡ register r rm * register r rs % 2 ^ 32
unfolding product
plain_product r rn rs rm = ap (λ k. k % 2 ^ 32) (let e : register r rm * register r rs + 0 ≡ register r rm * register r rs = omega arith in e)

pub step-mul : (s : Space) (r : Regs) (bytes : List ℕ) (cond rd rn rs rm : ℕ)
    → Fetches s r bytes (Mul cond false false rd rn rs rm) → holds cond r ≡ true → rd < 15 → rn < 15 → rs < 15 → rm < 15 → (rd == rm) ≡ false
    → cpu_step s r bytes ≡ goes (at_next (with_register r rd (register r rm * register r rs % 2 ^ 32))) bytes
unfolding multiplied
step-mul s r bytes cond rd rn rs rm f meets d n t m apart =
    multiply_by_class s r bytes cond false false rd rn rs rm f meets d n t m apart
    ∙ ap (λ v. goes (at_next (with_register r rd v)) bytes) (plain_product r rn rs rm)

pub step-mla : (s : Space) (r : Regs) (bytes : List ℕ) (cond rd rn rs rm : ℕ)
    → Fetches s r bytes (Mul cond true false rd rn rs rm) → holds cond r ≡ true → rd < 15 → rn < 15 → rs < 15 → rm < 15 → (rd == rm) ≡ false
    → cpu_step s r bytes ≡ goes (at_next (with_register r rd ((register r rm * register r rs + register r rn) % 2 ^ 32))) bytes
unfolding multiplied product
step-mla s r bytes cond rd rn rs rm f meets d n t m apart = multiply_by_class s r bytes cond true false rd rn rs rm f meets d n t m apart

-- MULS and MLAS: N and Z by the value, and C and V stay
abbrev pub multiply_outcome : Regs → ℕ → Computed
multiply_outcome r value = record { value = value; carry = carry r; overflow = overflow r }

pub step-muls : (s : Space) (r : Regs) (bytes : List ℕ) (cond rd rn rs rm : ℕ)
    → Fetches s r bytes (Mul cond false true rd rn rs rm) → holds cond r ≡ true → rd < 15 → rn < 15 → rs < 15 → rm < 15 → (rd == rm) ≡ false
    → (let value = register r rm * register r rs % 2 ^ 32 in cpu_step s r bytes ≡ goes (at_next (with_register (flagged (multiply_outcome r value) r) rd value)) bytes)
unfolding multiplied
step-muls s r bytes cond rd rn rs rm f meets d n t m apart =
    multiply_by_class s r bytes cond false true rd rn rs rm f meets d n t m apart
    ∙ ap (λ v. goes (at_next (with_register (flagged (multiply_outcome r v) r) rd v)) bytes) (plain_product r rn rs rm)

pub step-mlas : (s : Space) (r : Regs) (bytes : List ℕ) (cond rd rn rs rm : ℕ)
    → Fetches s r bytes (Mul cond true true rd rn rs rm) → holds cond r ≡ true → rd < 15 → rn < 15 → rs < 15 → rm < 15 → (rd == rm) ≡ false
    → (let value = (register r rm * register r rs + register r rn) % 2 ^ 32 in cpu_step s r bytes ≡ goes (at_next (with_register (flagged (multiply_outcome r value) r) rd value)) bytes)
unfolding multiplied product
step-mlas s r bytes cond rd rn rs rm f meets d n t m apart = multiply_by_class s r bytes cond true true rd rn rs rm f meets d n t m apart

-- ---- LDR and STR

single_by_class : (s : Space) (r : Regs) (bytes : List ℕ) (cond : ℕ) (reg pre up byte wb load : Bool) (rn rd offset : ℕ)
    → Fetches s r bytes (Single cond reg pre up byte wb load rn rd offset) → holds cond r ≡ true → is_unpredictable_single reg pre byte wb load rn rd offset ≡ false
    → cpu_step s r bytes ≡ single_step s r bytes load byte rd (single_access r reg pre up wb rn offset)
unfolding class_step is_unpredictable
single_by_class s r bytes cond reg pre up byte wb load rn rd offset f meets fine =
    step-by_class s r bytes (Single cond reg pre up byte wb load rn rd offset) f meets fine

-- an access whose address is moved before, and that leaves the base alone
access_plain : (r : Regs) (reg up : Bool) (rn offset at : ℕ) → moved up (first_operand r 8 rn) (offset_of r reg offset) ≡ at
    → single_access r reg true up false rn offset ≡ record { user = not r.svc; address = at; base = rn; written_back = None }
unfolding single_access
access_plain r reg up rn offset at is = (λ i. record { user = or-false (not r.svc) i; address = is i; base = rn; written_back = None })

-- the same, with the base written back
access_written : (r : Regs) (reg up : Bool) (rn offset at : ℕ) → moved up (first_operand r 8 rn) (offset_of r reg offset) ≡ at
    → single_access r reg true up true rn offset ≡ record { user = not r.svc; address = at; base = rn; written_back = Some at }
unfolding single_access
access_written r reg up rn offset at is = (λ i. record { user = or-false (not r.svc) i; address = is i; base = rn; written_back = Some (is i) })

-- the base is moved after the access
access_after : (r : Regs) (reg up : Bool) (rn offset at next : ℕ) → first_operand r 8 rn ≡ at → moved up at (offset_of r reg offset) ≡ next
    → single_access r reg false up false rn offset ≡ record { user = not r.svc; address = at; base = rn; written_back = Some next }
unfolding single_access
access_after r reg up rn offset at next is moves =
    (λ i. record { user = or-false (not r.svc) i; address = is i; base = rn; written_back = Some (moved up (is i) (offset_of r reg offset)) })
    ∙ (λ i. record { user = not r.svc; address = at; base = rn; written_back = Some (moves i) })

-- what is read and stored
whole_word : (s : Space) (bytes : List ℕ) (at : ℕ) → at % 4 ≡ 0 → read_unit s bytes false at ≡ word_in s bytes at
unfolding read_unit
whole_word s bytes at aligned =
    let same : word_address at ≡ at = omega (arith, aligned) in
    (λ i. rotated (word_in s bytes (same i)) (8 * aligned i)) ∙ unturned (word_in s bytes at)
  where
    unturned : (w : ℕ) → rotated w (8 * 0) ≡ w
    unturned w = omega arith

can_word : (s : Space) (at rn : ℕ) (user : Bool) (back : Option ℕ) → at % 4 ≡ 0 → at < 2 ^ 26 → s.allows user at ≡ true → can_transfer s false (record { user = user; address = at; base = rn; written_back = back }) ≡ true
unfolding can_transfer
can_word s at rn user back aligned low allowed =
    let same : word_address at ≡ at = omega (arith, aligned) in
    ap (can_use s user) same ∙ (λ i. lt-ltb at (2 ^ 26) low i && allowed i)

can_byte : (s : Space) (at rn : ℕ) (user : Bool) (back : Option ℕ) → at < 2 ^ 26 → s.allows user at ≡ true → can_transfer s true (record { user = user; address = at; base = rn; written_back = back }) ≡ true
unfolding can_transfer
can_byte s at rn user back low allowed = (λ i. lt-ltb at (2 ^ 26) low i && allowed i)

load_done : (s : Space) (r : Regs) (bytes : List ℕ) (byte : Bool) (rd rn at : ℕ) (user : Bool) (back : Option ℕ) → can_transfer s byte (record { user = user; address = at; base = rn; written_back = back }) ≡ true
    → single_step s r bytes true byte rd (record { user = user; address = at; base = rn; written_back = back }) ≡ goes (loaded (with_base_taking back r rn) rd (read_unit s bytes byte at)) bytes
unfolding single_step load_single
load_done s r bytes byte rd rn at user None allowed = rw allowed refl
load_done s r bytes byte rd rn at user (Some value) allowed = rw allowed refl

store_done : (s : Space) (r : Regs) (bytes : List ℕ) (byte : Bool) (rd rn at : ℕ) (user : Bool) (back : Option ℕ) → can_transfer s byte (record { user = user; address = at; base = rn; written_back = back }) ≡ true
    → single_step s r bytes false byte rd (record { user = user; address = at; base = rn; written_back = back }) ≡ goes (at_next (with_base_taking back r rn)) (with_unit s bytes byte at (whole_operand r 12 rd))
unfolding single_step store_single
store_done s r bytes byte rd rn at user None allowed = rw allowed refl
store_done s r bytes byte rd rn at user (Some value) allowed = rw allowed refl

stored_word : (s : Space) (r : Regs) (bytes : List ℕ) (rd at : ℕ) → rd < 15 → at % 4 ≡ 0 → with_unit s bytes false at (whole_operand r 12 rd) ≡ with_word s bytes at (register r rd)
unfolding with_unit
stored_word s r bytes rd at low aligned =
    let same : word_address at ≡ at = omega (arith, aligned) in
    (λ i. with_word s bytes (same i) (whole-register r 12 rd low i))

stored_byte : (s : Space) (r : Regs) (bytes : List ℕ) (rd at : ℕ) → rd < 15 → with_unit s bytes true at (whole_operand r 12 rd) ≡ with_byte s bytes at (register r rd % 2 ^ 8)
unfolding with_unit
stored_byte s r bytes rd at low = (λ i. with_byte s bytes at (whole-register r 12 rd low i % 2 ^ 8))

-- a register offset isn't R15
abbrev pub is_open_offset : Bool → ℕ → Bool
is_open_offset reg offset = reg && (bits offset 3 0 == R15)

-- an offset that is a number
pub offset-number : (r : Regs) (offset : ℕ) → offset_of r false offset ≡ offset
unfolding offset_of
offset-number r offset = refl

-- an offset that is Rm, or Rm shifted by a number of bits: it isn't unpredictable
pub not_open-offset_register : (rm : ℕ) → rm < 15 → is_open_offset true rm ≡ false
not_open-offset_register rm low = ne_eqb (bits rm 3 0) 15 (λ e. omega (arith, e, low))

pub not_open-offset_shifted : (amount kind rm : ℕ) → rm < 15 → is_open_offset true (amount * 2 ^ 7 + kind * 2 ^ 5 + rm) ≡ false
not_open-offset_shifted amount kind rm low = ne_eqb (bits (amount * 2 ^ 7 + kind * 2 ^ 5 + rm) 3 0) 15 (λ e. omega (arith, e, low))

pub not_open-offset_lsl : (amount rm : ℕ) → rm < 15 → is_open_offset true (amount * 2 ^ 7 + rm) ≡ false
not_open-offset_lsl amount rm low = ne_eqb (bits (amount * 2 ^ 7 + rm) 3 0) 15 (λ e. omega (arith, e, low))

-- and its value
offset_value : (r : Regs) (offset : ℕ) (x : Shifted) → amount_operand r offset ≡ x → offset_of r true offset ≡ x.value
unfolding offset_of
offset_value r offset x is = ap (λ (y : Shifted). y.value) is

pub offset-register : (r : Regs) (rm : ℕ) → rm < 15 → offset_of r true rm ≡ register r rm
offset-register r rm low = offset_value r rm _ (amount-plain r rm low)

pub offset-lsl : (r : Regs) (amount rm : ℕ) → 0 < amount → amount < 32 → rm < 15 → offset_of r true (amount * 2 ^ 7 + rm) ≡ register r rm * 2 ^ amount % 2 ^ 32
offset-lsl r amount rm some few low = offset_value r (amount * 2 ^ 7 + rm) _ (amount-lsl r amount rm some few low)

pub offset-shifted : (r : Regs) (amount kind rm : ℕ) → amount < 32 → kind < 4 → rm < 15
    → offset_of r true (amount * 2 ^ 7 + kind * 2 ^ 5 + rm) ≡ (shifted_by_field kind (register r rm) amount (carry r)).value
offset-shifted r amount kind rm few four low = offset_value r (amount * 2 ^ 7 + kind * 2 ^ 5 + rm) _ (amount-shifted r amount kind rm few four low)

-- an address from a base and an offset: modulo 2^32, and where it doesn't pass an end
pub moved-sum : (base offset : ℕ) → moved true base offset ≡ (base + offset) % 2 ^ 32
unfolding moved
moved-sum base offset = refl

pub moved-difference : (base offset : ℕ) → moved false base offset ≡ (base + (2 ^ 32 - offset)) % 2 ^ 32
unfolding moved
moved-difference base offset = refl

pub moved-up : (base offset : ℕ) → base + offset < 2 ^ 32 → moved true base offset ≡ base + offset
unfolding moved
moved-up base offset small = omega (arith, small)

pub moved-down : (base offset : ℕ) → offset ≤ base → base < 2 ^ 32 → moved false base offset ≡ base - offset
unfolding moved
moved-down base offset enough small = omega (arith, enough, small)

-- LDR Rd,[Rn,offset], of a whole word
pub step-ldr : (s : Space) (r : Regs) (bytes : List ℕ) (cond : ℕ) (reg up : Bool) (rn rd offset at : ℕ)
    → Fetches s r bytes (Single cond reg true up false false true rn rd offset) → holds cond r ≡ true → is_open_offset reg offset ≡ false → rd < 15
    → moved up (first_operand r 8 rn) (offset_of r reg offset) ≡ at → at % 4 ≡ 0 → at < 2 ^ 26 → s.allows (not r.svc) at ≡ true
    → cpu_step s r bytes ≡ goes (at_next (with_register r rd (word_in s bytes at))) bytes
step-ldr s r bytes cond reg up rn rd offset at f meets fine low place aligned small allowed =
    single_by_class s r bytes cond reg true up false false true rn rd offset f meets (λ i. fine i || false || false || false)
    ∙ ap (single_step s r bytes true false rd) (access_plain r reg up rn offset at place)
    ∙ load_done s r bytes false rd rn at (not r.svc) None (can_word s at rn (not r.svc) None aligned small allowed)
    ∙ ap (λ x. goes x bytes) (ap (loaded r rd) (whole_word s bytes at aligned) ∙ loaded-register r rd (word_in s bytes at) low)

-- LDR PC,[Rn,offset]
pub step-ldr_pc : (s : Space) (r : Regs) (bytes : List ℕ) (cond : ℕ) (reg up : Bool) (rn offset at : ℕ)
    → Fetches s r bytes (Single cond reg true up false false true rn 15 offset) → holds cond r ≡ true → is_open_offset reg offset ≡ false
    → moved up (first_operand r 8 rn) (offset_of r reg offset) ≡ at → at % 4 ≡ 0 → at < 2 ^ 26 → s.allows (not r.svc) at ≡ true
    → cpu_step s r bytes ≡ goes (jumped r (word_in s bytes at)) bytes
unfolding loaded
step-ldr_pc s r bytes cond reg up rn offset at f meets fine place aligned small allowed =
    single_by_class s r bytes cond reg true up false false true rn 15 offset f meets (λ i. fine i || false || false || false)
    ∙ ap (single_step s r bytes true false 15) (access_plain r reg up rn offset at place)
    ∙ load_done s r bytes false 15 rn at (not r.svc) None (can_word s at rn (not r.svc) None aligned small allowed)
    ∙ ap (λ v. goes (jumped r v) bytes) (whole_word s bytes at aligned)

read_byte_unit : (s : Space) (bytes : List ℕ) (at : ℕ) → read_unit s bytes true at ≡ byte_at s bytes at
unfolding read_unit
read_byte_unit s bytes at = refl

-- LDRB Rd,[Rn,offset]
pub step-ldrb : (s : Space) (r : Regs) (bytes : List ℕ) (cond : ℕ) (reg up : Bool) (rn rd offset at : ℕ)
    → Fetches s r bytes (Single cond reg true up true false true rn rd offset) → holds cond r ≡ true → is_open_offset reg offset ≡ false → rd < 15
    → moved up (first_operand r 8 rn) (offset_of r reg offset) ≡ at → at < 2 ^ 26 → s.allows (not r.svc) at ≡ true
    → cpu_step s r bytes ≡ goes (at_next (with_register r rd (byte_at s bytes at))) bytes
step-ldrb s r bytes cond reg up rn rd offset at f meets fine low place small allowed =
    single_by_class s r bytes cond reg true up true false true rn rd offset f meets (λ i. fine i || false || false || not_r15 rd low i)
    ∙ ap (single_step s r bytes true true rd) (access_plain r reg up rn offset at place)
    ∙ load_done s r bytes true rd rn at (not r.svc) None (can_byte s at rn (not r.svc) None small allowed)
    ∙ ap (λ x. goes x bytes) (ap (loaded r rd) (read_byte_unit s bytes at) ∙ loaded-register r rd (byte_at s bytes at) low)

-- STR Rd,[Rn,offset], to a whole word
pub step-str : (s : Space) (r : Regs) (bytes : List ℕ) (cond : ℕ) (reg up : Bool) (rn rd offset at : ℕ)
    → Fetches s r bytes (Single cond reg true up false false false rn rd offset) → holds cond r ≡ true → is_open_offset reg offset ≡ false → rd < 15
    → moved up (first_operand r 8 rn) (offset_of r reg offset) ≡ at → at % 4 ≡ 0 → at < 2 ^ 26 → s.allows (not r.svc) at ≡ true
    → cpu_step s r bytes ≡ goes (at_next r) (with_word s bytes at (register r rd))
step-str s r bytes cond reg up rn rd offset at f meets fine low place aligned small allowed =
    single_by_class s r bytes cond reg true up false false false rn rd offset f meets (λ i. fine i || false || false || false)
    ∙ ap (single_step s r bytes false false rd) (access_plain r reg up rn offset at place)
    ∙ store_done s r bytes false rd rn at (not r.svc) None (can_word s at rn (not r.svc) None aligned small allowed)
    ∙ ap (goes (at_next r)) (stored_word s r bytes rd at low aligned)

-- STRB Rd,[Rn,offset]
pub step-strb : (s : Space) (r : Regs) (bytes : List ℕ) (cond : ℕ) (reg up : Bool) (rn rd offset at : ℕ)
    → Fetches s r bytes (Single cond reg true up true false false rn rd offset) → holds cond r ≡ true → is_open_offset reg offset ≡ false → rd < 15
    → moved up (first_operand r 8 rn) (offset_of r reg offset) ≡ at → at < 2 ^ 26 → s.allows (not r.svc) at ≡ true
    → cpu_step s r bytes ≡ goes (at_next r) (with_byte s bytes at (register r rd % 2 ^ 8))
step-strb s r bytes cond reg up rn rd offset at f meets fine low place small allowed =
    single_by_class s r bytes cond reg true up true false false rn rd offset f meets (λ i. fine i || false || false || false)
    ∙ ap (single_step s r bytes false true rd) (access_plain r reg up rn offset at place)
    ∙ store_done s r bytes true rd rn at (not r.svc) None (can_byte s at rn (not r.svc) None small allowed)
    ∙ ap (goes (at_next r)) (stored_byte s r bytes rd at low)

-- LDR Rd,[Rn,offset]!
pub step-ldr_writeback : (s : Space) (r : Regs) (bytes : List ℕ) (cond : ℕ) (reg up : Bool) (rn rd offset at : ℕ)
    → Fetches s r bytes (Single cond reg true up false true true rn rd offset) → holds cond r ≡ true → is_open_offset reg offset ≡ false → rn < 15 → rd < 15 → (rd == rn) ≡ false
    → moved up (register r rn) (offset_of r reg offset) ≡ at → at % 4 ≡ 0 → at < 2 ^ 26 → s.allows (not r.svc) at ≡ true
    → cpu_step s r bytes ≡ goes (at_next (with_register (with_register r rn at) rd (word_in s bytes at))) bytes
step-ldr_writeback s r bytes cond reg up rn rd offset at f meets fine base low apart place aligned small allowed =
    single_by_class s r bytes cond reg true up false true true rn rd offset f meets (λ i. fine i || not_r15 rn base i || apart i || false)
    ∙ ap (single_step s r bytes true false rd) (access_written r reg up rn offset at (ap (λ b. moved up b (offset_of r reg offset)) (first-register r 8 rn base) ∙ place))
    ∙ load_done s r bytes false rd rn at (not r.svc) (Some at) (can_word s at rn (not r.svc) (Some at) aligned small allowed)
    ∙ ap (λ x. goes x bytes) (ap (loaded (with_register r rn at) rd) (whole_word s bytes at aligned) ∙ loaded-register (with_register r rn at) rd (word_in s bytes at) low)

-- STR Rd,[Rn,offset]!
pub step-str_writeback : (s : Space) (r : Regs) (bytes : List ℕ) (cond : ℕ) (reg up : Bool) (rn rd offset at : ℕ)
    → Fetches s r bytes (Single cond reg true up false true false rn rd offset) → holds cond r ≡ true → is_open_offset reg offset ≡ false → rn < 15 → rd < 15
    → moved up (register r rn) (offset_of r reg offset) ≡ at → at % 4 ≡ 0 → at < 2 ^ 26 → s.allows (not r.svc) at ≡ true
    → cpu_step s r bytes ≡ goes (at_next (with_register r rn at)) (with_word s bytes at (register r rd))
step-str_writeback s r bytes cond reg up rn rd offset at f meets fine base low place aligned small allowed =
    single_by_class s r bytes cond reg true up false true false rn rd offset f meets (λ i. fine i || not_r15 rn base i || false || false)
    ∙ ap (single_step s r bytes false false rd) (access_written r reg up rn offset at (ap (λ b. moved up b (offset_of r reg offset)) (first-register r 8 rn base) ∙ place))
    ∙ store_done s r bytes false rd rn at (not r.svc) (Some at) (can_word s at rn (not r.svc) (Some at) aligned small allowed)
    ∙ ap (goes (at_next (with_register r rn at))) (stored_word s r bytes rd at low aligned)

-- LDRB Rd,[Rn,offset]! and STRB Rd,[Rn,offset]!
pub step-ldrb_writeback : (s : Space) (r : Regs) (bytes : List ℕ) (cond : ℕ) (reg up : Bool) (rn rd offset at : ℕ)
    → Fetches s r bytes (Single cond reg true up true true true rn rd offset) → holds cond r ≡ true → is_open_offset reg offset ≡ false → rn < 15 → rd < 15 → (rd == rn) ≡ false
    → moved up (register r rn) (offset_of r reg offset) ≡ at → at < 2 ^ 26 → s.allows (not r.svc) at ≡ true
    → cpu_step s r bytes ≡ goes (at_next (with_register (with_register r rn at) rd (byte_at s bytes at))) bytes
step-ldrb_writeback s r bytes cond reg up rn rd offset at f meets fine base low apart place small allowed =
    single_by_class s r bytes cond reg true up true true true rn rd offset f meets (λ i. fine i || not_r15 rn base i || apart i || not_r15 rd low i)
    ∙ ap (single_step s r bytes true true rd) (access_written r reg up rn offset at (ap (λ b. moved up b (offset_of r reg offset)) (first-register r 8 rn base) ∙ place))
    ∙ load_done s r bytes true rd rn at (not r.svc) (Some at) (can_byte s at rn (not r.svc) (Some at) small allowed)
    ∙ ap (λ x. goes x bytes) (ap (loaded (with_register r rn at) rd) (read_byte_unit s bytes at) ∙ loaded-register (with_register r rn at) rd (byte_at s bytes at) low)

pub step-strb_writeback : (s : Space) (r : Regs) (bytes : List ℕ) (cond : ℕ) (reg up : Bool) (rn rd offset at : ℕ)
    → Fetches s r bytes (Single cond reg true up true true false rn rd offset) → holds cond r ≡ true → is_open_offset reg offset ≡ false → rn < 15 → rd < 15
    → moved up (register r rn) (offset_of r reg offset) ≡ at → at < 2 ^ 26 → s.allows (not r.svc) at ≡ true
    → cpu_step s r bytes ≡ goes (at_next (with_register r rn at)) (with_byte s bytes at (register r rd % 2 ^ 8))
step-strb_writeback s r bytes cond reg up rn rd offset at f meets fine base low place small allowed =
    single_by_class s r bytes cond reg true up true true false rn rd offset f meets (λ i. fine i || not_r15 rn base i || false || false)
    ∙ ap (single_step s r bytes false true rd) (access_written r reg up rn offset at (ap (λ b. moved up b (offset_of r reg offset)) (first-register r 8 rn base) ∙ place))
    ∙ store_done s r bytes true rd rn at (not r.svc) (Some at) (can_byte s at rn (not r.svc) (Some at) small allowed)
    ∙ ap (goes (at_next (with_register r rn at))) (stored_byte s r bytes rd at low)

-- LDR Rd,[Rn],offset
pub step-ldr_after : (s : Space) (r : Regs) (bytes : List ℕ) (cond : ℕ) (reg up : Bool) (rn rd offset at next : ℕ)
    → Fetches s r bytes (Single cond reg false up false false true rn rd offset) → holds cond r ≡ true → is_open_offset reg offset ≡ false → rn < 15 → rd < 15 → (rd == rn) ≡ false
    → register r rn ≡ at → moved up at (offset_of r reg offset) ≡ next → at % 4 ≡ 0 → at < 2 ^ 26 → s.allows (not r.svc) at ≡ true
    → cpu_step s r bytes ≡ goes (at_next (with_register (with_register r rn next) rd (word_in s bytes at))) bytes
step-ldr_after s r bytes cond reg up rn rd offset at next f meets fine base low apart place moves aligned small allowed =
    single_by_class s r bytes cond reg false up false false true rn rd offset f meets (λ i. fine i || not_r15 rn base i || apart i || false)
    ∙ ap (single_step s r bytes true false rd) (access_after r reg up rn offset at next (first-register r 8 rn base ∙ place) moves)
    ∙ load_done s r bytes false rd rn at (not r.svc) (Some next) (can_word s at rn (not r.svc) (Some next) aligned small allowed)
    ∙ ap (λ x. goes x bytes) (ap (loaded (with_register r rn next) rd) (whole_word s bytes at aligned) ∙ loaded-register (with_register r rn next) rd (word_in s bytes at) low)

-- STR Rd,[Rn],offset
pub step-str_after : (s : Space) (r : Regs) (bytes : List ℕ) (cond : ℕ) (reg up : Bool) (rn rd offset at next : ℕ)
    → Fetches s r bytes (Single cond reg false up false false false rn rd offset) → holds cond r ≡ true → is_open_offset reg offset ≡ false → rn < 15 → rd < 15
    → register r rn ≡ at → moved up at (offset_of r reg offset) ≡ next → at % 4 ≡ 0 → at < 2 ^ 26 → s.allows (not r.svc) at ≡ true
    → cpu_step s r bytes ≡ goes (at_next (with_register r rn next)) (with_word s bytes at (register r rd))
step-str_after s r bytes cond reg up rn rd offset at next f meets fine base low place moves aligned small allowed =
    single_by_class s r bytes cond reg false up false false false rn rd offset f meets (λ i. fine i || not_r15 rn base i || false || false)
    ∙ ap (single_step s r bytes false false rd) (access_after r reg up rn offset at next (first-register r 8 rn base ∙ place) moves)
    ∙ store_done s r bytes false rd rn at (not r.svc) (Some next) (can_word s at rn (not r.svc) (Some next) aligned small allowed)
    ∙ ap (goes (at_next (with_register r rn next))) (stored_word s r bytes rd at low aligned)

-- LDRB Rd,[Rn],offset and STRB Rd,[Rn],offset
pub step-ldrb_after : (s : Space) (r : Regs) (bytes : List ℕ) (cond : ℕ) (reg up : Bool) (rn rd offset at next : ℕ)
    → Fetches s r bytes (Single cond reg false up true false true rn rd offset) → holds cond r ≡ true → is_open_offset reg offset ≡ false → rn < 15 → rd < 15 → (rd == rn) ≡ false
    → register r rn ≡ at → moved up at (offset_of r reg offset) ≡ next → at < 2 ^ 26 → s.allows (not r.svc) at ≡ true
    → cpu_step s r bytes ≡ goes (at_next (with_register (with_register r rn next) rd (byte_at s bytes at))) bytes
step-ldrb_after s r bytes cond reg up rn rd offset at next f meets fine base low apart place moves small allowed =
    single_by_class s r bytes cond reg false up true false true rn rd offset f meets (λ i. fine i || not_r15 rn base i || apart i || not_r15 rd low i)
    ∙ ap (single_step s r bytes true true rd) (access_after r reg up rn offset at next (first-register r 8 rn base ∙ place) moves)
    ∙ load_done s r bytes true rd rn at (not r.svc) (Some next) (can_byte s at rn (not r.svc) (Some next) small allowed)
    ∙ ap (λ x. goes x bytes) (ap (loaded (with_register r rn next) rd) (read_byte_unit s bytes at) ∙ loaded-register (with_register r rn next) rd (byte_at s bytes at) low)

pub step-strb_after : (s : Space) (r : Regs) (bytes : List ℕ) (cond : ℕ) (reg up : Bool) (rn rd offset at next : ℕ)
    → Fetches s r bytes (Single cond reg false up true false false rn rd offset) → holds cond r ≡ true → is_open_offset reg offset ≡ false → rn < 15 → rd < 15
    → register r rn ≡ at → moved up at (offset_of r reg offset) ≡ next → at < 2 ^ 26 → s.allows (not r.svc) at ≡ true
    → cpu_step s r bytes ≡ goes (at_next (with_register r rn next)) (with_byte s bytes at (register r rd % 2 ^ 8))
step-strb_after s r bytes cond reg up rn rd offset at next f meets fine base low place moves small allowed =
    single_by_class s r bytes cond reg false up true false false rn rd offset f meets (λ i. fine i || not_r15 rn base i || false || false)
    ∙ ap (single_step s r bytes false true rd) (access_after r reg up rn offset at next (first-register r 8 rn base ∙ place) moves)
    ∙ store_done s r bytes true rd rn at (not r.svc) (Some next) (can_byte s at rn (not r.svc) (Some next) small allowed)
    ∙ ap (goes (at_next (with_register r rn next))) (stored_byte s r bytes rd at low)

-- ---- LDM and STM

block_by_class : (s : Space) (r : Regs) (bytes : List ℕ) (cond : ℕ) (pre up psr wb load : Bool) (rn list : ℕ)
    → Fetches s r bytes (Block cond pre up psr wb load rn list) → holds cond r ≡ true → is_unpredictable_block psr wb load rn list ≡ false
    → cpu_step s r bytes ≡ block_step s r bytes psr load list (block_access r pre up wb rn (length (registers_in list)))
unfolding class_step is_unpredictable
block_by_class s r bytes cond pre up psr wb load rn list f meets fine =
    step-by_class s r bytes (Block cond pre up psr wb load rn list) f meets fine

-- where a block of n words begins, by its base's value and the value that is written back
abbrev pub block_start : Bool → Bool → ℕ → ℕ → ℕ
block_start pre up base target = word_address (((if up then base else target) + (if same pre up then 4 else 0)) % 2 ^ 32)

-- what the base takes
abbrev pub taken_back : Bool → ℕ → Option ℕ
taken_back wb target = if wb then Some target else None

access_block : (r : Regs) (pre up wb : Bool) (rn count target start : ℕ) → moved up (register r rn) (4 * count) ≡ target → block_start pre up (register r rn) target ≡ start
    → block_access r pre up wb rn count ≡ record { user = not r.svc; address = start; base = rn; written_back = taken_back wb target }
unfolding block_access
access_block r pre up wb rn count target start moves begins =
    (λ i. record { user = not r.svc; address = block_start pre up (register r rn) (moves i); base = rn; written_back = taken_back wb (moves i) })
    ∙ (λ i. record { user = not r.svc; address = begins i; base = rn; written_back = taken_back wb target })

stm_done : (s : Space) (r : Regs) (bytes : List ℕ) (list start rn : ℕ) (back : Option ℕ) → refused_word (length (registers_in list)) s (not r.svc) start ≡ None
    → block_step s r bytes false false list (record { user = not r.svc; address = start; base = rn; written_back = back }) ≡ goes (at_next (with_base_taking back r rn)) (with_block (registers_in list) s bytes r r.svc start)
unfolding block_step store_block
stm_done s r bytes list start rn back allowed = rw allowed refl

ldm_done : (s : Space) (r : Regs) (bytes : List ℕ) (list start rn : ℕ) (back : Option ℕ) → refused_word (length (registers_in list)) s (not r.svc) start ≡ None → bit list 15 ≡ false
    → block_step s r bytes false true list (record { user = not r.svc; address = start; base = rn; written_back = back }) ≡ goes (at_next (with_words (low_registers_in list) s bytes (with_base_taking back r rn) r.svc start)) bytes
unfolding block_step load_block
ldm_done s r bytes list start rn back allowed clear = rw (allowed, clear) refl

ldm_pc_done : (s : Space) (r : Regs) (bytes : List ℕ) (list start rn : ℕ) (back : Option ℕ) → refused_word (length (registers_in list)) s (not r.svc) start ≡ None → bit list 15 ≡ true
    → block_step s r bytes false true list (record { user = not r.svc; address = start; base = rn; written_back = back })
    ≡ goes (jumped (with_words (low_registers_in list) s bytes (with_base_taking back r rn) r.svc start) (word_in s bytes ((start + 4 * length (low_registers_in list)) % 2 ^ 32))) bytes
unfolding block_step load_block load_with_r15
ldm_pc_done s r bytes list start rn back allowed set = rw (allowed, set) refl

-- STM without ^: the registers are stored as they were, then the base takes its value
pub step-stm : (s : Space) (r : Regs) (bytes : List ℕ) (cond : ℕ) (pre up wb : Bool) (rn list target start : ℕ)
    → Fetches s r bytes (Block cond pre up false wb false rn list) → holds cond r ≡ true → is_unpredictable_block false wb false rn list ≡ false
    → moved up (register r rn) (4 * length (registers_in list)) ≡ target → block_start pre up (register r rn) target ≡ start
    → refused_word (length (registers_in list)) s (not r.svc) start ≡ None
    → cpu_step s r bytes ≡ goes (at_next (with_base_taking (taken_back wb target) r rn)) (with_block (registers_in list) s bytes r r.svc start)
step-stm s r bytes cond pre up wb rn list target start f meets fine moves begins allowed =
    block_by_class s r bytes cond pre up false wb false rn list f meets fine
    ∙ ap (block_step s r bytes false false list) (access_block r pre up wb rn (length (registers_in list)) target start moves begins)
    ∙ stm_done s r bytes list start rn (taken_back wb target) allowed

-- LDM without ^ and R15
pub step-ldm : (s : Space) (r : Regs) (bytes : List ℕ) (cond : ℕ) (pre up wb : Bool) (rn list target start : ℕ)
    → Fetches s r bytes (Block cond pre up false wb true rn list) → holds cond r ≡ true → is_unpredictable_block false wb true rn list ≡ false → bit list 15 ≡ false
    → moved up (register r rn) (4 * length (registers_in list)) ≡ target → block_start pre up (register r rn) target ≡ start
    → refused_word (length (registers_in list)) s (not r.svc) start ≡ None
    → cpu_step s r bytes ≡ goes (at_next (with_words (low_registers_in list) s bytes (with_base_taking (taken_back wb target) r rn) r.svc start)) bytes
step-ldm s r bytes cond pre up wb rn list target start f meets fine clear moves begins allowed =
    block_by_class s r bytes cond pre up false wb true rn list f meets fine
    ∙ ap (block_step s r bytes false true list) (access_block r pre up wb rn (length (registers_in list)) target start moves begins)
    ∙ ldm_done s r bytes list start rn (taken_back wb target) allowed clear

-- LDM without ^ that loads R15: a jump that keeps the flags
pub step-ldm_pc : (s : Space) (r : Regs) (bytes : List ℕ) (cond : ℕ) (pre up wb : Bool) (rn list target start : ℕ)
    → Fetches s r bytes (Block cond pre up false wb true rn list) → holds cond r ≡ true → is_unpredictable_block false wb true rn list ≡ false → bit list 15 ≡ true
    → moved up (register r rn) (4 * length (registers_in list)) ≡ target → block_start pre up (register r rn) target ≡ start
    → refused_word (length (registers_in list)) s (not r.svc) start ≡ None
    → cpu_step s r bytes ≡ goes (jumped (with_words (low_registers_in list) s bytes (with_base_taking (taken_back wb target) r rn) r.svc start) (word_in s bytes ((start + 4 * length (low_registers_in list)) % 2 ^ 32))) bytes
step-ldm_pc s r bytes cond pre up wb rn list target start f meets fine set moves begins allowed =
    block_by_class s r bytes cond pre up false wb true rn list f meets fine
    ∙ ap (block_step s r bytes false true list) (access_block r pre up wb rn (length (registers_in list)) target start moves begins)
    ∙ ldm_pc_done s r bytes list start rn (taken_back wb target) allowed set

-- the words of a block, one by one
pub with_block-none : (s : Space) (bytes : List ℕ) (r : Regs) (svc : Bool) (at : ℕ) → with_block [] s bytes r svc at ≡ bytes
unfolding with_block
with_block-none s bytes r svc at = refl

pub with_block-more : (n : ℕ) (ns : List ℕ) (s : Space) (bytes : List ℕ) (r : Regs) (at : ℕ) → n < 15 → with_block (n ∷ ns) s bytes r r.svc at ≡ with_block ns s (with_word s bytes at (register r n)) r r.svc (next_word at)
unfolding with_block stored_value
with_block-more n ns s bytes r at low = rw (not_r15 n low) refl

pub with_words-none : (s : Space) (bytes : List ℕ) (r : Regs) (svc : Bool) (at : ℕ) → with_words [] s bytes r svc at ≡ r
unfolding with_words
with_words-none s bytes r svc at = refl

pub with_words-more : (n : ℕ) (ns : List ℕ) (s : Space) (bytes : List ℕ) (r : Regs) (svc : Bool) (at : ℕ) → r.svc ≡ svc → with_words (n ∷ ns) s bytes r svc at ≡ with_words ns s bytes (with_register r n (word_in s bytes at)) svc (next_word at)
unfolding with_words
with_words-more n ns s bytes r svc at is = (λ i. with_words ns s bytes (with_banked (sym is i) r n (word_in s bytes at)) svc (next_word at))

pub refused-none : (s : Space) (user : Bool) (at : ℕ) → refused_word 0 s user at ≡ None
unfolding refused_word
refused-none s user at = refl

pub refused-more : (k : ℕ) (s : Space) (user : Bool) (at : ℕ) → at < 2 ^ 26 → s.allows user at ≡ true → refused_word k s user (next_word at) ≡ None → refused_word (suc k) s user at ≡ None
unfolding refused_word
refused-more k s user at low allowed rest = rw (lt-ltb at (2 ^ 26) low, allowed) rest

-- a block whose words may all be used
pub refused-range : (k : ℕ) (s : Space) (user : Bool) (at : ℕ) → at + 4 * k ≤ (2 ^ 26) → ((i : ℕ) → i < k → s.allows user (at + 4 * i) ≡ true) → refused_word k s user at ≡ None
refused-range zero s user at low allowed = refused-none s user at
refused-range (suc k) s user at low allowed =
    let above : next_word at ≡ at + 4 = omega (arith, low) in
    refused-more k s user at (omega (arith, low)) (ap (s.allows user) (let e : at ≡ at + 4 * 0 = omega arith in e) ∙ allowed 0 (omega arith))
    (ap (refused_word k s user) above
    ∙ refused-range k s user (at + 4) (omega (arith, low)) (λ i within. ap (s.allows user) (let e : at + 4 + 4 * i ≡ at + 4 * suc i = omega arith in e) ∙ allowed (suc i) (omega (arith, within))))
