-- Registers and flags that are read after a write.
use Rattle.std.proofs.Common.{◌≡◌, ◌≢◌, ℕ, ◌+◌, ◌*◌, ◌/◌, ◌%◌, ◌^◌, ◌<◌, ◌≤◌, ◌==◌, ◌&&◌, not, Bool, true, false, if◌then◌else◌, length, slice_index, slice_set, nat_lt, refl, sym, ap, ◌∙◌, arith, ltb-true, ltb-false, eqb-true, get_or-set_same, length-set}
use Rattle.std.proofs.lemmas.Bool.{eqb-false}
use Rattle.std.proofs.lemmas.List.{get_or-set_other}
use Rattle.arm_isa.proofs.FieldLemmas.{from_bool-lt, flag_of}
use Rattle.arm_isa.specs.Numbers.{EQ, NE, CS, CC, MI, PL, VS, VC, HI, LS, GE, LT, GT, LE, AL, NV}
use Rattle.arm2_alu.specs.declared.regs.Regs.{Regs}
use Rattle.arm_isa.specs.Fields.{bit}
use Rattle.arm2_alu.specs.Conditions.{negative, zero_flag, carry, overflow, same, even_condition, holds, with_flags}
use Rattle.arm2_alu.specs.Registers.{IsValidRegs, banked, with_banked, register, with_register, mode, pc_ahead, r15, at_next, jumped}

-- the two choices that find a register
abbrev look : Bool → Bool → Bool → Regs → ℕ → ℕ
look low thirteen svc r n =
    if low then slice_index r.low n
    else if thirteen then (if svc then r.svc13 else r.user13)
    else (if svc then r.svc14 else r.user14)

abbrev put : Bool → Bool → Bool → Regs → ℕ → ℕ → Regs
put low thirteen svc r n value =
    if low then record r { low = slice_set r.low n value }
    else if thirteen then (if svc then record r { svc13 = value } else record r { user13 = value })
    else (if svc then record r { svc14 = value } else record r { user14 = value })

banked_by_look : (svc : Bool) (r : Regs) (n : ℕ) → banked svc r n ≡ look (nat_lt n 13) (n == 13) svc r n
unfolding banked
banked_by_look svc r n = refl

with_banked_by_put : (svc : Bool) (r : Regs) (n value : ℕ) → with_banked svc r n value ≡ put (nat_lt n 13) (n == 13) svc r n value
unfolding with_banked
with_banked_by_put svc r n value = refl

put_same : (t u b : Bool) (r : Regs) (n value : ℕ) → (t ≡ true → n < length r.low) → look t u b (put t u b r n value) n ≡ value
put_same true u b r n value within = get_or-set_same r.low n value 0 (within refl)
put_same false true true r n value within = refl
put_same false true false r n value within = refl
put_same false false true r n value within = refl
put_same false false false r n value within = refl

put_other : (t u t1 u1 b : Bool) (r : Regs) (n value m : ℕ) → m ≢ n → (u ≡ true → u1 ≡ true → ⊥) → (t ≡ false → u ≡ false → t1 ≡ false → u1 ≡ false → ⊥) → look t1 u1 b (put t u b r n value) m ≡ look t1 u1 b r m
put_other true u true u1 b r n value m apart one two = get_or-set_other r.low n m value 0 apart
put_other true u false true true r n value m apart one two = refl
put_other true u false true false r n value m apart one two = refl
put_other true u false false true r n value m apart one two = refl
put_other true u false false false r n value m apart one two = refl
put_other false true true u1 true r n value m apart one two = refl
put_other false true true u1 false r n value m apart one two = refl
put_other false false true u1 true r n value m apart one two = refl
put_other false false true u1 false r n value m apart one two = refl
put_other false true false true b r n value m apart one two = absurd (one refl refl)
put_other false true false false true r n value m apart one two = refl
put_other false true false false false r n value m apart one two = refl
put_other false false false true true r n value m apart one two = refl
put_other false false false true false r n value m apart one two = refl
put_other false false false false b r n value m apart one two = absurd (two refl refl refl refl)

put_svc : (t u b : Bool) (r : Regs) (n value : ℕ) → (put t u b r n value).svc ≡ r.svc
put_svc true u b r n value = refl
put_svc false true true r n value = refl
put_svc false true false r n value = refl
put_svc false false true r n value = refl
put_svc false false false r n value = refl

put_pc : (t u b : Bool) (r : Regs) (n value : ℕ) → (put t u b r n value).pc ≡ r.pc
put_pc true u b r n value = refl
put_pc false true true r n value = refl
put_pc false true false r n value = refl
put_pc false false true r n value = refl
put_pc false false false r n value = refl

put_psr : (t u b : Bool) (r : Regs) (n value : ℕ) → (put t u b r n value).psr ≡ r.psr
put_psr true u b r n value = refl
put_psr false true true r n value = refl
put_psr false true false r n value = refl
put_psr false false true r n value = refl
put_psr false false false r n value = refl

put_low : (t u b : Bool) (r : Regs) (n value : ℕ) → length (put t u b r n value).low ≡ length r.low
put_low true u b r n value = length-set r.low n value
put_low false true true r n value = refl
put_low false true false r n value = refl
put_low false false true r n value = refl
put_low false false false r n value = refl

-- a register keeps the mode, the PC, the flags and the number of registers
pub svc-with_register : (r : Regs) (n value : ℕ) → (with_register r n value).svc ≡ r.svc
svc-with_register r n value = ap (λ (x : Regs). x.svc) (with_banked_by_put r.svc r n value) ∙ put_svc (nat_lt n 13) (n == 13) r.svc r n value

pub pc-with_register : (r : Regs) (n value : ℕ) → (with_register r n value).pc ≡ r.pc
pc-with_register r n value = ap (λ (x : Regs). x.pc) (with_banked_by_put r.svc r n value) ∙ put_pc (nat_lt n 13) (n == 13) r.svc r n value

pub psr-with_register : (r : Regs) (n value : ℕ) → (with_register r n value).psr ≡ r.psr
psr-with_register r n value = ap (λ (x : Regs). x.psr) (with_banked_by_put r.svc r n value) ∙ put_psr (nat_lt n 13) (n == 13) r.svc r n value

pub low-with_register : (r : Regs) (n value : ℕ) → length (with_register r n value).low ≡ length r.low
low-with_register r n value = ap (λ (x : Regs). length x.low) (with_banked_by_put r.svc r n value) ∙ put_low (nat_lt n 13) (n == 13) r.svc r n value

-- the registers of a mode after a write
banked_as_put : (r : Regs) (n value m : ℕ) → register (with_register r n value) m ≡ look (nat_lt m 13) (m == 13) r.svc (put (nat_lt n 13) (n == 13) r.svc r n value) m
banked_as_put r n value m =
    (λ i. banked (svc-with_register r n value i) (with_banked_by_put r.svc r n value i) m)
    ∙ banked_by_look r.svc (put (nat_lt n 13) (n == 13) r.svc r n value) m

-- the register that was written
pub register-same : (r : Regs) (n value : ℕ) → length r.low ≡ 13 → register (with_register r n value) n ≡ value
register-same r n value whole =
    banked_as_put r n value n
    ∙ put_same (nat_lt n 13) (n == 13) r.svc r n value (λ e. let low = ltb-true n 13 e in omega (arith, low, whole))

-- another register
pub register-other : (r : Regs) (n value m : ℕ) → n < 15 → m < 15 → m ≢ n → register (with_register r n value) m ≡ register r m
register-other r n value m within other apart =
    banked_as_put r n value m
    ∙ put_other (nat_lt n 13) (n == 13) (nat_lt m 13) (m == 13) r.svc r n value m apart
    (λ e f. let a = eqb-true n 13 e in let b = eqb-true m 13 f in apart (b ∙ sym a))
    (λ e f g h. let a = ltb-false n 13 e in let b = eqb-false n 13 f in let c = ltb-false m 13 g in let d = eqb-false m 13 h in apart (omega (arith, a, b, c, d, within, other)))
    ∙ sym (banked_by_look r.svc r m)

-- R0 to R14 of the current mode as a function from numbers, and a function with another value at a number
abbrev pub registers_of : Regs → ℕ → ℕ
registers_of r n = if nat_lt n 15 then register r n else 0

abbrev pub updated : (ℕ → ℕ) → ℕ → ℕ → ℕ → ℕ
updated f n value m = if m == n then value else f m

pub registers-with_register : (r : Regs) (n value : ℕ) → length r.low ≡ 13 → n < 15 → registers_of (with_register r n value) ≡ updated (registers_of r) n value
registers-with_register r n value whole within = λ i m. each m (nat_lt m 15) refl (m == n) refl i
  where
    each : (m : ℕ) (b : Bool) → nat_lt m 15 ≡ b → (c : Bool) → (m == n) ≡ c → registers_of (with_register r n value) m ≡ updated (registers_of r) n value m
    each m true e true f =
        let is = eqb-true m n f in
        rw (e, f) (ap (register (with_register r n value)) is ∙ register-same r n value whole)
    each m true e false f =
        let apart = eqb-false m n f in
        let low = ltb-true m 15 e in
        rw (e, f) (register-other r n value m within low apart)
    each m false e true f =
        let is = eqb-true m n f in
        let high = ltb-false m 15 e in
        absurd (omega (arith, is, high, within))
    each m false e false f = rw (e, f) refl

-- flags that were set
pub negative-with_flags : (n z c v : Bool) (r : Regs) → negative (with_flags n z c v r) ≡ n
unfolding with_flags
negative-with_flags n z c v r =
    let a = from_bool-lt n in let b = from_bool-lt z in let d = from_bool-lt c in let e = from_bool-lt v in
    flag_of n _ (omega (arith, a, b, d, e))

pub zero-with_flags : (n z c v : Bool) (r : Regs) → zero_flag (with_flags n z c v r) ≡ z
unfolding with_flags
zero-with_flags n z c v r =
    let a = from_bool-lt n in let b = from_bool-lt z in let d = from_bool-lt c in let e = from_bool-lt v in
    flag_of z _ (omega (arith, a, b, d, e))

pub carry-with_flags : (n z c v : Bool) (r : Regs) → carry (with_flags n z c v r) ≡ c
unfolding with_flags
carry-with_flags n z c v r =
    let a = from_bool-lt n in let b = from_bool-lt z in let d = from_bool-lt c in let e = from_bool-lt v in
    flag_of c _ (omega (arith, a, b, d, e))

pub overflow-with_flags : (n z c v : Bool) (r : Regs) → overflow (with_flags n z c v r) ≡ v
unfolding with_flags
overflow-with_flags n z c v r =
    let a = from_bool-lt n in let b = from_bool-lt z in let d = from_bool-lt c in let e = from_bool-lt v in
    flag_of v _ (omega (arith, a, b, d, e))

-- flags change no register, no mode and no PC
pub register-with_flags : (n z c v : Bool) (r : Regs) (m : ℕ) → register (with_flags n z c v r) m ≡ register r m
unfolding with_flags banked
register-with_flags n z c v r m = refl

pub svc-with_flags : (n z c v : Bool) (r : Regs) → (with_flags n z c v r).svc ≡ r.svc
unfolding with_flags
svc-with_flags n z c v r = refl

pub pc-with_flags : (n z c v : Bool) (r : Regs) → (with_flags n z c v r).pc ≡ r.pc
unfolding with_flags
pc-with_flags n z c v r = refl

pub low-with_flags : (n z c v : Bool) (r : Regs) → length (with_flags n z c v r).low ≡ length r.low
unfolding with_flags
low-with_flags n z c v r = refl

-- another PC changes no register and no flag
pub register-at_pc : (r : Regs) (pc m : ℕ) → register (record r { pc = pc }) m ≡ register r m
unfolding banked
register-at_pc r pc m = refl

pub holds-at_pc : (cond : ℕ) (r : Regs) (pc : ℕ) → holds cond (record r { pc = pc }) ≡ holds cond r
unfolding holds even_condition
holds-at_pc cond r pc = refl

-- a condition depends on the flags alone, and no register changes them
pub holds-by_psr : (cond : ℕ) (q r : Regs) → q.psr ≡ r.psr → holds cond q ≡ holds cond r
unfolding holds even_condition
holds-by_psr cond q r same = ap (λ psr. holds cond (record r { psr = psr })) same

pub holds-with_register : (cond : ℕ) (r : Regs) (n value : ℕ) → holds cond (with_register r n value) ≡ holds cond r
holds-with_register cond r n value = holds-by_psr cond (with_register r n value) r (psr-with_register r n value)

pub flag-with_register : (at : ℕ) (r : Regs) (n value : ℕ) → bit (with_register r n value).psr at ≡ bit r.psr at
flag-with_register at r n value = ap (λ psr. bit psr at) (psr-with_register r n value)

mode_few : (svc : Bool) → mode svc ≤ 3
mode_few true = omega arith
mode_few false = omega arith

-- registers stay valid
pub valid-with_register : (r : Regs) (n value : ℕ) → IsValidRegs r → IsValidRegs (with_register r n value)
valid-with_register r n value valid =
    let same_pc = pc-with_register r n value in
    let same_psr = psr-with_register r n value in
    let aligned = valid.aligned in
    let low = valid.pc in
    let flags = valid.psr in
    record { aligned = omega (arith, same_pc, aligned); pc = omega (arith, same_pc, low); psr = omega (arith, same_psr, flags) }

pub valid-with_flags : (n z c v : Bool) (r : Regs) → IsValidRegs r → IsValidRegs (with_flags n z c v r)
unfolding with_flags
valid-with_flags n z c v r valid =
    let a = from_bool-lt n in let b = from_bool-lt z in let d = from_bool-lt c in let e = from_bool-lt v in
    record { aligned = valid.aligned; pc = valid.pc; psr = omega (arith, a, b, d, e) }

pub valid-at_pc : (r : Regs) (pc : ℕ) → IsValidRegs r → pc % 4 ≡ 0 → pc < 2 ^ 26 → IsValidRegs (record r { pc = pc })
valid-at_pc r pc valid aligned low = record { aligned = aligned; pc = low; psr = valid.psr }

pub valid-at_next : (r : Regs) → IsValidRegs r → IsValidRegs (at_next r)
valid-at_next r valid = let aligned = valid.aligned in valid-at_pc r (pc_ahead r 4) valid (omega (arith, aligned)) (omega arith)

pub valid-jumped : (r : Regs) (value : ℕ) → IsValidRegs r → IsValidRegs (jumped r value)
valid-jumped r value valid = valid-at_pc r (value % 2 ^ 26 / 4 * 4) valid (omega arith) (omega arith)

-- R15: the PC and the mode are below 2^26, the whole is a word, and a jump to it goes to its PC
pub r15-pc_lt : (r : Regs) (ahead : ℕ) → IsValidRegs r → ahead % 4 ≡ 0 → pc_ahead r ahead + mode r.svc < 2 ^ 26
r15-pc_lt r ahead valid whole = let aligned = valid.aligned in let few = mode_few r.svc in omega (arith, aligned, whole, few)

pub r15-lt : (r : Regs) (ahead : ℕ) → IsValidRegs r → ahead % 4 ≡ 0 → r15 r ahead < 2 ^ 32
unfolding r15
r15-lt r ahead valid whole = let part = r15-pc_lt r ahead valid whole in let flags = valid.psr in omega (arith, part, flags)

pub r15-jump : (q r : Regs) (ahead : ℕ) → IsValidRegs r → ahead % 4 ≡ 0 → jumped q (r15 r ahead) ≡ record q { pc = pc_ahead r ahead }
unfolding r15
r15-jump q r ahead valid whole =
    let part = r15-pc_lt r ahead valid whole in
    let aligned = valid.aligned in
    let few = mode_few r.svc in
    (λ i. record q { pc = (let e : r15 r ahead % 2 ^ 26 / 4 * 4 ≡ pc_ahead r ahead = omega (arith, part, aligned, whole, few) in e) i })

pub r15-at_pc : (r : Regs) (pc ahead : ℕ) → r15 (record r { pc = pc }) ahead ≡ r.psr * 2 ^ 26 + (pc + ahead) % 2 ^ 26 + mode r.svc
unfolding r15
r15-at_pc r pc ahead = refl

-- the conditions by the flags
pub holds-always : (r : Regs) → holds AL r ≡ true
unfolding holds even_condition
holds-always r = refl

pub holds-never : (r : Regs) → holds NV r ≡ false
unfolding holds even_condition
holds-never r = refl

pub holds-eq : (n z c v : Bool) (r : Regs) → holds EQ (with_flags n z c v r) ≡ z
unfolding holds even_condition
holds-eq n z c v r = zero-with_flags n z c v r

pub holds-ne : (n z c v : Bool) (r : Regs) → holds NE (with_flags n z c v r) ≡ not z
unfolding holds even_condition
holds-ne n z c v r = ap not (zero-with_flags n z c v r)

pub holds-cs : (n z c v : Bool) (r : Regs) → holds CS (with_flags n z c v r) ≡ c
unfolding holds even_condition
holds-cs n z c v r = carry-with_flags n z c v r

pub holds-cc : (n z c v : Bool) (r : Regs) → holds CC (with_flags n z c v r) ≡ not c
unfolding holds even_condition
holds-cc n z c v r = ap not (carry-with_flags n z c v r)

pub holds-mi : (n z c v : Bool) (r : Regs) → holds MI (with_flags n z c v r) ≡ n
unfolding holds even_condition
holds-mi n z c v r = negative-with_flags n z c v r

pub holds-pl : (n z c v : Bool) (r : Regs) → holds PL (with_flags n z c v r) ≡ not n
unfolding holds even_condition
holds-pl n z c v r = ap not (negative-with_flags n z c v r)

pub holds-vs : (n z c v : Bool) (r : Regs) → holds VS (with_flags n z c v r) ≡ v
unfolding holds even_condition
holds-vs n z c v r = overflow-with_flags n z c v r

pub holds-vc : (n z c v : Bool) (r : Regs) → holds VC (with_flags n z c v r) ≡ not v
unfolding holds even_condition
holds-vc n z c v r = ap not (overflow-with_flags n z c v r)

pub holds-hi : (n z c v : Bool) (r : Regs) → holds HI (with_flags n z c v r) ≡ (c && not z)
unfolding holds even_condition
holds-hi n z c v r = (λ i. carry-with_flags n z c v r i && not (zero-with_flags n z c v r i))

pub holds-ls : (n z c v : Bool) (r : Regs) → holds LS (with_flags n z c v r) ≡ not (c && not z)
unfolding holds even_condition
holds-ls n z c v r = (λ i. not (carry-with_flags n z c v r i && not (zero-with_flags n z c v r i)))

pub holds-ge : (n z c v : Bool) (r : Regs) → holds GE (with_flags n z c v r) ≡ same n v
unfolding holds even_condition
holds-ge n z c v r = (λ i. same (negative-with_flags n z c v r i) (overflow-with_flags n z c v r i))

pub holds-lt : (n z c v : Bool) (r : Regs) → holds LT (with_flags n z c v r) ≡ not (same n v)
unfolding holds even_condition
holds-lt n z c v r = (λ i. not (same (negative-with_flags n z c v r i) (overflow-with_flags n z c v r i)))

pub holds-gt : (n z c v : Bool) (r : Regs) → holds GT (with_flags n z c v r) ≡ (not z && same n v)
unfolding holds even_condition
holds-gt n z c v r = (λ i. not (zero-with_flags n z c v r i) && same (negative-with_flags n z c v r i) (overflow-with_flags n z c v r i))

pub holds-le : (n z c v : Bool) (r : Regs) → holds LE (with_flags n z c v r) ≡ not (not z && same n v)
unfolding holds even_condition
holds-le n z c v r = (λ i. not (not (zero-with_flags n z c v r i) && same (negative-with_flags n z c v r i) (overflow-with_flags n z c v r i)))
