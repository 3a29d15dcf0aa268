-- The board as a core: what a write to a register, to flags or to memory leaves, and what it reads.
use Rattle.std.proofs.Common.{◌≡◌, ℕ, ◌+◌, ◌*◌, ◌/◌, ◌%◌, ◌^◌, ◌<◌, ◌≤◌, ◌==◌, ◌&&◌, not, nat_lt, nat_le, Bool, true, false, if◌then◌else◌, List, [], sym, ap, ◌∙◌, arith, lt-ltb, le-leb, mod-eq_of_lt}
use Rattle.std.proofs.lemmas.Bool.{cond-true}
use Rattle.std.specs.Int.{from_bool}
use Rattle.bv_base.specs.MemoryMap.{ram_end}
use Rattle.bv_run.specs.Runs.{Goes}
use Rattle.arm_isa.specs.declared.instruction.Instr.{Instr}
use Rattle.arm_isa.specs.Fields.{bit}
use Rattle.arm_isa.specs.Numbers.{EQ, CS, MI, VS, HI, GE, GT}
use Rattle.arm_isa.specs.Words.{means}
use Rattle.arm2_alu.specs.declared.operations.Computed.{Computed}
use Rattle.arm2_alu.specs.declared.regs.Regs.{Regs}
use Rattle.arm2_alu.specs.Conditions.{same, negative, zero_flag, carry, overflow, even_condition, holds, with_flags}
use Rattle.arm2_alu.specs.Registers.{register, with_register, at_next}
use Rattle.arm2_alu.specs.Results.{flagged}
use Rattle.arm2_alu.proofs.RegisterLaws.{updated, registers-with_register, svc-with_register, pc-with_register, psr-with_register, low-with_register, negative-with_flags, zero-with_flags, carry-with_flags, overflow-with_flags, register-with_flags, svc-with_flags, pc-with_flags, low-with_flags, register-at_pc}
use Rattle.arm2_cpu.specs.Memory.{with_byte, with_word, word_in, byte_at}
use Rattle.arm2_cpu.specs.Outcomes.{Stepped}
use Rattle.arm2_cpu.specs.Step.{cpu_step}
use Rattle.arm2_cpu.proofs.MemoryFunctions.{bytes_of, word-by_bytes_of, bytes-with_byte, bytes-with_word}
use Rattle.arm2_cpu.proofs.MemoryLaws.{read-word, length-with_bytes}
use Rattle.arm2_cpu.proofs.StepBasics.{Fetches}
use Rattle.arm2_machine.specs.Machine.{Machine, board_space, entered, first_regs}
use Rattle.arm2_machine.specs.Step.{board_step, instructed}
use Rattle.bv_base.specs.MemoryMap.{pad, return_entry}
use Rattle.arm_core.specs.Core.{Core, put, word, put_word, psr_of, even_meets, meets, IsAt}
use Rattle.arm_core.specs.Effects.{flagged_by}
use Rattle.arm_core.specs.Made.{AtInstruction}

-- ---- what the board reads

-- a register
pub reads : (s : Core) (pc : ℕ) (m : Machine) → IsAt s pc m → (k : ℕ) → k < 15 → register m.regs k ≡ s.regs k
reads s pc m is k low =
    let there : nat_lt k 15 ≡ true = lt-ltb k 15 low in
    sym (cond-true (nat_lt k 15) (register m.regs k) 0 there) ∙ (λ i. is.regs i k)

-- the flags by their number
flags_by_number : (s : Core) (r : Regs) → r.psr ≡ psr_of s → r.psr ≡ (with_flags s.n s.z s.c s.v first_regs).psr
unfolding with_flags
flags_by_number s r is = is ∙ omega arith

pub reads-negative : (s : Core) (r : Regs) → r.psr ≡ psr_of s → negative r ≡ s.n
reads-negative s r is = ap (λ p. bit p 5) (flags_by_number s r is) ∙ negative-with_flags s.n s.z s.c s.v first_regs

pub reads-zero : (s : Core) (r : Regs) → r.psr ≡ psr_of s → zero_flag r ≡ s.z
reads-zero s r is = ap (λ p. bit p 4) (flags_by_number s r is) ∙ zero-with_flags s.n s.z s.c s.v first_regs

pub reads-carry : (s : Core) (r : Regs) → r.psr ≡ psr_of s → carry r ≡ s.c
reads-carry s r is = ap (λ p. bit p 3) (flags_by_number s r is) ∙ carry-with_flags s.n s.z s.c s.v first_regs

pub reads-overflow : (s : Core) (r : Regs) → r.psr ≡ psr_of s → overflow r ≡ s.v
reads-overflow s r is = ap (λ p. bit p 2) (flags_by_number s r is) ∙ overflow-with_flags s.n s.z s.c s.v first_regs

-- a condition
by_flags : (n z c v n' z' c' v' : Bool) → n ≡ n' → z ≡ z' → c ≡ c' → v ≡ v' → (cond : ℕ)
    → (if cond == EQ then z else if cond == CS then c else if cond == MI then n else if cond == VS then v else if cond == HI then c && not z else if cond == GE then same n v else if cond == GT then not z && same n v else true)
    ≡ (if cond == EQ then z' else if cond == CS then c' else if cond == MI then n' else if cond == VS then v' else if cond == HI then c' && not z' else if cond == GE then same n' v' else if cond == GT then not z' && same n' v' else true)
by_flags n z c v n' z' c' v' en ez ec ev cond =
    (λ i. if cond == EQ then ez i else if cond == CS then ec i else if cond == MI then en i else if cond == VS then ev i else if cond == HI then ec i && not (ez i) else if cond == GE then same (en i) (ev i) else if cond == GT then not (ez i) && same (en i) (ev i) else true)

reads_even : (s : Core) (r : Regs) → r.psr ≡ psr_of s → (cond : ℕ) → even_condition cond r ≡ even_meets cond s
unfolding even_condition
reads_even s r is cond = by_flags _ _ _ _ _ _ _ _ (reads-negative s r is) (reads-zero s r is) (reads-carry s r is) (reads-overflow s r is) cond

pub reads-condition : (s : Core) (r : Regs) → r.psr ≡ psr_of s → (cond : ℕ) → holds cond r ≡ meets cond s
unfolding holds
reads-condition s r is cond = (λ i. if cond % 2 == 0 then reads_even s r is cond i else not (reads_even s r is (cond / 2 * 2) i))

-- the supervisor may use all of the memory
pub allows : (user : Bool) (a : ℕ) → user ≡ false → a < ram_end → board_space.allows user a ≡ true
allows user a supervisor inside =
    let low : nat_le 0 a ≡ true = le-leb 0 a (omega arith) in
    let high : nat_lt a ram_end ≡ true = lt-ltb a ram_end inside in
    ap (λ u. board_space.allows u a) supervisor ∙ (λ i. low i && high i)

-- a word and a byte
pub reads-word : (s : Core) (pc : ℕ) (m : Machine) → IsAt s pc m → (a : ℕ) → word_in board_space m.ram a ≡ word s.mem a
reads-word s pc m is a = word-by_bytes_of board_space m.ram a (omega arith) ∙ ap (λ f. word f a) is.mem

pub reads-byte : (s : Core) (pc : ℕ) (m : Machine) → IsAt s pc m → (a : ℕ) → byte_at board_space m.ram a ≡ s.mem a
reads-byte s pc m is a =
    let low : nat_le 0 a ≡ true = le-leb 0 a (omega arith) in
    sym (cond-true (nat_le 0 a) (byte_at board_space m.ram a) 0 low) ∙ (λ i. is.mem i a)

-- the instruction
pub fetches : (s : Core) (pc : ℕ) (m : Machine) (i : Instr) → AtInstruction s pc m i → Fetches board_space m.regs m.ram i
fetches s pc m i at =
    let user : not m.regs.svc ≡ false = ap not at.is.svc in
    record {
      word = word_in board_space m.ram m.regs.pc;
      fetched = read-word board_space m.ram (not m.regs.svc) m.regs.pc (allows (not m.regs.svc) m.regs.pc user (omega (arith, at.is.pc, at.inside)));
      meaning = ap means (reads-word s pc m at.is m.regs.pc ∙ ap (word s.mem) at.is.pc) ∙ at.instruction;
    }

-- supervisor mode makes the processor's instruction
pub supervised : (s : Core) (pc : ℕ) (m : Machine) (x : Stepped) → IsAt s pc m → cpu_step board_space m.regs m.ram ≡ x → board_step m ≡ instructed m x
unfolding board_step
supervised s pc m x is made = (λ i. if not (is.svc i) && m.regs.pc == pad then Goes (record m { regs = entered m.regs return_entry }) [] else instructed m (made i))

-- ---- what a write leaves

-- a function with another value at a number is bounded where it was and the value is
pub updated-lt : (f : ℕ → ℕ) (n value bound : ℕ) → ((k : ℕ) → f k < bound) → value < bound → (k : ℕ) → updated f n value k < bound
updated-lt f n value bound all one k = each (k == n)
  where
    each : (b : Bool) → (if b then value else f k) < bound
    each true = one
    each false = all k

-- the next instruction
pub is-next : (s : Core) (pc : ℕ) (m : Machine) → IsAt s pc m → pc + 4 < ram_end → IsAt s (pc + 4) (record m { regs = at_next m.regs })
is-next s pc m is inside = record {
  good = is.good;
  regs = (λ i k. if nat_lt k 15 then register-at_pc m.regs ((m.regs.pc + 4) % 2 ^ 26) k i else 0) ∙ is.regs;
  psr = is.psr;
  mem = is.mem;
  input = is.input;
  pc = ap (λ n. (n + 4) % 2 ^ 26) is.pc ∙ mod-eq_of_lt (omega (arith, inside));
  svc = is.svc;
  low = is.low;
  ram = is.ram;
}

-- more was written
pub is-written : (s : Core) (pc : ℕ) (m : Machine) (out : List ℕ) → IsAt s pc m → IsAt (record s { out = out }) pc m
is-written s pc m out is = record {
  good = record { regs = is.good.regs; mem = is.good.mem; input = is.good.input };
  regs = is.regs;
  psr = is.psr;
  mem = is.mem;
  input = is.input;
  pc = is.pc;
  svc = is.svc;
  low = is.low;
  ram = is.ram;
}

-- another address
pub is-at : (s : Core) (pc to : ℕ) (m : Machine) (value : ℕ) → IsAt s pc m → value ≡ to → IsAt s to (record m { regs = record m.regs { pc = value } })
is-at s pc to m value is leads = record {
  good = is.good;
  regs = (λ i k. if nat_lt k 15 then register-at_pc m.regs value k i else 0) ∙ is.regs;
  psr = is.psr;
  mem = is.mem;
  input = is.input;
  pc = leads;
  svc = is.svc;
  low = is.low;
  ram = is.ram;
}

-- a register takes a value
pub is-put : (s : Core) (pc : ℕ) (m : Machine) (rd value x : ℕ) → IsAt s pc m → rd < 15 → value ≡ x → x < 2 ^ 32 → IsAt (put rd x s) pc (record m { regs = with_register m.regs rd value })
is-put s pc m rd value x is low same small = record {
  good = record { regs = updated-lt s.regs rd x (2 ^ 32) is.good.regs small; mem = is.good.mem; input = is.good.input };
  regs = registers-with_register m.regs rd value is.low low ∙ (λ i. updated (is.regs i) rd (same i));
  psr = psr-with_register m.regs rd value ∙ is.psr;
  mem = is.mem;
  input = is.input;
  pc = pc-with_register m.regs rd value ∙ is.pc;
  svc = svc-with_register m.regs rd value ∙ is.svc;
  low = low-with_register m.regs rd value ∙ is.low;
  ram = is.ram;
}

-- the flags are set by a result
pub flagged_number : (n z c v : Bool) (s : Core) (r : Regs) → r.psr ≡ psr_of s → (with_flags n z c v r).psr ≡ psr_of (record s { n = n; z = z; c = c; v = v })
unfolding with_flags
flagged_number n z c v s r is =
    let clear : psr_of s % 4 ≡ 0 = omega arith in
    ap (λ p. from_bool n * 2 ^ 5 + from_bool z * 2 ^ 4 + from_bool c * 2 ^ 3 + from_bool v * 2 ^ 2 + p) (ap (λ p. p % 4) is ∙ clear) ∙ omega arith

pub is-flagged : (s : Core) (pc : ℕ) (m : Machine) (x : Computed) → IsAt s pc m → IsAt (flagged_by x s) pc (record m { regs = flagged x m.regs })
is-flagged s pc m x is =
    let n = bit x.value 31 in
    let z = x.value == 0 in
    record {
      good = record { regs = is.good.regs; mem = is.good.mem; input = is.good.input };
      regs = (λ i k. if nat_lt k 15 then register-with_flags n z x.carry x.overflow m.regs k i else 0) ∙ is.regs;
      psr = flagged_number n z x.carry x.overflow s m.regs is.psr;
      mem = is.mem;
      input = is.input;
      pc = pc-with_flags n z x.carry x.overflow m.regs ∙ is.pc;
      svc = svc-with_flags n z x.carry x.overflow m.regs ∙ is.svc;
      low = low-with_flags n z x.carry x.overflow m.regs ∙ is.low;
      ram = is.ram;
    }

-- a byte is stored
pub is-byte : (s : Core) (pc : ℕ) (m : Machine) (a value x : ℕ) → IsAt s pc m → a < ram_end → value ≡ x → x < 2 ^ 8
    → IsAt (record s { mem = updated s.mem a x }) pc (record m { ram = with_byte board_space m.ram a value })
is-byte s pc m a value x is inside same small = record {
  good = record { regs = is.good.regs; mem = updated-lt s.mem a x (2 ^ 8) is.good.mem small; input = is.good.input };
  regs = is.regs;
  psr = is.psr;
  mem = bytes-with_byte board_space m.ram a value (omega arith) (omega (arith, inside, is.ram)) ∙ (λ i. updated (is.mem i) a (same i));
  input = is.input;
  pc = is.pc;
  svc = is.svc;
  low = is.low;
  ram = length-with_bytes board_space m.ram a _ (omega (arith, inside, is.ram)) ∙ is.ram;
}

put_word-lt : (m : ℕ → ℕ) (a x : ℕ) → ((k : ℕ) → m k < 2 ^ 8) → (k : ℕ) → put_word m a x k < 2 ^ 8
unfolding put_word
put_word-lt m a x all =
    updated-lt _ (a + 3) (x / 2 ^ 24 % 2 ^ 8) (2 ^ 8)
    (updated-lt _ (a + 2) (x / 2 ^ 16 % 2 ^ 8) (2 ^ 8)
    (updated-lt _ (a + 1) (x / 2 ^ 8 % 2 ^ 8) (2 ^ 8) (updated-lt m a (x % 2 ^ 8) (2 ^ 8) all (omega arith)) (omega arith)) (omega arith)) (omega arith)

-- a word is stored
word_stored : (s : Core) (pc : ℕ) (m : Machine) (a value x : ℕ) → IsAt s pc m → a + 4 ≤ ram_end → value ≡ x → bytes_of board_space (with_word board_space m.ram a value) ≡ put_word s.mem a x
unfolding put_word
word_stored s pc m a value x is inside same =
    bytes-with_word board_space m.ram a value (omega arith) (omega (arith, inside, is.ram)) ∙ (λ i. put_word (is.mem i) a (same i))

pub is-word : (s : Core) (pc : ℕ) (m : Machine) (a value x : ℕ) → IsAt s pc m → a + 4 ≤ ram_end → value ≡ x
    → IsAt (record s { mem = put_word s.mem a x }) pc (record m { ram = with_word board_space m.ram a value })
is-word s pc m a value x is inside same = record {
  good = record { regs = is.good.regs; mem = put_word-lt s.mem a x is.good.mem; input = is.good.input };
  regs = is.regs;
  psr = is.psr;
  mem = word_stored s pc m a value x is inside same;
  input = is.input;
  pc = is.pc;
  svc = is.svc;
  low = is.low;
  ram = length-with_bytes board_space m.ram a _ (omega (arith, inside, is.ram)) ∙ is.ram;
}
