-- The steps of LDR and STR.
use Rattle.std.proofs.Common.{◌≡◌, ℕ, ◌+◌, ◌%◌, ◌^◌, ◌<◌, ◌≤◌, ◌==◌, ◌&&◌, ◌||◌, not, nat_lt, Bool, true, false, refl, sym, ap, ◌∙◌, arith, ltb-true}
use Rattle.std.proofs.lemmas.Bool.{and_parts, not-true, ne_eqb, false≢true}
use Rattle.bv_base.specs.MemoryMap.{ram_end}
use Rattle.arm_isa.specs.declared.instruction.Instr.TheVariants.{Single}
use Rattle.arm_isa.specs.Fields.{bits}
use Rattle.arm2_alu.specs.declared.shifts.Shifted.{Shifted}
use Rattle.arm2_alu.specs.Conditions.{holds}
use Rattle.arm2_alu.specs.Operands.{first_operand}
use Rattle.arm2_alu.specs.Registers.{register, with_register}
use Rattle.arm2_alu.proofs.ValueLaws.{first-register}
use Rattle.arm2_cpu.specs.Access.{moved, offset_of, writes_back}
use Rattle.arm2_cpu.proofs.TransferLaws.{is_open_offset, moved-sum, moved-difference, step-ldr, step-ldrb, step-str, step-strb, step-ldr_writeback, step-str_writeback, step-ldrb_writeback, step-strb_writeback, step-ldr_after, step-str_after, step-ldrb_after, step-strb_after}
use Rattle.arm2_machine.specs.Machine.{Machine, board_space}
use Rattle.arm_core.specs.Core.{Core, put, word, IsGood, IsAt}
use Rattle.arm_core.specs.Effects.{offset_in, moved_by, address_of, with_moved_base, transfers, is_plain_register, is_plain_single, CanUse}
use Rattle.arm_core.specs.Made.{Makes, AtInstruction}
use Rattle.arm_core.proofs.States.{reads, reads-condition, allows, reads-word, reads-byte, fetches, is-next, is-put, is-byte, is-word}
use Rattle.arm_core.proofs.Values.{plain-parts, amount-is}
use Rattle.arm_core.proofs.DataSteps.{made}

-- the parts of a plain instruction
record SingleParts (reg pre byte wb load : Bool) (rn rd offset : ℕ) : Type 0 where
  mode : (pre || not wb) ≡ true
  base : rn < 15
  moves : rd < 15
  apart : (load && (writes_back pre wb && (rd == rn))) ≡ false
  offset_is : (not reg || is_plain_register offset) ≡ true

single_parts : (reg pre byte wb load : Bool) (rn rd offset : ℕ) → is_plain_single reg pre byte wb load rn rd offset ≡ true → SingleParts reg pre byte wb load rn rd offset
single_parts reg pre byte wb load rn rd offset plain =
    let a = and_parts (pre || not wb) (nat_lt rn 15 && (nat_lt rd 15 && (not (load && (writes_back pre wb && (rd == rn))) && (not reg || is_plain_register offset)))) plain in
    let b = and_parts (nat_lt rn 15) (nat_lt rd 15 && (not (load && (writes_back pre wb && (rd == rn))) && (not reg || is_plain_register offset))) a.1 in
    let c = and_parts (nat_lt rd 15) (not (load && (writes_back pre wb && (rd == rn))) && (not reg || is_plain_register offset)) b.1 in
    let d = and_parts (not (load && (writes_back pre wb && (rd == rn)))) (not reg || is_plain_register offset) c.1 in
    record { mode = a.0; base = ltb-true rn 15 b.0; moves = ltb-true rd 15 c.0; apart = not-true (load && (writes_back pre wb && (rd == rn))) d.0; offset_is = d.1 }

closed_offset : (reg : Bool) (offset : ℕ) → (not reg || is_plain_register offset) ≡ true → is_open_offset reg offset ≡ false
closed_offset false offset plain = refl
closed_offset true offset plain = let p = plain-parts offset plain in ne_eqb (bits offset 3 0) 15 (λ e. omega (arith, e, p.1))

offset-is : (s : Core) (pc : ℕ) (m : Machine) (reg : Bool) (offset : ℕ) → IsAt s pc m → (not reg || is_plain_register offset) ≡ true → offset_of m.regs reg offset ≡ offset_in reg offset s
unfolding offset_of
offset-is s pc m false offset is plain = refl
offset-is s pc m true offset is plain = ap (λ (x : Shifted). x.value) (amount-is s pc m offset is plain)

pub moved-is : (up : Bool) (base offset : ℕ) → moved up base offset ≡ moved_by up base offset
moved-is true base offset = moved-sum base offset
moved-is false base offset = moved-difference base offset

pub moved-lt : (up : Bool) (base offset : ℕ) → moved_by up base offset < 2 ^ 32
moved-lt true base offset = omega arith
moved-lt false base offset = omega arith

module _ (s : Core) (pc : ℕ) (m : Machine) (reg pre up byte wb load : Bool) (rn rd offset : ℕ) (at : AtInstruction s pc m (Single 14 reg pre up byte wb load rn rd offset)) (p : SingleParts reg pre byte wb load rn rd offset) where
  base_is : register m.regs rn ≡ s.regs rn
  base_is = reads s pc m at.is rn p.base

  always : holds 14 m.regs ≡ true
  always = reads-condition s m.regs at.is.psr 14

  moves_to : moved up (register m.regs rn) (offset_of m.regs reg offset) ≡ moved_by up (s.regs rn) (offset_in reg offset s)
  moves_to = (λ i. moved up (base_is i) (offset-is s pc m reg offset at.is p.offset_is i)) ∙ moved-is up (s.regs rn) (offset_in reg offset s)

  first_to : moved up (first_operand m.regs 8 rn) (offset_of m.regs reg offset) ≡ moved_by up (s.regs rn) (offset_in reg offset s)
  first_to = ap (λ b. moved up b (offset_of m.regs reg offset)) (first-register m.regs 8 rn p.base) ∙ moves_to

  after_to : moved up (s.regs rn) (offset_of m.regs reg offset) ≡ moved_by up (s.regs rn) (offset_in reg offset s)
  after_to = ap (λ b. moved up b (offset_of m.regs reg offset)) (sym base_is) ∙ moves_to

  usable : (a : ℕ) → a < ram_end → board_space.allows (not m.regs.svc) a ≡ true
  usable a inside = allows (not m.regs.svc) a (ap not at.is.svc) inside

  abbrev target : ℕ
  target = moved_by up (s.regs rn) (offset_in reg offset s)

  -- the base takes the moved address
  moved_base : IsAt (put rn target s) pc (record m { regs = with_register m.regs rn target })
  moved_base = is-put s pc m rn target target at.is p.base refl (moved-lt up (s.regs rn) (offset_in reg offset s))

-- a register that is loaded or stored is a word; its low byte is a byte
low_byte : (x y : ℕ) → x ≡ y → x % 2 ^ 8 ≡ y % 2 ^ 8
low_byte x y e = ap (λ k. k % 2 ^ 8) e

pub word-lt : (s : Core) (a : ℕ) → IsGood s → word s.mem a < 2 ^ 32
word-lt s a good = omega (arith, good.mem a, good.mem (a + 1), good.mem (a + 2), good.mem (a + 3))

word_inside : (a : ℕ) → a % 4 ≡ 0 → a < ram_end → a + 4 ≤ ram_end
word_inside a aligned inside = omega (arith, aligned, inside)

byte-lt : (s : Core) (a : ℕ) → IsGood s → s.mem a < 2 ^ 32
byte-lt s a good = omega (arith, good.mem a)

pub single-made : (s : Core) (pc : ℕ) (m : Machine) (reg pre up byte wb load : Bool) (rn rd offset : ℕ) → AtInstruction s pc m (Single 14 reg pre up byte wb load rn rd offset)
    → is_plain_single reg pre byte wb load rn rd offset ≡ true → CanUse byte (address_of reg pre up rn offset s)
    → Makes s m (pc + 4) (transfers load byte rd (address_of reg pre up rn offset s) s (with_moved_base reg pre up wb rn offset s))
single-made s pc m reg true up false false true rn rd offset at plain can =
    let p = single_parts reg true false false true rn rd offset plain in
    let a = address_of reg true up rn offset s in
    made s _ pc (pc + 4) m _ m.ram at.is
    (step-ldr board_space m.regs m.ram 14 reg up rn rd offset a (fetches s pc m _ at) (always s pc m reg true up false false true rn rd offset at p) (closed_offset reg offset p.offset_is) p.moves
    (first_to s pc m reg true up false false true rn rd offset at p) can.0 (omega (arith, can.1)) (usable s pc m reg true up false false true rn rd offset at p a can.1)) refl
    (is-next _ pc _ (is-put s pc m rd _ (word s.mem a) at.is p.moves (reads-word s pc m at.is a) (word-lt s a at.is.good)) at.inside)
single-made s pc m reg true up true false true rn rd offset at plain can =
    let p = single_parts reg true true false true rn rd offset plain in
    let a = address_of reg true up rn offset s in
    made s _ pc (pc + 4) m _ m.ram at.is
    (step-ldrb board_space m.regs m.ram 14 reg up rn rd offset a (fetches s pc m _ at) (always s pc m reg true up true false true rn rd offset at p) (closed_offset reg offset p.offset_is) p.moves
    (first_to s pc m reg true up true false true rn rd offset at p) (omega (arith, can)) (usable s pc m reg true up true false true rn rd offset at p a can)) refl
    (is-next _ pc _ (is-put s pc m rd _ (s.mem a) at.is p.moves (reads-byte s pc m at.is a) (byte-lt s a at.is.good)) at.inside)
single-made s pc m reg true up false false false rn rd offset at plain can =
    let p = single_parts reg true false false false rn rd offset plain in
    let a = address_of reg true up rn offset s in
    made s _ pc (pc + 4) m _ _ at.is
    (step-str board_space m.regs m.ram 14 reg up rn rd offset a (fetches s pc m _ at) (always s pc m reg true up false false false rn rd offset at p) (closed_offset reg offset p.offset_is) p.moves
    (first_to s pc m reg true up false false false rn rd offset at p) can.0 (omega (arith, can.1)) (usable s pc m reg true up false false false rn rd offset at p a can.1)) refl
    (is-next _ pc _ (is-word s pc m a _ (s.regs rd) at.is (word_inside a can.0 can.1) (reads s pc m at.is rd p.moves)) at.inside)
single-made s pc m reg true up true false false rn rd offset at plain can =
    let p = single_parts reg true true false false rn rd offset plain in
    let a = address_of reg true up rn offset s in
    made s _ pc (pc + 4) m _ _ at.is
    (step-strb board_space m.regs m.ram 14 reg up rn rd offset a (fetches s pc m _ at) (always s pc m reg true up true false false rn rd offset at p) (closed_offset reg offset p.offset_is) p.moves
    (first_to s pc m reg true up true false false rn rd offset at p) (omega (arith, can)) (usable s pc m reg true up true false false rn rd offset at p a can)) refl
    (is-next _ pc _ (is-byte s pc m a _ (s.regs rd % 2 ^ 8) at.is can (low_byte _ _ (reads s pc m at.is rd p.moves)) (omega arith)) at.inside)
single-made s pc m reg true up false true true rn rd offset at plain can =
    let p = single_parts reg true false true true rn rd offset plain in
    let a = address_of reg true up rn offset s in
    made s _ pc (pc + 4) m _ m.ram at.is
    (step-ldr_writeback board_space m.regs m.ram 14 reg up rn rd offset a (fetches s pc m _ at) (always s pc m reg true up false true true rn rd offset at p) (closed_offset reg offset p.offset_is) p.base p.moves p.apart
    (moves_to s pc m reg true up false true true rn rd offset at p) can.0 (omega (arith, can.1)) (usable s pc m reg true up false true true rn rd offset at p a can.1)) refl
    (is-next _ pc _ (is-put _ pc _ rd _ (word s.mem a) (moved_base s pc m reg true up false true true rn rd offset at p) p.moves (reads-word s pc m at.is a) (word-lt s a at.is.good)) at.inside)
single-made s pc m reg true up true true true rn rd offset at plain can =
    let p = single_parts reg true true true true rn rd offset plain in
    let a = address_of reg true up rn offset s in
    made s _ pc (pc + 4) m _ m.ram at.is
    (step-ldrb_writeback board_space m.regs m.ram 14 reg up rn rd offset a (fetches s pc m _ at) (always s pc m reg true up true true true rn rd offset at p) (closed_offset reg offset p.offset_is) p.base p.moves p.apart
    (moves_to s pc m reg true up true true true rn rd offset at p) (omega (arith, can)) (usable s pc m reg true up true true true rn rd offset at p a can)) refl
    (is-next _ pc _ (is-put _ pc _ rd _ (s.mem a) (moved_base s pc m reg true up true true true rn rd offset at p) p.moves (reads-byte s pc m at.is a) (byte-lt s a at.is.good)) at.inside)
single-made s pc m reg true up false true false rn rd offset at plain can =
    let p = single_parts reg true false true false rn rd offset plain in
    let a = address_of reg true up rn offset s in
    made s _ pc (pc + 4) m _ _ at.is
    (step-str_writeback board_space m.regs m.ram 14 reg up rn rd offset a (fetches s pc m _ at) (always s pc m reg true up false true false rn rd offset at p) (closed_offset reg offset p.offset_is) p.base p.moves
    (moves_to s pc m reg true up false true false rn rd offset at p) can.0 (omega (arith, can.1)) (usable s pc m reg true up false true false rn rd offset at p a can.1)) refl
    (is-next _ pc _ (is-word _ pc _ a _ (s.regs rd) (moved_base s pc m reg true up false true false rn rd offset at p) (word_inside a can.0 can.1) (reads s pc m at.is rd p.moves)) at.inside)
single-made s pc m reg true up true true false rn rd offset at plain can =
    let p = single_parts reg true true true false rn rd offset plain in
    let a = address_of reg true up rn offset s in
    made s _ pc (pc + 4) m _ _ at.is
    (step-strb_writeback board_space m.regs m.ram 14 reg up rn rd offset a (fetches s pc m _ at) (always s pc m reg true up true true false rn rd offset at p) (closed_offset reg offset p.offset_is) p.base p.moves
    (moves_to s pc m reg true up true true false rn rd offset at p) (omega (arith, can)) (usable s pc m reg true up true true false rn rd offset at p a can)) refl
    (is-next _ pc _ (is-byte _ pc _ a _ (s.regs rd % 2 ^ 8) (moved_base s pc m reg true up true true false rn rd offset at p) can (low_byte _ _ (reads s pc m at.is rd p.moves)) (omega arith)) at.inside)
single-made s pc m reg false up false false true rn rd offset at plain can =
    let p = single_parts reg false false false true rn rd offset plain in
    let a = s.regs rn in
    made s _ pc (pc + 4) m _ m.ram at.is
    (step-ldr_after board_space m.regs m.ram 14 reg up rn rd offset a _ (fetches s pc m _ at) (always s pc m reg false up false false true rn rd offset at p) (closed_offset reg offset p.offset_is) p.base p.moves p.apart
    (base_is s pc m reg false up false false true rn rd offset at p) (after_to s pc m reg false up false false true rn rd offset at p) can.0 (omega (arith, can.1)) (usable s pc m reg false up false false true rn rd offset at p a can.1)) refl
    (is-next _ pc _ (is-put _ pc _ rd _ (word s.mem a) (moved_base s pc m reg false up false false true rn rd offset at p) p.moves (reads-word s pc m at.is a) (word-lt s a at.is.good)) at.inside)
single-made s pc m reg false up true false true rn rd offset at plain can =
    let p = single_parts reg false true false true rn rd offset plain in
    let a = s.regs rn in
    made s _ pc (pc + 4) m _ m.ram at.is
    (step-ldrb_after board_space m.regs m.ram 14 reg up rn rd offset a _ (fetches s pc m _ at) (always s pc m reg false up true false true rn rd offset at p) (closed_offset reg offset p.offset_is) p.base p.moves p.apart
    (base_is s pc m reg false up true false true rn rd offset at p) (after_to s pc m reg false up true false true rn rd offset at p) (omega (arith, can)) (usable s pc m reg false up true false true rn rd offset at p a can)) refl
    (is-next _ pc _ (is-put _ pc _ rd _ (s.mem a) (moved_base s pc m reg false up true false true rn rd offset at p) p.moves (reads-byte s pc m at.is a) (byte-lt s a at.is.good)) at.inside)
single-made s pc m reg false up false false false rn rd offset at plain can =
    let p = single_parts reg false false false false rn rd offset plain in
    let a = s.regs rn in
    made s _ pc (pc + 4) m _ _ at.is
    (step-str_after board_space m.regs m.ram 14 reg up rn rd offset a _ (fetches s pc m _ at) (always s pc m reg false up false false false rn rd offset at p) (closed_offset reg offset p.offset_is) p.base p.moves
    (base_is s pc m reg false up false false false rn rd offset at p) (after_to s pc m reg false up false false false rn rd offset at p) can.0 (omega (arith, can.1)) (usable s pc m reg false up false false false rn rd offset at p a can.1)) refl
    (is-next _ pc _ (is-word _ pc _ a _ (s.regs rd) (moved_base s pc m reg false up false false false rn rd offset at p) (word_inside a can.0 can.1) (reads s pc m at.is rd p.moves)) at.inside)
single-made s pc m reg false up true false false rn rd offset at plain can =
    let p = single_parts reg false true false false rn rd offset plain in
    let a = s.regs rn in
    made s _ pc (pc + 4) m _ _ at.is
    (step-strb_after board_space m.regs m.ram 14 reg up rn rd offset a _ (fetches s pc m _ at) (always s pc m reg false up true false false rn rd offset at p) (closed_offset reg offset p.offset_is) p.base p.moves
    (base_is s pc m reg false up true false false rn rd offset at p) (after_to s pc m reg false up true false false rn rd offset at p) (omega (arith, can)) (usable s pc m reg false up true false false rn rd offset at p a can)) refl
    (is-next _ pc _ (is-byte _ pc _ a _ (s.regs rd % 2 ^ 8) (moved_base s pc m reg false up true false false rn rd offset at p) can (low_byte _ _ (reads s pc m at.is rd p.moves)) (omega arith)) at.inside)
single-made s pc m reg false up byte true load rn rd offset at plain can =
    absurd (false≢true (single_parts reg false byte true load rn rd offset plain).mode)
