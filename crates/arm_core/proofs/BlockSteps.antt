-- The steps of LDM and STM.
use Rattle.std.proofs.Common.{◌≡◌, ℕ, zero, suc, ◌+◌, ◌*◌, ◌/◌, ◌%◌, ◌^◌, ◌<◌, ◌≤◌, ◌==◌, ◌&&◌, ◌||◌, not, nat_lt, Bool, true, false, if◌then◌else◌, List, [], ◌∷◌, length, None, refl, sym, ap, subst, ◌∙◌, arith, ltb-true, mod-eq_of_lt}
use Rattle.std.proofs.lemmas.Bool.{and_parts, not-true, ne_eqb, true≢false}
use Rattle.bv_base.specs.MemoryMap.{ram_end}
use Rattle.arm_isa.specs.declared.instruction.Instr.TheVariants.{Block}
use Rattle.arm_isa.specs.Fields.{bit}
use Rattle.arm2_alu.specs.Conditions.{same}
use Rattle.arm2_alu.specs.Registers.{register, with_register, at_next}
use Rattle.arm2_alu.proofs.RegisterLaws.{svc-with_register}
use Rattle.arm2_alu.proofs.ValueLaws.{not_r15}
use Rattle.arm2_cpu.specs.Access.{moved}
use Rattle.arm2_cpu.specs.Block.{registers_among, registers_in, next_word, refused_word, with_block, with_words}
use Rattle.arm2_cpu.specs.Memory.{with_word, word_in}
use Rattle.arm2_cpu.specs.Unpredictable.{is_unpredictable_block}
use Rattle.arm2_cpu.proofs.StepBasics.{goes}
use Rattle.arm2_cpu.proofs.TransferLaws.{block_start, step-stm, step-ldm, with_block-none, with_block-more, with_words-none, with_words-more, refused-range}
use Rattle.arm2_machine.specs.Machine.{Machine, board_space}
use Rattle.arm_core.specs.Core.{Core, word, IsAt}
use Rattle.arm_core.specs.Effects.{listed_among, listed, stored_words, loaded_words, block_target, block_begins, moves_block, is_plain_block, CanUseBlock}
use Rattle.arm_core.specs.Made.{Makes, AtInstruction}
use Rattle.arm_core.proofs.States.{reads, reads-condition, allows, reads-word, fetches, is-next, is-put, is-word}
use Rattle.arm_core.proofs.DataSteps.{made}
use Rattle.arm_core.proofs.TransferSteps.{moved-is, moved-lt, word-lt}

-- ---- the list of registers

listed-is : (k n list : ℕ) → listed_among k n list ≡ registers_among k n list
unfolding registers_among
listed-is zero n list = refl
listed-is (suc k) n list = (λ i. if bit list n then n ∷ listed-is k (n + 1) list i else listed-is k (n + 1) list i)

-- without its last register
shorter : (k n list : ℕ) → bit list (n + k) ≡ false → registers_among (suc k) n list ≡ registers_among k n list
unfolding registers_among
shorter zero n list clear = ap (λ b. if b then n ∷ [] else []) (ap (bit list) (let e : n ≡ n + 0 = omega arith in e) ∙ clear)
shorter (suc k) n list clear =
    let rest = shorter k (n + 1) list (ap (bit list) (let e : n + 1 + k ≡ n + suc k = omega arith in e) ∙ clear) in
    (λ i. if bit list n then n ∷ rest i else rest i)

no_r15 : (list : ℕ) → list < 2 ^ 15 → bit list 15 ≡ false
no_r15 list low = ne_eqb (list / 2 ^ 15 % 2) 1 (λ e. omega (arith, e, low))

all_listed : (list : ℕ) → list < 2 ^ 15 → registers_in list ≡ listed list
all_listed list low = shorter 15 0 list (no_r15 list low) ∙ sym (listed-is 15 0 list)

-- all are below R15
AllLow : List ℕ → Type 0
AllLow [] = Unit {0}
AllLow (n ∷ ns) = (n < 15) × AllLow ns

low_among : (k n list : ℕ) → n + k ≤ 15 → AllLow (listed_among k n list)
unfolding AllLow
low_among zero n list few = tt
low_among (suc k) n list few = each (bit list n) (low_among k (n + 1) list (omega (arith, few)))
  where
    each : (b : Bool) → AllLow (listed_among k (n + 1) list) → AllLow (if b then n ∷ listed_among k (n + 1) list else listed_among k (n + 1) list)
    each true rest = (omega (arith, few), rest)
    each false rest = rest

-- ---- the words of a block

stores : (ns : List ℕ) (regs : ℕ → ℕ) (s : Core) (pc : ℕ) (m : Machine) (a : ℕ) → AllLow ns → IsAt s pc m → s.regs ≡ regs → a + 4 * length ns ≤ ram_end
    → IsAt (record s { mem = stored_words ns regs s.mem a }) pc (record m { ram = with_block ns board_space m.ram m.regs m.regs.svc a })
unfolding AllLow
stores [] regs s pc m a low is same fits = subst (λ ram. IsAt s pc (record m { ram = ram })) (sym (with_block-none board_space m.ram m.regs m.regs.svc a)) is
stores (n ∷ ns) regs s pc m a low is same fits =
    let next : next_word a ≡ a + 4 = omega (arith, fits) in
    let first = is-word s pc m a (register m.regs n) (regs n) is (omega (arith, fits)) (reads s pc m is n low.0 ∙ (λ i. same i n)) in
    let rest = stores ns regs _ pc _ (a + 4) low.1 first same (omega (arith, fits)) in
    subst (λ ram. IsAt (record s { mem = stored_words (n ∷ ns) regs s.mem a }) pc (record m { ram = ram }))
    (sym (with_block-more n ns board_space m.ram m.regs a low.0
    ∙ ap (with_block ns board_space (with_word board_space m.ram a (register m.regs n)) m.regs m.regs.svc) next)) rest

loads : (ns : List ℕ) (svc : Bool) (s : Core) (pc : ℕ) (m : Machine) (a : ℕ) → AllLow ns → IsAt s pc m → m.regs.svc ≡ svc → a + 4 * length ns ≤ ram_end
    → IsAt (record s { regs = loaded_words ns s.mem a s.regs }) pc (record m { regs = with_words ns board_space m.ram m.regs svc a })
unfolding AllLow
loads [] svc s pc m a low is mode fits = subst (λ r. IsAt s pc (record m { regs = r })) (sym (with_words-none board_space m.ram m.regs svc a)) is
loads (n ∷ ns) svc s pc m a low is mode fits =
    let next : next_word a ≡ a + 4 = omega (arith, fits) in
    let x = word_in board_space m.ram a in
    let first = is-put s pc m n x (word s.mem a) is low.0 (reads-word s pc m is a) (word-lt s a is.good) in
    let rest = loads ns svc _ pc _ (a + 4) low.1 first (svc-with_register m.regs n x ∙ mode) (omega (arith, fits)) in
    subst (λ r. IsAt (record s { regs = loaded_words (n ∷ ns) s.mem a s.regs }) pc (record m { regs = r }))
    (sym (with_words-more n ns board_space m.ram m.regs svc a mode
    ∙ ap (with_words ns board_space m.ram (with_register m.regs n x) svc) next)) rest

-- ---- the step

record BlockParts (wb : Bool) (rn list : ℕ) : Type 0 where
  base : rn < 15
  low : list < 2 ^ 15
  some : (list == 0) ≡ false
  apart : (wb && bit list rn) ≡ false

block_parts : (psr wb : Bool) (rn list : ℕ) → is_plain_block psr wb rn list ≡ true → (psr ≡ false) × BlockParts wb rn list
block_parts psr wb rn list plain =
    let a = and_parts (not psr) (nat_lt rn 15 && (nat_lt list (2 ^ 15) && (not (list == 0) && not (wb && bit list rn)))) plain in
    let b = and_parts (nat_lt rn 15) (nat_lt list (2 ^ 15) && (not (list == 0) && not (wb && bit list rn))) a.1 in
    let c = and_parts (nat_lt list (2 ^ 15)) (not (list == 0) && not (wb && bit list rn)) b.1 in
    let d = and_parts (not (list == 0)) (not (wb && bit list rn)) c.1 in
    (not-true psr a.0, record { base = ltb-true rn 15 b.0; low = ltb-true list (2 ^ 15) c.0; some = not-true (list == 0) d.0; apart = not-true (wb && bit list rn) d.1 })

predictable : (wb load : Bool) (rn list : ℕ) → BlockParts wb rn list → is_unpredictable_block false wb load rn list ≡ false
predictable false load rn list p = (λ i. p.some i || not_r15 rn p.base i || false)
predictable true load rn list p = (λ i. p.some i || not_r15 rn p.base i || (p.apart i || false))

module _ (s : Core) (pc : ℕ) (m : Machine) (pre up wb load : Bool) (rn list : ℕ) (at : AtInstruction s pc m (Block 14 pre up false wb load rn list)) (p : BlockParts wb rn list)
    (can : CanUseBlock (block_begins pre up (s.regs rn) (length (listed list))) (length (listed list))) where
  abbrev count : ℕ
  count = length (listed list)

  abbrev start : ℕ
  start = block_begins pre up (s.regs rn) count

  abbrev target : ℕ
  target = block_target up (s.regs rn) count

  base_is : register m.regs rn ≡ s.regs rn
  base_is = reads s pc m at.is rn p.base

  target_is : moved up (register m.regs rn) (4 * length (registers_in list)) ≡ target
  target_is = (λ i. moved up (base_is i) (4 * length (all_listed list p.low i))) ∙ moved-is up (s.regs rn) (4 * count)

  start_is : block_start pre up (register m.regs rn) target ≡ start
  start_is =
      ap (λ b. block_start pre up b target) base_is
      ∙ ap (λ k. k / 4 * 4) (mod-eq_of_lt (let e : start < 2 ^ 32 = omega (arith, can.1) in e))
      ∙ omega (arith, can.0)

  allowed : refused_word (length (registers_in list)) board_space (not m.regs.svc) start ≡ None
  allowed =
      ap (λ ns. refused_word (length ns) board_space (not m.regs.svc) start) (all_listed list p.low)
      ∙ refused-range count board_space (not m.regs.svc) start (omega (arith, can.1)) (λ i within. allows (not m.regs.svc) (start + 4 * i) (ap not at.is.svc) (omega (arith, can.1, within)))

pub block-made : (s : Core) (pc : ℕ) (m : Machine) (pre up psr wb load : Bool) (rn list : ℕ) → AtInstruction s pc m (Block 14 pre up psr wb load rn list)
    → is_plain_block psr wb rn list ≡ true → CanUseBlock (block_begins pre up (s.regs rn) (length (listed list))) (length (listed list))
    → Makes s m (pc + 4) (moves_block pre up wb load rn list s)
block-made s pc m pre up true wb load rn list at plain can = absurd (true≢false (block_parts true wb rn list plain).0)
block-made s pc m pre up false true false rn list at plain can =
    let p = (block_parts false true rn list plain).1 in
    let a = start s pc m pre up true false rn list at p can in
    let t = target s pc m pre up true false rn list at p can in
    made s _ pc (pc + 4) m _ _ at.is
    (step-stm board_space m.regs m.ram 14 pre up true rn list t a (fetches s pc m _ at) (reads-condition s m.regs at.is.psr 14) (predictable true false rn list p)
    (target_is s pc m pre up true false rn list at p can) (start_is s pc m pre up true false rn list at p can) (allowed s pc m pre up true false rn list at p can)
    ∙ ap (λ ns. goes (at_next (with_register m.regs rn t)) (with_block ns board_space m.ram m.regs m.regs.svc a)) (all_listed list p.low)) refl
    (is-next _ pc _ (is-put _ pc _ rn t t (stores (listed list) s.regs s pc m a (low_among 15 0 list (omega arith)) at.is refl can.1) p.base refl (moved-lt up (s.regs rn) (4 * length (listed list)))) at.inside)
block-made s pc m pre up false false false rn list at plain can =
    let p = (block_parts false false rn list plain).1 in
    let a = start s pc m pre up false false rn list at p can in
    let t = target s pc m pre up false false rn list at p can in
    made s _ pc (pc + 4) m _ _ at.is
    (step-stm board_space m.regs m.ram 14 pre up false rn list t a (fetches s pc m _ at) (reads-condition s m.regs at.is.psr 14) (predictable false false rn list p)
    (target_is s pc m pre up false false rn list at p can) (start_is s pc m pre up false false rn list at p can) (allowed s pc m pre up false false rn list at p can)
    ∙ ap (λ ns. goes (at_next m.regs) (with_block ns board_space m.ram m.regs m.regs.svc a)) (all_listed list p.low)) refl
    (is-next _ pc _ (stores (listed list) s.regs s pc m a (low_among 15 0 list (omega arith)) at.is refl can.1) at.inside)
block-made s pc m pre up false true true rn list at plain can =
    let p = (block_parts false true rn list plain).1 in
    let a = start s pc m pre up true true rn list at p can in
    let t = target s pc m pre up true true rn list at p can in
    made s _ pc (pc + 4) m _ m.ram at.is
    (step-ldm board_space m.regs m.ram 14 pre up true rn list t a (fetches s pc m _ at) (reads-condition s m.regs at.is.psr 14) (predictable true true rn list p) (no_r15 list p.low)
    (target_is s pc m pre up true true rn list at p can) (start_is s pc m pre up true true rn list at p can) (allowed s pc m pre up true true rn list at p can)
    ∙ ap (λ ns. goes (at_next (with_words ns board_space m.ram (with_register m.regs rn t) m.regs.svc a)) m.ram) (sym (listed-is 15 0 list))) refl
    (is-next _ pc _ (loads (listed list) m.regs.svc _ pc _ a (low_among 15 0 list (omega arith)) (is-put s pc m rn t t at.is p.base refl (moved-lt up (s.regs rn) (4 * length (listed list)))) (svc-with_register m.regs rn t) can.1) at.inside)
block-made s pc m pre up false false true rn list at plain can =
    let p = (block_parts false false rn list plain).1 in
    let a = start s pc m pre up false true rn list at p can in
    let t = target s pc m pre up false true rn list at p can in
    made s _ pc (pc + 4) m _ m.ram at.is
    (step-ldm board_space m.regs m.ram 14 pre up false rn list t a (fetches s pc m _ at) (reads-condition s m.regs at.is.psr 14) (predictable false true rn list p) (no_r15 list p.low)
    (target_is s pc m pre up false true rn list at p can) (start_is s pc m pre up false true rn list at p can) (allowed s pc m pre up false true rn list at p can)
    ∙ ap (λ ns. goes (at_next (with_words ns board_space m.ram m.regs m.regs.svc a)) m.ram) (sym (listed-is 15 0 list))) refl
    (is-next _ pc _ (loads (listed list) m.regs.svc s pc m a (low_among 15 0 list (omega arith)) at.is refl can.1) at.inside)
