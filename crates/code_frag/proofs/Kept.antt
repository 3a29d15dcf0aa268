-- A piece leaves alone what it doesn't name: a fact that each of its instructions and calls keeps is kept by the piece, and
-- so are the registers that none of its instructions writes, and the memory where none stores.
use Rattle.std.proofs.Common.{◌≡◌, ℕ, zero, suc, ◌+◌, ◌-◌, ◌^◌, ◌==◌, ◌&&◌, ◌||◌, not, Bool, true, false, if◌then◌else◌, List, [], ◌∷◌, refl, sym, ap, ◌∙◌}
use Rattle.std.proofs.lemmas.Bool.{or_parts, eqb-false, false≢true, true≢false}
use Rattle.arm_isa.specs.declared.instruction.Instr.{Instr}
use Rattle.arm_isa.specs.declared.instruction.Instr.TheVariants.{Data, Mul, Single, Block, Branch, Swi, Undefined}
use Rattle.arm_isa.specs.Fields.{bit}
use Rattle.arm2_alu.specs.Operations.{is_test}
use Rattle.arm2_alu.specs.declared.operations.Computed.{Computed}
use Rattle.arm2_alu.proofs.RegisterLaws.{updated}
use Rattle.arm2_cpu.specs.Access.{writes_back}
use Rattle.arm_core.specs.Core.{Core, put, word, meets}
use Rattle.arm_core.specs.Effects.{operand_in, result_of, flagged_by, product_in, offset_in, moved_by, address_of, with_moved_base, read_at, transfers, listed_among, loaded_words, moves_block, takes_input, executed}
use Rattle.arm_core.proofs.MemoryWords.{updated-other}
use Rattle.code_frag.specs.Demands.{Out, Falls, Leaves, Post, on_falls, turns, rounds, Wp}
use Rattle.code_frag.specs.Language.{Piece, Skip, Do, Seq, If, When, While, Repeat, Call, Leave, LeaveIf, LeaveTo, Halt}
use Rattle.code_frag.specs.Unnamed.{writes, writes_in, stores, stores_in}
use Rattle.code_frag.proofs.Monotone.{IsMono, instruction_with, mono}
use Rattle.code_frag.proofs.Owed.{data_mem, product_mem, base_mem, call_mem}

-- a demand and a fact
abbrev pub both : Post → (Core → Type 0) → Post
both Q I o t = Q o t × I t

module _ (Asks : ℕ → Core → Type 0) (Does : ℕ → Core → Out → Core → Type 0) (I : Core → Type 0) where
  -- each instruction and each call of a piece keeps the fact
  abbrev pub Keeps : Piece → Type 0
  Keeps Skip = Unit {0}
  Keeps (Do i) = (s : Core) → I s → I (executed i s)
  Keeps (Seq a b) = Keeps a × Keeps b
  Keeps (If k a b) = Keeps a × Keeps b
  Keeps (When k a) = Keeps a
  Keeps (While p k b) = Keeps p × Keeps b
  Keeps (Repeat b k) = Keeps b
  Keeps (Call e) = (r : ℕ) (s : Core) (o : Out) (t : Core) → I s → Does e (put 14 r s) o t → I t
  Keeps (Leave e) = Unit {0}
  Keeps (LeaveIf k e) = Unit {0}
  Keeps (LeaveTo rm) = Unit {0}
  Keeps Halt = Unit {0}

  -- the fact goes with a demand at the end
  with_fact : (f g : Core → Type 0) (Q : Post) → ((t : Core) → I t → f t → g t) → (o : Out) (t : Core) → both (on_falls f Q) I o t → on_falls g (both Q I) o t
  with_fact f g Q here Falls t x = here t x.1 x.0
  with_fact f g Q here (Leaves e) t x = x

  kept_turns : (p : Post → Core → Type 0) (k : ℕ) (b : Post → Core → Type 0) → IsMono p → IsMono b → ((Q : Post) (s : Core) → I s → p Q s → p (both Q I) s) → ((Q : Post) (s : Core) → I s → b Q s → b (both Q I) s)
      → (n : ℕ) (Q : Post) (s : Core) → I s → turns p k b Q n s → turns p k b (both Q I) n s
  kept_turns p k b p_mono b_mono first second zero Q s i owes = absurd owes
  kept_turns p k b p_mono b_mono first second (suc n) Q s i owes =
      p_mono _ _
      (with_fact _ _ Q (λ t held either. (
        λ e. b_mono _ _ (with_fact (turns p k b Q n) (turns p k b (both Q I) n) Q (λ u still more. kept_turns p k b p_mono b_mono first second n Q u still more)) t (second _ t held (either.0 e)),
        λ e. (either.1 e, held),
      )))
      s (first _ s i owes)

  kept_rounds : (b : Post → Core → Type 0) (k : ℕ) → IsMono b → ((Q : Post) (s : Core) → I s → b Q s → b (both Q I) s) → (n : ℕ) (Q : Post) (s : Core) → I s → rounds b k Q n s → rounds b k (both Q I) n s
  kept_rounds b k b_mono body zero Q s i owes = absurd owes
  kept_rounds b k b_mono body (suc n) Q s i owes =
      b_mono _ _
      (with_fact _ _ Q (λ t held either. (λ e. kept_rounds b k b_mono body n Q t held (either.0 e), λ e. (either.1 e, held))))
      s (body _ s i owes)

  -- a piece keeps what each of its parts keeps
  pub kept : (p : Piece) → Keeps p → (Q : Post) (s : Core) → I s → Wp Asks Does p Q s → Wp Asks Does p (both Q I) s
  kept Skip keeps Q s i wp = (wp, i)
  kept (Do c) keeps Q s i wp = instruction_with c (Q Falls) (both Q I Falls) s (λ q. (q, keeps s i)) wp
  kept (Seq a b) keeps Q s i wp =
      mono Asks Does a _ _ (with_fact (Wp Asks Does b Q) (Wp Asks Does b (both Q I)) Q (λ t held more. kept b keeps.1 Q t held more)) s (kept a keeps.0 _ s i wp)
  kept (If k a b) keeps Q s i wp = (λ e. kept a keeps.0 Q s i (wp.0 e), λ e. kept b keeps.1 Q s i (wp.1 e))
  kept (When k a) keeps Q s i wp = (λ e. kept a keeps Q s i (wp.0 e), λ e. (wp.1 e, i))
  kept (While p k b) keeps Q s i wp = (wp.0, kept_turns (Wp Asks Does p) k (Wp Asks Does b) (mono Asks Does p) (mono Asks Does b) (kept p keeps.0) (kept b keeps.1) wp.0 Q s i wp.1)
  kept (Repeat b k) keeps Q s i wp = (wp.0, kept_rounds (Wp Asks Does b) k (mono Asks Does b) (kept b keeps) wp.0 Q s i wp.1)
  kept (Call e) keeps Q s i wp = λ r small. let x = wp r small in (x.0, λ o t good does. (x.1 o t good does, keeps r s o t i does))
  kept (Leave e) keeps Q s i wp = (wp, i)
  kept (LeaveIf k e) keeps Q s i wp = (λ h. (wp.0 h, i), λ h. (wp.1 h, i))
  kept (LeaveTo rm) keeps Q s i wp = (wp, i)
  kept Halt keeps Q s i wp = (wp.0, wp.1, (wp.2, i))

-- ---- registers that no instruction writes

other_register : (s : Core) (rd x k : ℕ) → (k == rd) ≡ false → (put rd x s).regs k ≡ s.regs k
other_register s rd x k apart = updated-other s.regs rd x k (eqb-false k rd apart)

-- data processing, by its condition, by whether it is a test, and by S
data_keeps : (b test flags : Bool) (rd k : ℕ) (x : Computed) (s : Core) → (not test && (k == rd)) ≡ false
    → (if b then (if test then flagged_by x s else if flags then put rd x.value (flagged_by x s) else put rd x.value s) else s).regs k ≡ s.regs k
data_keeps false test flags rd k x s apart = refl
data_keeps true true flags rd k x s apart = refl
data_keeps true false true rd k x s apart = other_register (flagged_by x s) rd x.value k apart
data_keeps true false false rd k x s apart = other_register s rd x.value k apart

product_keeps : (flags : Bool) (rd value k : ℕ) (s : Core) → (k == rd) ≡ false → (put rd value (if flags then flagged_by (record { value = value; carry = s.c; overflow = s.v }) s else s)).regs k ≡ s.regs k
product_keeps true rd value k s apart = other_register (flagged_by (record { value = value; carry = s.c; overflow = s.v }) s) rd value k apart
product_keeps false rd value k s apart = other_register s rd value k apart

based_keeps : (back : Bool) (rn x k : ℕ) (s : Core) → (back && (k == rn)) ≡ false → (if back then put rn x s else s).regs k ≡ s.regs k
based_keeps true rn x k s apart = other_register s rn x k apart
based_keeps false rn x k s apart = refl

transfer_keeps : (load byte : Bool) (rd a k : ℕ) (s t : Core) → t.regs k ≡ s.regs k → (load && (k == rd)) ≡ false → (transfers load byte rd a s t).regs k ≡ s.regs k
transfer_keeps true byte rd a k s t same apart = other_register t rd (read_at byte s.mem a) k apart ∙ same
transfer_keeps false byte rd a k s t same apart = same

list_keeps : (j n list : ℕ) (m : ℕ → ℕ) (a : ℕ) (f : ℕ → ℕ) (k : ℕ) → bit list k ≡ false → loaded_words (listed_among j n list) m a f k ≡ f k
list_keeps zero n list m a f k clear = refl
list_keeps (suc j) n list m a f k clear = each (bit list n) refl (λ b g. list_keeps j (n + 1) list m b g k clear)
  where
    each : (b : Bool) → bit list n ≡ b → ((c : ℕ) (g : ℕ → ℕ) → loaded_words (listed_among j (n + 1) list) m c g k ≡ g k)
        → loaded_words (if b then n ∷ listed_among j (n + 1) list else listed_among j (n + 1) list) m a f k ≡ f k
    each true set rest = rest (a + 4) (updated f n (word m a)) ∙ updated-other f n (word m a) k (λ e. false≢true (sym clear ∙ ap (bit list) e ∙ set))
    each false set rest = rest a f

block_keeps : (pre up wb load : Bool) (rn list k : ℕ) (s : Core) → ((load && bit list k) || (wb && (k == rn))) ≡ false → (moves_block pre up wb load rn list s).regs k ≡ s.regs k
block_keeps pre up true true rn list k s apart = let p = or_parts (bit list k) (k == rn) apart in list_keeps 15 0 list s.mem _ _ k p.0 ∙ other_register s rn _ k p.1
block_keeps pre up false true rn list k s apart = let p = or_parts (bit list k) false apart in list_keeps 15 0 list s.mem _ s.regs k p.0
block_keeps pre up true false rn list k s apart = other_register s rn _ k apart
block_keeps pre up false false rn list k s apart = refl

input_keeps : (input : List ℕ) (k : ℕ) (s : Core) → (k == 0) ≡ false → (takes_input input s).regs k ≡ s.regs k
input_keeps [] k s apart = other_register s 0 (2 ^ 32 - 1) k apart
input_keeps (byte ∷ rest) k s apart = other_register s 0 byte k apart

call_keeps : (a b : Bool) (k : ℕ) (s : Core) (x y : List ℕ) → (k == 0) ≡ false → (if a then record s { out = x } else if b then record s { out = y } else takes_input s.input s).regs k ≡ s.regs k
call_keeps true b k s x y apart = refl
call_keeps false true k s x y apart = refl
call_keeps false false k s x y apart = input_keeps s.input k s apart

-- an instruction leaves alone the registers that it doesn't write
pub instruction-keeps : (k : ℕ) (i : Instr) (s : Core) → writes k i ≡ false → (executed i s).regs k ≡ s.regs k
instruction-keeps k (Data cond imm op flags rn rd op2) s apart = data_keeps (meets cond s) (is_test op) flags rd k (result_of op (s.regs rn) (operand_in imm op2 s) s.c s.v) s apart
instruction-keeps k (Mul cond acc flags rd rn rs rm) s apart = product_keeps flags rd (product_in acc rn rs rm s) k s apart
instruction-keeps k (Single cond reg pre up byte wb load rn rd offset) s apart =
    let p = or_parts (load && (k == rd)) (writes_back pre wb && (k == rn)) apart in
    transfer_keeps load byte rd (address_of reg pre up rn offset s) k s (with_moved_base reg pre up wb rn offset s)
    (based_keeps (writes_back pre wb) rn (moved_by up (s.regs rn) (offset_in reg offset s)) k s p.1) p.0
instruction-keeps k (Block cond pre up psr wb load rn list) s apart = block_keeps pre up wb load rn list k s apart
instruction-keeps k (Branch cond link words) s apart = refl
instruction-keeps k (Swi cond number) s apart = call_keeps (number == 0) (number == 3) k s _ _ apart
instruction-keeps k (Undefined word) s apart = refl

module _ (Asks : ℕ → Core → Type 0) (Does : ℕ → Core → Out → Core → Type 0) (k x : ℕ) where
  keeps_value : (p : Piece) → writes_in k p ≡ false → Keeps Asks Does (λ t. t.regs k ≡ x) p
  keeps_value Skip apart = tt
  keeps_value (Do i) apart = λ s is. instruction-keeps k i s apart ∙ is
  keeps_value (Seq a b) apart = let p = or_parts (writes_in k a) (writes_in k b) apart in (keeps_value a p.0, keeps_value b p.1)
  keeps_value (If c a b) apart = let p = or_parts (writes_in k a) (writes_in k b) apart in (keeps_value a p.0, keeps_value b p.1)
  keeps_value (When c a) apart = keeps_value a apart
  keeps_value (While a c b) apart = let p = or_parts (writes_in k a) (writes_in k b) apart in (keeps_value a p.0, keeps_value b p.1)
  keeps_value (Repeat b c) apart = keeps_value b apart
  keeps_value (Call e) apart = absurd (true≢false apart)
  keeps_value (Leave e) apart = tt
  keeps_value (LeaveIf c e) apart = tt
  keeps_value (LeaveTo rm) apart = tt
  keeps_value Halt apart = tt

-- a piece without calls leaves alone each register that it doesn't write
pub register-kept : (Asks : ℕ → Core → Type 0) (Does : ℕ → Core → Out → Core → Type 0) (p : Piece) (k : ℕ) → writes_in k p ≡ false → (Q : Post) (s : Core) → Wp Asks Does p Q s
    → Wp Asks Does p (λ o t. Q o t × (t.regs k ≡ s.regs k)) s
register-kept Asks Does p k apart Q s wp = kept Asks Does (λ t. t.regs k ≡ s.regs k) p (keeps_value Asks Does k (s.regs k) p apart) Q s refl wp

-- ---- memory that no instruction stores into

load_mem : (load byte : Bool) (rd a : ℕ) (s t : Core) → t.mem ≡ s.mem → not load ≡ false → (transfers load byte rd a s t).mem ≡ s.mem
load_mem true byte rd a s t same loads = same
load_mem false byte rd a s t same loads = absurd (true≢false loads)

block_mem : (pre up wb load : Bool) (rn list : ℕ) (s : Core) → not load ≡ false → (moves_block pre up wb load rn list s).mem ≡ s.mem
block_mem pre up true true rn list s loads = refl
block_mem pre up false true rn list s loads = refl
block_mem pre up wb false rn list s loads = absurd (true≢false loads)

-- an instruction that doesn't store leaves the memory alone
pub instruction-memory : (i : Instr) (s : Core) → stores i ≡ false → (executed i s).mem ≡ s.mem
instruction-memory (Data cond imm op flags rn rd op2) s loads = data_mem (meets cond s) (is_test op) flags rd (result_of op (s.regs rn) (operand_in imm op2 s) s.c s.v) s
instruction-memory (Mul cond acc flags rd rn rs rm) s loads = product_mem flags rd (product_in acc rn rs rm s) s
instruction-memory (Single cond reg pre up byte wb load rn rd offset) s loads =
    load_mem load byte rd (address_of reg pre up rn offset s) s (with_moved_base reg pre up wb rn offset s) (base_mem (writes_back pre wb) reg pre up rn offset s) loads
instruction-memory (Block cond pre up psr wb load rn list) s loads = block_mem pre up wb load rn list s loads
instruction-memory (Branch cond link words) s loads = refl
instruction-memory (Swi cond number) s loads = call_mem (number == 0) (number == 3) s _ _
instruction-memory (Undefined word) s loads = refl

module _ (Asks : ℕ → Core → Type 0) (Does : ℕ → Core → Out → Core → Type 0) (m : ℕ → ℕ) where
  keeps_memory : (p : Piece) → stores_in p ≡ false → Keeps Asks Does (λ t. t.mem ≡ m) p
  keeps_memory Skip apart = tt
  keeps_memory (Do i) apart = λ s is. instruction-memory i s apart ∙ is
  keeps_memory (Seq a b) apart = let p = or_parts (stores_in a) (stores_in b) apart in (keeps_memory a p.0, keeps_memory b p.1)
  keeps_memory (If c a b) apart = let p = or_parts (stores_in a) (stores_in b) apart in (keeps_memory a p.0, keeps_memory b p.1)
  keeps_memory (When c a) apart = keeps_memory a apart
  keeps_memory (While a c b) apart = let p = or_parts (stores_in a) (stores_in b) apart in (keeps_memory a p.0, keeps_memory b p.1)
  keeps_memory (Repeat b c) apart = keeps_memory b apart
  keeps_memory (Call e) apart = absurd (true≢false apart)
  keeps_memory (Leave e) apart = tt
  keeps_memory (LeaveIf c e) apart = tt
  keeps_memory (LeaveTo rm) apart = tt
  keeps_memory Halt apart = tt

-- a piece without calls that doesn't store leaves the memory alone
pub memory-kept : (Asks : ℕ → Core → Type 0) (Does : ℕ → Core → Out → Core → Type 0) (p : Piece) → stores_in p ≡ false → (Q : Post) (s : Core) → Wp Asks Does p Q s
    → Wp Asks Does p (λ o t. Q o t × (t.mem ≡ s.mem)) s
memory-kept Asks Does p apart Q s wp = kept Asks Does (λ t. t.mem ≡ s.mem) p (keeps_memory Asks Does s.mem p apart) Q s refl wp
