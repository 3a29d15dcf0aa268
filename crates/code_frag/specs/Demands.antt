-- What a piece owes: its weakest precondition, by the piece. This project's own.
use Rattle.std.specs.Prelude.{◌≡◌, ℕ, zero, suc, ◌*◌, ◌%◌, ◌^◌, ◌<◌, Bool, true, false, length, Some}
use Rattle.bv_base.specs.MemoryMap.{ram_end}
use Rattle.bv_run.specs.declared.report.Report.{Report}
use Rattle.arm_isa.specs.declared.instruction.Instr.{Instr}
use Rattle.arm_isa.specs.declared.instruction.Instr.TheVariants.{Data, Mul, Single, Block, Branch, Swi, Undefined}
use Rattle.arm_core.specs.Core.{Core, put, word, meets, IsGood}
use Rattle.arm_core.specs.Effects.{address_of, listed, block_begins, executed, CanUseBlock, report_in, return_place}
use Rattle.code_frag.specs.Language.{Piece, Skip, Do, Seq, If, When, While, Repeat, Call, Leave, LeaveIf, LeaveTo, Halt}
use Rattle.code_frag.specs.Places.{IsData}

-- where a piece leads that doesn't come to its end: to a label, to an address, to the end of the run
pub data Exit : Type 0 where
  ToLabel : ℕ → Exit
  ToPlace : ℕ → Exit
  ToEnd : Report → Exit

-- the end of a piece: after its last word, or elsewhere
pub data Out : Type 0 where
  Falls : Out
  Leaves : Exit → Out

-- what is asked at the end
abbrev pub Post : Type 1
Post = Out → Core → Type 0

-- A load owes that its address is in memory, and is handed that it reads a word or a byte. A store owes that it changes
-- data alone.
abbrev pub transfer_owes : Bool → Bool → ℕ → (ℕ → ℕ) → Type 0 → Type 0
transfer_owes true true a m Q = (a < ram_end) × (m a < 2 ^ 8 → Q)
transfer_owes true false a m Q = (a % 4 ≡ 0) × (a < ram_end) × (word m a < 2 ^ 32 → Q)
transfer_owes false true a m Q = IsData a 1 × Q
transfer_owes false false a m Q = (a % 4 ≡ 0) × IsData a 4 × Q

-- the same of a block of words
abbrev pub block_owes : Bool → ℕ → ℕ → (ℕ → ℕ) → Type 0 → Type 0
block_owes true a count m Q = CanUseBlock a count × (((b : ℕ) → word m b < 2 ^ 32) → Q)
block_owes false a count m Q = (a % 4 ≡ 0) × IsData a (4 * count) × Q

-- what an instruction owes, where something is asked after it
abbrev pub instruction_owes : Instr → (Core → Type 0) → Core → Type 0
instruction_owes (Data cond imm op flags rn rd op2) Q s = Q (executed (Data cond imm op flags rn rd op2) s)
instruction_owes (Mul cond acc flags rd rn rs rm) Q s = Q (executed (Mul cond acc flags rd rn rs rm) s)
instruction_owes (Single cond reg pre up byte wb load rn rd offset) Q s =
    transfer_owes load byte (address_of reg pre up rn offset s) s.mem (Q (executed (Single cond reg pre up byte wb load rn rd offset) s))
instruction_owes (Block cond pre up psr wb load rn list) Q s =
    block_owes load (block_begins pre up (s.regs rn) (length (listed list))) (length (listed list)) s.mem (Q (executed (Block cond pre up psr wb load rn list) s))
instruction_owes (Branch cond link words) Q s = Q s
instruction_owes (Swi cond number) Q s = Q (executed (Swi cond number) s)
instruction_owes (Undefined word) Q s = Q s

-- one demand where a piece comes to its end, and another where it leaves
abbrev pub on_falls : (Core → Type 0) → Post → Post
on_falls f Q Falls s = f s
on_falls f Q (Leaves e) s = Q (Leaves e) s

-- two demands by a test
abbrev pub Either : Bool → Type 0 → Type 0 → Type 0
Either b P Q = (b ≡ true → P) × (b ≡ false → Q)

-- at most n turns of a loop whose test comes first
abbrev pub turns : (Post → Core → Type 0) → ℕ → (Post → Core → Type 0) → Post → ℕ → Core → Type 0
turns p k b Q zero s = ⊥
turns p k b Q (suc n) s = p (on_falls (λ t. Either (meets k t) (b (on_falls (turns p k b Q n) Q) t) (Q Falls t)) Q) s

-- at most n turns of a loop whose test comes last
abbrev pub rounds : (Post → Core → Type 0) → ℕ → Post → ℕ → Core → Type 0
rounds b k Q zero s = ⊥
rounds b k Q (suc n) s = b (on_falls (λ t. Either (meets k t) (rounds b k Q n t) (Q Falls t)) Q) s

-- the end of an entry's body: the return address is in R14 again
abbrev pub at_return : Post → Core → Post
at_return D s Falls t = D Falls t × (t.regs 14 ≡ s.regs 14)
at_return D s (Leaves e) t = D (Leaves e) t

-- the contracts of the entries that may be called: what each asks, and what it leaves
module _ (Asks : ℕ → Core → Type 0) (Does : ℕ → Core → Out → Core → Type 0) where
  -- from s the piece comes to an end, and what is asked holds there
  abbrev pub Wp : Piece → Post → Core → Type 0
  Wp Skip Q s = Q Falls s
  Wp (Do i) Q s = instruction_owes i (Q Falls) s
  Wp (Seq a b) Q s = Wp a (on_falls (Wp b Q) Q) s
  Wp (If k a b) Q s = Either (meets k s) (Wp a Q s) (Wp b Q s)
  Wp (When k a) Q s = Either (meets k s) (Wp a Q s) (Q Falls s)
  Wp (While p k b) Q s = (n : ℕ) × turns (Wp p) k (Wp b) Q n s
  Wp (Repeat b k) Q s = (n : ℕ) × rounds (Wp b) k Q n s
  Wp (Call e) Q s = (r : ℕ) → r < 2 ^ 32 → Asks e (put 14 r s) × ((o : Out) (t : Core) → IsGood t → Does e (put 14 r s) o t → Q o t)
  Wp (Leave e) Q s = Q (Leaves (ToLabel e)) s
  Wp (LeaveIf k e) Q s = Either (meets k s) (Q (Leaves (ToLabel e)) s) (Q Falls s)
  Wp (LeaveTo rm) Q s = Q (Leaves (ToPlace (return_place (s.regs rm)))) s
  Wp Halt Q s = (report : Report) × (report_in s ≡ Some report) × Q (Leaves (ToEnd report)) s

  -- the same under a name of its own: the rules of the language are found by it
  pub record Owes (piece : Piece) (Q : Post) (s : Core) : Type 0 where
    pub by : Wp piece Q s
