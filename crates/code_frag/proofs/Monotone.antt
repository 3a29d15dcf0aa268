-- What a piece owes follows from a stronger demand at its end.
use Rattle.std.proofs.Common.{ℕ, zero, suc, Bool, true, false}
use Rattle.arm_isa.specs.declared.instruction.Instr.{Instr}
use Rattle.arm_isa.specs.declared.instruction.Instr.TheVariants.{Data, Mul, Single, Block, Branch, Swi, Undefined}
use Rattle.arm_core.specs.Core.{Core}
use Rattle.arm_core.specs.Effects.{executed}
use Rattle.code_frag.specs.Demands.{Out, Falls, Leaves, Post, transfer_owes, block_owes, instruction_owes, on_falls, turns, rounds, Wp}
use Rattle.code_frag.specs.Language.{Piece, Skip, Do, Seq, If, When, While, Repeat, Call, Leave, LeaveIf, LeaveTo, Halt}

transfer_mono : (load byte : Bool) (a : ℕ) (m : ℕ → ℕ) (P R : Type 0) → (P → R) → transfer_owes load byte a m P → transfer_owes load byte a m R
transfer_mono true true a m P R implies owes = (owes.0, λ small. implies (owes.1 small))
transfer_mono true false a m P R implies owes = (owes.0, owes.1, λ small. implies (owes.2 small))
transfer_mono false true a m P R implies owes = (owes.0, implies owes.1)
transfer_mono false false a m P R implies owes = (owes.0, owes.1, implies owes.2)

block_mono : (load : Bool) (a count : ℕ) (m : ℕ → ℕ) (P R : Type 0) → (P → R) → block_owes load a count m P → block_owes load a count m R
block_mono true a count m P R implies owes = (owes.0, λ small. implies (owes.1 small))
block_mono false a count m P R implies owes = (owes.0, owes.1, implies owes.2)

-- what is asked after an instruction, at the core that it leaves
pub instruction_with : (i : Instr) (P R : Core → Type 0) (s : Core) → (P (executed i s) → R (executed i s)) → instruction_owes i P s → instruction_owes i R s
instruction_with (Data cond imm op flags rn rd op2) P R s implies owes = implies owes
instruction_with (Mul cond acc flags rd rn rs rm) P R s implies owes = implies owes
instruction_with (Single cond reg pre up byte wb load rn rd offset) P R s implies owes = transfer_mono load byte _ s.mem _ _ implies owes
instruction_with (Block cond pre up psr wb load rn list) P R s implies owes = block_mono load _ _ s.mem _ _ implies owes
instruction_with (Branch cond link words) P R s implies owes = implies owes
instruction_with (Swi cond number) P R s implies owes = implies owes
instruction_with (Undefined word) P R s implies owes = implies owes

pub instruction_mono : (i : Instr) (P R : Core → Type 0) → ((t : Core) → P t → R t) → (s : Core) → instruction_owes i P s → instruction_owes i R s
instruction_mono i P R implies s owes = instruction_with i P R s (implies (executed i s)) owes

-- demands at the end
falls_mono : (f g : Core → Type 0) (P R : Post) → ((t : Core) → f t → g t) → ((o : Out) (t : Core) → P o t → R o t) → (o : Out) (t : Core) → on_falls f P o t → on_falls g R o t
falls_mono f g P R here there Falls t x = here t x
falls_mono f g P R here there (Leaves e) t x = there (Leaves e) t x

-- a demand is monotone
abbrev pub IsMono : (Post → Core → Type 0) → Type 1
IsMono w = (P R : Post) → ((o : Out) (t : Core) → P o t → R o t) → (s : Core) → w P s → w R s

turns_mono : (p : Post → Core → Type 0) (k : ℕ) (b : Post → Core → Type 0) → IsMono p → IsMono b → (n : ℕ) → IsMono (λ Q s. turns p k b Q n s)
turns_mono p k b first second zero P R implies s owes = absurd owes
turns_mono p k b first second (suc n) P R implies s owes =
    first _ _
    (falls_mono _ _ P R
    (λ t either. (
      λ e. second _ _ (falls_mono (turns p k b P n) (turns p k b R n) P R (turns_mono p k b first second n P R implies) implies) t (either.0 e),
      λ e. implies Falls t (either.1 e),
    ))
    implies) s owes

rounds_mono : (b : Post → Core → Type 0) (k : ℕ) → IsMono b → (n : ℕ) → IsMono (λ Q s. rounds b k Q n s)
rounds_mono b k body zero P R implies s owes = absurd owes
rounds_mono b k body (suc n) P R implies s owes =
    body _ _ (falls_mono _ _ P R (λ t either. (λ e. rounds_mono b k body n P R implies t (either.0 e), λ e. implies Falls t (either.1 e))) implies) s owes

module _ (Asks : ℕ → Core → Type 0) (Does : ℕ → Core → Out → Core → Type 0) where
  pub mono : (p : Piece) → IsMono (Wp Asks Does p)
  mono Skip P R implies s wp = implies Falls s wp
  mono (Do i) P R implies s wp = instruction_mono i (P Falls) (R Falls) (implies Falls) s wp
  mono (Seq a b) P R implies s wp = mono a _ _ (falls_mono (Wp Asks Does b P) (Wp Asks Does b R) P R (mono b P R implies) implies) s wp
  mono (If k a b) P R implies s wp = (λ e. mono a P R implies s (wp.0 e), λ e. mono b P R implies s (wp.1 e))
  mono (When k a) P R implies s wp = (λ e. mono a P R implies s (wp.0 e), λ e. implies Falls s (wp.1 e))
  mono (While p k b) P R implies s wp = (wp.0, turns_mono (Wp Asks Does p) k (Wp Asks Does b) (mono p) (mono b) wp.0 P R implies s wp.1)
  mono (Repeat b k) P R implies s wp = (wp.0, rounds_mono (Wp Asks Does b) k (mono b) wp.0 P R implies s wp.1)
  mono (Call e) P R implies s wp = λ r small. let x = wp r small in (x.0, λ o t good does. implies o t (x.1 o t good does))
  mono (Leave e) P R implies s wp = implies _ s wp
  mono (LeaveIf k e) P R implies s wp = (λ h. implies _ s (wp.0 h), λ h. implies Falls s (wp.1 h))
  mono (LeaveTo rm) P R implies s wp = implies _ s wp
  mono Halt P R implies s wp = (wp.0, wp.1, implies _ s wp.2)
