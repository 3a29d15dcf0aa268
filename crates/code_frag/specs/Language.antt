-- The routine language: pieces of code over the processor's own instructions, and the words that a piece is. This project's
-- own.
use Rattle.std.specs.Prelude.{ℕ, zero, suc, ◌+◌, ◌-◌, ◌%◌, ◌==◌, ◌&&◌, nat_lt, Bool, true, false, if◌then◌else◌, List, [], ◌∷◌, ◌++◌, ℤ, pos, negsuc}
use Rattle.arm_isa.specs.declared.instruction.Instr.{Instr}
use Rattle.arm_isa.specs.declared.instruction.Instr.TheVariants.{Data, Branch, Swi}
use Rattle.arm_isa.specs.Numbers.{MOV, AL, R15}
use Rattle.arm2_machine.specs.Swi.{swi_end}
use Rattle.arm_core.specs.Effects.{is_plain}
use Rattle.code_frag.specs.declared.item.Item.{Item}
use Rattle.code_frag.specs.declared.item.Item.TheVariants.{Ins, Jump}

-- A piece of code. Labels are numbers, and conditions are those of the processor.
pub data Piece : Type 0 where
  -- no word
  Skip : Piece
  Do : Instr → Piece
  Seq : Piece → Piece → Piece
  -- a choice on the flags as they stand, with two parts or one
  If : ℕ → Piece → Piece → Piece
  When : ℕ → Piece → Piece
  -- the first part sets the flags, and the second is done while the condition holds
  While : Piece → ℕ → Piece → Piece
  -- again while the condition holds
  Repeat : Piece → ℕ → Piece
  -- an entry, which comes back
  Call : ℕ → Piece
  -- to a label, always or where a condition holds
  Leave : ℕ → Piece
  LeaveIf : ℕ → ℕ → Piece
  -- to the address in a register
  LeaveTo : ℕ → Piece
  -- the end of the run
  Halt : Piece

infixr 40 ◌⨾◌
-- one piece after another
abbrev pub ◌⨾◌ : Piece → Piece → Piece
a ⨾ b = Seq a b

-- ---- words

-- the contrary of a condition
abbrev pub contrary : ℕ → ℕ
contrary k = if k % 2 == 0 then k + 1 else k - 1

-- the distance of a branch over the n words after it
abbrev pub over : ℕ → ℤ
over zero = negsuc 0
over (suc n) = pos n

-- the distance of a branch to the first of the n words before it
abbrev pub back_over : ℕ → ℤ
back_over n = negsuc (n + 1)

-- a branch inside a piece
abbrev pub branch : ℕ → ℤ → Item
branch k words = Ins (Branch k false words)

-- MOV PC,Rm
abbrev pub jump_to : ℕ → Item
jump_to rm = Ins (Data AL false MOV false 0 R15 rm)

-- the number of words of a piece
abbrev pub size : Piece → ℕ
size Skip = 0
size (Do i) = 1
size (Seq a b) = size a + size b
size (If k a b) = 1 + (size a + (1 + size b))
size (When k a) = 1 + size a
size (While p k b) = size p + (1 + (size b + 1))
size (Repeat b k) = size b + 1
size (Call e) = 1
size (Leave e) = 1
size (LeaveIf k e) = 1
size (LeaveTo rm) = 1
size Halt = 1

-- the words of a piece
abbrev pub items : Piece → List Item
items Skip = []
items (Do i) = Ins i ∷ []
items (Seq a b) = items a ++ items b
items (If k a b) = branch (contrary k) (over (suc (size a))) ∷ (items a ++ (branch AL (over (size b)) ∷ items b))
items (When k a) = branch (contrary k) (over (size a)) ∷ items a
items (While p k b) = items p ++ (branch (contrary k) (over (suc (size b))) ∷ (items b ++ (branch AL (back_over (size p + (1 + size b))) ∷ [])))
items (Repeat b k) = items b ++ (branch k (back_over (size b)) ∷ [])
items (Call e) = Jump AL true (record { number = e }) ∷ []
items (Leave e) = Jump AL false (record { number = e }) ∷ []
items (LeaveIf k e) = Jump k false (record { number = e }) ∷ []
items (LeaveTo rm) = jump_to rm ∷ []
items Halt = Ins (Swi AL swi_end) ∷ []

-- ---- tests of a piece

-- instructions that the next one follows, and jumps to R0 to R14
abbrev pub is_well_formed : Piece → Bool
is_well_formed Skip = true
is_well_formed (Do i) = is_plain i
is_well_formed (Seq a b) = is_well_formed a && is_well_formed b
is_well_formed (If k a b) = is_well_formed a && is_well_formed b
is_well_formed (When k a) = is_well_formed a
is_well_formed (While p k b) = is_well_formed p && is_well_formed b
is_well_formed (Repeat b k) = is_well_formed b
is_well_formed (Call e) = true
is_well_formed (Leave e) = true
is_well_formed (LeaveIf k e) = true
is_well_formed (LeaveTo rm) = nat_lt rm R15
is_well_formed Halt = true

-- without loops and calls: its words are made at rising addresses
abbrev pub is_flat : Piece → Bool
is_flat Skip = true
is_flat (Do i) = true
is_flat (Seq a b) = is_flat a && is_flat b
is_flat (If k a b) = is_flat a && is_flat b
is_flat (When k a) = is_flat a
is_flat (While p k b) = false
is_flat (Repeat b k) = false
is_flat (Call e) = false
is_flat (Leave e) = true
is_flat (LeaveIf k e) = true
is_flat (LeaveTo rm) = true
is_flat Halt = true

-- the entries that it calls
abbrev pub calls : Piece → List ℕ
calls Skip = []
calls (Do i) = []
calls (Seq a b) = calls a ++ calls b
calls (If k a b) = calls a ++ calls b
calls (When k a) = calls a
calls (While p k b) = calls p ++ calls b
calls (Repeat b k) = calls b
calls (Call e) = e ∷ []
calls (Leave e) = []
calls (LeaveIf k e) = []
calls (LeaveTo rm) = []
calls Halt = []
