-- What a piece names: the registers that its instructions write, and whether one stores. This project's own.
use Rattle.std.specs.Prelude.{ℕ, ◌==◌, ◌&&◌, ◌||◌, not, Bool, true, false}
use Rattle.arm_isa.specs.declared.instruction.Instr.{Instr}
use Rattle.arm_isa.specs.declared.instruction.Instr.TheVariants.{Data, Mul, Single, Block, Branch, Swi, Undefined}
use Rattle.arm_isa.specs.Fields.{bit}
use Rattle.arm2_alu.specs.Operations.{is_test}
use Rattle.arm2_cpu.specs.Access.{writes_back}
use Rattle.code_frag.specs.Language.{Piece, Skip, Do, Seq, If, When, While, Repeat, Call, Leave, LeaveIf, LeaveTo, Halt}

-- an instruction that writes a register
abbrev pub writes : ℕ → Instr → Bool
writes k (Data cond imm op flags rn rd op2) = not (is_test op) && (k == rd)
writes k (Mul cond acc flags rd rn rs rm) = k == rd
writes k (Single cond reg pre up byte wb load rn rd offset) = (load && (k == rd)) || (writes_back pre wb && (k == rn))
writes k (Block cond pre up psr wb load rn list) = (load && bit list k) || (wb && (k == rn))
writes k (Branch cond link words) = false
writes k (Swi cond number) = k == 0
writes k (Undefined word) = false

-- A piece that writes a register. One that calls an entry may write any.
abbrev pub writes_in : ℕ → Piece → Bool
writes_in k Skip = false
writes_in k (Do i) = writes k i
writes_in k (Seq a b) = writes_in k a || writes_in k b
writes_in k (If c a b) = writes_in k a || writes_in k b
writes_in k (When c a) = writes_in k a
writes_in k (While p c b) = writes_in k p || writes_in k b
writes_in k (Repeat b c) = writes_in k b
writes_in k (Call e) = true
writes_in k (Leave e) = false
writes_in k (LeaveIf c e) = false
writes_in k (LeaveTo rm) = false
writes_in k Halt = false

-- an instruction that stores
abbrev pub stores : Instr → Bool
stores (Data cond imm op flags rn rd op2) = false
stores (Mul cond acc flags rd rn rs rm) = false
stores (Single cond reg pre up byte wb load rn rd offset) = not load
stores (Block cond pre up psr wb load rn list) = not load
stores (Branch cond link words) = false
stores (Swi cond number) = false
stores (Undefined word) = false

-- a piece that stores, or calls an entry
abbrev pub stores_in : Piece → Bool
stores_in Skip = false
stores_in (Do i) = stores i
stores_in (Seq a b) = stores_in a || stores_in b
stores_in (If c a b) = stores_in a || stores_in b
stores_in (When c a) = stores_in a
stores_in (While p c b) = stores_in p || stores_in b
stores_in (Repeat b c) = stores_in b
stores_in (Call e) = true
stores_in (Leave e) = false
stores_in (LeaveIf c e) = false
stores_in (LeaveTo rm) = false
stores_in Halt = false
