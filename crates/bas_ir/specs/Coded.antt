-- Which operations have machine code yet, and how many strings are pending before them. This project's own.
use Rattle.std.specs.Prelude.{◌≡◌, ℕ, suc, ◌<◌, ◌≤◌, ◌^◌, FitsSigned, Some, length, slice_get}
use Rattle.std.specs.Int.{w16, w32}
use Rattle.bas_ir.specs.declared.ir.Ir.{Ir}
use Rattle.bas_ir.specs.declared.op.Op.{Op}
use Rattle.bas_ir.specs.declared.op.Op.TheVariants as o
use Rattle.bas_store.specs.declared.cell.IntegerCell.{IntegerCell}
use Rattle.bas_store.specs.declared.cell.IntegerCell.TheVariants as cells
use Rattle.bas_store.specs.Cells.{residents}
use Rattle.bas_ir.specs.Heights.{empty_height, one_more}
use Rattle.bas_ir.specs.Places.{start_of, marks_in}
use Rattle.bas_ir.specs.WellFormed.{height_at}

-- An operation has machine code: all do but those of calls and handlers. A resident that it names is one, and an error has one
-- byte.
abbrev pub HasCode : Op → Type 0
HasCode (o.PushResident index) = index < residents
HasCode (o.BinaryWithResident op resident line) = resident < residents
HasCode (o.ChangeResident op resident line number) = resident < residents
HasCode (o.StoreResident index) = index < residents
HasCode (o.RaiseIfOne error line) = error < 2 ^ 8
HasCode (o.Raise error line) = error < 2 ^ 8
HasCode (o.Enter kind routine line) = ⊥
HasCode (o.LeaveProcedure line) = ⊥
HasCode (o.NeedFunction line) = ⊥
HasCode o.LeaveNumber = ⊥
HasCode o.LeaveText = ⊥
HasCode (o.HandleAll item) = ⊥
HasCode (o.HandleHere item) = ⊥
HasCode o.HandleNone = ⊥
HasCode _ = Unit {0}

-- all operations of a flat code have machine code
abbrev pub AllHaveCode : Ir → Type 0
AllHaveCode ir = (pc : ℕ) (op : Op) → slice_get ir.ops pc ≡ Some op → HasCode op

-- At most one string is pending before each operation.
abbrev pub AtMostOneText : Ir → Type 0
AtMostOneText ir = (pc : ℕ) → (height_at ir pc).texts ≤ 1

-- the number of a FOR's variable has the width of its field
abbrev pub HasCounterWidth : IntegerCell → Type 0
HasCounterWidth (cells.Resident index) = index < 2 ^ 8
HasCounterWidth (cells.Named name) = name < 2 ^ 16

-- The numbers of an operation that has machine code have the widths of their fields: integers have 32 bits with a sign, and constants
-- that an operator takes along 16; places of items, texts and items of DATA have 32 bits, but 16 beside a constant; names and lines 16
-- bits, residents and errors 8 bits.
abbrev pub HasWidths : Op → Type 0
HasWidths (o.Push value) = FitsSigned w32 value
HasWidths (o.PushResident index) = index < 2 ^ 8
HasWidths (o.PushInteger name line) = (name < 2 ^ 16) × (line < 2 ^ 16)
HasWidths (o.PushText number) = number < 2 ^ 32
HasWidths (o.Unary op line) = line < 2 ^ 16
HasWidths (o.Binary op line) = line < 2 ^ 16
HasWidths (o.BinaryWith op line number) = (line < 2 ^ 16) × FitsSigned w16 number
HasWidths (o.BinaryWithResident op resident line) = (resident < 2 ^ 8) × (line < 2 ^ 16)
HasWidths (o.ChangeResident op resident line number) = (resident < 2 ^ 8) × (line < 2 ^ 16) × FitsSigned w16 number
HasWidths (o.StoreResident index) = index < 2 ^ 8
HasWidths (o.StoreInteger name) = name < 2 ^ 16
HasWidths (o.Go item) = item < 2 ^ 32
HasWidths (o.GoIfZero item) = item < 2 ^ 32
HasWidths (o.GoUnless relation item) = item < 2 ^ 32
HasWidths (o.GoUnlessWith relation item number) = (item < 2 ^ 16) × FitsSigned w32 number
HasWidths (o.GoIfOne item) = item < 2 ^ 32
HasWidths (o.GosubIfOne line item) = (item < 2 ^ 32) × (line < 2 ^ 16)
HasWidths (o.GoIfEqual item) = item < 2 ^ 32
HasWidths (o.RaiseIfOne error line) = (error < 2 ^ 8) × (line < 2 ^ 16)
HasWidths (o.OpenFor counter line) = HasCounterWidth counter × (line < 2 ^ 16)
HasWidths (o.OpenRepeat line) = line < 2 ^ 16
HasWidths (o.OpenWhile line) = line < 2 ^ 16
HasWidths (o.Gosub line item) = (item < 2 ^ 32) × (line < 2 ^ 16)
HasWidths (o.Next counter line) = HasCounterWidth counter × (line < 2 ^ 16)
HasWidths (o.NextAny line) = line < 2 ^ 16
HasWidths (o.Until line) = line < 2 ^ 16
HasWidths (o.EndWhile line) = line < 2 ^ 16
HasWidths (o.Return line) = line < 2 ^ 16
HasWidths (o.ReadNumber line) = line < 2 ^ 16
HasWidths (o.Restore item) = item < 2 ^ 32
HasWidths (o.Raise error line) = (error < 2 ^ 8) × (line < 2 ^ 16)
HasWidths _ = Unit {0}

-- the numbers of all operations of a flat code have the widths of their fields
abbrev pub AllHaveWidths : Ir → Type 0
AllHaveWidths ir = (pc : ℕ) (op : Op) → slice_get ir.ops pc ≡ Some op → HasWidths op

-- A jump leaves nothing pending, and nor does what goes on at the item of an open entry.
abbrev pub LeavesNothing : Ir → ℕ → Op → Type 0
LeavesNothing ir pc (o.Go item) = height_at ir pc ≡ empty_height
LeavesNothing ir pc (o.GoIfZero item) = height_at ir (suc pc) ≡ empty_height
LeavesNothing ir pc (o.GoUnless relation item) = height_at ir (suc pc) ≡ empty_height
LeavesNothing ir pc (o.GoUnlessWith relation item number) = height_at ir (suc pc) ≡ empty_height
LeavesNothing ir pc (o.GoIfOne item) = height_at ir (suc pc) ≡ one_more empty_height
LeavesNothing ir pc (o.GosubIfOne line item) = height_at ir (suc pc) ≡ one_more empty_height
LeavesNothing ir pc (o.GoIfEqual item) = height_at ir (suc pc) ≡ one_more empty_height
LeavesNothing ir pc (o.Gosub line item) = height_at ir pc ≡ empty_height
LeavesNothing ir pc (o.Next counter line) = height_at ir pc ≡ empty_height
LeavesNothing ir pc (o.NextAny line) = height_at ir pc ≡ empty_height
LeavesNothing ir pc (o.Until line) = height_at ir (suc pc) ≡ empty_height
LeavesNothing ir pc (o.EndWhile line) = height_at ir pc ≡ empty_height
LeavesNothing ir pc (o.Return line) = height_at ir pc ≡ empty_height
LeavesNothing ir pc _ = Unit {0}

-- The operations are those of the items: there is a mark for each item, the first item begins at the first operation, and a jump
-- leaves nothing pending.
pub record IsInItems (ir : Ir) : Type 0 where
  pub marked : marks_in ir.marks ≡ length ir.starts
  pub first : start_of ir 0 ≡ 0
  pub jumps : (pc : ℕ) (op : Op) → slice_get ir.ops pc ≡ Some op → LeavesNothing ir pc op
