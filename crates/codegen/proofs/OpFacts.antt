-- The pieces of operations: they are well formed, call routines of the library alone, have a word, and no more than an operation may
-- have, whatever they name.
use Rattle.std.proofs.Common.{◌≡◌, ℕ, ◌+◌, ◌-◌, ◌*◌, ◌^◌, ◌<◌, ◌≤◌, ◌||◌, Bool, true, false, nat_lt, nat_le, List, [], ◌∷◌, ◌++◌, refl, arith}
use Rattle.std.proofs.lemmas.Bool.{and_parts}
use Rattle.bas_ast.specs.declared.expressions.BinaryOp.{BinaryOp}
use Rattle.bas_ast.specs.declared.expressions.BinaryOp.TheVariants as op
use Rattle.bas_ast.specs.declared.expressions.Comparison.{Comparison}
use Rattle.bas_ast.specs.declared.expressions.NumberFormat.TheVariants as formats
use Rattle.bas_ast.specs.declared.expressions.UnaryOp.{UnaryOp}
use Rattle.bas_ast.specs.declared.expressions.UnaryOp.TheVariants as unary
use Rattle.bas_ir.specs.declared.op.Mark.TheVariants as marks
use Rattle.bas_ir.specs.declared.op.Op.{Op}
use Rattle.bas_ir.specs.declared.op.Op.TheVariants as o
use Rattle.bas_ir.specs.declared.op.Piece.TheVariants as pieces
use Rattle.bas_ir.specs.WellFormed.{most_code}
use Rattle.bas_store.specs.declared.cell.IntegerCell.TheVariants as cells
use Rattle.bv_num.specs.Bits.{pattern}
use Rattle.code_frag.specs.Language.{Skip, ◌⨾◌, is_well_formed, calls, size}
use Rattle.code_frag.specs.Runs.{Meets, MeetEach}
use Rattle.runtime_lib.specs.Routines.{routines_count}
use Rattle.arm_core.specs.Effects.{is_plain_operand}
use Rattle.code_frag.specs.Instructions.{Second, num, reg, cmp, str}
use Rattle.code_frag.specs.Language as language
use Rattle.codegen.specs.Operations.{Named, op_code, number, number_by, drop, takes_operand, takes_immediate, operator, binary_code, binary_with, binary_with_resident, change_resident, leave_unless, go_unless_with, unary_code}
use Rattle.codegen.specs.Program.{named, op_size}
use Rattle.codegen.proofs.Arriving.{CodeAsks, CodeDoes}

-- ---- well formed

number-formed : (small large : Bool) (n : ℕ) → is_well_formed (number_by small large n) ≡ true
number-formed true large n = refl
number-formed false true n = refl
number-formed false false n = refl

-- an operator's operand may be this one
abbrev IsPlain : (rd rn : ℕ) → Second → Type 0
IsPlain rd rn x = (nat_lt rn 15 ≡ true) × (nat_lt rd 15 ≡ true) × ((x.imm || is_plain_operand x.field) ≡ true)

operator-formed : (rd rn : ℕ) (x : Second) (o : BinaryOp) (line : ℕ) → IsPlain rd rn x → is_well_formed (operator rd rn x o line) ≡ true
operator-formed rd rn x op.Or line plain = rw (plain.0, plain.1, plain.2) refl
operator-formed rd rn x op.Eor line plain = rw (plain.0, plain.1, plain.2) refl
operator-formed rd rn x op.And line plain = rw (plain.0, plain.1, plain.2) refl
operator-formed rd rn x (op.Compare c) line plain = rw (plain.0, plain.1, plain.2) refl
operator-formed rd rn x op.Add line plain = rw (plain.0, plain.1, plain.2) refl
operator-formed rd rn x op.Subtract line plain = rw (plain.0, plain.1, plain.2) refl
operator-formed rd rn x op.ShiftLeft line plain = refl
operator-formed rd rn x op.ShiftRightSigned line plain = refl
operator-formed rd rn x op.ShiftRight line plain = refl
operator-formed rd rn x op.Multiply line plain = refl
operator-formed rd rn x op.Divide line plain = refl
operator-formed rd rn x op.Remainder line plain = refl

binary-formed : (x : BinaryOp) (line : ℕ) → is_well_formed (binary_code x line) ≡ true
binary-formed op.Or line = refl
binary-formed op.Eor line = refl
binary-formed op.And line = refl
binary-formed (op.Compare c) line = refl
binary-formed op.ShiftLeft line = refl
binary-formed op.ShiftRightSigned line = refl
binary-formed op.ShiftRight line = refl
binary-formed op.Add line = refl
binary-formed op.Subtract line = refl
binary-formed op.Multiply line = refl
binary-formed op.Divide line = refl
binary-formed op.Remainder line = refl

-- a piece between two others
between-formed : (a b : language.Piece) → is_well_formed a ≡ true → is_well_formed b ≡ true → is_well_formed (a ⨾ b) ≡ true
between-formed a b first second = rw (first, second) refl

with-formed : (immediate : Bool) (x : BinaryOp) (line n : ℕ) → is_well_formed (binary_with immediate x line n) ≡ true
with-formed true x line n = operator-formed 0 0 (num n) x line (refl, refl, refl)
with-formed false x line n = between-formed (number n) (binary_code x line) (number-formed (nat_lt n (2 ^ 8)) (nat_le (2 ^ 32 - 2 ^ 8) n) n) (binary-formed x line)

with-resident-formed : (simple : Bool) (x : BinaryOp) (line index : ℕ) → is_well_formed (binary_with_resident simple x line index) ≡ true
with-resident-formed true x line index = operator-formed 0 0 (reg 1) x line (refl, refl, refl)
with-resident-formed false x line index = binary-formed x line

change-formed : (immediate : Bool) (x : BinaryOp) (index line n : ℕ) → is_well_formed (change_resident immediate x index line n) ≡ true
change-formed true x index line n = between-formed (operator 1 1 (num n) x line) (str 1 11 (4 * index) ⨾ Skip) (operator-formed 1 1 (num n) x line (refl, refl, refl)) refl
change-formed false x index line n =
    between-formed (number n) (binary_code x line ⨾ str 0 11 (4 * index) ⨾ drop ⨾ Skip) (number-formed (nat_lt n (2 ^ 8)) (nat_le (2 ^ 32 - 2 ^ 8) n) n)
    (between-formed (binary_code x line) (str 0 11 (4 * index) ⨾ drop ⨾ Skip) (binary-formed x line) refl)

unless-formed : (immediate : Bool) (relation : Comparison) (item n : ℕ) → is_well_formed (go_unless_with immediate relation item n) ≡ true
unless-formed true relation item n = refl
unless-formed false relation item n = between-formed (number n) (cmp 1 (reg 0) ⨾ leave_unless relation item) (number-formed (nat_lt n (2 ^ 8)) (nat_le (2 ^ 32 - 2 ^ 8) n) n) refl

unary-formed : (x : UnaryOp) (line : ℕ) → is_well_formed (unary_code x line) ≡ true
unary-formed unary.Plus line = refl
unary-formed unary.Minus line = refl
unary-formed unary.Not line = refl
unary-formed unary.Abs line = refl
unary-formed unary.Sgn line = refl
unary-formed unary.Int line = refl

-- ---- how many words they have

-- a piece has a word, and no more bytes than a number
abbrev pub HasBytes : ℕ → ℕ → Type 0
HasBytes words most = (0 < words) × (4 * words ≤ most)

number-size : (small large : Bool) (n : ℕ) → HasBytes (1 + size (number_by small large n)) 24
number-size true large n = (omega arith, omega arith)
number-size false true n = (omega arith, omega arith)
number-size false false n = (omega arith, omega arith)

binary-size : (x : BinaryOp) (line : ℕ) → HasBytes (1 + size (binary_code x line)) 96
binary-size op.Or line = (omega arith, omega arith)
binary-size op.Eor line = (omega arith, omega arith)
binary-size op.And line = (omega arith, omega arith)
binary-size (op.Compare c) line = (omega arith, omega arith)
binary-size op.ShiftLeft line = (omega arith, omega arith)
binary-size op.ShiftRightSigned line = (omega arith, omega arith)
binary-size op.ShiftRight line = (omega arith, omega arith)
binary-size op.Add line = (omega arith, omega arith)
binary-size op.Subtract line = (omega arith, omega arith)
binary-size op.Multiply line = (omega arith, omega arith)
binary-size op.Divide line = (omega arith, omega arith)
binary-size op.Remainder line = (omega arith, omega arith)

operator-size : (rd rn : ℕ) (x : Second) (o : BinaryOp) (line : ℕ) → size (operator rd rn x o line) ≤ 7
operator-size rd rn x op.Or line = omega arith
operator-size rd rn x op.Eor line = omega arith
operator-size rd rn x op.And line = omega arith
operator-size rd rn x (op.Compare c) line = omega arith
operator-size rd rn x op.Add line = omega arith
operator-size rd rn x op.Subtract line = omega arith
operator-size rd rn x op.ShiftLeft line = omega arith
operator-size rd rn x op.ShiftRightSigned line = omega arith
operator-size rd rn x op.ShiftRight line = omega arith
operator-size rd rn x op.Multiply line = omega arith
operator-size rd rn x op.Divide line = omega arith
operator-size rd rn x op.Remainder line = omega arith

-- an operator that takes any operand has a word
operator-some : (rd rn : ℕ) (x : Second) (o : BinaryOp) (line : ℕ) → takes_operand o ≡ true → 0 < size (operator rd rn x o line)
operator-some rd rn x op.Or line simple = omega arith
operator-some rd rn x op.Eor line simple = omega arith
operator-some rd rn x op.And line simple = omega arith
operator-some rd rn x (op.Compare c) line simple = omega arith
operator-some rd rn x op.Add line simple = omega arith
operator-some rd rn x op.Subtract line simple = omega arith
operator-some rd rn x op.ShiftLeft line simple = absurd (cc simple)
operator-some rd rn x op.ShiftRightSigned line simple = absurd (cc simple)
operator-some rd rn x op.ShiftRight line simple = absurd (cc simple)
operator-some rd rn x op.Multiply line simple = absurd (cc simple)
operator-some rd rn x op.Divide line simple = absurd (cc simple)
operator-some rd rn x op.Remainder line simple = absurd (cc simple)

with-size : (immediate : Bool) (x : BinaryOp) (line n : ℕ) → (immediate ≡ true → takes_operand x ≡ true) → HasBytes (size (binary_with immediate x line n)) 120
with-size true x line n simple = let most = operator-size 0 0 (num n) x line in let some = operator-some 0 0 (num n) x line (simple refl) in (some, omega (arith, most))
with-size false x line n simple = let first = number-size (nat_lt n (2 ^ 8)) (nat_le (2 ^ 32 - 2 ^ 8) n) n in let second = binary-size x line in (omega arith, omega (arith, first.1, second.1))

with-resident-size : (simple : Bool) (x : BinaryOp) (line index : ℕ) → HasBytes (size (binary_with_resident simple x line index)) 104
with-resident-size true x line index = let most = operator-size 0 0 (reg 1) x line in (omega arith, omega (arith, most))
with-resident-size false x line index = let second = binary-size x line in (omega arith, omega (arith, second.1))

change-size : (immediate : Bool) (x : BinaryOp) (index line n : ℕ) → HasBytes (size (change_resident immediate x index line n)) 136
change-size true x index line n = let most = operator-size 1 1 (num n) x line in (omega arith, omega (arith, most))
change-size false x index line n = let first = number-size (nat_lt n (2 ^ 8)) (nat_le (2 ^ 32 - 2 ^ 8) n) n in let second = binary-size x line in (omega arith, omega (arith, first.1, second.1))

unless-size : (immediate : Bool) (relation : Comparison) (item n : ℕ) → HasBytes (size (go_unless_with immediate relation item n)) 136
unless-size true relation item n = (omega arith, omega arith)
unless-size false relation item n = let first = number-size (nat_lt n (2 ^ 8)) (nat_le (2 ^ 32 - 2 ^ 8) n) n in (omega arith, omega (arith, first.1))

-- an operator that takes a constant as an immediate takes any operand
immediate-simple : (x : BinaryOp) (n : ℕ) → takes_immediate x n ≡ true → takes_operand x ≡ true
immediate-simple x n e = (and_parts (takes_operand x) (nat_lt n (2 ^ 8)) e).0

unary-size : (x : UnaryOp) (line : ℕ) → HasBytes (size (unary_code x line)) 64
unary-size unary.Plus line = (omega arith, omega arith)
unary-size unary.Minus line = (omega arith, omega arith)
unary-size unary.Not line = (omega arith, omega arith)
unary-size unary.Abs line = (omega arith, omega arith)
unary-size unary.Sgn line = (omega arith, omega arith)
unary-size unary.Int line = (omega arith, omega arith)

-- ---- all of it

-- a piece is well formed, has as many words whatever it names, at least one, and no more than an operation may have
abbrev HasShape : Named → Op → Type 0
HasShape n x = (is_well_formed (op_code n x) ≡ true) × (size (op_code n x) ≡ op_size x) × HasBytes (op_size x) (most_code x)

op-shape : (n : Named) (x : Op) → HasShape n x
op-shape n (o.Push value) = (number-formed (nat_lt (pattern value) (2 ^ 8)) (nat_le (2 ^ 32 - 2 ^ 8) (pattern value)) (pattern value), refl, number-size (nat_lt (pattern value) (2 ^ 8)) (nat_le (2 ^ 32 - 2 ^ 8) (pattern value)) (pattern value))
op-shape n o.PushColumn = (refl, refl, (omega arith, omega arith))
op-shape n (o.PushResident index) = (refl, refl, (omega arith, omega arith))
op-shape n (o.PushInteger name line) = (refl, refl, (omega arith, omega arith))
op-shape n (o.PushText number) = (refl, refl, (omega arith, omega arith))
op-shape n (o.Unary x line) = (unary-formed x line, refl, unary-size x line)
op-shape n (o.Binary x line) = (binary-formed x line, refl, binary-size x line)
op-shape n (o.BinaryWith x line number) =
    (with-formed (takes_immediate x (pattern number)) x line (pattern number), refl, with-size (takes_immediate x (pattern number)) x line (pattern number) (λ e. immediate-simple x (pattern number) e))
op-shape n (o.BinaryWithResident x resident line) = (with-resident-formed (takes_operand x) x line resident, refl, with-resident-size (takes_operand x) x line resident)
op-shape n (o.ChangeResident x resident line number) =
    (change-formed (takes_immediate x (pattern number)) x resident line (pattern number), refl, change-size (takes_immediate x (pattern number)) x resident line (pattern number))
op-shape n (o.StoreResident index) = (refl, refl, (omega arith, omega arith))
op-shape n (o.StoreInteger name) = (refl, refl, (omega arith, omega arith))
op-shape n (o.WriteNumber padded format) = (refl, refl, (omega arith, omega arith))
op-shape n o.WriteText = (refl, refl, (omega arith, omega arith))
op-shape n (o.Write pieces.Spaces) = (refl, refl, (omega arith, omega arith))
op-shape n (o.Write pieces.Tab) = (refl, refl, (omega arith, omega arith))
op-shape n (o.Write pieces.Byte) = (refl, refl, (omega arith, omega arith))
op-shape n (o.Write pieces.Word) = (refl, refl, (omega arith, omega arith))
op-shape n (o.Write pieces.Mode) = (refl, refl, (omega arith, omega arith))
op-shape n (o.Write pieces.Colour) = (refl, refl, (omega arith, omega arith))
op-shape n (o.WriteMark marks.Field) = (refl, refl, (omega arith, omega arith))
op-shape n (o.WriteMark marks.NewLine) = (refl, refl, (omega arith, omega arith))
op-shape n (o.WriteMark marks.Clear) = (refl, refl, (omega arith, omega arith))
op-shape n (o.Go item) = (refl, refl, (omega arith, omega arith))
op-shape n (o.GoIfZero item) = (refl, refl, (omega arith, omega arith))
op-shape n (o.GoUnless relation item) = (refl, refl, (omega arith, omega arith))
op-shape n (o.GoUnlessWith relation item number) =
    (unless-formed (nat_lt (pattern number) (2 ^ 8)) relation item (pattern number), refl, unless-size (nat_lt (pattern number) (2 ^ 8)) relation item (pattern number))
op-shape n o.Discard = (refl, refl, (omega arith, omega arith))
op-shape n (o.GoIfOne item) = (refl, refl, (omega arith, omega arith))
op-shape n (o.GosubIfOne line item) = (refl, refl, (omega arith, omega arith))
op-shape n (o.RaiseIfOne error line) = (refl, refl, (omega arith, omega arith))
op-shape n (o.GoIfEqual item) = (refl, refl, (omega arith, omega arith))
op-shape n (o.OpenFor (cells.Resident index) line) = (refl, refl, (omega arith, omega arith))
op-shape n (o.OpenFor (cells.Named name) line) = (refl, refl, (omega arith, omega arith))
op-shape n (o.OpenRepeat line) = (refl, refl, (omega arith, omega arith))
op-shape n (o.OpenWhile line) = (refl, refl, (omega arith, omega arith))
op-shape n (o.Gosub line item) = (refl, refl, (omega arith, omega arith))
op-shape n (o.Next (cells.Resident index) line) = (refl, refl, (omega arith, omega arith))
op-shape n (o.Next (cells.Named name) line) = (refl, refl, (omega arith, omega arith))
op-shape n (o.NextAny line) = (refl, refl, (omega arith, omega arith))
op-shape n (o.Until line) = (refl, refl, (omega arith, omega arith))
op-shape n (o.EndWhile line) = (refl, refl, (omega arith, omega arith))
op-shape n (o.Return line) = (refl, refl, (omega arith, omega arith))
op-shape n (o.ReadNumber line) = (refl, refl, (omega arith, omega arith))
op-shape n (o.Restore item) = (refl, refl, (omega arith, omega arith))
op-shape n (o.Raise error line) = (refl, refl, (omega arith, omega arith))
op-shape n o.End = (refl, refl, (omega arith, omega arith))
op-shape n (o.Enter kind routine line) = (refl, refl, (omega arith, omega arith))
op-shape n (o.LeaveProcedure line) = (refl, refl, (omega arith, omega arith))
op-shape n (o.NeedFunction line) = (refl, refl, (omega arith, omega arith))
op-shape n o.LeaveNumber = (refl, refl, (omega arith, omega arith))
op-shape n o.LeaveText = (refl, refl, (omega arith, omega arith))
op-shape n (o.HandleAll item) = (refl, refl, (omega arith, omega arith))
op-shape n (o.HandleHere item) = (refl, refl, (omega arith, omega arith))
op-shape n o.HandleNone = (refl, refl, (omega arith, omega arith))

pub op-formed : (n : Named) (x : Op) → is_well_formed (op_code n x) ≡ true
op-formed n x = (op-shape n x).0

pub size-named : (n : Named) (x : Op) → size (op_code n x) ≡ op_size x
size-named n x = (op-shape n x).1

pub op-size : (x : Op) → HasBytes (op_size x) (most_code x)
op-size x = (op-shape (named 0 0 0) x).2

-- ---- what they call

module _ (code entry : ℕ → ℕ) (meets : (label : ℕ) → label < routines_count → Meets code entry CodeAsks CodeDoes (label + 1)) where
  abbrev Met : List ℕ → Type 0
  Met labels = MeetEach code entry CodeAsks CodeDoes labels

  number-calls : (small large : Bool) (n : ℕ) → Met (calls (number_by small large n))
  number-calls true large n = tt
  number-calls false true n = tt
  number-calls false false n = tt

  binary-calls : (x : BinaryOp) (line : ℕ) → Met (calls (binary_code x line))
  binary-calls op.Or line = tt
  binary-calls op.Eor line = tt
  binary-calls op.And line = tt
  binary-calls (op.Compare c) line = tt
  binary-calls op.ShiftLeft line = tt
  binary-calls op.ShiftRightSigned line = tt
  binary-calls op.ShiftRight line = tt
  binary-calls op.Add line = tt
  binary-calls op.Subtract line = tt
  binary-calls op.Multiply line = (meets 0 (omega arith), tt)
  binary-calls op.Divide line = (meets 1 (omega arith), tt)
  binary-calls op.Remainder line = (meets 2 (omega arith), tt)

  operator-calls : (rd rn : ℕ) (x : Second) (o : BinaryOp) (line : ℕ) → Met (calls (operator rd rn x o line))
  operator-calls rd rn x op.Or line = tt
  operator-calls rd rn x op.Eor line = tt
  operator-calls rd rn x op.And line = tt
  operator-calls rd rn x (op.Compare c) line = tt
  operator-calls rd rn x op.Add line = tt
  operator-calls rd rn x op.Subtract line = tt
  operator-calls rd rn x op.ShiftLeft line = tt
  operator-calls rd rn x op.ShiftRightSigned line = tt
  operator-calls rd rn x op.ShiftRight line = tt
  operator-calls rd rn x op.Multiply line = tt
  operator-calls rd rn x op.Divide line = tt
  operator-calls rd rn x op.Remainder line = tt

  both_met : (a b : List ℕ) → Met a → Met b → Met (a ++ b)
  both_met [] b first second = second
  both_met (e ∷ a) b first second = (first.0, both_met a b first.1 second)

  number-met : (n : ℕ) → Met (calls (number n))
  number-met n = number-calls (nat_lt n (2 ^ 8)) (nat_le (2 ^ 32 - 2 ^ 8) n) n

  with-calls : (immediate : Bool) (x : BinaryOp) (line n : ℕ) → Met (calls (binary_with immediate x line n))
  with-calls true x line n = operator-calls 0 0 (num n) x line
  with-calls false x line n = both_met (calls (number n)) (calls (binary_code x line)) (number-met n) (binary-calls x line)

  with-resident-calls : (simple : Bool) (x : BinaryOp) (line index : ℕ) → Met (calls (binary_with_resident simple x line index))
  with-resident-calls true x line index = operator-calls 0 0 (reg 1) x line
  with-resident-calls false x line index = binary-calls x line

  change-calls : (immediate : Bool) (x : BinaryOp) (index line n : ℕ) → Met (calls (change_resident immediate x index line n))
  change-calls true x index line n = both_met (calls (operator 1 1 (num n) x line)) [] (operator-calls 1 1 (num n) x line) tt
  change-calls false x index line n = both_met (calls (number n)) (calls (binary_code x line) ++ []) (number-met n) (both_met (calls (binary_code x line)) [] (binary-calls x line) tt)

  unless-calls : (immediate : Bool) (relation : Comparison) (item n : ℕ) → Met (calls (go_unless_with immediate relation item n))
  unless-calls true relation item n = tt
  unless-calls false relation item n = both_met (calls (number n)) [] (number-met n) tt

  unary-calls : (x : UnaryOp) (line : ℕ) → Met (calls (unary_code x line))
  unary-calls unary.Plus line = tt
  unary-calls unary.Minus line = tt
  unary-calls unary.Not line = tt
  unary-calls unary.Abs line = tt
  unary-calls unary.Sgn line = tt
  unary-calls unary.Int line = tt

  pub op-calls : (n : Named) (x : Op) → Met (calls (op_code n x))
  op-calls n (o.Push value) = number-calls (nat_lt (pattern value) (2 ^ 8)) (nat_le (2 ^ 32 - 2 ^ 8) (pattern value)) (pattern value)
  op-calls n o.PushColumn = tt
  op-calls n (o.PushResident index) = tt
  op-calls n (o.PushInteger name line) = tt
  op-calls n (o.PushText number) = tt
  op-calls n (o.Unary x line) = unary-calls x line
  op-calls n (o.Binary x line) = binary-calls x line
  op-calls n (o.BinaryWith x line number) = with-calls (takes_immediate x (pattern number)) x line (pattern number)
  op-calls n (o.BinaryWithResident x resident line) = with-resident-calls (takes_operand x) x line resident
  op-calls n (o.ChangeResident x resident line number) = change-calls (takes_immediate x (pattern number)) x resident line (pattern number)
  op-calls n (o.StoreResident index) = tt
  op-calls n (o.StoreInteger name) = tt
  op-calls n (o.WriteNumber padded formats.Decimal) = (meets 3 (omega arith), tt)
  op-calls n (o.WriteNumber padded formats.Hexadecimal) = (meets 4 (omega arith), tt)
  op-calls n o.WriteText = (meets 7 (omega arith), tt)
  op-calls n (o.Write pieces.Spaces) = (meets 5 (omega arith), tt)
  op-calls n (o.Write pieces.Tab) = (meets 10 (omega arith), tt)
  op-calls n (o.Write pieces.Byte) = tt
  op-calls n (o.Write pieces.Word) = tt
  op-calls n (o.Write pieces.Mode) = tt
  op-calls n (o.Write pieces.Colour) = tt
  op-calls n (o.WriteMark marks.Field) = (meets 9 (omega arith), tt)
  op-calls n (o.WriteMark marks.NewLine) = tt
  op-calls n (o.WriteMark marks.Clear) = tt
  op-calls n (o.Go item) = tt
  op-calls n (o.GoIfZero item) = tt
  op-calls n (o.GoUnless relation item) = tt
  op-calls n (o.GoUnlessWith relation item number) = unless-calls (nat_lt (pattern number) (2 ^ 8)) relation item (pattern number)
  op-calls n o.Discard = tt
  op-calls n (o.GoIfOne item) = tt
  op-calls n (o.GosubIfOne line item) = (meets 13 (omega arith), tt)
  op-calls n (o.RaiseIfOne error line) = tt
  op-calls n (o.GoIfEqual item) = tt
  op-calls n (o.OpenFor (cells.Resident index) line) = (meets 13 (omega arith), tt)
  op-calls n (o.OpenFor (cells.Named name) line) = (meets 13 (omega arith), tt)
  op-calls n (o.OpenRepeat line) = (meets 13 (omega arith), tt)
  op-calls n (o.OpenWhile line) = (meets 13 (omega arith), tt)
  op-calls n (o.Gosub line item) = (meets 13 (omega arith), tt)
  op-calls n (o.Next (cells.Resident index) line) = (meets 15 (omega arith), tt)
  op-calls n (o.Next (cells.Named name) line) = (meets 15 (omega arith), tt)
  op-calls n (o.NextAny line) = (meets 15 (omega arith), tt)
  op-calls n (o.Until line) = (meets 14 (omega arith), tt)
  op-calls n (o.EndWhile line) = (meets 14 (omega arith), tt)
  op-calls n (o.Return line) = (meets 14 (omega arith), tt)
  op-calls n (o.ReadNumber line) = (meets 16 (omega arith), (meets 17 (omega arith), tt))
  op-calls n (o.Restore item) = tt
  op-calls n (o.Raise error line) = tt
  op-calls n o.End = tt
  op-calls n (o.Enter kind routine line) = tt
  op-calls n (o.LeaveProcedure line) = tt
  op-calls n (o.NeedFunction line) = tt
  op-calls n o.LeaveNumber = tt
  op-calls n o.LeaveText = tt
  op-calls n (o.HandleAll item) = tt
  op-calls n (o.HandleHere item) = tt
  op-calls n o.HandleNone = tt
