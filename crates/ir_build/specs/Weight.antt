-- Simple items, how much they weigh, and plain operations. This project's own.
use Rattle.std.specs.Prelude.{◌≡◌, ℕ, ◌+◌, ◌≤◌, Bool, true, false, [], ◌∷◌, Option, None, Some, length, IsTrue}
use Rattle.std.specs.List.{list_all}
use Rattle.bas_ast.specs.declared.expressions.BinaryOp.{BinaryOp}
use Rattle.bas_ast.specs.declared.expressions.BinaryOp.TheVariants as operators
use Rattle.bas_ast.specs.declared.expressions.NumExpr.{NumExpr, more_of-NumExpr as held}
use Rattle.bas_ast.specs.declared.expressions.NumExpr.TheVariants as num
use Rattle.bas_ast.specs.declared.expressions.UnaryOp.{UnaryOp}
use Rattle.bas_ast.specs.declared.expressions.UnaryOp.TheVariants as unary
use Rattle.bas_ast.specs.declared.expressions.Variable.TheVariants as var
use Rattle.bas_ast.specs.declared.lines.Item.{Item}
use Rattle.bas_ast.specs.declared.lines.Item.TheVariants as item
use Rattle.bas_ast.specs.declared.program.Prog.{Prog}
use Rattle.bas_ast.specs.declared.statements.Assignment.TheVariants as assigns
use Rattle.bas_ast.specs.declared.statements.Flow.TheVariants as flow
use Rattle.bas_ast.specs.declared.statements.Output.TheVariants as writes
use Rattle.bas_ast.specs.declared.statements.Stmt.{Stmt}
use Rattle.bas_ast.specs.declared.statements.Stmt.TheVariants as stmt
use Rattle.bas_ast.specs.declared.statements.VduPart.TheVariants as sends
use Rattle.bas_ast.specs.declared.targets.NumTarget.TheVariants as target
use Rattle.bas_ir.specs.declared.op.Op.{Op}
use Rattle.bas_ir.specs.declared.op.Op.TheVariants as o
use Rattle.bas_ir.specs.declared.op.Piece.TheVariants as pieces
use Rattle.bas_sem.specs.Places.{line_place}
use Rattle.ir_build.specs.Code.{row_code}

-- operators between plain numbers: + - AND OR EOR and comparisons
abbrev pub is_plain_operator : BinaryOp → Bool
is_plain_operator operators.Add = true
is_plain_operator operators.Subtract = true
is_plain_operator operators.And = true
is_plain_operator operators.Or = true
is_plain_operator operators.Eor = true
is_plain_operator (operators.Compare c) = true
is_plain_operator _ = false

-- signs and words before a plain number: + - NOT
abbrev pub is_plain_sign : UnaryOp → Bool
is_plain_sign unary.Plus = true
is_plain_sign unary.Minus = true
is_plain_sign unary.Not = true
is_plain_sign _ = false

-- where a test holds
abbrev pub where_true : Bool → Option ℕ → Option ℕ
where_true true weight = weight
where_true false weight = None

-- one more than a weight, and than two
abbrev pub and_one : Option ℕ → Option ℕ
and_one None = None
and_one (Some n) = Some (n + 1)

-- one more than two weights together
abbrev pub and_both : Option ℕ → Option ℕ → Option ℕ
and_both None w = None
and_both (Some m) None = None
and_both (Some m) (Some n) = Some (m + n + 1)

-- The weight of a plain number: its operators and operands. Other expressions have none.
unfoldable pub plain_weight : NumExpr → Option ℕ
plain_weight (num.Number value) = Some 1
plain_weight num.True = Some 1
plain_weight num.False = Some 1
plain_weight (num.Variable (var.Simple name)) = Some 1
plain_weight (num.Bracket' _ (held x _)) = plain_weight x
plain_weight (num.Unary' op _ (held x _)) = where_true (is_plain_sign op) (and_one (plain_weight x))
plain_weight (num.Binary' op _ (held x _) _ (held y _)) = where_true (is_plain_operator op) (and_both (plain_weight x) (plain_weight y))
plain_weight _ = None

-- GOTO a line that is there
abbrev pub goto_weight : Option ℕ → Option ℕ
goto_weight None = None
goto_weight (Some place) = Some 0

-- the weight of a simple statement
abbrev pub statement_weight : Prog → Stmt → Option ℕ
statement_weight prog (stmt.Assign (assigns.Number (target.Variable (var.Simple name)) x)) = and_one (plain_weight x)
statement_weight prog (stmt.Flow (flow.Goto number)) = goto_weight (line_place prog number)
statement_weight prog (stmt.Flow flow.End) = Some 0
statement_weight prog (stmt.Output (writes.Vdu (sends.Byte x ∷ []))) = plain_weight x
statement_weight prog _ = None

-- The weight of a simple item: its operators, operands and targets. Other items have none. A met DEF line has its line here when it
-- has a meaning.
abbrev pub item_weight : Prog → Item → Option ℕ
item_weight prog (item.Stmt s) = statement_weight prog s
item_weight prog (item.If x) = plain_weight x
item_weight prog item.Else = Some 0
item_weight prog (item.Data n) = Some 0
item_weight prog item.Remark = Some 0
item_weight prog _ = None

-- A plain operation pushes or reads an integer, applies a plain operator or sign, also to an operand that it has itself, changes an
-- integer by a plain operator, stores an integer, jumps, jumps on an integer or a comparison, writes one byte, or ends.
abbrev pub is_plain : Op → Bool
is_plain (o.Push value) = true
is_plain (o.PushResident index) = true
is_plain (o.PushInteger name line) = true
is_plain (o.Unary op line) = is_plain_sign op
is_plain (o.Binary op line) = is_plain_operator op
is_plain (o.BinaryWith op line number) = is_plain_operator op
is_plain (o.BinaryWithResident op resident line) = is_plain_operator op
is_plain (o.ChangeResident op resident line number) = is_plain_operator op
is_plain (o.StoreResident index) = true
is_plain (o.StoreInteger name) = true
is_plain (o.Write pieces.Byte) = true
is_plain (o.Go item) = true
is_plain (o.GoIfZero item) = true
is_plain (o.GoUnless relation item) = true
is_plain (o.GoUnlessWith relation item number) = true
is_plain o.End = true
is_plain _ = false

-- The code of a simple item has at most one operation more than it weighs, and each of them is plain.
abbrev pub SimpleItemsLight : Prog → Type 0
SimpleItemsLight prog = (place line : ℕ) (i : Item) (weight : ℕ) → item_weight prog i ≡ Some weight
    → (length (row_code prog place (record { line = line; item = i })) ≤ weight + 1) × IsTrue (list_all is_plain (row_code prog place (record { line = line; item = i })))
