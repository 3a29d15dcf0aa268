-- What a terminal is at the front of an expression, and how tightly operators bind. A word that comes before one operand
-- is a line of `role`.
use Rattle.std.specs.Prelude.{ℕ, []}
use Rattle.bas_ast.specs.declared.expressions.BinaryOp.{BinaryOp}
use Rattle.bas_ast.specs.declared.expressions.BinaryOp.TheVariants as op
use Rattle.bas_ast.specs.declared.expressions.NumExpr.{NumExpr}
use Rattle.bas_ast.specs.declared.expressions.NumExpr.TheVariants as num
use Rattle.bas_ast.specs.declared.expressions.StrExpr.{StrExpr}
use Rattle.bas_ast.specs.declared.expressions.StrExpr.TheVariants as str
use Rattle.bas_ast.specs.declared.expressions.Side.{Side}
use Rattle.bas_ast.specs.declared.expressions.Side.TheVariants as side
use Rattle.bas_ast.specs.declared.expressions.TextFunction.TheVariants as function
use Rattle.bas_ast.specs.declared.expressions.UnaryOp.TheVariants as unary
use Rattle.bas_ast.specs.declared.keywords.Keyword.{Keyword}
use Rattle.bas_ast.specs.declared.keywords.Keyword.TheVariants as word
use Rattle.bas_ast.specs.declared.terminals.Terminal.{Terminal}
use Rattle.bas_ast.specs.declared.terminals.Terminal.TheVariants as t

-- What a terminal begins: an expression of one terminal; one operand after it; a string and perhaps a number after it,
-- with the bracket closed; or none of these.
pub data Role : Type 0 where
  Alone : NumExpr → Role
  AloneText : StrExpr → Role
  BeforeNumber : (NumExpr → NumExpr) → Role
  BeforeText : (StrExpr → NumExpr) → Role
  TextBeforeNumber : (NumExpr → StrExpr) → Role
  TakesPart : Side → Role
  NoRole : Role

-- the keywords of expressions, but for those with punctuation of their own: STR$, INSTR(, MID$( and STRING$(
abbrev pub word_role : Keyword → Role
word_role word.True = Alone num.True
word_role word.False = Alone num.False
word_role word.Err = Alone num.Err
word_role word.Erl = Alone num.Erl
word_role word.Count = Alone num.Count
word_role word.Get = Alone num.Get
word_role word.GetText = AloneText str.Get
word_role word.Not = BeforeNumber (num.Unary unary.Not)
word_role word.Abs = BeforeNumber (num.Unary unary.Abs)
word_role word.Sgn = BeforeNumber (num.Unary unary.Sgn)
word_role word.Int = BeforeNumber (num.Unary unary.Int)
word_role word.Usr = BeforeNumber num.Usr
word_role word.Asc = BeforeText (num.OfText function.Asc)
word_role word.Len = BeforeText (num.OfText function.Len)
word_role word.Val = BeforeText (num.OfText function.Val)
word_role word.Chr = TextBeforeNumber str.Character
word_role word.Left = TakesPart side.Left
word_role word.Right = TakesPart side.Right
word_role _ = NoRole

-- the signs + and - before an operand
abbrev pub sign_role : BinaryOp → Role
sign_role op.Add = BeforeNumber (num.Unary unary.Plus)
sign_role op.Subtract = BeforeNumber (num.Unary unary.Minus)
sign_role _ = NoRole

abbrev pub role : Terminal → Role
role (t.Number n) = Alone (num.Number n)
role (t.Label n) = Alone (num.Label n)
role (t.NumFunction n) = Alone (num.Function n [])
role (t.Literal n) = AloneText (str.Literal n)
role (t.StrFunction n) = AloneText (str.Function n [])
role (t.Operator op) = sign_role op
role (t.Indirection w) = BeforeNumber (num.Indirect w)
role t.Dollar = TextBeforeNumber str.Indirect
role (t.Keyword word) = word_role word
role _ = NoRole

-- How tightly an operator binds: OR and EOR least, then AND, comparisons and shifts, sums, products.
abbrev pub level : BinaryOp → ℕ
level op.Or = 1
level op.Eor = 1
level op.And = 2
level (op.Compare c) = 3
level op.ShiftLeft = 3
level op.ShiftRightSigned = 3
level op.ShiftRight = 3
level op.Add = 4
level op.Subtract = 4
level op.Multiply = 5
level op.Divide = 5
level op.Remainder = 5

-- The level that an operator's left operand has at least. Operators of one level group to the left, but a comparison or a
-- shift has none of its level to its left.
abbrev pub left_level : BinaryOp → ℕ
left_level op.Or = 1
left_level op.Eor = 1
left_level op.And = 2
left_level (op.Compare c) = 4
left_level op.ShiftLeft = 4
left_level op.ShiftRightSigned = 4
left_level op.ShiftRight = 4
left_level op.Add = 4
left_level op.Subtract = 4
left_level op.Multiply = 5
left_level op.Divide = 5
left_level op.Remainder = 5
