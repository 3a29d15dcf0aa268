-- The operators of the language, by the operations on numbers (BBC BASIC Reference Manual, operators).
use Rattle.std.specs.Prelude.{ℕ, ℤ, zero, suc, pos, negsuc, Result, Ok}
use Rattle.bas_ast.specs.declared.expressions.BinaryOp.{BinaryOp}
use Rattle.bas_ast.specs.declared.expressions.BinaryOp.TheVariants as op
use Rattle.bas_ast.specs.declared.expressions.Comparison.{Comparison}
use Rattle.bas_ast.specs.declared.expressions.Comparison.TheVariants as is
use Rattle.bas_ast.specs.declared.expressions.UnaryOp.{UnaryOp}
use Rattle.bas_ast.specs.declared.expressions.UnaryOp.TheVariants as unary
use Rattle.bv_num.specs.Operation as operations
use Rattle.bv_num.specs.Operation.{Operation, operation, negated, complement, magnitude}
use Rattle.bv_num.specs.Shift.{shifted}
use Rattle.bv_num.specs.declared.shifts.ShiftKind.TheVariants as shifts

-- the operation of a comparison
abbrev pub comparison : Comparison → Operation
comparison is.Equal = operations.Equal
comparison is.NotEqual = operations.NotEqual
comparison is.Less = operations.Less
comparison is.Greater = operations.Greater
comparison is.LessOrEqual = operations.LessOrEqual
comparison is.GreaterOrEqual = operations.GreaterOrEqual

-- an operator between two numbers: its result or its error
abbrev pub of_two : BinaryOp → ℤ → ℤ → Result ℤ ℕ
of_two op.Or x y = operation operations.Or x y
of_two op.Eor x y = operation operations.Eor x y
of_two op.And x y = operation operations.And x y
of_two (op.Compare c) x y = operation (comparison c) x y
of_two op.ShiftLeft x y = Ok (shifted shifts.Left x y)
of_two op.ShiftRightSigned x y = Ok (shifted shifts.Right x y)
of_two op.ShiftRight x y = Ok (shifted shifts.RightLogical x y)
of_two op.Add x y = operation operations.Add x y
of_two op.Subtract x y = operation operations.Subtract x y
of_two op.Multiply x y = operation operations.Multiply x y
of_two op.Divide x y = operation operations.Divide x y
of_two op.Remainder x y = operation operations.Remainder x y

-- SGN: 1, 0 or -1
abbrev pub sign : ℤ → ℤ
sign (pos zero) = pos 0
sign (pos (suc n)) = pos 1
sign (negsuc n) = negsuc 0

-- a word or sign before a number: its result or its error. INT of an integer is the integer.
abbrev pub of_one : UnaryOp → ℤ → Result ℤ ℕ
of_one unary.Plus x = Ok x
of_one unary.Minus x = negated x
of_one unary.Not x = Ok (complement x)
of_one unary.Abs x = magnitude x
of_one unary.Sgn x = Ok (sign x)
of_one unary.Int x = Ok x
