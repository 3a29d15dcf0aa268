-- What the parser of expressions finds at the front of a list for the operands of statements.
use Rattle.std.specs.Prelude.{suc, List, length}
use Rattle.bas_ast.specs.declared.expressions.Any.{Any}
use Rattle.bas_ast.specs.declared.expressions.NumExpr.{NumExpr}
use Rattle.bas_ast.specs.declared.expressions.Width.{Width}
use Rattle.expr_parse.specs.Parse.{Parser, expression, number, either, offset, subscripts, arguments}

-- the longest expression of either kind
unfoldable pub longest_any : Parser Any
longest_any r = either (expression (suc (length r))) r

-- the longest number without an operator outside brackets
unfoldable pub longest_operand : Parser NumExpr
longest_operand r = number (expression (suc (length r))) 6 r

-- an indirection after a variable, with its operand
unfoldable pub longest_offset : Parser (Width × NumExpr)
longest_offset r = offset (expression (suc (length r))) 6 r

-- subscripts, with the bracket that closes them
unfoldable pub whole_subscripts : Parser (List NumExpr)
whole_subscripts r = subscripts (expression (suc (length r))) r

-- arguments, with the bracket that closes them
unfoldable pub whole_arguments : Parser (List Any)
whole_arguments r = arguments (expression (suc (length r))) r
