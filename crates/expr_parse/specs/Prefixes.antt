-- What a prefix makes of its operand.
use Rattle.bas_ast.specs.declared.expressions.NumExpr.{NumExpr}
use Rattle.bas_ast.specs.declared.expressions.NumExpr.TheVariants as num
use Rattle.bas_ast.specs.declared.expressions.StrExpr.{StrExpr}
use Rattle.bas_ast.specs.declared.expressions.StrExpr.TheVariants as str
use Rattle.bas_ast.specs.declared.expressions.TextFunction.{TextFunction}
use Rattle.expr_parse.specs.declared.words.Prefix.{Prefix}
use Rattle.expr_parse.specs.declared.words.Prefix.TheVariants as prefix
use Rattle.expr_parse.specs.declared.words.TextPrefix.{TextPrefix}
use Rattle.expr_parse.specs.declared.words.TextPrefix.TheVariants as text_prefix

abbrev pub prefixed_number : Prefix → NumExpr → NumExpr
prefixed_number (prefix.Unary op) = num.Unary op
prefixed_number (prefix.Indirect w) = num.Indirect w
prefixed_number prefix.Usr = num.Usr

abbrev pub function_of_text : TextFunction → StrExpr → NumExpr
function_of_text f = num.OfText f

abbrev pub prefixed_text : TextPrefix → NumExpr → StrExpr
prefixed_text text_prefix.Indirect = str.Indirect
prefixed_text text_prefix.Character = str.Character
