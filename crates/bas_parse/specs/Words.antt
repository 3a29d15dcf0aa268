-- The statements of the words before one number.
use Rattle.bas_ast.specs.declared.expressions.NumExpr.{NumExpr}
use Rattle.bas_ast.specs.declared.statements.Call.TheVariants as call
use Rattle.bas_ast.specs.declared.statements.Flow.TheVariants as flow
use Rattle.bas_ast.specs.declared.statements.Output.TheVariants as output
use Rattle.bas_ast.specs.declared.statements.Stmt.{Stmt}
use Rattle.bas_ast.specs.declared.statements.Stmt.TheVariants as stmt
use Rattle.bas_parse.specs.declared.words.NumberWord.{NumberWord}
use Rattle.bas_parse.specs.declared.words.NumberWord.TheVariants as word

-- the statement of a word and its number
abbrev pub number_stmt : NumberWord → NumExpr → Stmt
number_stmt word.Until x = stmt.Flow (flow.Until x)
number_stmt word.While x = stmt.Flow (flow.While x)
number_stmt word.Call x = stmt.Call (call.Code x)
number_stmt word.Mode x = stmt.Output (output.Mode x)
number_stmt word.Colour x = stmt.Output (output.Colour x)
