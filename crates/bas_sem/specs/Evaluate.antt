-- The values of expressions (BBC BASIC Reference Manual, expressions). Operands go from left to right. The line is that of the
-- errors that an expression itself raises. The forms that have no meaning yet share the last equation.
use Rattle.std.specs.Prelude.{ℕ, ℤ, pos, negsuc, List, [], slice_index_or}
use Rattle.bas_ast.specs.declared.expressions.NumExpr.{NumExpr, more_of-NumExpr as held}
use Rattle.bas_ast.specs.declared.expressions.NumExpr.TheVariants as num
use Rattle.bas_ast.specs.declared.expressions.StrExpr.{StrExpr}
use Rattle.bas_ast.specs.declared.expressions.StrExpr.TheVariants as str
use Rattle.bas_ast.specs.declared.expressions.Variable.TheVariants as var
use Rattle.bas_ast.specs.declared.program.Prog.{Prog}
use Rattle.bas_store.specs.Cells.{integer_cell}
use Rattle.bas_sem.specs.Course.{Action, ◌>>=◌, give}
use Rattle.bas_sem.specs.Actions.{outside, read, column_now, or_raise}
use Rattle.bas_sem.specs.Calls.{Calls}
use Rattle.bas_sem.specs.Operators.{of_one, of_two}

-- the value of an expression whose value is a number
unfoldable pub evaluate : Prog → Calls → ℕ → NumExpr → Action ℤ
evaluate prog calls line (num.Number value) = give value
evaluate prog calls line num.True = give (negsuc 0)
evaluate prog calls line num.False = give (pos 0)
evaluate prog calls line num.Count = column_now >>= (λ column. give (pos column))
evaluate prog calls line (num.Variable (var.Simple name)) = read line (integer_cell prog.names name)
evaluate prog calls line (num.Bracket' _ (held x _)) = evaluate prog calls line x
evaluate prog calls line (num.Unary' op _ (held x _)) = do
  value ← evaluate prog calls line x
  or_raise line (of_one op value)
evaluate prog calls line (num.Binary' op _ (held x _) _ (held y _)) = do
  left ← evaluate prog calls line x
  right ← evaluate prog calls line y
  or_raise line (of_two op left right)
evaluate prog calls line _ = outside

-- the bytes of a string literal
abbrev pub literal : Prog → ℕ → List ℕ
literal prog number = slice_index_or prog.texts number []

-- the value of an expression whose value is a string
abbrev pub evaluate_text : Prog → Calls → ℕ → StrExpr → Action (List ℕ)
evaluate_text prog calls line (str.Literal number) = give (literal prog number)
evaluate_text prog calls line _ = outside
