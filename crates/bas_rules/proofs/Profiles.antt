-- The equations of the profile on trees.
use Rattle.std.proofs.Common.{◌≡◌, ◌&&◌, refl}
use denote.Hole.Carrier.{hidden}
use Rattle.bas_ast.specs.declared.expressions.Any.TheBlock.{hidden-the_row-NumExpr-0}
use Rattle.bas_ast.specs.declared.expressions.BinaryOp.{BinaryOp}
use Rattle.bas_ast.specs.declared.expressions.UnaryOp.{UnaryOp}
use Rattle.bas_ast.specs.declared.expressions.NumExpr.{NumExpr}
use Rattle.bas_ast.specs.declared.expressions.NumExpr.TheVariants as num
use Rattle.bas_rules.specs.Profile.{num_in_profile}

pub bracket_in_profile : (x : NumExpr) → num_in_profile (num.Bracket x) ≡ num_in_profile x
unfolding num_in_profile hidden-the_row-NumExpr-0 hidden
bracket_in_profile x = refl

pub unary_in_profile : (op : UnaryOp) (x : NumExpr) → num_in_profile (num.Unary op x) ≡ num_in_profile x
unfolding num_in_profile hidden-the_row-NumExpr-0 hidden
unary_in_profile op x = refl

pub binary_in_profile : (op : BinaryOp) (x y : NumExpr) → num_in_profile (num.Binary op x y) ≡ (num_in_profile x && num_in_profile y)
unfolding num_in_profile hidden-the_row-NumExpr-0 hidden
binary_in_profile op x y = refl

pub ruleset profiles = (bracket_in_profile, unary_in_profile, binary_in_profile)
