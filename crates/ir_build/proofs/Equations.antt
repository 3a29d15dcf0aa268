-- The equations of the code of expressions, and what operands add.
use Rattle.std.proofs.Common.{◌≡◌, ℕ, ◌≤◌, Bool, List, [], ◌∷◌, ◌++◌, length, drop, refl, ap, ◌∙◌, append_assoc}
use Rattle.std.proofs.lemmas.List.{at_drop_all, append-nil}
use denote.Hole.Carrier.{hidden}
use Rattle.std.proofs.lemmas.Result.{IfOk-equal}
use Rattle.bas_ast.specs.declared.expressions.Any.TheBlock.{hidden-the_row-NumExpr-0}
use Rattle.bas_ast.specs.declared.expressions.BinaryOp.{BinaryOp}
use Rattle.bas_ast.specs.declared.expressions.UnaryOp.{UnaryOp}
use Rattle.bas_ast.specs.declared.expressions.NumExpr.{NumExpr}
use Rattle.bas_ast.specs.declared.expressions.NumExpr.TheVariants as num
use Rattle.bas_ast.specs.declared.program.Prog.{Prog}
use Rattle.bas_ast.specs.declared.statements.PrintPart.{PrintPart}
use Rattle.bas_ast.specs.declared.statements.VduPart.{VduPart}
use Rattle.bas_ir.specs.declared.op.Op.{Op}
use Rattle.bas_ir.specs.declared.op.Op.TheVariants as o
use Rattle.ir_build.specs.Code.{expr_code, unary_code, print_code, finish_code, vdu_code}

pub bracket_code : (prog : Prog) (line : ℕ) (x : NumExpr) → expr_code prog line (num.Bracket x) ≡ expr_code prog line x
unfolding expr_code hidden-the_row-NumExpr-0 hidden
bracket_code prog line x = refl

pub unary_expr_code : (prog : Prog) (line : ℕ) (op : UnaryOp) (x : NumExpr) → expr_code prog line (num.Unary op x) ≡ expr_code prog line x ++ unary_code line op
unfolding expr_code hidden-the_row-NumExpr-0 hidden
unary_expr_code prog line op x = refl

pub binary_code : (prog : Prog) (line : ℕ) (op : BinaryOp) (x y : NumExpr)
    → expr_code prog line (num.Binary op x y) ≡ expr_code prog line x ++ (expr_code prog line y ++ o.Binary op line ∷ [])
unfolding expr_code hidden-the_row-NumExpr-0 hidden
binary_code prog line op x y = refl

-- what an operand's code adds, and what comes after it
pub unary_more : (prog : Prog) (line : ℕ) (op : UnaryOp) (x y e : NumExpr) (ops done : List Op)
    → done ≡ ops ++ expr_code prog line y → y ≡ x → e ≡ num.Unary op x → done ++ unary_code line op ≡ ops ++ expr_code prog line e
unary_more prog line op x y e ops done more same is =
    let whole = unary_expr_code prog line op x in
    let flat : (ops ++ expr_code prog line x) ++ unary_code line op ≡ ops ++ (expr_code prog line x ++ unary_code line op) = simp append_assoc in
    cc

pub binary_more : (prog : Prog) (line : ℕ) (op : BinaryOp) (x y a b e : NumExpr) (ops one two : List Op)
    → one ≡ ops ++ expr_code prog line a → a ≡ x → two ≡ one ++ expr_code prog line b → b ≡ y → e ≡ num.Binary op x y
    → two ++ o.Binary op line ∷ [] ≡ ops ++ expr_code prog line e
binary_more prog line op x y a b e ops one two first left second right is =
    let whole = binary_code prog line op x y in
    let flat : ((ops ++ expr_code prog line x) ++ expr_code prog line y) ++ o.Binary op line ∷ [] ≡ ops ++ (expr_code prog line x ++ (expr_code prog line y ++ o.Binary op line ∷ [])) = simp append_assoc in
    cc

-- the end of the parts of PRINT and VDU
pub print_end : (prog : Prog) (line : ℕ) (padded new_line : Bool) (parts : List PrintPart) (i : ℕ) (ops whole : List Op)
    → length parts ≤ i → whole ≡ ops ++ print_code prog line padded new_line (drop i parts) → whole ≡ ops ++ finish_code new_line
unfolding print_code
print_end prog line padded new_line parts i ops whole all is = is ∙ ap (λ l. ops ++ l) (at_drop_all (print_code prog line padded new_line) parts i all)

pub vdu_end : (prog : Prog) (line : ℕ) (parts : List VduPart) (i : ℕ) (ops whole : List Op)
    → length parts ≤ i → whole ≡ ops ++ vdu_code prog line (drop i parts) → whole ≡ ops
unfolding vdu_code
vdu_end prog line parts i ops whole all is = is ∙ ap (λ l. ops ++ l) (at_drop_all (vdu_code prog line) parts i all) ∙ append-nil ops

pub ruleset codes = (bracket_code, unary_expr_code, binary_code, IfOk-equal, append_assoc)
