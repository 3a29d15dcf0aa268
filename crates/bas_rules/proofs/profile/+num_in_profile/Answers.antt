use Rattle.std.proofs.Common.{◌≡◌, ◌&&◌, Bool, true, sym, ap, ◌∙◌}
use Rattle.bas_ast.specs.declared.expressions.NumExpr.{NumExpr}
use Rattle.bas_rules.specs.Profile as spec
use Rattle.bas_rules.proofs.Profiles.{unary_in_profile, binary_in_profile}
use Rattle.bas_rules.proofs.profile.+num_in_profile.Goals as goal

pub returns-in-Unary : goal.returns-in-Unary
returns-in-Unary t c =
    c.num_in_profile-in-Unary.ensures ∙ ap spec.num_in_profile c.get-in-Unary.ensures
    ∙ sym (ap spec.num_in_profile c.in-Unary.is ∙ unary_in_profile c.in-Unary.field-0 c.in-Unary.x)

-- both sides by their results
both : (x y : NumExpr) (a b : Bool) → a ≡ spec.num_in_profile x → b ≡ spec.num_in_profile y → (a && b) ≡ (spec.num_in_profile x && spec.num_in_profile y)
both x y a b e f = ap (λ (z : Bool). z && b) e ∙ ap (λ (z : Bool). spec.num_in_profile x && z) f

pub returns-then-num_in_profile : goal.returns-then-num_in_profile
returns-then-num_in_profile t c =
    both c.in-Binary.x c.in-Binary.y true c.num_in_profile-then-num_in_profile.result (c.if-num_in_profile.ensures ∙ ap spec.num_in_profile c.get-in-Binary.ensures)
    (c.num_in_profile-then-num_in_profile.ensures ∙ ap spec.num_in_profile c.get-then-num_in_profile.ensures)
    ∙ sym (ap spec.num_in_profile c.in-Binary.is ∙ binary_in_profile c.in-Binary.field-0 c.in-Binary.x c.in-Binary.y)

pub returns-else-num_in_profile : goal.returns-else-num_in_profile
returns-else-num_in_profile t c =
    c.if-num_in_profile.false
    ∙ ap (λ (z : Bool). z && spec.num_in_profile c.in-Binary.y) (c.if-num_in_profile.ensures ∙ ap spec.num_in_profile c.get-in-Binary.ensures)
    ∙ sym (ap spec.num_in_profile c.in-Binary.is ∙ binary_in_profile c.in-Binary.field-0 c.in-Binary.x c.in-Binary.y)
