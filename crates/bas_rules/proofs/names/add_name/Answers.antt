use Rattle.std.proofs.Common.{ℕ, min, ap, ◌∙◌}
use Rattle.bv_base.specs.Limits as limit
use Rattle.bas_rules.specs.Names.{names_of}
use Rattle.bas_rules.proofs.NameKeys.{one_more, same_place}
use Rattle.bas_rules.proofs.names.add_name.Goals as goal

pub returns-clause-names : goal.returns-clause-names
returns-clause-names c = ap names_of c.in_ok-place.ensures.keys ∙ one_more c.args.name c.args.names.now.keys

pub returns-clause-number : goal.returns-clause-number
returns-clause-number c =
    c.min.ensures ∙ ap (λ (n : ℕ). min n limit.names) (c.in_ok-place.ensures.index ∙ same_place c.args.name c.args.names.now.keys)
