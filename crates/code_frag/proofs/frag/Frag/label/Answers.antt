use Rattle.std.proofs.Common.{sym, subst}
use Rattle.code_frag.specs.Words.{IsFrag}
use Rattle.code_frag.proofs.FragLaws.{frag-label}
use Rattle.code_frag.proofs.frag.Frag.label.Goals as goal

pub invariant_of-self-2 : goal.invariant_of-self-2
invariant_of-self-2 c =
    subst (λ xs. IsFrag (record { items = c.self.inside.items.items; places = xs })) (sym c.in_ok-push.ensures.items)
    (frag-label (record { items = c.self.inside.items.items; places = c.self.inside.places.items }) c.self.invariant)
