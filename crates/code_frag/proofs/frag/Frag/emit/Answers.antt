use Rattle.std.proofs.Common.{sym, subst}
use Rattle.code_frag.specs.Words.{IsFrag}
use Rattle.code_frag.proofs.FragLaws.{frag-instruction}
use Rattle.code_frag.proofs.frag.Frag.emit.Goals as goal

pub invariant_of-self-2 : goal.invariant_of-self-2
invariant_of-self-2 c =
    subst (λ xs. IsFrag (record { items = xs; places = c.self.inside.places.items })) (sym c.in_ok-push.ensures.items)
    (frag-instruction (record { items = c.self.inside.items.items; places = c.self.inside.places.items }) c.args.i.now c.self.invariant c.requires)
