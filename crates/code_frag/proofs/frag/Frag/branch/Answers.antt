use Rattle.std.proofs.Common.{[], ◌∷◌, refl, sym, subst, nat_lt, true, lt-ltb, length}
use Rattle.std.proofs.lemmas.Bool.{and_from}
use Rattle.code_frag.specs.declared.item.Item.TheVariants.{Jump}
use Rattle.code_frag.specs.Words.{IsFrag, item_fits}
use Rattle.code_frag.proofs.FragLaws.{frag-items}
use Rattle.code_frag.proofs.frag.Frag.branch.Goals as goal

pub invariant_of-self-2 : goal.invariant_of-self-2
invariant_of-self-2 c =
    let labels = length c.self.inside.places.items in
    let label = rw (← c.self.view_is) at c.requires.label in
    let branch = Jump c.args.cond c.args.link c.args.to in
    subst (λ xs. IsFrag (record { items = xs; places = c.self.inside.places.items })) (sym c.in_ok-push.ensures.items)
    (frag-items (record { items = c.self.inside.items.items; places = c.self.inside.places.items }) (branch ∷ []) c.self.invariant
    (and_from (item_fits labels branch) true
    (and_from (nat_lt c.args.cond 16) (nat_lt c.args.to.number labels) (lt-ltb c.args.cond 16 c.requires.condition) (lt-ltb c.args.to.number labels label)) refl))
