use Rattle.std.proofs.Common.{sym, subst}
use Rattle.code_frag.specs.Words.{IsFrag}
use Rattle.code_frag.proofs.FragLaws.{frag-items}
use Rattle.code_frag.proofs.frag.Frag.emit_all.Goals as goal

pub invariant_of-self-2 : goal.invariant_of-self-2
invariant_of-self-2 c =
    let fits = rw (← c.self.view_is) at c.requires in
    subst (λ xs. IsFrag (record { items = xs; places = c.self.inside.places.items })) (sym c.in_ok-extend_from_slice.ensures.items)
    (frag-items (record { items = c.self.inside.items.items; places = c.self.inside.places.items }) c.args.table.now c.self.invariant fits)
