use Rattle.std.proofs.Common.{◌≡◌, subst, length, Some, slice_set, arith}
use Rattle.code_frag.specs.Words.{IsFrag}
use Rattle.code_frag.proofs.FragLaws.{frag-place}
use Rattle.code_frag.proofs.frag.Frag.place.Goals as goal

pub invariant_of-self : goal.invariant_of-self
invariant_of-self c =
    let n : length c.self.inside.items.items ≡ c.len.result = omega arith in
    subst (λ k. IsFrag (record { items = c.self.inside.items.items; places = slice_set c.self.inside.places.items c.args.l.number (Some k) })) n
    (frag-place (record { items = c.self.inside.items.items; places = c.self.inside.places.items }) c.args.l.number c.self.invariant)
