use Rattle.std.proofs.Common.{◌≡◌, ◌∷◌, inr, sym, subst}
use Rattle.bv_io.specs.Log.{Took}
use Rattle.basv_top.specs.CrunchCommand.{BytesEndCrunch, EndsCrunch}
use Rattle.basv_top.specs.Ending.{ended}
use Rattle.basv_top.specs.Seen.{seen_shelf}
use Rattle.basv_top.proofs.crunch_command.crunch.Goals as goal

pub returns-in-Ok-clause-ends : goal.returns-in-Ok-clause-ends
returns-in-Ok-clause-ends g c =
    let before = seen_shelf g.S.Shelf c.args.shelf.now in
    let after = seen_shelf g.S.Shelf c.put_file.new.shelf in
    let text = c.args.text.now in
    let bytes = c.in-Ok.bytes.items in
    let taken = c.in-Ok.ensures.taken in
    let ends =
    c.put_file.ensures.ends before text (subst (λ b. (seen_shelf g.S.Shelf c.take_within.new.shelf).log ≡ Took text b ∷ before.log) (sym c.as_slice.ensures.value) taken.0) (sym c.in-Ok.ensures.put_faults) in
    subst (EndsCrunch before after text c.args.file.now) (sym c.of.ensures)
    (inr (bytes, taken.1, c.in-Ok.ensures.fits, subst (λ b. BytesEndCrunch before after text c.args.file.now b (ended c.put_file.result)) c.as_slice.ensures.value ends))
