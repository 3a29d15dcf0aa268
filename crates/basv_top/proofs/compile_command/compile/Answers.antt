use Rattle.std.proofs.Common.{◌≡◌, ◌∷◌, inr, sym, subst}
use Rattle.basv_top.specs.CompileCommand.{BytesEndCompile, EndsCompile}
use Rattle.bv_io.specs.Log.{Took}
use Rattle.basv_top.specs.Ending.{ended}
use Rattle.basv_top.specs.Seen.{seen_shelf}
use Rattle.basv_top.proofs.compile_command.compile.Goals as goal

pub returns-in-Ok-clause-ends : goal.returns-in-Ok-clause-ends
returns-in-Ok-clause-ends g c =
    let before = seen_shelf g.S.Shelf c.args.shelf.now in
    let after = seen_shelf g.S.Shelf c.put_image.new.shelf in
    let file = c.args.file.now in
    let bytes = c.in-Ok.bytes.items in
    let taken = c.in-Ok.ensures.taken in
    let ends =
    c.put_image.ensures.ends before file (subst (λ b. (seen_shelf g.S.Shelf c.take_within.new.shelf).log ≡ Took file b ∷ before.log) (sym c.as_slice.ensures.value) taken.0) (sym c.in-Ok.ensures.put_faults) in
    subst (EndsCompile before after file c.args.image.now) (sym c.of.ensures)
    (inr (bytes, taken.1, subst (λ b. BytesEndCompile before after file c.args.image.now b (ended c.put_image.result)) c.as_slice.ensures.value ends))
