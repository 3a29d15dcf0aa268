use Rattle.std.proofs.Common.{ap, sym, ◌∙◌, Some}
use Rattle.std.specs.Option.{option_copied, option_map}
use Rattle.std.specs.FinMap as map
use Rattle.bv_io.proofs.FilesLemmas.{get-files_of}
use Rattle.bv_io.proofs.files.Files.get.Goals as goal

pub returns-in-Some : goal.returns-in-Some
returns-in-Some c =
    ap (λ l. Some l) c.as_slice.ensures.value
    ∙ ap (λ r. option_map (λ v. v.items) (option_copied r)) (sym c.in-Some.is)
    ∙ ap (option_map (λ v. v.items)) c.get.ensures.value
    ∙ sym (get-files_of c.args.name.now c.self.inside.contents)
    ∙ ap (λ f. map.get f c.args.name.now) c.self.view_is

pub returns-in-None : goal.returns-in-None
returns-in-None c =
    ap (λ r. option_map (λ v. v.items) (option_copied r)) (sym c.in-None.is)
    ∙ ap (option_map (λ v. v.items)) c.get.ensures.value
    ∙ sym (get-files_of c.args.name.now c.self.inside.contents)
    ∙ ap (λ f. map.get f c.args.name.now) c.self.view_is
