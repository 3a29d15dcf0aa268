use Rattle.std.proofs.Common.{ap, string_bytes, ◌∙◌}
use Rattle.std.specs.FinMap as map
use Rattle.bv_io.proofs.FilesLemmas.{files_of-insert}
use Rattle.bv_io.proofs.files.Files.insert.Goals as goal

pub returns-clause-ok : goal.returns-clause-ok
returns-clause-ok c =
    files_of-insert c.self.inside.contents c.insert.new.self (string_bytes c.in_ok-name.name) c.in_ok-bytes.bytes c.in_ok-insert.ensures.updates
    ∙ ap (λ f. map.insert f (string_bytes c.in_ok-name.name) c.in_ok-bytes.bytes.items) c.self.view_is
    ∙ ap (λ k. map.insert c.args.self.now k c.in_ok-bytes.bytes.items) c.in_ok-name.ensures.ok
    ∙ ap (λ v. map.insert c.args.self.now c.args.name.now v) c.in_ok-bytes.ensures.items
