use Rattle.std.proofs.Common.{[], unwrap_or, ap, ◌∙◌}
use Rattle.std.specs.FinMap.{get}
use Rattle.bv_io.proofs.FilesLemmas.{get-insert_same, get-insert_other}
use Rattle.bv_io.proofs.sure_shelf.SureShelf.store.Goals as goal

pub returns-in-Ok-clause-stored : goal.returns-in-Ok-clause-stored
returns-in-Ok-clause-stored c =
    ap (λ s. unwrap_or (get s.0 c.args.name.now) []) c.in-Ok.ensures.ok
    ∙ ap (λ o. unwrap_or o []) (get-insert_same c.args.self.now.0 c.args.name.now c.args.bytes.now)

pub returns-in-Ok-clause-others : goal.returns-in-Ok-clause-others
returns-in-Ok-clause-others c = λ n apart.
    ap (λ s. unwrap_or (get s.0 n) []) c.in-Ok.ensures.ok
    ∙ ap (λ o. unwrap_or o []) (get-insert_other c.args.self.now.0 c.args.name.now c.args.bytes.now n apart)
