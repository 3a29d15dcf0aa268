use Rattle.std.proofs.Common.{◌≡◌, ◌≤◌, Some, OnOk, ap, sym, subst, ◌∙◌}
use Rattle.std.specs.FinMap as map
use Rattle.bv_io.proofs.MemShelfLemmas.{put_stores, put_keeps_others}
use Rattle.bv_io.proofs.mem_shelf.MemShelfShelf.put.Goals as goal

pub returns-clause-stored : goal.returns-clause-stored
returns-clause-stored c =
    subst (λ s. OnOk c.store-answer.result (map.get s.held c.args.name.now ≡ Some c.args.bytes.now)) (sym (c.self.view_is ∙ c.store-answer.ensures.state))
    (put_stores c.args.self.now c.args.name.now c.args.bytes.now c.store-answer.result)

pub returns-clause-others : goal.returns-clause-others
returns-clause-others c = λ n apart.
    ap (λ s. Some (map.get s.held n)) (c.self.view_is ∙ c.store-answer.ensures.state)
    ∙ put_keeps_others c.args.self.now c.args.name.now c.args.bytes.now c.store-answer.result n apart

pub returns-clause-faults : goal.returns-clause-faults
returns-clause-faults c = subst (λ s. c.args.self.now.put_faults ≤ s.put_faults) (sym c.self.view_is) c.store-answer.ensures.faults
