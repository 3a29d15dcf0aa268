use Rattle.std.proofs.Common.{Some, sym, subst}
use Rattle.basv_words.specs.Meant.{meant}
use Rattle.basv_top.specs.Ending.{told}
use Rattle.basv_top.specs.Seen.{seen_shelf, seen_sink}
use Rattle.basv_top.specs.Top.{EndsRead}
use Rattle.basv_top.proofs.top.perform.Goals as goal

pub returns-in-Run-clause-ends : goal.returns-in-Run-clause-ends
returns-in-Run-clause-ends g c =
    let before = seen_shelf g.S.Shelf c.args.shelf.now in
    let after = seen_shelf g.S.Shelf c.run.new.shelf in
    let out_before = seen_sink g.O.Sink c.args.out.now in
    let out_after = seen_sink g.O.Sink c.run.new.out in
    subst (λ command. EndsRead before after out_before out_after (Some (meant command)) (told c.run.result)) (sym c.in-Run.is) c.run.ensures

pub returns-in-Interpret-clause-ends : goal.returns-in-Interpret-clause-ends
returns-in-Interpret-clause-ends g c =
    let before = seen_shelf g.S.Shelf c.args.shelf.now in
    let after = seen_shelf g.S.Shelf c.interpret.new.shelf in
    let out_before = seen_sink g.O.Sink c.args.out.now in
    let out_after = seen_sink g.O.Sink c.interpret.new.out in
    subst (λ command. EndsRead before after out_before out_after (Some (meant command)) (told c.interpret.result)) (sym c.in-Interpret.is) c.interpret.ensures
