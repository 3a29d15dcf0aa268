use Rattle.std.proofs.Common.{inl, inr, refl, sym, subst}
use Rattle.arm2_machine.specs.Step.{board_run}
use Rattle.basv_words.specs.Meant.{chosen}
use Rattle.basv_top.specs.Ending.{ended_run}
use Rattle.basv_top.specs.RunCommand.{EndsRun}
use Rattle.basv_top.specs.Running.{RunsWith}
use Rattle.basv_top.specs.Seen.{seen_shelf, seen_sink}
use Rattle.basv_top.proofs.run_command.run.Goals as goal

pub returns-in-Ok : goal.returns-in-Ok
returns-in-Ok g c =
    let before = seen_shelf g.S.Shelf c.args.shelf.now in
    let taken = seen_shelf g.S.Shelf c.take_words.new.shelf in
    let after = seen_shelf g.S.Shelf c.run_with.new.shelf in
    let out_before = seen_sink g.O.Sink c.args.out.now in
    let out_after = seen_sink g.O.Sink c.run_with.new.out in
    let options = chosen c.args.options in
    let image = c.in-Ok.ensures.words in
    let ends = subst (λ w. RunsWith (board_run w) options taken after out_before out_after (ended_run c.run_with.result options.steps)) c.as_slice.ensures.value c.run_with.ensures in
    subst (EndsRun before after out_before out_after c.args.image.now options) (sym c.of_run.ensures)
    (inr (image.0, taken, image.1, c.take_words.ensures.calm, image.2, inl (board_run c.in-Ok.words.items, (c.in-Ok.words.items, image.3, image.4, refl), ends)))

pub returns-in-Err : goal.returns-in-Err
returns-in-Err g c =
    let taken = seen_shelf g.S.Shelf c.take_words.new.shelf in
    elim c.in-Err.ensures.none [
      | inl fails ↦ inl (fails, c.take_words.ensures.calm, refl)
      | inr bad ↦ inr (bad.0, taken, bad.1, c.take_words.ensures.calm, bad.2, inr (bad.3, refl, refl))
    ]
