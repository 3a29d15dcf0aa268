use Rattle.std.proofs.Common.{inl, inr, refl, sym, subst}
use Rattle.bas_sem.specs.Meaning.{source_run}
use Rattle.basv_words.specs.Meant.{chosen}
use Rattle.basv_top.specs.InterpCommand.{EndsInterp}
use Rattle.basv_top.specs.Seen.{seen_shelf, seen_sink}
use Rattle.basv_top.proofs.interp_command.interpret.Goals as goal

pub returns-in-Ok : goal.returns-in-Ok
returns-in-Ok g c =
    let before = seen_shelf g.S.Shelf c.args.shelf.now in
    let taken = seen_shelf g.S.Shelf c.take_program.new.shelf in
    let after = seen_shelf g.S.Shelf c.run_with.new.shelf in
    let out_before = seen_sink g.O.Sink c.args.out.now in
    let out_after = seen_sink g.O.Sink c.run_with.new.out in
    let options = chosen c.args.options in
    let program = c.in-Ok.ensures.program in
    subst (EndsInterp before after out_before out_after c.args.file.now options) (sym c.of_run.ensures)
    (inr (program.0, taken, program.1, c.take_program.ensures.calm, program.2, inl (source_run c.in-Ok.prog, (c.in-Ok.prog, program.3, refl), c.run_with.ensures)))

pub returns-in-Err : goal.returns-in-Err
returns-in-Err g c =
    let taken = seen_shelf g.S.Shelf c.take_program.new.shelf in
    elim c.in-Err.ensures.none [
      | inl fails ↦ inl (fails, c.take_program.ensures.calm, refl)
      | inr bad ↦ inr (bad.0, taken, bad.1, c.take_program.ensures.calm, bad.2, inr (bad.3, refl, refl))
    ]
