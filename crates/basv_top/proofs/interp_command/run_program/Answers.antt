use Rattle.std.proofs.Common.{inl, inr, refl, subst, sym, ap, ◌∙◌}
use Rattle.std.proofs.lemmas.Result.{err_from_is_err_and}
use Rattle.basv_words.specs.Meant.{chosen}
use Rattle.basv_top.specs.Ending.{Ran}
use Rattle.basv_top.specs.Running.{ArenaUnput, ArenaFaults, PutsArena}
use Rattle.basv_top.specs.Seen.{seen_shelf, seen_sink}
use Rattle.basv_top.proofs.InterpFacts.{run_faults, run_writes, run_ends}
use Rattle.basv_top.proofs.interp_command.run_program.Goals as goal

pub returns-in_err-end : goal.returns-in_err-end
returns-in_err-end g c =
    let p = err_from_is_err_and c.from_residual-in_err-end.result c.from_residual-in_err-end.ensures.1 in
    let s = c.in_err-end.ensures in
    let faults = run_faults c.in_ok-interp.interp c.args.prog.now c.args.input.items c.args.options.steps c.in_ok-interp.ensures
    (seen_sink g.O.Sink c.args.out.now) (seen_sink g.O.Sink c.run.new.out) s.fault s.fault_byte s.cause in
    rw (p.1, p.2) (inr (inr (inl (refl, faults, refl))))

pub returns-in_err-put_arena : goal.returns-in_err-put_arena
returns-in_err-put_arena g c =
    let s = c.in_ok-end.ensures in
    let steps = c.args.options.steps in
    let arena = (chosen c.args.options).arena in
    let before = seen_shelf g.S.Shelf c.args.shelf.now in
    let after = seen_shelf g.S.Shelf c.put_arena.new.shelf in
    let writes = run_writes c.in_ok-interp.interp c.args.prog.now c.args.input.items steps c.in_ok-interp.ensures
    (seen_sink g.O.Sink c.args.out.now) (seen_sink g.O.Sink c.run.new.out) s.written s.each_byte in
    let ends = run_ends c.in_ok-interp.interp c.args.prog.now c.args.input.items steps c.in_ok-interp.ensures c.in_ok-end.end _ s.ends in
    let left = c.arena.ensures ∙ sym ends.1 in
    let p = err_from_is_err_and c.from_residual-in_err-put_arena.result c.from_residual-in_err-put_arena.ensures.1 in
    rw (p.1, p.2)
    (elim c.in_err-put_arena.ensures.not_put [
      | inl unput ↦ inr (inl (unput.0, writes, subst (ArenaUnput before after arena) left unput.1))
      | inr faults ↦ inr (inr (inr (inl (faults.0, writes, subst (ArenaFaults before after arena) left faults.1))))
    ])

pub returns : goal.returns
returns g c =
    let s = c.in_ok-end.ensures in
    let steps = c.args.options.steps in
    let arena = (chosen c.args.options).arena in
    let before = seen_shelf g.S.Shelf c.args.shelf.now in
    let after = seen_shelf g.S.Shelf c.put_arena.new.shelf in
    let writes = run_writes c.in_ok-interp.interp c.args.prog.now c.args.input.items steps c.in_ok-interp.ensures
    (seen_sink g.O.Sink c.args.out.now) (seen_sink g.O.Sink c.run.new.out) s.written s.each_byte in
    let ends = run_ends c.in_ok-interp.interp c.args.prog.now c.args.input.items steps c.in_ok-interp.ensures c.in_ok-end.end _ s.ends in
    inr (inr (inr (inr (ap (λ e. Ran e steps) (sym ends.0), writes, subst (PutsArena before after arena) (c.arena.ensures ∙ sym ends.1) c.in_ok-put_arena.ensures.put))))
