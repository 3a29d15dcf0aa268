use Rattle.std.proofs.Common.{Some, inl, inr, sym, ap, ◌∙◌, subst}
use Rattle.basv_words.specs.Command.{Listing, Compile, Run, Interpret, Crunch}
use Rattle.basv_top.specs.CompileCommand.{Compiles}
use Rattle.basv_top.specs.CrunchCommand.{Crunches}
use Rattle.basv_top.specs.Ending.{told, status_of}
use Rattle.basv_top.specs.InterpCommand.{Interprets, NoProgram, RunsAsMeant}
use Rattle.basv_top.specs.ListCommand.{Lists}
use Rattle.basv_top.specs.RunCommand.{Runs, RunsOnBoard, Unrunnable}
use Rattle.basv_top.specs.Seen.{seen_shelf, seen_sink}
use Rattle.basv_top.specs.Top.{EndsCommand, OnlyNamed, SameUnlessWritten}
use Rattle.basv_top.proofs.CompileFacts.{compiles}
use Rattle.basv_top.proofs.CrunchFacts.{crunches}
use Rattle.basv_top.proofs.InterpFacts.{interprets}
use Rattle.basv_top.proofs.ListFacts.{lists}
use Rattle.basv_top.proofs.RunFacts.{runs}
use Rattle.basv_top.proofs.Unread.{compile_unread, crunch_unread, list_unread, read_or, run_unread}
use Rattle.basv_top.proofs.top.basv.Goals as goal

pub returns-clause-compile : goal.returns-clause-compile
returns-clause-compile g c = λ file image is.
    let before = seen_shelf g.S.Shelf c.args.shelf.now in
    let after = seen_shelf g.S.Shelf c.carry_out-ending.new.shelf in
    let out_before = seen_sink g.O.Sink c.args.out.now in
    let out_after = seen_sink g.O.Sink c.carry_out-ending.new.out in
    let ending = told c.carry_out-ending.result in
    let why = subst (λ command. EndsCommand before after out_before out_after command ending) is c.carry_out-ending.ensures.ends in
    let same = subst (λ command. SameUnlessWritten before after command (status_of ending)) is c.carry_out-ending.ensures.same in
    let changes = subst (OnlyNamed before after) is c.carry_out-ending.ensures.changes in
    subst (Compiles before after out_before out_after file image) (sym c.status.ensures)
    (read_or before after out_before out_after (Compiles before after out_before out_after file image) (Some (Compile file image)) ending why (λ kept silent. compile_unread before after out_before out_after kept silent file image)
    (λ why. compiles before after file image out_before out_after ending why.0 why.1 changes same))

pub returns-clause-list : goal.returns-clause-list
returns-clause-list g c = λ file is.
    let before = seen_shelf g.S.Shelf c.args.shelf.now in
    let after = seen_shelf g.S.Shelf c.carry_out-ending.new.shelf in
    let out_before = seen_sink g.O.Sink c.args.out.now in
    let out_after = seen_sink g.O.Sink c.carry_out-ending.new.out in
    let ending = told c.carry_out-ending.result in
    let why = subst (λ command. EndsCommand before after out_before out_after command ending) is c.carry_out-ending.ensures.ends in
    let same = subst (OnlyNamed before after) is c.carry_out-ending.ensures.changes in
    subst (Lists before after out_before out_after file) (sym c.status.ensures) (read_or before after out_before out_after (Lists before after out_before out_after file) (Some (Listing file)) ending why (λ kept silent. list_unread before after out_before out_after kept silent file)
    (λ why. lists before after out_before out_after file ending why same))

pub returns-clause-run : goal.returns-clause-run
returns-clause-run g c = λ image options is.
    let before = seen_shelf g.S.Shelf c.args.shelf.now in
    let after = seen_shelf g.S.Shelf c.carry_out-ending.new.shelf in
    let out_before = seen_sink g.O.Sink c.args.out.now in
    let out_after = seen_sink g.O.Sink c.carry_out-ending.new.out in
    let ending = told c.carry_out-ending.result in
    let why = subst (λ command. EndsCommand before after out_before out_after command ending) is c.carry_out-ending.ensures.ends in
    subst (Runs before after out_before out_after image options) (sym c.status.ensures) (read_or before after out_before out_after (Runs before after out_before out_after image options) (Some (Run image options)) ending why (λ kept silent. run_unread before after out_before out_after kept silent RunsOnBoard Unrunnable image options)
    (λ why. runs before after out_before out_after image options ending why))

pub returns-clause-interp : goal.returns-clause-interp
returns-clause-interp g c = λ file options is.
    let before = seen_shelf g.S.Shelf c.args.shelf.now in
    let after = seen_shelf g.S.Shelf c.carry_out-ending.new.shelf in
    let out_before = seen_sink g.O.Sink c.args.out.now in
    let out_after = seen_sink g.O.Sink c.carry_out-ending.new.out in
    let ending = told c.carry_out-ending.result in
    let why = subst (λ command. EndsCommand before after out_before out_after command ending) is c.carry_out-ending.ensures.ends in
    subst (Interprets before after out_before out_after file options) (sym c.status.ensures) (read_or before after out_before out_after (Interprets before after out_before out_after file options) (Some (Interpret file options)) ending why (λ kept silent. run_unread before after out_before out_after kept silent RunsAsMeant NoProgram file options)
    (λ why. interprets before after out_before out_after file options ending why))

pub returns-clause-crunch : goal.returns-clause-crunch
returns-clause-crunch g c = λ text file is.
    let before = seen_shelf g.S.Shelf c.args.shelf.now in
    let after = seen_shelf g.S.Shelf c.carry_out-ending.new.shelf in
    let out_before = seen_sink g.O.Sink c.args.out.now in
    let out_after = seen_sink g.O.Sink c.carry_out-ending.new.out in
    let ending = told c.carry_out-ending.result in
    let why = subst (λ command. EndsCommand before after out_before out_after command ending) is c.carry_out-ending.ensures.ends in
    let same = subst (λ command. SameUnlessWritten before after command (status_of ending)) is c.carry_out-ending.ensures.same in
    let changes = subst (OnlyNamed before after) is c.carry_out-ending.ensures.changes in
    subst (Crunches before after out_before out_after text file) (sym c.status.ensures)
    (read_or before after out_before out_after (Crunches before after out_before out_after text file) (Some (Crunch text file)) ending why (λ kept silent. crunch_unread before after out_before out_after kept silent text file)
    (λ why. crunches before after text file out_before out_after ending why.0 why.1 changes same))

pub returns-clause-usage : goal.returns-clause-usage
returns-clause-usage g c = λ is.
    let before = seen_shelf g.S.Shelf c.args.shelf.now in
    let after = seen_shelf g.S.Shelf c.carry_out-ending.new.shelf in
    let out_before = seen_sink g.O.Sink c.args.out.now in
    let out_after = seen_sink g.O.Sink c.carry_out-ending.new.out in
    let ending = told c.carry_out-ending.result in
    let why = subst (λ command. EndsCommand before after out_before out_after command ending) is c.carry_out-ending.ensures.ends in
    elim why [
      | inl unread ↦ (inr (c.status.ensures ∙ ap status_of unread.0), unread.1, unread.2)
      | inr read ↦ (inl (c.status.ensures ∙ ap status_of read.0), read.1, read.2)
    ]
