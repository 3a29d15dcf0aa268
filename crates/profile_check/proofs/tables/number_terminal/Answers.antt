use Rattle.std.proofs.Common.{sym, ap, ◌∙◌}
use Rattle.bas_rules.specs.Names.{renumbered}
use Rattle.profile_check.specs.Tables.{Numbered, lists_of}
use Rattle.profile_check.proofs.NumberSteps.{named_terminal}
use Rattle.profile_check.proofs.tables.number_terminal.Goals as goal

pub returns-in_ok-number-in-Some : goal.returns-in_ok-number-in-Some
returns-in_ok-number-in-Some c =
    let e = named_terminal c.args.line c.args.in_data c.args.bytes.now c.args.terminal (lists_of c.args.tables.now) _ (sym c.in-Some.ensures) in
    record {
      terminal = c.renumbered.ensures ∙ ap (renumbered c.args.terminal) c.in_ok-number-in-Some.ensures.number ∙ sym (ap (λ (n : Numbered). n.terminal) e);
      lists = ap (λ names. record (lists_of c.args.tables.now) { names = names }) c.in_ok-number-in-Some.ensures.names ∙ sym (ap (λ (n : Numbered). n.lists) e);
    }
