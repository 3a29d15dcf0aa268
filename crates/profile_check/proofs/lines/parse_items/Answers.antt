use Rattle.std.proofs.Common.{List, false, length, sym, ap, subst, ◌∙◌}
use Rattle.std.specs.List.{list_all}
use Rattle.bas_lex.specs.declared.symbol.Sym.{Sym}
use Rattle.bas_ast.specs.declared.lines.Item.{Item}
use Rattle.bas_ast.specs.declared.terminals.Terminal.{Terminal}
use Rattle.bas_ast.specs.Lines.{IsRun}
use Rattle.expr_parse.specs.Terminals.{terminals_of}
use Rattle.bas_parse.specs.Parsed.{OneRun}
use Rattle.profile_check.specs.Cutting.{cut_of}
use Rattle.bas_rules.specs.Profile.{in_profile}
use Rattle.profile_check.specs.Tables.{lists_of, number_line}
use Rattle.profile_check.proofs.LineSteps.{terminals_each, no_meaning}
use Rattle.profile_check.proofs.lines.parse_items.Goals as goal

pub number_line-requires-clause-each : goal.number_line-requires-clause-each
number_line-requires-clause-each c =
    ap length (c.as_slice.ensures ∙ c.in_ok-list.ensures) ∙ terminals_each c.args.labels.now c.args.line.now.text.now 0 c.as_slice-symbols.result.now

pub returns-in-Ok-clause-items : goal.returns-in-Ok-clause-items
returns-in-Ok-clause-items c =
    let list = c.in_ok-numbered.numbered in
    let terminals = terminals_of c.args.labels.now c.args.line.now.text.now in
    let numbered = number_line c.args.place c.args.line.now.text.now false in
    no_meaning c.args.labels.now c.args.place (lists_of c.args.tables.now) (cut_of c.args.line.now) list c.in-Ok.items
    (subst (λ (l : List Terminal). OneRun l) c.as_slice-in-Ok.ensures c.one_run.ensures)
    (subst (λ (l : List Terminal). IsRun l c.in-Ok.items) c.as_slice-2.ensures c.in-Ok.ensures)
    (c.in_ok-numbered.ensures.terminals
    ∙ ap (λ (s : List Sym). (numbered s c.as_slice.result.now (lists_of c.args.tables.now)).terminals) c.as_slice-symbols.ensures
    ∙ ap (λ (l : List Terminal). (numbered c.args.line.now.symbols l (lists_of c.args.tables.now)).terminals) (c.as_slice.ensures ∙ c.in_ok-list.ensures ∙ ap terminals c.as_slice-symbols.ensures))
    (sym (c.if-in_profile.ensures ∙ ap (λ (items : List Item). list_all in_profile items) c.as_slice-in-Ok-2.ensures))
