use Rattle.std.proofs.Common.{ℕ, false, List, Option, length, refl, ap, sym, subst, ◌∙◌, arith}
use Rattle.std.proofs.lemmas.List.{length-map}
use Rattle.bas_ast.specs.Structures.{IsClosed}
use Rattle.bas_ast.specs.declared.program.ProgLine.{ProgLine}
use Rattle.profile_check.specs.Cutting.{IsCut, cuts_of}
use Rattle.bas_rules.specs.Names.{name_of_key}
use Rattle.bas_rules.specs.Structures.{items_of, first_unclosed}
use Rattle.profile_check.specs.Programs.{AreSpelled}
use Rattle.profile_check.specs.Tables.{lists_of}
use Rattle.profile_check.proofs.LineSteps.{outside_after}
use Rattle.profile_check.proofs.Verdicts.{few_cuts, found_lines, found_outside, refused_unclosed, refused_names, closed_where_none}
use Rattle.profile_check.proofs.ShortTexts.{texts_short}
use Rattle.profile_check.proofs.WellFormedPrograms.{data_short, program_well_formed}
use Rattle.profile_check.proofs.program.check.Goals as goal

pub parse_lines-requires-clause-few : goal.parse_lines-requires-clause-few
parse_lines-requires-clause-few c =
    omega (arith, few_cuts c.args.lines.now c.in_ok-cutting.cutting.lines c.in_ok-cutting.cutting.bad c.in_ok-cutting.ensures c.requires.small, ap length c.as_slice-3.ensures)

pub returns-in-Some-clause-err : goal.returns-in-Some-clause-err
returns-in-Some-clause-err c =
    found_outside c.args.lines.now c.in_ok-cutting.cutting.lines c.as_slice.result.now c.as_slice-3.result.now c.as_slice-2.result.now c.in_ok-cutting.cutting.bad c.in-Some.line c.in_ok-cutting.ensures
    c.as_slice.ensures c.as_slice-3.ensures (c.as_slice-2.ensures ∙ c.in_ok-labels.ensures)
    (outside_after _ _ _ _ _ _ c.in_ok-cutting.cutting.bad c.in-Some.line c.in_ok-progs.ensures.ok c.in-Some.is)

pub returns-in-Some-2-clause-err : goal.returns-in-Some-2-clause-err
returns-in-Some-2-clause-err c =
    let spelled = found_lines c.args.lines.now c.in_ok-cutting.cutting.lines c.as_slice.result.now c.as_slice-3.result.now c.as_slice-2.result.now c.in_ok-progs.progs (lists_of c.parse_lines.new.tables)
    (subst (λ (bad : Option ℕ). IsCut false c.args.lines.now (cuts_of c.in_ok-cutting.cutting.lines) bad) c.in-None.is c.in_ok-cutting.ensures) c.as_slice.ensures c.as_slice-3.ensures (c.as_slice-2.ensures ∙ c.in_ok-labels.ensures) c.in_ok-progs.ensures.ok in
    refused_unclosed c.args.lines.now c.in_ok-progs.progs (lists_of c.parse_lines.new.tables) c.in-Some-2.line spelled
    (sym (ap (λ (p : List ProgLine). first_unclosed p) c.as_slice-4.ensures) ∙ sym c.in_ok-line.ensures ∙ c.in-Some-2.is)

pub returns-then-len-clause-err : goal.returns-then-len-clause-err
returns-then-len-clause-err c =
    let spelled = found_lines c.args.lines.now c.in_ok-cutting.cutting.lines c.as_slice.result.now c.as_slice-3.result.now c.as_slice-2.result.now c.in_ok-progs.progs (lists_of c.parse_lines.new.tables)
    (subst (λ (bad : Option ℕ). IsCut false c.args.lines.now (cuts_of c.in_ok-cutting.cutting.lines) bad) c.in-None.is c.in_ok-cutting.ensures) c.as_slice.ensures c.as_slice-3.ensures (c.as_slice-2.ensures ∙ c.in_ok-labels.ensures) c.in_ok-progs.ensures.ok in
    refused_names c.args.lines.now c.in_ok-progs.progs (lists_of c.parse_lines.new.tables) spelled
    (sym (ap (λ (p : List ProgLine). first_unclosed p) c.as_slice-4.ensures) ∙ sym c.in_ok-line.ensures ∙ c.in-None-2.is)
    (omega (arith, c.if-len.true, c.len.ensures.len, length-map c.parse_lines.new.tables.names.keys name_of_key))

pub returns-clause-ok : goal.returns-clause-ok
returns-clause-ok c =
    let spelled = found_lines c.args.lines.now c.in_ok-cutting.cutting.lines c.as_slice.result.now c.as_slice-3.result.now c.as_slice-2.result.now c.in_ok-progs.progs (lists_of c.parse_lines.new.tables)
    (subst (λ (bad : Option ℕ). IsCut false c.args.lines.now (cuts_of c.in_ok-cutting.cutting.lines) bad) c.in-None.is c.in_ok-cutting.ensures) c.as_slice.ensures c.as_slice-3.ensures (c.as_slice-2.ensures ∙ c.in_ok-labels.ensures) c.in_ok-progs.ensures.ok in
    record {
      lists = lists_of c.parse_lines.new.tables;
      spelled = subst (λ (p : List ProgLine). AreSpelled c.args.lines.now p (lists_of c.parse_lines.new.tables)) (sym c.progs.view_is) spelled;
      closed = subst (λ (p : List ProgLine). IsClosed (items_of p)) (sym c.progs.view_is) (closed_where_none c.in_ok-progs.progs (sym (ap (λ (p : List ProgLine). first_unclosed p) c.as_slice-4.ensures) ∙ sym c.in_ok-line.ensures ∙ c.in-None-2.is));
      names = c.in_ok-listed.ensures;
      few_names = omega (arith, c.if-len.false, c.len.ensures.len, ap length c.in_ok-listed.ensures, length-map c.parse_lines.new.tables.names.keys name_of_key);
      texts = refl;
      data_items = refl;
      size = c.file_size.ensures;
    }

pub returns-clause-texts : goal.returns-clause-texts
returns-clause-texts c = texts_short 251 c.args.lines.now _ (returns-clause-ok c) c.requires.short

pub returns-clause-data : goal.returns-clause-data
returns-clause-data c = data_short 251 c.args.lines.now _ (returns-clause-ok c) c.requires.short

pub returns-clause-well_formed : goal.returns-clause-well_formed
returns-clause-well_formed c = program_well_formed c.args.lines.now _ (returns-clause-ok c) c.requires.short
