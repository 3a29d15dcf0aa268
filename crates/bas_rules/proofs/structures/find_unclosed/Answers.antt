use Rattle.std.proofs.Common.{List, sym, ap, ◌∙◌, arith}
use Rattle.bas_ast.specs.declared.lines.Item.{Item}
use Rattle.bas_rules.specs.Ends.{ends_from, closed_from}
use Rattle.bas_rules.proofs.EndLaws.{line_more}
use Rattle.bas_rules.proofs.structures.find_unclosed.Goals as goal

pub lines-preserved-then-not-closed : goal.lines-preserved-then-not-closed
lines-preserved-then-not-closed c =
    let more = line_more c.args.lines.now c.lines.i c.index-lines-i.result c.lines.first c.lines.ends _ c.in_ok-closed.before (omega arith) c.lines-test.true c.index-lines-i.is
    c.lines.invariant.1 c.lines.invariant.2
    (sym c.if-not-closed.true ∙ c.in_ok-closed.ensures.0 ∙ ap (λ (items : List Item). closed_from c.lines.ends items) c.as_slice.ensures)
    (c.in_ok-closed.ensures.1 ∙ ap (λ (items : List Item). ends_from c.lines.ends items) c.as_slice.ensures) in
    (omega arith, more.0, more.1)

pub lines-preserved : goal.lines-preserved
lines-preserved c =
    let more = line_more c.args.lines.now c.lines.i c.index-lines-i.result c.lines.first c.lines.ends _ c.in_ok-closed.before (omega arith) c.lines-test.true c.index-lines-i.is
    c.lines.invariant.1 c.lines.invariant.2
    (sym c.if-not-closed.false ∙ c.in_ok-closed.ensures.0 ∙ ap (λ (items : List Item). closed_from c.lines.ends items) c.as_slice.ensures)
    (c.in_ok-closed.ensures.1 ∙ ap (λ (items : List Item). ends_from c.lines.ends items) c.as_slice.ensures) in
    (omega arith, more.0, more.1)
