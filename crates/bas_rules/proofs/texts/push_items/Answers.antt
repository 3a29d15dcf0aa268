use Rattle.std.proofs.Common.{ap, ◌∙◌, ◌++◌, map, false, sym, eq-eqb, arith}
use Rattle.std.proofs.lemmas.Bool.{ne_eqb}
use Rattle.bas_rules.specs.Texts.{data_item}
use Rattle.bas_rules.proofs.TextSteps.{pieces_some, at_comma, at_mark, at_other}
use Rattle.bas_rules.proofs.texts.push_items.Goals as goal
use Rattle.bas_rules.proofs.texts.push_items.Goals.{then-ends_piece+in_ok-push_item, else-ends_piece+then-tail-i-eq34, else-ends_piece+else-tail-i-eq34}

pub loop-i-init : goal.loop-i-init
loop-i-init c = (omega arith, ap (λ ps. c.args.items.now ++ map (data_item c.args.line) ps) (pieces_some false c.args.tail.now))

pub loop-i-preserved : goal.loop-i-preserved
loop-i-preserved c =
    let so = c.loop-i.invariant in
    let items = c.loop-i.items in
    elim c.if-ends_piece.branch [
      | then-ends_piece+in_ok-push_item w ↦ (
        omega arith,
        rw (w.items-is, w.start-is, w.inside-is, w.in_ok-push_item.ensures)
            (so.1 ∙ at_comma c.args.line items c.loop-i.start c.loop-i.i c.loop-i.inside c.args.tail.now (omega arith) (sym w.if-ends_piece.ensures)),
      )
      | else-ends_piece+then-tail-i-eq34 w ↦ (
        omega arith,
        rw (w.items-is, w.start-is, w.inside-is)
            (so.1 ∙ at_mark c.args.line items c.loop-i.start c.loop-i.i c.loop-i.inside c.args.tail.now so.0 (omega arith) (sym w.if-ends_piece.ensures) (eq-eqb _ _ w.if-tail-i-eq34.true)),
      )
      | else-ends_piece+else-tail-i-eq34 w ↦ (
        omega arith,
        rw (w.items-is, w.start-is, w.inside-is)
            (so.1 ∙ at_other c.args.line items c.loop-i.start c.loop-i.i c.loop-i.inside c.args.tail.now so.0 (omega arith) (sym w.if-ends_piece.ensures) (ne_eqb _ _ w.if-tail-i-eq34.false)),
      )
    ]
