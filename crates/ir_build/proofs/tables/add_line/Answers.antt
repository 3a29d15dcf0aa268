use Rattle.std.proofs.Common.{◌+◌, ◌-◌, ◌≤◌, ◌++◌, List, length, length-drop, drop, sym, ap, ◌∙◌, arith}
use Rattle.std.proofs.lemmas.List.{take_all}
use Rattle.bas_ast.specs.declared.lines.Item.{Item}
use Rattle.bas_sem.specs.Places.{Row, rows}
use Rattle.ir_build.specs.Tables.{rows_of, rows_among}
use Rattle.ir_build.proofs.EndTables.{place_within, rows_after}
use Rattle.ir_build.proofs.TableSteps.{rows_from, item_added}
use Rattle.ir_build.proofs.tables.add_line.Goals as goal

pub after_end-end-requires : goal.after_end-end-requires
after_end-end-requires c =
    place_within c.args.ends.now c.args.prog.now c.args.line.now.number c.args.first c.in_ok-place.place c.loop-i.i c.as_slice-items.result.now (rows_among c.args.later.now) c.requires.ends
    c.loop-i-test.true c.in_ok-place.ensures
    (c.requires.rows ∙ ap (λ (l : List Item). rows_of c.args.line.now.number l ++ rows_among c.args.later.now) (sym c.as_slice-items.ensures))

pub row_code-requires-clause-later : goal.row_code-requires-clause-later
row_code-requires-clause-later c =
    let items : List Item = c.as_slice-items.result.now in
    let here = rows_from c.args.prog.now c.args.line.now.number c.args.first c.in_ok-place.place items c.loop-i.i c.index-items-i.result (rows_among c.args.later.now) c.loop-i-test.true
    c.index-items-i.is c.in_ok-place.ensures
    (c.requires.rows ∙ ap (λ (l : List Item). rows_of c.args.line.now.number l ++ rows_among c.args.later.now) (sym c.as_slice-items.ensures)) in
    let all : length (drop (c.loop-i.i + 1) items) ≤ length items - (c.loop-i.i + 1) = omega (arith, length-drop (c.loop-i.i + 1) items) in
    rows_after (rows c.args.prog.now) c.in_ok-place.place (record { line = c.args.line.now.number; item = c.index-items-i.result }) _ here
    ∙ ap (λ (l : List Item). rows_of c.args.line.now.number l ++ rows_among c.args.later.now) (sym (take_all (length items - (c.loop-i.i + 1)) (drop (c.loop-i.i + 1) items) all))

pub row_code-requires-clause-end : goal.row_code-requires-clause-end
row_code-requires-clause-end c =
    let items : List Item = c.as_slice-items.result.now in
    let later : List Row = rows_of c.args.line.now.number (drop (c.loop-i.i + 1) items) ++ rows_among c.args.later.now in
    let here = rows_from c.args.prog.now c.args.line.now.number c.args.first c.in_ok-place.place items c.loop-i.i c.index-items-i.result (rows_among c.args.later.now) c.loop-i-test.true
    c.index-items-i.is c.in_ok-place.ensures
    (c.requires.rows ∙ ap (λ (l : List Item). rows_of c.args.line.now.number l ++ rows_among c.args.later.now) (sym c.as_slice-items.ensures)) in
    c.after_end-end.ensures c.args.prog.now (record { line = c.args.line.now.number; item = c.index-items-i.result }) later c.requires.ends here

pub loop-i-preserved : goal.loop-i-preserved
loop-i-preserved c =
    item_added c.args.prog.now c.args.line.now.number c.args.first c.in_ok-place.place c.as_slice-items.result.now c.loop-i.i c.index-items-i.result c.in_ok-code.code c.loop-i.tables
    c.add_item.new.tables _ c.loop-i-test.true c.index-items-i.is c.in_ok-place.ensures c.in_ok-code.ensures c.in_ok-add_item.ensures c.loop-i.invariant
