use Rattle.std.proofs.Common.{◌≤◌, ◌+◌, List, ℕ, length, drop, sym, subst, arith}
use Rattle.std.specs.List.{AllByRecursion}
use Rattle.bas_ast.specs.declared.program.ProgLine.{ProgLine}
use Rattle.bas_ir.specs.declared.ir.LineStart.{LineStart}
use Rattle.ir_build.proofs.TableSteps.{AreLeft, all_left, line_left, first_rests, line_added}
use Rattle.ir_build.proofs.program.build.Goals as goal

pub loop-i-init : goal.loop-i-init
loop-i-init c = all_left c.args.prog.now c.as_slice-lines.result.now c.new-tables.result c.new-line_starts.result c.as_slice-lines.ensures c.new-tables.ensures c.new-line_starts.ensures

pub add_line-requires-clause-rests : goal.add_line-requires-clause-rests
add_line-requires-clause-rests c =
    let lines : List ProgLine = c.as_slice-lines.result.now in
    first_rests c.args.prog.now c.index-lines-i.result (drop (c.loop-i.i + 1) lines) c.loop-i.place c.loop-i.tables c.loop-i.line_starts
    (line_left c.args.prog.now lines c.loop-i.i c.index-lines-i.result c.loop-i.place c.loop-i.tables c.loop-i.line_starts c.loop-i-test.true c.index-lines-i.is c.loop-i.invariant)

pub loop-i-preserved : goal.loop-i-preserved
loop-i-preserved c =
    let line : ProgLine = c.index-lines-i.result in
    let rest : List ProgLine = drop (c.loop-i.i + 1) c.as_slice-lines.result.now in
    let left = line_left c.args.prog.now c.as_slice-lines.result.now c.loop-i.i line c.loop-i.place c.loop-i.tables c.loop-i.line_starts c.loop-i-test.true c.index-lines-i.is c.loop-i.invariant in
    subst (λ (l : List LineStart). AreLeft c.args.prog.now rest c.in_ok-place.place c.add_line.new.tables l) (sym c.in_ok-push.ensures.ok)
    (line_added c.args.prog.now line rest c.loop-i.place c.in_ok-plus.field-0 c.in_ok-place.place c.loop-i.tables c.add_line.new.tables c.loop-i.line_starts left
    (omega (arith, c.in_ok-plus.ensures, c.len.ensures)) c.in_ok-add_line.ensures (omega (arith, c.in_ok-place.ensures, c.len-in-loop-i.ensures)))

pub strings-requires : goal.strings-requires
strings-requires c = subst (AllByRecursion (λ (text : List ℕ). length text ≤ 255)) (sym c.as_slice.ensures) c.requires.texts
