use Rattle.std.proofs.Common.{◌≡◌, ◌+◌, ◌-◌, ℕ, List, ◌++◌, refl, sym, ap, subst, ◌∙◌, length, arith}
use Rattle.bas_ast.specs.declared.lines.Item.{Item}
use Rattle.bas_ast.specs.declared.program.ProgLine.{ProgLine}
use Rattle.bas_sem.specs.Places.{Row}
use Rattle.ir_build.specs.Ends.{AreEnds}
use Rattle.ir_build.specs.Tables.{rows_of}
use Rattle.ir_build.proofs.EndTables.{late_within, line_late, all_late}
use Rattle.ir_build.proofs.ends.Ends.of_program.Goals as goal

pub overflow_sub-place : goal.overflow_sub-place
overflow_sub-place c =
    let items : c.as_slice-items.result.now ≡ c.index-lines-lines.result.items = c.as_slice-items.ensures ∙ sym (ap (λ (l : ProgLine). l.items) c.index-lines-lines.is) in
    let room = late_within c.as_slice-lines.result.now c.loop-i.ends c.loop-i.place (length c.as_slice-lines.result.now - 1 - c.loop-i.i) c.loop-i.i c.index-lines-lines.result
    c.loop-i-test.true refl c.index-lines-lines.is c.loop-i.invariant in
    omega (arith, room, ap length items)

pub overflow_cast-place : goal.overflow_cast-place
overflow_cast-place c =
    let items : c.as_slice-items.result.now ≡ c.index-lines-lines.result.items = c.as_slice-items.ensures ∙ sym (ap (λ (l : ProgLine). l.items) c.index-lines-lines.is) in
    let room = late_within c.as_slice-lines.result.now c.loop-i.ends c.loop-i.place (length c.as_slice-lines.result.now - 1 - c.loop-i.i) c.loop-i.i c.index-lines-lines.result
    c.loop-i-test.true refl c.index-lines-lines.is c.loop-i.invariant in
    omega (arith, room, ap length items, c.loop-i.auto.place-fits)

pub loop-i-preserved : goal.loop-i-preserved
loop-i-preserved c =
    let items : c.as_slice-items.result.now ≡ c.index-lines-lines.result.items = c.as_slice-items.ensures ∙ sym (ap (λ (l : ProgLine). l.items) c.index-lines-lines.is) in
    let room = late_within c.as_slice-lines.result.now c.loop-i.ends c.loop-i.place (length c.as_slice-lines.result.now - 1 - c.loop-i.i) c.loop-i.i c.index-lines-lines.result
    c.loop-i-test.true refl c.index-lines-lines.is c.loop-i.invariant in
    let first : ℕ = c.loop-i.place - length c.as_slice-items.result.now in
    line_late c.as_slice-lines.result.now c.loop-i.ends c.add_line.new.self c.loop-i.place first (length c.as_slice-lines.result.now - 1 - c.loop-i.i) c.loop-i.i c.index-lines-lines.result
    c.loop-i-test.true refl c.index-lines-lines.is (omega (arith, room, ap length items)) c.loop-i.invariant
    (subst (λ (l : List Item). (number : ℕ) (rest : List Row) → AreEnds c.loop-i.ends rest (first + length l) → AreEnds c.add_line.new.self (rows_of number l ++ rest) first)
    items c.in_ok-add_line.ensures.ends) c.in_ok-add_line.ensures.total

pub returns : goal.returns
returns c = all_late c.args.prog.now c.as_slice-lines.result.now c.loop-i.ends c.loop-i.i c.loop-i.place c.as_slice-lines.ensures c.loop-i-test.false c.loop-i.invariant
