use Rattle.std.proofs.Common.{◌≡◌, ℕ, ◌^◌, ◌<◌, ◌≤◌, List, length, sym, ap, subst, ◌∙◌, arith}
use Rattle.token_file.specs.declared.line.Line.{Line}
use Rattle.bas_lex.specs.Cut.{Bad, AreInOrder}
use Rattle.profile_check.proofs.Cuts.{all_cut, cut_stops, within_order, line_has}
use Rattle.profile_check.proofs.cutting.cut_lines.Goals as goal

pub returns : goal.returns
returns c = all_cut _ _ _ _ c.loop-line.invariant c.loop-line-test.false

pub returns-in-Err-Bad : goal.returns-in-Err-Bad
returns-in-Err-Bad c =
    let bad = rw c.in-Err-Bad.field-0-is at c.in-Err-Bad.ensures.err in
    cut_stops _ _ _ _ c.in-Err-Bad.field-0-0 c.line-item.result c.loop-line.invariant c.loop-line-test.true c.line-item.is
    (subst (λ (text : List ℕ). Bad c.loop-line.asm text c.in-Err-Bad.field-0-0) c.as_slice.ensures bad)

pub invariant_of-push : goal.invariant_of-push
invariant_of-push c =
    let text : c.as_slice.result.now ≡ c.as_slice-in-Ok.result.now = c.as_slice.ensures ∙ sym c.as_slice-in-Ok.ensures in
    let short : length c.line-item.result.text ≤ 251 = line_has (λ (l : Line). length l.text ≤ 251) c.args.lines.now c.loop-line.line-index c.line-item.result c.requires c.loop-line-test.true c.line-item.is in
    let few : length c.in-Ok.run'.list < 2 ^ 16 = omega (arith, short, c.in-Ok.ensures.count, ap length c.as_slice.ensures) in
    record {
      within = within_order 0 c.as_slice-in-Ok.result.now c.in-Ok.run'.list (subst (λ (t : List ℕ). AreInOrder 0 c.in-Ok.run'.list (length t)) text c.in-Ok.ensures.spans);
      few = few;
    }
