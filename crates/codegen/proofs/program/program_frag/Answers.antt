use Rattle.std.proofs.Common.{length, subst, sym, ap, ◌+◌, ◌*◌, ◌∙◌, arith}
use Rattle.bv_base.specs.MemoryMap.{image_start}
use Rattle.code_frag.specs.Words.{FragState, IsOpen}
use Rattle.codegen.specs.Operations.{main_label, raise_label}
use Rattle.codegen.specs.Placing.{with_program, with_beginning, AreOpen}
use Rattle.codegen.proofs.WholeProgram.{raise_open, main_open, count_labels, begun_count, items_open, with_branches-is, branches_start-is, program-is}
use Rattle.codegen.proofs.program.program_frag.Goals as goal

pub overflow_cast-len : goal.overflow_cast-len
overflow_cast-len c =
    let count = ap (λ (f : FragState). length f.places) c.in_ok-frag.ensures.built ∙ count_labels c.args.ir.now in
    omega (arith, count, c.in_ok-frag.ensures.few, c.len.ensures, c.requires.items)

pub emit_branches-requires-clause-labels : goal.emit_branches-requires-clause-labels
emit_branches-requires-clause-labels c =
    let count = ap (λ (f : FragState). length f.places) c.in_ok-frag.ensures.built ∙ count_labels c.args.ir.now in
    omega (arith, count, c.len.ensures, c.requires.items)

pub emit_beginning-requires-clause-raise : goal.emit_beginning-requires-clause-raise
emit_beginning-requires-clause-raise c =
    let frag = with_branches-is c.args.ir.now c.len.result c.in_ok-frag.frag c.emit_branches.new.frag c.in_ok-frag.ensures.built c.len.ensures c.requires.items c.in_ok-branches.ensures.code in
    subst (λ f. IsOpen f raise_label) (sym frag) (raise_open c.args.ir.now)

pub emit_beginning-requires-clause-main : goal.emit_beginning-requires-clause-main
emit_beginning-requires-clause-main c =
    let frag = with_branches-is c.args.ir.now c.len.result c.in_ok-frag.frag c.emit_branches.new.frag c.in_ok-frag.ensures.built c.len.ensures c.requires.items c.in_ok-branches.ensures.code in
    subst (λ f. IsOpen f main_label) (sym frag) (main_open c.args.ir.now)

pub emit_beginning-requires-clause-labels : goal.emit_beginning-requires-clause-labels
emit_beginning-requires-clause-labels c =
    let frag = with_branches-is c.args.ir.now c.len.result c.in_ok-frag.frag c.emit_branches.new.frag c.in_ok-frag.ensures.built c.len.ensures c.requires.items c.in_ok-branches.ensures.code in
    let count = ap (λ (f : FragState). length f.places) frag ∙ count_labels c.args.ir.now in
    omega (arith, count)

pub emit_program-requires-clause-open : goal.emit_program-requires-clause-open
emit_program-requires-clause-open c =
    let frag = with_branches-is c.args.ir.now c.len.result c.in_ok-frag.frag c.emit_branches.new.frag c.in_ok-frag.ensures.built c.len.ensures c.requires.items c.in_ok-branches.ensures.code in
    subst (AreOpen 0) (sym c.in_ok-emit_beginning.ensures) (items_open c.args.ir.now c.first_item.result c.emit_branches.new.frag (ap (λ (f : FragState). f.places) frag))

pub emit_program-requires-clause-labels : goal.emit_program-requires-clause-labels
emit_program-requires-clause-labels c =
    let frag = with_branches-is c.args.ir.now c.len.result c.in_ok-frag.frag c.emit_branches.new.frag c.in_ok-frag.ensures.built c.len.ensures c.requires.items c.in_ok-branches.ensures.code in
    ap (λ (f : FragState). length f.places) c.in_ok-emit_beginning.ensures ∙ begun_count c.first_item.result c.emit_branches.new.frag ∙ ap (λ (f : FragState). length f.places) frag ∙ count_labels c.args.ir.now

pub emit_program-requires-clause-few : goal.emit_program-requires-clause-few
emit_program-requires-clause-few c =
    let count = ap (λ (f : FragState). length f.places) c.in_ok-emit_beginning.ensures ∙ begun_count c.first_item.result c.emit_branches.new.frag ∙ ap (λ (f : FragState). length f.places) c.in_ok-branches.ensures.code in
    omega (arith, count, c.in_ok-frag.ensures.few)

pub emit_program-requires-clause-branches : goal.emit_program-requires-clause-branches
emit_program-requires-clause-branches c =
    c.in_ok-branches.ensures.start ∙ ap (λ (f : FragState). image_start + 4 * length f.items) c.in_ok-frag.ensures.built ∙ branches_start-is c.args.ir.now

pub returns-clause-built : goal.returns-clause-built
returns-clause-built c =
    let frag = with_branches-is c.args.ir.now c.len.result c.in_ok-frag.frag c.emit_branches.new.frag c.in_ok-frag.ensures.built c.len.ensures c.requires.items c.in_ok-branches.ensures.code in
    c.in_ok-emit_program.ensures
    ∙ ap (with_program c.args.ir.now) (c.in_ok-emit_beginning.ensures ∙ (λ i. with_beginning (c.first_item.ensures i) (frag i)))
    ∙ program-is c.args.ir.now c.requires.laid_out.marks
