use Rattle.std.proofs.Common.{Bool, ◌++◌, sym, ap, ◌∙◌}
use Rattle.std.proofs.lemmas.List.{append-nil}
use Rattle.ir_build.specs.Code.{finish_code}
use Rattle.ir_build.proofs.Equations.{print_end}
use Rattle.ir_build.proofs.output.push_print.Goals as goal

pub returns-in_ok-put : goal.returns-in_ok-put
returns-in_ok-put c =
    c.in_ok-put.ensures
    ∙ sym (print_end c.args.prog.now c.args.line c.loop-i.spacing.padded c.loop-i.spacing.new_line c.args.parts.now c.loop-i.i c.loop-i.ops _ c.loop-i-test.false c.loop-i.invariant
    ∙ ap (λ (b : Bool). c.loop-i.ops ++ finish_code b) c.if-spacing.true)

pub returns-else-spacing : goal.returns-else-spacing
returns-else-spacing c =
    sym (print_end c.args.prog.now c.args.line c.loop-i.spacing.padded c.loop-i.spacing.new_line c.args.parts.now c.loop-i.i c.loop-i.ops _ c.loop-i-test.false c.loop-i.invariant
    ∙ ap (λ (b : Bool). c.loop-i.ops ++ finish_code b) c.if-spacing.false ∙ append-nil c.loop-i.ops)
