use Rattle.std.proofs.Common.{◌++◌, ap, ◌∙◌}
use Rattle.std.specs.Prelude.{codes}
use Rattle.bas_value.specs.Output.{new_line}
use Rattle.bas_interp.proofs.Writing.{first_fails, takes_whole}
use Rattle.bas_interp.proofs.write.write_line.Goals as goal

pub returns-in-Err : goal.returns-in-Err
returns-in-Err g c =
    first_fails (codes " at line " ++ c.as_slice.result.now) new_line _ _ _ _ _ _ _
    (ap (λ l. codes " at line " ++ l ++ new_line) (c.as_slice.ensures ∙ c.line_text.ensures)) c.in-Err.ensures

pub returns : goal.returns
returns g c =
    takes_whole (codes " at line " ++ c.as_slice.result.now) new_line _ _ _ _ _ _ _ _ _ _ c.write_bytes.result
    (ap (λ l. codes " at line " ++ l ++ new_line) (c.as_slice.ensures ∙ c.line_text.ensures)) c.in_default.ensures c.write_bytes.ensures
