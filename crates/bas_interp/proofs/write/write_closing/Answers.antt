use Rattle.std.proofs.Common.{◌≡◌, ℕ, List, ◌++◌, ap, sym, ◌∙◌, append_assoc}
use Rattle.std.specs.Prelude.{codes}
use Rattle.bv_num.specs.Digits.{decimal_digits}
use Rattle.bas_value.specs.Output.{new_line}
use Rattle.bas_interp.proofs.Writing.{first_fails, takes_whole}
use Rattle.bas_interp.proofs.write.write_closing.Goals as goal

-- what follows the text, in two parts
in_two : (xs at digits line : List ℕ) → xs ++ (at ++ digits ++ line) ≡ xs ++ at ++ digits ++ line
in_two xs at digits line = sym (ap (λ l. l ++ line) (append_assoc xs at digits) ∙ append_assoc xs (at ++ digits) line)

pub returns-in-Err : goal.returns-in-Err
returns-in-Err g c =
    first_fails (new_line ++ c.args.text.now) (codes " at line " ++ decimal_digits c.args.line ++ new_line) _ _ _ _ _ _ _
    (in_two (new_line ++ c.args.text.now) (codes " at line ") (decimal_digits c.args.line) new_line) c.in-Err.ensures

pub returns : goal.returns
returns g c =
    takes_whole (new_line ++ c.args.text.now) (codes " at line " ++ decimal_digits c.args.line ++ new_line) _ _ _ _ _ _ _ _ _ _ c.write_line.result
    (in_two (new_line ++ c.args.text.now) (codes " at line ") (decimal_digits c.args.line) new_line) c.in_default.ensures c.write_line.ensures
