-- How far the search of a CASE for its WHENs has come. This project's own.
use Rattle.std.specs.Prelude.{ℕ, List, [], Option, None, Some}
use Rattle.bas_ast.specs.declared.program.Prog.{Prog}
use Rattle.bas_ir.specs.declared.op.Op.{Op}
use Rattle.bas_sem.specs.Places.{Row, branches_among}
use Rattle.ir_build.specs.Code.{branches_code}

-- The code of the WHENs that are still to come among these rows, which begin at a place: of those of a CASE within which this number
-- of others are open, or none where its OTHERWISE or ENDCASE was met.
abbrev pub branches_left : Prog → Option ℕ → List Row → ℕ → List Op
branches_left prog None rest place = []
branches_left prog (Some depth) rest place = branches_code prog (branches_among depth rest place)
