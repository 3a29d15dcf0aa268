use Rattle.std.proofs.Common.{◌≡◌, ℕ, ◌<◌, Some}
use Rattle.std.specs.Prelude.{slice_get}
use Rattle.bas_ir.specs.declared.op.Op.{Op}
use Rattle.bas_ir.specs.Coded.{HasWidths}
use Rattle.bas_ir.proofs.laws.all_have_widths.Given as goal

abbrev pub invariant-loop-i : goal.invariant-loop-i
invariant-loop-i l = (pc : ℕ) (op : Op) → pc < l.i → slice_get l.ops pc ≡ Some op → HasWidths op
