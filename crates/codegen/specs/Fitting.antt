-- What the code generator asks of a flat code. This project's own.
use Rattle.std.specs.Prelude.{◌≤◌, length}
use Rattle.std.specs.List.{AllByRecursion}
use Rattle.bas_ir.specs.declared.ir.Ir.{Ir}
use Rattle.bas_ir.specs.Coded.{AllHaveCode, AllHaveWidths, IsInItems}
use Rattle.bas_ir.specs.WellFormed.{IsWellFormed}
use Rattle.bv_base.specs.Limits as limit

-- A flat code that code can be made of: it is well formed, its operations are those of its items, and each has machine code and
-- fields of its widths; and its items of DATA are no longer than a line.
pub record CanGenerate (ir : Ir) : Type 0 where
  pub well_formed : IsWellFormed ir
  pub in_items : IsInItems ir
  pub have_code : AllHaveCode ir
  pub widths : AllHaveWidths ir
  pub short_data : AllByRecursion (λ text. length text ≤ limit.longest_text) ir.data_items
