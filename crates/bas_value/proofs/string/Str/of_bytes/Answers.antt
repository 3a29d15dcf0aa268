use Rattle.std.proofs.Common.{refl, sym, ap, length}
use Rattle.bas_value.proofs.Placed.{placed_over}
use Rattle.bas_value.proofs.string.Str.of_bytes.Goals as goal

pub invariant_of-result : goal.invariant_of-result
invariant_of-result c = placed_over _ _ _ refl (sym (ap length c.copy_from_slice.ensures.after))
