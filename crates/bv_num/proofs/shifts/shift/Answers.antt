use Rattle.bv_num.proofs.ShiftLemmas.{shifts_left, shifts_right, shifts_logical}
use Rattle.bv_num.proofs.shifts.shift.Goals as goal

pub returns-in-Left : goal.returns-in-Left
returns-in-Left c =
    shifts_left c.args.kind c.args.a c.args.b _ _ c.ranges.a c.ranges.b (record { sfits = c.unbounded_shl.type_inv }) c.in-Left.is c.cast_unsigned-amount.ensures c.unbounded_shl.ensures

pub returns-in-Right : goal.returns-in-Right
returns-in-Right c =
    shifts_right c.args.kind c.args.a c.args.b _ _ c.ranges.a c.ranges.b (record { sfits = c.unbounded_shr.type_inv }) c.in-Right.is c.cast_unsigned-amount.ensures c.unbounded_shr.ensures

pub returns-in-RightLogical : goal.returns-in-RightLogical
returns-in-RightLogical c =
    shifts_logical c.args.kind c.args.a c.args.b _ _ _ _ c.ranges.a c.ranges.b (record { sfits = c.cast_signed.type_inv }) c.in-RightLogical.is c.cast_unsigned-amount.ensures c.cast_unsigned.type_inv c.cast_unsigned.ensures c.unbounded_shr-in-RightLogical.ensures c.cast_signed.ensures
