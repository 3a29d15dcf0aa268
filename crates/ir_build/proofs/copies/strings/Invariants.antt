use Rattle.std.proofs.Common.{◌≡◌, take}
use Rattle.ir_build.proofs.copies.strings.Given as goal

abbrev pub invariant-loop-i : goal.invariant-loop-i
invariant-loop-i l = l.strings ≡ take l.i l.texts
