use Rattle.std.proofs.Common.{◌≡◌, map, take}
use Rattle.ir_build.proofs.copies.data_texts.Given as goal

abbrev pub invariant-loop-i : goal.invariant-loop-i
invariant-loop-i l = l.texts ≡ map (λ d. d.text) (take l.i l.items)
