use Rattle.std.proofs.Common.{◌≡◌}
use Rattle.bv_base.specs.Bytes.{zeros}
use Rattle.bv_ram.proofs.ram.clear.Given as goal

abbrev pub invariant-loop-at : goal.invariant-loop-at
invariant-loop-at l = (l.block.start ≡ l.initial.block.start) × (l.block.room ≡ l.initial.block.room) × (l.block.bytes ≡ zeros l.at)
