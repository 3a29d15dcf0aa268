use Rattle.std.proofs.Common.{◌-◌}
use Rattle.arm2_cpu.proofs.BlockLoops.{Checking}
use Rattle.arm2_cpu.proofs.block.first_refused.Given as goal

abbrev pub invariant-words : goal.invariant-words
invariant-words g l = Checking g.M.Memory.space l.user (l.count - l.counter) l.at l.count l.start
