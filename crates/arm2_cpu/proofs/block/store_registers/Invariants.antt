use Rattle.arm2_cpu.proofs.BlockLoops.{Storing}
use Rattle.arm2_cpu.proofs.block.store_registers.Given as goal

abbrev pub invariant-registers : goal.invariant-registers
invariant-registers g l = Storing g.M.Memory.space l.list l.user l.n l.at (g.M.Memory.bytes l.mem) (g.M.Memory.bytes l.initial.mem) l.regs l.svc l.start
