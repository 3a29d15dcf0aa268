use Rattle.arm2_cpu.proofs.BlockLoops.{Loading}
use Rattle.arm2_cpu.proofs.block.load_registers.Given as goal

abbrev pub invariant-registers : goal.invariant-registers
invariant-registers g l = Loading g.M.Memory.space l.list l.user l.n l.at (g.M.Memory.bytes l.mem) l.regs l.initial.regs l.svc l.start
