use Rattle.std.proofs.Common.{drop}
use Rattle.ir_build.proofs.TableSteps.{AreLeft}
use Rattle.ir_build.proofs.program.build.Given as goal

abbrev pub invariant-loop-i : goal.invariant-loop-i
invariant-loop-i l = AreLeft l.prog (drop l.i l.lines) l.place l.tables l.line_starts
