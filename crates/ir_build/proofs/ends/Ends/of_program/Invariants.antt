use Rattle.std.proofs.Common.{◌-◌, length}
use Rattle.ir_build.proofs.EndTables.{AreLate}
use Rattle.ir_build.proofs.ends.Ends.of_program.Given as goal

abbrev pub invariant-loop-i : goal.invariant-loop-i
invariant-loop-i l = AreLate l.lines l.ends (length l.lines - l.i) l.place
