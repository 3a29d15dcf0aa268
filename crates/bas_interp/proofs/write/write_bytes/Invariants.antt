use Rattle.std.proofs.Common.{take}
use Rattle.bas_interp.specs.Writes.{TakesAll}
use Rattle.bas_interp.proofs.write.write_bytes.Given as goal

-- the bytes so far
abbrev pub invariant-bytes : goal.invariant-bytes
invariant-bytes g l = TakesAll (take l.byte-index l.bytes) (g.O.Sink.written l.initial.out) (g.O.Sink.written l.out) (g.O.Sink.log l.initial.out) (g.O.Sink.log l.out) (g.O.Sink.faults l.initial.out) (g.O.Sink.faults l.out)
