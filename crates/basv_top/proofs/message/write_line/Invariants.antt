use Rattle.std.proofs.Common.{◌≤◌}
use Rattle.basv_top.specs.Ending.{message_text}
use Rattle.basv_top.proofs.Written.{WritesPieces}
use Rattle.basv_top.proofs.message.write_line.Given as goal

abbrev pub invariant-pieces : goal.invariant-pieces
invariant-pieces g l =
    WritesPieces (g.E.Sink.written l.fn.err) (g.E.Sink.written l.err) l.piece-items l.piece-index (message_text l.fn.message)
    × (g.E.Sink.faults l.fn.err ≤ g.E.Sink.faults l.err)
