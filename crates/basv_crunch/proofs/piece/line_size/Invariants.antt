use Rattle.basv_crunch.specs.Pieces.{in_line}
use Rattle.basv_crunch.proofs.Rows.{IsCounted}
use Rattle.basv_crunch.proofs.piece.line_size.Given as goal

abbrev pub invariant-loop-byte : goal.invariant-loop-byte
invariant-loop-byte l = IsCounted in_line l.text l.byte-index l.count
