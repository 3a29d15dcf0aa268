use Rattle.std.proofs.Common.{ℕ, length, ap, arith, length-drop}
use Rattle.basv_crunch.proofs.LineEnds.{one_piece, cut_piece, without_return-le}
use Rattle.basv_crunch.proofs.Rows.{row_within}
use Rattle.basv_crunch.specs.Pieces.{in_line}
use Rattle.basv_crunch.proofs.piece.split_piece.Goals as goal

pub returns-then-size-text-clause-pieces : goal.returns-then-size-text-clause-pieces
returns-then-size-text-clause-pieces c = one_piece c.args.text.now c.line_size-size.result c.line_size-size.ensures c.if-size-text.true

pub returns-clause-pieces : goal.returns-clause-pieces
returns-clause-pieces c =
    cut_piece c.args.text.now c.split_at.result.0.now c.split_at.result.1.now c.without_return.result.now c.text_after.result.now c.line_size-size.result c.line_size-size.ensures c.if-size-text.false c.split_at.ensures.front c.split_at.ensures.back c.without_return.ensures c.text_after.ensures

pub returns-clause-shorter : goal.returns-clause-shorter
returns-clause-shorter c =
    omega (arith, row_within in_line c.args.text.now, c.line_size-size.ensures, c.if-size-text.false, c.split_at.ensures.front_len, c.split_at.ensures.back_len, without_return-le c.split_at.result.0.now, ap length c.without_return.ensures, ap length c.text_after.ensures, length-drop {A = ℕ} 1 c.split_at.result.1.now)
