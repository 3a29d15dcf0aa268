use Rattle.std.proofs.Common.{arith, Ok, Err, OnErr, refl}
use Rattle.std.proofs.lemmas.Result.{on_ok_weaker, on_err_weaker}
use Rattle.basv_top.proofs.Written.{piece_written, piece_broken, end_written, end_broken}
use Rattle.basv_top.proofs.message.write_line.Goals as goal

pub returns-in_err-write_piece-clause-part : goal.returns-in_err-write_piece-clause-part
returns-in_err-write_piece-clause-part g c =
    on_err_always c.from_residual.result (piece_broken _ _ _ _ c.pieces.piece-index _ _ _ _ (omega (arith, c.pieces-test.true)) refl c.pieces.invariant.0 c.in_err-write_piece.ensures.part)
  where
    on_err_always : {T E P : Type 0} (r : _) → P → OnErr {T = T} {E = E} r P
    on_err_always (Ok _) p = tt
    on_err_always (Err _) p = p

pub pieces-preserved : goal.pieces-preserved
pieces-preserved g c = (
  piece_written _ _ _ _ c.pieces.piece-index _ _ _ (omega (arith, c.pieces-test.true)) refl c.pieces.invariant.0 c.in_ok-write_piece.ensures.ok,
  omega (arith, c.pieces.invariant.1, c.write_piece.ensures.faults),
)

pub returns-clause-ok : goal.returns-clause-ok
returns-clause-ok g c = on_ok_weaker c.write.result (end_written _ _ _ _ c.pieces.piece-index _ _ (omega (arith, c.pieces-test.false)) c.pieces.invariant.0) c.write.ensures.ok

pub returns-clause-part : goal.returns-clause-part
returns-clause-part g c = on_err_weaker c.write.result (end_broken _ _ _ _ c.pieces.piece-index _ _ (omega (arith, c.pieces-test.false)) c.pieces.invariant.0) c.write.ensures.part
