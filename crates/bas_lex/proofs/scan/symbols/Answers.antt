use Rattle.std.proofs.Common.{◌-◌, length, arith, rules, tests}
use Rattle.std.proofs.lemmas.Result.{err_from_is_err_and}
use Rattle.bas_lex.proofs.Cuts.{cuts_within, cut_more, all_cut, explains}
use Rattle.bas_lex.proofs.Order.{spans_in_order, symbols_filled, tail_is_last, symbols_count}
use Rattle.bas_lex.proofs.Pieces.{piece_shortens}
use Rattle.bas_lex.proofs.Spelled.{texts_spelled}
use Rattle.bas_lex.proofs.scan.symbols.Goals as goal

pub overflow_sub-at : goal.overflow_sub-at
overflow_sub-at c = cuts_within _ _ _ _ _ c.pieces.invariant.cut

pub take_piece-requires : goal.take_piece-requires
take_piece-requires c = let within = cuts_within _ _ _ _ _ c.pieces.invariant.cut in omega (arith, within, c.requires)

pub returns-in_err-rest-clause-err : goal.returns-in_err-rest-clause-err
returns-in_err-rest-clause-err c =
    let within = cuts_within _ _ _ _ _ c.pieces.invariant.cut in
    let p = err_from_is_err_and c.from_residual.result c.from_residual.ensures.1 in
    rw (p.1, p.2) (explains _ _ _ _ _ (length c.args.text.now - length c.pieces.rest.now) _ c.pieces.invariant (omega (arith, within)) (search (tests, rules)) c.in_err-rest.ensures.err)

pub pieces-smaller : goal.pieces-smaller
pieces-smaller c = piece_shortens _ _ _ _ c.in_ok-rest.ensures.ok.fits

pub pieces-preserved : goal.pieces-preserved
pieces-preserved c =
    let within = cuts_within _ _ _ _ _ c.pieces.invariant.cut in
    cut_more _ _ _ _ _ _ _ _ (length c.args.text.now - length c.pieces.rest.now) c.pieces.invariant (omega (arith, within)) c.in_ok-rest.ensures.ok

pub returns-clause-ok : goal.returns-clause-ok
returns-clause-ok c = all_cut _ _ _ _ _ _ c.pieces.invariant (search (tests, rules)) c.from_vec.ensures

pub returns-clause-spans : goal.returns-clause-spans
returns-clause-spans c = spans_in_order _ _ _ _ (returns-clause-ok c)

pub returns-clause-texts : goal.returns-clause-texts
returns-clause-texts c = texts_spelled _ _ _ _ (returns-clause-ok c)

pub returns-clause-filled : goal.returns-clause-filled
returns-clause-filled c = symbols_filled _ _ _ _ (returns-clause-ok c)

pub returns-clause-tail : goal.returns-clause-tail
returns-clause-tail c = tail_is_last _ _ _ _ (returns-clause-ok c)

pub returns-clause-count : goal.returns-clause-count
returns-clause-count c = symbols_count _ _ _ _ (returns-clause-ok c)
