use Rattle.std.proofs.lemmas.List.{take_rest}
use Rattle.bas_lex.proofs.Pieces.{takes_comment, takes_tailed, takes_symbol}
use Rattle.bas_lex.proofs.scan.take_piece.Goals as goal

pub returns-in-Comment-clause-ok : goal.returns-in-Comment-clause-ok
returns-in-Comment-clause-ok c = takes_comment _ _ _ _ c.in-Comment.ensures

pub returns-in_ok-extend_from_slice-in-Tailed-clause-ok : goal.returns-in_ok-extend_from_slice-in-Tailed-clause-ok
returns-in_ok-extend_from_slice-in-Tailed-clause-ok c =
    takes_tailed _ _ _ _ _ c.in-Tailed.token c.from.result c.in-Tailed.tail.now _ _ c.in-Tailed.ensures.0 c.in-Tailed.ensures.1 c.from.ensures c.symbol_at-token.ensures c.symbol_at-tail.ensures c.in_ok-extend_from_slice-in-Tailed.ensures.items

pub returns-in_ok-push-in-Symbol-clause-ok : goal.returns-in_ok-push-in-Symbol-clause-ok
returns-in_ok-push-in-Symbol-clause-ok c =
    takes_symbol _ _ _ _ _ _ c.in-Symbol.front _ _ c.in-Symbol.ensures.0 c.in-Symbol.ensures.1 (take_rest c.args.text.now c.in-Symbol.front.size) c.mode_after_symbol.ensures c.symbol_at.ensures c.in_ok-push-in-Symbol.ensures.items
