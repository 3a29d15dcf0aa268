use Rattle.std.proofs.Common.{◌∙◌, ap, Err}
use Rattle.std.proofs.lemmas.Result.{err_from_is_err_and}
use Rattle.expr_parse.proofs.LongestFront.{text_shorter, text_counted, text_failed}
use Rattle.expr_parse.proofs.top.front_text.Goals as goal

pub overflow_sub-result : goal.overflow_sub-result
overflow_sub-result c = text_shorter c.args.list.now c.in_ok-y.y c.longest_text.new.list.now c.in_ok-y.ensures

pub returns : goal.returns
returns c = text_counted c.args.list.now c.in_ok-y.y c.longest_text.new.list.now c.in_ok-y.ensures

pub returns-in_err-y : goal.returns-in_err-y
returns-in_err-y c =
    let p = err_from_is_err_and c.from_residual.result c.from_residual.ensures.1 in
    text_failed c.args.list.now c.longest_text.new.list.now c.in_err-y.field-0.0 c.from_residual.result c.in_err-y.ensures (p.1 ∙ ap Err p.2)
