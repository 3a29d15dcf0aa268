use Rattle.std.proofs.Common.{◌∙◌, ap, Err}
use Rattle.std.proofs.lemmas.Result.{err_from_is_err_and}
use Rattle.expr_parse.proofs.LongestFront.{num_shorter, num_counted, num_failed}
use Rattle.expr_parse.proofs.top.front_num.Goals as goal

pub overflow_sub-result : goal.overflow_sub-result
overflow_sub-result c = num_shorter c.args.list.now c.in_ok-x.x c.longest_num.new.list.now c.in_ok-x.ensures

pub returns : goal.returns
returns c = num_counted c.args.list.now c.in_ok-x.x c.longest_num.new.list.now c.in_ok-x.ensures

pub returns-in_err-x : goal.returns-in_err-x
returns-in_err-x c =
    let p = err_from_is_err_and c.from_residual.result c.from_residual.ensures.1 in
    num_failed c.args.list.now c.longest_num.new.list.now c.in_err-x.field-0.0 c.from_residual.result c.in_err-x.ensures (p.1 ∙ ap Err p.2)
