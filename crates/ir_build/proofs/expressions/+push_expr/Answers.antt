use Rattle.std.proofs.lemmas.Result.{IfOk-equal}
use Rattle.ir_build.proofs.Equations.{unary_more, binary_more}
use Rattle.ir_build.proofs.expressions.+push_expr.Goals as goal

pub returns-in_ok-push_expr-in-Unary : goal.returns-in_ok-push_expr-in-Unary
returns-in_ok-push_expr-in-Unary t c =
    IfOk-equal _ _ _ _ c.push_unary.ensures
    (unary_more c.args.prog.now c.args.line c.in-Unary.op c.in-Unary.x c.get-in-Unary.result.now c.args.x.now c.args.ops.now c.push_expr-in-Unary.new.ops
    c.in_ok-push_expr-in-Unary.ensures c.get-in-Unary.ensures c.in-Unary.is)

pub returns-in_ok-push_expr-in-Binary-2 : goal.returns-in_ok-push_expr-in-Binary-2
returns-in_ok-push_expr-in-Binary-2 t c =
    IfOk-equal _ _ _ _ c.put-in-Binary.ensures
    (binary_more c.args.prog.now c.args.line c.in-Binary.op c.in-Binary.x c.in-Binary.y c.get-in-Binary.result.now c.get-in-Binary-2.result.now c.args.x.now c.args.ops.now
    c.push_expr-in-Binary.new.ops c.push_expr-in-Binary-2.new.ops c.in_ok-push_expr-in-Binary.ensures c.get-in-Binary.ensures c.in_ok-push_expr-in-Binary-2.ensures
    c.get-in-Binary-2.ensures c.in-Binary.is)
