use Rattle.std.proofs.Common.{◌≡◌, ap, arith, rules}
use Rattle.std.proofs.lemmas.Grind.{common_steps}
use Rattle.expr_parse.specs.Parse.{expression}
use Rattle.expr_parse.proofs.Turns.{one_deeper}
use Rattle.expr_parse.proofs.parser.+expression.Goals as goal

pub returns-then-depth-eq0 : goal.returns-then-depth-eq0
unfolding expression
returns-then-depth-eq0 t c = let none : c.args.depth ≡ 0 = omega arith in ap (λ n. expression n c.args.least c.args.list.now) none

pub returns : goal.returns
unfolding expression
returns t c =
    let e = one_deeper (λ n. expression n c.args.least c.args.list.now) c.args.depth (omega arith) in
    first_of (search rules, grind (arith, common_steps))

pub returns-in_err-found : goal.returns-in_err-found
unfolding expression
returns-in_err-found t c =
    let e = one_deeper (λ n. expression n c.args.least c.args.list.now) c.args.depth (omega arith) in
    first_of (search rules, grind (arith, common_steps))
