use Rattle.std.proofs.Common.{◌≡◌, pos, rules}
use Rattle.std.specs.Ordering.{int_eq}
use Rattle.bas_interp.proofs.Closing.{until_settles}
use Rattle.bas_interp.proofs.loops.until.Goals as goal

pub returns-clause-right : goal.returns-clause-right
returns-clause-right c =
    let is_again : c.is_zero.result ≡ int_eq c.in-Some.value (pos 0) = search rules in
    until_settles c.args.memory.now c.settle.new.memory c.args.line c.in-Some.value c.pop.new.self c.in-Some.ensures.items c.in-Some-nearest.found c.is_zero.result c.settle.result
    c.in-Some-nearest.ensures.found is_again c.settle.ensures.answer c.settle.ensures.memory
