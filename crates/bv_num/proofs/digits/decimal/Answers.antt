use Rattle.std.proofs.Common.{◌≡◌, ◌∙◌, ap, rules}
use Rattle.bv_num.specs.Digits.{decimal_text}
use Rattle.bv_num.specs.Value.{value_of}
use Rattle.bv_num.proofs.Numerals.{decimal_text-written}
use Rattle.bv_num.proofs.ReadingBack.{value_of-decimal_text}
use Rattle.bv_num.proofs.digits.decimal.Goals as goal

pub returns-clause-reading : goal.returns-clause-reading
returns-clause-reading c =
    let whole : c.of_text.result ≡ decimal_text c.args.n = search rules in
    ap value_of whole ∙ value_of-decimal_text c.args.n c.ranges.n

pub returns-clause-written : goal.returns-clause-written
returns-clause-written c =
    let whole : c.of_text.result ≡ decimal_text c.args.n = search rules in
    whole ∙ decimal_text-written c.args.n c.ranges.n
