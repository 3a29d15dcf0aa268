use Rattle.std.proofs.Common.{◌≡◌, ◌≢◌, length, slice_index, ◌∷◌, ◌∙◌, ap, sym, subst, arith}
use Rattle.bv_num.specs.Digits.{hex_digits}
use Rattle.bv_num.specs.Value.{data_value}
use Rattle.bv_num.proofs.Numerals.{length-hex_digits-le, digits-first}
use Rattle.bv_num.proofs.ReadingBack.{data_value-hex_digits}
use Rattle.bv_num.proofs.digits.hex.Goals as goal

pub returns-clause-reading : goal.returns-clause-reading
returns-clause-reading c =
    let whole : c.of_text.result ≡ hex_digits c.args.n = c.of_text.ensures ∙ c.as_slice.ensures ∙ c.in_base.ensures.value in
    ap (λ text. data_value (38 ∷ text)) whole ∙ data_value-hex_digits c.args.n (omega arith)

pub returns-clause-short : goal.returns-clause-short
returns-clause-short c =
    let whole : c.of_text.result ≡ hex_digits c.args.n = c.of_text.ensures ∙ c.as_slice.ensures ∙ c.in_base.ensures.value in
    omega (arith, ap length whole, length-hex_digits-le c.args.n (omega arith))

pub returns-clause-first : goal.returns-clause-first
returns-clause-first c =
    let whole : c.of_text.result ≡ hex_digits c.args.n = c.of_text.ensures ∙ c.as_slice.ensures ∙ c.in_base.ensures.value in
    λ some. subst (λ text. slice_index text 0 ≢ 48) (sym whole) (digits-first 16 c.args.n (omega arith) some)
