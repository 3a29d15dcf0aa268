use Rattle.std.proofs.Common.{◌≡◌, ◌^◌, min, length, ap, ◌∙◌}
use Rattle.bv_num.specs.Value.{front_digits, front_value}
use Rattle.bas_lex.specs.Kinds.{base}
use Rattle.bas_lex.specs.Scan.{HasDigits}
use Rattle.bas_lex.proofs.Numbers.{digits_read, no_digits, too_great, number_best}
use Rattle.bas_lex.proofs.number.read_number.Goals as goal

pub returns-then-digits-eq0 : goal.returns-then-digits-eq0
returns-then-digits-eq0 c = no_digits _ _ _ (digits_read c.args.radix c.args.text.now c.digit_run-digits.result (c.digit_run-digits.ensures.value ∙ ap (λ b. min (front_value b c.args.text.now) (2 ^ 32)) c.base.ensures.value) (c.digit_run-digits.ensures.count ∙ ap (λ b. length (front_digits b c.args.text.now)) c.base.ensures.value)) c.if-digits-eq0.true

pub returns-then-digits-value_bound : goal.returns-then-digits-value_bound
returns-then-digits-value_bound c = too_great _ _ _ (digits_read c.args.radix c.args.text.now c.digit_run-digits.result (c.digit_run-digits.ensures.value ∙ ap (λ b. min (front_value b c.args.text.now) (2 ^ 32)) c.base.ensures.value) (c.digit_run-digits.ensures.count ∙ ap (λ b. length (front_digits b c.args.text.now)) c.base.ensures.value)) _ c.value_bound.ensures c.if-digits-value_bound.true

pub returns : goal.returns
returns c =
    number_best _ _ c.digit_run-digits.result _ _ _ (digits_read c.args.radix c.args.text.now c.digit_run-digits.result (c.digit_run-digits.ensures.value ∙ ap (λ b. min (front_value b c.args.text.now) (2 ^ 32)) c.base.ensures.value) (c.digit_run-digits.ensures.count ∙ ap (λ b. length (front_digits b c.args.text.now)) c.base.ensures.value)) c.if-digits-eq0.false c.value_bound.ensures c.if-digits-value_bound.false c.cast_signed.ensures c.mark_size.ensures
