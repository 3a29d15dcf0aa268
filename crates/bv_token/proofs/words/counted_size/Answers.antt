use Rattle.std.proofs.Common.{◌∙◌, sym, ap, nat_eq, arith, eqb-true}
use Rattle.std.specs.List.{starts_with}
use Rattle.bv_token.proofs.CountedWords.{not_empty, no_word, not_first, not_counted, begins_word, size_fits}
use Rattle.bv_token.proofs.words.counted_size.Goals as goal

pub returns-then-is_empty : goal.returns-then-is_empty
returns-then-is_empty c = no_word c.args.text.now c.word_text-word.result.now c.args.token (eqb-true _ 0 (sym c.is_empty.ensures ∙ c.if-is_empty.true)) c.word_text-word.ensures

pub returns-then-not-starts_with : goal.returns-then-not-starts_with
returns-then-not-starts_with c =
    not_first c.args.text.now c.word_text-word.result.now c.args.token (not_empty _ _ c.is_empty.ensures c.if-is_empty.false) c.word_text-word.ensures (ap (λ w. starts_with nat_eq c.args.text.now w) (sym c.as_bytes.ensures.value) ∙ sym c.starts_with.ensures.value ∙ c.if-not-starts_with.true)

pub returns-then-not-counts : goal.returns-then-not-counts
returns-then-not-counts c =
    not_counted c.args.text.now c.word_text-word.result.now c.args.token (not_empty _ _ c.is_empty.ensures c.if-is_empty.false) c.word_text-word.ensures (ap (λ w. starts_with nat_eq c.args.text.now w) (sym c.as_bytes.ensures.value) ∙ sym c.starts_with.ensures.value ∙ c.if-not-starts_with.false) (sym c.counts.ensures ∙ c.if-not-counts.true)

pub overflow_cast-result : goal.overflow_cast-result
overflow_cast-result c = let short = size_fits c.word_text-word.result.now c.args.token (not_empty _ _ c.is_empty.ensures c.if-is_empty.false) c.word_text-word.ensures in omega (arith, short)

pub returns : goal.returns
returns c =
    begins_word c.args.text.now c.word_text-word.result.now c.args.token (not_empty _ _ c.is_empty.ensures c.if-is_empty.false) c.word_text-word.ensures (ap (λ w. starts_with nat_eq c.args.text.now w) (sym c.as_bytes.ensures.value) ∙ sym c.starts_with.ensures.value ∙ c.if-not-starts_with.false) (sym c.counts.ensures ∙ c.if-not-counts.false)
