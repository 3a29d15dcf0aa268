use Rattle.std.proofs.Common.{◌≡◌, ◌==◌, false, slice_index, sym, ◌∙◌, arith}
use Rattle.basv_words.proofs.Numerals.{parsed, unparsed}
use Rattle.basv_words.proofs.command.number.Goals as goal

pub returns-in-Ok : goal.returns-in-Ok
returns-in-Ok c =
    let plain : (slice_index c.args.word.now 0 == 43) ≡ false = sym (c.starts_with.ensures.byte (omega arith) (omega arith) (λ w o h. h)) ∙ c.if-starts_with.false in
    sym (parsed c.args.word.now c.parse.result c.in-Ok.number plain c.parse.ensures.value.0 c.in-Ok.is)

pub returns-in-Err : goal.returns-in-Err
returns-in-Err c =
    let plain : (slice_index c.args.word.now 0 == 43) ≡ false = sym (c.starts_with.ensures.byte (omega arith) (omega arith) (λ w o h. h)) ∙ c.if-starts_with.false in
    sym (unparsed c.args.word.now c.parse.result c.in-Err.field-0 plain c.parse.ensures.value.0 c.in-Err.is)
