use Rattle.std.proofs.Common.{◌<◌, ◌≤◌, length, arith}
use Rattle.bv_base.specs.Limits.{longest_text, line_numbers}
use Rattle.token_file.proofs.Fronts.{fits_text}
use Rattle.token_file.proofs.line.Line.fits_record.Goals as goal

pub returns : goal.returns
returns c =
    let number : c.args.self.now.number < line_numbers = omega (arith, c.if-self-ge-LINE_NUMBERS.false) in
    let short : length c.args.self.now.text ≤ longest_text = omega (arith, c.if-len-gt-LONGEST_TEXT.false, c.len.ensures) in
    fits_text c.args.self.now c.as_slice.result.now c.contains.result number short c.as_slice.ensures c.contains.ensures.value
