use Rattle.std.proofs.Common.{◌≡◌, ◌+◌, ◌<◌, arith, ◌∙◌, sym}
use Rattle.token_file.specs.Lines.{end_mark, head_bytes}
use Rattle.bv_base.proofs.Lists.{same_head, same_tail}
use Rattle.token_file.proofs.Fronts.{split_joins, text_with_start, is_record}
use Rattle.token_file.proofs.read.read_record.Goals as goal

pub returns-then-contains : goal.returns-then-contains
returns-then-contains c =
    let s = c.split_at in
    let joined = split_joins c.from-count.result c.args.after.now _ _ s.ensures.front s.ensures.back in
    let size : c.args.size ≡ c.from-count.result + head_bytes = omega (arith, c.in-Some.ensures.0, c.in-Some.ensures.1, c.from-count.ensures) in (
      text_with_start c.args.high c.args.low c.args.size c.from-count.result _ _ _ joined size s.ensures.front_len (sym c.contains.ensures.value ∙ c.if-contains.true),
      λ e. c.requires (same_head _ _ _ _ (same_tail _ _ _ _ e.1)),
    )

pub returns : goal.returns
returns c =
    let s = c.split_at in
    let joined = split_joins c.from-count.result c.args.after.now _ _ s.ensures.front s.ensures.back in
    let size : c.args.size ≡ c.from-count.result + head_bytes = omega (arith, c.in-Some.ensures.0, c.in-Some.ensures.1, c.from-count.ensures) in
    let high : c.args.high < end_mark = omega (arith, c.ranges.high.fits, c.requires) in
    rw c.from_be_bytes-number.ensures (is_record c.args.high c.args.low c.args.size c.from-count.result _ _ _ joined high c.ranges.low.fits c.ranges.size.fits size s.ensures.front_len (sym c.contains.ensures.value ∙ c.if-contains.false))
