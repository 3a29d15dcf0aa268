use Rattle.std.proofs.Common.{◌≡◌, ◌∷◌, [], ◌++◌, flat_map, take, ap, ◌∙◌, take_all, arith}
use Rattle.token_file.specs.Lines.{record_start, end_mark, record_of}
use Rattle.token_file.proofs.Written.{written_lines, has_one_reading}
use Rattle.token_file.proofs.write.write_file.Goals as goal

pub returns-clause-exact : goal.returns-clause-exact
returns-clause-exact c =
    let whole : take c.loop-line.line-index c.args.lines.now ≡ c.args.lines.now = take_all c.loop-line.line-index c.args.lines.now (omega arith) in
    c.in_ok-extend_from_slice.ensures.items ∙ ap (λ b. b ++ record_start ∷ end_mark ∷ []) (c.loop-line.invariant ∙ ap (flat_map record_of) whole)

pub returns-clause-lines : goal.returns-clause-lines
returns-clause-lines c = written_lines c.args.lines.now _ c.requires (returns-clause-exact c)

pub returns-clause-reading : goal.returns-clause-reading
returns-clause-reading c = has_one_reading _ _ (returns-clause-lines c)
