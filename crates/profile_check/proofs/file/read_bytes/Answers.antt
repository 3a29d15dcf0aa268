use Rattle.std.proofs.Common.{◌≤◌, ◌<◌, ◌^◌, List, length, sym, subst}
use Rattle.std.specs.List.{AllByRecursion}
use Rattle.token_file.specs.declared.line.Line.{Line}
use Rattle.profile_check.specs.Programs.{file_size}
use Rattle.profile_check.proofs.FileVerdicts.{lines_short, size_small, answer_explained}
use Rattle.profile_check.proofs.file.read_bytes.Goals as goal

pub check-requires-clause-short : goal.check-requires-clause-short
check-requires-clause-short c =
    subst (λ (ls : List Line). AllByRecursion (λ (l : Line). length l.text ≤ 251) ls) (sym c.as_slice.ensures.value) (lines_short c.args.bytes.now _ c.in_ok-lines.ensures.ok)

pub check-requires-clause-small : goal.check-requires-clause-small
check-requires-clause-small c =
    subst (λ (ls : List Line). file_size ls < 2 ^ 32) (sym c.as_slice.ensures.value) (size_small c.args.bytes.now _ c.in_ok-lines.ensures.ok c.if-bytes.false)

pub returns-clause-err : goal.returns-clause-err
returns-clause-err c = answer_explained c.args.bytes.now _ c.as_slice.result.now c.check.result c.if-bytes.false c.in_ok-lines.ensures.ok c.as_slice.ensures.value c.check.ensures.err
