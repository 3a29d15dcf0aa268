use Rattle.std.proofs.Common.{ap, ◌∙◌, arith}
use Rattle.code_frag.specs.Words.{words_of}
use Rattle.frag_tests.proofs.ShowsLaws.{rows_show}
use Rattle.frag_tests.proofs.rows.rows_words.Goals as goal

pub returns : goal.returns
returns c = rows_show c.args.n _ (omega arith) (c.in_ok-words.ensures.words ∙ ap words_of c.in_ok-frag.ensures)
