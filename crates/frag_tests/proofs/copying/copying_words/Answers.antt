use Rattle.std.proofs.Common.{ap, ◌∙◌, arith}
use Rattle.code_frag.specs.Words.{words_of}
use Rattle.frag_tests.proofs.ShowsLaws.{copying_shows}
use Rattle.frag_tests.proofs.copying.copying_words.Goals as goal

pub returns : goal.returns
returns c = copying_shows c.args.first c.args.second _ (omega arith) (omega arith) (c.in_ok-words.ensures.words ∙ ap words_of c.in_ok-frag.ensures)
