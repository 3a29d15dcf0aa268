use Rattle.std.proofs.Common.{ap, ◌∙◌, arith}
use Rattle.code_frag.specs.Words.{words_of}
use Rattle.frag_tests.proofs.ShowsLaws.{division_shows}
use Rattle.frag_tests.proofs.division.division_words.Goals as goal

pub returns : goal.returns
returns c = division_shows c.args.x c.args.y _ (omega arith) (omega arith) c.requires (c.in_ok-words.ensures.words ∙ ap words_of c.in_ok-frag.ensures)
