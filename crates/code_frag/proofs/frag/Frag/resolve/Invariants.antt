use Rattle.std.proofs.Common.{◌≡◌, ◌++◌, drop}
use Rattle.std.specs.Vec.{vec_len}
use Rattle.code_frag.specs.Words.{words_from}
use Rattle.code_frag.proofs.frag.Frag.resolve.Given as goal

abbrev pub invariant-loop-item : goal.invariant-loop-item
invariant-loop-item l = record {
  so_far : l.words.items ++ words_from (drop l.item-index l.self.items) l.self.places l.item-index ≡ words_from l.self.items l.self.places 0;
  count : vec_len l.words ≡ l.item-index;
}
