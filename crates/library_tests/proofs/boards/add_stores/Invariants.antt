use Rattle.std.proofs.Common.{◌≡◌, ◌+◌, ◌*◌, length}
use Rattle.library_tests.proofs.boards.add_stores.Given as goal

-- no label is added, and nine items a word
abbrev pub invariant-loop-word : goal.invariant-loop-word
invariant-loop-word l = record {
  places : l.frag.places ≡ l.fn.frag.places;
  items : length l.frag.items ≡ length l.fn.frag.items + 9 * l.word-index;
}
