use Rattle.std.proofs.Common.{◌≡◌, ◌+◌, ◌*◌, length}
use Rattle.library_tests.proofs.boards.add_loads.Given as goal

-- no label is added, and twelve items a word
abbrev pub invariant-loop-word : goal.invariant-loop-word
invariant-loop-word l = record {
  places : l.frag.places ≡ l.fn.frag.places;
  items : length l.frag.items ≡ length l.fn.frag.items + 12 * l.word-index;
}
