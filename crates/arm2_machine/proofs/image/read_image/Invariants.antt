use Rattle.std.proofs.Common.{◌≡◌, ◌*◌, take, drop, flat_map, length}
use Rattle.bv_base.specs.Words.{word_bytes, AreWords}
use Rattle.arm2_machine.proofs.image.read_image.Given as goal

abbrev pub invariant-loop-index : goal.invariant-loop-index
invariant-loop-index l =
    (length l.words.items ≡ l.index)
    × (take (4 * l.index) (drop 8 l.bytes) ≡ flat_map word_bytes l.words.items)
    × AreWords l.words.items
