use Rattle.std.proofs.Common.{◌≡◌, drop, map, string_bytes}
use Rattle.basv_words.specs.Reader.{has_empty_value}
use Rattle.basv_words.proofs.reader.has_empty_value.Given as goal

abbrev pub invariant-loop-word : goal.invariant-loop-word
invariant-loop-word l = has_empty_value (map string_bytes (drop l.word-index l.words)) ≡ has_empty_value (map string_bytes l.words)
