use Rattle.std.proofs.Common.{◌≡◌, take, flat_map}
use Rattle.token_file.specs.Lines.{record_of}
use Rattle.token_file.proofs.write.write_file.Given as goal

abbrev pub invariant-loop-line : goal.invariant-loop-line
invariant-loop-line l = l.bytes.items ≡ flat_map record_of (take l.line-index l.lines)
