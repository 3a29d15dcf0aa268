use Rattle.std.proofs.Common.{◌≡◌, ◌+◌, length, drop, sum_by}
use Rattle.profile_check.specs.Programs.{file_size}
use Rattle.profile_check.proofs.size.file_size.Given as goal

abbrev pub invariant-loop-line : goal.invariant-loop-line
invariant-loop-line l = l.size + sum_by (λ line. 4 + length line.text) (drop l.line-index l.lines) ≡ file_size l.lines
