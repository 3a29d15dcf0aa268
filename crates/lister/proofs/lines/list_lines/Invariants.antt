use Rattle.std.proofs.Common.{◌≡◌, take}
use Rattle.lister.specs.Listings.{listings}
use Rattle.lister.proofs.lines.list_lines.Given as goal

abbrev pub invariant-loop-line : goal.invariant-loop-line
invariant-loop-line l = l.text.items ≡ listings (take l.line-index l.lines)
