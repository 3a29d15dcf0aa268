use Rattle.std.proofs.Common.{◌≡◌, ◌++◌, length, false}
use Rattle.lister.specs.Listing.{listed}
use Rattle.lister.proofs.line.push_text.Given as goal

abbrev pub invariant-symbols : goal.invariant-symbols
invariant-symbols l = l.listing.items ++ listed 0 l.quoted l.rest ≡ l.fn.listing.items ++ listed 0 false l.fn.text

abbrev pub decreases-symbols : goal.decreases-symbols
decreases-symbols l = length l.rest
