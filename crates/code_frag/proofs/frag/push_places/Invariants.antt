use Rattle.std.proofs.Common.{◌≡◌, ◌++◌, map, take}
use Rattle.code_frag.specs.Words.{shifted_place}
use Rattle.code_frag.proofs.frag.push_places.Given as goal

abbrev pub invariant-loop-place : goal.invariant-loop-place
invariant-loop-place l = l.places.items ≡ l.fn.places.items ++ map (shifted_place l.before) (take l.place-index l.more)
