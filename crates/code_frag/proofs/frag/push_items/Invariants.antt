use Rattle.std.proofs.Common.{◌≡◌, ◌++◌, map, take}
use Rattle.code_frag.specs.Words.{shifted_item}
use Rattle.code_frag.proofs.frag.push_items.Given as goal

abbrev pub invariant-loop-item : goal.invariant-loop-item
invariant-loop-item l = l.items.items ≡ l.fn.items.items ++ map (shifted_item l.number) (take l.item-index l.more)
