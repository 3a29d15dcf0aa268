use Rattle.std.proofs.Common.{◌≡◌, drop}
use Rattle.bas_store.specs.Opened.{nearest}
use Rattle.bas_store.specs.Entries.{closer_of, entries_of}
use Rattle.bas_store.proofs.opened.OpenEntries.nearest.Given as goal

-- the entries before the place were passed over
abbrev pub invariant-loop-i : goal.invariant-loop-i
invariant-loop-i l = nearest l.call (closer_of l.word) l.self ≡ nearest l.call (closer_of l.word) (entries_of (drop l.i l.self-inside.room.items))
