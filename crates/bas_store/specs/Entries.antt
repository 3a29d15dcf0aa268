-- How open entries in memory stand for what is open. This project's own.
use Rattle.std.specs.Prelude.{ℕ, ◌-◌, List, [], ◌∷◌, Option, None, Some, length, drop}
use Rattle.bas_store.specs.declared.cell.IntegerCell.{IntegerCell}
use Rattle.bas_store.specs.declared.cell.IntegerCell.TheVariants as cells
use Rattle.bas_store.specs.declared.opened.ClosingWord.{ClosingWord}
use Rattle.bas_store.specs.declared.opened.ClosingWord.TheVariants as closing
use Rattle.bas_store.specs.declared.opened.FoundEntry.{FoundEntry}
use Rattle.bas_store.specs.declared.opened.OpenEntry.{OpenEntry}
use Rattle.bas_store.specs.declared.opened.OpeningWord.{OpeningWord}
use Rattle.bas_store.specs.declared.opened.OpeningWord.TheVariants as opening
use Rattle.bas_store.specs.Cells.{Cell, Resident, Integer}
use Rattle.bas_store.specs.Opened.{Closer, AnyNext, NextOf, Until, EndWhile, Return, Found}
use Rattle.bas_store.specs.Stored.{Opening, For, Repeat, While, Gosub, Entry}

-- the cell of an integer
abbrev pub cell_of : IntegerCell → Cell
cell_of (cells.Resident index) = Resident index
cell_of (cells.Named name) = Integer name

-- what is open
abbrev pub opening_of : OpeningWord → Opening
opening_of (opening.For cell limit step) = For (cell_of cell) limit step
opening_of opening.Repeat = Repeat
opening_of opening.While = While
opening_of opening.Gosub = Gosub

-- a closing word
abbrev pub closer_of : ClosingWord → Closer
closer_of closing.AnyNext = AnyNext
closer_of (closing.NextOf cell) = NextOf (cell_of cell)
closer_of closing.Until = Until
closer_of closing.EndWhile = EndWhile
closer_of closing.Return = Return

-- an open entry
abbrev pub entry_of : OpenEntry → Entry
entry_of e = record { call = e.call; opening = opening_of e.opening; at = e.at }

-- open entries
abbrev pub entries_of : List OpenEntry → List Entry
entries_of [] = []
entries_of (e ∷ es) = entry_of e ∷ entries_of es

-- the lowest n of entries, where there are as many
abbrev pub lowest : ℕ → List Entry → List Entry
lowest n es = drop (length es - n) es

-- an entry among others, if one was found
abbrev pub found_in : Option FoundEntry → List Entry → Option Found
found_in None es = None
found_in (Some f) es = Some (record { entry = entry_of f.entry; below = lowest f.below es })
