-- Open loops and GOSUBs, and the words that close them (BBC BASIC Reference Manual: FOR, NEXT, REPEAT, UNTIL, WHILE, ENDWHILE,
-- GOSUB, RETURN). A closing word looks at the open entries of the call that runs, the latest first. How many can be open is this
-- project's own.
use Rattle.std.specs.Prelude.{ℕ, ◌==◌, Bool, true, false, List, [], ◌∷◌, Option, None, Some, length, nat_lt, if◌then◌else◌}
use Rattle.bas_store.specs.Cells.{Cell, same_cell}
use Rattle.bas_store.specs.Stored.{Opening, For, Repeat, While, Gosub, Entry, Stored, most_opened}
use Rattle.bas_value.specs.Errors.{no_for, other_for, no_subroutine, no_repeat, no_while}

-- A closing word: NEXT without a variable, NEXT of a variable's cell, UNTIL, ENDWHILE, RETURN.
pub data Closer : Type 0 where
  AnyNext : Closer
  NextOf : (cell : Cell) → Closer
  Until EndWhile Return : Closer

-- whether a word closes what is open
abbrev pub closes : Closer → Opening → Bool
closes AnyNext (For cell limit step) = true
closes (NextOf named) (For cell limit step) = same_cell named cell
closes Until Repeat = true
closes EndWhile While = true
closes Return Gosub = true
closes _ _ = false

-- an open entry, and those below it
pub record Found : Type 0 where
  pub entry : Entry
  pub below : List Entry

-- the nearest entry of a call that a word closes, if there is one
abbrev pub nearest : ℕ → Closer → List Entry → Option Found
nearest depth closer [] = None
nearest depth closer (e ∷ es) =
    if e.call == depth then (if closes closer e.opening then Some (record { entry = e; below = es }) else nearest depth closer es) else None

-- the error of NEXT of a variable, where there may be a FOR of another
abbrev pub next_error : Option Found → ℕ
next_error None = no_for
next_error (Some other) = other_for

-- the error of a word that closes nothing
abbrev pub closing_error : ℕ → Closer → List Entry → ℕ
closing_error depth AnyNext es = no_for
closing_error depth (NextOf cell) es = next_error (nearest depth AnyNext es)
closing_error depth Until es = no_repeat
closing_error depth EndWhile es = no_while
closing_error depth Return es = no_subroutine

-- whether one more entry can be open
abbrev pub can_open : Stored → Bool
can_open s = nat_lt (length s.opened) most_opened

-- an entry opens, of a call at a depth, with the place after the item that opens it
abbrev pub with_opened : ℕ → Opening → ℕ → Stored → Stored
with_opened depth opening at s = record s { opened = record { call = depth; opening = opening; at = at } ∷ s.opened }
