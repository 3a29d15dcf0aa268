-- What opens loops and GOSUBs, and what their closing words do (BBC BASIC Reference Manual: FOR, NEXT, REPEAT, UNTIL, WHILE,
-- ENDWHILE, GOSUB, RETURN). A closing word drops the open entries of its call above the nearest of its kind, and goes on with that
-- one; where there is none, it raises its error, and drops nothing.
use Rattle.std.specs.Prelude.{ℕ, ℤ, pos, Bool, true, false, List, ◌∷◌, Option, None, Some, int_le, if◌then◌else◌}
use Rattle.std.specs.Ordering.{int_eq}
use Rattle.bas_store.specs.Opened.{Closer, Until, Found, nearest, closing_error, can_open, with_opened}
use Rattle.bas_store.specs.Stored.{Opening, For, Entry, number_in, or_zero}
use Rattle.bas_value.specs.Errors.{no_room}
use Rattle.bv_num.specs.Operation.{operation, Add, is_negative}
use Rattle.bv_run.specs.declared.report.Report.TheVariants.{Done}
use Rattle.bas_sem.specs.Course.{Action, ◌>>=◌, ◌>>◌, give, over}
use Rattle.bas_sem.specs.Actions.{look, change, assign, raise, or_raise}

-- ---- what opens

-- an entry of the call at a depth opens, with the place after its item, if there is room for it
abbrev pub open_if : Bool → ℕ → ℕ → Opening → ℕ → Action (Unit {0})
open_if false depth line opening after = raise no_room line
open_if true depth line opening after = change (with_opened depth opening after)

-- an entry opens, or there is no room for it: error 37 at a line
abbrev pub opens : ℕ → ℕ → Opening → ℕ → Action (Unit {0})
opens depth line opening after = look can_open >>= (λ fits. open_if fits depth line opening after)

-- ---- what is closed

-- the entry that is found, or an error at a line
abbrev pub found_or : ℕ → ℕ → Option Found → Action Found
found_or error line None = raise error line
found_or error line (Some f) = give f

-- the nearest entry that a word closes, or the word's error at a line
abbrev pub found : ℕ → ℕ → Closer → Action Found
found depth line closer = look (λ s. s.opened) >>= (λ es. found_or (closing_error depth closer es) line (nearest depth closer es))

-- what is open from now on
abbrev pub leave_open : List Entry → Action (Unit {0})
leave_open es = change (λ s. record s { opened = es })

-- RETURN and ENDWHILE: the nearest entry is closed, and the place after its item is given
abbrev pub closing : ℕ → ℕ → Closer → Action ℕ
closing depth line closer = do
  f ← found depth line closer
  leave_open f.below
  give f.entry.at

-- the entry stays open where it is gone round again, and else is closed
abbrev pub kept_if : Bool → Found → List Entry
kept_if true f = f.entry ∷ f.below
kept_if false f = f.below

-- where it is gone round again
abbrev pub again_at : Bool → Found → Option ℕ
again_at true f = Some f.entry.at
again_at false f = None

-- A loop is gone round again, or is closed.
abbrev pub settle : Bool → Found → Action (Option ℕ)
settle again f = leave_open (kept_if again f) >> give (again_at again f)

-- UNTIL with a value: where it is 0 the loop is gone round again
abbrev pub until : ℕ → ℕ → ℤ → Action (Option ℕ)
until depth line value = found depth line Until >>= settle (int_eq value (pos 0))

-- ---- NEXT

-- Whether a FOR goes round again with a value: up to its limit, or down to it where the step is negative.
abbrev pub goes_round : ℤ → ℤ → ℤ → Bool
goes_round limit step value = if is_negative step then int_le limit value else int_le value limit

-- The step is added to a variable, and the loop goes round again or is closed. An error leaves all as it was.
abbrev pub turned : ℕ → Opening → Found → Action (Option ℕ)
turned line (For cell limit step) f = do
  old ← look (λ s. or_zero (number_in cell s))
  new ← or_raise line (operation Add old step)
  assign cell new
  settle (goes_round limit step new) f
turned line _ f = over Done

-- NEXT of the nearest entry that it closes, which is a FOR
abbrev pub next : ℕ → ℕ → Closer → Action (Option ℕ)
next depth line closer = found depth line closer >>= (λ f. turned line f.entry.opening f)
