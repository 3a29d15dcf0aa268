-- What more steps change where loops and GOSUBs open and close: nothing.
use Rattle.std.proofs.Common.{ℕ, List, Option, None, Some}
use Rattle.std.specs.Prelude.{ℤ, pos, Bool, true, false}
use Rattle.std.specs.Ordering.{int_eq}
use Rattle.bas_store.specs.Opened.{Closer, Until, Found, nearest, closing_error, can_open, with_opened}
use Rattle.bas_store.specs.Stored.{Opening, For, Repeat, While, Gosub, Entry, number_in, or_zero, with_number}
use Rattle.bas_value.specs.Errors.{no_room}
use Rattle.bv_num.specs.Operation.{operation, Add}
use Rattle.bv_run.specs.declared.report.Report.TheVariants.{Done}
use Rattle.bas_sem.specs.Loops.{open_if, opens, found_or, found, leave_open, closing, kept_if, again_at, settle, until, goes_round, turned, next}
use Rattle.bas_sem.proofs.Longer.{Pair, bind_pair, then_pair, give_pair, over_pair, look_pair, change_pair, raise_pair, or_raise_pair}

module _ (d f g : ℕ) where
  open_if_pair : (fits : Bool) (depth line : ℕ) (opening : Opening) (after : ℕ) → Pair d f g (open_if fits depth line opening after) (open_if fits depth line opening after)
  open_if_pair false depth line opening after = raise_pair (Unit {0}) d f g no_room line
  open_if_pair true depth line opening after = change_pair d f g (with_opened depth opening after)

  pub opens_pair : (depth line : ℕ) (opening : Opening) (after : ℕ) → Pair d f g (opens depth line opening after) (opens depth line opening after)
  opens_pair depth line opening after = bind_pair d f g _ _ _ _ (look_pair d f g can_open) (λ fits. open_if_pair fits depth line opening after)

  found_or_pair : (error line : ℕ) (o : Option Found) → Pair d f g (found_or error line o) (found_or error line o)
  found_or_pair error line None = raise_pair Found d f g error line
  found_or_pair error line (Some x) = give_pair d f g x

  found_pair : (depth line : ℕ) (closer : Closer) → Pair d f g (found depth line closer) (found depth line closer)
  found_pair depth line closer = bind_pair d f g _ _ _ _ (look_pair d f g (λ s. s.opened)) (λ es. found_or_pair (closing_error depth closer es) line (nearest depth closer es))

  leave_open_pair : (es : List Entry) → Pair d f g (leave_open es) (leave_open es)
  leave_open_pair es = change_pair d f g (λ s. record s { opened = es })

  pub closing_pair : (depth line : ℕ) (closer : Closer) → Pair d f g (closing depth line closer) (closing depth line closer)
  closing_pair depth line closer =
      bind_pair d f g _ _ _ _ (found_pair depth line closer) (λ x. then_pair d f g _ _ _ _ (leave_open_pair x.below) (give_pair d f g x.entry.at))

  settle_pair : (again : Bool) (x : Found) → Pair d f g (settle again x) (settle again x)
  settle_pair again x = then_pair d f g _ _ _ _ (leave_open_pair (kept_if again x)) (give_pair d f g (again_at again x))

  pub until_pair : (depth line : ℕ) (value : ℤ) → Pair d f g (until depth line value) (until depth line value)
  until_pair depth line value = bind_pair d f g _ _ _ _ (found_pair depth line Until) (λ x. settle_pair (int_eq value (pos 0)) x)

  turned_pair : (line : ℕ) (opening : Opening) (x : Found) → Pair d f g (turned line opening x) (turned line opening x)
  turned_pair line (For cell limit step) x =
      bind_pair d f g _ _ _ _ (look_pair d f g (λ s. or_zero (number_in cell s))) (λ old. bind_pair d f g _ _ _ _ (or_raise_pair d f g line (operation Add old step))
      (λ new. then_pair d f g _ _ _ _ (change_pair d f g (with_number cell new)) (settle_pair (goes_round limit step new) x)))
  turned_pair line Repeat x = over_pair (Option ℕ) d f g Done
  turned_pair line While x = over_pair (Option ℕ) d f g Done
  turned_pair line Gosub x = over_pair (Option ℕ) d f g Done

  pub next_pair : (depth line : ℕ) (closer : Closer) → Pair d f g (next depth line closer) (next depth line closer)
  next_pair depth line closer = bind_pair d f g _ _ _ _ (found_pair depth line closer) (λ x. turned_pair line x.entry.opening x)
