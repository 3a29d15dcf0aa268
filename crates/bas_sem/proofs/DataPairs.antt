-- What more steps change where DATA is read: nothing.
use Rattle.std.proofs.Common.{ℕ, List, Option, None, Some, refl, arith}
use Rattle.std.specs.Prelude.{slice_get}
use Rattle.bas_value.specs.Errors.{no_such_line, out_of_data}
use Rattle.bv_num.specs.Value.{data_value}
use Rattle.bas_sem.specs.Data.{item_taken, place_now, next_item, next_number, restore_to, restore}
use Rattle.bas_sem.proofs.Longer.{Pair, steady_pair, bind_pair, raise_pair, or_raise_pair, prefix_refl, stays}

module _ (d f g : ℕ) where
  item_taken_pair : (o : Option (List ℕ)) (line : ℕ) → Pair d f g (item_taken o line) (item_taken o line)
  item_taken_pair None line = raise_pair (List ℕ) d f g out_of_data line
  item_taken_pair (Some text) line =
      steady_pair d f g (item_taken (Some text) line) (record { by = λ s. record { fewer = omega arith; grown = prefix_refl _ } }) (λ s. refl)

  pub next_item_pair : (texts : List (List ℕ)) (line : ℕ) → Pair d f g (next_item texts line) (next_item texts line)
  next_item_pair texts line =
      bind_pair d f g _ _ _ _ (steady_pair d f g place_now (record { by = stays }) (λ s. refl)) (λ place. item_taken_pair (slice_get texts place) line)

  pub next_number_pair : (texts : List (List ℕ)) (line : ℕ) → Pair d f g (next_number texts line) (next_number texts line)
  next_number_pair texts line = bind_pair d f g _ _ _ _ (next_item_pair texts line) (λ text. or_raise_pair d f g line (data_value text))

  pub restore_to_pair : (place : ℕ) → Pair d f g (restore_to place) (restore_to place)
  restore_to_pair place = steady_pair d f g (restore_to place) (record { by = λ s. record { fewer = omega arith; grown = prefix_refl _ } }) (λ s. refl)

  pub restore_pair : (to : Option ℕ) (line : ℕ) → Pair d f g (restore to line) (restore to line)
  restore_pair None line = raise_pair (Unit {0}) d f g no_such_line line
  restore_pair (Some place) line = restore_to_pair place
