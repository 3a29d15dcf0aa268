-- What more steps change in a call, in a step, and where an error is handled.
use Rattle.std.proofs.Common.{◌≡◌, ℕ, zero, suc, ◌+◌, ◌≤◌, List, Option, None, refl, ap, subst, ◌∙◌, arith}
use Rattle.std.specs.Prelude.{Bool, true, false, length}
use Rattle.bas_store.specs.Cells.{Value as Content}
use Rattle.bas_store.specs.Stored.{Handler}
use Rattle.bas_value.specs.Errors.{no_room}
use Rattle.bv_run.specs.Outcome.{IsPrefix}
use Rattle.bas_sem.specs.State.{State}
use Rattle.bas_sem.specs.Course.{Course, Value, Raised, Over, Spent, Action, on_value, ◌>>◌}
use Rattle.bas_sem.specs.Actions.{take_step, spend}
use Rattle.bas_sem.specs.Calls.{Kind, Level, Body, Next, GoOn, Leave, onward, taken_here, handled, handling, call_ended, ended, slots_saved, values_assigned, has_room, enter, call}
use Rattle.bas_sem.proofs.Longer.{more, more-zero, state_in, prefix_refl, prefix_trans, After, after_trans, stays, Grows, Longer, Pair, bind_pair, then_pair, give_pair, look_pair, change_pair, handler_now_pair, raise_pair}
use Rattle.bas_sem.proofs.ItemPairs.{CallsPair}

-- an error is handled in a call, or goes on outwards
taken_after : (here : Bool) (h : Handler) (s : State) → After s (state_in (taken_here here h s))
taken_after true h s = record { fewer = omega arith; grown = prefix_refl _ }
taken_after false h s = stays s

handled_after : (level : Level) (r : Course Next) → After (state_in r) (state_in (handled level r))
handled_after level (Value v s) = stays s
handled_after level (Raised h s) = taken_after _ h s
handled_after level (Over p s) = stays s
handled_after level (Spent s) = stays s

taken_longer : (here : Bool) (d : ℕ) (h : Handler) (s : State) (r' : Course Next) → r' ≡ taken_here here h (more d s) → Longer d (taken_here here h s) r'
taken_longer true d h s r' is = is
taken_longer false d h s r' is = is

handled_longer : (level : Level) (d : ℕ) (r r' : Course Next) → Longer d r r' → Longer d (handled level r) (handled level r')
handled_longer level d (Value v s) r' is = ap (handled level) is
handled_longer level d (Raised h s) r' is = taken_longer _ d h s _ (ap (handled level) is)
handled_longer level d (Over p s) r' is = ap (handled level) is
handled_longer level d (Spent s) r' is = (prefix_trans _ _ _ is.0 (handled_after level r').grown, λ none. ap (handled level) (is.1 none))

pub handling_pair : (d f g : ℕ) (level : Level) (m m' : Action Next) → Pair d f g m m' → Pair d f g (handling level m) (handling level m')
handling_pair d f g level m m' same = record {
  grows = record { by = λ s. after_trans _ _ _ (same.grows.by s) (handled_after level (m s)) };
  grows' = record { by = λ s. after_trans _ _ _ (same.grows'.by s) (handled_after level (m' s)) };
  longer = λ s lf lg. handled_longer level d (m s) (m' (more d s)) (same.longer s lf lg);
}

-- the end of a call
ended_after : (depth : ℕ) (entry : Option Handler) (r : Course (Option Content)) → After (state_in r) (state_in (call_ended depth entry r))
ended_after depth entry (Value v s) = record { fewer = omega arith; grown = prefix_refl _ }
ended_after depth entry (Raised h s) = record { fewer = omega arith; grown = prefix_refl _ }
ended_after depth entry (Over p s) = stays s
ended_after depth entry (Spent s) = stays s

ended_longer : (depth : ℕ) (entry : Option Handler) (d : ℕ) (r r' : Course (Option Content)) → Longer d r r' → Longer d (call_ended depth entry r) (call_ended depth entry r')
ended_longer depth entry d (Value v s) r' is = ap (call_ended depth entry) is
ended_longer depth entry d (Raised h s) r' is = ap (call_ended depth entry) is
ended_longer depth entry d (Over p s) r' is = ap (call_ended depth entry) is
ended_longer depth entry d (Spent s) r' is = (prefix_trans _ _ _ is.0 (ended_after depth entry r').grown, λ none. ap (call_ended depth entry) (is.1 none))

pub ended_pair : (d f g depth : ℕ) (entry : Option Handler) (m m' : Action (Option Content)) → Pair d f g m m' → Pair d f g (ended depth entry m) (ended depth entry m')
ended_pair d f g depth entry m m' same = record {
  grows = record { by = λ s. after_trans _ _ _ (same.grows.by s) (ended_after depth entry (m s)) };
  grows' = record { by = λ s. after_trans _ _ _ (same.grows'.by s) (ended_after depth entry (m' s)) };
  longer = λ s lf lg. ended_longer depth entry d (m s) (m' (more d s)) (same.longer s lf lg);
}

-- a step, and then a piece
abbrev stepped : {A : Type 0} → Option ℕ → Action A → ℕ → State → Course A
stepped place m n s = on_value (spend place n s) (λ _. m)

stepped_after : {A : Type 0} (place : Option ℕ) (m : Action A) → Grows m → (n : ℕ) (s : State) → n ≡ s.left → After s (state_in (stepped place m n s))
stepped_after place m grows zero s is = stays s
stepped_after place m grows (suc n) s is =
    let then_on : _ = grows.by (record s { left = n; latest = place }) in
    record { fewer = omega (arith, then_on.fewer, is); grown = then_on.grown }

stepped_output : {A : Type 0} (place : Option ℕ) (m : Action A) → Grows m → (n : ℕ) (s : State) → IsPrefix s.output (state_in (stepped place m n s)).output
stepped_output place m grows zero s = prefix_refl _
stepped_output place m grows (suc n) s = (grows.by (record s { left = n; latest = place })).grown

stepped_longer : {A : Type 0} (place : Option ℕ) (d f g : ℕ) (m m' : Action A) → Pair d f g m m' → (n : ℕ) (s : State) → n ≤ suc f → n + d ≤ suc g
    → Longer d (stepped place m n s) (stepped place m' (n + d) (more d s))
stepped_longer place d f g m m' same zero s lf lg = (
  stepped_output place m' same.grows' (0 + d) (more d s),
  λ none. ap (λ k. stepped place m' (0 + k) (more k s)) none ∙ ap Spent (more-zero s),
)
stepped_longer place d f g m m' same (suc n) s lf lg =
    let e : suc (n + d) ≡ suc n + d = omega arith in
    subst (λ k. Longer d (stepped place m (suc n) s) (stepped place m' k (more d s))) e
    (same.longer (record s { left = n; latest = place }) (omega (arith, lf)) (omega (arith, lg)))

pub step_grows : {A : Type 0} (place : Option ℕ) (m : Action A) → Grows m → Grows (take_step place >> m)
step_grows place m grows = record { by = λ s. stepped_after place m grows s.left s refl }

pub step_pair : {A : Type 0} (place : Option ℕ) (d f g f' g' : ℕ) (m m' : Action A) → f' ≤ suc f → g' ≤ suc g → Pair d f g m m'
    → Pair d f' g' (take_step place >> m) (take_step place >> m')
step_pair place d f g f' g' m m' lf lg same = record {
  grows = step_grows place m same.grows;
  grows' = step_grows place m' same.grows';
  longer = λ s sf sg. stepped_longer place d f g m m' same s.left s (omega (arith, lf, sf)) (omega (arith, lg, sg));
}

-- with no step left nothing is done
pub step_none : {A : Type 0} (place : Option ℕ) (m : Action A) (s : State) → s.left ≡ 0 → (take_step place >> m) s ≡ Spent s
step_none place m s none = ap (λ n. stepped place m n s) none

-- calls of two ways of executing that come to the same
pub record ExecutePair (d f g : ℕ) (execute execute' : Level → ℕ → Action (Option Content)) : Type 0 where
  pub of : (level : Level) (place : ℕ) → Pair d f g (execute level place) (execute' level place)

enter_pair : (d f g : ℕ) (execute execute' : Level → ℕ → Action (Option Content)) → ExecutePair d f g execute execute'
    → (fits : Bool) (level : Level) (line : ℕ) (kind : Kind) (body : Body) (values : List Content)
    → Pair d f g (enter fits execute level line kind body values) (enter fits execute' level line kind body values)
enter_pair d f g execute execute' same false level line kind body values = raise_pair (Option Content) d f g no_room line
enter_pair d f g execute execute' same true level line kind body values =
    then_pair d f g _ _ _ _ (change_pair d f g (λ s. values_assigned body.formals values (slots_saved (suc level.depth) body.formals s)))
    (bind_pair d f g _ _ _ _ (handler_now_pair d f g) (λ entry. ended_pair d f g (suc level.depth) entry _ _
    (step_pair None d f g f g _ _ (omega arith) (omega arith) (same.of (record { kind = kind; depth = suc level.depth }) body.at))))

pub call_pair : (d f g : ℕ) (execute execute' : Level → ℕ → Action (Option Content)) → ExecutePair d f g execute execute'
    → (level : Level) → CallsPair d f g (call execute level) (call execute' level)
call_pair d f g execute execute' same level = record {
  of = λ line kind body values. bind_pair d f g _ _ _ _ (look_pair d f g (has_room level.depth (length body.formals)))
      (λ fits. enter_pair d f g execute execute' same fits level line kind body values);
}

pub onward_pair : (d f g : ℕ) (from from' : ℕ → Action (Option Content)) → ((place : ℕ) → Pair d f g (from place) (from' place))
    → (next : Next) → Pair d f g (onward from next) (onward from' next)
onward_pair d f g from from' same (GoOn place) = same place
onward_pair d f g from from' same (Leave v) = give_pair d f g v
