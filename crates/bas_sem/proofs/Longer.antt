-- What more steps change: nothing but how far a run comes.
use Rattle.std.proofs.Common.{◌≡◌, ℕ, ◌+◌, ◌≤◌, List, [], ◌++◌, Option, None, Some, refl, sym, ap, subst, ◌∙◌, arith, append_assoc, append-nil, add-zero}
use Rattle.std.specs.Prelude.{ℤ, pos, Result, Ok, Err}
use Rattle.bas_store.specs.Cells.{Cell}
use Rattle.bas_store.specs.Stored.{Stored, Handler}
use Rattle.bas_value.specs.Errors.{error_text, unknown_variable}
use Rattle.bas_value.specs.Output.{Part, Closing, part_bytes}
use Rattle.bv_run.specs.Outcome.{IsPrefix}
use Rattle.bv_run.specs.declared.report.Report.{Report}
use Rattle.bas_sem.specs.State.{State}
use Rattle.bas_sem.specs.Course.{Course, Value, Raised, Over, Spent, Action, on_value, ◌>>=◌, ◌>>◌, give, over}
use Rattle.bas_sem.specs.Actions.{write, column_now, look, change, raised_to, raise_text, raise, or_raise, or_unknown, read, handler_now, set_handler}

-- the same state with more steps left
abbrev pub more : ℕ → State → State
more d s = record s { left = s.left + d }

pub more-zero : (s : State) → more 0 s ≡ s
more-zero s = ap (λ n. record s { left = n }) (add-zero s.left)

abbrev pub state_in : {A : Type 0} → Course A → State
state_in (Value v s) = s
state_in (Raised h s) = s
state_in (Over r s) = s
state_in (Spent s) = s

pub prefix_refl : (xs : List ℕ) → IsPrefix xs xs
prefix_refl xs = ([], sym (append-nil xs))

pub prefix_trans : (xs ys zs : List ℕ) → IsPrefix xs ys → IsPrefix ys zs → IsPrefix xs zs
prefix_trans xs ys zs a b = (a.0 ++ b.0, b.1 ∙ ap (λ l. l ++ b.0) a.1 ∙ append_assoc xs a.0 b.0)

-- no more steps are left, and the output has grown
pub record After (s t : State) : Type 0 where
  pub fewer : t.left ≤ s.left
  pub grown : IsPrefix s.output t.output

pub after_trans : (s t u : State) → After s t → After t u → After s u
after_trans s t u a b = record { fewer = omega (arith, a.fewer, b.fewer); grown = prefix_trans _ _ _ a.grown b.grown }

pub record Grows {A : Type 0} (m : Action A) : Type 0 where
  pub by : (s : State) → After s (state_in (m s))

-- What a run with d more steps comes to, where the shorter one comes to r: the same with d more left; or, where no step was
-- left, more output, and with no more steps the same.
abbrev pub Longer : {A : Type 0} → ℕ → Course A → Course A → Type 0
Longer d (Value v s) r' = r' ≡ Value v (more d s)
Longer d (Raised h s) r' = r' ≡ Raised h (more d s)
Longer d (Over p s) r' = r' ≡ Over p (more d s)
Longer d (Spent s) r' = IsPrefix s.output (state_in r').output × (d ≡ 0 → r' ≡ Spent s)

-- Two pieces with fuel f and g: the second, with d more steps, comes to what the first comes to.
pub record Pair {A : Type 0} (d f g : ℕ) (m m' : Action A) : Type 0 where
  pub grows : Grows m
  pub grows' : Grows m'
  pub longer : (s : State) → s.left ≤ f → s.left + d ≤ g → Longer d (m s) (m' (more d s))

-- with no more steps it is the same
pub longer-zero : {A : Type 0} (r r' : Course A) → Longer 0 r r' → r' ≡ r
longer-zero (Value v s) r' is = is ∙ ap (Value v) (more-zero s)
longer-zero (Raised h s) r' is = is ∙ ap (Raised h) (more-zero s)
longer-zero (Over p s) r' is = is ∙ ap (Over p) (more-zero s)
longer-zero (Spent s) r' is = is.1 refl

bind_after : {A B : Type 0} (n : A → Action B) → ((v : A) → Grows (n v)) → (r : Course A) → After (state_in r) (state_in (on_value r n))
bind_after n each (Value v s) = (each v).by s
bind_after n each (Raised h s) = record { fewer = omega arith; grown = prefix_refl _ }
bind_after n each (Over p s) = record { fewer = omega arith; grown = prefix_refl _ }
bind_after n each (Spent s) = record { fewer = omega arith; grown = prefix_refl _ }

pub bind_grows : {A B : Type 0} (m : Action A) (n : A → Action B) → Grows m → ((v : A) → Grows (n v)) → Grows (m >>= n)
bind_grows m n first each = record { by = λ s. after_trans _ _ _ (first.by s) (bind_after n each (m s)) }

bind_longer : {A B : Type 0} (d f g : ℕ) (n n' : A → Action B) → ((v : A) → Pair d f g (n v) (n' v)) → (at : State) → at.left ≤ f → at.left + d ≤ g
    → (r r' : Course A) → After at (state_in r) → Longer d r r' → Longer d (on_value r n) (on_value r' n')
bind_longer d f g n n' each at lf lg (Value v s) r' came is =
    subst (λ q. Longer d (n v s) (on_value q n')) (sym is) ((each v).longer s (omega (arith, came.fewer, lf)) (omega (arith, came.fewer, lg)))
bind_longer d f g n n' each at lf lg (Raised h s) r' came is = ap (λ q. on_value q n') is
bind_longer d f g n n' each at lf lg (Over p s) r' came is = ap (λ q. on_value q n') is
bind_longer d f g n n' each at lf lg (Spent s) r' came is =
    (prefix_trans _ _ _ is.0 (bind_after n' (λ v. (each v).grows') r').grown, λ none. ap (λ q. on_value q n') (is.1 none))

pub bind_pair : {A B : Type 0} (d f g : ℕ) (m m' : Action A) (n n' : A → Action B) → Pair d f g m m' → ((v : A) → Pair d f g (n v) (n' v))
    → Pair d f g (m >>= n) (m' >>= n')
bind_pair d f g m m' n n' first each = record {
  grows = bind_grows m n first.grows (λ v. (each v).grows);
  grows' = bind_grows m' n' first.grows' (λ v. (each v).grows');
  longer = λ s lf lg. bind_longer d f g n n' each s lf lg (m s) (m' (more d s)) (first.grows.by s) (first.longer s lf lg);
}

-- one piece after another
pub then_pair : {A B : Type 0} (d f g : ℕ) (m m' : Action A) (n n' : Action B) → Pair d f g m m' → Pair d f g n n' → Pair d f g (m >> n) (m' >> n')
then_pair d f g m m' n n' first second = bind_pair d f g m m' (λ _. n) (λ _. n') first (λ _. second)

-- A piece that doesn't look at the steps left.
abbrev pub shift : {A : Type 0} → ℕ → Course A → Course A
shift d (Value v s) = Value v (more d s)
shift d (Raised h s) = Raised h (more d s)
shift d (Over p s) = Over p (more d s)
shift d (Spent s) = Spent (more d s)

pub steady_longer : {A : Type 0} (d : ℕ) (r r' : Course A) → r' ≡ shift d r → Longer d r r'
steady_longer d (Value v s) r' is = is
steady_longer d (Raised h s) r' is = is
steady_longer d (Over p s) r' is = is
steady_longer d (Spent s) r' is =
    (subst (λ q. IsPrefix s.output (state_in q).output) (sym is) (prefix_refl _), λ none. is ∙ ap Spent (ap (λ k. more k s) none ∙ more-zero s))

pub steady_pair : {A : Type 0} (d f g : ℕ) (m : Action A) → Grows m → ((s : State) → m (more d s) ≡ shift d (m s)) → Pair d f g m m
steady_pair d f g m grows steady = record { grows = grows; grows' = grows; longer = λ s lf lg. steady_longer d (m s) (m (more d s)) (steady s) }

pub stays : (s : State) → After s s
stays s = record { fewer = omega arith; grown = prefix_refl _ }

pub give_pair : {A : Type 0} (d f g : ℕ) (v : A) → Pair d f g (give v) (give v)
give_pair d f g v = steady_pair d f g (give v) (record { by = stays }) (λ s. refl)

pub over_pair : (A : Type 0) (d f g : ℕ) (r : Report) → Pair {A = A} d f g (over r) (over r)
over_pair A d f g r = steady_pair d f g (over r) (record { by = stays }) (λ s. refl)

pub write_pair : (d f g : ℕ) (part : Part) → Pair d f g (write part) (write part)
write_pair d f g part = steady_pair d f g (write part) (record { by = λ s. record { fewer = omega arith; grown = (part_bytes part s.column, refl) } }) (λ s. refl)

pub column_pair : (d f g : ℕ) → Pair d f g column_now column_now
column_pair d f g = steady_pair d f g column_now (record { by = stays }) (λ s. refl)

pub look_pair : {A : Type 0} (d f g : ℕ) (of : Stored → A) → Pair d f g (look of) (look of)
look_pair d f g of = steady_pair d f g (look of) (record { by = stays }) (λ s. refl)

pub change_pair : (d f g : ℕ) (by : Stored → Stored) → Pair d f g (change by) (change by)
change_pair d f g by = steady_pair d f g (change by) (record { by = λ s. record { fewer = omega arith; grown = prefix_refl _ } }) (λ s. refl)

pub handler_now_pair : (d f g : ℕ) → Pair d f g handler_now handler_now
handler_now_pair d f g = steady_pair d f g handler_now (record { by = stays }) (λ s. refl)

pub set_handler_pair : (d f g : ℕ) (h : Option Handler) → Pair d f g (set_handler h) (set_handler h)
set_handler_pair d f g h = steady_pair d f g (set_handler h) (record { by = λ s. record { fewer = omega arith; grown = prefix_refl _ } }) (λ s. refl)

raised_after : (A : Type 0) (h : Option Handler) (error : ℤ) (text : List ℕ) (line : ℕ) (s : State) → After s (state_in {A = A} (raised_to h error text line s))
raised_after A None error text line s = record { fewer = omega arith; grown = (part_bytes (Closing text line) s.column, refl) }
raised_after A (Some h) error text line s = record { fewer = omega arith; grown = prefix_refl _ }

raised_steady : (A : Type 0) (h : Option Handler) (d : ℕ) (error : ℤ) (text : List ℕ) (line : ℕ) (s : State)
    → raised_to {A = A} h error text line (more d s) ≡ shift d (raised_to h error text line s)
raised_steady A None d error text line s = refl
raised_steady A (Some h) d error text line s = refl

pub raise_text_pair : (A : Type 0) (d f g : ℕ) (error : ℤ) (text : List ℕ) (line : ℕ) → Pair {A = A} d f g (raise_text error text line) (raise_text error text line)
raise_text_pair A d f g error text line =
    steady_pair d f g (raise_text error text line) (record { by = λ s. raised_after A _ error text line s }) (λ s. raised_steady A _ d error text line s)

pub raise_pair : (A : Type 0) (d f g : ℕ) (error line : ℕ) → Pair {A = A} d f g (raise error line) (raise error line)
raise_pair A d f g error line = raise_text_pair A d f g (pos error) (error_text error) line

pub or_raise_pair : (d f g line : ℕ) (r : Result ℤ ℕ) → Pair d f g (or_raise line r) (or_raise line r)
or_raise_pair d f g line (Ok v) = give_pair d f g v
or_raise_pair d f g line (Err e) = raise_pair ℤ d f g e line

pub or_unknown_pair : (d f g line : ℕ) (o : Option ℤ) → Pair d f g (or_unknown line o) (or_unknown line o)
or_unknown_pair d f g line None = raise_pair ℤ d f g unknown_variable line
or_unknown_pair d f g line (Some v) = give_pair d f g v

pub read_pair : (d f g line : ℕ) (cell : Cell) → Pair d f g (read line cell) (read line cell)
read_pair d f g line cell = bind_pair d f g _ _ _ _ (look_pair d f g _) (or_unknown_pair d f g line)
