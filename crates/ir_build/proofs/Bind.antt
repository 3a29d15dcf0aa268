-- Laws of pieces that follow one another.
use Rattle.std.proofs.Common.{◌≡◌, refl, sym, ◌∙◌}
use Rattle.bas_sem.specs.State.{State}
use Rattle.bas_sem.specs.Course.{Course, Value, Raised, Over, Spent, Action, on_value, ◌>>=◌}

on_value_assoc : {A B C : Type 0} (r : Course A) (f : A → Action B) (g : B → Action C) → on_value (on_value r f) g ≡ on_value r (λ v. f v >>= g)
on_value_assoc (Value v s) f g = refl
on_value_assoc (Raised h s) f g = refl
on_value_assoc (Over p s) f g = refl
on_value_assoc (Spent s) f g = refl

-- three pieces
pub bind_assoc : {A B C : Type 0} (m : Action A) (f : A → Action B) (g : B → Action C) (s : State) → ((m >>= f) >>= g) s ≡ (m >>= (λ v. f v >>= g)) s
bind_assoc m f g s = on_value_assoc (m s) f g

-- a piece, and then one of two that are the same
pub on_value_same : {A B : Type 0} (r : Course A) (f g : A → Action B) → ((v : A) (s : State) → f v s ≡ g v s) → on_value r f ≡ on_value r g
on_value_same (Value v s) f g same = same v s
on_value_same (Raised h s) f g same = refl
on_value_same (Over p s) f g same = refl
on_value_same (Spent s) f g same = refl

pub bind_same : {A B : Type 0} (m : Action A) (f g : A → Action B) (s : State) → ((v : A) (t : State) → f v t ≡ g v t) → (m >>= f) s ≡ (m >>= g) s
bind_same m f g s same = on_value_same (m s) f g same

-- a piece whose next one is two in a row
pub bind_then : {A B C : Type 0} (m : Action A) (f : A → Action B) (g : B → Action C) (h : A → Action C) (s : State) → ((v : A) (t : State) → h v t ≡ (f v >>= g) t)
    → (m >>= h) s ≡ ((m >>= f) >>= g) s
bind_then m f g h s same = bind_same m h (λ v. f v >>= g) s same ∙ sym (bind_assoc m f g s)
