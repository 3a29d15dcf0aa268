-- What holds of a front that a parser finds, step by step, and how fronts are put together.
use Rattle.std.proofs.Common.{◌≡◌, Bool, true, false, List, [], ◌∷◌, ◌++◌, Some, None, if◌then◌else◌, refl, ap, sym, ◌∙◌, append_assoc}
use Rattle.bas_ast.specs.declared.terminals.Terminal.{Terminal}
use Rattle.bas_ast.specs.declared.terminals.Terminal.TheVariants as t
use Rattle.expr_parse.specs.Parse.{Front, Parser, on_front, or_front, on_some, after_close, after_comma, closed, row_on}
use Rattle.expr_parse.specs.Longest.{Fronts}

-- what was found, if anything was, has a property
unfoldable pub Holds : {A : Type 0} → (A → List Terminal → Type 0) → Front A → Type 0
Holds P None = Unit {0}
Holds P (Some z) = P z.0 z.1

pub holds_some : {A : Type 0} (P : A → List Terminal → Type 0) (x : A) (q : List Terminal) → P x q → Holds P (Some (x, q))
unfolding Holds
holds_some P x q h = h

pub holds_none : {A : Type 0} (P : A → List Terminal → Type 0) → Holds P None
unfolding Holds
holds_none P = tt

pub of_some : {A : Type 0} (P : A → List Terminal → Type 0) (x : A) (q : List Terminal) → Holds P (Some (x, q)) → P x q
unfolding Holds
of_some P x q h = h

pub holds_as : {A : Type 0} (P Q : A → List Terminal → Type 0) (m : Front A) → Holds P m
    → ((x : A) (q : List Terminal) → P x q → Q x q) → Holds Q m
unfolding Holds
holds_as P Q None h f = tt
holds_as P Q (Some z) h f = f z.0 z.1 h

pub holds_on : {A B : Type 0} (P : A → List Terminal → Type 0) (Q : B → List Terminal → Type 0) (m : Front A) (go : A → Parser B)
    → Holds P m → ((x : A) (q : List Terminal) → P x q → Holds Q (go x q)) → Holds Q (on_front m go)
unfolding Holds on_front
holds_on P Q None go h f = tt
holds_on P Q (Some z) go h f = f z.0 z.1 h

pub holds_or : {A B : Type 0} (P : A → List Terminal → Type 0) (Q : B → List Terminal → Type 0) (m : Front A) (go : A → Parser B) (other : Front B)
    → Holds P m → ((x : A) (q : List Terminal) → P x q → Holds Q (go x q)) → Holds Q other → Holds Q (or_front m go other)
unfolding Holds or_front
holds_or P Q None go other h f g = g
holds_or P Q (Some z) go other h f g = f z.0 z.1 h

pub holds_if : {A : Type 0} (P : A → List Terminal → Type 0) (b : Bool) (m : Front A) → (b ≡ true → Holds P m)
    → Holds P (if b then m else None)
unfolding Holds
holds_if P true m f = f refl
holds_if P false m f = tt

pub on_close : {B : Type 0} (Q : B → List Terminal → Type 0) (r : List Terminal) (go : List Terminal → Front B) (other : Front B)
    → ((q : List Terminal) → r ≡ t.Close ∷ q → Holds Q (go q)) → Holds Q other → Holds Q (on_some (after_close r) go other)
unfolding on_some
on_close Q [] go other f g = g
on_close Q (t.Close ∷ q) go other f g = f q refl
on_close Q (_ ∷ q) go other f g = g

pub on_comma : {B : Type 0} (Q : B → List Terminal → Type 0) (r : List Terminal) (go : List Terminal → Front B) (other : Front B)
    → ((q : List Terminal) → r ≡ t.Comma ∷ q → Holds Q (go q)) → Holds Q other → Holds Q (on_some (after_comma r) go other)
unfolding on_some
on_comma Q [] go other f g = g
on_comma Q (t.Comma ∷ q) go other f g = f q refl
on_comma Q (_ ∷ q) go other f g = g

pub closed_at : {A : Type 0} (P : A → List Terminal → Type 0) (x : A) (r : List Terminal)
    → ((q : List Terminal) → r ≡ t.Close ∷ q → P x q) → Holds P (closed x r)
closed_at P x r f = on_close P r (λ q. Some (x, q)) None (λ q e. holds_some P x q (f q e)) (holds_none P)

pub row_at : {A : Type 0} (P : List A → List Terminal → Type 0) (more : List A → Parser (List A)) (xs : List A) (r : List Terminal)
    → ((q : List Terminal) → r ≡ t.Close ∷ q → P xs q) → ((q : List Terminal) → r ≡ t.Comma ∷ q → Holds P (more xs q))
    → Holds P (row_on more xs r)
row_at P more xs r f g = on_close P r _ _ (λ q e. holds_some P xs q (f q e)) (on_comma P r _ _ g (holds_none P))

-- ---- fronts put together

pub two : (r a b q q1 q2 : List Terminal) (c : Terminal) → r ≡ a ++ q → q ≡ c ∷ q1 → q1 ≡ b ++ q2 → r ≡ (a ++ c ∷ b) ++ q2
two r a b q q1 q2 c f e g = f ∙ (ap (λ z. a ++ z) e ∙ (ap (λ z. a ++ c ∷ z) g ∙ sym (append_assoc a (c ∷ b) q2)))

glue : (r a b q q2 : List Terminal) → r ≡ a ++ q → q ≡ b ++ q2 → r ≡ (a ++ b) ++ q2
glue r a b q q2 f g = f ∙ (ap (λ z. a ++ z) g ∙ sym (append_assoc a b q2))

-- a terminal, and what stands after it
pub fronts_over : {A B : Type 0} (Is : List Terminal → A → Type 0) (Is' : List Terminal → B → Type 0) (c : Terminal) (r : List Terminal) (x : A)
    (q : List Terminal) (z : B) → Fronts Is r x q → ((a : List Terminal) → Is a x → Is' (c ∷ a) z) → Fronts Is' (c ∷ r) z q
fronts_over Is Is' c r x q z f k = record { front = c ∷ f.front; split = ap (λ z. c ∷ z) f.split; is = k f.front f.is }

-- two fronts with a terminal between
pub fronts_two : {A B C : Type 0} (Is : List Terminal → A → Type 0) (Is2 : List Terminal → B → Type 0) (Is' : List Terminal → C → Type 0)
    (c : Terminal) (r q q1 q2 : List Terminal) (x : A) (y : B) (z : C) → Fronts Is r x q → q ≡ c ∷ q1 → Fronts Is2 q1 y q2
    → ((a b : List Terminal) → Is a x → Is2 b y → Is' (a ++ c ∷ b) z) → Fronts Is' r z q2
fronts_two Is Is2 Is' c r q q1 q2 x y z f e g k =
    record { front = f.front ++ c ∷ g.front; split = two r f.front g.front q q1 q2 c f.split e g.split; is = k f.front g.front f.is g.is }

-- two fronts
pub fronts_glue : {A B C : Type 0} (Is : List Terminal → A → Type 0) (Is2 : List Terminal → B → Type 0) (Is' : List Terminal → C → Type 0)
    (r q q2 : List Terminal) (x : A) (y : B) (z : C) → Fronts Is r x q → Fronts Is2 q y q2
    → ((a b : List Terminal) → Is a x → Is2 b y → Is' (a ++ b) z) → Fronts Is' r z q2
fronts_glue Is Is2 Is' r q q2 x y z f g k =
    record { front = f.front ++ g.front; split = glue r f.front g.front q q2 f.split g.split; is = k f.front g.front f.is g.is }

-- a front, and a terminal that closes it
pub fronts_close : {A B : Type 0} (Is : List Terminal → A → Type 0) (Is' : List Terminal → B → Type 0) (c : Terminal)
    (r q q1 : List Terminal) (x : A) (z : B) → Fronts Is r x q → q ≡ c ∷ q1
    → ((a : List Terminal) → Is a x → Is' (a ++ c ∷ []) z) → Fronts Is' r z q1
fronts_close Is Is' c r q q1 x z f e k =
    record { front = f.front ++ c ∷ []; split = two r f.front [] q q1 q1 c f.split e refl; is = k f.front f.is }

-- a front of another kind
pub fronts_as : {A B : Type 0} (Is : List Terminal → A → Type 0) (Is' : List Terminal → B → Type 0) (r q : List Terminal) (x : A) (z : B)
    → Fronts Is r x q → ((a : List Terminal) → Is a x → Is' a z) → Fronts Is' r z q
fronts_as Is Is' r q x z f k = record { front = f.front; split = f.split; is = k f.front f.is }

-- a single terminal
pub fronts_one : {A : Type 0} (Is : List Terminal → A → Type 0) (c : Terminal) (r : List Terminal) (x : A) → Is (c ∷ []) x → Fronts Is (c ∷ r) x r
fronts_one Is c r x h = record { front = c ∷ []; split = refl; is = h }
