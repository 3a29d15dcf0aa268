-- The loop over a line's items.
use Rattle.std.proofs.Common.{◌≡◌, ℕ, suc, List, [], ◌∷◌, Option, Some, None, Result, Ok, Err, refl, ap, sym, subst, ◌∙◌}
use Rattle.std.specs.declared.alloc.AllocError.{AllocError}
use Rattle.bas_ast.specs.declared.lines.Item.{Item}
use Rattle.bas_ast.specs.declared.terminals.Terminal.{Terminal}
use Rattle.expr_parse.specs.declared.failure.Failure.{Failure}
use Rattle.expr_parse.specs.declared.failure.Failure.TheVariants as failure
use Rattle.expr_parse.specs.Parse.{Front}
use Rattle.expr_parse.specs.Reads.{Reads, IsOptional, keeps}
use Rattle.bas_parse.specs.declared.place.Place.{Place}
use Rattle.bas_parse.specs.Steps.{step}
use Rattle.bas_parse.specs.Runs.{with_found, at_end, after_step, items_from}

-- what an answer that may be absent says of what is at the front
abbrev Finds : {A : Type 0} → Front A → List Terminal → Option A → Type 0
Finds front rest (Some x) = front ≡ Some (x, rest)
Finds front rest None = front ≡ None

-- what is known after something was read that may be absent, where other things were kept
pub read_next : {A K : Type 0} (front : Front A) (r : Result A Failure) (rest : List Terminal) (o : Result (Option A) AllocError)
    (w : Result (K × Option A) AllocError) (kept before : K) (next : Option A)
    → Reads front r rest → IsOptional r o → w ≡ keeps kept o → w ≡ Ok (before, next) → (before ≡ kept) × Finds front rest next
read_next {A = A} {K = K} front (Ok y) rest o w kept before next h i k e =
    let both : w ≡ Ok (kept, Some y) = k ∙ ap (λ z. keeps kept z) i in
    let pair : ◌≡◌ {A = K × Option A} (before, next) (kept, Some y) = cc in
    (ap (λ z. z.0) pair, subst (λ z. Finds front rest z) (sym (ap (λ z. z.1) pair)) h)
read_next {A = A} {K = K} front (Err failure.Absent) rest o w kept before next h i k e =
    let both : w ≡ Ok (kept, None) = k ∙ ap (λ z. keeps kept z) i in
    let pair : ◌≡◌ {A = K × Option A} (before, next) (kept, None) = cc in
    (ap (λ z. z.0) pair, subst (λ z. Finds front rest z) (sym (ap (λ z. z.1) pair)) h)
read_next {A = A} {K = K} front (Err failure.NoMemory) rest (Ok z) w kept before next h i k e = absurd i
read_next {A = A} {K = K} front (Err failure.NoMemory) rest (Err z) w kept before next h i k e =
    let wrong : w ≡ Err z = k in absurd (cc)

-- the same where something was read, and where nothing was
pub read_some : {A K : Type 0} (front : Front A) (r : Result A Failure) (rest : List Terminal) (o : Result (Option A) AllocError)
    (w : Result (K × Option A) AllocError) (kept before : K) (next : Option A) (x : A)
    → Reads front r rest → IsOptional r o → w ≡ keeps kept o → w ≡ Ok (before, next) → next ≡ Some x → (before ≡ kept) × (front ≡ Some (x, rest))
read_some front r rest o w kept before next x h i k e n = let read = read_next front r rest o w kept before next h i k e in (read.0, subst (λ z. Finds front rest z) n read.1)

pub read_none : {A K : Type 0} (front : Front A) (r : Result A Failure) (rest : List Terminal) (o : Result (Option A) AllocError)
    (w : Result (K × Option A) AllocError) (kept before : K) (next : Option A)
    → Reads front r rest → IsOptional r o → w ≡ keeps kept o → w ≡ Ok (before, next) → next ≡ None → (before ≡ kept) × (front ≡ None)
read_none front r rest o w kept before next h i k e n = let read = read_next front r rest o w kept before next h i k e in (read.0, subst (λ z. Finds front rest z) n read.1)

-- no step more
pub items_out : (p : Place) (xs : List Item) (z : List Terminal) → items_from 0 p xs z ≡ at_end xs z
unfolding items_from
items_out p xs [] = refl
items_out p xs (c ∷ z) = refl

-- no step is possible
pub items_stuck : (k : ℕ) (p : Place) (xs : List Item) (z : List Terminal) → step p z ≡ None → items_from (suc k) p xs z ≡ at_end xs z
unfolding items_from after_step
items_stuck k p xs [] e = refl
items_stuck k p xs (c ∷ z) e = ap (λ m. after_step m (λ z q. items_from k z.1 (with_found xs z.0) q)) e
