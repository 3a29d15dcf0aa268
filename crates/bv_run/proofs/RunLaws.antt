-- Runs of any machine: more steps, and stretches of steps that lead from one state to another.
use Rattle.std.proofs.Common.{◌≡◌, ℕ, zero, suc, ◌+◌, ◌<◌, List, [], ◌++◌, refl, sym, ap, subst, ◌∙◌, arith, append_assoc, append-nil, add-zero, zero-add}
use Rattle.bv_run.specs.Outcome.{IsPrefix}
use Rattle.bv_run.specs.Runs.{Turn, Goes, Ends, Progress, Going, Ended, after_turn, run, with_front, output_so_far, steps_of_turn, steps_made}

pub run-zero : {S E : Type 0} (step : S → Turn S E) (s : S) (out : List ℕ) → run step zero s out ≡ Going s out
unfolding run
run-zero step s out = refl

pub run-suc : {S E : Type 0} (step : S → Turn S E) (n : ℕ) (s : S) (out : List ℕ) → run step (suc n) s out ≡ after_turn (step s) (run step n) out
unfolding run
run-suc step n s out = refl

-- goes on after a run
abbrev pub and_then : {S E : Type 0} → Progress S E → (S → List ℕ → Progress S E) → Progress S E
and_then (Going s out) next = next s out
and_then (Ended s out end) next = Ended s out end

after_turn-and_then : {S E : Type 0} (t : Turn S E) (f g : S → List ℕ → Progress S E) (out : List ℕ) → and_then (after_turn t f out) g ≡ after_turn t (λ s o. and_then (f s o) g) out
after_turn-and_then (Goes s bytes) f g out = refl
after_turn-and_then (Ends s bytes end) f g out = refl

after_turn-same : {S E : Type 0} (t : Turn S E) (f g : S → List ℕ → Progress S E) → ((s : S) (o : List ℕ) → f s o ≡ g s o) → (out : List ℕ) → after_turn t f out ≡ after_turn t g out
after_turn-same (Goes s bytes) f g same out = same s (out ++ bytes)
after_turn-same (Ends s bytes end) f g same out = refl

-- m steps and n more are m + n steps
pub run-add : {S E : Type 0} (step : S → Turn S E) (m n : ℕ) (s : S) (out : List ℕ) → run step (m + n) s out ≡ and_then (run step m s out) (run step n)
run-add step zero n s out =
    ap (λ k. run step k s out) (let e : 0 + n ≡ n = omega arith in e) ∙ sym (ap (λ p. and_then p (run step n)) (run-zero step s out))
run-add step (suc m) n s out =
    ap (λ k. run step k s out) (let e : suc m + n ≡ suc (m + n) = omega arith in e)
    ∙ run-suc step (m + n) s out
    ∙ after_turn-same (step s) _ _ (run-add step m n) out
    ∙ sym (after_turn-and_then (step s) (run step m) (run step n) out)
    ∙ sym (ap (λ p. and_then p (run step n)) (run-suc step m s out))

pub steps_made-zero : {S E : Type 0} (step : S → Turn S E) (s : S) → steps_made step zero s ≡ 0
unfolding steps_made
steps_made-zero step s = refl

pub steps_made-suc : {S E : Type 0} (step : S → Turn S E) (n : ℕ) (s : S) → steps_made step (suc n) s ≡ steps_of_turn (step s) (steps_made step n)
unfolding steps_made
steps_made-suc step n s = refl

-- what is counted after a run: nothing once it has ended
abbrev pub made_after : {S E : Type 0} → Progress S E → (S → ℕ) → ℕ
made_after (Going s out) rest = rest s
made_after (Ended s out end) rest = 0

steps_of_turn-add : {S E : Type 0} (turn : Turn S E) (all first more : S → ℕ) (next : S → List ℕ → Progress S E) → ((s : S) (out : List ℕ) → all s ≡ first s + made_after (next s out) more) → (out : List ℕ) → steps_of_turn turn all ≡ steps_of_turn turn first + made_after (after_turn turn next out) more
steps_of_turn-add (Goes state bytes) all first more next each out = omega (arith, each state (out ++ bytes))
steps_of_turn-add (Ends state bytes end) all first more next each out = refl

-- of m steps and n more, those within m are made first
pub steps_made-add : {S E : Type 0} (step : S → Turn S E) (m n : ℕ) (s : S) (out : List ℕ) → steps_made step (m + n) s ≡ steps_made step m s + made_after (run step m s out) (steps_made step n)
steps_made-add step zero n s out =
    ap (λ k. steps_made step k s) (let e : 0 + n ≡ n = omega arith in e)
    ∙ sym (zero-add (steps_made step n s))
    ∙ (λ i. sym (steps_made-zero step s) i + made_after (sym (run-zero step s out) i) (steps_made step n))
steps_made-add step (suc m) n s out =
    ap (λ k. steps_made step k s) (let e : suc m + n ≡ suc (m + n) = omega arith in e)
    ∙ steps_made-suc step (m + n) s
    ∙ steps_of_turn-add (step s) (steps_made step (m + n)) (steps_made step m) (steps_made step n) (run step m) (steps_made-add step m n) out
    ∙ (λ i. sym (steps_made-suc step m s) i + made_after (sym (run-suc step m s out) i) (steps_made step n))

-- a run that still goes on has taken all of its steps
pub all_made : {S E : Type 0} (step : S → Turn S E) (n : ℕ) (s t : S) (out all : List ℕ) → run step n s out ≡ Going t all → steps_made step n s ≡ n
all_made step zero s t out all goes = steps_made-zero step s
all_made step (suc n) s t out all goes =
    steps_made-suc step n s ∙ by_turn (step s) (λ next out'. all_made step n next t out' all) (sym (run-suc step n s out) ∙ goes)
  where
    by_turn : (turn : _) → ((next : _) (out' : List ℕ) → run step n next out' ≡ Going t all → steps_made step n next ≡ n) → after_turn turn (run step n) out ≡ Going t all → steps_of_turn turn (steps_made step n) ≡ suc n
    by_turn (Goes next bytes) each goes = ap suc (each next (out ++ bytes) goes)
    by_turn (Ends last bytes end) each goes = absurd (let e : Ended last (out ++ bytes) end ≡ Going t all = goes in cc)

-- a step that stops ends the run
pub run_stops : {S E : Type 0} (step : S → Turn S E) (s t : S) (bytes : List ℕ) (end : E) (out : List ℕ) → step s ≡ Ends t bytes end → run step 1 s out ≡ Ended t (out ++ bytes) end
run_stops step s t bytes end out stops = run-suc step 0 s out ∙ ap (λ u. after_turn u (run step 0) out) stops

after_turn-with_front : {S E : Type 0} (t : Turn S E) (f : S → List ℕ → Progress S E) → ((s : S) (front out : List ℕ) → f s (front ++ out) ≡ with_front front (f s out)) → (front out : List ℕ) → after_turn t f (front ++ out) ≡ with_front front (after_turn t f out)
after_turn-with_front (Goes s bytes) f same front out = ap (f s) (append_assoc front out bytes) ∙ same s front (out ++ bytes)
after_turn-with_front (Ends s bytes end) f same front out = ap (λ o. Ended s o end) (append_assoc front out bytes)

pub run-with_front : {S E : Type 0} (step : S → Turn S E) (n : ℕ) (s : S) (front out : List ℕ) → run step n s (front ++ out) ≡ with_front front (run step n s out)
run-with_front step zero s front out = run-zero step s (front ++ out) ∙ sym (ap (with_front front) (run-zero step s out))
run-with_front step (suc n) s front out =
    run-suc step n s (front ++ out)
    ∙ after_turn-with_front (step s) (run step n) (run-with_front step n) front out
    ∙ sym (ap (with_front front) (run-suc step n s out))

-- m steps that go on, and n more from where they stand
pub run-going : {S E : Type 0} (step : S → Turn S E) (m n : ℕ) (s t : S) (out : List ℕ) → run step m s [] ≡ Going t out → run step (m + n) s [] ≡ with_front out (run step n t [])
run-going step m n s t out goes =
    run-add step m n s [] ∙ ap (λ p. and_then p (run step n)) goes ∙ ap (run step n t) (sym (append-nil out)) ∙ run-with_front step n t out []

-- more steps change nothing of a run that has ended
pub run-ended : {S E : Type 0} (step : S → Turn S E) (m n : ℕ) (s t : S) (out : List ℕ) (end : E) → run step m s [] ≡ Ended t out end → run step (m + n) s [] ≡ Ended t out end
run-ended step m n s t out end ends = run-add step m n s [] ∙ ap (λ p. and_then p (run step n)) ends

pub steps_made-going : {S E : Type 0} (step : S → Turn S E) (m n : ℕ) (s t : S) (out : List ℕ) → run step m s [] ≡ Going t out → steps_made step (m + n) s ≡ m + steps_made step n t
steps_made-going step m n s t out goes =
    steps_made-add step m n s [] ∙ (λ i. all_made step m s t [] out goes i + made_after (goes i) (steps_made step n))

pub steps_made-ended : {S E : Type 0} (step : S → Turn S E) (m n : ℕ) (s t : S) (out : List ℕ) (end : E) → run step m s [] ≡ Ended t out end → steps_made step (m + n) s ≡ steps_made step m s
steps_made-ended step m n s t out end ends =
    steps_made-add step m n s [] ∙ ap (λ p. steps_made step m s + made_after p (steps_made step n)) ends ∙ add-zero _

pub IsPrefix-refl : (xs : List ℕ) → IsPrefix xs xs
IsPrefix-refl xs = ([], sym (append-nil xs))

pub IsPrefix-trans : (xs ys zs : List ℕ) → IsPrefix xs ys → IsPrefix ys zs → IsPrefix xs zs
IsPrefix-trans xs ys zs p q = (p.0 ++ q.0, q.1 ∙ ap (λ l. l ++ q.0) p.1 ∙ append_assoc xs p.0 q.0)

after_turn_extends : {S E : Type 0} (t : Turn S E) (f : S → List ℕ → Progress S E) → ((s : S) (o : List ℕ) → IsPrefix o (output_so_far (f s o))) → (out : List ℕ) → IsPrefix out (output_so_far (after_turn t f out))
after_turn_extends (Goes s bytes) f extends out = IsPrefix-trans _ _ _ (bytes, refl) (extends s (out ++ bytes))
after_turn_extends (Ends s bytes end) f extends out = (bytes, refl)

-- a run keeps what was written before it
pub run_extends : {S E : Type 0} (step : S → Turn S E) (n : ℕ) (s : S) (out : List ℕ) → IsPrefix out (output_so_far (run step n s out))
run_extends step zero s out = subst (λ p. IsPrefix out (output_so_far p)) (sym (run-zero step s out)) (IsPrefix-refl out)
run_extends step (suc n) s out = subst (λ p. IsPrefix out (output_so_far p)) (sym (run-suc step n s out)) (after_turn_extends (step s) (run step n) (run_extends step n) out)

-- from one state the machine comes to another in at least one step, and writes these bytes on the way
pub record Leads {S E : Type 0} (step : S → Turn S E) (from to : S) (bytes : List ℕ) : Type 0 where
  pub steps : ℕ
  pub some : 0 < steps
  pub goes : run step steps from [] ≡ Going to bytes

-- a step that goes on leads on
pub leads_step : {S E : Type 0} (step : S → Turn S E) (s t : S) (bytes : List ℕ) → step s ≡ Goes t bytes → Leads step s t bytes
leads_step step s t bytes is = record {
  steps = 1;
  some = omega arith;
  goes = run-suc step 0 s [] ∙ ap (λ u. after_turn u (run step 0) []) is ∙ run-zero step t bytes;
}

-- after a stretch the run goes on
pub leads_run : {S E : Type 0} (step : S → Turn S E) (s t : S) (bytes : List ℕ) (l : Leads step s t bytes) (n : ℕ) (out : List ℕ) → run step (l.steps + n) s out ≡ run step n t (out ++ bytes)
leads_run step s t bytes l n out =
    run-add step l.steps n s out
    ∙ ap (λ p. and_then p (run step n)) (ap (run step l.steps s) (sym (append-nil out)) ∙ run-with_front step l.steps s out [] ∙ ap (with_front out) l.goes)

-- a stretch and a stretch are one
pub leads-leads : {S E : Type 0} (step : S → Turn S E) (s t u : S) (bytes more : List ℕ) → Leads step s t bytes → Leads step t u more → Leads step s u (bytes ++ more)
leads-leads step s t u bytes more first second = record {
  steps = first.steps + second.steps;
  some = omega (arith, first.some);
  goes = leads_run step s t bytes first second.steps []
      ∙ ap (run step second.steps t) (sym (append-nil bytes)) ∙ run-with_front step second.steps t bytes [] ∙ ap (with_front bytes) second.goes;
}
