-- Fronts of lists, and runs of bytes that pass a test.
use Rattle.std.proofs.Common.{◌≡◌, ℕ, ◌≤◌, Bool, true, List, [], ◌∷◌, ◌++◌, length, refl, sym, ap, subst, ◌∙◌, arith, append_assoc, length-append, Option, Some, None, MatchOption}
use Rattle.std.specs.List.{AllByRecursion}
use Rattle.std.proofs.lemmas.Bool.{both_ways}
use Rattle.bv_base.proofs.Lists.{same_head, same_tail, same_fronts}
use Rattle.bas_lex.specs.Bytes.{Each, NotFirst}
use Rattle.bas_lex.specs.Scan.{IsRun}

-- a byte that passes a test comes first
pub not_first : (test : ℕ → Bool) (text rest : List ℕ) (c : ℕ) → text ≡ c ∷ rest → test c ≡ true → NotFirst test text → ⊥
not_first test text rest c e passes fails = both_ways (test c) (subst (NotFirst test) e fails) passes

-- A run that goes to a byte which fails the test covers every other run.
pub covers : (test : ℕ → Bool) (run other rest mode_after : List ℕ) → Each test other → NotFirst test rest → run ++ rest ≡ other ++ mode_after → (more : List ℕ) × (run ≡ other ++ more) × (mode_after ≡ more ++ rest)
covers test run [] rest mode_after each stops e = (run, refl, sym e)
covers test [] (c ∷ other) rest mode_after each stops e = absurd (not_first test rest _ c e each.0 stops)
covers test (r ∷ run) (c ∷ other) rest mode_after each stops e =
    let next = covers test run other rest mode_after each.1 stops (same_tail _ _ _ _ e) in
    (next.0, (λ i. same_head _ _ _ _ e i ∷ next.1 i), next.2)

pub each_back : (test : ℕ → Bool) (front back : List ℕ) → Each test (front ++ back) → Each test back
each_back test [] back each = each
each_back test (c ∷ front) back each = each_back test front back each.1

-- what holds of the elements of two lists holds of those of both together
pub all_joined : {A : Type 0} (P : A → Type 0) (xs ys : List A) → AllByRecursion P xs → AllByRecursion P ys → AllByRecursion P (xs ++ ys)
all_joined P [] ys all others = others
all_joined P (x ∷ xs) ys all others = (all.0, all_joined P xs ys all.1 others)

-- what was read of a run so far
pub record ReadsRun (test : ℕ → Bool) (text rest : List ℕ) : Type 0 where
  pub run : List ℕ
  pub each : Each test run
  pub split : text ≡ run ++ rest

abbrev pub reads_nothing : (test : ℕ → Bool) (text : List ℕ) → ReadsRun test text text
reads_nothing test text = record { run = []; each = tt; split = refl }

abbrev pub reads_one : (test : ℕ → Bool) (text rest after : List ℕ) (c : ℕ) → rest ≡ c ∷ after → test c ≡ true → ReadsRun test text rest → ReadsRun test text after
reads_one test text rest after c e passes r = record {
  run = r.run ++ c ∷ [];
  each = all_joined (λ b. test b ≡ true) r.run (c ∷ []) r.each (passes, tt);
  split = r.split ∙ ap (λ l. r.run ++ l) e ∙ sym (append_assoc r.run (c ∷ []) after);
}

abbrev pub run_read : (test : ℕ → Bool) (text rest : List ℕ) → ReadsRun test text rest → NotFirst test rest → IsRun test text rest
run_read test text rest r stops = record { run = r.run; each = r.each; split = r.split; stops = stops }

-- two runs up to a byte which fails the test are the same
pub same_runs : (test : ℕ → Bool) (run other rest mode_after : List ℕ) → Each test run → Each test other → NotFirst test rest → NotFirst test mode_after → run ++ rest ≡ other ++ mode_after → (run ≡ other) × (rest ≡ mode_after)
same_runs test run other rest mode_after each each' stops stops' e =
    let f = covers test run other rest mode_after each' stops e in
    let g = covers test other run mode_after rest each stops' (sym e) in
    same_fronts run other rest mode_after (omega (arith, ap length f.1, ap length g.1, length-append other f.0, length-append run g.0)) e

-- what an answer says, by what another says of it
pub match_map : {T : Type 0} (o : Option T) (P P' : Type 0) (Q Q' : T → Type 0) → (P → P') → ((x : T) → Q x → Q' x) → MatchOption o P Q → MatchOption o P' Q'
match_map None P P' Q Q' f g m = f m
match_map (Some x) P P' Q Q' f g m = g x m

-- what is left is no longer than the text
pub reads_within : (test : ℕ → Bool) (text rest : List ℕ) → ReadsRun test text rest → length rest ≤ length text
reads_within test text rest r = omega (arith, ap length r.split, length-append r.run rest)
