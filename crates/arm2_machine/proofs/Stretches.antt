-- Steps that are made in one go.
use Rattle.std.proofs.Common.{◌≡◌, ℕ, zero, ◌+◌, ◌-◌, ◌^◌, min, Option, List, [], ap, ◌∙◌, append-nil, arith}
use Rattle.bv_run.specs.Runs.{Turn, Goes, Going, after_turn, with_front, run}
use Rattle.bv_run.proofs.RunLaws.{run-zero, run-suc, run-going}
use Rattle.bv_io.proofs.Loops.{IsSoFar}

-- one step more, which writes nothing
pub one_plain_step : {S E : Type 0} (step : S → Turn S E) (n : ℕ) (old now next : S) → run step n old [] ≡ Going now [] → step now ≡ Goes next [] → run step (n + 1) old [] ≡ Going next []
one_plain_step step n old now next stands goes =
    run-going step n 1 old now [] stands ∙ ap (with_front []) (run-suc step zero now [] ∙ ap (λ t. after_turn t (run step zero) []) goes ∙ run-zero step next [])

-- a loop goes on after steps that write nothing
abbrev pub so_far_plainly : {S E : Type 0} (step : S → Turn S E) (old now : S) (bound left : ℕ) (before written : Option (List ℕ)) (count : ℕ)
    → IsSoFar step old bound left now before written 0 count
    → (n less : ℕ) (next : S) → run step n now [] ≡ Going next [] → left ≡ less + n → count + n ≡ min (count + n) (2 ^ 64 - 1)
    → IsSoFar step old bound less next before written 0 (count + n)
so_far_plainly step old now bound left before written count so n less next stands is_less small = record {
  made = so.made + n;
  bytes = so.bytes;
  stands = run-going step so.made n old now so.bytes so.stands ∙ ap (with_front so.bytes) stands ∙ ap (λ bytes. Going next bytes) (append-nil so.bytes);
  whole = omega (arith, so.whole, is_less);
  same = so.same;
  is_count = omega (arith, so.is_count, small);
}
