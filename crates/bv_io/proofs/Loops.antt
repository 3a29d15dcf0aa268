-- A loop that takes a machine's steps, counts them, and writes their bytes to a sink.
use Rattle.std.proofs.Common.{◌≡◌, ℕ, ◌+◌, ◌-◌, ◌^◌, ◌≤◌, min, Option, Some, None, List, [], ◌++◌, length, take, drop, refl, sym, ap, subst, ◌∙◌, append_assoc, append-nil, take-append-drop, add-one, arith}
use Rattle.std.proofs.Math.Seq.{take-append-add, take-append_seam}
use Rattle.bv_run.specs.Outcome.{IsPrefix}
use Rattle.bv_io.specs.Shelf.{counted}
use Rattle.bv_io.specs.Sink.{with_bytes, WritesPart}
use Rattle.bv_run.specs.Runs.{Turn, Goes, Ends, Progress, Going, Ended, after_turn, run, output_so_far, steps_of_turn, steps_made}
use Rattle.bv_run.proofs.RunLaws.{run-zero, run-suc, run-add, and_then, steps_made-zero, steps_made-suc, steps_made-going, run_extends}

pub with_bytes-nil : (written : Option (List ℕ)) → with_bytes written [] ≡ written
with_bytes-nil None = refl
with_bytes-nil (Some written) = ap (λ w. Some w) (append-nil written)

pub with_bytes-append : (written : Option (List ℕ)) (first more : List ℕ) → with_bytes (with_bytes written first) more ≡ with_bytes written (first ++ more)
with_bytes-append None first more = refl
with_bytes-append (Some written) first more = ap (λ w. Some w) (append_assoc written first more)

-- This number of steps was taken and that number is left, each step was counted, and the sink was given just what they wrote.
-- The count is a `u64`, and stands still at its greatest value.
pub record IsSoFar {S E : Type 0} (step : S → Turn S E) (old : S) (bound left : ℕ) (now : S) (before written : Option (List ℕ)) (count_before count : ℕ) : Type 0 where
  pub made : ℕ
  pub bytes : List ℕ
  pub stands : run step made old [] ≡ Going now bytes
  pub whole : made + left ≡ bound
  pub same : written ≡ with_bytes before bytes
  pub is_count : count ≡ min (count_before + made) (2 ^ 64 - 1)

pub so_far_starts : {S E : Type 0} (step : S → Turn S E) (old : S) (bound left : ℕ) (before : Option (List ℕ)) (count : ℕ) → left ≡ bound → count ≤ 2 ^ 64 - 1 → IsSoFar step old bound left old before before count count
so_far_starts step old bound left before count all fits = record {
  made = 0;
  bytes = [];
  stands = run-zero step old [];
  whole = omega (arith, all);
  same = sym (with_bytes-nil before);
  is_count = omega (arith, fits);
}

one_more : (before made count count' : ℕ) → count ≡ min (before + made) (2 ^ 64 - 1) → count' ≡ counted count → count' ≡ min (before + (made + 1)) (2 ^ 64 - 1)
one_more before made count count' is next = omega (arith, is, next)

-- a first part of a piece, after what was written before it, is a first part of the whole
pub part_of_piece : (old written after : Option (List ℕ)) (done piece whole : List ℕ) → written ≡ with_bytes old done → IsPrefix (done ++ piece) whole → WritesPart written piece after → WritesPart old whole after
part_of_piece old written after done piece whole so prefix part =
    let front = take part.0 piece in
    let split : whole ≡ done ++ (front ++ (drop part.0 piece ++ prefix.0)) =
    prefix.1 ∙ append_assoc done piece prefix.0 ∙ ap (λ p. done ++ (p ++ prefix.0)) (sym (take-append-drop part.0 piece)) ∙ ap (λ l. done ++ l) (append_assoc front _ _) in
    let taken : take (length done + length front) whole ≡ done ++ front =
    ap (λ l. take (length done + length front) l) split ∙ take-append-add done _ (length front) ∙ ap (λ l. done ++ l) (take-append_seam front _) in
    (length done + length front, part.1 ∙ ap (λ w. with_bytes w front) so ∙ with_bytes-append old done front ∙ ap (λ l. with_bytes old l) (sym taken))

module _ {S E : Type 0} (step : S → Turn S E) (old now : S) (bound left : ℕ) (before written : Option (List ℕ)) (count_before count : ℕ) (so : IsSoFar step old bound left now before written count_before count) where
  -- the whole run goes on from here
  goes_on : run step bound old [] ≡ run step left now so.bytes
  goes_on =
      ap (λ n. run step n old []) (sym so.whole) ∙ run-add step so.made left old [] ∙ ap (λ p. and_then p (run step left)) so.stands

  counts_on : steps_made step bound old ≡ so.made + steps_made step left now
  counts_on = ap (λ n. steps_made step n old) (sym so.whole) ∙ steps_made-going step so.made left old now so.bytes so.stands

  -- one of the steps that are left
  one_step : (less : ℕ) (turn : Turn S E) → left ≡ less + 1 → step now ≡ turn → run step left now so.bytes ≡ after_turn turn (run step less) so.bytes
  one_step less turn is_less is =
      ap (λ k. run step k now so.bytes) (is_less ∙ add-one less) ∙ run-suc step less now so.bytes ∙ ap (λ t. after_turn t (run step less) so.bytes) is

  one_counted : (less : ℕ) (turn : Turn S E) → left ≡ less + 1 → step now ≡ turn → steps_made step left now ≡ steps_of_turn turn (steps_made step less)
  one_counted less turn is_less is =
      ap (λ k. steps_made step k now) (is_less ∙ add-one less) ∙ steps_made-suc step less now ∙ ap (λ t. steps_of_turn t (steps_made step less)) is

  -- where a step goes on, the run is after it
  step_made : (next : S) (more : List ℕ) → step now ≡ Goes next more → run step (so.made + 1) old [] ≡ Going next (so.bytes ++ more)
  step_made next more goes =
      run-add step so.made 1 old []
      ∙ ap (λ p. and_then p (run step 1)) so.stands
      ∙ run-suc step 0 now so.bytes
      ∙ ap (λ t. after_turn t (run step 0) so.bytes) goes
      ∙ run-zero step next (so.bytes ++ more)

  -- a step that goes on, whose bytes were written
  pub so_far_goes : (less : ℕ) (next : S) (more : List ℕ) (written' : Option (List ℕ)) (count' : ℕ) → left ≡ less + 1 → step now ≡ Goes next more → written' ≡ with_bytes written more → count' ≡ counted count → IsSoFar step old bound less next before written' count_before count'
  so_far_goes less next more written' count' is_less goes writes counts = record {
    made = so.made + 1;
    bytes = so.bytes ++ more;
    stands = step_made next more goes;
    whole = omega (arith, so.whole, is_less);
    same = writes ∙ ap (λ w. with_bytes w more) so.same ∙ with_bytes-append before so.bytes more;
    is_count = one_more count_before so.made count count' so.is_count counts;
  }

  -- the run has come to its end or to its bound, here and with what was written
  pub record Finishes (end : List ℕ → Progress S E) (written' : Option (List ℕ)) (count' : ℕ) : Type 0 where
    pub comes : run step bound old [] ≡ end (output_so_far (run step bound old []))
    pub writes : written' ≡ with_bytes before (output_so_far (run step bound old []))
    pub counts : count' ≡ min (count_before + steps_made step bound old) (2 ^ 64 - 1)

  -- a step that stops ends the run
  pub so_far_stops : (less : ℕ) (last : S) (end : E) (count' : ℕ) → left ≡ less + 1 → step now ≡ Ends last [] end → count' ≡ counted count → Finishes (λ out. Ended last out end) written count'
  so_far_stops less last end count' is_less stops counts =
      let comes : run step bound old [] ≡ Ended last so.bytes end = goes_on ∙ one_step less (Ends last [] end) is_less stops ∙ ap (λ b. Ended last b end) (append-nil so.bytes) in
      let made : so.made + 1 ≡ steps_made step bound old = ap (λ n. so.made + n) (sym (one_counted less (Ends last [] end) is_less stops)) ∙ sym counts_on in
      record {
        comes = comes ∙ ap (λ p. Ended last (output_so_far p) end) (sym comes);
        writes = so.same ∙ ap (λ p. with_bytes before (output_so_far p)) (sym comes);
        counts = one_more count_before so.made count count' so.is_count counts ∙ ap (λ n. min (count_before + n) (2 ^ 64 - 1)) made;
      }

  -- with no steps left the run stops here
  pub so_far_ends : left ≡ 0 → Finishes (Going now) written count
  so_far_ends none =
      let comes : run step bound old [] ≡ Going now so.bytes = goes_on ∙ ap (λ k. run step k now so.bytes) none ∙ run-zero step now so.bytes in
      let rest : steps_made step left now ≡ 0 = ap (λ k. steps_made step k now) none ∙ steps_made-zero step now in
      let made : so.made ≡ steps_made step bound old = omega (arith, rest, counts_on) in
      record {
        comes = comes ∙ ap (λ p. Going now (output_so_far p)) (sym comes);
        writes = so.same ∙ ap (λ p. with_bytes before (output_so_far p)) (sym comes);
        counts = so.is_count ∙ ap (λ n. min (count_before + n) (2 ^ 64 - 1)) made;
      }

  -- where a sink took only a part of a step's bytes, it was given a first part of what the run writes
  pub so_far_faults : (less : ℕ) (next : S) (more : List ℕ) (written' : Option (List ℕ)) → left ≡ less + 1 → step now ≡ Goes next more → WritesPart written more written' → WritesPart before (output_so_far (run step bound old [])) written'
  so_far_faults less next more written' is_less goes part =
      let comes : run step bound old [] ≡ run step less next (so.bytes ++ more) = goes_on ∙ one_step less (Goes next more) is_less goes in
      part_of_piece before written written' so.bytes more _ so.same (subst (λ p. IsPrefix (so.bytes ++ more) (output_so_far p)) (sym comes) (run_extends step less next (so.bytes ++ more))) part
