-- The writes of a run's loop, which are those of each byte.
use Rattle.std.proofs.Common.{◌≡◌, ℕ, zero, ◌+◌, Option, List, [], ◌∷◌, ◌++◌, refl, sym, ap, ◌∙◌, append-nil, append_assoc, add-one}
use Rattle.bv_io.specs.Log.{Event, NotWritten}
use Rattle.bv_run.specs.Runs.{Turn, Goes, Ends, Progress, Going, Ended, after_turn, with_front, output_so_far, run}
use Rattle.bv_run.proofs.RunLaws.{run-zero, run-suc, run-going, run_extends}
use Rattle.bv_io.proofs.Loops.{IsSoFar}
use Rattle.bv_io.proofs.ByteWrites.{byte_writes-append}
use Rattle.bv_io.specs.Writes.{byte_writes, FailsAtByte}

output-with_front : {S E : Type 0} (front : List ℕ) (p : Progress S E) → output_so_far (with_front front p) ≡ front ++ output_so_far p
output-with_front front (Going state out) = refl
output-with_front front (Ended state out end) = refl

-- after steps that write nothing, and one that goes on, the output has what that one writes
pub output_after : {S E : Type 0} (step : S → Turn S E) (m n : ℕ) (old now last next : S) (bytes more : List ℕ) → run step m old [] ≡ Going now bytes → run step n now [] ≡ Going last [] → step last ≡ Goes next more → output_so_far (run step (m + (n + 1)) old []) ≡ output_so_far (run step m old []) ++ more
output_after step m n old now last next bytes more first plain goes =
    let one : run step 1 last [] ≡ Going next more = run-suc step zero last [] ∙ ap (λ t. after_turn t (run step zero) []) goes ∙ run-zero step next more in
    ap output_so_far (run-going step m (n + 1) old now bytes first)
    ∙ ap (λ p. output_so_far (with_front bytes p)) (run-going step n 1 now last [] plain ∙ ap (with_front []) one)
    ∙ ap (λ p. output_so_far p ++ more) (sym first)

module _ {S E : Type 0} (step : S → Turn S E) (old now : S) (bound left : ℕ) (before written : Option (List ℕ)) (count_before count : ℕ) (so : IsSoFar step old bound left now before written count_before count) where
  -- the output of the run is what was written, and what the steps that are left write
  output_here : output_so_far (run step bound old []) ≡ so.bytes ++ output_so_far (run step left now [])
  output_here =
      ap (λ n. output_so_far (run step n old [])) (sym so.whole)
      ∙ ap output_so_far (run-going step so.made left old now so.bytes so.stands)
      ∙ output-with_front so.bytes (run step left now [])

  one_step : (less : ℕ) (turn : Turn S E) → left ≡ less + 1 → step now ≡ turn → run step left now [] ≡ after_turn turn (run step less) []
  one_step less turn is_less is =
      ap (λ n. run step n now []) (is_less ∙ add-one less) ∙ run-suc step less now [] ∙ ap (λ t. after_turn t (run step less) []) is

  -- and so it is where the next step ends the run
  pub output_at_stop : (less : ℕ) (last : S) (end : E) → left ≡ less + 1 → step now ≡ Ends last [] end → so.bytes ≡ output_so_far (run step bound old [])
  output_at_stop less last end is_less stops =
      sym (output_here ∙ ap (λ p. so.bytes ++ output_so_far p) (one_step less (Ends last [] end) is_less stops) ∙ append-nil so.bytes)

  -- where a write of the next step failed, it is one of the run's bytes
  pub fails_at_byte : (less : ℕ) (next : S) (more : List ℕ) (old_log log new_log : List Event) → left ≡ less + 1 → step now ≡ Goes next more → log ≡ byte_writes so.bytes old_log → FailsAtByte more log new_log → FailsAtByte (output_so_far (run step bound old [])) old_log new_log
  fails_at_byte less next more old_log log new_log is_less goes logged fails =
      let further = run_extends step less next more in
      let tail = fails.rest ++ further.0 in
      record {
        accepted = so.bytes ++ fails.accepted;
        byte = fails.byte;
        rest = tail;
        split =
            output_here
            ∙ ap (λ p. so.bytes ++ output_so_far p) (one_step less (Goes next more) is_less goes)
            ∙ ap (λ l. so.bytes ++ l) (further.1 ∙ ap (λ l. l ++ further.0) fails.split ∙ append_assoc fails.accepted (fails.byte ∷ fails.rest) further.0)
            ∙ sym (append_assoc so.bytes fails.accepted (fails.byte ∷ tail));
        log = fails.log ∙ ap (λ l. NotWritten (fails.byte ∷ []) ∷ l) (ap (byte_writes fails.accepted) logged ∙ sym (byte_writes-append so.bytes fails.accepted old_log));
      }
