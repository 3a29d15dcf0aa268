-- The program and its flat code agree: each ends where the other does, and each comes to write what the other has written.
use Rattle.std.proofs.Common.{◌≡◌, ◌≢◌, ℕ, ◌+◌, ◌*◌, ◌-◌, ◌≤◌, List, refl, sym, ap, subst, ◌∙◌, length, arith}
use Rattle.std.proofs.Math.Nat.{mul-le-mul_left}
use Rattle.bas_ast.specs.declared.program.Prog.{Prog}
use Rattle.bas_ir.specs.Machine.{flat_from, first_place, shown, enough, flat_run}
use Rattle.bas_ir.specs.Places.{Place}
use Rattle.bas_ir.proofs.LongerRuns.{Extended, from_extended}
use Rattle.bv_run.specs.Outcome.{Outcome, Over, Going, Broken, output_of, IsPrefix, RunsAgree}
use Rattle.bv_run.specs.declared.report.Trap.{Trap}
use Rattle.bas_sem.specs.Course as courses
use Rattle.bas_sem.specs.Course.{Course}
use Rattle.bas_sem.specs.Meaning.{source_run}
use Rattle.bas_sem.specs.State.{start}
use Rattle.bas_sem.proofs.Longer.{state_in}
use Rattle.ir_build.specs.Code.{flat_code}
use Rattle.ir_build.proofs.Equality.{runs_within, flat_run_within-is}

-- what is shown of a longer run: the same end, or more output
abbrev IsLonger : Outcome → Outcome → Type 0
IsLonger (Over out arena report) longer = longer ≡ Over out arena report
IsLonger (Going out arena) longer = IsPrefix out (output_of longer)
IsLonger (Broken out arena kind address) longer = ⊥

shown_output : (r : Course Place) → output_of (shown r) ≡ (state_in r).output
shown_output (courses.Value place s) = refl
shown_output (courses.Raised h s) = refl
shown_output (courses.Over report s) = refl
shown_output (courses.Spent s) = refl

shown_longer : (d : ℕ) (r r' : Course Place) → Extended d r r' → IsLonger (shown r) (shown r')
shown_longer d (courses.Value place s) r' is = subst (IsPrefix s.output) (sym (shown_output r')) is
shown_longer d (courses.Raised h s) r' is = ap shown is
shown_longer d (courses.Over report s) r' is = ap shown is
shown_longer d (courses.Spent s) r' is = subst (IsPrefix s.output) (sym (shown_output r')) is

never_broken : (r : Course Place) (out arena : List ℕ) (kind : Trap) (address : ℕ) → shown r ≢ Broken out arena kind address
never_broken (courses.Value place s) out arena kind address is = cc
never_broken (courses.Raised h s) out arena kind address is = cc
never_broken (courses.Over report s) out arena kind address is = cc
never_broken (courses.Spent s) out arena kind address is = cc

module _ (prog : Prog) (input : List ℕ) where
  -- what k operations show, with a budget of n steps
  abbrev at : ℕ → ℕ → Outcome
  at k n = shown (flat_from (flat_code prog) k (first_place (flat_code prog)) (start prog.names input n))

  source_at : (n : ℕ) → source_run prog input n ≡ at (enough (flat_code prog) n) n
  source_at n = runs_within prog input n ∙ flat_run_within-is prog input n

  flat_at : (k : ℕ) → flat_run (flat_code prog) input k ≡ at k (2 * k)
  unfolding flat_run
  flat_at k = refl

  at_longer : (k j n m : ℕ) → k ≤ j → n ≤ m → IsLonger (at k n) (at j m)
  at_longer k j n m few less =
      let e : n + (m - n) ≡ m = omega (arith, less) in
      subst (λ b. IsLonger (at k n) (at j b)) e
      (shown_longer (m - n) _ _ (from_extended (flat_code prog) k j (m - n) (first_place (flat_code prog)) (start prog.names input n) few))

  -- as many operations as n steps lead to, and no fewer than they
  abbrev operations : ℕ → ℕ
  operations n = enough (flat_code prog) n + n

  flat_longer : (n : ℕ) → IsLonger (source_run prog input n) (flat_run (flat_code prog) input (operations n))
  flat_longer n =
      subst (λ r. IsLonger r (flat_run (flat_code prog) input (operations n))) (sym (source_at n))
      (subst (IsLonger (at (enough (flat_code prog) n) n)) (sym (flat_at (operations n)))
      (at_longer (enough (flat_code prog) n) (operations n) n (2 * operations n) (omega arith) (omega arith)))

  source_longer : (k : ℕ) → IsLonger (flat_run (flat_code prog) input k) (source_run prog input (2 * k))
  source_longer k =
      let many : 2 * k * 1 ≤ 2 * k * (length (flat_code prog).ops + 1) = mul-le-mul_left (2 * k) (omega arith) in
      subst (λ r. IsLonger r (source_run prog input (2 * k))) (sym (flat_at k))
      (subst (IsLonger (at k (2 * k))) (sym (source_at (2 * k)))
      (at_longer k (enough (flat_code prog) (2 * k)) (2 * k) (2 * k) (omega (arith, many)) (omega arith)))

  pub runs_agree : RunsAgree (source_run prog input) (flat_run (flat_code prog) input)
  runs_agree = record {
    ends = λ n out arena report is. (operations n, subst (λ r. IsLonger r (flat_run (flat_code prog) input (operations n))) is (flat_longer n));
    ends_only = λ k out arena report is. (2 * k, subst (λ r. IsLonger r (source_run prog input (2 * k))) is (source_longer k));
    writes = λ n out arena is. (operations n, subst (λ r. IsLonger r (flat_run (flat_code prog) input (operations n))) is (flat_longer n));
    writes_only = λ k out arena is. (2 * k, subst (λ r. IsLonger r (source_run prog input (2 * k))) is (source_longer k));
    never_broken = λ k out arena kind address is. never_broken _ out arena kind address (sym (flat_at k) ∙ is);
  }
