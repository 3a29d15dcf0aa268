-- How two runs come to agree, and that agreements compose.
use Rattle.std.proofs.Common.{◌≡◌, ◌≢◌, ℕ, zero, suc, ◌+◌, ◌-◌, ◌≤◌, ◌⊎◌, inl, inr, List, refl, sym, ap, subst, ◌∙◌, arith}
use Rattle.bv_run.specs.declared.report.Report.{Report}
use Rattle.bv_run.specs.declared.report.Trap.{Trap}
use Rattle.bv_run.specs.Outcome.{Outcome, Over, Going, Broken, output_of, IsPrefix, RunsAgree}
use Rattle.bv_run.specs.Runs.{Turn, Progress, End, run, output_so_far, outcome_of}
use Rattle.bv_run.specs.Runs as runs
use Rattle.bv_run.proofs.RunLaws.{run-add, and_then, IsPrefix-refl, IsPrefix-trans, run_extends}

-- what a run that goes on shows at a greater bound: it begins with what was written
abbrev pub Extends : Outcome → Outcome → Type 0
Extends (Over out arena report) later = later ≡ Over out arena report
Extends (Broken out arena kind address) later = later ≡ Broken out arena kind address
Extends (Going out arena) later = IsPrefix out (output_of later)

-- a greater bound keeps an end and extends an output
pub record Grows (outcomes : ℕ → Outcome) : Type 0 where
  pub at : (n k : ℕ) → Extends (outcomes n) (outcomes (n + k))

pub output-outcome_of : {S : Type 0} (arena : S → List ℕ) (p : Progress S End) → output_of (outcome_of arena p) ≡ output_so_far p
output-outcome_of arena (runs.Going s out) = refl
output-outcome_of arena (runs.Ended s out (runs.Over report)) = refl
output-outcome_of arena (runs.Ended s out (runs.Broken kind address)) = refl

outcome_of_extends : {S : Type 0} (arena : S → List ℕ) (p : Progress S End) (f : S → List ℕ → Progress S End) → ((s : S) (o : List ℕ) → IsPrefix o (output_so_far (f s o))) → Extends (outcome_of arena p) (outcome_of arena (and_then p f))
outcome_of_extends arena (runs.Going s out) f extends = subst (IsPrefix out) (sym (output-outcome_of arena (f s out))) (extends s out)
outcome_of_extends arena (runs.Ended s out (runs.Over report)) f extends = refl
outcome_of_extends arena (runs.Ended s out (runs.Broken kind address)) f extends = refl

-- every machine that is given by its step grows
pub grows_run : {S : Type 0} (arena : S → List ℕ) (step : S → Turn S End) (s : S) (out : List ℕ) → Grows (λ n. outcome_of arena (run step n s out))
grows_run arena step s out = record {
  at = λ n k. subst (λ p. Extends (outcome_of arena (run step n s out)) (outcome_of arena p)) (sym (run-add step n k s out))
      (outcome_of_extends arena (run step n s out) (run step k) (run_extends step k));
}

-- The target has come as far as the source at this bound, in at least as many steps.
abbrev pub Follows : ℕ → Outcome → (ℕ → Outcome) → Type 0
Follows n (Over out arena report) target = (m : ℕ) × (target m ≡ Over out arena report)
Follows n (Going out arena) target = (m : ℕ) × (n ≤ m) × (target m ≡ Going out arena)
Follows n (Broken out arena kind address) target = ⊥

over_kept : (target : ℕ → Outcome) → Grows target → (n k : ℕ) (out arena : List ℕ) (report : Report) → target n ≡ Over out arena report → target (n + k) ≡ Over out arena report
over_kept target g n k out arena report is = subst (λ o. Extends o (target (n + k))) is (g.at n k)

over_later : (target : ℕ → Outcome) → Grows target → (n m : ℕ) (out arena : List ℕ) (report : Report) → n ≤ m → target n ≡ Over out arena report → target m ≡ Over out arena report
over_later target g n m out arena report le is =
    ap target (let e : m ≡ n + (m - n) = omega (arith, le) in e) ∙ over_kept target g n (m - n) out arena report is

broken_later : (target : ℕ → Outcome) → Grows target → (n m : ℕ) (out arena : List ℕ) (kind : Trap) (address : ℕ) → n ≤ m → target n ≡ Broken out arena kind address → target m ≡ Broken out arena kind address
broken_later target g n m out arena kind address le is =
    ap target (let e : m ≡ n + (m - n) = omega (arith, le) in e) ∙ subst (λ o. Extends o (target (n + (m - n)))) is (g.at n (m - n))

going_later : (target : ℕ → Outcome) → Grows target → (n m : ℕ) (out arena : List ℕ) → n ≤ m → target n ≡ Going out arena → IsPrefix out (output_of (target m))
going_later target g n m out arena le is =
    subst (λ k. IsPrefix out (output_of (target k))) (let e : n + (m - n) ≡ m = omega (arith, le) in e) (subst (λ o. Extends o (target (n + (m - n)))) is (g.at n (m - n)))

-- two ends are one, whatever their bounds
pub one_end : (target : ℕ → Outcome) → Grows target → (n m : ℕ) (out arena out' arena' : List ℕ) (report report' : Report) → target n ≡ Over out arena report → target m ≡ Over out' arena' report' → Over out arena report ≡ Over out' arena' report'
one_end target g n m out arena out' arena' report report' first second =
    sym (over_kept target g n m out arena report first)
    ∙ ap target (let e : n + m ≡ m + n = omega arith in e)
    ∙ over_kept target g m n out' arena' report' second

le_or_le : (n m : ℕ) → (n ≤ m) ⊎ (m ≤ n)
le_or_le zero m = inl (omega arith)
le_or_le (suc n) zero = inr (omega arith)
le_or_le (suc n) (suc m) = elim (le_or_le n m) [ inl h ↦ inl (omega (arith, h)) | inr h ↦ inr (omega (arith, h)) ]

-- the source is over at m, where the target is over
over_only : (source target : ℕ → Outcome) → Grows target → (m : ℕ) (o : Outcome) → source m ≡ o → Follows m o target → (out arena : List ℕ) (report : Report) → target m ≡ Over out arena report → source m ≡ Over out arena report
over_only source target g m (Over out arena report) is f out' arena' report' over = is ∙ one_end target g f.0 m _ _ _ _ _ _ f.1 over
over_only source target g m (Going out arena) is f out' arena' report' over =
    absurd (let e : Going out arena ≡ Over out' arena' report' = sym f.2 ∙ over_later target g m f.0 _ _ _ f.1 over in cc)
over_only source target g m (Broken out arena kind address) is f out' arena' report' over = absurd f

-- the source has written what the target has written at m
writes_first : (source target : ℕ → Outcome) → Grows target → (m : ℕ) (o : Outcome) → Follows m o target → (out arena : List ℕ) → target m ≡ Going out arena → IsPrefix out (output_of o)
writes_first source target g m (Over out arena report) f out' arena' going =
    elim (le_or_le f.0 m) [
      | inl le ↦ absurd (let e : Over out arena report ≡ Going out' arena' = sym (over_later target g f.0 m _ _ _ le f.1) ∙ going in cc)
      | inr le ↦ subst (λ o. IsPrefix out' (output_of o)) f.1 (going_later target g m f.0 _ _ le going)
    ]
writes_first source target g m (Going out arena) f out' arena' going =
    subst (λ o. IsPrefix out' (output_of o)) f.2 (going_later target g m f.0 _ _ f.1 going)
writes_first source target g m (Broken out arena kind address) f out' arena' going = absurd f

-- the target is not broken at m
not_broken : (target : ℕ → Outcome) → Grows target → (m : ℕ) (o : Outcome) → Follows m o target → (out arena : List ℕ) (kind : Trap) (address : ℕ) → target m ≡ Broken out arena kind address → ⊥
not_broken target g m (Over out arena report) f out' arena' kind address broken =
    let over_at = over_later target g f.0 (f.0 + m) _ _ _ (omega arith) f.1 in
    let broken_at = broken_later target g m (f.0 + m) _ _ _ _ (omega arith) broken in
    let e : Over out arena report ≡ Broken out' arena' kind address = sym over_at ∙ broken_at in
    cc
not_broken target g m (Going out arena) f out' arena' kind address broken =
    let e : Going out arena ≡ Broken out' arena' kind address = sym f.2 ∙ broken_later target g m f.0 _ _ _ _ f.1 broken in
    cc
not_broken target g m (Broken out arena kind' address') f out' arena' kind address broken = f

-- Where the target follows, and is no faster in counts of steps, the two runs agree: all five clauses come from the
-- one direction, since the target goes only one way.
pub agree_from : (source target : ℕ → Outcome) → Grows target → ((n : ℕ) → Follows n (source n) target) → RunsAgree source target
agree_from source target g follows = record {
  ends = λ n out arena report is. subst (λ o. Follows n o target) is (follows n);
  ends_only = λ m out arena report is. (m, over_only source target g m (source m) refl (follows m) out arena report is);
  writes = λ n out arena is. (let f : Follows n (Going out arena) target = subst (λ o. Follows n o target) is (follows n) in (f.0, subst (λ o. IsPrefix out (output_of o)) (sym f.2) (IsPrefix-refl out)));
  writes_only = λ m out arena is. (m, writes_first source target g m (source m) (follows m) out arena is);
  never_broken = λ m out arena kind address is. not_broken target g m (source m) (follows m) out arena kind address is;
}

-- what comes to be written in the middle comes to be written at the end
writes_through : (middle target : ℕ → Outcome) → RunsAgree middle target → (n : ℕ) (o : Outcome) → middle n ≡ o → ((out arena : List ℕ) (kind : Trap) (address : ℕ) → o ≢ Broken out arena kind address) → (out : List ℕ) → IsPrefix out (output_of o) → (m : ℕ) × IsPrefix out (output_of (target m))
writes_through middle target second n (Over out' arena report) is sound out p =
    let e = second.ends n out' arena report is in
    (e.0, subst (λ o. IsPrefix out (output_of o)) (sym e.1) p)
writes_through middle target second n (Going out' arena) is sound out p =
    let w = second.writes n out' arena is in
    (w.0, IsPrefix-trans _ _ _ p w.1)
writes_through middle target second n (Broken out' arena kind address) is sound out p = absurd (sound out' arena kind address refl)

-- what comes to be written in the middle was written at the start
writes_back : (source middle : ℕ → Outcome) → RunsAgree source middle → (n : ℕ) (o : Outcome) → middle n ≡ o → (out : List ℕ) → IsPrefix out (output_of o) → (m : ℕ) × IsPrefix out (output_of (source m))
writes_back source middle first n (Over out' arena report) is out p =
    let e = first.ends_only n out' arena report is in
    (e.0, subst (λ o. IsPrefix out (output_of o)) (sym e.1) p)
writes_back source middle first n (Going out' arena) is out p =
    let w = first.writes_only n out' arena is in
    (w.0, IsPrefix-trans _ _ _ p w.1)
writes_back source middle first n (Broken out' arena kind address) is out p = absurd (first.never_broken n out' arena kind address is)

-- agreements compose
pub agree-agree : (source middle target : ℕ → Outcome) → RunsAgree source middle → RunsAgree middle target → RunsAgree source target
agree-agree source middle target first second = record {
  ends = λ n out arena report is. (let e = first.ends n out arena report is in second.ends e.0 out arena report e.1);
  ends_only = λ m out arena report is. (let e = second.ends_only m out arena report is in first.ends_only e.0 out arena report e.1);
  writes = λ n out arena is. (let w = first.writes n out arena is in writes_through middle target second w.0 (middle w.0) refl (λ o a k d e. first.never_broken w.0 o a k d e) out w.1);
  writes_only = λ m out arena is. (let w = second.writes_only m out arena is in writes_back source middle first w.0 (middle w.0) refl out w.1);
  never_broken = second.never_broken;
}
