-- The machine of a program's flat code shows at each bound of steps what the meaning shows.
use Rattle.std.proofs.Common.{◌≡◌, ℕ, zero, suc, ◌<◌, ◌≤◌, List, [], refl, sym, ap, ◌∙◌, length, arith}
use Rattle.bas_ast.specs.declared.program.Prog.{Prog}
use Rattle.bas_ir.specs.Machine.{flat_step, and_on, flat_from, first_place, shown, enough, flat_run_within}
use Rattle.bas_ir.specs.Places.{Place, front, start_of}
use Rattle.bas_sem.specs.Course.{Course, Value, Raised, Over, Spent}
use Rattle.bas_sem.specs.Meaning.{source_run}
use Rattle.bas_sem.specs.State.{State, start}
use Rattle.bas_sem.proofs.Runs.{source_run-is}
use Rattle.ir_build.specs.Code.{flat_code}
use Rattle.ir_build.proofs.Bounds.{potential, PlaceSuffices, Good, step_good, first_suffices, pending_none}
use Rattle.ir_build.proofs.Denote.{denote, after}
use Rattle.ir_build.proofs.Spots.{Spot, Past, Inside, Begins, spot, front_at_start}
use Rattle.ir_build.proofs.StepDenotes.{AtRest, step_denote, item_denote}

module _ (prog : Prog) where
  rest_at : (place : Place) → PlaceSuffices prog place → Spot prog place.pc → AtRest prog place
  rest_at place suffices (Past none empty row) marked = pending_none prog place suffices empty
  rest_at place suffices (Inside op is plain ops same) marked = absurd (cc)
  rest_at place suffices (Begins op row is begins empty found code next) marked = pending_none prog place suffices empty

  flat_from-suc : (k : ℕ) (place : Place) (s : State) → flat_from (flat_code prog) (suc k) place s ≡ and_on (flat_from (flat_code prog) k) (flat_step (flat_code prog) place s)
  unfolding flat_from
  flat_from-suc k place s = refl

  goes_denote : (k limit : ℕ) (r : Course Place) → limit ≤ k → Good prog limit r
      → ((place : Place) (s : State) → PlaceSuffices prog place → potential prog place s < k → shown (flat_from (flat_code prog) k place s) ≡ denote prog (flat_code prog) place s)
      → shown (and_on (flat_from (flat_code prog) k) r) ≡ after prog (flat_code prog) r
  goes_denote k limit (Value place s) few good rest = rest place s good.0 (omega (arith, good.1, few))
  goes_denote k limit (Raised h s) few good rest = refl
  goes_denote k limit (Over report s) few good rest = refl
  goes_denote k limit (Spent s) few good rest = refl

  -- enough operations show what the place denotes
  pub run_denote : (k : ℕ) (place : Place) (s : State) → PlaceSuffices prog place → potential prog place s < k
      → shown (flat_from (flat_code prog) k place s) ≡ denote prog (flat_code prog) place s
  run_denote zero place s suffices few = absurd (omega (arith, few))
  run_denote (suc k) place s suffices few =
      ap shown (flat_from-suc k place s)
      ∙ goes_denote k (potential prog place s) (flat_step (flat_code prog) place s) (omega (arith, few)) (step_good prog place s suffices) (run_denote k)
      ∙ sym (step_denote prog place s (rest_at place suffices (spot prog place.pc)))

  pub flat_run_within-is : (input : List ℕ) (n : ℕ) → flat_run_within (flat_code prog) input n
      ≡ shown (flat_from (flat_code prog) (enough (flat_code prog) n) (first_place (flat_code prog)) (start prog.names input n))
  unfolding flat_run_within
  flat_run_within-is input n = refl

  pub runs_within : (input : List ℕ) (n : ℕ) → source_run prog input n ≡ flat_run_within (flat_code prog) input n
  runs_within input n =
      let none : length (front (flat_code prog) (start_of (flat_code prog) 0)) ≡ 0 = ap length (front_at_start prog 0) in
      source_run-is prog input n
      ∙ sym (item_denote prog [] 0 (start prog.names input n))
      ∙ sym (run_denote (enough (flat_code prog) n) (first_place (flat_code prog)) (start prog.names input n) (first_suffices prog) (omega (arith, none)))
      ∙ sym (flat_run_within-is input n)
