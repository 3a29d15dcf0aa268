-- R1 spaces.
use Rattle.std.proofs.Common.{◌≡◌, ℕ, zero, suc, ◌+◌, ◌-◌, ◌%◌, ◌^◌, ◌<◌, ◌≤◌, ◌==◌, [], ◌∷◌, ◌++◌, refl, sym, ap, ◌∙◌, arith, append_assoc, append-nil, eqb-true}
use Rattle.std.proofs.lemmas.Bool.{eqb-false, not-true, not-false}
use Rattle.bas_value.specs.Output.{spaces}
use Rattle.arm_isa.specs.Numbers.{NE}
use Rattle.arm2_alu.proofs.ValueLaws.{compared}
use Rattle.arm_core.specs.Core.{Core, IsGood}
use Rattle.arm_core.specs.Effects.{flagged_by}
use Rattle.arm_core.proofs.Comparisons.{after-ne}
use Rattle.arm_core.proofs.MemoryWords.{updated-other}
use Rattle.code_frag.specs.Demands.{Post, on_falls, at_return, Owes}
use Rattle.code_frag.specs.Language.{Skip}
use Rattle.code_frag.proofs.Rules.{Less, Turn, end_here, do_then, set_then, test_then, while_then}
use Rattle.runtime_lib.specs.Entries.{WritesRun, LibraryAsks, LibraryDoes}
use Rattle.runtime_lib.specs.Writing.{run, run_test, run_turn}

-- n spaces are left to write
record Spacing (s : Core) (n : ℕ) (t : Core) : Type 0 where
  left : t.regs 1 ≡ n
  small : n < 2 ^ 32
  byte : t.regs 0 ≡ 32
  written : ℕ
  all : written + n ≡ s.regs 1
  out : t.out ≡ s.out ++ spaces written
  mem : t.mem ≡ s.mem
  input : t.input ≡ s.input
  kept : (k : ℕ) → 2 ≤ k → t.regs k ≡ s.regs k

one_more : (n : ℕ) → spaces n ++ 32 ∷ [] ≡ spaces (n + 1)
one_more zero = refl
one_more (suc n) = (λ i. 32 ∷ one_more n i) ∙ ap spaces (let e : suc (n + 1) ≡ suc n + 1 = omega arith in e)

module _ (s : Core) (good : IsGood s) where
  abbrev Goal : Post
  Goal = at_return (WritesRun s) s

  -- one space more
  turn : (n : ℕ) (t u : Core) → Spacing s n t → (n ≡ 0 → ⊥) → u.regs ≡ t.regs → u.out ≡ t.out → u.mem ≡ t.mem → u.input ≡ t.input → Owes LibraryAsks LibraryDoes run_turn (on_falls (Less (Spacing s) n) Goal) u
  turn n t u c some regs out mem input =
      let one : u.regs 1 ≡ n = (λ i. regs i 1) ∙ c.left in
      let zero_is : u.regs 0 ≡ 32 = (λ i. regs i 0) ∙ c.byte in
      do_then
      (set_then (n - 1) refl (omega (arith, one, some, c.small))
      (end_here (record {
        count = n - 1;
        less = omega (arith, some);
        inv = record {
          left = refl;
          small = omega (arith, c.small);
          byte = zero_is;
          written = c.written + 1;
          all = omega (arith, c.all, some);
          out =
              (λ i. (out ∙ c.out) i ++ (ap (λ x. x % 2 ^ 8) zero_is i ∷ []))
              ∙ append_assoc s.out (spaces c.written) (32 ∷ []) ∙ ap (λ l. s.out ++ l) (one_more c.written);
          mem = mem ∙ c.mem;
          input = input ∙ c.input;
          kept = λ k high. updated-other u.regs 1 (n - 1) k (λ e. omega (arith, e, high)) ∙ (λ i. regs i k) ∙ c.kept k high;
        };
      })))

  test : (n : ℕ) (t : Core) → Spacing s n t → Owes LibraryAsks LibraryDoes run_test (on_falls (Turn LibraryAsks LibraryDoes NE run_turn Skip Goal (Spacing s) n) Goal) t
  test n t c =
      let is = after-ne n 0 t c.small (omega arith) in
      test_then (compared n 0) refl (λ i. compared (c.left i) 0)
      (end_here (record {
        more = λ e. turn n t (flagged_by (compared n 0) t) c (eqb-false n 0 (not-true (n == 0) (sym is ∙ e))) refl refl refl refl;
        done = λ e. end_here (
            let none : n ≡ 0 = eqb-true n 0 (not-false (n == 0) (sym is ∙ e)) in (
              record {
                falls = refl;
                out = c.out ∙ ap (λ k. s.out ++ spaces k) (omega (arith, c.all, none));
                mem = c.mem;
                input = c.input;
                kept = c.kept;
              },
              c.kept 14 (omega arith),
            ));
      }))

  pub run_owes : Owes LibraryAsks LibraryDoes run Goal s
  run_owes =
      set_then 32 refl refl
      (while_then (Spacing s) test (s.regs 1)
      (record {
        left = refl;
        small = good.regs 1;
        byte = refl;
        written = 0;
        all = omega arith;
        out = sym (append-nil s.out);
        mem = refl;
        input = refl;
        kept = λ k high. updated-other s.regs 0 32 k (λ e. omega (arith, e, high));
      }))
