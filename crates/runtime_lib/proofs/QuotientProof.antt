-- DIV and MOD meet their contracts.
use Rattle.std.proofs.Common.{◌≡◌, ℕ, ◌/◌, ◌%◌, ◌^◌, ◌<◌, ◌≤◌, ◌==◌, ◌&&◌, Bool, true, false, if◌then◌else◌, ℤ, unsigned_abs, Result, Err, refl, sym, ap, ◌∙◌, arith}
use Rattle.std.specs.Int.{from_bool}
use Rattle.std.proofs.lemmas.Bool.{eqb-true, eqb-false, ne_eqb}
use Rattle.arm_isa.specs.Numbers.{EQ}
use Rattle.arm2_alu.proofs.ValueLaws.{compared}
use Rattle.arm_core.specs.Core.{Core, put, meets, IsGood}
use Rattle.arm_core.specs.Effects.{flagged_by}
use Rattle.arm_core.proofs.Comparisons.{after-eq}
use Rattle.arm_core.proofs.MemoryWords.{updated-other}
use Rattle.code_frag.specs.Demands.{Post, on_falls, at_return, Owes}
use Rattle.code_frag.specs.Instructions.{num, reg, mov}
use Rattle.code_frag.specs.Language.{Piece, Skip, Call, ◌⨾◌}
use Rattle.code_frag.proofs.Rules.{end_here, set_then, test_then, if_then, call_then, cut_then}
use Rattle.bv_num.specs.Operation.{Operation, operation, Divide, Remainder, divides, exact, division_by_zero, in_range, is_negative, with_sign, differ}
use Rattle.runtime_lib.specs.Entries.{LibraryAsks, LibraryDoes, Calculates, number_in, routine_does, Quotient, Modulus, Division, label_of}
use Rattle.runtime_lib.specs.Numbers.{magnitudes, answer, quotient, modulus}
use Rattle.runtime_lib.proofs.SignedParts.{sign_of, Magnitudes, magnitudes_owes, GivesAnswer, answer_owes, by_result, in_registers}
use Rattle.runtime_lib.proofs.SignedLaws.{zero-magnitude, some-magnitude}

-- the operands
abbrev left : Core → ℤ
left s = number_in s 1

abbrev right : Core → ℤ
right s = number_in s 0

-- what is asked at the end of an operation, and in a part of it
abbrev AtEnd : Result ℤ ℕ → Core → Post
AtEnd result s = at_return (Calculates result s) s

abbrev Inside : Result ℤ ℕ → Core → Post
Inside result s = on_falls (Owes LibraryAsks LibraryDoes Skip (AtEnd result s)) (AtEnd result s)

-- what an operation leaves as it was, where the return address is in R4
record Aside (s t : Core) : Type 0 where
  back : t.regs 4 ≡ s.regs 14
  kept : (k : ℕ) → 9 ≤ k → k ≤ 13 → t.regs k ≡ s.regs k
  mem : t.mem ≡ s.mem
  out : t.out ≡ s.out
  input : t.input ≡ s.input

-- the magnitudes are divided
record DividesMagnitudes (of_both : Bool) (s t : Core) : Type 0 where
  quotient : t.regs 0 ≡ unsigned_abs (left s) / unsigned_abs (right s)
  remainder : t.regs 1 ≡ unsigned_abs (left s) % unsigned_abs (right s)
  sign : t.regs 5 ≡ from_bool (sign_of of_both (is_negative (left s)) (is_negative (right s)))
  small : (k : ℕ) → t.regs k < 2 ^ 32
  aside : Aside s t

module _ (s : Core) (good : IsGood s) where
  abbrev tested : Core
  tested = flagged_by (compared (s.regs 0) 0) s

  divides_then : (of_both : Bool) {rest : Piece} (Q : Post) → (s.regs 0 ≡ 0 → ⊥) → ((t : Core) → DividesMagnitudes of_both s t → Owes LibraryAsks LibraryDoes rest Q t)
      → Owes LibraryAsks LibraryDoes (mov 4 (reg 14) ⨾ magnitudes of_both ⨾ Call (label_of Division) ⨾ rest) Q tested
  divides_then of_both {rest} Q some next =
      let u = put 4 (s.regs 14) tested in
      let divisor = some-magnitude (s.regs 0) (good.regs 0) some in
      set_then (s.regs 14) refl refl
      (cut_then (Magnitudes of_both u) (magnitudes_owes of_both u (good.regs 1) (good.regs 0) Q)
      (λ t m.
      call_then (λ r low. let x : 0 < t.regs 1 = omega (arith, m.right, positive (unsigned_abs (right s)) divisor) in x)
      (λ r v low good_v d.
      next v (record {
        quotient = d.quotient ∙ (λ i. m.left i / m.right i);
        remainder = d.remainder ∙ (λ i. m.left i % m.right i);
        sign = d.kept 5 (omega arith) ∙ m.sign;
        small = good_v.regs;
        aside = record {
          back = d.kept 4 (omega arith) ∙ m.beside.kept 4 (omega arith) (λ e. omega (arith, e));
          kept = λ k high low_k. d.kept k (omega (arith, high)) ∙ updated-other t.regs 14 r k (λ e. omega (arith, e, low_k))
              ∙ m.beside.kept k (omega (arith, high)) (λ e. omega (arith, e, high)) ∙ updated-other s.regs 4 (s.regs 14) k (λ e. omega (arith, e, high));
          mem = d.mem ∙ m.beside.mem;
          out = d.out ∙ m.beside.out;
          input = d.input ∙ m.beside.input;
        };
      }))
      (λ r l v low good_v d. absurd (let f = d.falls in cc))))
    where
      positive : (n : ℕ) → (n ≡ 0 → ⊥) → 0 < n
      positive n other = omega (arith, other)

  -- a magnitude and its sign are answered
  answers_then : (result : Result ℤ ℕ) (sign : Bool) (m : ℕ) (t : Core) → m < 2 ^ 32 → t.regs 0 ≡ m → t.regs 5 ≡ from_bool sign → Aside s t → result ≡ in_range (with_sign sign m)
      → Owes LibraryAsks LibraryDoes (answer ⨾ mov 14 (reg 4) ⨾ Skip) (Inside result s) t
  answers_then result sign m t small is five aside same =
      cut_then (GivesAnswer (in_range (with_sign sign m)) t) (answer_owes t (Inside result s) m small is sign five)
      (λ u a.
      set_then (s.regs 14) refl (a.kept 4 (omega arith) ∙ aside.back)
      (end_here (end_here (
        record {
          falls = refl;
          answers = by_result result (in_range (with_sign sign m)) _ same (in_registers (in_range (with_sign sign m)) u _ refl refl a.answers);
          kept = λ k high low. updated-other u.regs 14 (s.regs 14) k (λ e. omega (arith, e, low)) ∙ a.kept k (omega (arith, high)) ∙ aside.kept k high low;
          mem = a.mem ∙ aside.mem;
          out = a.out ∙ aside.out;
          input = a.input ∙ aside.input;
        },
        refl,
      ))))

  -- the error of a zero divisor
  fails : (result : Result ℤ ℕ) → result ≡ Err division_by_zero → Owes LibraryAsks LibraryDoes (mov 1 (num division_by_zero) ⨾ Skip) (Inside result s) tested
  fails result is =
      set_then 18 refl refl
      (end_here (end_here (
        record {
          falls = refl;
          answers = by_result result (Err division_by_zero) _ is refl;
          kept = λ k high low. updated-other s.regs 1 18 k (λ e. omega (arith, e, high));
          mem = refl;
          out = refl;
          input = refl;
        },
        refl,
      )))

  -- an operation by its divisor
  of_zero : (op : Operation) → divides op ≡ true → s.regs 0 ≡ 0 → operation op (left s) (right s) ≡ Err division_by_zero
  of_zero op divided is = (λ i. if divided i && (zero-magnitude (s.regs 0) is i == 0) then Err division_by_zero else in_range (exact op (left s) (right s)))

  of_other : (op : Operation) → (s.regs 0 ≡ 0 → ⊥) → operation op (left s) (right s) ≡ in_range (exact op (left s) (right s))
  of_other op some = each (divides op)
    where
      each : (b : Bool) → (if b && (unsigned_abs (right s) == 0) then Err division_by_zero else in_range (exact op (left s) (right s))) ≡ in_range (exact op (left s) (right s))
      each true = ap (λ t. if t then Err division_by_zero else in_range (exact op (left s) (right s))) (ne_eqb (unsigned_abs (right s)) 0 (some-magnitude (s.regs 0) (good.regs 0) some))
      each false = refl

  zero : meets EQ tested ≡ (s.regs 0 == 0)
  zero = after-eq (s.regs 0) 0 s (good.regs 0) (omega arith)

  pub quotient_owes : Owes LibraryAsks LibraryDoes quotient (at_return (routine_does Quotient s) s) s
  quotient_owes =
      let result = operation Divide (left s) (right s) in
      test_then (compared (s.regs 0) 0) refl refl
      (if_then
      (λ e. fails result (of_zero Divide refl (eqb-true (s.regs 0) 0 (sym zero ∙ e))))
      (λ e.
      let some = eqb-false (s.regs 0) 0 (sym zero ∙ e) in
      divides_then true (Inside result s) some
      (λ t d.
      let q = t.regs 0 in
      let sign = differ (is_negative (left s)) (is_negative (right s)) in
      answers_then result sign q t (d.small 0) refl d.sign d.aside (of_other Divide some ∙ ap (λ n. in_range (with_sign sign n)) (sym d.quotient)))))

  pub modulus_owes : Owes LibraryAsks LibraryDoes modulus (at_return (routine_does Modulus s) s) s
  modulus_owes =
      let result = operation Remainder (left s) (right s) in
      test_then (compared (s.regs 0) 0) refl refl
      (if_then
      (λ e. fails result (of_zero Remainder refl (eqb-true (s.regs 0) 0 (sym zero ∙ e))))
      (λ e.
      let some = eqb-false (s.regs 0) 0 (sym zero ∙ e) in
      divides_then false (Inside result s) some
      (λ t d.
      let m = t.regs 1 in
      let sign = is_negative (left s) in
      set_then m refl refl
      (answers_then result sign m (put 0 m t) (d.small 1) refl d.sign
      (record { back = d.aside.back; kept = λ k high low. updated-other t.regs 0 m k (λ x. omega (arith, x, high)) ∙ d.aside.kept k high low; mem = d.aside.mem; out = d.aside.out; input = d.aside.input })
      (of_other Remainder some ∙ ap (λ n. in_range (with_sign sign n)) (sym d.remainder))))))
