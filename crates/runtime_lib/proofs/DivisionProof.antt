-- The division of words meets its contract.
use Rattle.std.proofs.Common.{◌≡◌, ℕ, zero, suc, ◌+◌, ◌-◌, ◌*◌, ◌%◌, ◌^◌, ◌<◌, ◌≤◌, ◌==◌, not, Bool, true, false, nat_le, if◌then◌else◌, refl, sym, ap, subst, ◌∙◌, arith}
use Rattle.std.specs.Int.{from_bool}
use Rattle.std.proofs.lemmas.Bool.{leb-true, leb-false, eqb-false, eqb-true, not-true, not-false}
use Rattle.arm_isa.specs.Numbers.{NE}
use Rattle.arm2_alu.proofs.RegisterLaws.{updated}
use Rattle.arm2_alu.proofs.ValueLaws.{minus, compared, summed, summed_with}
use Rattle.arm_isa.specs.declared.instruction.Instr.TheVariants.{Data}
use Rattle.arm2_alu.specs.declared.operations.Computed.{Computed}
use Rattle.arm2_alu.specs.Operations.{is_test}
use Rattle.arm_core.specs.Core.{Core, put, meets, IsGood}
use Rattle.arm_core.specs.Effects.{computes, on_condition, operand_in, result_of, flagged_by}
use Rattle.arm_core.proofs.Comparisons.{after-ne}
use Rattle.arm_core.proofs.MemoryWords.{updated-other}
use Rattle.code_frag.specs.Demands.{Out, Post, on_falls, at_return, Owes}
use Rattle.code_frag.specs.Instructions.{num, reg, mov, subs}
use Rattle.code_frag.specs.Language.{Piece, Skip, Do, Seq, ◌⨾◌}
use Rattle.code_frag.proofs.Rules.{Round, end_here, do_then, set_then, set_flags_then, set_where_then, skip_where_then, repeat_then}
use Rattle.runtime_lib.specs.Entries.{Divides}
use Rattle.runtime_lib.specs.Numbers.{division_subtracts, division_compares, division_bit, division_turn, division}
use Rattle.runtime_lib.proofs.DivisionLaws.{Partway, Shifted, shifts, subtracts, leaves, word_fits, begins, ends, power_16}

-- where the division is: count turns are left, and the dividend's part that is left is below p
record Dividing (s : Core) (count p : ℕ) (t : Core) : Type 0 where
  left : t.regs 3 ≡ count
  divided : Partway (s.regs 0) (s.regs 1) p (t.regs 0) (t.regs 2)
  divisor : t.regs 1 ≡ s.regs 1
  kept : (k : ℕ) → 4 ≤ k → t.regs k ≡ s.regs k
  mem : t.mem ≡ s.mem
  out : t.out ≡ s.out
  input : t.input ≡ s.input

-- a test under a condition that holds
test_where_then : {Asks : ℕ → Core → Type 0} {Does : ℕ → Core → Out → Core → Type 0} {k : ℕ} {imm : Bool} {op rn rd op2 : ℕ} {rest : Piece} {Q : Post} {s : Core} (x : Computed) → meets k s ≡ true → is_test op ≡ true
    → result_of op (s.regs rn) (operand_in imm op2 s) s.c s.v ≡ x → Owes Asks Does rest Q (flagged_by x s) → Owes Asks Does (Seq (Do (Data k imm op true rn rd op2)) rest) Q s
test_where_then {Asks} {Does} {k} {imm} {op} {rn} {rd} {op2} {rest} {Q} {s} x holding test is owes =
    let r = result_of op (s.regs rn) (operand_in imm op2 s) s.c s.v in
    do_then (subst (λ b. Owes Asks Does rest Q (on_condition b (computes imm op true rn rd op2 s) s)) (sym holding)
    (subst (λ b. Owes Asks Does rest Q (if b then flagged_by r s else put rd r.value (flagged_by r s))) (sym test) (subst (λ y. Owes Asks Does rest Q (flagged_by y s)) (sym is) owes)))

-- R0 and R2 take values
two_kept : (f g : ℕ → ℕ) (x r k : ℕ) → 4 ≤ k → f k ≡ g k → updated (updated f 0 x) 2 r k ≡ g k
two_kept f g x r k high same = updated-other (updated f 0 x) 2 r k (λ e. omega (arith, e, high)) ∙ updated-other f 0 x k (λ e. omega (arith, e, high)) ∙ same

two_kept_back : (f g : ℕ → ℕ) (x r k : ℕ) → 4 ≤ k → f k ≡ g k → updated (updated f 2 r) 0 x k ≡ g k
two_kept_back f g x r k high same = updated-other (updated f 2 r) 0 x k (λ e. omega (arith, e, high)) ∙ updated-other f 2 r k (λ e. omega (arith, e, high)) ∙ same

-- where it is after a bit went into the remainder
record Halfway (s : Core) (count p r : ℕ) (t : Core) : Type 0 where
  left : t.regs 3 ≡ count
  shifted : Shifted (s.regs 0) (s.regs 1) p (t.regs 0) r
  word : t.regs 2 ≡ r % 2 ^ 32
  divisor : t.regs 1 ≡ s.regs 1
  kept : (k : ℕ) → 4 ≤ k → t.regs k ≡ s.regs k
  mem : t.mem ≡ s.mem
  out : t.out ≡ s.out
  input : t.input ≡ s.input

module _ {Asks : ℕ → Core → Type 0} {Does : ℕ → Core → Out → Core → Type 0} (s : Core) (good : IsGood s) {rest : Piece} {Q : Post} (count p : ℕ) (next : (u : Core) → Dividing s count p u → Owes Asks Does rest Q u) where
  subtracts_then : (r : ℕ) (t : Core) → Halfway s count p r t → s.regs 1 ≤ r → t.c ≡ true → Owes Asks Does (division_subtracts rest) Q t
  subtracts_then r t h holds set =
      let x = t.regs 0 in
      set_where_then (r - s.regs 1) set refl (omega (arith, h.word, h.divisor, h.shifted.rest, holds, good.regs 1))
      (set_where_then (x + 1) set refl (omega (arith, word_fits _ _ p x r h.shifted))
      (next _ (record {
        left = h.left;
        divided = subtracts _ _ p x r h.shifted holds;
        divisor = h.divisor;
        kept = λ k high. two_kept_back t.regs s.regs (x + 1) (r - s.regs 1) k high (h.kept k high);
        mem = h.mem;
        out = h.out;
        input = h.input;
      })))

  leaves_then : (r : ℕ) (t : Core) → Halfway s count p r t → r < s.regs 1 → t.c ≡ false → Owes Asks Does (division_subtracts rest) Q t
  leaves_then r t h below clear =
      skip_where_then clear
      (skip_where_then clear
      (next t (record {
        left = h.left;
        divided = subst (λ w. Partway (s.regs 0) (s.regs 1) p (t.regs 0) w) (sym (h.word ∙ omega (arith, below, good.regs 1))) (leaves _ _ p (t.regs 0) r h.shifted below);
        divisor = h.divisor;
        kept = h.kept;
        mem = h.mem;
        out = h.out;
        input = h.input;
      })))

  compares_then : (r : ℕ) (t : Core) → Halfway s count p r t → t.c ≡ nat_le (2 ^ 32) r → Owes Asks Does (division_compares rest) Q t
  compares_then r t h carry = each (nat_le (2 ^ 32) r) refl
    where
      compared_then : (c : Bool) → nat_le (s.regs 1) r ≡ c → r < 2 ^ 32 → Owes Asks Does (division_subtracts rest) Q (flagged_by (compared (t.regs 2) (t.regs 1)) t)
      compared_then c is small =
          let whole : t.regs 2 ≡ r = h.word ∙ omega (arith, small) in
          let same : nat_le (t.regs 1) (t.regs 2) ≡ nat_le (s.regs 1) r = (λ i. nat_le (h.divisor i) (whole i)) in
          let u = flagged_by (compared (t.regs 2) (t.regs 1)) t in
          let there : Halfway s count p r u = record { left = h.left; shifted = h.shifted; word = h.word; divisor = h.divisor; kept = h.kept; mem = h.mem; out = h.out; input = h.input } in
          by_carry c is (same ∙ is) u there refl
        where
          by_carry : (c : Bool) → nat_le (s.regs 1) r ≡ c → nat_le (t.regs 1) (t.regs 2) ≡ c → (u : Core) → Halfway s count p r u → u.c ≡ nat_le (t.regs 1) (t.regs 2) → Owes Asks Does (division_subtracts rest) Q u
          by_carry true is same u there flag = subtracts_then r u there (leb-true (s.regs 1) r is) (flag ∙ same)
          by_carry false is same u there flag = leaves_then r u there (leb-false (s.regs 1) r is) (flag ∙ same)

      each : (over : Bool) → nat_le (2 ^ 32) r ≡ over → Owes Asks Does (division_compares rest) Q t
      each true is = skip_where_then (ap not (carry ∙ is)) (subtracts_then r t h (omega (arith, leb-true (2 ^ 32) r is, good.regs 1)) (carry ∙ is))
      each false is = test_where_then (compared (t.regs 2) (t.regs 1)) (ap not (carry ∙ is)) refl refl (compared_then (nat_le (s.regs 1) r) refl (leb-false (2 ^ 32) r is))

  bit_then : (t : Core) → Dividing s count (2 * p) t → Owes Asks Does (division_bit rest) Q t
  bit_then t d =
      let x = t.regs 0 in
      let r = t.regs 2 in
      let top = nat_le (2 ^ 32) (x + x) in
      let more = r + r + from_bool top in
      set_flags_then (summed x x) refl refl
      (set_flags_then (summed_with r r top) refl refl
      (compares_then more _ (record {
        left = d.left;
        shifted = shifts _ _ p x r d.divided top refl;
        word = refl;
        divisor = d.divisor;
        kept = λ k high. two_kept t.regs s.regs ((x + x) % 2 ^ 32) (more % 2 ^ 32) k high (d.kept k high);
        mem = d.mem;
        out = d.out;
        input = d.input;
      }) refl))

-- what is asked at the end, and the part after the loop
abbrev AtEnd : Core → Post
AtEnd s = at_return (Divides s) s

abbrev after : Piece
after = mov 1 (reg 2) ⨾ Skip

-- n turns of four bits are left
record Turning (s : Core) (n : ℕ) (t : Core) : Type 0 where
  few : n < 2 ^ 32
  more : 0 < n
  at : Dividing s n (2 ^ (4 * n)) t

module _ {Asks : ℕ → Core → Type 0} {Does : ℕ → Core → Out → Core → Type 0} (s : Core) (good : IsGood s) (some : 0 < s.regs 1) where
  finished : (t : Core) → Dividing s 0 1 t → Owes Asks Does after (AtEnd s) t
  finished t d =
      let is = ends (s.regs 0) (s.regs 1) (t.regs 0) (t.regs 2) d.divided in
      set_then (t.regs 2) refl refl
      (end_here (
        record {
          falls = refl;
          quotient = is.0;
          remainder = is.1;
          kept = λ k high. updated-other t.regs 1 (t.regs 2) k (λ e. omega (arith, e, high)) ∙ d.kept k high;
          mem = d.mem;
          out = d.out;
          input = d.input;
        },
        d.kept 14 (omega arith),
      ))

  -- after four bits, one turn less
  counted : (m : ℕ) (t : Core) → suc m < 2 ^ 32 → Dividing s (suc m) (2 ^ (4 * m)) t → Owes Asks Does (subs 3 3 (num 1) ⨾ Skip) (on_falls (Round Asks Does NE after (AtEnd s) (Turning s) (suc m)) (AtEnd s)) t
  counted m t few d =
      let is = after-ne (suc m) 1 t few (omega arith) in
      let u = put 3 (minus (suc m) 1) (flagged_by (compared (suc m) 1) t) in
      let there : Dividing s m (2 ^ (4 * m)) u = record {
        left = omega (arith, few);
        divided = d.divided;
        divisor = d.divisor;
        kept = λ k high. updated-other t.regs 3 (minus (suc m) 1) k (λ e. omega (arith, e, high)) ∙ d.kept k high;
        mem = d.mem;
        out = d.out;
        input = d.input;
      } in
      set_flags_then (compared (suc m) 1) refl (λ i. compared (d.left i) 1)
      (end_here (record {
        more = λ e. record {
          count = m;
          less = omega arith;
          inv = record { few = omega (arith, few); more = omega (arith, eqb-false (suc m) 1 (not-true (suc m == 1) (sym is ∙ e))); at = there };
        };
        done = λ e.
            let none : m ≡ 0 = omega (arith, eqb-true (suc m) 1 (not-false (suc m == 1) (sym is ∙ e))) in
            finished u (subst (λ n. Dividing s n (2 ^ (4 * n)) u) none there);
      }))

  turn : (n : ℕ) (t : Core) → Turning s n t → Owes Asks Does division_turn (on_falls (Round Asks Does NE after (AtEnd s) (Turning s) n) (AtEnd s)) t
  turn zero t c = absurd (omega (arith, c.more))
  turn (suc m) t c =
      let n = suc m in
      let p = 2 ^ (4 * m) in
      bit_then s good n (2 * (2 * (2 * p)))
      (bit_then s good n (2 * (2 * p))
      (bit_then s good n (2 * p)
      (bit_then s good n p
      (λ u d. counted m u c.few d))))
      t
      (subst (λ k. Dividing s n k t) (power_16 m) c.at)

  pub division_owes : Owes Asks Does division (AtEnd s) s
  division_owes =
      set_then 0 refl refl
      (set_then 8 refl refl
      (repeat_then (Turning s) turn 8
      (record {
        few = omega arith;
        more = omega arith;
        at = record {
          left = refl;
          divided = begins (s.regs 0) (s.regs 1) (good.regs 0) some;
          divisor = refl;
          kept = λ k high. updated-other (updated s.regs 2 0) 3 8 k (λ e. omega (arith, e, high)) ∙ updated-other s.regs 2 0 k (λ e. omega (arith, e, high));
          mem = refl;
          out = refl;
          input = refl;
        };
      })))
