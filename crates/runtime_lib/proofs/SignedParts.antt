-- The parts of the operations on signed numbers: the operands' magnitudes, and the answer of a magnitude and a sign.
use Rattle.std.proofs.Common.{◌≡◌, ℕ, ◌^◌, ◌<◌, ◌≤◌, ◌==◌, not, Bool, true, false, ℤ, unsigned_abs, Result, Ok, Err, refl, sym, ap, subst, ◌∙◌, arith}
use Rattle.std.specs.Int.{w32, cast_signed, from_bool}
use Rattle.std.proofs.lemmas.Bool.{leb-true, leb-false, ltb-true, ltb-false, true≢false, false≢true}
use Rattle.arm_isa.specs.Numbers.{NE, CS}
use Rattle.arm2_alu.proofs.RegisterLaws.{updated}
use Rattle.arm2_alu.proofs.ValueLaws.{minus, compared}
use Rattle.arm_core.specs.Core.{Core, put}
use Rattle.arm_core.specs.Effects.{flagged_by}
use Rattle.arm_core.proofs.Comparisons.{after-cs, after-hi}
use Rattle.arm_core.proofs.MemoryWords.{updated-other}
use Rattle.code_frag.specs.Demands.{Out, Post, on_falls, Owes}
use Rattle.code_frag.specs.Instructions.{num, rsb, cmp}
use Rattle.code_frag.specs.Language.{Piece, Skip, If, When, ◌⨾◌}
use Rattle.code_frag.proofs.Rules.{end_here, set_then, test_then, if_then, when_then}
use Rattle.bv_num.specs.Operation.{too_big, in_range, is_negative, with_sign, differ}
use Rattle.runtime_lib.specs.Entries.{number_in, Answers}
use Rattle.runtime_lib.specs.Numbers.{top_bit, exchange, magnitudes, turn_sign, negative_answer, positive_answer, answer}
use Rattle.runtime_lib.proofs.Leading.{leads}
use Rattle.runtime_lib.proofs.SignedLaws.{IsSigned, is-low, is-high, positive_fits, positive_big, negative_fits, negative_big}

-- the sign of both operands, or of the left one
abbrev pub sign_of : Bool → Bool → Bool → Bool
sign_of true left right = differ left right
sign_of false left right = left

-- a core but for some registers
pub record Beside (low other : ℕ) (s t : Core) : Type 0 where
  pub kept : (k : ℕ) → low ≤ k → (k ≡ other → ⊥) → t.regs k ≡ s.regs k
  pub mem : t.mem ≡ s.mem
  pub out : t.out ≡ s.out
  pub input : t.input ≡ s.input

-- ---- magnitudes

-- the operands' magnitudes are in R0 and R1, and the sign in R5
pub record Magnitudes (of_both : Bool) (s t : Core) : Type 0 where
  pub left : t.regs 0 ≡ unsigned_abs (number_in s 1)
  pub right : t.regs 1 ≡ unsigned_abs (number_in s 0)
  pub sign : t.regs 5 ≡ from_bool (sign_of of_both (is_negative (number_in s 1)) (is_negative (number_in s 0)))
  pub beside : Beside 3 5 s t

-- the left one's, in R1
record LeftMagnitude (s : Core) (negative : Bool) (t : Core) : Type 0 where
  is : IsSigned (s.regs 1) negative (t.regs 1)
  right : t.regs 0 ≡ s.regs 0
  sign : t.regs 5 ≡ from_bool negative
  beside : Beside 3 5 s t

-- both, the right one's in R0
record BothMagnitudes (of_both : Bool) (s : Core) (left right : Bool) (t : Core) : Type 0 where
  is_left : IsSigned (s.regs 1) left (t.regs 1)
  is_right : IsSigned (s.regs 0) right (t.regs 0)
  sign : t.regs 5 ≡ from_bool (sign_of of_both left right)
  beside : Beside 3 5 s t

-- what follows on the left one
abbrev right_part : Bool → Piece
right_part of_both = cmp 0 (num top_bit) ⨾ When CS (rsb 0 0 (num 0) ⨾ turn_sign of_both) ⨾ exchange

module _ {Asks : ℕ → Core → Type 0} {Does : ℕ → Core → Out → Core → Type 0} (of_both : Bool) (s : Core) (left_small : s.regs 1 < 2 ^ 32) (right_small : s.regs 0 < 2 ^ 32) (Q : Post) where
  swaps : (left right : Bool) (t : Core) → BothMagnitudes of_both s left right t → Owes Asks Does exchange (on_falls (Magnitudes of_both s) Q) t
  swaps left right t b =
      let x = t.regs 1 in
      let y = t.regs 0 in
      set_then y refl refl
      (set_then x refl refl
      (set_then y refl refl
      (end_here (record {
        left = sym b.is_left.size;
        right = sym b.is_right.size;
        sign = b.sign ∙ (λ i. from_bool (sign_of of_both (sym b.is_left.sign i) (sym b.is_right.sign i)));
        beside = record {
          kept = λ k high other. updated-other (updated (updated t.regs 2 y) 0 x) 1 y k (λ e. omega (arith, e, high)) ∙ updated-other (updated t.regs 2 y) 0 x k (λ e. omega (arith, e, high))
              ∙ updated-other t.regs 2 y k (λ e. omega (arith, e, high)) ∙ b.beside.kept k high other;
          mem = b.beside.mem;
          out = b.beside.out;
          input = b.beside.input;
        };
      }))))

  -- the sign of a negative right operand
  turned : (both : Bool) (left : Bool) (sign : Bool) → sign ≡ sign_of both left true → (t : Core) (R : Core → Type 0) → t.regs 5 ≡ from_bool left → IsSigned (s.regs 1) left (t.regs 1) → IsSigned (s.regs 0) true (t.regs 0) → Beside 3 5 s t
      → ((u : Core) → IsSigned (s.regs 1) left (u.regs 1) → IsSigned (s.regs 0) true (u.regs 0) → u.regs 5 ≡ from_bool sign → Beside 3 5 s u → R u) → Owes Asks Does (turn_sign both) (on_falls R Q) t
  turned false left sign is t R five one zero beside next = end_here (next t one zero (five ∙ ap from_bool (sym is)) beside)
  turned true left sign is t R five one zero beside next =
      let other = from_bool sign in
      set_then other refl ((λ i. minus 1 (five i)) ∙ flipped left sign is)
      (end_here (next (put 5 other t) one zero refl
      (record { kept = λ k high apart. updated-other t.regs 5 other k apart ∙ beside.kept k high apart; mem = beside.mem; out = beside.out; input = beside.input })))
    where
      flipped : (left sign : Bool) → sign ≡ differ left true → minus 1 (from_bool left) ≡ from_bool sign
      flipped true sign is = ap from_bool (sym is)
      flipped false sign is = ap from_bool (sym is)

  right_owes : (left : Bool) (t : Core) → LeftMagnitude s left t → Owes Asks Does (right_part of_both) (on_falls (Magnitudes of_both s) Q) t
  right_owes left t m =
      let b = s.regs 0 in
      let u = flagged_by (compared b (2 ^ 31)) t in
      let is = after-cs b (2 ^ 31) t in
      test_then (compared b (2 ^ 31)) refl (λ i. compared (m.right i) (2 ^ 31))
      (when_then
      (λ e.
      let high = leb-true (2 ^ 31) b (sym is ∙ e) in
      let size = is-high b high right_small in
      set_then (minus 0 b) refl (ap (λ x. minus 0 x) m.right)
      (turned of_both left (sign_of of_both left true) refl (put 0 (minus 0 b) u) _ m.sign m.is size
      (record { kept = λ k low apart. updated-other t.regs 0 (minus 0 b) k (λ z. omega (arith, z, low)) ∙ m.beside.kept k low apart; mem = m.beside.mem; out = m.beside.out; input = m.beside.input })
      (λ v one zero five beside. swaps left true v (record { is_left = one; is_right = zero; sign = five; beside = beside }))))
      (λ e.
      let low = leb-false (2 ^ 31) b (sym is ∙ e) in
      let size = is-low b low in
      swaps left false u (record {
        is_left = m.is;
        is_right = subst (λ x. IsSigned b false x) (sym m.right) size;
        sign = m.sign ∙ ap from_bool (same of_both left);
        beside = record { kept = m.beside.kept; mem = m.beside.mem; out = m.beside.out; input = m.beside.input };
      })))
    where
      same : (both left : Bool) → left ≡ sign_of both left false
      same true true = refl
      same true false = refl
      same false left = refl

  pub magnitudes_owes : Owes Asks Does (magnitudes of_both) (on_falls (Magnitudes of_both s) Q) s
  magnitudes_owes =
      let a = s.regs 1 in
      let t = put 5 0 s in
      let u = flagged_by (compared a (2 ^ 31)) t in
      let is = after-cs a (2 ^ 31) t in
      let beside : Beside 3 5 s u = record { kept = λ k low apart. updated-other s.regs 5 0 k apart; mem = refl; out = refl; input = refl } in
      set_then 0 refl refl
      (test_then (compared a (2 ^ 31)) refl refl
      (when_then
      (λ e.
      let high = leb-true (2 ^ 31) a (sym is ∙ e) in
      set_then (minus 0 a) refl refl
      (set_then 1 refl refl
      (end_here (right_owes true _ (record {
        is = is-high a high left_small;
        right = refl;
        sign = refl;
        beside = record {
          kept = λ k low apart. updated-other (updated u.regs 1 (minus 0 a)) 5 1 k apart ∙ updated-other u.regs 1 (minus 0 a) k (λ z. omega (arith, z, low)) ∙ beside.kept k low apart;
          mem = refl;
          out = refl;
          input = refl;
        };
      })))))
      (λ e.
      let low = leb-false (2 ^ 31) a (sym is ∙ e) in
      right_owes false u (record { is = is-low a low; right = refl; sign = refl; beside = beside }))))

-- ---- the answer

-- a result or an error is in R0 and R1
pub record GivesAnswer (result : Result ℤ ℕ) (s t : Core) : Type 0 where
  pub answers : Answers result t
  pub kept : (k : ℕ) → 3 ≤ k → t.regs k ≡ s.regs k
  pub mem : t.mem ≡ s.mem
  pub out : t.out ≡ s.out
  pub input : t.input ≡ s.input

-- no error yet: R1 is 0, and R0 has the magnitude
record AwaitsAnswer (m : ℕ) (s t : Core) : Type 0 where
  magnitude : t.regs 0 ≡ m
  none : t.regs 1 ≡ 0
  kept : (k : ℕ) → 3 ≤ k → t.regs k ≡ s.regs k
  mem : t.mem ≡ s.mem
  out : t.out ≡ s.out
  input : t.input ≡ s.input

one_kept : (f g : ℕ → ℕ) (n x k : ℕ) → n < 3 → 3 ≤ k → f k ≡ g k → updated f n x k ≡ g k
one_kept f g n x k low high same = updated-other f n x k (λ e. omega (arith, e, low, high)) ∙ same

-- a result as it is answered
pub by_result : (result is : Result ℤ ℕ) (t : Core) → result ≡ is → Answers is t → Answers result t
by_result result is t same answers = subst (λ r. Answers r t) (sym same) answers

-- it stands in R0 and R1
pub in_registers : (result : Result ℤ ℕ) (t u : Core) → u.regs 0 ≡ t.regs 0 → u.regs 1 ≡ t.regs 1 → Answers result t → Answers result u
in_registers (Ok value) t u zero one answers = (one ∙ answers.0, ap (cast_signed w32) zero ∙ answers.1)
in_registers (Err error) t u zero one answers = one ∙ answers

module _ {Asks : ℕ → Core → Type 0} {Does : ℕ → Core → Out → Core → Type 0} (s : Core) (Q : Post) (m : ℕ) (small : m < 2 ^ 32) where
  positive : (t : Core) → AwaitsAnswer m s t → Owes Asks Does positive_answer (on_falls (GivesAnswer (in_range (with_sign false m)) s) Q) t
  positive t a =
      let over = after-cs m (2 ^ 31) t in
      test_then (compared m (2 ^ 31)) refl (λ i. compared (a.magnitude i) (2 ^ 31))
      (when_then
      (λ e. set_then too_big refl refl (end_here (end_here (record {
        answers = by_result _ (Err too_big) _ (positive_big m (leb-true (2 ^ 31) m (sym over ∙ e))) refl;
        kept = λ k high. one_kept t.regs s.regs 1 too_big k (omega arith) high (a.kept k high);
        mem = a.mem;
        out = a.out;
        input = a.input;
      }))))
      (λ e. end_here (record {
        answers = by_result _ (Ok (cast_signed w32 m)) _ (positive_fits m (leb-false (2 ^ 31) m (sym over ∙ e))) (a.none, ap (cast_signed w32) a.magnitude);
        kept = a.kept;
        mem = a.mem;
        out = a.out;
        input = a.input;
      })))

  negative : (t : Core) → AwaitsAnswer m s t → Owes Asks Does negative_answer (on_falls (GivesAnswer (in_range (with_sign true m)) s) Q) t
  negative t a =
      let over = after-hi m (2 ^ 31) t small (omega arith) in
      let x = minus 0 m in
      test_then (compared m (2 ^ 31)) refl (λ i. compared (a.magnitude i) (2 ^ 31))
      (when_then
      (λ e. set_then too_big refl refl (end_here (set_then x refl (ap (λ y. minus 0 y) a.magnitude) (end_here (record {
        answers = by_result _ (Err too_big) _ (negative_big m (ltb-true (2 ^ 31) m (sym over ∙ e))) refl;
        kept = λ k high. one_kept (updated t.regs 1 too_big) s.regs 0 x k (omega arith) high (one_kept t.regs s.regs 1 too_big k (omega arith) high (a.kept k high));
        mem = a.mem;
        out = a.out;
        input = a.input;
      })))))
      (λ e. set_then x refl (ap (λ y. minus 0 y) a.magnitude) (end_here (record {
        answers = by_result _ (Ok (cast_signed w32 x)) _ (negative_fits m (ltb-false (2 ^ 31) m (sym over ∙ e))) (a.none, refl);
        kept = λ k high. one_kept t.regs s.regs 0 x k (omega arith) high (a.kept k high);
        mem = a.mem;
        out = a.out;
        input = a.input;
      }))))

module _ {Asks : ℕ → Core → Type 0} {Does : ℕ → Core → Out → Core → Type 0} (s : Core) (Q : Post) (m : ℕ) (small : m < 2 ^ 32) (is : s.regs 0 ≡ m) where
  pub answer_owes : (sign : Bool) → s.regs 5 ≡ from_bool sign → Owes Asks Does answer (on_falls (GivesAnswer (in_range (with_sign sign m)) s) Q) s
  answer_owes sign five =
      set_then 0 refl refl
      (test_then (compared (from_bool sign) 0) refl (λ i. compared (five i) 0)
      (by_sign sign _ refl (record {
        magnitude = is;
        none = refl;
        kept = λ k high. one_kept s.regs s.regs 1 0 k (omega arith) high refl;
        mem = refl;
        out = refl;
        input = refl;
      })))
    where
      by_sign : (sign : Bool) (t : Core) → t.z ≡ (minus (from_bool sign) 0 == 0) → AwaitsAnswer m s t
          → Owes Asks Does (If NE negative_answer positive_answer ⨾ Skip) (on_falls (GivesAnswer (in_range (with_sign sign m)) s) Q) t
      by_sign true t zero a = if_then (λ e. leads (GivesAnswer (in_range (with_sign true m)) s) _ Q (λ u q. end_here q) (negative s Q m small t a)) (λ e. absurd (true≢false (sym (ap not zero) ∙ e)))
      by_sign false t zero a = if_then (λ e. absurd (false≢true (sym (ap not zero) ∙ e))) (λ e. leads (GivesAnswer (in_range (with_sign false m)) s) _ Q (λ u q. end_here q) (positive s Q m small t a))
