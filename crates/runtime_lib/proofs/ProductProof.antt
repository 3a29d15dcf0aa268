-- The product meets its contract.
use Rattle.std.proofs.Common.{◌≡◌, ℕ, ◌+◌, ◌*◌, ◌/◌, ◌%◌, ◌^◌, ◌<◌, ◌≤◌, Bool, true, unsigned_abs, Err, refl, sym, ap, subst, ◌∙◌, arith}
use Rattle.std.specs.Int.{from_bool}
use Rattle.std.proofs.lemmas.Bool.{leb-true, leb-false, ltb-true, ltb-false}
use Rattle.arm_isa.specs.Numbers.{CS}
use Rattle.arm2_alu.proofs.RegisterLaws.{updated}
use Rattle.arm2_alu.proofs.ValueLaws.{minus, compared}
use Rattle.arm_core.specs.Core.{Core, put, IsGood}
use Rattle.arm_core.specs.Effects.{flagged_by}
use Rattle.arm_core.proofs.Comparisons.{after-cs, after-cc}
use Rattle.arm_core.proofs.MemoryWords.{updated-other}
use Rattle.arm_core.proofs.ShiftedOperands.{lsl-value, lsr-value}
use Rattle.code_frag.specs.Demands.{Falls, Post, on_falls, at_return, Owes}
use Rattle.code_frag.specs.Instructions.{num, mov, cmp}
use Rattle.code_frag.specs.Language.{Piece, Skip, If, ◌⨾◌}
use Rattle.code_frag.proofs.Rules.{end_here, set_then, test_then, if_then, when_then, cut_then, multiply_then}
use Rattle.bv_num.specs.Operation.{operation, Multiply, too_big, in_range, is_negative, with_sign, differ}
use Rattle.runtime_lib.specs.Entries.{LibraryAsks, LibraryDoes, Answers, number_in, routine_does, Product}
use Rattle.runtime_lib.specs.Numbers.{half_word, answer, product_by_halves, product}
use Rattle.runtime_lib.proofs.Leading.{leads}
use Rattle.runtime_lib.proofs.SignedParts.{Magnitudes, magnitudes_owes, GivesAnswer, answer_owes, by_result}
use Rattle.runtime_lib.proofs.SignedLaws.{product_is, magnitude-le, big, both_great, halves}

-- what is asked at the end
abbrev AtEnd : Core → Post
AtEnd s = at_return (routine_does Product s) s

-- the sign of the product, and its magnitude
abbrev sign : Core → Bool
sign s = differ (is_negative (number_in s 1)) (is_negative (number_in s 0))

abbrev size : Core → ℕ
size s = unsigned_abs (number_in s 1) * unsigned_abs (number_in s 0)

-- the factors are in R0 and R1, and R8 to R14 are as they were
record Factors (s : Core) (x y : ℕ) (t : Core) : Type 0 where
  first : t.regs 0 ≡ x
  second : t.regs 1 ≡ y
  whole : x * y ≡ size s
  first_low : x ≤ 2 ^ 31
  second_low : y ≤ 2 ^ 31
  sign_is : t.regs 5 ≡ from_bool (sign s)
  kept : (k : ℕ) → 8 ≤ k → t.regs k ≡ s.regs k
  mem : t.mem ≡ s.mem
  out : t.out ≡ s.out
  input : t.input ≡ s.input

-- a register below R8 takes a value
low_kept : (f g : ℕ → ℕ) (n x k : ℕ) → n < 8 → 8 ≤ k → f k ≡ g k → updated f n x k ≡ g k
low_kept f g n x k low high same = updated-other f n x k (λ e. omega (arith, e, low, high)) ∙ same

module _ (s : Core) (good : IsGood s) where
  result_is : operation Multiply (number_in s 1) (number_in s 0) ≡ in_range (with_sign (sign s) (size s))
  result_is = ap in_range (product_is (number_in s 1) (number_in s 0))

  -- the end, with an answer
  returns : (t : Core) → Answers (in_range (with_sign (sign s) (size s))) t → ((k : ℕ) → 8 ≤ k → t.regs k ≡ s.regs k) → t.mem ≡ s.mem → t.out ≡ s.out → t.input ≡ s.input → AtEnd s Falls t
  returns t a kept mem out input = (
    record {
      falls = refl;
      answers = by_result _ (in_range (with_sign (sign s) (size s))) t result_is a;
      kept = λ k high low. kept k (omega (arith, high));
      mem = mem;
      out = out;
      input = input;
    },
    kept 14 (omega arith),
  )

  too_great : 2 ^ 32 ≤ size s → (t : Core) → t.regs 1 ≡ too_big → Answers (in_range (with_sign (sign s) (size s))) t
  too_great high t one = by_result _ (Err too_big) t (big (sign s) (size s) (omega (arith, high))) one

  -- the product is answered with its sign
  answers : (t : Core) (m : ℕ) → m < 2 ^ 32 → t.regs 0 ≡ m → m ≡ size s → t.regs 5 ≡ from_bool (sign s) → ((k : ℕ) → 8 ≤ k → t.regs k ≡ s.regs k) → t.mem ≡ s.mem → t.out ≡ s.out → t.input ≡ s.input
      → Owes LibraryAsks LibraryDoes answer (on_falls (Owes LibraryAsks LibraryDoes Skip (on_falls (Owes LibraryAsks LibraryDoes Skip (AtEnd s)) (AtEnd s))) (on_falls (Owes LibraryAsks LibraryDoes Skip (AtEnd s)) (AtEnd s))) t
  answers t m small is whole five kept mem out input =
      leads (GivesAnswer (in_range (with_sign (sign s) m)) t) _ (on_falls (Owes LibraryAsks LibraryDoes Skip (AtEnd s)) (AtEnd s))
      (λ u a. end_here (end_here (returns u (subst (λ n. Answers (in_range (with_sign (sign s) n)) u) whole a.answers) (λ k high. a.kept k (omega (arith, high)) ∙ kept k high) (a.mem ∙ mem) (a.out ∙ out) (a.input ∙ input))))
      (answer_owes t (on_falls (Owes LibraryAsks LibraryDoes Skip (AtEnd s)) (AtEnd s)) m small is (sign s) five)

  -- the lesser factor is below 2^16
  by_halves : (x y : ℕ) (t : Core) → Factors s x y t → y < 2 ^ 16 → Owes LibraryAsks LibraryDoes product_by_halves (on_falls (Owes LibraryAsks LibraryDoes Skip (AtEnd s)) (AtEnd s)) t
  by_halves x y t f few =
      let h = x / 2 ^ 16 in
      let l = x % 2 ^ 16 in
      let p = halves x y f.first_low few in
      let most = h * y + l * y / 2 ^ 16 in
      let m = x * y in
      let t2 = put 2 h t in
      let t7 = put 7 (l * y) (put 6 (h * y) (put 3 l t2)) in
      let t6 = put 6 most t7 in
      let shifted = lsl-value 16 2 t2 (omega arith) (omega arith) (omega arith) in
      let carried = lsr-value 16 7 t7 (omega arith) (omega arith) (omega arith) in
      let kept = λ (k : ℕ) (high : 8 ≤ k). low_kept t7.regs s.regs 6 most k (omega arith) high
      (low_kept (updated (updated (updated t.regs 2 h) 3 l) 6 (h * y)) s.regs 7 (l * y) k (omega arith) high
      (low_kept (updated (updated t.regs 2 h) 3 l) s.regs 6 (h * y) k (omega arith) high
      (low_kept (updated t.regs 2 h) s.regs 3 l k (omega arith) high (low_kept t.regs s.regs 2 h k (omega arith) high (f.kept k high))))) in
      let over = after-cs most (2 ^ 16) t6 in
      set_then h refl (lsr-value 16 0 t (omega arith) (omega arith) (omega arith) ∙ ap (λ n. n / 2 ^ 16) f.first)
      (set_then l refl ((λ i. minus (f.first i) (shifted i)) ∙ omega (arith, f.first_low))
      (multiply_then (h * y) ((λ i. h * f.second i % 2 ^ 32) ∙ omega (arith, p.high))
      (multiply_then (l * y) ((λ i. l * f.second i % 2 ^ 32) ∙ omega (arith, p.low))
      (set_then most refl ((λ i. (h * y + carried i) % 2 ^ 32) ∙ omega (arith, p.high, p.low))
      (test_then (compared most (2 ^ 16)) refl refl
      (if_then
      (λ e.
      let high = leb-true (2 ^ 16) most (sym over ∙ e) in
      set_then too_big refl refl
      (end_here (end_here (end_here (returns (put 1 too_big (flagged_by (compared most (2 ^ 16)) t6)) (too_great (omega (arith, high, f.whole, p.product)) _ refl)
      (λ k high_k. low_kept t6.regs s.regs 1 too_big k (omega arith) high_k (kept k high_k)) f.mem f.out f.input)))))
      (λ e.
      let low = leb-false (2 ^ 16) most (sym over ∙ e) in
      let small : m < 2 ^ 32 = omega (arith, low, p.product, p.low) in
      multiply_then m ((λ i. f.first i * f.second i % 2 ^ 32) ∙ omega (arith, small))
      (set_then m refl refl
      (answers (put 0 m (put 2 m (flagged_by (compared most (2 ^ 16)) t6))) m small refl f.whole f.sign_is
      (λ k high_k. low_kept (updated t6.regs 2 m) s.regs 0 m k (omega arith) high_k (low_kept t6.regs s.regs 2 m k (omega arith) high_k (kept k high_k))) f.mem f.out f.input)))))))))

  abbrev where_greater : Piece
  where_greater = cmp 1 (num half_word) ⨾ If CS (mov 1 (num too_big) ⨾ Skip) product_by_halves ⨾ Skip

  -- the lesser factor is in R1
  ordered : (x y : ℕ) (t : Core) → Factors s x y t → y ≤ x → Owes LibraryAsks LibraryDoes where_greater (AtEnd s) t
  ordered x y t f order =
      let u = flagged_by (compared y (2 ^ 16)) t in
      let over = after-cs y (2 ^ 16) t in
      test_then (compared y (2 ^ 16)) refl (λ i. compared (f.second i) (2 ^ 16))
      (if_then
      (λ e.
      let high = leb-true (2 ^ 16) y (sym over ∙ e) in
      set_then too_big refl refl
      (end_here (end_here (returns (put 1 too_big u) (too_great (omega (arith, both_great x y order high, f.whole)) _ refl)
      (λ k high_k. low_kept t.regs s.regs 1 too_big k (omega arith) high_k (f.kept k high_k)) f.mem f.out f.input))))
      (λ e. by_halves x y u (record { first = f.first; second = f.second; whole = f.whole; first_low = f.first_low; second_low = f.second_low; sign_is = f.sign_is; kept = f.kept; mem = f.mem; out = f.out; input = f.input })
      (leb-false (2 ^ 16) y (sym over ∙ e))))

  pub product_owes : Owes LibraryAsks LibraryDoes product (AtEnd s) s
  product_owes =
      let x = unsigned_abs (number_in s 1) in
      let y = unsigned_abs (number_in s 0) in
      cut_then (Magnitudes true s) (magnitudes_owes true s (good.regs 1) (good.regs 0) (AtEnd s))
      (λ t m.
      let u = flagged_by (compared x y) t in
      let less = after-cc x y t in
      let kept = λ (k : ℕ) (high : 8 ≤ k). m.beside.kept k (omega (arith, high)) (λ e. omega (arith, e, high)) in
      test_then (compared x y) refl (λ i. compared (m.left i) (m.right i))
      (when_then
      (λ e.
      let x_less = ltb-true x y (sym less ∙ e) in
      set_then x refl m.left
      (set_then y refl m.right
      (set_then x refl refl
      (end_here
      (ordered y x (put 1 x (put 0 y (put 2 x u)))
      (record {
        first = refl;
        second = refl;
        whole = omega arith;
        first_low = magnitude-le (s.regs 0) (good.regs 0);
        second_low = magnitude-le (s.regs 1) (good.regs 1);
        sign_is = m.sign;
        kept = λ k high. low_kept (updated (updated t.regs 2 x) 0 y) s.regs 1 x k (omega arith) high (low_kept (updated t.regs 2 x) s.regs 0 y k (omega arith) high (low_kept t.regs s.regs 2 x k (omega arith) high (kept k high)));
        mem = m.beside.mem;
        out = m.beside.out;
        input = m.beside.input;
      })
      (omega (arith, x_less)))))))
      (λ e.
      let y_less = ltb-false x y (sym less ∙ e) in
      ordered x y u
      (record {
        first = m.left;
        second = m.right;
        whole = refl;
        first_low = magnitude-le (s.regs 1) (good.regs 1);
        second_low = magnitude-le (s.regs 0) (good.regs 0);
        sign_is = m.sign;
        kept = kept;
        mem = m.beside.mem;
        out = m.beside.out;
        input = m.beside.input;
      })
      y_less)))
