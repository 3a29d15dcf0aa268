-- The operators, but for shifts.
use Rattle.std.proofs.Common.{◌≡◌, ℕ, ◌+◌, ◌-◌, ◌^◌, ◌<◌, ◌≤◌, ◌==◌, not, Bool, true, false, ℤ, pos, negsuc, ◌+ℤ◌, ◌-ℤ◌, Result, Ok, Err, None, refl, sym, ap, subst, ◌∙◌, arith, bit_and, bit_or, bit_xor, eqb-true}
use Rattle.std.proofs.lemmas.Bool.{eqb-false, not-true, not-false}
use Rattle.std.proofs.lemmas.Nat.{and_le_l, or_lt, xor_lt}
use Rattle.std.proofs.Math.Path.{transport}
use Rattle.std.specs.Int.Signed.{lt_z, le_z}
use Rattle.std.specs.Ordering.{int_eq}
use Rattle.std.specs.Prelude.{int_lt, int_le}
use Rattle.bas_ast.specs.declared.expressions.BinaryOp.{BinaryOp}
use Rattle.bas_ast.specs.declared.expressions.BinaryOp.TheVariants as op
use Rattle.bas_ast.specs.declared.expressions.Comparison.{Comparison}
use Rattle.bas_ast.specs.declared.expressions.Comparison.TheVariants as is
use Rattle.bas_ast.specs.declared.expressions.UnaryOp.{UnaryOp}
use Rattle.bas_ast.specs.declared.expressions.UnaryOp.TheVariants as unary
use Rattle.bas_ir.specs.Effects.{Effect, falls}
use Rattle.bas_ir.specs.Places.{Pending, pushed}
use Rattle.bas_sem.specs.Actions.{or_raise}
use Rattle.bas_sem.specs.Course.{Course, on_value}
use Rattle.bas_sem.specs.Operators.{of_one, of_two, sign}
use Rattle.bas_sem.specs.State.{State}
use Rattle.bv_num.specs.Bits.{signed}
use Rattle.bv_num.proofs.OperationLaws.{in_range-fits}
use Rattle.bv_num.specs.Operation as operations
use Rattle.bv_num.specs.Operation.{Operation, too_big, division_by_zero, in_range, truth, operation}
use Rattle.arm_isa.specs.Numbers.{LT, GT, MOV, MVN}
use Rattle.arm2_alu.specs.declared.operations.Computed.{Computed}
use Rattle.arm2_alu.specs.Operations.{is_signed_word, is_test}
use Rattle.arm2_alu.proofs.ValueLaws.{compared, summed}
use Rattle.arm_core.specs.Core.{Core, IsGood, put, word, meets}
use Rattle.arm_core.specs.Effects.{flagged_by, operand_in, result_of}
use Rattle.arm_core.proofs.MemoryWords.{updated-same, updated-other}
use Rattle.arm_core.proofs.Comparisons.{after-eq, after-ne, after-lt, after-gt, after-le, after-ge}
use Rattle.code_frag.specs.Demands as demands
use Rattle.code_frag.specs.Demands.{Out, Post, Exit, Leaves, ToLabel, on_falls, Owes}
use Rattle.code_frag.specs.Instructions.{Second, num, reg, process_if}
use Rattle.code_frag.specs.Language as language
use Rattle.code_frag.specs.Language.{Skip, Do, Seq, ◌⨾◌}
use Rattle.code_frag.proofs.Monotone.{mono}
use Rattle.arm_isa.specs.declared.instruction.Instr.TheVariants.{Data}
use Rattle.code_frag.proofs.Rules.{end_here, seq_then, skip_then, set_then, set_flags_then, test_then, set_where_then, skip_where_then, when_then, call_then, leave_then}
use Rattle.runtime_lib.specs.Entries.{Answers, Calculates}
use Rattle.codegen.specs.Operations.{takes_operand, operator, binary_code, condition_of, unary_code, raise_if_failed, raise_if_too_big, raise_label}
use Rattle.codegen.specs.Outcomes.{Arrives}
use Rattle.codegen.specs.StandsFor.{Site, Holds, Numbers, Texts}
use Rattle.codegen.proofs.Arriving.{CodeAsks, CodeDoes, Free, with_top, short_then, over_by, raise_over, raised, raise_by}
use Rattle.runtime_lib.proofs.RangeLaws.{in_range-word, in_range-no_word}
use Rattle.codegen.proofs.NumberFacts.{sum-is, difference-is, bits-are, less-is, less_or_equal-is, equal-is, IsKnown, operation-errors, signed-fits, negated-is, complement-is, abs-negative, abs-positive, sign_by, sign-is, never-both, neither}

-- what an operator comes to
abbrev pub computed : Result ℤ ℕ → ℕ → Pending → State → Course Effect
computed result line p st = on_value (or_raise line result st) (λ value. falls (pushed value p))

-- its result is in R0
pub computed_end : {image : Site} {p : Pending} {st : State} {s : Core} (result : Result ℤ ℕ) (line : ℕ) (value : ℤ) → result ≡ Ok value → Free image p st s → signed (s.regs 0) ≡ value
    → Arrives image (computed result line p st) demands.Falls s
computed_end {image} {p} {st} {s} result line value is f top = subst (λ r. Arrives image (computed r line p st) demands.Falls s) (sym is) (record { by = (refl, with_top value f top) })

-- the same, where R0 is known to be a word
pub record Computes (image : Site) (result : Result ℤ ℕ) (line : ℕ) (p : Pending) (st : State) (o : Out) (t : Core) : Type 0 where
  pub arrives : Arrives image (computed result line p st) o t
  pub word : o ≡ demands.Falls → t.regs 0 < 2 ^ 32

pub computed_word : {image : Site} {p : Pending} {st : State} {s : Core} (result : Result ℤ ℕ) (line : ℕ) (value : ℤ) → result ≡ Ok value → Free image p st s → signed (s.regs 0) ≡ value → s.regs 0 < 2 ^ 32
    → Computes image result line p st demands.Falls s
computed_word result line value is f top small = record { arrives = computed_end result line value is f top; word = λ falls. small }

computed_leaves : {image : Site} {p : Pending} {st : State} (result : Result ℤ ℕ) (line : ℕ) (e : Exit) (t : Core) → Arrives image (computed result line p st) (Leaves e) t → Computes image result line p st (Leaves e) t
computed_leaves result line e t a = record { arrives = a; word = λ falls. absurd (cc falls) }

-- that is known no more
pub arrived : {image : Site} {p : Pending} {st : State} {s : Core} (c : language.Piece) (result : Result ℤ ℕ) (line : ℕ) → Owes CodeAsks CodeDoes c (Computes image result line p st) s → Owes CodeAsks CodeDoes c (Arrives image (computed result line p st)) s
arrived {image} {p} {st} {s} c result line x = record { by = mono CodeAsks CodeDoes c (Computes image result line p st) (Arrives image (computed result line p st)) (λ o t r. r.arrives) s x.by }

-- its error ends the run
pub computed_over : (p : Pending) (st : State) (result : Result ℤ ℕ) (error line : ℕ) → st.handler ≡ None → result ≡ Err error → computed result line p st ≡ over_by error line st
computed_over p st result error line unhandled is =
    ap (λ r. computed r line p st) is ∙ ap (λ c. on_value c (λ value. falls (pushed value p))) (raise_over {A = ℤ} error line st unhandled)

-- where registers that hold nothing of the state, and flags, are changed
pub free_same : {image : Site} {p : Pending} {st : State} {s t : Core} → Free image p st s → ((k : ℕ) → 9 ≤ k → k ≤ 13 → t.regs k ≡ s.regs k) → t.mem ≡ s.mem → t.out ≡ s.out → Free image p st t
free_same {image} {p} {st} {s} {t} f kept mem out = record {
  holds = transport (λ i. Holds image.branches image.table st (sym (kept 11 (omega arith) (omega arith)) i) (sym (kept 13 (omega arith) (omega arith)) i) (sym mem i) (sym out i)) f.holds;
  numbers = transport (λ i. Numbers (sym mem i) (sym (kept 12 (omega arith) (omega arith)) i + 4) (word (sym mem i) (sym (kept 12 (omega arith) (omega arith)) i)) p.numbers) f.numbers;
  texts = transport (λ i. Texts image.bytes (sym mem i) (sym (kept 9 (omega arith) (omega arith)) i) (sym (kept 10 (omega arith) (omega arith)) i) p.texts) f.texts;
}

module _ {image : Site} {st : State} {s : Core} where
  -- the error "number too big" where V is set
  pub too_big_by : {Q : Post} (p : Pending) (z : ℤ) (result : Result ℤ ℕ) (line : ℕ) → result ≡ in_range z → line < 65536 → Holds image.branches image.table st (s.regs 11) (s.regs 13) s.mem s.out → s.v ≡ not (is_signed_word z)
      → ((t : Core) → Arrives image (computed result line p st) (Leaves (ToLabel raise_label)) t → Q (Leaves (ToLabel raise_label)) t) → (is_signed_word z ≡ true → Q demands.Falls s)
      → Owes CodeAsks CodeDoes (raise_if_too_big line ⨾ Skip) Q s
  too_big_by p z result line is fits h flag over then_falls =
      seq_then (when_then
      (λ e. raise_by (computed result line p st) too_big line (computed_over p st result too_big line h.unhandled (is ∙ in_range-no_word z (not-true (is_signed_word z) (sym flag ∙ e)))) (omega arith) fits h over)
      (λ e. skip_then (end_here (then_falls (not-false (is_signed_word z) (sym flag ∙ e))))))

module _ {image : Site} {p : Pending} {st : State} {s : Core} where
  -- and otherwise the result is in R0
  pub too_big_end : (z : ℤ) (result : Result ℤ ℕ) (line : ℕ) → result ≡ in_range z → line < 65536 → Free image p st s → s.v ≡ not (is_signed_word z) → (is_signed_word z ≡ true → signed (s.regs 0) ≡ z)
      → Owes CodeAsks CodeDoes (raise_if_too_big line ⨾ Skip) (Arrives image (computed result line p st)) s
  too_big_end z result line is fits f flag value =
      too_big_by p z result line is fits f.holds flag (λ t a. a) (λ word. computed_end result line z (is ∙ in_range-word z word) f (value word))

  -- a routine of the library, whose result or error is in R0 or R1
  pub answered_end : (result : Result ℤ ℕ) (line : ℕ) → ((error : ℕ) → result ≡ Err error → IsKnown error) → line < 65536 → Free image p st s → s.regs 0 < 2 ^ 32 → Answers result s → Owes CodeAsks CodeDoes (raise_if_failed line ⨾ Skip) (Computes image result line p st) s
  answered_end (Ok value) line errors fits f small a =
      seq_then (test_then (compared (s.regs 1) 0) refl refl
      (seq_then (when_then
      (λ e. absurd (eqb-false (s.regs 1) 0 (not-true (s.regs 1 == 0) (sym (after-ne (s.regs 1) 0 s (omega (arith, a.0)) (omega arith)) ∙ e)) a.0))
      (λ e. skip_then (end_here (computed_word (Ok value) line value refl (record { holds = f.holds; numbers = f.numbers; texts = f.texts }) a.1 small))))))
  answered_end (Err error) line errors fits f small a =
      let known = errors error refl in
      seq_then (test_then (compared (s.regs 1) 0) refl refl
      (seq_then (when_then
      (λ e. set_then (s.regs 1) refl refl (short_then line (omega (arith, fits)) (leave_then
      (computed_leaves (Err error) line _ _ (raised (computed (Err error) line p st) error line (computed_over p st (Err error) error line f.holds.unhandled refl) (omega (arith, known)) fits f.holds a refl)))))
      (λ e. absurd (let z = eqb-true (s.regs 1) 0 (not-false (s.regs 1 == 0) (sym (after-ne (s.regs 1) 0 s (omega (arith, a, known)) (omega arith)) ∙ e)) in omega (arith, z, a, known))))))

-- ---- the operators that take any operand

-- a register takes a value, and nothing else changes but flags
pub record Sets (rd v : ℕ) (s t : Core) : Type 0 where
  pub others : (k : ℕ) → (k ≡ rd → ⊥) → t.regs k ≡ s.regs k
  pub takes : t.regs rd ≡ v
  pub mem : t.mem ≡ s.mem
  pub out : t.out ≡ s.out

-- the value of a second operand
abbrev pub operand : Second → Core → ℕ
operand x s = (operand_in x.imm x.field s).value

-- where a register takes a value, the state stands as it was
pub holds_set : (image : Site) (st : State) (s t : Core) (rd v : ℕ) → rd < 9 → Sets rd v s t → Holds image.branches image.table st (s.regs 11) (s.regs 13) s.mem s.out → Holds image.branches image.table st (t.regs 11) (t.regs 13) t.mem t.out
holds_set image st s t rd v low sets h =
    transport (λ i. Holds image.branches image.table st (sym (sets.others 11 (λ e. omega (arith, e, low))) i) (sym (sets.others 13 (λ e. omega (arith, e, low))) i) (sym sets.mem i) (sym sets.out i)) h

pub free_set : {image : Site} {p : Pending} {st : State} {s t : Core} (rd v : ℕ) → rd < 9 → Sets rd v s t → Free image p st s → Free image p st t
free_set rd v low sets f = free_same f (λ k from to. sets.others k (λ e. omega (arith, e, low, from))) sets.mem sets.out

-- registers are words
pub record AreWords (s : Core) : Type 0 where
  pub regs : (k : ℕ) → s.regs k < 2 ^ 32

pub words_set : {s t : Core} (rd v : ℕ) → v < 2 ^ 32 → Sets rd v s t → AreWords s → AreWords t
words_set {s} {t} rd v small sets good = record { regs = λ k. each k (k == rd) refl }
  where
    each : (k : ℕ) (same : Bool) → (k == rd) ≡ same → t.regs k < 2 ^ 32
    each k true e = subst (λ r. r < 2 ^ 32) (sym (ap t.regs (eqb-true k rd e) ∙ sets.takes)) small
    each k false e = subst (λ r. r < 2 ^ 32) (sym (sets.others k (eqb-false k rd e))) (good.regs k)

-- a register takes a value
pub sets_put : (rd v : ℕ) (s : Core) → Sets rd v s (put rd v s)
sets_put rd v s = record { others = λ k other. updated-other s.regs rd v k other; takes = updated-same s.regs rd v rd refl; mem = refl; out = refl }

-- and once more
pub sets_again : (rd u v : ℕ) (s t : Core) → Sets rd u s t → Sets rd v s (put rd v t)
sets_again rd u v s t sets = record {
  others = λ k other. updated-other t.regs rd v k other ∙ sets.others k other;
  takes = updated-same t.regs rd v rd refl;
  mem = sets.mem;
  out = sets.out;
}

-- what is asked at the end of an operator's code: of its error, and of its result in Rd
pub record Concluded (image : Site) (p : Pending) (st : State) (line rd : ℕ) (result : Result ℤ ℕ) (Q : Post) (s : Core) : Type 0 where
  pub over : (t : Core) → Arrives image (computed result line p st) (Leaves (ToLabel raise_label)) t → Q (Leaves (ToLabel raise_label)) t
  pub value : (v : ℕ) (t : Core) → v < 2 ^ 32 → result ≡ Ok (signed v) → Sets rd v s t → Q demands.Falls t

-- ---- comparisons

-- whether two numbers compare so
abbrev pub tested : Comparison → ℤ → ℤ → Bool
tested is.Equal x y = int_eq x y
tested is.NotEqual x y = not (int_eq x y)
tested is.Less x y = int_lt x y
tested is.Greater x y = int_lt y x
tested is.LessOrEqual x y = int_le x y
tested is.GreaterOrEqual x y = int_le y x

compare-result : (c : Comparison) (x y : ℤ) → of_two (op.Compare c) x y ≡ in_range (truth (tested c x y))
compare-result is.Equal x y = refl
compare-result is.NotEqual x y = refl
compare-result is.Less x y = refl
compare-result is.Greater x y = refl
compare-result is.LessOrEqual x y = refl
compare-result is.GreaterOrEqual x y = refl

-- its condition says that
pub condition-is : (c : Comparison) (a b : ℕ) (s : Core) → a < 2 ^ 32 → b < 2 ^ 32 → meets (condition_of c) (flagged_by (compared a b) s) ≡ tested c (signed a) (signed b)
condition-is is.Equal a b s small below = after-eq a b s small below ∙ sym (equal-is a b small below)
condition-is is.NotEqual a b s small below = after-ne a b s small below ∙ ap not (sym (equal-is a b small below))
condition-is is.Less a b s small below = after-lt a b s small below ∙ sym (less-is (signed a) (signed b))
condition-is is.Greater a b s small below = after-gt a b s small below ∙ sym (less-is (signed b) (signed a))
condition-is is.LessOrEqual a b s small below = after-le a b s small below ∙ sym (less_or_equal-is (signed a) (signed b))
condition-is is.GreaterOrEqual a b s small below = after-ge a b s small below ∙ sym (less_or_equal-is (signed b) (signed a))

-- ---- any operator that takes an operand

module _ {image : Site} {p : Pending} {st : State} {s : Core} {Q : Post} (x : Second) (rd rn a b line : ℕ) (low : rd < 9) (fits : line < 65536) (left : s.regs rn ≡ a) (right : operand x s ≡ b) (small : a < 2 ^ 32) (below : b < 2 ^ 32)
    (h : Holds image.branches image.table st (s.regs 11) (s.regs 13) s.mem s.out) where
  -- an operator on bits
  bits_then : {op : ℕ} (o : BinaryOp) (n : ℕ) → is_test op ≡ false → n < 2 ^ 32 → (result_of op (s.regs rn) (operand_in x.imm x.field s) s.c s.v).value ≡ n → of_two o (signed a) (signed b) ≡ Ok (signed n)
      → Concluded image p st line rd (of_two o (signed a) (signed b)) Q s → Owes CodeAsks CodeDoes (Seq (Do (Data 14 x.imm op false rn rd x.field)) Skip) Q s
  bits_then o n no_test small_n is result c = set_then n no_test is (end_here (c.value n (put rd n s) small_n result (sets_put rd n s)))

  -- a truth value, by a condition
  truth_then : (k : ℕ) (t : Bool) (result : Result ℤ ℕ) → meets k (flagged_by (compared a b) s) ≡ t → result ≡ in_range (truth t) → Concluded image p st line rd result Q s
      → Owes CodeAsks CodeDoes (process_if k MVN rd 0 (num 0) ⨾ Skip) Q (put rd 0 (flagged_by (compared a b) s))
  truth_then k true result e is c =
      let first = put rd 0 (flagged_by (compared a b) s) in
      let sets : Sets rd 0 s first = sets_zero in
      set_where_then (2 ^ 32 - 1) e refl refl (end_here (c.value (2 ^ 32 - 1) _ (omega arith) is (sets_again rd 0 (2 ^ 32 - 1) s first sets)))
    where
      sets_zero : Sets rd 0 s (put rd 0 (flagged_by (compared a b) s))
      sets_zero = record { others = λ k other. updated-other s.regs rd 0 k other; takes = updated-same s.regs rd 0 rd refl; mem = refl; out = refl }
  truth_then k false result e is c =
      skip_where_then e (end_here (c.value 0 _ (omega arith) is (record { others = λ k other. updated-other s.regs rd 0 k other; takes = updated-same s.regs rd 0 rd refl; mem = refl; out = refl })))

  compare_then : (c : Comparison) → Concluded image p st line rd (of_two (op.Compare c) (signed a) (signed b)) Q s → Owes CodeAsks CodeDoes (operator rd rn x (op.Compare c) line) Q s
  compare_then c concluded =
      test_then (compared a b) refl (λ i. compared (left i) (right i))
      (set_then 0 refl refl (truth_then (condition_of c) (tested c (signed a) (signed b)) _ (condition-is c a b s small below) (compare-result c (signed a) (signed b)) concluded))

  -- a sum or a difference, by its flags
  sum_then : (o : BinaryOp) (y : Computed) (z : ℤ) → of_two o (signed a) (signed b) ≡ in_range z → y.overflow ≡ not (is_signed_word z) → y.value < 2 ^ 32 → (is_signed_word z ≡ true → signed y.value ≡ z)
      → Concluded image p st line rd (of_two o (signed a) (signed b)) Q s → Owes CodeAsks CodeDoes (raise_if_too_big line ⨾ Skip) Q (put rd y.value (flagged_by y s))
  sum_then o y z is flag word value c =
      let t = put rd y.value (flagged_by y s) in
      let sets : Sets rd y.value s t = record { others = λ k other. updated-other s.regs rd y.value k other; takes = updated-same s.regs rd y.value rd refl; mem = refl; out = refl } in
      too_big_by p z (of_two o (signed a) (signed b)) line is fits (holds_set image st s t rd y.value low sets h) flag c.over
      (λ e. c.value y.value t word (is ∙ in_range-word z e ∙ ap (λ n. Ok n) (sym (value e))) sets)

  pub operator_then : (o : BinaryOp) → takes_operand o ≡ true → Concluded image p st line rd (of_two o (signed a) (signed b)) Q s → Owes CodeAsks CodeDoes (operator rd rn x o line) Q s
  operator_then op.Or simple c =
      let word = or_lt 32 a b small below in
      bits_then op.Or (bit_or a b) refl word (λ i. bit_or (left i) (right i)) (bits-are bit_or b a below small word) c
  operator_then op.Eor simple c =
      let word = xor_lt 32 a b small below in
      bits_then op.Eor (bit_xor a b) refl word (λ i. bit_xor (left i) (right i)) (bits-are bit_xor b a below small word) c
  operator_then op.And simple c =
      let less = and_le_l a b in
      let word : bit_and a b < 2 ^ 32 = omega (arith, less, small) in
      bits_then op.And (bit_and a b) refl word (λ i. bit_and (left i) (right i)) (bits-are bit_and b a below small word) c
  operator_then (op.Compare k) simple c = compare_then k c
  operator_then op.Add simple c =
      set_flags_then (summed a b) refl (λ i. summed (left i) (right i))
      (sum_then op.Add (summed a b) (signed a +ℤ signed b) refl refl (omega arith) (sum-is a b small below) c)
  operator_then op.Subtract simple c =
      set_flags_then (compared a b) refl (λ i. compared (left i) (right i))
      (sum_then op.Subtract (compared a b) (signed a -ℤ signed b) refl refl (omega arith) (difference-is a b small below) c)
  operator_then op.ShiftLeft simple c = absurd (cc simple)
  operator_then op.ShiftRightSigned simple c = absurd (cc simple)
  operator_then op.ShiftRight simple c = absurd (cc simple)
  operator_then op.Multiply simple c = absurd (cc simple)
  operator_then op.Divide simple c = absurd (cc simple)
  operator_then op.Remainder simple c = absurd (cc simple)

-- its result is in R0
pub concluded_end : {image : Site} {p : Pending} {st : State} {s : Core} (line : ℕ) (result : Result ℤ ℕ) → Free image p st s → Concluded image p st line 0 result (Computes image result line p st) s
concluded_end line result f = record {
  over = λ t a. computed_leaves result line (ToLabel raise_label) t a;
  value = λ v t small is sets. computed_word result line (signed v) is (free_set 0 v (omega arith) sets f) (ap signed sets.takes) (subst (λ r. r < 2 ^ 32) (sym sets.takes) small);
}

-- ---- the operators between R1 and R0

module _ {image : Site} {p : Pending} {st : State} {s : Core} (good : AreWords s) (f : Free image p st s) (line : ℕ) (fits : line < 65536) where
  abbrev pub Owed : BinaryOp → Type 0
  Owed o = Owes CodeAsks CodeDoes (binary_code o line) (Computes image (of_two o (signed (s.regs 1)) (signed (s.regs 0))) line p st) s

  pub operand_owes : (o : BinaryOp) → takes_operand o ≡ true → Owes CodeAsks CodeDoes (operator 0 1 (reg 0) o line) (Computes image (of_two o (signed (s.regs 1)) (signed (s.regs 0))) line p st) s
  operand_owes o simple = operator_then (reg 0) 0 1 (s.regs 1) (s.regs 0) line (omega arith) fits refl refl (good.regs 1) (good.regs 0) f.holds o simple (concluded_end line _ f)

  -- a routine of the library
  called : (o : Operation) (result : Result ℤ ℕ) → result ≡ operation o (signed (s.regs 1)) (signed (s.regs 0)) → (t : Core) (r : ℕ) → Calculates result (put 14 r s) demands.Falls t
      → IsGood t → Owes CodeAsks CodeDoes (raise_if_failed line ⨾ Skip) (Computes image result line p st) t
  called o result is t r d good_t =
      answered_end result line (λ error e. operation-errors o (signed (s.regs 1)) (signed (s.regs 0)) error (sym is ∙ e)) fits (free_same {s = put 14 r s} (record { holds = f.holds; numbers = f.numbers; texts = f.texts }) d.kept d.mem d.out) (good_t.regs 0) d.answers

  pub product_owes : Owed op.Multiply
  product_owes = call_then {e = 1} (λ r low. tt) (λ r t low good_t d. called operations.Multiply _ refl t r d good_t) (λ r l t low good_t d. absurd (let e = d.falls in cc))

  pub quotient_owes : Owed op.Divide
  quotient_owes = call_then {e = 2} (λ r low. tt) (λ r t low good_t d. called operations.Divide _ refl t r d good_t) (λ r l t low good_t d. absurd (let e = d.falls in cc))

  pub remainder_owes : Owed op.Remainder
  remainder_owes = call_then {e = 3} (λ r low. tt) (λ r t low good_t d. called operations.Remainder _ refl t r d good_t) (λ r l t low good_t d. absurd (let e = d.falls in cc))

-- ---- a word or sign before R0

module _ {image : Site} {p : Pending} {st : State} {s : Core} (good : IsGood s) (f : Free image p st s) (line : ℕ) (fits : line < 65536) where
  abbrev pub Asked : UnaryOp → Type 0
  Asked o = Owes CodeAsks CodeDoes (unary_code o line) (Arrives image (computed (of_one o (signed (s.regs 0))) line p st)) s

  -- R0 as it is
  pub kept_owes : (o : UnaryOp) → of_one o (signed (s.regs 0)) ≡ Ok (signed (s.regs 0)) → Owes CodeAsks CodeDoes (unary_code unary.Plus line) (Arrives image (computed (of_one o (signed (s.regs 0))) line p st)) s
  kept_owes o is = set_then (s.regs 0) refl refl (end_here (computed_end _ line (signed (s.regs 0)) is (record { holds = f.holds; numbers = f.numbers; texts = f.texts }) refl))

  pub minus_owes : Asked unary.Minus
  minus_owes =
      let z = pos 0 -ℤ signed (s.regs 0) in
      set_flags_then (compared 0 (s.regs 0)) refl refl
      (too_big_end z _ line (ap in_range (sym (negated-is (signed (s.regs 0))))) fits (record { holds = f.holds; numbers = f.numbers; texts = f.texts }) refl (difference-is 0 (s.regs 0) (omega arith) (good.regs 0)))

  pub not_owes : Asked unary.Not
  not_owes =
      set_then (2 ^ 32 - 1 - s.regs 0) refl refl
      (end_here (computed_end _ line (signed (2 ^ 32 - 1 - s.regs 0)) (ap (λ z. Ok z) (complement-is (s.regs 0) (good.regs 0))) (record { holds = f.holds; numbers = f.numbers; texts = f.texts }) refl))

  pub abs_owes : Asked unary.Abs
  abs_owes =
      let r = s.regs 0 in
      let low = after-lt r 0 s (good.regs 0) (omega arith) in
      test_then (compared r 0) refl refl
      (when_then
      (λ e. set_flags_then (compared 0 r) refl refl
      (too_big_by p (pos 0 -ℤ signed r) _ line (ap in_range (abs-negative (signed r) (sym low ∙ e))) fits f.holds refl (λ t a. a)
      (λ word. end_here (computed_end _ line (pos 0 -ℤ signed r) (ap in_range (abs-negative (signed r) (sym low ∙ e)) ∙ in_range-word (pos 0 -ℤ signed r) word) (record { holds = f.holds; numbers = f.numbers; texts = f.texts })
      (difference-is 0 r (omega arith) (good.regs 0) word)))))
      (λ e. end_here (computed_end _ line (signed r) (ap in_range (abs-positive (signed r) (sym low ∙ e)) ∙ in_range-fits (signed r) (signed-fits r (good.regs 0))) (record { holds = f.holds; numbers = f.numbers; texts = f.texts }) refl)))

  pub sign_owes : Asked unary.Sgn
  sign_owes =
      let r = s.regs 0 in
      test_then (compared r 0) refl refl
      (by (lt_z (pos 0) (signed r)) (lt_z (signed r) (pos 0)) (after-gt r 0 s (good.regs 0) (omega arith)) (after-lt r 0 s (good.regs 0) (omega arith)) (sign-is (signed r)))
    where
      tested : Core
      tested = flagged_by (compared (s.regs 0) 0) s

      by : (above below : Bool) → meets GT tested ≡ above → meets LT tested ≡ below → sign (signed (s.regs 0)) ≡ sign_by above below
          → Owes CodeAsks CodeDoes (process_if GT MOV 0 0 (num 1) ⨾ process_if LT MVN 0 0 (num 0) ⨾ Skip) (Arrives image (computed (of_one unary.Sgn (signed (s.regs 0))) line p st)) tested
      by true true g l is = absurd (never-both (signed (s.regs 0)) (sym (after-gt (s.regs 0) 0 s (good.regs 0) (omega arith)) ∙ g) (sym (after-lt (s.regs 0) 0 s (good.regs 0) (omega arith)) ∙ l))
      by true false g l is = set_where_then 1 g refl refl (skip_where_then l (end_here (computed_end _ line (pos 1) (ap (λ z. Ok z) is) (record { holds = f.holds; numbers = f.numbers; texts = f.texts }) refl)))
      by false true g l is = skip_where_then g (set_where_then (2 ^ 32 - 1) l refl refl (end_here (computed_end _ line (negsuc 0) (ap (λ z. Ok z) is) (record { holds = f.holds; numbers = f.numbers; texts = f.texts }) refl)))
      by false false g l is = skip_where_then g (skip_where_then l (end_here (computed_end _ line (pos 0) (ap (λ z. Ok z) is) (record { holds = f.holds; numbers = f.numbers; texts = f.texts }) (neither (signed (s.regs 0)) (sym (after-gt (s.regs 0) 0 s (good.regs 0) (omega arith)) ∙ g) (sym (after-lt (s.regs 0) 0 s (good.regs 0) (omega arith)) ∙ l)))))
