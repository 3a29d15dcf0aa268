-- The parts of the routines that write numbers: the spaces before a text, the column, and the sign.
use Rattle.std.proofs.Common.{◌≡◌, ℕ, ◌+◌, ◌-◌, ◌*◌, ◌%◌, ◌^◌, ◌<◌, ◌≤◌, ◌==◌, ◌⊎◌, inr, not, Bool, true, false, nat_lt, List, [], ◌∷◌, ◌++◌, length, refl, sym, ap, ◌∙◌, arith, append-nil}
use Rattle.std.specs.Int.{from_bool}
use Rattle.std.proofs.lemmas.Bool.{eqb-true, not-false, ltb-true, ltb-false, false≢true, true≢false}
use Rattle.arm_isa.specs.Numbers.{CC}
use Rattle.arm2_alu.proofs.RegisterLaws.{updated}
use Rattle.arm2_alu.proofs.ValueLaws.{compared, minus}
use Rattle.arm_core.specs.Core.{Core, put, word, meets}
use Rattle.arm_core.specs.Effects.{flagged_by}
use Rattle.arm_core.proofs.Comparisons.{after-ne, after-cc}
use Rattle.arm_core.proofs.MemoryWords.{updated-other, byte-put_other, word-put_same}
use Rattle.arm_core.proofs.ShiftedOperands.{lsl-value, lsr-value}
use Rattle.bas_value.specs.Output.{justified, spaces}
use Rattle.code_frag.specs.Demands.{Out, Post, on_falls, Owes}
use Rattle.code_frag.specs.Instructions.{num, process_if}
use Rattle.code_frag.specs.Language.{Skip, ◌⨾◌}
use Rattle.code_frag.specs.Regions.{residents_start, column_at}
use Rattle.code_frag.proofs.Rules.{end_here, set_then, set_flags_then, test_then, set_where_then, skip_where_then, when_then, write_then, load_then, store_then}
use Rattle.runtime_lib.specs.Digits.{pads, moves_column, writes_sign}

-- ---- spaces before the text

-- their number
abbrev pub padding : Bool → ℕ → ℕ
padding true size = 10 - size
padding false size = 0

pub justified_is : (padded : Bool) (text : List ℕ) → justified padded text ≡ spaces (padding padded (length text)) ++ text
justified_is true text = refl
justified_is false text = refl

-- R1 has it, where it had whether the text is padded, and the rest is as it was
pub record Pads (size : ℕ) (s t : Core) : Type 0 where
  pub number : t.regs 1 ≡ padding (not (s.regs 1 == 0)) size
  pub kept : (k : ℕ) → (k ≡ 1 → ⊥) → t.regs k ≡ s.regs k
  pub mem : t.mem ≡ s.mem
  pub out : t.out ≡ s.out
  pub input : t.input ≡ s.input

module _ {Asks : ℕ → Core → Type 0} {Does : ℕ → Core → Out → Core → Type 0} (size : ℕ) (small : size < 256) (s : Core) (six : s.regs 6 ≡ size) (one : s.regs 1 < 2 ^ 32) (Q : Post) where
  pub pads_owes : Owes Asks Does pads (on_falls (Pads size s) Q) s
  pads_owes =
      let x = s.regs 1 in
      let t = flagged_by (compared x 0) s in
      let is = after-ne x 0 s one (omega arith) in
      test_then (compared x 0) refl refl
      (when_then
      (λ e.
      set_flags_then (compared 10 size) refl (λ i. compared 10 (six i))
      (by_size (put 1 (minus 10 size) (flagged_by (compared 10 size) t)) refl (λ k other. updated-other s.regs 1 (minus 10 size) k other) refl refl refl (sym is ∙ e) (nat_lt 10 size) refl (after-cc 10 size t)))
      (λ e. end_here (record {
        number = zero_is x (sym is ∙ e);
        kept = λ k other. refl;
        mem = refl;
        out = refl;
        input = refl;
      })))
    where
      zero_is : (x : ℕ) → not (x == 0) ≡ false → x ≡ padding (not (x == 0)) size
      zero_is x e = eqb-true x 0 (not-false (x == 0) e) ∙ ap (λ b. padding b size) (sym e)

      by_size : (t : Core) → t.regs 1 ≡ minus 10 size → ((k : ℕ) → (k ≡ 1 → ⊥) → t.regs k ≡ s.regs k) → t.mem ≡ s.mem → t.out ≡ s.out → t.input ≡ s.input → not (s.regs 1 == 0) ≡ true → (b : Bool) → nat_lt 10 size ≡ b → meets CC t ≡ nat_lt 10 size
          → Owes Asks Does (process_if CC 13 1 0 (num 0) ⨾ Skip) (on_falls (Owes Asks Does Skip (on_falls (Pads size s) Q)) (on_falls (Pads size s) Q)) t
      by_size t value kept mem out input padded true is flag =
          set_where_then 0 (flag ∙ is) refl refl
          (end_here (end_here (record {
            number = (let none : 0 ≡ padding true size = omega (arith, ltb-true 10 size is) in none) ∙ ap (λ b. padding b size) (sym padded);
            kept = λ k other. updated-other t.regs 1 0 k other ∙ kept k other;
            mem = mem;
            out = out;
            input = input;
          })))
      by_size t value kept mem out input padded false is flag =
          skip_where_then (flag ∙ is)
          (end_here (end_here (record {
            number = value ∙ (let some : minus 10 size ≡ padding true size = omega (arith, ltb-false 10 size is) in some) ∙ ap (λ b. padding b size) (sym padded);
            kept = kept;
            mem = mem;
            out = out;
            input = input;
          })))

-- ---- the column

-- it is moved, and all but R2 and it is as it was
pub record MovesColumn (column : ℕ) (s t : Core) : Type 0 where
  pub column_is : word t.mem column_at ≡ column
  pub kept : (k : ℕ) → (k ≡ 2 → ⊥) → t.regs k ≡ s.regs k
  pub mem : (a : ℕ) → (a < column_at) ⊎ (column_at + 4 ≤ a) → t.mem a ≡ s.mem a
  pub out : t.out ≡ s.out
  pub input : t.input ≡ s.input

module _ {Asks : ℕ → Core → Type 0} {Does : ℕ → Core → Out → Core → Type 0} (size more : ℕ) (small : size < 256) (few : more < 256) (s : Core) (base : s.regs 11 ≡ residents_start) (six : s.regs 6 ≡ size) (one : s.regs 1 ≡ more)
    (low : word s.mem column_at < 65536) (Q : Post) where
  pub moves_column_owes : Owes Asks Does moves_column (on_falls (MovesColumn ((word s.mem column_at + (size + more)) % 65536) s) Q) s
  moves_column_owes =
      let c = word s.mem column_at in
      let x = c + size in
      let y = x + more in
      let z = y * 2 ^ 16 % 2 ^ 32 in
      let moved = (c + (size + more)) % 65536 in
      let ty = put 2 y (put 2 x (put 2 c s)) in
      let up = lsl-value 16 2 ty (omega arith) (omega arith) (omega arith) in
      let down = lsr-value 16 2 (put 2 z ty) (omega arith) (omega arith) (omega arith) in
      load_then column_at c (omega (arith, base)) refl refl (omega arith) (λ bound.
      set_then x refl (omega (arith, six, small, low))
      (set_then y refl (omega (arith, one, few, small, low))
      (set_then z refl up
      (set_then moved refl (down ∙ omega (arith, small, few, low))
      (store_then column_at moved (omega (arith, base)) refl refl (inr (omega arith, omega arith))
      (end_here (record {
        column_is = word-put_same s.mem column_at moved (omega arith);
        kept = λ k other. updated-other (updated (updated (updated (updated s.regs 2 c) 2 x) 2 y) 2 z) 2 moved k other ∙ updated-other (updated (updated (updated s.regs 2 c) 2 x) 2 y) 2 z k other
            ∙ updated-other (updated (updated s.regs 2 c) 2 x) 2 y k other ∙ updated-other (updated s.regs 2 c) 2 x k other ∙ updated-other s.regs 2 c k other;
        mem = λ a apart. byte-put_other s.mem column_at moved a apart;
        out = refl;
        input = refl;
      })))))))

-- ---- the sign

abbrev pub sign_text : Bool → List ℕ
sign_text true = 45 ∷ []
sign_text false = []

-- it is written, and all but R0 is as it was
pub record WritesSign (negative : Bool) (s t : Core) : Type 0 where
  pub out : t.out ≡ s.out ++ sign_text negative
  pub kept : (k : ℕ) → (k ≡ 0 → ⊥) → t.regs k ≡ s.regs k
  pub mem : t.mem ≡ s.mem
  pub input : t.input ≡ s.input

module _ {Asks : ℕ → Core → Type 0} {Does : ℕ → Core → Out → Core → Type 0} (s : Core) (Q : Post) where
  pub writes_sign_owes : (negative : Bool) → s.regs 5 ≡ from_bool negative → Owes Asks Does writes_sign (on_falls (WritesSign negative s) Q) s
  writes_sign_owes true five =
      test_then (compared 1 0) refl (λ i. compared (five i) 0)
      (when_then
      (λ e.
      set_then 45 refl refl
      (write_then 45 refl
      (end_here (end_here (record { out = refl; kept = λ k other. updated-other s.regs 0 45 k other; mem = refl; input = refl })))))
      (λ e. absurd (true≢false e)))
  writes_sign_owes false five =
      test_then (compared 0 0) refl (λ i. compared (five i) 0)
      (when_then
      (λ e. absurd (false≢true e))
      (λ e. end_here (record { out = sym (append-nil s.out); kept = λ k other. refl; mem = refl; input = refl })))
