-- The closing text, and the end of the run.
use Rattle.std.proofs.Common.{◌≡◌, ℕ, ◌+◌, ◌%◌, List, ◌++◌, length, Some, codes, pos, refl, ap, ◌∙◌, arith, append_assoc}
use Rattle.bas_value.specs.Errors.{error_text}
use Rattle.bas_value.specs.Output.{Closing, new_line, part_bytes}
use Rattle.bv_num.specs.Digits.{decimal_text, decimal_digits}
use Rattle.bv_run.specs.declared.report.Report.TheVariants.{Failed}
use Rattle.arm2_alu.proofs.ValueLaws.{signed-low}
use Rattle.arm_core.specs.Core.{Core, word, IsGood}
use Rattle.code_frag.specs.Demands.{Post, at_return, Owes}
use Rattle.code_frag.specs.Instructions as code
use Rattle.code_frag.specs.Instructions.{num, reg, mov}
use Rattle.code_frag.specs.Language.{Call, ◌⨾◌}
use Rattle.code_frag.specs.Regions.{column_at, error_texts_start}
use Rattle.code_frag.proofs.Rules.{set_then, load_byte_then, new_line_then, call_then, halt_then}
use Rattle.runtime_lib.specs.Entries.{label_of, DecimalNumber, bytes_from, column_in, IsUntouched, CanClose, Closes, LibraryAsks, LibraryDoes}
use Rattle.runtime_lib.specs.Writing.{closing_text, fail}
use Rattle.runtime_lib.proofs.ErrorSearch.{search_then}
use Rattle.runtime_lib.proofs.TextParts.{write_text_then, literal_then}

module _ (s : Core) (good : IsGood s) (ask : CanClose s) where
  abbrev error : ℕ
  error = s.regs 0

  abbrev line : ℕ
  line = s.regs 1

  abbrev Goal : Post
  Goal = at_return (Closes s) s

  -- what was written, where the error and the line are in R9 and R10
  record HasWritten (bytes : List ℕ) (t : Core) : Type 0 where
    error_is : t.regs 9 ≡ error
    line_is : t.regs 10 ≡ line
    base : t.regs 11 ≡ s.regs 11
    stack : t.regs 13 ≡ s.regs 13
    mem : t.mem ≡ s.mem
    out : t.out ≡ s.out ++ bytes

  -- more is written
  and_more : (bytes more : List ℕ) (t u : Core) → t.out ≡ s.out ++ bytes → u.out ≡ t.out ++ more → u.out ≡ s.out ++ (bytes ++ more)
  and_more bytes more t u out next = next ∙ (λ i. out i ++ more) ∙ append_assoc s.out bytes more

  -- the end
  fails : (t : Core) → t.regs 9 ≡ error → t.regs 10 ≡ line → t.out ≡ s.out ++ part_bytes (Closing (error_text error) line) (column_in s) → ((a : ℕ) → IsUntouched a → t.mem a ≡ s.mem a) → Owes LibraryAsks LibraryDoes fail Goal t
  fails t nine ten out mem =
      let small = ask.error in
      let short : line % 65536 ≡ line = omega (arith, ask.line) in
      set_then 1 refl refl
      (set_then error refl nine
      (set_then line refl ten
      (halt_then (Failed (pos error) line) (λ i. Some (Failed (signed-low error (omega (arith, small)) i) (short i))) (record { ends = refl; out = out; mem = mem }))))

  abbrev before_line : List ℕ
  before_line = new_line ++ error_text error ++ codes " at line "

  -- from the line on
  line_then : (t : Core) → HasWritten before_line t → Owes LibraryAsks LibraryDoes (mov 0 (reg 10) ⨾ mov 1 (num 0) ⨾ Call (label_of DecimalNumber) ⨾ code.new_line ⨾ fail) Goal t
  line_then t w =
      let same : column_in t ≡ column_in s = ap (λ m. word m column_at) w.mem in
      let write = ask.can_write in
      set_then line refl w.line_is
      (set_then 0 refl refl
      (call_then
      (λ r low. record {
        base = w.base ∙ write.base;
        aligned = ap (λ x. x % 4) w.stack ∙ write.aligned;
        room = omega (arith, w.stack, write.room);
        inside = omega (arith, w.stack, write.inside);
        column = omega (arith, same, write.column);
      })
      (λ r u low good_u d.
      let digits : u.out ≡ t.out ++ decimal_digits line = d.writes.out ∙ ap (λ n. t.out ++ decimal_text n) (signed-low line (omega (arith, ask.line))) in
      new_line_then
      (fails _ (d.writes.kept 9 (omega arith) (omega arith) ∙ w.error_is) (d.writes.kept 10 (omega arith) (omega arith) ∙ w.line_is)
      ((λ i. and_more before_line (decimal_digits line) t u w.out digits i ++ new_line) ∙ append_assoc s.out (before_line ++ decimal_digits line) new_line)
      (λ a is. d.writes.mem a is ∙ (λ i. w.mem i a))))
      (λ r l u low good_u d. absurd (let f = d.falls in cc))))

  pub closing_text_owes : Owes LibraryAsks LibraryDoes closing_text Goal s
  closing_text_owes =
      set_then error refl refl
      (set_then line refl refl
      (new_line_then
      (set_then 0x100000 refl refl
      (set_then error_texts_start refl refl
      (search_then _ ask.error
      (λ t f.
      let p = t.regs 2 in
      let n = length f.text in
      load_byte_then (p + 1) n (omega (arith, f.inside)) ((λ i. f.mem i (p + 1)) ∙ f.count) (omega (arith, f.inside)) (λ small.
      set_then (p + 2) refl (omega (arith, f.inside))
      (write_text_then _
      (λ u d.
      let text : u.out ≡ t.out ++ error_text error = d.out ∙ ap (λ l. t.out ++ l) (ap (λ m. bytes_from m (p + 2) n) f.mem ∙ f.bytes ∙ f.text_is) in
      literal_then (codes " at line ") _ _ u refl
      (λ v l.
      line_then v (record {
        error_is = l.kept 9 (omega arith) ∙ d.kept 9 (omega arith) ∙ f.kept 9 (omega arith);
        line_is = l.kept 10 (omega arith) ∙ d.kept 10 (omega arith) ∙ f.kept 10 (omega arith);
        base = l.kept 11 (omega arith) ∙ d.kept 11 (omega arith) ∙ f.kept 11 (omega arith);
        stack = l.kept 13 (omega arith) ∙ d.kept 13 (omega arith) ∙ f.kept 13 (omega arith);
        mem = l.mem ∙ d.mem ∙ f.mem;
        out = and_more (new_line ++ error_text error) (codes " at line ") u v (and_more new_line (error_text error) t u f.out text) l.out;
      })))
      (omega (arith, small)) (omega (arith, f.inside)))))
      refl ask.texts)))))
