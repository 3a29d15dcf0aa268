-- A string.
use Rattle.std.proofs.Common.{◌≡◌, ℕ, zero, suc, ◌+◌, ◌≤◌, length, inl, refl, sym, ap, ◌∙◌, arith}
use Rattle.bv_base.specs.MemoryMap.{ram_end}
use Rattle.bas_value.specs.Output.{Text, advanced}
use Rattle.arm2_alu.proofs.RegisterLaws.{updated}
use Rattle.arm_core.specs.Core.{Core, word, IsGood}
use Rattle.arm_core.proofs.MemoryWords.{word-put_same}
use Rattle.code_frag.specs.Demands.{at_return, Owes}
use Rattle.code_frag.specs.Regions.{column_at}
use Rattle.code_frag.proofs.Rules.{end_here, set_then, load_byte_then}
use Rattle.runtime_lib.specs.Entries.{bytes_from, text_at, column_in, CanWrite, WritesPart, LibraryAsks, LibraryDoes}
use Rattle.runtime_lib.specs.Writing.{string_out}
use Rattle.runtime_lib.proofs.TextParts.{write_text_then}
use Rattle.runtime_lib.proofs.WritingParts.{with_column_mem, KeepsHigh, high_kept, advance_then}

length-bytes_from : (m : ℕ → ℕ) (a n : ℕ) → length (bytes_from m a n) ≡ n
length-bytes_from m a zero = refl
length-bytes_from m a (suc n) = ap suc (length-bytes_from m (a + 1) n)

pub string_out_owes : (s : Core) → IsGood s → CanWrite s → s.regs 0 + 256 ≤ ram_end → Owes LibraryAsks LibraryDoes string_out (at_return (WritesPart (Text (text_at s.mem (s.regs 0))) s) s) s
string_out_owes s good ask inside =
    let a = s.regs 0 in
    let n = s.mem a in
    set_then a refl refl
    (load_byte_then a n (omega (arith, inside)) refl (omega (arith, inside)) (λ small.
    set_then n refl refl
    (set_then (a + 1) refl (omega (arith, inside))
    (write_text_then _
    (λ t d.
    let base = d.kept 11 (omega arith) ∙ ask.base in
    let same : column_in t ≡ column_in s = ap (λ m. word m column_at) d.mem in
    let count : t.regs 1 ≡ n = d.one in
    advance_then base (omega (arith, same, ask.column)) (omega (arith, count, small))
    (λ u e.
    end_here (
      record {
        falls = refl;
        writes = record {
          out = e.out ∙ d.out;
          column_is = ap (λ m. word m column_at) e.mem ∙ word-put_same t.mem column_at _ (omega arith) ∙ (λ i. advanced (count i) (same i)) ∙ ap (λ k. advanced k (column_in s)) (sym (length-bytes_from s.mem (a + 1) n));
          kept = λ k low high. e.regs k (λ f. omega (arith, f, low)) ∙ d.kept k (omega (arith, low)) ∙ kept k low high;
          mem = λ b is. (λ i. e.mem i b) ∙ with_column_mem t.mem _ b is ∙ (λ i. d.mem i b);
          input = e.input ∙ d.input;
        };
      },
      e.regs 14 (omega arith) ∙ d.kept 14 (omega arith),
    )))
    (omega (arith, small)) (omega (arith, small, inside))))))
  where
    kept : KeepsHigh (updated (updated (updated (updated s.regs 2 (s.regs 0)) 4 (s.mem (s.regs 0))) 1 (s.mem (s.regs 0))) 2 (s.regs 0 + 1)) s.regs
    kept = high_kept _ s.regs 2 _ (inl (omega arith)) (high_kept _ s.regs 1 _ (inl (omega arith)) (high_kept _ s.regs 4 _ (inl (omega arith)) (high_kept s.regs s.regs 2 _ (inl (omega arith)) (λ k low high. refl))))
