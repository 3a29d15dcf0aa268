-- SPC.
use Rattle.std.proofs.Common.{◌%◌, [], refl, sym, ap, ◌∙◌, arith, append-nil, inl}
use Rattle.bas_value.specs.Output.{Spaces, spaces, advanced}
use Rattle.arm_core.specs.Core.{Core, IsGood}
use Rattle.code_frag.specs.Demands.{at_return, Owes}
use Rattle.code_frag.proofs.Rules.{set_then}
use Rattle.runtime_lib.specs.Entries.{number_in, column_in, CanWrite, WritesPart, LibraryAsks, LibraryDoes}
use Rattle.runtime_lib.specs.Writing.{some_spaces}
use Rattle.runtime_lib.proofs.WritingParts.{low_byte-signed, take_byte_then, advance_then, run_ends, high_kept}

pub some_spaces_owes : (s : Core) → IsGood s → CanWrite s → Owes LibraryAsks LibraryDoes some_spaces (at_return (WritesPart (Spaces (number_in s 0)) s) s) s
some_spaces_owes s good ask =
    let n = s.regs 0 % 256 in
    let is = low_byte-signed (s.regs 0) (good.regs 0) in
    set_then (s.regs 14) refl refl
    (take_byte_then
    (advance_then ask.base ask.column (omega arith) (λ t a.
    run_ends (Spaces (number_in s 0)) s t (record {
      back = a.regs 8 (omega arith);
      kept = λ k low high. a.regs k (λ e. omega (arith, e, low)) ∙ high_kept _ s.regs 1 _ (inl (omega arith)) (high_kept _ s.regs 1 _ (inl (omega arith)) (high_kept s.regs s.regs 8 _ (inl (omega arith)) (λ i lower higher. refl))) k low high;
      front = [];
      out = a.out ∙ sym (append-nil s.out);
      all = ap spaces (a.regs 1 (omega arith) ∙ sym is);
      column = advanced (s.regs 0 % 256) (column_in s);
      column_is = ap (λ k. advanced k (column_in s)) (sym is);
      column_fits = omega arith;
      mem = a.mem;
      input = a.input;
    }))))
