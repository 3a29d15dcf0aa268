-- TAB.
use Rattle.std.proofs.Common.{◌≡◌, ℕ, ◌-◌, ◌*◌, ◌%◌, ◌^◌, ◌≤◌, ◌++◌, List, [], nat_le, Bool, true, false, if◌then◌else◌, inl, refl, sym, ap, ◌∙◌, arith, append-nil, leb-true}
use Rattle.bas_value.specs.Output.{Tab, low_byte, spaces, new_line, to_column}
use Rattle.arm2_alu.proofs.ValueLaws.{compared}
use Rattle.arm2_alu.proofs.RegisterLaws.{updated}
use Rattle.arm_core.specs.Core.{Core, put_word, IsGood}
use Rattle.arm_core.proofs.Comparisons.{after-ls}
use Rattle.code_frag.specs.Demands.{at_return, Owes}
use Rattle.code_frag.specs.Regions.{column_at}
use Rattle.code_frag.proofs.Rules.{end_here, set_then, load_then, store_then, test_then, if_then, new_line_then}
use Rattle.runtime_lib.specs.Entries.{number_in, column_in, CanWrite, WritesPart, LibraryAsks, LibraryDoes}
use Rattle.runtime_lib.specs.Writing.{to_tab}
use Rattle.runtime_lib.proofs.WritingParts.{column_data, column_address, low_byte-signed, take_byte_then, KeepsHigh, high_kept, Ready, run_ends}

module _ (s : Core) (good : IsGood s) (ask : CanWrite s) where
  abbrev wanted : ℕ
  wanted = s.regs 0 % 256

  wanted_is : low_byte (number_in s 0) ≡ wanted
  wanted_is = low_byte-signed (s.regs 0) (good.regs 0)

  -- what leads to the column, by the test of it
  leads : (b : Bool) → nat_le (column_in s) wanted ≡ b → (if b then spaces (wanted - column_in s) else new_line ++ spaces wanted) ≡ to_column (low_byte (number_in s 0)) (column_in s)
  leads b is = ap (λ x. if x then spaces (wanted - column_in s) else new_line ++ spaces wanted) (sym is) ∙ ap (λ w. to_column w (column_in s)) (sym wanted_is)

  -- before the spaces
  ready : (t : Core) (front : List ℕ) → t.regs 8 ≡ s.regs 14 → KeepsHigh t.regs s.regs → t.out ≡ s.out ++ front → front ++ spaces (t.regs 1) ≡ to_column (low_byte (number_in s 0)) (column_in s)
      → t.mem ≡ put_word s.mem column_at wanted → t.input ≡ s.input → Ready (Tab (number_in s 0)) s t
  ready t front back kept out all mem input = record {
    back = back;
    kept = kept;
    front = front;
    out = out;
    all = all;
    column = wanted;
    column_is = sym wanted_is;
    column_fits = omega arith;
    mem = mem;
    input = input;
  }

  pub to_tab_owes : Owes LibraryAsks LibraryDoes to_tab (at_return (WritesPart (Tab (number_in s 0)) s) s) s
  to_tab_owes =
      let c = column_in s in
      let small = ask.column in
      let is = after-ls c wanted s (omega (arith, small)) (omega arith) in
      set_then (s.regs 14) refl refl
      (take_byte_then
      (load_then column_at c (column_address (s.regs 11) ask.base) refl refl (omega arith) (λ bound.
      store_then column_at wanted (column_address (s.regs 11) ask.base) refl refl column_data
      (test_then (compared c wanted) refl refl
      (if_then
      (λ e.
      let within : c ≤ wanted = leb-true c wanted (sym is ∙ e) in
      set_then (wanted - c) refl (omega (arith, within, small))
      (end_here (run_ends _ s _ (ready _ [] refl (high_kept _ s.regs 1 _ (inl (omega arith)) kept) (sym (append-nil s.out)) (leads true (sym is ∙ e)) refl refl))))
      (λ e.
      new_line_then
      (end_here (run_ends _ s _ (ready _ new_line refl kept refl (leads false (sym is ∙ e)) refl refl)))))))))
    where
      kept : KeepsHigh (updated (updated (updated (updated s.regs 8 (s.regs 14)) 1 (s.regs 0 * 2 ^ 24 % 2 ^ 32)) 1 wanted) 2 (column_in s)) s.regs
      kept = high_kept _ s.regs 2 _ (inl (omega arith)) (high_kept _ s.regs 1 _ (inl (omega arith)) (high_kept _ s.regs 1 _ (inl (omega arith)) (high_kept s.regs s.regs 8 _ (inl (omega arith)) (λ k low high. refl))))
