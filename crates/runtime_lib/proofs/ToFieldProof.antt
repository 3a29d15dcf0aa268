-- A comma.
use Rattle.std.proofs.Common.{◌≡◌, ℕ, ◌+◌, ◌-◌, ◌*◌, ◌/◌, ◌%◌, ◌^◌, ◌<◌, [], inl, refl, sym, ap, ◌∙◌, arith, append-nil}
use Rattle.bas_value.specs.Output.{Field, spaces, advanced}
use Rattle.arm2_alu.proofs.RegisterLaws.{updated}
use Rattle.arm_core.specs.Core.{Core, put, IsGood}
use Rattle.arm_core.proofs.ShiftedOperands.{lsl-value, lsr-value}
use Rattle.code_frag.specs.Demands.{at_return, Owes}
use Rattle.code_frag.specs.Regions.{column_at}
use Rattle.code_frag.proofs.Rules.{set_then, load_then, multiply_then}
use Rattle.runtime_lib.specs.Entries.{column_in, CanWrite, WritesPart, LibraryAsks, LibraryDoes}
use Rattle.runtime_lib.specs.Writing.{to_field}
use Rattle.runtime_lib.proofs.WritingParts.{column_address, advance_then, KeepsHigh, high_kept, run_ends}

-- the product's high bits are the quotient by ten
tenth : (x : ℕ) → x < 131072 → x * 52429 / 2 ^ 19 ≡ x / 10
tenth x small = omega (arith, small)

-- the next multiple of ten, and how far it is
next_field : (c : ℕ) → 10 * ((c + 9) / 10) - c ≡ (10 - c % 10) % 10
next_field c = omega arith

pub to_field_owes : (s : Core) → IsGood s → CanWrite s → Owes LibraryAsks LibraryDoes to_field (at_return (WritesPart Field s) s) s
to_field_owes s good ask =
    let c = column_in s in
    let small = ask.column in
    let product = (c + 9) * 52429 in
    let q = (c + 9) / 10 in
    let is : product / 2 ^ 19 ≡ q = tenth (c + 9) (omega (arith, small)) in
    let n = 10 * q - c in
    set_then (s.regs 14) refl refl
    (load_then column_at c (column_address (s.regs 11) ask.base) refl refl (omega arith) (λ bound.
    set_then (c + 9) refl (omega (arith, small))
    (set_then 0xcc00 refl refl
    (set_then 52429 refl refl
    (multiply_then product (omega (arith, small))
    (set_then q refl (lsr-value 19 5 (put 5 product s) (omega arith) (omega arith) (omega arith) ∙ is)
    (set_then (5 * q) refl ((λ i. (q + lsl-value 2 5 (put 5 q s) (omega arith) (omega arith) (omega arith) i) % 2 ^ 32) ∙ omega (arith, small))
    (set_then n refl ((λ i. (lsl-value 1 5 (put 5 (5 * q) s) (omega arith) (omega arith) (omega arith) i + (2 ^ 32 - c)) % 2 ^ 32) ∙ omega (arith, small))
    (advance_then ask.base small (omega (arith, small)) (λ t a.
    run_ends Field s t (record {
      back = a.regs 8 (omega arith);
      kept = λ k low high. a.regs k (λ e. omega (arith, e, low)) ∙ kept k low high;
      front = [];
      out = a.out ∙ sym (append-nil s.out);
      all = ap spaces (a.regs 1 (omega arith) ∙ next_field c);
      column = advanced n c;
      column_is = ap (λ k. advanced k c) (next_field c);
      column_fits = omega arith;
      mem = a.mem;
      input = a.input;
    })))))))))))
  where
    kept : KeepsHigh (updated (updated (updated (updated (updated (updated (updated (updated (updated s.regs 8 (s.regs 14)) 2 (column_in s)) 3 (column_in s + 9)) 4 0xcc00) 4 52429) 5 ((column_in s + 9) * 52429)) 5 ((column_in s + 9) / 10)) 5 (5 * ((column_in s + 9) / 10))) 1 (10 * ((column_in s + 9) / 10) - column_in s)) s.regs
    kept = high_kept _ s.regs 1 _ (inl (omega arith)) (high_kept _ s.regs 5 _ (inl (omega arith)) (high_kept _ s.regs 5 _ (inl (omega arith)) (high_kept _ s.regs 5 _ (inl (omega arith)) (high_kept _ s.regs 4 _ (inl (omega arith))
        (high_kept _ s.regs 4 _ (inl (omega arith)) (high_kept _ s.regs 3 _ (inl (omega arith)) (high_kept _ s.regs 2 _ (inl (omega arith)) (high_kept s.regs s.regs 8 _ (inl (omega arith)) (λ k low high. refl)))))))))
