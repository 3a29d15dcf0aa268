-- The next item of DATA.
use Rattle.std.proofs.Common.{◌≡◌, ℕ, ◌+◌, ◌%◌, ◌^◌, inl, inr, refl, sym, ◌∙◌, arith}
use Rattle.std.proofs.lemmas.Bool.{eqb-true, eqb-false}
use Rattle.bas_value.specs.Errors.{out_of_data}
use Rattle.arm2_alu.proofs.RegisterLaws.{updated}
use Rattle.arm2_alu.proofs.ValueLaws.{compared}
use Rattle.arm_core.specs.Core.{Core, put, IsGood}
use Rattle.arm_core.proofs.Comparisons.{after-eq}
use Rattle.arm_core.proofs.MemoryWords.{byte-put_other, word-put_same}
use Rattle.code_frag.specs.Demands.{at_return, Owes}
use Rattle.code_frag.specs.Places.{IsData}
use Rattle.code_frag.specs.Regions.{residents_start, next_item_at}
use Rattle.code_frag.proofs.Rules.{end_here, set_then, load_then, load_byte_then, store_then, test_then, if_then}
use Rattle.runtime_lib.specs.Data.{end_mark, next_address, CanTakeItem, TakesNext}
use Rattle.runtime_lib.specs.Entries.{LibraryAsks, LibraryDoes}
use Rattle.runtime_lib.specs.Reading.{next_item}
use Rattle.runtime_lib.proofs.WritingParts.{KeepsHigh, high_kept}

-- the word's address, by the residents' register
item_address : (x : ℕ) → x ≡ residents_start → (x + 120) % 2 ^ 32 ≡ next_item_at
item_address x is = omega (arith, is)

item_data : IsData next_item_at 4
item_data = inr (omega arith, omega arith)

pub next_item_owes : (s : Core) → IsGood s → CanTakeItem s → Owes LibraryAsks LibraryDoes next_item (at_return (TakesNext s) s) s
next_item_owes s good ask =
    let a = next_address s.mem in
    let n = s.mem a in
    load_then next_item_at a (item_address (s.regs 11) ask.base) refl refl (omega arith) (λ bound.
    load_byte_then a n (omega (arith, bound)) refl (omega (arith, ask.inside)) (λ small.
    let is = after-eq n end_mark (put 2 n (put 0 a s)) (omega (arith, small)) (omega arith) in
    test_then (compared n end_mark) refl refl
    (if_then
    (λ e.
    let last = eqb-true n end_mark (sym is ∙ e) in
    set_then out_of_data refl refl
    (end_here (end_here (
      record {
        falls = refl;
        kept = high_kept _ s.regs 1 _ (inl (omega arith)) (loaded a n);
        out = refl;
        input = refl;
        takes = λ other. absurd (other last);
        none = λ same. record { error_is = refl; mem = refl };
      },
      refl,
    ))))
    (λ e.
    let other = eqb-false n end_mark (sym is ∙ e) in
    set_then (n + a) refl (omega (arith, small, ask.inside))
    (set_then (a + 1 + n) refl (omega (arith, small, ask.inside))
    (store_then next_item_at (a + 1 + n) (item_address (s.regs 11) ask.base) refl refl item_data
    (set_then 0 refl refl
    (end_here (end_here (
      record {
        falls = refl;
        kept = high_kept _ s.regs 1 _ (inl (omega arith)) (high_kept _ s.regs 2 _ (inl (omega arith)) (high_kept _ s.regs 2 _ (inl (omega arith)) (loaded a n)));
        out = refl;
        input = refl;
        takes = λ is_item. record {
          no_error = refl;
          item = refl;
          next = word-put_same s.mem next_item_at (a + 1 + n) (omega (arith, small, ask.inside));
          mem = λ b apart. byte-put_other s.mem next_item_at (a + 1 + n) b apart;
        };
        none = λ same. absurd (other same);
      },
      refl,
    ))))))))))
  where
    loaded : (a n : ℕ) → KeepsHigh (updated (updated s.regs 0 a) 2 n) s.regs
    loaded a n = high_kept _ s.regs 2 _ (inl (omega arith)) (high_kept s.regs s.regs 0 _ (inl (omega arith)) (λ k low high. refl))
