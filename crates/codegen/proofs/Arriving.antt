-- How the code of an operation begins and ends: the contracts of what it calls, room for a number, dropping the topmost number,
-- loading numbers, and raising an error.
use Rattle.std.proofs.Common.{◌≡◌, ℕ, ◌+◌, ◌-◌, ◌*◌, ◌/◌, ◌%◌, ◌^◌, ◌<◌, ◌≤◌, inr, Bool, true, false, ℤ, pos, ◌++◌, None, length, refl, sym, ap, subst, ◌∙◌, arith}
use Rattle.std.specs.Ordering.{int_eq}
use Rattle.bas_ir.specs.Effects.{Effect, Falls}
use Rattle.bas_ir.specs.Places.{Pending, pushed}
use Rattle.bas_sem.specs.Actions.{taker, raise, raised_to, wrote, noted}
use Rattle.bas_sem.specs.Course.{Course, Value, Over}
use Rattle.bas_sem.specs.State.{State}
use Rattle.bas_value.specs.Errors.{error_text}
use Rattle.bas_value.specs.Output.{Closing, part_bytes}
use Rattle.bv_num.specs.Bits.{signed}
use Rattle.bv_run.specs.declared.report.Report.TheVariants.{Failed}
use Rattle.arm_isa.proofs.ImmediateLaws.{immediate_value-byte, gives_byte_1, gives_byte_2, gives_byte_3}
use Rattle.arm2_alu.proofs.RegisterLaws.{updated}
use Rattle.arm_core.specs.Core.{Core, IsGood, put, word, put_word}
use Rattle.arm_core.proofs.MemoryWords.{updated-same, byte-put_other, word-same}
use Rattle.code_frag.specs.Demands.{Out, Post, Leaves, ToLabel, on_falls, Owes}
use Rattle.code_frag.specs.Language as language
use Rattle.code_frag.specs.Language.{Seq, Skip, ◌⨾◌}
use Rattle.code_frag.specs.Regions.{numbers_start, numbers_end, stack_start}
use Rattle.code_frag.proofs.Rules.{end_here, seq_then, skip_then, set_then, push_then, pull_then, leave_then}
use Rattle.runtime_lib.specs.Library.{AsksAfter, DoesAfter}
use Rattle.codegen.specs.Operations as code
use Rattle.codegen.specs.Operations.{load, load_short, make_room, drop, raise_label}
use Rattle.codegen.specs.Outcomes.{Arrives}
use Rattle.codegen.specs.StandsFor.{Site, Holds, Numbers, Texts, StandsFor}
use Rattle.codegen.proofs.PendingLaws.{numbers_room, numbers_kept, numbers_pushed, texts_kept, texts_room}
use Rattle.codegen.proofs.StateLaws.{holds_stored}

-- ---- the contracts of the labels that pieces call: those of the library, which come after that of the program's beginning

abbrev pub CodeAsks : ℕ → Core → Type 0
CodeAsks = AsksAfter 1

abbrev pub CodeDoes : ℕ → Core → Out → Core → Type 0
CodeDoes = DoesAfter 1

-- ---- where R0 is free

-- The pending numbers are all in memory, and R0 may hold anything.
pub record Free (image : Site) (p : Pending) (st : State) (s : Core) : Type 0 where
  pub holds : Holds image.branches image.table st (s.regs 11) (s.regs 13) s.mem s.out
  pub numbers : Numbers s.mem (s.regs 12 + 4) (word s.mem (s.regs 12)) p.numbers
  pub texts : Texts image.bytes s.mem (s.regs 9) (s.regs 10) p.texts

-- a number in R0 is pending, too
pub with_top : {image : Site} {p : Pending} {st : State} {s : Core} (value : ℤ) → Free image p st s → signed (s.regs 0) ≡ value → StandsFor image (pushed value p) st s
with_top value f is = record { holds = f.holds; numbers = (is, f.numbers); texts = f.texts }

-- R0 holds a pending number that is not wanted any more
pub without_top : {image : Site} {p : Pending} {st : State} {s : Core} {value : ℤ} → StandsFor image (pushed value p) st s → Free image p st s
without_top f = record { holds = f.holds; numbers = f.numbers.1; texts = f.texts }

-- where a stack is
pub free_room : {image : Site} {p : Pending} {st : State} {s : Core} → Free image p st s → s.regs 12 + 4 + 4 * length p.numbers ≡ numbers_end
free_room {image} {p} {st} {s} f = numbers_room s.mem (s.regs 12 + 4) (word s.mem (s.regs 12)) p.numbers f.numbers

-- few values are pending
abbrev pub IsShort : Pending → Type 0
IsShort p = length p.numbers + length p.texts ≤ 256

-- what is pending where R0 is free, after a routine: the same registers, and the same memory from the stack of numbers on
pub free_pending : {image : Site} {p : Pending} {st : State} {s : Core} (t : Core) → Free image p st s → IsShort p → ((k : ℕ) → 9 ≤ k → k ≤ 13 → t.regs k ≡ s.regs k) → ((a : ℕ) → numbers_start ≤ a → a < stack_start → t.mem a ≡ s.mem a)
    → Numbers t.mem (t.regs 12 + 4) (word t.mem (t.regs 12)) p.numbers × Texts image.bytes t.mem (t.regs 9) (t.regs 10) p.texts
free_pending {image} {p} {st} {s} t f short kept same =
    let room = free_room f in
    let below = texts_room image.bytes s.mem (s.regs 9) (s.regs 10) p.texts f.texts in (
      subst (λ q. Numbers t.mem (q + 4) (word t.mem q) p.numbers) (sym (kept 12 (omega arith) (omega arith)))
          (subst (λ v. Numbers t.mem (s.regs 12 + 4) v p.numbers) (word-same s.mem t.mem (s.regs 12) (λ b low high. sym (same b (omega (arith, low, room, short)) (omega (arith, high, room, short)))))
          (numbers_kept s.mem t.mem (s.regs 12 + 4) (word s.mem (s.regs 12)) p.numbers f.numbers (λ a low high. same a (omega (arith, low, room, short)) (omega (arith, high))))),
      subst (λ q. Texts image.bytes t.mem (t.regs 9) q p.texts) (sym (kept 10 (omega arith) (omega arith)))
          (subst (λ q. Texts image.bytes t.mem q (s.regs 10) p.texts) (sym (kept 9 (omega arith) (omega arith)))
          (texts_kept image.bytes s.mem t.mem (s.regs 9) (s.regs 10) p.texts f.texts (λ a low high. same a (omega (arith, low, below, short)) (omega (arith, high))))),
    )

-- a core whose topmost number went to the stack
abbrev pub with_room : Core → Core
with_room s = record s { regs = updated s.regs 12 (s.regs 12 - 4); mem = put_word s.mem (s.regs 12 - 4) (s.regs 0) }

module _ {image : Site} {p : Pending} {st : State} {s : Core} where
  pub free_with_room : StandsFor image p st s → IsGood s → IsShort p → Free image p st (with_room s)
  free_with_room f good few =
      let room = numbers_room s.mem (s.regs 12) (s.regs 0) p.numbers f.numbers in
      let below = texts_room image.bytes s.mem (s.regs 9) (s.regs 10) p.texts f.texts in
      let next : s.regs 12 - 4 + 4 ≡ s.regs 12 = omega (arith, room, few) in
      record {
        holds = holds_stored st (s.regs 11) (s.regs 13) s.mem s.out (s.regs 12 - 4) (s.regs 0) f.holds (omega (arith, room, few)) (omega (arith, room, few));
        numbers = numbers_pushed s.mem (s.regs 12 - 4) (s.regs 12) (s.regs 0) p.numbers f.numbers next (good.regs 0);
        texts = texts_kept image.bytes s.mem (put_word s.mem (s.regs 12 - 4) (s.regs 0)) (s.regs 9) (s.regs 10) p.texts f.texts (λ a low high. byte-put_other s.mem (s.regs 12 - 4) (s.regs 0) a (inr (omega (arith, low, below, room, few))));
      }

-- ---- numbers

module _ {rest : language.Piece} {Q : Post} {s : Core} where
  -- a number below 2^16 in R1
  pub short_then : (n : ℕ) → n < 2 ^ 16 → Owes CodeAsks CodeDoes rest Q (put 1 n (put 1 (n % 2 ^ 8) s)) → Owes CodeAsks CodeDoes (load_short 1 n ⨾ rest) Q s
  short_then n small owes =
      seq_then (set_then (n % 2 ^ 8) refl (immediate_value-byte (n % 2 ^ 8) (omega arith))
      (seq_then (set_then n refl (let g = gives_byte_1 (n / 2 ^ 8 % 2 ^ 8) (omega arith) in ap (λ b. (n % 2 ^ 8 + b) % 2 ^ 32) g.value ∙ omega (arith, small)) (skip_then owes))))

  -- a number below 2^32 in a register, by its bytes
  pub load_then : (rd n : ℕ) → n < 2 ^ 32
      → Owes CodeAsks CodeDoes rest Q (put rd n (put rd (n % 2 ^ 24) (put rd (n % 2 ^ 16) (put rd (n % 2 ^ 8) s)))) → Owes CodeAsks CodeDoes (load rd n ⨾ rest) Q s
  load_then rd n small owes =
      let first = put rd (n % 2 ^ 8) s in
      let second = put rd (n % 2 ^ 16) first in
      let third = put rd (n % 2 ^ 24) second in
      let b = gives_byte_1 (n / 2 ^ 8 % 2 ^ 8) (omega arith) in
      let c = gives_byte_2 (n / 2 ^ 16 % 2 ^ 8) (omega arith) in
      let d = gives_byte_3 (n / 2 ^ 24 % 2 ^ 8) (omega arith) in
      seq_then (set_then (n % 2 ^ 8) refl (immediate_value-byte (n % 2 ^ 8) (omega arith))
      (seq_then (set_then (n % 2 ^ 16) refl ((λ i. (updated-same s.regs rd (n % 2 ^ 8) rd refl i + b.value i) % 2 ^ 32) ∙ omega arith)
      (seq_then (set_then (n % 2 ^ 24) refl ((λ i. (updated-same first.regs rd (n % 2 ^ 16) rd refl i + c.value i) % 2 ^ 32) ∙ omega arith)
      (seq_then (set_then n refl ((λ i. (updated-same second.regs rd (n % 2 ^ 24) rd refl i + d.value i) % 2 ^ 32) ∙ omega (arith, small)) (skip_then owes))))))))

-- ---- the topmost number

module _ {image : Site} {p : Pending} {st : State} {s : Core} where
  -- room is made for a number
  pub room_then : {rest : language.Piece} {Q : Post} → StandsFor image p st s → IsShort p → Owes CodeAsks CodeDoes rest Q (with_room s) → Owes CodeAsks CodeDoes (make_room ⨾ rest) Q s
  room_then f few owes =
      let room = numbers_room s.mem (s.regs 12) (s.regs 0) p.numbers f.numbers in
      push_then (s.regs 12 - 4) (s.regs 0) (omega (arith, room, few)) refl (omega (arith, room, few)) (inr (omega (arith, room, few), omega (arith, room, few))) owes

  -- the topmost number is dropped, and the operation is done
  pub drop_end : Free image p st s → Owes CodeAsks CodeDoes (drop ⨾ Skip) (Arrives image (Value (Falls p) st)) s
  drop_end f =
      let room = free_room f in
      pull_then (s.regs 12) (word s.mem (s.regs 12)) (s.regs 12 + 4) refl refl (omega (arith, room)) (omega (arith, room)) (omega (arith, room))
      (λ small. end_here (record { by = (refl, record { holds = f.holds; numbers = f.numbers; texts = f.texts }) }))

-- ---- errors

taker-none : (b : Bool) → taker b None ≡ None
taker-none true = refl
taker-none false = refl

-- the end of a run by an error
abbrev pub over_by : {A : Type 0} → ℕ → ℕ → State → Course A
over_by error line st = Over (Failed (pos error) line) (wrote (Closing (error_text error) line) (noted (pos error) (error_text error) line st))

-- without a handler an error ends the run
pub raise_over : {A : Type 0} (error line : ℕ) (st : State) → st.handler ≡ None → raise {A = A} error line st ≡ over_by error line st
raise_over {A} error line st unhandled =
    ap (λ h. raised_to {A = A} h (pos error) (error_text error) line st) (ap (taker (int_eq (pos error) (pos 0))) unhandled ∙ taker-none (int_eq (pos error) (pos 0)))

module _ {image : Site} {st : State} {s : Core} where
  -- the error in R0 and the line in R1 are raised
  pub raised : (c : Course Effect) (error line : ℕ) → c ≡ over_by error line st → error < 256 → line < 65536 → Holds image.branches image.table st (s.regs 11) (s.regs 13) s.mem s.out → s.regs 0 ≡ error → s.regs 1 ≡ line
      → Arrives image c (Leaves (ToLabel raise_label)) s
  raised c error line ends known fits h is_error is_line =
      subst (λ d. Arrives image d (Leaves (ToLabel raise_label)) s) (sym ends)
      (record {
        by = inr (record {
          leaves = refl;
          can_write = record {
            base = h.base_is;
            aligned = omega (arith, h.stack_is);
            room = omega (arith, h.stack_is);
            inside = omega (arith, h.stack_is);
            column = omega (arith, h.column, h.column_small);
          };
          error = omega (arith, known, is_error);
          line = omega (arith, fits, is_line);
          reports = λ i. Failed (pos (sym is_error i)) (sym is_line i);
          out = λ i. sym h.out_is i ++ part_bytes (Closing (error_text (sym is_error i)) (sym is_line i)) (sym h.column i);
          has_arena = h.has_arena;
        });
      })

module _ {image : Site} {st : State} {s : Core} where
  -- an error's code
  pub raise_by : {Q : Post} (c : Course Effect) (error line : ℕ) → c ≡ over_by error line st → error < 256 → line < 65536 → Holds image.branches image.table st (s.regs 11) (s.regs 13) s.mem s.out
      → ((t : Core) → Arrives image c (Leaves (ToLabel raise_label)) t → Q (Leaves (ToLabel raise_label)) t) → Owes CodeAsks CodeDoes (code.raise error line) Q s
  raise_by c error line ends known fits h then_asked =
      set_then error refl (immediate_value-byte error known)
      (short_then line (omega (arith, fits)) (leave_then (then_asked _ (raised c error line ends known fits h refl refl))))

  -- wherever its piece leads if it comes to its end
  pub raise_then : {falls : Core → Type 0} (c : Course Effect) (error line : ℕ) → c ≡ over_by error line st → error < 256 → line < 65536 → Holds image.branches image.table st (s.regs 11) (s.regs 13) s.mem s.out
      → Owes CodeAsks CodeDoes (code.raise error line) (on_falls falls (Arrives image c)) s
  raise_then c error line ends known fits h = raise_by c error line ends known fits h (λ t a. a)
