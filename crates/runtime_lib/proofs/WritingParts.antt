-- Parts that the routines that write have in common: a byte of a register, the column, and spaces at the end.
use Rattle.std.proofs.Common.{◌≡◌, ℕ, ◌+◌, ◌*◌, ◌/◌, ◌%◌, ◌^◌, ◌<◌, ◌≤◌, ◌⊎◌, inl, inr, List, ◌++◌, refl, ap, ◌∙◌, arith, append_assoc}
use Rattle.std.specs.Int.{w32, cast_signed}
use Rattle.std.proofs.lemmas.Int.{of_z-to_z}
use Rattle.bas_value.specs.Output.{Part, low_byte, spaces, part_bytes, column_after, advanced}
use Rattle.arm2_alu.proofs.RegisterLaws.{updated}
use Rattle.arm_core.specs.Core.{Core, put, word, put_word}
use Rattle.arm_core.proofs.MemoryWords.{updated-other, byte-put_other, word-put_same}
use Rattle.arm_core.proofs.ShiftedOperands.{lsl-value, lsr-value}
use Rattle.code_frag.specs.Demands.{Post, at_return, Owes}
use Rattle.code_frag.specs.Language.{Piece}
use Rattle.code_frag.specs.Places.{IsData}
use Rattle.code_frag.specs.Regions.{residents_start, column_at, base_register, texts_register, stack_register}
use Rattle.code_frag.proofs.Rules.{end_here, set_then, load_then, store_then, call_then}
use Rattle.runtime_lib.specs.Entries.{column_in, IsUntouched, WritesPart, LibraryAsks, LibraryDoes}
use Rattle.runtime_lib.specs.Writing.{take_byte, advance, run_at_end}

-- the column's word is data
pub column_data : IsData column_at 4
column_data = inr (omega arith, omega arith)

-- its address, by the residents' register
pub column_address : (x : ℕ) → x ≡ residents_start → (x + 108) % 2 ^ 32 ≡ column_at
column_address x is = omega (arith, is)

-- what the routines leave alone is apart from the column
pub untouched_apart : (a : ℕ) → IsUntouched a → (a < column_at) ⊎ (column_at + 4 ≤ a)
untouched_apart a (inl below) = inl below
untouched_apart a (inr above) = inr above.0

-- the memory with another column
pub with_column_mem : (m : ℕ → ℕ) (x a : ℕ) → IsUntouched a → put_word m column_at x a ≡ m a
with_column_mem m x a is = byte-put_other m column_at x a (untouched_apart a is)

-- R9 to R13 are as they were
abbrev pub KeepsHigh : (ℕ → ℕ) → (ℕ → ℕ) → Type 0
KeepsHigh f g = (k : ℕ) → texts_register ≤ k → k ≤ stack_register → f k ≡ g k

-- and where a register below them, or R14, takes a value
pub high_kept : (f g : ℕ → ℕ) (n x : ℕ) → (n < texts_register) ⊎ (stack_register < n) → KeepsHigh f g → KeepsHigh (updated f n x) g
high_kept f g n x (inl below) kept k low high = updated-other f n x k (λ e. omega (arith, e, below, low)) ∙ kept k low high
high_kept f g n x (inr above) kept k low high = updated-other f n x k (λ e. omega (arith, e, above, high)) ∙ kept k low high

-- the low byte of a register's number
pub low_byte-signed : (n : ℕ) → n < 2 ^ 32 → low_byte (cast_signed w32 n) ≡ n % 256
low_byte-signed n small = ap (λ x. x % 256) (of_z-to_z w32 n small)

-- the low byte of R0 in R1
pub take_byte_then : {rest : Piece} {Q : Post} {s : Core} → Owes LibraryAsks LibraryDoes rest Q (put 1 (s.regs 0 % 256) (put 1 (s.regs 0 * 2 ^ 24 % 2 ^ 32) s)) → Owes LibraryAsks LibraryDoes (take_byte rest) Q s
take_byte_then {rest} {Q} {s} owes =
    let high = s.regs 0 * 2 ^ 24 % 2 ^ 32 in
    set_then high refl (lsl-value 24 0 s (omega arith) (omega arith) (omega arith))
    (set_then (s.regs 0 % 256) refl (lsr-value 24 1 (put 1 high s) (omega arith) (omega arith) (omega arith) ∙ (let e : high / 2 ^ 24 ≡ s.regs 0 % 256 = omega arith in e)) owes)

-- ---- the column

-- the column has n more bytes, and but for R3 the registers are as they were
pub record Advances (n : ℕ) (s t : Core) : Type 0 where
  pub regs : (k : ℕ) → (k ≡ 3 → ⊥) → t.regs k ≡ s.regs k
  pub mem : t.mem ≡ put_word s.mem column_at (advanced n (column_in s))
  pub out : t.out ≡ s.out
  pub input : t.input ≡ s.input

pub advance_then : {rest : Piece} {Q : Post} {s : Core} → s.regs base_register ≡ residents_start → column_in s < 65536 → s.regs 1 < 2 ^ 32
    → ((t : Core) → Advances (s.regs 1) s t → Owes LibraryAsks LibraryDoes rest Q t) → Owes LibraryAsks LibraryDoes (advance rest) Q s
advance_then {rest} {Q} {s} base small few rest_owes =
    let c = column_in s in
    let sum = (c + s.regs 1) % 2 ^ 32 in
    let high = sum * 2 ^ 16 % 2 ^ 32 in
    let x = advanced (s.regs 1) c in
    load_then column_at c (column_address (s.regs 11) base) refl refl (omega arith) (λ bound.
    set_then sum refl refl
    (set_then high refl (lsl-value 16 3 (put 3 sum (put 3 c s)) (omega arith) (omega arith) (omega arith))
    (set_then x refl (lsr-value 16 3 (put 3 high (put 3 sum (put 3 c s))) (omega arith) (omega arith) (omega arith) ∙ (let e : high / 2 ^ 16 ≡ x = omega (arith, small) in e))
    (store_then column_at x (column_address (s.regs 11) base) refl refl column_data
    (rest_owes _ (record { regs = kept c sum high x; mem = refl; out = refl; input = refl }))))))
  where
    kept : (x y z w k : ℕ) → (k ≡ 3 → ⊥) → updated (updated (updated (updated s.regs 3 x) 3 y) 3 z) 3 w k ≡ s.regs k
    kept x y z w k apart =
        updated-other (updated (updated (updated s.regs 3 x) 3 y) 3 z) 3 w k apart ∙ updated-other (updated (updated s.regs 3 x) 3 y) 3 z k apart
        ∙ updated-other (updated s.regs 3 x) 3 y k apart ∙ updated-other s.regs 3 x k apart

-- ---- spaces at the end

-- what is asked before the spaces of a part at a routine's end: what was written before them, and the column after them
pub record Ready (part : Part) (s u : Core) : Type 0 where
  pub back : u.regs 8 ≡ s.regs 14
  pub kept : (k : ℕ) → texts_register ≤ k → k ≤ stack_register → u.regs k ≡ s.regs k
  pub front : List ℕ
  pub out : u.out ≡ s.out ++ front
  pub all : front ++ spaces (u.regs 1) ≡ part_bytes part (column_in s)
  pub column : ℕ
  pub column_is : column ≡ column_after part (column_in s)
  pub column_fits : column < 2 ^ 32
  pub mem : u.mem ≡ put_word s.mem column_at column
  pub input : u.input ≡ s.input

pub run_ends : (part : Part) (s u : Core) → Ready part s u → Owes LibraryAsks LibraryDoes run_at_end (at_return (WritesPart part s) s) u
run_ends part s u ready =
    call_then (λ r low. tt)
    (λ r t low good d.
    set_then (s.regs 14) refl (d.kept 8 (omega arith) ∙ ready.back)
    (end_here (
      record {
        falls = refl;
        writes = record {
          out = d.out ∙ (λ i. ready.out i ++ spaces (u.regs 1)) ∙ append_assoc s.out ready.front (spaces (u.regs 1)) ∙ ap (λ l. s.out ++ l) ready.all;
          column_is = ap (λ m. word m column_at) (d.mem ∙ ready.mem) ∙ word-put_same s.mem column_at ready.column ready.column_fits ∙ ready.column_is;
          kept = λ k low high. updated-other t.regs 14 (s.regs 14) k (λ e. omega (arith, e, high)) ∙ d.kept k (omega (arith, low)) ∙ updated-other u.regs 14 r k (λ e. omega (arith, e, high)) ∙ ready.kept k low high;
          mem = λ a is. (λ i. (d.mem ∙ ready.mem) i a) ∙ with_column_mem s.mem ready.column a is;
          input = d.input ∙ ready.input;
        };
      },
      refl,
    )))
    (λ r l t low good d. absurd (let f = d.falls in cc))
