-- Parts that the routines on open loops and GOSUBs have in common: registers that are kept, addresses, and the address after the
-- entries.
use Rattle.std.proofs.Common.{◌≡◌, ℕ, ◌+◌, ◌-◌, ◌%◌, ◌^◌, ◌<◌, ◌≤◌, ◌⊎◌, inl, inr, refl, ◌∙◌, arith}
use Rattle.arm2_alu.proofs.RegisterLaws.{updated}
use Rattle.arm_core.specs.Core.{Core, put}
use Rattle.arm_core.proofs.MemoryWords.{updated-other}
use Rattle.arm_core.proofs.ShiftedOperands.{lsl-value}
use Rattle.code_frag.specs.Demands.{Post, Falls, Owes}
use Rattle.code_frag.specs.Language.{Piece}
use Rattle.code_frag.specs.Places.{IsData}
use Rattle.code_frag.specs.Regions.{residents_start, opened_count_at, depth_at, opened_start}
use Rattle.code_frag.proofs.Rules.{set_then}
use Rattle.runtime_lib.specs.Entries.{LibraryAsks, LibraryDoes}
use Rattle.runtime_lib.specs.Loops.{after_entries}
use Rattle.runtime_lib.specs.Opened.{most_entries, entry_at, IsApart, ComesBack}

-- ---- registers

-- R0 and those from R8 on are as they were
abbrev pub KeepsOthers : (ℕ → ℕ) → (ℕ → ℕ) → Type 0
KeepsOthers f g = (k : ℕ) → (k < 1) ⊎ (7 < k) → f k ≡ g k

-- and where another one takes a value
pub others_kept : (f g : ℕ → ℕ) (n x : ℕ) → 1 ≤ n → n ≤ 7 → KeepsOthers f g → KeepsOthers (updated f n x) g
others_kept f g n x low high kept k (inl below) = updated-other f n x k (λ e. omega (arith, e, below, low)) ∙ kept k (inl below)
others_kept f g n x low high kept k (inr above) = updated-other f n x k (λ e. omega (arith, e, above, high)) ∙ kept k (inr above)

-- a core as it was but for R1 to R7, flags and memory
pub record Others (s t : Core) : Type 0 where
  pub regs : KeepsOthers t.regs s.regs
  pub out : t.out ≡ s.out
  pub input : t.input ≡ s.input

pub comes-back : (s t : Core) → Others s t → ComesBack s Falls t
comes-back s t o = record {
  falls = refl;
  first = o.regs 0 (inl (omega arith));
  kept = λ k low high. o.regs k (inr (omega (arith, low)));
  out = o.out;
  input = o.input;
}

-- ---- addresses

-- a byte that is apart from a row of words is apart from each
pub part-apart : (a b at size all : ℕ) → a ≤ at → at + size ≤ a + all → IsApart a all b → IsApart at size b
part-apart a b at size all low high (inl below) = inl (omega (arith, below, low))
part-apart a b at size all low high (inr above) = inr (omega (arith, above, high))

-- the words of the count and of the depth, by the residents' register
pub count_address : (x : ℕ) → x ≡ residents_start → (x + 112) % 2 ^ 32 ≡ opened_count_at
count_address x is = omega (arith, is)

pub depth_address : (x : ℕ) → x ≡ residents_start → (x + 116) % 2 ^ 32 ≡ depth_at
depth_address x is = omega (arith, is)

-- the count's word is data
pub count_data : IsData opened_count_at 4
count_data = inr (omega arith, omega arith)

-- an entry's words, by the entry's address
pub first_word : (x k : ℕ) → x ≡ entry_at k → k < most_entries → (x + 0) % 2 ^ 32 ≡ entry_at k
first_word x k is few = omega (arith, is, few)

pub word_above : (x k offset : ℕ) → x ≡ entry_at k → k < most_entries → offset < 32 → (x + offset) % 2 ^ 32 ≡ entry_at k + offset
word_above x k offset is few low = omega (arith, is, few, low)

-- and by the address after the entry
pub first_below : (x k : ℕ) → x ≡ entry_at k + 32 → k < most_entries → (x + (2 ^ 32 - 32)) % 2 ^ 32 ≡ entry_at k
first_below x k is few = omega (arith, is, few)

pub word_below : (x k offset : ℕ) → x ≡ entry_at k + 32 → k < most_entries → offset < 32 → (x + (2 ^ 32 - offset)) % 2 ^ 32 ≡ entry_at k + (32 - offset)
word_below x k offset is few low = omega (arith, is, few, low)

-- they are data
pub first_data : (k : ℕ) → k < most_entries → IsData (entry_at k) 4
first_data k few = inr (omega arith, omega (arith, few))

pub entry_data : (k offset : ℕ) → k < most_entries → offset ≤ 28 → IsData (entry_at k + offset) 4
entry_data k offset few low = inr (omega arith, omega (arith, few, low))

-- ---- the address after the entries

pub after_entries_then : {rest : Piece} {Q : Post} {s : Core} (n : ℕ) → s.regs 5 ≡ n → n ≤ most_entries → Owes LibraryAsks LibraryDoes rest Q (put 6 (entry_at n) (put 6 opened_start (put 6 0xbc0000 s)))
    → Owes LibraryAsks LibraryDoes (after_entries rest) Q s
after_entries_then {rest} {Q} {s} n five few owes =
    set_then 0xbc0000 refl refl
    (set_then opened_start refl refl
    (set_then (entry_at n) refl ((λ i. (opened_start + lsl-value 5 5 s (omega arith) (omega arith) (omega arith) i) % 2 ^ 32) ∙ omega (arith, five, few)) owes))
