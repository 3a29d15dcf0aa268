-- A loaded board is a core at the image's first word.
use Rattle.std.proofs.Common.{◌≡◌, ℕ, zero, suc, ◌-◌, ◌/◌, ◌%◌, ◌^◌, ◌<◌, ◌≤◌, ◌==◌, nat_lt, nat_le, Bool, true, false, if◌then◌else◌, List, [], ◌∷◌, ◌++◌, length, replicate, flat_map, slice_index, refl, arith}
use Rattle.bv_base.specs.Bytes.{zeros}
use Rattle.bv_base.specs.Limits.{image_words}
use Rattle.bv_base.specs.MemoryMap.{image_start}
use Rattle.bv_base.specs.Words.{word_bytes}
use Rattle.arm2_alu.specs.Registers.{banked}
use Rattle.arm2_alu.proofs.RegisterLaws.{registers_of}
use Rattle.arm2_cpu.specs.Memory.{byte_at}
use Rattle.arm2_cpu.proofs.MemoryFunctions.{bytes_of}
use Rattle.arm2_machine.specs.Machine.{board_space, first_regs, loaded, loaded_ram}
use Rattle.arm2_machine.proofs.Memory.{loaded_ram_length}
use Rattle.arm_core.specs.Core.{IsAt, first_core}

-- every byte of a list is a byte
abbrev AreBytes : List ℕ → Type 0
AreBytes xs = (k : ℕ) → slice_index xs k < 2 ^ 8

bytes_after : (x : ℕ) (xs : List ℕ) → x < 2 ^ 8 → AreBytes xs → AreBytes (x ∷ xs)
bytes_after x xs small all zero = small
bytes_after x xs small all (suc k) = all k

bytes_replicate : (n : ℕ) → AreBytes (replicate n 0)
bytes_replicate zero = λ k. omega arith
bytes_replicate (suc n) = bytes_after 0 (replicate n 0) (omega arith) (bytes_replicate n)

bytes_zeros : (n : ℕ) → AreBytes (zeros n)
unfolding zeros
bytes_zeros n = bytes_replicate n

bytes_append : (xs ys : List ℕ) → AreBytes xs → AreBytes ys → AreBytes (xs ++ ys)
bytes_append [] ys all more = more
bytes_append (x ∷ xs) ys all more = bytes_after x (xs ++ ys) (all 0) (bytes_append xs ys (λ k. all (suc k)) more)

bytes_of_word : (w : ℕ) → AreBytes (word_bytes w)
bytes_of_word w =
    let b = w / 2 ^ 8 % 2 ^ 8 in
    let c = w / 2 ^ 16 % 2 ^ 8 in
    let d = w / 2 ^ 24 % 2 ^ 8 in
    bytes_after (w % 2 ^ 8) (b ∷ c ∷ d ∷ []) (omega arith)
    (bytes_after b (c ∷ d ∷ []) (omega arith) (bytes_after c (d ∷ []) (omega arith) (bytes_after d [] (omega arith) (λ k. omega arith))))

bytes_of_words : (words : List ℕ) → AreBytes (flat_map word_bytes words)
bytes_of_words [] = λ k. omega arith
bytes_of_words (w ∷ ws) = bytes_append (word_bytes w) (flat_map word_bytes ws) (bytes_of_word w) (bytes_of_words ws)

loaded_bytes : (words : List ℕ) → AreBytes (loaded_ram words)
unfolding loaded_ram
loaded_bytes words = bytes_append (zeros image_start) _ (bytes_zeros image_start) (bytes_append (flat_map word_bytes words) _ (bytes_of_words words) (bytes_zeros _))

function_bytes : (ram : List ℕ) → AreBytes ram → (a : ℕ) → bytes_of board_space ram a < 2 ^ 8
unfolding byte_at
function_bytes ram all a = each (nat_le 0 a)
  where
    each : (b : Bool) → (if b then slice_index ram (a - 0) else 0) < 2 ^ 8
    each true = all (a - 0)
    each false = omega arith

-- all registers are 0
zero_at : (n k : ℕ) → slice_index (replicate n 0) k ≡ 0
zero_at zero k = refl
zero_at (suc n) zero = refl
zero_at (suc n) (suc k) = zero_at n k

no_registers : registers_of first_regs ≡ (λ k. 0)
unfolding banked
no_registers = λ i k. each k (nat_lt k 15) (nat_lt k 13) (k == 13) i
  where
    each : (k : ℕ) (a b c : Bool) → (if a then (if b then slice_index (replicate 13 0) k else if c then (if true then 0 else 0) else (if true then 0 else 0)) else 0) ≡ 0
    each k true true c = zero_at 13 k
    each k true false true = refl
    each k true false false = refl
    each k false b c = refl

pub loaded-is : (words input : List ℕ) → length words ≤ image_words → AreBytes input → IsAt (first_core words input) image_start (loaded words input)
loaded-is words input short small = record {
  good = record { regs = λ k. omega arith; mem = function_bytes (loaded_ram words) (loaded_bytes words); input = small };
  regs = no_registers;
  psr = refl;
  mem = refl;
  input = refl;
  pc = refl;
  svc = refl;
  low = refl;
  ram = loaded_ram_length words short;
}
