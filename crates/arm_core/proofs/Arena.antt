-- The arena of a board is what a core has there.
use Rattle.std.proofs.Common.{◌≡◌, ℕ, zero, suc, ◌+◌, ◌-◌, ◌<◌, ◌≤◌, List, [], ◌∷◌, length, take, drop, slice_index, refl, sym, ap, ◌∙◌, arith}
use Rattle.std.proofs.lemmas.List.{ext_get_or, get_or-take, get_or-drop, length-take-le, length-drop}
use Rattle.bv_base.specs.MemoryMap.{arena_start, arena_end, arena_bytes}
use Rattle.arm2_cpu.specs.Memory.{byte_at}
use Rattle.arm2_machine.specs.Machine.{Machine, arena_of}
use Rattle.arm_core.specs.Core.{Core, IsAt}
use Rattle.arm_core.proofs.States.{reads-byte}

-- two lists of one length that are the same at each index from k up to k + n have the same part there
same_part : (n k : ℕ) (xs ys : List ℕ) → length xs ≡ length ys → ((i : ℕ) → k ≤ i → i < k + n → slice_index xs i ≡ slice_index ys i) → take n (drop k xs) ≡ take n (drop k ys)
same_part zero k xs ys long same = refl
same_part (suc n) zero [] [] long same = refl
same_part (suc n) zero [] (y ∷ ys) long same = absurd (omega (arith, long))
same_part (suc n) zero (x ∷ xs) [] long same = absurd (omega (arith, long))
same_part (suc n) zero (x ∷ xs) (y ∷ ys) long same =
    let first : x ≡ y = same 0 (omega arith) (omega arith) in
    let rest = same_part n 0 xs ys (omega (arith, long)) (λ i low high. same (suc i) (omega arith) (omega (arith, high))) in
    (λ i. first i ∷ rest i)
same_part (suc n) (suc k) [] [] long same = refl
same_part (suc n) (suc k) [] (y ∷ ys) long same = absurd (omega (arith, long))
same_part (suc n) (suc k) (x ∷ xs) [] long same = absurd (omega (arith, long))
same_part (suc n) (suc k) (x ∷ xs) (y ∷ ys) long same = same_part (suc n) k xs ys (omega (arith, long)) (λ i low high. same (suc i) (omega (arith, low)) (omega (arith, high)))

pub byte_of : (s : Core) (pc : ℕ) (m : Machine) → IsAt s pc m → (a : ℕ) → slice_index m.ram a ≡ s.mem a
unfolding byte_at
byte_of s pc m is a = ap (slice_index m.ram) (let e : a ≡ a - 0 = omega arith in e) ∙ reads-byte s pc m is a

-- two boards whose cores have the same arena
pub arena-same : (s t : Core) (pc to : ℕ) (m n : Machine) → IsAt s pc m → IsAt t to n → ((a : ℕ) → arena_start ≤ a → a < arena_end → t.mem a ≡ s.mem a) → arena_of n.ram ≡ arena_of m.ram
unfolding arena_of
arena-same s t pc to m n is at same =
    same_part arena_bytes arena_start n.ram m.ram (at.ram ∙ sym is.ram)
    (λ i low high. byte_of t to n at i ∙ same i low (omega (arith, high)) ∙ sym (byte_of s pc m is i))

-- the arena of a board whose core has these bytes there
pub arena-is : (s : Core) (pc : ℕ) (m : Machine) (bytes : List ℕ) → IsAt s pc m → length bytes ≡ arena_bytes → ((k : ℕ) → k < arena_bytes → s.mem (arena_start + k) ≡ slice_index bytes k) → arena_of m.ram ≡ bytes
unfolding arena_of
arena-is s pc m bytes is long has =
    let all = is.ram in
    let rest = length-drop arena_start m.ram in
    let whole : length (take arena_bytes (drop arena_start m.ram)) ≡ arena_bytes = length-take-le arena_bytes (drop arena_start m.ram) (omega (arith, rest, all)) in
    ext_get_or 0 (take arena_bytes (drop arena_start m.ram)) bytes (whole ∙ sym long)
    (λ i low.
    let inside : i < arena_bytes = omega (arith, low, whole) in
    get_or-take arena_bytes (drop arena_start m.ram) i 0 inside ∙ get_or-drop arena_start m.ram i 0 ∙ byte_of s pc m is (arena_start + i) ∙ has i inside)
