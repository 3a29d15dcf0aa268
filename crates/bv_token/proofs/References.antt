-- References to lines, and reading them back.
use Rattle.std.proofs.Common.{◌≡◌, ℕ, ◌+◌, ◌*◌, ◌/◌, ◌%◌, ◌<◌, ◌≤◌, Bool, true, ◌&&◌, ◌==◌, nat_le, nat_lt, List, slice_index, bit_and, refl, ◌∙◌, arith, eqb-true, leb-true, ltb-true}
use Rattle.std.specs.List.{AllByRecursion}
use Rattle.std.proofs.lemmas.Bool.{and_parts}
use Rattle.std.proofs.lemmas.Nat.{and_mod, and_le_r}
use Rattle.bv_token.specs.References.{reference_of_bytes, referred}
use Rattle.bv_base.proofs.Computed.{all_below, all_below-at}

-- the top bits of a byte's place are those of the whole number
pub top_of_byte : (n : ℕ) → bit_and (n % 256) 192 ≡ bit_and n 192
top_of_byte n = let small : bit_and n 192 ≤ 192 = and_le_r n 192 in let part : bit_and n 192 % 256 ≡ bit_and (n % 256) 192 = and_mod n 192 8 in omega (arith, small, part)

-- the line number of a reference
abbrev number_of : List ℕ → ℕ
number_of bytes = referred (slice_index bytes 0) (slice_index bytes 1) (slice_index bytes 2)

-- a byte in the range of references
abbrev in_range : ℕ → Bool
in_range byte = nat_le 64 byte && nat_lt byte 128

abbrev is_sound : ℕ → ℕ → Bool
is_sound low high =
    let bytes = reference_of_bytes low high in
    number_of bytes == high * 256 + low && (in_range (slice_index bytes 0) && (in_range (slice_index bytes 1) && in_range (slice_index bytes 2)))

all_sound : all_below 256 (λ low. all_below 256 (is_sound low)) ≡ true
all_sound = refl

sound : (low high : ℕ) → low < 256 → high < 256 → is_sound low high ≡ true
sound low high small_low small_high = all_below-at 256 (is_sound low) (all_below-at 256 (λ l. all_below 256 (is_sound l)) all_sound low small_low) high small_high

-- a reference gives its line's number
pub reads_back : (low high number : ℕ) → low ≡ number % 256 → high ≡ number / 256 % 256 → number < 65536 → number_of (reference_of_bytes low high) ≡ number
reads_back low high number is_low is_high small =
    eqb-true _ _ (and_parts _ _ (sound low high (omega (arith, is_low)) (omega (arith, is_high)))).0 ∙ omega (arith, is_low, is_high, small)

is_in_range : (byte : ℕ) → in_range byte ≡ true → (64 ≤ byte) × (byte < 128)
is_in_range byte e = let both = and_parts _ _ e in (leb-true 64 byte both.0, ltb-true byte 128 both.1)

-- the bytes of a reference are in its range
pub all_in_range : (low high number : ℕ) → low ≡ number % 256 → high ≡ number / 256 % 256 → AllByRecursion (λ byte. (64 ≤ byte) × (byte < 128)) (reference_of_bytes low high)
all_in_range low high number is_low is_high =
    let first = and_parts _ _ (and_parts _ _ (sound low high (omega (arith, is_low)) (omega (arith, is_high)))).1 in
    let others = and_parts _ _ first.1 in
    (is_in_range _ first.0, (is_in_range _ others.0, (is_in_range _ others.1, tt)))
