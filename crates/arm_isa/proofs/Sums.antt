-- Fields that are joined by bits are added.
use Rattle.std.proofs.Common.{◌≡◌, ℕ, ◌+◌, ◌*◌, ◌^◌, ◌<◌, ◌%◌, ℤ, pos, negsuc, FitsSigned, refl, ap, ◌∙◌, arith, bit_and, bit_or}
use Rattle.std.proofs.lemmas.Nat.{and_mask}
use Rattle.std.proofs.lemmas.Int.{to_z-of_z}
use Rattle.std.specs.Int.{w32, cast_unsigned, cast_signed}
use Rattle.arm_isa.specs.Fields.{offset_field}
use Rattle.arm_isa.specs.Words.{FitsOffset}
use Rattle.arm_isa.proofs.FieldLemmas.{or_next}

pub data_sum : (c i o s n d p : ℕ) → i < 2 → o < 16 → s < 2 → n < 16 → d < 16 → p < 4096 → bit_or (bit_or (bit_or (bit_or (bit_or (bit_or (c * 2 ^ 28) (i * 2 ^ 25)) (o * 2 ^ 21)) (s * 2 ^ 20)) (n * 2 ^ 16)) (d * 2 ^ 12)) p ≡ c * 2 ^ 28 + i * 2 ^ 25 + o * 2 ^ 21 + s * 2 ^ 20 + n * 2 ^ 16 + d * 2 ^ 12 + p
data_sum c i o s n d p i2 o16 s2 n16 d16 p12 =
    or_next _ _ p 12
    (or_next _ _ (d * 2 ^ 12) 16
    (or_next _ _ (n * 2 ^ 16) 20
    (or_next _ _ (s * 2 ^ 20) 21
    (or_next _ _ (o * 2 ^ 21) 25
    (or_next (c * 2 ^ 28) (c * 2 ^ 28) (i * 2 ^ 25) 28 refl (omega arith) (omega arith))
    (omega arith) (omega arith)) (omega arith) (omega arith)) (omega arith) (omega arith)) (omega arith) (omega arith)) (omega arith) (omega arith)

pub multiply_sum : (c a s d n r m : ℕ) → a < 2 → s < 2 → d < 16 → n < 16 → r < 16 → m < 16 → bit_or (bit_or (bit_or (bit_or (bit_or (bit_or (bit_or (c * 2 ^ 28) (a * 2 ^ 21)) (s * 2 ^ 20)) (d * 2 ^ 16)) (n * 2 ^ 12)) (r * 2 ^ 8)) (9 * 2 ^ 4)) m ≡ c * 2 ^ 28 + a * 2 ^ 21 + s * 2 ^ 20 + d * 2 ^ 16 + n * 2 ^ 12 + r * 2 ^ 8 + 9 * 2 ^ 4 + m
multiply_sum c a s d n r m a2 s2 d16 n16 r16 m16 =
    or_next _ _ m 4
    (or_next _ _ (9 * 2 ^ 4) 8
    (or_next _ _ (r * 2 ^ 8) 12
    (or_next _ _ (n * 2 ^ 12) 16
    (or_next _ _ (d * 2 ^ 16) 20
    (or_next _ _ (s * 2 ^ 20) 21
    (or_next (c * 2 ^ 28) (c * 2 ^ 28) (a * 2 ^ 21) 28 refl (omega arith) (omega arith))
    (omega arith) (omega arith)) (omega arith) (omega arith)) (omega arith) (omega arith)) (omega arith) (omega arith)) (omega arith) (omega arith)) (omega arith) (omega arith)

pub transfer_sum : (p u b w l : ℕ) → p < 2 → u < 2 → b < 2 → w < 2 → l < 2 → bit_or (bit_or (bit_or (bit_or (p * 2 ^ 24) (u * 2 ^ 23)) (b * 2 ^ 22)) (w * 2 ^ 21)) (l * 2 ^ 20) ≡ p * 2 ^ 24 + u * 2 ^ 23 + b * 2 ^ 22 + w * 2 ^ 21 + l * 2 ^ 20
transfer_sum p u b w l p2 u2 b2 w2 l2 =
    or_next _ _ (l * 2 ^ 20) 21
    (or_next _ _ (w * 2 ^ 21) 22
    (or_next _ _ (b * 2 ^ 22) 23
    (or_next (p * 2 ^ 24) (p * 2 ^ 24) (u * 2 ^ 23) 24 refl (omega arith) (omega arith))
    (omega arith) (omega arith)) (omega arith) (omega arith)) (omega arith) (omega arith)

pub single_sum : (c r f n d o : ℕ) → r < 2 → f % 2 ^ 20 ≡ 0 → f < 2 ^ 25 → n < 16 → d < 16 → o < 4096 → bit_or (bit_or (bit_or (bit_or (bit_or (bit_or (c * 2 ^ 28) (1 * 2 ^ 26)) (r * 2 ^ 25)) f) (n * 2 ^ 16)) (d * 2 ^ 12)) o ≡ c * 2 ^ 28 + 1 * 2 ^ 26 + r * 2 ^ 25 + f + n * 2 ^ 16 + d * 2 ^ 12 + o
single_sum c r f n d o r2 f20 f25 n16 d16 o12 =
    or_next _ _ o 12
    (or_next _ _ (d * 2 ^ 12) 16
    (or_next _ _ (n * 2 ^ 16) 20
    (or_next _ _ f 25
    (or_next _ _ (r * 2 ^ 25) 26
    (or_next (c * 2 ^ 28) (c * 2 ^ 28) (1 * 2 ^ 26) 28 refl (omega arith) (omega arith))
    (omega arith) (omega arith)) (omega arith) (omega arith)) (omega arith) (omega arith)) (omega arith) (omega arith)) (omega arith) (omega arith)

pub block_sum : (c f n l : ℕ) → f % 2 ^ 20 ≡ 0 → f < 2 ^ 25 → n < 16 → l < 2 ^ 16 → bit_or (bit_or (bit_or (bit_or (c * 2 ^ 28) (4 * 2 ^ 25)) f) (n * 2 ^ 16)) l ≡ c * 2 ^ 28 + 4 * 2 ^ 25 + f + n * 2 ^ 16 + l
block_sum c f n l f20 f25 n16 l16 =
    or_next _ _ l 16
    (or_next _ _ (n * 2 ^ 16) 20
    (or_next _ _ f 25
    (or_next (c * 2 ^ 28) (c * 2 ^ 28) (4 * 2 ^ 25) 28 refl (omega arith) (omega arith))
    (omega arith) (omega arith)) (omega arith) (omega arith)) (omega arith) (omega arith)

pub branch_sum : (c l d : ℕ) → l < 2 → d < 2 ^ 24 → bit_or (bit_or (bit_or (c * 2 ^ 28) (5 * 2 ^ 25)) (l * 2 ^ 24)) d ≡ c * 2 ^ 28 + 5 * 2 ^ 25 + l * 2 ^ 24 + d
branch_sum c l d l2 d24 =
    or_next _ _ d 24
    (or_next _ _ (l * 2 ^ 24) 25
    (or_next (c * 2 ^ 28) (c * 2 ^ 28) (5 * 2 ^ 25) 28 refl (omega arith) (omega arith))
    (omega arith) (omega arith)) (omega arith) (omega arith)

pub swi_sum : (c n : ℕ) → n < 2 ^ 24 → bit_or (bit_or (c * 2 ^ 28) (15 * 2 ^ 24)) n ≡ c * 2 ^ 28 + 15 * 2 ^ 24 + n
swi_sum c n n24 =
    or_next _ _ n 24
    (or_next (c * 2 ^ 28) (c * 2 ^ 28) (15 * 2 ^ 24) 28 refl (omega arith) (omega arith))
    (omega arith) (omega arith)

-- the low 24 bits of a distance
pub distance_bits : (z : ℤ) → FitsOffset z → FitsSigned w32 z → bit_and (cast_unsigned w32 (cast_signed w32 (cast_unsigned w32 z))) 16777215 ≡ offset_field z
distance_bits z fits word =
    ap (λ n. bit_and n 16777215) (ap (cast_unsigned w32) (to_z-of_z w32 z word))
    ∙ and_mask (cast_unsigned w32 z) 24 ∙ low z fits
  where
    low : (z : ℤ) → FitsOffset z → cast_unsigned w32 z % 2 ^ 24 ≡ offset_field z
    low (pos n) fits = omega (arith, fits)
    low (negsuc n) fits = omega (arith, fits)
