-- The fields that give a number.
use Rattle.std.proofs.Common.{◌≡◌, ℕ, ◌+◌, ◌*◌, ◌/◌, ◌%◌, ◌^◌, ◌<◌, sym, ap, subst, ◌∙◌, arith, bit_or}
use Rattle.std.specs.Int.{w32, rotate_left}
use Rattle.arm_isa.specs.Fields.{bits}
use Rattle.arm_isa.specs.Immediates.{rotated, turns_of, immediate_value, Gives}
use Rattle.arm_isa.proofs.FieldLemmas.{or_above}
use Rattle.arm_isa.proofs.Rotations.{rotated-rotate_left, rotate_left-rotated, rotated-lt}

-- a field by its two parts
field_parts : (turns byte : ℕ) → turns < 16 → byte < 256 → bit_or (turns * 256 % 2 ^ 32) byte ≡ turns * 256 + byte
field_parts turns byte few small =
    let whole : turns * 256 % 2 ^ 32 ≡ turns * 256 = omega (arith, few) in
    ap (λ n. bit_or n byte) whole ∙ or_above (turns * 256) byte 8 (omega arith) small

-- a field that is written as its two parts gives its byte, turned
pub gives_field : (turns byte : ℕ) → turns < 16 → byte < 256 → Gives (turns * 2 ^ 8 + byte) (rotated byte (2 * turns))
gives_field turns byte few small =
    let high : bits (turns * 2 ^ 8 + byte) 11 8 ≡ turns = omega (arith, few, small) in
    let low : bits (turns * 2 ^ 8 + byte) 7 0 ≡ byte = omega (arith, small) in
    record { range = omega (arith, few, small); value = λ i. rotated (low i) (2 * high i) }

-- the same, for a number that is equal to it
pub gives_by_parts : (turns byte n : ℕ) → turns < 16 → byte < 256 → rotated byte (2 * turns) ≡ n → Gives (turns * 2 ^ 8 + byte) n
gives_by_parts turns byte n few small is =
    let gives = gives_field turns byte few small in
    record { range = gives.range; value = gives.value ∙ is }

-- a byte gives itself
pub immediate_value-byte : (n : ℕ) → n < 256 → immediate_value n ≡ n
immediate_value-byte n small =
    let low : bits n 7 0 ≡ n = omega (arith, small) in
    let high : bits n 11 8 ≡ 0 = omega (arith, small) in
    (λ i. rotated (low i) (2 * high i)) ∙ omega arith

-- the fields that give a byte at each of the four places of a word
pub gives_byte_0 : (byte : ℕ) → byte < 256 → Gives byte byte
gives_byte_0 byte small = record { range = omega (arith, small); value = immediate_value-byte byte small }

pub gives_byte_1 : (byte : ℕ) → byte < 256 → Gives (12 * 2 ^ 8 + byte) (byte * 2 ^ 8)
gives_byte_1 byte small = gives_by_parts 12 byte (byte * 2 ^ 8) (omega arith) small (omega (arith, small))

pub gives_byte_2 : (byte : ℕ) → byte < 256 → Gives (8 * 2 ^ 8 + byte) (byte * 2 ^ 16)
gives_byte_2 byte small = gives_by_parts 8 byte (byte * 2 ^ 16) (omega arith) small (omega (arith, small))

pub gives_byte_3 : (byte : ℕ) → byte < 256 → Gives (4 * 2 ^ 8 + byte) (byte * 2 ^ 24)
gives_byte_3 byte small = gives_by_parts 4 byte (byte * 2 ^ 24) (omega arith) small (omega (arith, small))

-- a word is the sum of the four bytes that it is written as, each at its place
pub sum_of_bytes : (n : ℕ) → n < 2 ^ 32 → n % 2 ^ 8 + n / 2 ^ 8 % 2 ^ 8 * 2 ^ 8 + n / 2 ^ 16 % 2 ^ 8 * 2 ^ 16 + n / 2 ^ 24 % 2 ^ 8 * 2 ^ 24 ≡ n
sum_of_bytes n small = omega (arith, small)

-- the field that the code makes gives the number
pub gives_turned : (n turns byte field : ℕ) → n < 2 ^ 32 → turns < 16 → byte ≡ rotate_left w32 n (2 * turns) → byte < 256 → field ≡ bit_or (turns * 256 % 2 ^ 32) byte → Gives field n × (turns_of field ≡ turns)
gives_turned n turns byte field word few is small made =
    let sum : field ≡ turns * 2 ^ 8 + byte = made ∙ field_parts turns byte few small in
    let high : turns_of field ≡ turns = omega (arith, sum, few, small) in
    let value : rotated byte (2 * turns) ≡ n = ap (λ b. rotated b (2 * turns)) is ∙ rotated-rotate_left n (2 * turns) word (omega (arith, few)) in
    (subst (λ f. Gives f n) (sym sum) (gives_by_parts turns byte n few small value), high)

-- a field that gives the number has the byte that the code makes
pub byte_of_field : (n turns field : ℕ) → n < 2 ^ 32 → turns < 16 → Gives field n → turns_of field ≡ turns → rotate_left w32 n (2 * turns) < 256
byte_of_field n turns field word few gives is =
    let byte : bits field 7 0 < 256 = omega arith in
    let value : rotated (bits field 7 0) (2 * turns) ≡ n = ap (λ t. rotated (bits field 7 0) (2 * t)) (sym is) ∙ gives.value in
    let same = rotate_left-rotated n (bits field 7 0) (2 * turns) (omega (arith, byte)) (omega (arith, few)) value word in
    omega (arith, same, byte)

-- the value of a field is a word
pub immediate_value-lt : (field : ℕ) → immediate_value field < 2 ^ 32
immediate_value-lt field = rotated-lt (bits field 7 0) (2 * turns_of field) (omega arith) (omega arith)
