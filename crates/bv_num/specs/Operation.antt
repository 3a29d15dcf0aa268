-- The operators on the integers of BBC BASIC V (BBC BASIC Reference Manual, operators): arithmetic, bits, comparisons.
-- That every result past 32 bits is an error is this project's own.
use Rattle.std.specs.Prelude.{◌/◌, ◌%◌, ◌^◌, ◌==◌, ℕ, Bool, true, false, not, ◌&&◌, ℤ, pos, negsuc, ◌+ℤ◌, ◌-ℤ◌, ◌*ℤ◌, neg_ℤ, unsigned_abs, int_lt, int_le, Result, Ok, Err, if◌then◌else◌}
use Rattle.std.specs.Int.Bits.{bit_and, bit_or, bit_xor}
use Rattle.std.specs.Ordering.{int_eq}
use Rattle.bv_num.specs.Bits.{bitwise}

-- the error "division by zero"
abbrev pub division_by_zero : ℕ
division_by_zero = 18

-- the error "number too big"
abbrev pub too_big : ℕ
too_big = 20

-- the operations on two numbers: + - * DIV MOD, AND OR EOR, = <> < > <= >=
pub data Operation : Type 0 where
  Add Subtract Multiply Divide Remainder : Operation
  And Or Eor : Operation
  Equal NotEqual Less Greater LessOrEqual GreaterOrEqual : Operation

-- the one test of range: an integer from -2^31 to 2^31 - 1 is the answer, and any other is the error "number too big"
abbrev pub in_range : ℤ → Result ℤ ℕ
in_range z = if int_le (neg_ℤ (pos (2 ^ 31))) z && int_lt z (pos (2 ^ 31)) then Ok z else Err too_big

-- whether an integer is below zero: `negsuc n` is -(n + 1)
abbrev pub is_negative : ℤ → Bool
is_negative (pos n) = false
is_negative (negsuc n) = true

-- the integer of a magnitude, negative or not
abbrev pub with_sign : Bool → ℕ → ℤ
with_sign true n = neg_ℤ (pos n)
with_sign false n = pos n

-- one of two, and not both
abbrev pub differ : Bool → Bool → Bool
differ true other = not other
differ false other = other

-- DIV, rounded towards zero: the quotient of the magnitudes, negative where the signs differ
abbrev pub quotient : ℤ → ℤ → ℤ
quotient a b = with_sign (differ (is_negative a) (is_negative b)) (unsigned_abs a / unsigned_abs b)

-- MOD: the remainder of the magnitudes, with the dividend's sign
abbrev pub remainder : ℤ → ℤ → ℤ
remainder a b = with_sign (is_negative a) (unsigned_abs a % unsigned_abs b)

-- a truth value: TRUE is -1 and FALSE is 0
abbrev pub truth : Bool → ℤ
truth true = negsuc 0
truth false = pos 0

-- the exact result over the unbounded integers
abbrev pub exact : Operation → ℤ → ℤ → ℤ
exact Add a b = a +ℤ b
exact Subtract a b = a -ℤ b
exact Multiply a b = a *ℤ b
exact Divide a b = quotient a b
exact Remainder a b = remainder a b
exact And a b = bitwise bit_and a b
exact Or a b = bitwise bit_or a b
exact Eor a b = bitwise bit_xor a b
exact Equal a b = truth (int_eq a b)
exact NotEqual a b = truth (not (int_eq a b))
exact Less a b = truth (int_lt a b)
exact Greater a b = truth (int_lt b a)
exact LessOrEqual a b = truth (int_le a b)
exact GreaterOrEqual a b = truth (int_le b a)

-- DIV and MOD divide
abbrev pub divides : Operation → Bool
divides Divide = true
divides Remainder = true
divides op = false

-- an operation: the error "division by zero" for a zero divisor, and else its exact result where that is in range
abbrev pub operation : Operation → ℤ → ℤ → Result ℤ ℕ
operation op a b = if divides op && (unsigned_abs b == 0) then Err division_by_zero else in_range (exact op a b)

-- unary minus
abbrev pub negated : ℤ → Result ℤ ℕ
negated a = in_range (neg_ℤ a)

-- NOT: -1 - a, which has each bit of a turned
abbrev pub complement : ℤ → ℤ
complement (pos n) = negsuc n
complement (negsuc n) = pos n

-- ABS
abbrev pub magnitude : ℤ → Result ℤ ℕ
magnitude a = in_range (pos (unsigned_abs a))
