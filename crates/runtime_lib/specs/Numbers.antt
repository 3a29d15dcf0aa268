-- The routines on numbers: the division of words, the product, DIV and MOD, as pieces. This project's own.
use Rattle.std.specs.Prelude.{ℕ, Bool, true, false}
use Rattle.arm_isa.specs.declared.instruction.Instr.TheVariants.{Data}
use Rattle.arm_isa.specs.Numbers.{SUB, ADD, ADC, CMP, EQ, NE, CS, CC, HI}
use Rattle.bv_num.specs.Operation.{division_by_zero, too_big}
use Rattle.code_frag.specs.Instructions.{num, reg, lsl, lsr, process_flags, process_if, mov, add, sub, rsb, adds, subs, cmp, mul}
use Rattle.code_frag.specs.Language.{Piece, Skip, Do, If, When, Repeat, Call, ◌⨾◌}
use Rattle.runtime_lib.specs.Entries.{Division, label_of}

-- ---- the division of words

-- where the divisor in R1 goes into the remainder in R2, it is subtracted, and the quotient's bit in R0 is 1
abbrev pub division_subtracts : Piece → Piece
division_subtracts rest = process_if CS SUB 2 2 (reg 1) ⨾ process_if CS ADD 0 0 (num 1) ⨾ rest

-- whether it does: the carry out of the remainder is a bit of it, and then there is no need to compare, so no divisor is too great
abbrev pub division_compares : Piece → Piece
division_compares rest = Do (Data CC false CMP true 2 0 1) ⨾ division_subtracts rest

-- one bit of the quotient: the dividend's highest bit goes from R0 into the remainder in R2, and the quotient's comes into R0 from
-- below
abbrev pub division_bit : Piece → Piece
division_bit rest = adds 0 0 (reg 0) ⨾ process_flags ADC 2 2 (reg 2) ⨾ division_compares rest

-- four bits, and one turn less
abbrev pub division_turn : Piece
division_turn = division_bit (division_bit (division_bit (division_bit (subs 3 3 (num 1) ⨾ Skip))))

-- R0 divided by R1: the quotient in R0, and the remainder in R1
abbrev pub division : Piece
division = mov 2 (num 0) ⨾ mov 3 (num 8) ⨾ Repeat division_turn NE ⨾ mov 1 (reg 2) ⨾ Skip

-- ---- operations on signed numbers

-- the immediate 2^31
abbrev pub top_bit : ℕ
top_bit = 0x102

-- the immediate 2^16
abbrev pub half_word : ℕ
half_word = 0x801

-- R0 and R1 change places
abbrev pub exchange : Piece
exchange = mov 2 (reg 0) ⨾ mov 0 (reg 1) ⨾ mov 1 (reg 2) ⨾ Skip

-- the sign turns, or it doesn't
abbrev pub turn_sign : Bool → Piece
turn_sign true = rsb 5 5 (num 1) ⨾ Skip
turn_sign false = Skip

-- The operands without their signs, the left one, from R1, in R0, and the right one in R1. R5 is 1 for a negative left operand,
-- else 0; and that turns for a negative right one, where the sign is that of both.
abbrev pub magnitudes : Bool → Piece
magnitudes of_both =
    mov 5 (num 0) ⨾ cmp 1 (num top_bit) ⨾ When CS (rsb 1 1 (num 0) ⨾ mov 5 (num 1) ⨾ Skip)
    ⨾ cmp 0 (num top_bit) ⨾ When CS (rsb 0 0 (num 0) ⨾ turn_sign of_both)
    ⨾ exchange

-- what comes back of a magnitude in R0 where the number is negative: the number; or the error "number too big" in R1
abbrev pub negative_answer : Piece
negative_answer = cmp 0 (num top_bit) ⨾ When HI (mov 1 (num too_big) ⨾ Skip) ⨾ rsb 0 0 (num 0) ⨾ Skip

-- and where it isn't negative
abbrev pub positive_answer : Piece
positive_answer = cmp 0 (num top_bit) ⨾ When CS (mov 1 (num too_big) ⨾ Skip) ⨾ Skip

-- one of them by the sign in R5, with 0 in R1 where there is no error
abbrev pub answer : Piece
answer = mov 1 (num 0) ⨾ cmp 5 (num 0) ⨾ If NE negative_answer positive_answer ⨾ Skip

-- DIV: the quotient of the magnitudes, negative where the signs differ
abbrev pub quotient : Piece
quotient =
    cmp 0 (num 0)
    ⨾ If EQ (mov 1 (num division_by_zero) ⨾ Skip)
    (mov 4 (reg 14) ⨾ magnitudes true ⨾ Call (label_of Division) ⨾ answer ⨾ mov 14 (reg 4) ⨾ Skip)
    ⨾ Skip

-- MOD: the remainder of the magnitudes, negative where the left operand is
abbrev pub modulus : Piece
modulus =
    cmp 0 (num 0)
    ⨾ If EQ (mov 1 (num division_by_zero) ⨾ Skip)
    (mov 4 (reg 14) ⨾ magnitudes false ⨾ Call (label_of Division) ⨾ mov 0 (reg 1) ⨾ answer ⨾ mov 14 (reg 4) ⨾ Skip)
    ⨾ Skip

-- The product of a number in R0 and a lesser one below 2^16 in R1. It is too big where the number's halves, times the lesser
-- one, give 2^16 times 2^16 or more.
abbrev pub product_by_halves : Piece
product_by_halves =
    mov 2 (lsr 0 16) ⨾ sub 3 0 (lsl 2 16) ⨾ mul 6 2 1 ⨾ mul 7 3 1 ⨾ add 6 6 (lsr 7 16) ⨾ cmp 6 (num half_word)
    ⨾ If CS (mov 1 (num too_big) ⨾ Skip) (mul 2 0 1 ⨾ mov 0 (reg 2) ⨾ answer) ⨾ Skip

-- The product of the magnitudes, the greater one in R0. Where the lesser one isn't below 2^16, it is too big.
abbrev pub product : Piece
product =
    magnitudes true ⨾ cmp 0 (reg 1) ⨾ When CC exchange
    ⨾ cmp 1 (num half_word) ⨾ If CS (mov 1 (num too_big) ⨾ Skip) product_by_halves ⨾ Skip
