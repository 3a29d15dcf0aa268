-- The routines on the items of DATA, as pieces. This project's own.
use Rattle.std.specs.Prelude.{ℕ}
use Rattle.arm_isa.specs.Numbers.{ADD, SUB, MOV, EQ, CS, CC}
use Rattle.bas_value.specs.Errors.{out_of_data}
use Rattle.bv_num.specs.Operation.{too_big}
use Rattle.code_frag.specs.Instructions.{num, reg, process_if, mov, add, sub, cmp, mul, ldr, str, ldrb}
use Rattle.code_frag.specs.Language.{Piece, Skip, If, When, While, ◌⨾◌}
use Rattle.code_frag.specs.Regions.{base_register}
use Rattle.runtime_lib.specs.Data.{end_mark}
use Rattle.runtime_lib.specs.Numbers.{answer}

-- ---- the next item

-- where the address of the next item stands, from the residents on
abbrev pub item_offset : ℕ
item_offset = 120

-- the word is moved past the item at R0, whose length is in R2
abbrev pub passes_item : Piece
passes_item = add 2 2 (reg 0) ⨾ add 2 2 (num 1) ⨾ str 2 base_register item_offset ⨾ mov 1 (num 0) ⨾ Skip

abbrev pub next_item : Piece
next_item = ldr 0 base_register item_offset ⨾ ldrb 2 0 0 ⨾ cmp 2 (num end_mark) ⨾ If EQ (mov 1 (num out_of_data) ⨾ Skip) passes_item ⨾ Skip

-- ---- an item's number: R2 leads to the next byte, and R8 is the address after the last one

-- that byte in R3, or 0 where there is none
abbrev pub peeks : Piece → Piece
peeks rest = mov 3 (num 0) ⨾ cmp 2 (reg 8) ⨾ When CC (ldrb 3 2 0 ⨾ Skip) ⨾ rest

abbrev pub steps_on : Piece
steps_on = add 2 2 (num 1) ⨾ Skip

-- past spaces
abbrev pub spaces_test : Piece
spaces_test = peeks (cmp 3 (num 32) ⨾ Skip)

abbrev pub skips_spaces : Piece → Piece
skips_spaces rest = While spaces_test EQ steps_on ⨾ rest

-- past the sign in R3, if it is one: a plus sign, or any; R5 is 1 for a minus sign, else 0
abbrev pub takes_plus : Piece → Piece
takes_plus rest = cmp 3 (num 43) ⨾ process_if EQ ADD 2 2 (num 1) ⨾ rest

abbrev pub takes_sign : Piece → Piece
takes_sign rest = mov 5 (num 0) ⨾ cmp 3 (num 45) ⨾ process_if EQ MOV 5 0 (num 1) ⨾ process_if EQ ADD 2 2 (num 1) ⨾ takes_plus rest

-- the digit's value of the byte in R3 that is a capital letter, if it is one, in R4, or a number of 16 or more
abbrev pub takes_capital : Piece
takes_capital = sub 4 3 (num 65) ⨾ cmp 3 (num 65) ⨾ process_if CS ADD 4 4 (num 10) ⨾ Skip

-- and of a letter
abbrev pub takes_letter : Piece
takes_letter = cmp 3 (num 97) ⨾ process_if CS SUB 3 3 (num 32) ⨾ takes_capital

-- and of any byte
abbrev pub takes_digit : Piece → Piece
takes_digit rest = sub 4 3 (num 48) ⨾ cmp 4 (num 10) ⨾ When CS takes_letter ⨾ rest

-- The digits of the base in R6 from there on: their value in R0, and 0 in R1. Where the digits before one reach the bound in R7, the
-- error "number too big" is in R1.
abbrev pub digits_test : Piece
digits_test = peeks (takes_digit (cmp 4 (reg 6) ⨾ Skip))

abbrev pub digits_turn : Piece
digits_turn = cmp 0 (reg 7) ⨾ process_if CS MOV 1 0 (num too_big) ⨾ mul 3 0 6 ⨾ add 0 3 (reg 4) ⨾ steps_on

abbrev pub reads_digits : Piece → Piece
reads_digits rest = While digits_test CC digits_turn ⨾ rest

-- after `&`: the bound is 2^28, the immediate &201
abbrev pub begins_hexadecimal : Piece
begins_hexadecimal = add 2 2 (num 1) ⨾ mov 6 (num 16) ⨾ mov 7 (num 0x201) ⨾ Skip

-- else: the bound is 214748365, the sum of four immediates
abbrev pub begins_decimal : Piece
begins_decimal = skips_spaces (takes_sign (mov 6 (num 10) ⨾ mov 7 (num 0x6cc) ⨾ add 7 7 (num 0xacc) ⨾ add 7 7 (num 0xecc) ⨾ add 7 7 (num 13) ⨾ Skip))

-- the number of a value in R0: in hexadecimal the value itself
abbrev pub ends_number : Piece
ends_number = cmp 1 (num 0) ⨾ When EQ (cmp 6 (num 10) ⨾ When EQ answer ⨾ Skip) ⨾ Skip

-- the number of the text at R0
abbrev pub item_number : Piece
item_number =
    ldrb 8 0 0 ⨾ add 2 0 (num 1) ⨾ add 8 8 (reg 2) ⨾ mov 0 (num 0) ⨾ mov 1 (num 0)
    ⨾ peeks (cmp 3 (num 38) ⨾ If EQ begins_hexadecimal begins_decimal ⨾ reads_digits ends_number)
