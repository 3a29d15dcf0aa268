-- The routines that write, as pieces. This project's own.
use Rattle.std.specs.Prelude.{ℕ, List, [], ◌∷◌, codes}
use Rattle.arm_isa.specs.Numbers.{NE, LS}
use Rattle.code_frag.specs.Instructions.{num, reg, lsl, lsr, mov, add, sub, rsb, cmp, mul, ldr, str, ldrb, write_byte, new_line}
use Rattle.code_frag.specs.Language.{Piece, Skip, If, When, While, Call, Halt, ◌⨾◌}
use Rattle.code_frag.specs.Regions.{base_register}
use Rattle.runtime_lib.specs.Entries.{label_of, DecimalNumber, Run}

-- ---- parts of routines

-- where the column stands, from the residents on
abbrev pub column_offset : ℕ
column_offset = 108

-- the low byte of R0 in R1
abbrev pub take_byte : Piece → Piece
take_byte rest = mov 1 (lsl 0 24) ⨾ mov 1 (lsr 1 24) ⨾ rest

-- the column after R1 more bytes, by R3
abbrev pub advance : Piece → Piece
advance rest = ldr 3 base_register column_offset ⨾ add 3 3 (reg 1) ⨾ mov 3 (lsl 3 16) ⨾ mov 3 (lsr 3 16) ⨾ str 3 base_register column_offset ⨾ rest

-- R1 spaces at a routine's end, where R8 has its return address
abbrev pub run_at_end : Piece
run_at_end = Call (label_of Run) ⨾ mov 14 (reg 8) ⨾ Skip

-- ---- R1 spaces

abbrev pub run_test : Piece
run_test = cmp 1 (num 0) ⨾ Skip

abbrev pub run_turn : Piece
run_turn = write_byte ⨾ sub 1 1 (num 1) ⨾ Skip

abbrev pub run : Piece
run = mov 0 (num 32) ⨾ While run_test NE run_turn ⨾ Skip

-- ---- SPC

abbrev pub some_spaces : Piece
some_spaces = mov 8 (reg 14) ⨾ take_byte (advance run_at_end)

-- ---- a new line

abbrev pub line_end : Piece
line_end = new_line ⨾ mov 0 (num 0) ⨾ str 0 base_register column_offset ⨾ Skip

-- ---- a text

-- the R4 bytes from R2 on are written
abbrev pub text_test : Piece
text_test = cmp 4 (num 0) ⨾ Skip

abbrev pub text_turn : Piece
text_turn = ldrb 0 2 0 ⨾ write_byte ⨾ add 2 2 (num 1) ⨾ sub 4 4 (num 1) ⨾ Skip

abbrev pub write_text : Piece
write_text = While text_test NE text_turn

-- the text at R0
abbrev pub string_out : Piece
string_out = mov 2 (reg 0) ⨾ ldrb 4 2 0 ⨾ mov 1 (reg 4) ⨾ add 2 2 (num 1) ⨾ write_text ⨾ advance Skip

-- ---- TAB

abbrev pub to_tab : Piece
to_tab =
    mov 8 (reg 14) ⨾ take_byte (ldr 2 base_register column_offset ⨾ str 1 base_register column_offset ⨾ cmp 2 (reg 1)
    ⨾ If LS (sub 1 1 (reg 2) ⨾ Skip) (new_line ⨾ Skip) ⨾ run_at_end)

-- ---- a comma

-- The column's next multiple of ten is ten times the quotient of the column and 9 by 10, and that quotient is the product with
-- 52429 divided by 2 ^ 19.
abbrev pub to_field : Piece
to_field =
    mov 8 (reg 14) ⨾ ldr 2 base_register column_offset ⨾ add 3 2 (num 9) ⨾ mov 4 (num 0xccc) ⨾ add 4 4 (num 0xcd) ⨾ mul 5 3 4
    ⨾ mov 5 (lsr 5 19) ⨾ add 5 5 (lsl 5 2) ⨾ rsb 1 2 (lsl 5 1) ⨾ advance run_at_end

-- ---- the closing text

-- bytes that are known beforehand
abbrev pub literal : List ℕ → Piece → Piece
literal [] rest = rest
literal (byte ∷ bytes) rest = mov 0 (num byte) ⨾ write_byte ⨾ literal bytes rest

-- R2 leads to the number of an error's text, and is moved on until that is R9 or the table's end
abbrev pub search_test : Piece
search_test = ldrb 3 2 0 ⨾ cmp 3 (reg 9) ⨾ When NE (cmp 3 (num 255) ⨾ Skip) ⨾ Skip

abbrev pub search_turn : Piece
search_turn = ldrb 4 2 1 ⨾ add 2 2 (num 2) ⨾ add 2 2 (reg 4) ⨾ Skip

-- the text of the error in R9 is written; the table comes 12 bytes after the image's start, which is the immediate &601
abbrev pub write_error : Piece → Piece
write_error rest = mov 2 (num 0x601) ⨾ add 2 2 (num 12) ⨾ While search_test NE search_turn ⨾ ldrb 4 2 1 ⨾ add 2 2 (num 2) ⨾ write_text ⨾ rest

-- the end of the run, by the error in R9 at the line in R10
abbrev pub fail : Piece
fail = mov 0 (num 1) ⨾ mov 1 (reg 9) ⨾ mov 2 (reg 10) ⨾ Halt ⨾ Skip

abbrev pub closing_text : Piece
closing_text =
    mov 9 (reg 0) ⨾ mov 10 (reg 1) ⨾ new_line
    ⨾ write_error (literal (codes " at line ") (mov 0 (reg 10) ⨾ mov 1 (num 0) ⨾ Call (label_of DecimalNumber) ⨾ new_line ⨾ fail))
