-- The routines that write numbers, as pieces. This project's own.
use Rattle.std.specs.Prelude.{ℕ, ◌+◌, List, [], ◌∷◌}
use Rattle.arm_isa.specs.Immediates.{immediate_value}
use Rattle.arm_isa.specs.Numbers.{ADD, MOV, NE, CS, CC}
use Rattle.code_frag.specs.Instructions.{num, reg, lsl, lsr, process_if, mov, add, sub, rsb, rsbs, cmp, ldr, str, write_byte}
use Rattle.code_frag.specs.Language.{Piece, Skip, When, While, Call, ◌⨾◌}
use Rattle.code_frag.specs.Regions.{base_register}
use Rattle.runtime_lib.specs.Entries.{Run, label_of}
use Rattle.runtime_lib.specs.Numbers.{top_bit}
use Rattle.runtime_lib.specs.Writing.{column_offset}

-- ---- powers of the base

-- a power of the base, as immediates whose sum it is
pub record Power : Type 0 where
  pub first : ℕ
  pub more : List ℕ

-- a number and immediates
abbrev pub sum_with : ℕ → List ℕ → ℕ
sum_with x [] = x
sum_with x (field ∷ fields) = sum_with (x + immediate_value field) fields

-- and that sum
abbrev pub power_value : Power → ℕ
power_value p = sum_with (immediate_value p.first) p.more

-- 10^9 to 10
abbrev pub powers_of_ten : List Power
powers_of_ten =
    record { first = 0x43b; more = 0x89a ∷ 0xcca ∷ [] }
    ∷ record { first = 0x65f; more = 0xa5e ∷ 0xc01 ∷ [] }
    ∷ record { first = 0x898; more = 0xc96 ∷ 0x80 ∷ [] }
    ∷ record { first = 0x93d; more = 0xe24 ∷ [] }
    ∷ record { first = 0xb61; more = 0xe2a ∷ [] }
    ∷ record { first = 0xd9c; more = 0x10 ∷ [] }
    ∷ record { first = 0xffa; more = [] }
    ∷ record { first = 100; more = [] }
    ∷ record { first = 10; more = [] }
    ∷ []

-- 16^7 to 16
abbrev pub powers_of_sixteen : List Power
powers_of_sixteen =
    record { first = 0x201; more = [] }
    ∷ record { first = 0x401; more = [] }
    ∷ record { first = 0x601; more = [] }
    ∷ record { first = 0x801; more = [] }
    ∷ record { first = 0xa01; more = [] }
    ∷ record { first = 0xc01; more = [] }
    ∷ record { first = 0xe01; more = [] }
    ∷ []

-- more immediates are added to R2
abbrev pub adds_each : List ℕ → Piece → Piece
adds_each [] rest = rest
adds_each (field ∷ fields) rest = add 2 2 (num field) ⨾ adds_each fields rest

-- a power comes into R2
abbrev pub takes_power : Power → Piece → Piece
takes_power p rest = mov 2 (num p.first) ⨾ adds_each p.more rest

-- ---- the digits of the number in R7

-- R6 rises by 1 for each power that the number reaches
abbrev pub counts : List Power → Piece → Piece
counts [] rest = rest
counts (p ∷ ps) rest = takes_power p (cmp 7 (reg 2) ⨾ process_if CS ADD 6 6 (num 1) ⨾ counts ps rest)

-- the digit whose value and 48 is in R0: from 10 on it is a letter
abbrev pub writes_digit : Piece
writes_digit = cmp 0 (num 58) ⨾ process_if CS ADD 0 0 (num 7) ⨾ write_byte ⨾ Skip

-- how often the power in R2 goes into what is left of the number in R4, by subtraction; and that digit
abbrev pub takes_digit : Piece
takes_digit = mov 0 (num 48) ⨾ While (cmp 4 (reg 2) ⨾ Skip) CS (sub 4 4 (reg 2) ⨾ add 0 0 (num 1) ⨾ Skip) ⨾ writes_digit

-- the digit of each power that the number reaches
abbrev pub writes : List Power → Piece → Piece
writes [] rest = rest
writes (p ∷ ps) rest = takes_power p (cmp 7 (reg 2) ⨾ When CS takes_digit ⨾ writes ps rest)

-- ---- a number

-- R1 becomes the number of spaces before a text whose length is in R6: those up to ten columns, or none where R1 was 0
abbrev pub pads : Piece
pads = cmp 1 (num 0) ⨾ When NE (rsbs 1 6 (num 10) ⨾ process_if CC MOV 1 0 (num 0) ⨾ Skip) ⨾ Skip

-- the column after R6 and R1 more, modulo 65,536
abbrev pub moves_column : Piece
moves_column = ldr 2 base_register column_offset ⨾ add 2 2 (reg 6) ⨾ add 2 2 (reg 1) ⨾ mov 2 (lsl 2 16) ⨾ mov 2 (lsr 2 16) ⨾ str 2 base_register column_offset ⨾ Skip

-- a minus sign where R5 isn't 0
abbrev pub writes_sign : Piece
writes_sign = cmp 5 (num 0) ⨾ When NE (mov 0 (num 45) ⨾ write_byte ⨾ Skip) ⨾ Skip

-- the number in R0, and before it a minus sign where R5 is 1, by its digits; R8 has the return address
abbrev pub writes_number : List Power → Piece
writes_number powers =
    mov 7 (reg 0) ⨾ mov 4 (reg 0) ⨾ add 6 5 (num 1)
    ⨾ counts powers (pads ⨾ moves_column ⨾ Call (label_of Run) ⨾ writes_sign ⨾ writes powers (add 0 4 (num 48) ⨾ writes_digit ⨾ mov 14 (reg 8) ⨾ Skip))

-- a number in decimal, with its sign
abbrev pub decimal_number : Piece
decimal_number =
    mov 8 (reg 14) ⨾ mov 5 (num 0) ⨾ cmp 0 (num top_bit) ⨾ When CS (rsb 0 0 (num 0) ⨾ mov 5 (num 1) ⨾ Skip)
    ⨾ writes_number powers_of_ten

-- the 32 bits of a number in hexadecimal
abbrev pub hexadecimal_number : Piece
hexadecimal_number = mov 8 (reg 14) ⨾ mov 5 (num 0) ⨾ writes_number powers_of_sixteen
