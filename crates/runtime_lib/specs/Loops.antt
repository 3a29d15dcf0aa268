-- The routines on open loops and GOSUBs, as pieces. This project's own.
use Rattle.std.specs.Prelude.{ℕ, true, false}
use Rattle.bas_value.specs.Errors.{no_for, other_for, no_room, no_subroutine, no_repeat, no_while}
use Rattle.bv_num.specs.Operation.{too_big}
use Rattle.arm_isa.specs.declared.instruction.Instr.TheVariants.{Single}
use Rattle.arm_isa.specs.Numbers.{RSB, SUB, MOV, AL, EQ, NE, CS, CC, VS, HI, LT}
use Rattle.code_frag.specs.Instructions.{num, reg, lsl, process_if, mov, add, sub, rsb, adds, cmp, ldr, str}
use Rattle.code_frag.specs.Language.{Piece, Skip, Do, If, When, While, ◌⨾◌}
use Rattle.code_frag.specs.Regions.{base_register}

-- ---- parts of routines

-- where the count and the depth stand, from the residents on
abbrev pub count_offset : ℕ
count_offset = 112

abbrev pub depth_offset : ℕ
depth_offset = 116

-- LDR Rd,[Rn,#-offset]
abbrev pub ldr_below : ℕ → ℕ → ℕ → Piece
ldr_below rd rn offset = Do (Single AL false true false false false true rn rd offset)

-- The address after the entries, whose number is in R5, in R6. The entries begin at &BCB000, the sum of two immediates.
abbrev pub after_entries : Piece → Piece
after_entries rest = mov 6 (num 0x8bc) ⨾ add 6 6 (num 0xcb0) ⨾ add 6 6 (lsl 5 5) ⨾ rest

-- ---- an entry is opened

-- the entry's words are stored, and there is one more
abbrev pub opens : Piece
opens =
    after_entries (ldr 7 base_register depth_offset ⨾ str 7 6 0 ⨾ str 1 6 4 ⨾ str 3 6 8 ⨾ str 4 6 12 ⨾ str 2 6 16
    ⨾ add 5 5 (num 1) ⨾ str 5 base_register count_offset ⨾ mov 1 (num 0) ⨾ Skip)

-- the number of entries is compared with 4096, the immediate &A01
abbrev pub opening : Piece
opening = ldr 5 base_register count_offset ⨾ cmp 5 (num 0xa01) ⨾ If CS (mov 1 (num no_room) ⨾ Skip) opens ⨾ Skip

-- ---- the search

-- Whether there is one more entry to look at, the one before the address in R6: C is clear where there is none, or where it is what
-- is looked for: its word is at R1, or above it by less than R4. An entry of another call leaves none.
abbrev pub entry_test : Piece
entry_test =
    cmp 5 (num 1) ⨾ When CS (ldr_below 2 6 32 ⨾ cmp 2 (reg 7)
    ⨾ If NE (mov 5 (num 0) ⨾ cmp 5 (num 1) ⨾ Skip) (ldr_below 2 6 28 ⨾ sub 2 2 (reg 1) ⨾ cmp 2 (reg 4) ⨾ Skip) ⨾ Skip)
    ⨾ Skip

abbrev pub entry_turn : Piece
entry_turn = sub 5 5 (num 1) ⨾ sub 6 6 (num 32) ⨾ Skip

-- the entry that is found: R5 is its number and 1, and R6 the address after it; or R5 is 0
abbrev pub search : Piece → Piece
search rest = ldr 5 base_register count_offset ⨾ ldr 7 base_register depth_offset ⨾ after_entries (While entry_test CS entry_turn ⨾ rest)

-- ---- UNTIL, ENDWHILE and RETURN

abbrev pub closes_none : Piece
closes_none = cmp 1 (num 2) ⨾ mov 1 (num no_while) ⨾ process_if CC MOV 1 0 (num no_repeat) ⨾ process_if HI MOV 1 0 (num no_subroutine) ⨾ Skip

abbrev pub closes_found : Piece
closes_found = ldr_below 2 6 16 ⨾ sub 5 5 (num 1) ⨾ str 5 base_register count_offset ⨾ mov 1 (num 0) ⨾ Skip

abbrev pub closing_word : Piece
closing_word = mov 4 (num 1) ⨾ search (cmp 5 (num 0) ⨾ If EQ closes_none closes_found ⨾ Skip)

-- ---- NEXT

-- the second search is for any FOR: a word at the residents or above
abbrev pub turns_none : Piece
turns_none = mov 1 (reg base_register) ⨾ rsb 4 base_register (num 0) ⨾ search (cmp 5 (num 0) ⨾ mov 1 (num other_for) ⨾ process_if EQ MOV 1 0 (num no_for) ⨾ Skip)

-- whether the loop goes on with the number in R2, by the step in R3 and the limit in R4: LT holds where it doesn't
abbrev pub compares_limit : Piece → Piece
compares_limit rest = cmp 3 (num 0) ⨾ If LT (cmp 2 (reg 4) ⨾ Skip) (cmp 4 (reg 2) ⨾ Skip) ⨾ rest

-- and where it goes on, and how many entries there are then
abbrev pub leads_on : Piece
leads_on = process_if LT SUB 5 5 (num 1) ⨾ ldr_below 2 6 16 ⨾ process_if LT MOV 2 0 (num 0) ⨾ str 5 base_register count_offset ⨾ mov 1 (num 0) ⨾ Skip

-- the number in R2 is stored in the variable at R1; names' cells begin 256 bytes after the residents, which is the immediate &C01
abbrev pub stores_number : Piece → Piece
stores_number rest = str 2 1 0 ⨾ add 7 base_register (num 0xc01) ⨾ cmp 1 (reg 7) ⨾ When CS (mov 7 (num 1) ⨾ str 7 1 4 ⨾ Skip) ⨾ rest

abbrev pub turns_found : Piece
turns_found =
    ldr_below 1 6 28 ⨾ ldr 2 1 0 ⨾ ldr_below 3 6 20 ⨾ ldr_below 4 6 24 ⨾ adds 2 2 (reg 3)
    ⨾ If VS (mov 1 (num too_big) ⨾ Skip) (stores_number (compares_limit leads_on)) ⨾ Skip

-- what R1 and R4 are for the search: for any FOR the residents' address and all words from there on
abbrev pub looks : Piece → Piece
looks rest = mov 4 (num 1) ⨾ cmp 1 (num 1) ⨾ process_if CC MOV 1 0 (reg base_register) ⨾ process_if CC RSB 4 base_register (num 0) ⨾ rest

abbrev pub turning : Piece
turning = looks (search (cmp 5 (num 0) ⨾ If EQ turns_none turns_found ⨾ Skip))
