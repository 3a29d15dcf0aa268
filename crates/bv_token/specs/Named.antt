-- The tokens that other definitions name, by their numbers, and the code's constants for them with their words.
use Rattle.std.specs.Prelude.{ℕ, List, [], ◌∷◌, codes}
use Rattle.bv_token.specs.declared.tokens.TheConstants as constants

-- the token of FN, which begins a call of a function
abbrev pub fn_token : ℕ
fn_token = 0xa4

-- the token of PROC, which begins a call of a procedure
abbrev pub proc_token : ℕ
proc_token = 0xf2

-- the token of REM, whose comment is the bytes to the line's end
abbrev pub rem_token : ℕ
rem_token = 0xf4

-- the token of DATA, whose items are the bytes to the line's end
abbrev pub data_token : ℕ
data_token = 0xdc

-- the token of GOTO
abbrev pub goto_token : ℕ
goto_token = 0xe5

-- the token of GOSUB
abbrev pub gosub_token : ℕ
gosub_token = 0xe4

-- the token of THEN
abbrev pub then_token : ℕ
then_token = 0x8c

-- the token of RESTORE
abbrev pub restore_token : ℕ
restore_token = 0xf7

-- the token of ELSE after an item
abbrev pub else_token : ℕ
else_token = 0x8b

-- the token of ELSE at the start of a line
abbrev pub line_else_token : ℕ
line_else_token = 0xcc

-- the code's constants of tokens, with their words
abbrev pub named_tokens : List (ℕ × List ℕ)
named_tokens =
    (constants.OTHERWISE, codes "OTHERWISE") ∷
    (constants.FIRST_TOKEN, codes "AND") ∷
    (constants.ELSE, codes "ELSE") ∷
    (constants.THEN, codes "THEN") ∷
    (constants.FN, codes "FN") ∷
    (constants.LINE_ELSE, codes "ELSE") ∷
    (constants.DATA, codes "DATA") ∷
    (constants.END, codes "END") ∷
    (constants.GOSUB, codes "GOSUB") ∷
    (constants.GOTO, codes "GOTO") ∷
    (constants.VDU, codes "VDU") ∷
    (constants.PROC, codes "PROC") ∷
    (constants.REM, codes "REM") ∷
    (constants.RESTORE, codes "RESTORE") ∷
    []
