-- The tokens of Acorn's BASIC V and the keywords that they encode (BBC BASIC Reference Manual, keyword tokens).
use Rattle.std.specs.Prelude.{ℕ, ◌+◌, ◌-◌, Bool, ◌&&◌, ◌==◌, nat_le, nat_lt, List, [], ◌∷◌, length, get_or, Option, Some, None, bytes_eq, codes, if◌then◌else◌}

-- a letter put in front of the first word
abbrev pub onto_first : ℕ → List (List ℕ) → List (List ℕ)
onto_first c [] = (c ∷ []) ∷ []
onto_first c (word ∷ more) = (c ∷ word) ∷ more

-- the words of a text, divided by single spaces
abbrev pub words : List ℕ → List (List ℕ)
words [] = [] ∷ []
words (c ∷ rest) = if c == 32 then [] ∷ words rest else onto_first c (words rest)

-- A row of the table: the token of its first word, and the words of the tokens from there on.
pub record Row : Type 0 where
  pub from : ℕ
  pub words : List (List ℕ)

abbrev pub row : ℕ → List ℕ → Row
row from text = record { from = from; words = words text }

-- The keywords of single tokens, sixteen to a row. A dash is written where a token has no keyword: 0x8d begins a reference
-- to a line, and 0xc6, 0xc7 and 0xc8 begin pairs.
abbrev pub table : List Row
table =
    row 0x7f (codes "OTHERWISE") ∷
    row 0x80 (codes "AND DIV EOR MOD OR ERROR LINE OFF STEP SPC TAB( ELSE THEN - OPENIN PTR") ∷
    row 0x90 (codes "PAGE TIME LOMEM HIMEM ABS ACS ADVAL ASC ASN ATN BGET COS COUNT DEG ERL ERR") ∷
    row 0xa0 (codes "EVAL EXP EXT FALSE FN GET INKEY INSTR( INT LEN LN LOG NOT OPENUP OPENOUT PI") ∷
    row 0xb0 (codes "POINT( POS RAD RND SGN SIN SQR TAN TO TRUE USR VAL VPOS CHR$ GET$ INKEY$") ∷
    row 0xc0 (codes "LEFT$( MID$( RIGHT$( STR$ STRING$( EOF - - - WHEN OF ENDCASE ELSE ENDIF ENDWHILE PTR") ∷
    row 0xd0 (codes "PAGE TIME LOMEM HIMEM SOUND BPUT CALL CHAIN CLEAR CLOSE CLG CLS DATA DEF DIM DRAW") ∷
    row 0xe0 (codes "END ENDPROC ENVELOPE FOR GOSUB GOTO GCOL IF INPUT LET LOCAL MODE MOVE NEXT ON VDU") ∷
    row 0xf0 (codes "PLOT PRINT PROC READ REM REPEAT REPORT RESTORE RETURN RUN STOP COLOUR TRACE UNTIL WIDTH OSCLI") ∷
    []

-- a word of the table is a keyword, unless it is the dash
abbrev pub unless_dash : List ℕ → Option (List ℕ)
unless_dash word = if bytes_eq word (codes "-") then None else Some word

-- the keyword of a token in these rows, if they have one
abbrev pub keyword_in : List Row → ℕ → Option (List ℕ)
keyword_in [] token = None
keyword_in (r ∷ rows) token =
    if nat_le r.from token && nat_lt token (r.from + length r.words) then unless_dash (get_or r.words (token - r.from) []) else keyword_in rows token

-- the keyword of a single token
unfoldable pub keyword_of_token : ℕ → Option (List ℕ)
keyword_of_token token = keyword_in table token

-- A keyword of two bytes.
pub record Pair : Type 0 where
  pub first : ℕ
  pub second : ℕ
  pub word : List ℕ

abbrev pub pair : ℕ → ℕ → List ℕ → Pair
pair first second word = record { first = first; second = second; word = word }

-- the keywords of pairs
abbrev pub pairs : List Pair
pairs =
    pair 0xc6 0x8e (codes "SUM") ∷
    pair 0xc8 0x8e (codes "CASE") ∷
    pair 0xc8 0x94 (codes "SWAP") ∷
    pair 0xc8 0x95 (codes "WHILE") ∷
    pair 0xc8 0x98 (codes "QUIT") ∷
    pair 0xc8 0x99 (codes "SYS") ∷
    []

-- the keyword of two bytes in these pairs, if they have one
abbrev pub keyword_of_pair : List Pair → ℕ → ℕ → Option (List ℕ)
keyword_of_pair [] first second = None
keyword_of_pair (p ∷ more) first second = if p.first == first && p.second == second then Some p.word else keyword_of_pair more first second

-- a byte that begins a pair
abbrev pub begins_pair : ℕ → Bool
begins_pair byte = nat_le 0xc6 byte && nat_le byte 0xc8

-- the keyword that begins with the first byte, whose second byte counts only in a pair
abbrev pub keyword_of : ℕ → ℕ → Option (List ℕ)
keyword_of first second = if begins_pair first then keyword_of_pair pairs first second else keyword_of_token first

-- a text as a keyword: the empty one is none
abbrev pub unless_empty : List ℕ → Option (List ℕ)
unless_empty [] = None
unless_empty (c ∷ more) = Some (c ∷ more)
