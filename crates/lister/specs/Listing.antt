-- The listing of a line: its layout is this project's own, and its keywords are those of the table of tokens.
use Rattle.std.specs.Prelude.{ℕ, zero, suc, ◌-◌, ◌/◌, ◌%◌, Bool, true, false, ◌||◌, ◌==◌, not, List, [], ◌∷◌, ◌++◌, length, replicate, unwrap_or, codes, decimal, if◌then◌else◌}
use Rattle.token_file.specs.declared.line.Line.{Line}
use Rattle.bv_num.specs.Digits.{digit_byte}
use Rattle.bv_token.specs.Named.{data_token, rem_token}
use Rattle.bv_token.specs.Tokens.{begins_pair, keyword_of, keyword_of_token}
use Rattle.bv_token.specs.References.{line_reference, referred}

-- a text at the right of a number of columns
abbrev pub justified : ℕ → List ℕ → List ℕ
justified columns text = replicate (columns - length text) 32 ++ text

-- the two hexadecimal digits of a byte
abbrev pub hex_byte : ℕ → List ℕ
hex_byte byte = digit_byte (byte / 16) ∷ digit_byte (byte % 16) ∷ []

-- What the symbol at the front of a text lists as, and how many bytes after its first one belong to it.
pub record Shown : Type 0 where
  pub text : List ℕ
  pub taken : ℕ

abbrev pub shown_as : List ℕ → ℕ → Shown
shown_as text taken = record { text = text; taken = taken }

-- a reference to a line is the line's number; where fewer than three bytes are left, the byte that begins one stands
-- for itself
abbrev pub shown_reference : List ℕ → Shown
shown_reference (a ∷ b ∷ c ∷ rest) = shown_as (decimal (referred a b c)) 3
shown_reference (a ∷ b ∷ []) = shown_as (codes "<8D>") 0
shown_reference (a ∷ []) = shown_as (codes "<8D>") 0
shown_reference [] = shown_as (codes "<8D>") 0

-- a pair is its keyword, or the digits of its two bytes; at the text's end its first byte stands for itself
abbrev pub shown_pair : ℕ → List ℕ → Shown
shown_pair first [] = shown_as (codes "<" ++ hex_byte first ++ codes ">") 0
shown_pair first (second ∷ rest) =
    shown_as (unwrap_or (keyword_of first second) (codes "<" ++ hex_byte first ++ codes " " ++ hex_byte second ++ codes ">")) 1

-- a byte is its keyword if it is a token, or itself
abbrev pub shown_byte : ℕ → List ℕ
shown_byte byte = unwrap_or (keyword_of_token byte) (byte ∷ [])

-- the tokens of REM and DATA, after which all bytes are listed as they are
abbrev pub begins_tail : ℕ → Bool
begins_tail byte = (byte == rem_token) || (byte == data_token)

-- the symbol at the front of a text, outside quotation marks
abbrev pub shown : ℕ → List ℕ → Shown
shown first rest =
    if first == line_reference then shown_reference rest
    else if begins_pair first then shown_pair first rest
    else if begins_tail first then shown_as (shown_byte first ++ rest) (length rest)
    else shown_as (shown_byte first) 0

-- a text as it lists, from inside quotation marks or outside them, where some of its first bytes were listed before
abbrev pub listed : ℕ → Bool → List ℕ → List ℕ
listed taken quoted [] = []
listed (suc taken) quoted (byte ∷ rest) = listed taken quoted rest
listed zero true (byte ∷ rest) = byte ∷ listed zero (not (byte == 34)) rest
listed zero false (byte ∷ rest) = (shown byte rest).text ++ listed (shown byte rest).taken (byte == 34) rest

-- a line's number in five columns, its text, and a new line
abbrev pub listing : Line → List ℕ
listing line = justified 5 (decimal line.number) ++ listed 0 false line.text ++ 10 ∷ []
