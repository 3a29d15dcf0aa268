-- The parts of a line's body, and the first rule that fits at a place of it. This project's own.
use Rattle.std.specs.Prelude.{◌≡◌, ℕ, ◌+◌, ◌/◌, ◌%◌, Bool, not, ◌&&◌, ◌||◌, ◌==◌, nat_le, nat_lt, List, [], ◌∷◌, length, take_while, Option, Some, None, if◌then◌else◌}
use Rattle.bv_base.specs.Limits.{line_numbers}
use Rattle.bv_num.specs.Value.{front_digits, front_value, begins_with}
use Rattle.bv_token.specs.Named.{fn_token, proc_token, rem_token, data_token, goto_token, gosub_token, then_token, restore_token, else_token, line_else_token}
use Rattle.bv_token.specs.Names.{begins_name, is_in_name}
use Rattle.bv_token.specs.References.{line_reference, reference_of}
use Rattle.bv_token.specs.Words.{LongestWord}
use Rattle.basv_crunch.specs.declared.part.Kind.{Kind}
use Rattle.basv_crunch.specs.declared.part.Kind.TheVariants as kinds
use Rattle.basv_crunch.specs.declared.part.Part.{Part}
use Rattle.basv_crunch.specs.declared.part.Place.{Place}
use Rattle.basv_crunch.specs.declared.part.Place.TheVariants as places

abbrev pub part_of : Kind → ℕ → Part
part_of kind size = record { kind = kind; size = size }

-- a row of bytes is a part, unless it is empty
abbrev pub unless_none : Kind → ℕ → Option Part
unless_none kind size = if size == 0 then None else Some (part_of kind size)

-- Rule 1. Between quotation marks, and after REM or DATA, a byte is kept: one from 32 to 255, but not 127.
abbrev pub kept : List ℕ → Option Part
kept [] = None
kept (b ∷ rest) = if nat_le 32 b && not (b == 127) then Some (part_of (kinds.Kept b) 1) else None

-- Rule 2. Directly after FN or PROC the longest row of letters, digits, `_` and pound signs is kept.
abbrev pub called : List ℕ → Option Part
called text = unless_none kinds.Called (length (take_while is_in_name text))

-- decimal digits are a line's number as the listing writes it: no zero leads, and it is one that a line can have
abbrev pub is_reference : List ℕ → Bool
is_reference text = (not (begins_with 48 text) || (length (front_digits 10 text) == 1)) && nat_lt (front_value 10 text) line_numbers

-- Rule 3. Where a reference to a line is awaited, the longest row of decimal digits is one.
abbrev pub referred : List ℕ → Option Part
referred text = if is_reference text then unless_none (kinds.Reference (front_value 10 text)) (length (front_digits 10 text)) else None

-- What the first three rules give: nothing but this, or this before what the others give.
pub data Early : Type 0 where
  Alone : (found : Option Part) → Early
  Before : (found : Option Part) → Early

-- the first three rules, by the place: between quotation marks and in a tail no other rule applies
abbrev pub by_place : Place → List ℕ → Early
by_place places.Quotes text = Alone (kept text)
by_place places.Tail text = Alone (kept text)
by_place places.Call text = Before (called text)
by_place places.Awaiting text = Before (referred text)
by_place place text = Before None

-- ELSE has a token of its own where only spaces come before it
abbrev pub token_at : Place → ℕ → ℕ
token_at places.Start token = if token == else_token then line_else_token else token
token_at place token = token

-- Rule 4. The longest word that begins here and counts becomes its token.
abbrev pub worded : Place → Option (ℕ × ℕ) → Option Part
worded place None = None
worded place (Some word) = Some (part_of (kinds.Word (token_at place word.1)) word.0)

-- Rule 5. `&` with the hexadecimal digits after it, or a letter, `_`, `@` or a pound sign with the letters, digits, `_`
-- and pound signs after it, is kept.
abbrev pub row : List ℕ → Option Part
row [] = None
row (b ∷ rest) =
    if b == 38 then Some (part_of kinds.Row (1 + length (front_digits 16 rest)))
    else if begins_name b || b == 64 then Some (part_of kinds.Row (1 + length (take_while is_in_name rest)))
    else None

-- Rule 6. Any other byte from 32 to 126 stands.
abbrev pub single : List ℕ → Option Part
single [] = None
single (b ∷ rest) = if nat_le 32 b && nat_lt b 127 then Some (part_of (kinds.Single b) 1) else None

-- the first that fits
abbrev pub or_else : Option Part → Option Part → Option Part
or_else None other = other
or_else (Some part) other = Some part

-- what the rules from the fourth on give, by the longest word
abbrev pub by_text : Place → Option (ℕ × ℕ) → List ℕ → Option Part
by_text place word text = or_else (worded place word) (or_else (row text) (single text))

-- the part at the front of a text by the first rule that fits, or that none fits
abbrev pub FirstOf : Early → Place → List ℕ → Option Part → Type 0
FirstOf (Alone part) place text found = found ≡ part
FirstOf (Before (Some part)) place text found = found ≡ Some part
FirstOf (Before None) place text found = (word : Option (ℕ × ℕ)) × LongestWord text word × (found ≡ by_text place word text)

abbrev pub FirstPart : Place → List ℕ → Option Part → Type 0
FirstPart place text found = FirstOf (by_place place text) place text found

-- the bytes of a token or a pair
abbrev pub token_bytes : ℕ → List ℕ
token_bytes token = if nat_lt token 256 then token ∷ [] else token / 256 ∷ token % 256 ∷ []

-- the bytes of a part in the file, by its kind and its text
abbrev pub part_bytes : Kind → List ℕ → List ℕ
part_bytes (kinds.Reference number) source = line_reference ∷ reference_of number
part_bytes (kinds.Word token) source = token_bytes token
part_bytes kind source = source

-- what is awaited after a word
abbrev pub after_word : ℕ → Place
after_word token =
    if token == fn_token || token == proc_token then places.Call
    else if token == rem_token || token == data_token then places.Tail
    else if token == goto_token || (token == gosub_token || (token == then_token || (token == restore_token || token == else_token))) then places.Awaiting
    else places.Code

-- after a space the line's start is still its start, and a reference is still awaited, or still the last
abbrev pub after_space : Place → Place
after_space places.Start = places.Start
after_space places.Awaiting = places.Awaiting
after_space places.Referred = places.Referred
after_space place = places.Code

-- a comma after a reference awaits one more
abbrev pub after_comma : Place → Place
after_comma places.Referred = places.Awaiting
after_comma place = places.Code

-- after a byte that is kept by the last rule
abbrev pub after_single : Place → ℕ → Place
after_single place b =
    if b == 34 then places.Quotes
    else if b == 32 then after_space place
    else if b == 44 then after_comma place
    else places.Code

-- quotation marks end at the next one, and a tail at the line's end
abbrev pub after_kept : Place → ℕ → Place
after_kept places.Quotes b = if b == 34 then places.Code else places.Quotes
after_kept place b = place

-- where a part leads
abbrev pub after_part : Place → Kind → Place
after_part place (kinds.Kept b) = after_kept place b
after_part place kinds.Called = places.Code
after_part place (kinds.Reference number) = places.Referred
after_part place (kinds.Word token) = after_word token
after_part place kinds.Row = places.Code
after_part place (kinds.Single b) = after_single place b
