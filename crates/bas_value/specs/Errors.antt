-- The errors that the language raises itself, and their texts. The numbers are those of BBC BASIC V (BBC BASIC Reference
-- Manual, error messages) where it has the error; which errors there are is this project's own.
use Rattle.std.specs.Prelude.{ℕ, ◌==◌, List, [], ◌∷◌, codes, if◌then◌else◌}

-- STOP was executed
abbrev pub stopped : ℕ
stopped = 0

-- `=` outside a function's call
abbrev pub no_function : ℕ
no_function = 7

-- LOCAL outside a call
abbrev pub no_call : ℕ
no_call = 12

-- ENDPROC outside a procedure's call
abbrev pub no_procedure : ℕ
no_procedure = 13

-- a variable that was never made is read
abbrev pub unknown_variable : ℕ
unknown_variable = 26

-- NEXT where no FOR is open
abbrev pub no_for : ℕ
no_for = 32

-- NEXT of a variable where only FORs of others are open
abbrev pub other_for : ℕ
other_for = 33

-- a call, a saved value or an open entry for which there is no room
abbrev pub no_room : ℕ
no_room = 37

-- RETURN where no GOSUB is open
abbrev pub no_subroutine : ℕ
no_subroutine = 38

-- a number of ON that has no line
abbrev pub on_range : ℕ
on_range = 40

-- a line that the program does not have
abbrev pub no_such_line : ℕ
no_such_line = 41

-- READ past the last item of DATA
abbrev pub out_of_data : ℕ
out_of_data = 42

-- UNTIL where no REPEAT is open
abbrev pub no_repeat : ℕ
no_repeat = 43

-- ENDWHILE where no WHILE is open
abbrev pub no_while : ℕ
no_while = 46

-- a text beside its number
pub record NumberedText : Type 0 where
  pub number : ℕ
  pub text : List ℕ

-- the texts of all errors
abbrev pub error_texts : List NumberedText
error_texts =
    record { number = 0; text = codes "STOP" }
    ∷ record { number = 1; text = codes "Unpredictable instruction" }
    ∷ record { number = 2; text = codes "Bad immediate constant" }
    ∷ record { number = 3; text = codes "Bad register" }
    ∷ record { number = 6; text = codes "Type mismatch" }
    ∷ record { number = 7; text = codes "Not in a function" }
    ∷ record { number = 10; text = codes "Bad DIM" }
    ∷ record { number = 11; text = codes "No room for this dimension" }
    ∷ record { number = 12; text = codes "Not in a call" }
    ∷ record { number = 13; text = codes "Not in a procedure" }
    ∷ record { number = 14; text = codes "Undefined array" }
    ∷ record { number = 15; text = codes "Subscript out of range" }
    ∷ record { number = 18; text = codes "Division by zero" }
    ∷ record { number = 19; text = codes "String too long" }
    ∷ record { number = 20; text = codes "Number too big" }
    ∷ record { number = 26; text = codes "Unknown or missing variable" }
    ∷ record { number = 29; text = codes "No such function or procedure" }
    ∷ record { number = 31; text = codes "Wrong number of arguments" }
    ∷ record { number = 32; text = codes "No FOR" }
    ∷ record { number = 33; text = codes "Can't match FOR" }
    ∷ record { number = 37; text = codes "No room for call or loop" }
    ∷ record { number = 38; text = codes "Not in a subroutine" }
    ∷ record { number = 40; text = codes "ON range" }
    ∷ record { number = 41; text = codes "No such line" }
    ∷ record { number = 42; text = codes "Out of data" }
    ∷ record { number = 43; text = codes "Not in a REPEAT loop" }
    ∷ record { number = 46; text = codes "Not in a WHILE loop" }
    ∷ record { number = 48; text = codes "No saved error handler" }
    ∷ []

-- the text beside a number, and none for a number that is not there
abbrev pub text_among : List NumberedText → ℕ → List ℕ
text_among [] number = []
text_among (t ∷ ts) number = if number == t.number then t.text else text_among ts number

-- the text of an error
abbrev pub error_text : ℕ → List ℕ
error_text number = text_among error_texts number
