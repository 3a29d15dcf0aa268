-- The numbers of all limits. This project's own, but for those that the format of a file sets. A limit is passed where a
-- count is greater than its number.
use Rattle.std.specs.Prelude.{ℕ}

-- bytes of a program's file
abbrev pub file_bytes : ℕ
file_bytes = 65536

-- bytes of a line's text, whose record has a length of one byte and a head of four
abbrev pub longest_text : ℕ
longest_text = 251

-- line numbers are below this, since their high byte isn't the end's mark 255
abbrev pub line_numbers : ℕ
line_numbers = 65280

-- distinct names of a program
abbrev pub names : ℕ
names = 4096

-- pending strings of one statement
abbrev pub pending_strings : ℕ
pending_strings = 16

-- formals, or arguments, in one list
abbrev pub parameters : ℕ
parameters = 16

-- subscripts in one list
abbrev pub dimensions : ℕ
dimensions = 4

-- bytes of an input's file
abbrev pub input_bytes : ℕ
input_bytes = 1048576

-- words of an image
abbrev pub image_words : ℕ
image_words = 2097152

-- bytes of an image's file
abbrev pub image_bytes : ℕ
image_bytes = 8388616

-- bytes of a text that is to be tokenised
abbrev pub text_file_bytes : ℕ
text_file_bytes = 1048576

-- bytes of a file that is tokenised from a text
abbrev pub crunched_file_bytes : ℕ
crunched_file_bytes = 262144
