-- The numbers that texts spell: VAL, and what READ makes of an item of DATA (BBC BASIC Reference Manual, VAL and READ).
-- That hexadecimal digits may be of either case is this project's own.
use Rattle.std.specs.Prelude.{ℕ, ◌^◌, ◌==◌, Bool, false, ◌||◌, List, [], ◌∷◌, drop, nat_lt, ℤ, Result, Ok, Err, if◌then◌else◌, take_while}
use Rattle.std.specs.Str.Parse.{digits_value}
use Rattle.bv_num.specs.Digits.{is_digit}
use Rattle.bv_num.specs.Operation.{too_big, in_range, with_sign}
use Rattle.bv_num.specs.Bits.{signed}

-- the text without the spaces that begin it
abbrev pub after_spaces : List ℕ → List ℕ
after_spaces [] = []
after_spaces (b ∷ bs) = if b == 32 then after_spaces bs else b ∷ bs

-- the longest row of digits of a base that begins the text
abbrev pub front_digits : ℕ → List ℕ → List ℕ
front_digits base text = take_while (is_digit base) text

-- the value of that row, which may have any length; 0 where it is empty
unfoldable pub front_value : ℕ → List ℕ → ℕ
front_value base text = digits_value base (front_digits base text)

-- whether the text begins with a byte
abbrev pub begins_with : ℕ → List ℕ → Bool
begins_with byte [] = false
begins_with byte (b ∷ bs) = b == byte

-- the text after the one sign that may begin it
abbrev pub after_sign : List ℕ → List ℕ
after_sign [] = []
after_sign (b ∷ bs) = if (b == 43) || (b == 45) then bs else b ∷ bs

-- the number of a sign, which may be left out, and digits
abbrev pub signed_value : List ℕ → ℤ
signed_value text = with_sign (begins_with 45 text) (front_value 10 (after_sign text))

-- VAL: spaces, at most one sign, decimal digits; what follows is ignored
abbrev pub value_of : List ℕ → Result ℤ ℕ
value_of text = in_range (signed_value (after_spaces text))

-- 32 bits taken as a signed number; a greater value is the error "number too big"
abbrev pub in_word : ℕ → Result ℤ ℕ
in_word n = if nat_lt n (2 ^ 32) then Ok (signed n) else Err too_big

-- READ: after `&`, as the first byte, hexadecimal digits of either case; else VAL
abbrev pub data_value : List ℕ → Result ℤ ℕ
data_value text = if begins_with 38 text then in_word (front_value 16 (drop 1 text)) else value_of text
