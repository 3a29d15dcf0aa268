-- Tests of bytes, and what is at the front of a list.
use Rattle.std.specs.Prelude.{◌≡◌, ℕ, Bool, true, false, ◌||◌, ◌==◌, List, [], ◌∷◌}
use Rattle.std.specs.List.{AllByRecursion}

-- the bytes that the definitions name, in ASCII
abbrev pub space : ℕ
space = 0x20

abbrev pub quotation_mark : ℕ
quotation_mark = 0x22

abbrev pub dollar_sign : ℕ
dollar_sign = 0x24

abbrev pub percent_sign : ℕ
percent_sign = 0x25

abbrev pub ampersand : ℕ
ampersand = 0x26

abbrev pub open_bracket : ℕ
open_bracket = 0x28

abbrev pub point : ℕ
point = 0x2e

abbrev pub digit_0 : ℕ
digit_0 = 0x30

abbrev pub digit_9 : ℕ
digit_9 = 0x39

abbrev pub semicolon : ℕ
semicolon = 0x3b

abbrev pub at_sign : ℕ
at_sign = 0x40

abbrev pub backslash : ℕ
backslash = 0x5c

-- each byte passes the test
abbrev pub Each : (ℕ → Bool) → List ℕ → Type 0
Each test bytes = AllByRecursion (λ c. test c ≡ true) bytes

-- no byte that passes the test comes first
abbrev pub NotFirst : (ℕ → Bool) → List ℕ → Type 0
NotFirst test [] = Unit {0}
NotFirst test (c ∷ rest) = test c ≡ false
