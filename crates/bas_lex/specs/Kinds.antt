-- Which bytes are one symbol, kind by kind (BBC BASIC Reference Manual, variables, constants, keywords and operators).
use Rattle.std.specs.Prelude.{◌≡◌, ◌≢◌, ◌⊎◌, ℕ, ◌+◌, ◌*◌, ◌^◌, ◌<◌, Bool, true, false, ◌==◌, ℤ, List, [], ◌∷◌, ◌++◌, flat_map, slice_get, Some, IsSome, codes, if◌then◌else◌}
use Rattle.std.specs.Int.{w32, cast_signed}
use Rattle.std.specs.Str.Parse.{digits_value}
use Rattle.bv_num.specs.Digits.{is_digit}
use Rattle.bv_token.specs.declared.reference.TheConstants.{LINE_REFERENCE}
use Rattle.bv_token.specs.declared.tokens.TheConstants.{REM, DATA, FN, PROC}
use Rattle.bv_token.specs.References.{referred}
use Rattle.bv_token.specs.Tokens.{words, keyword_of_token, keyword_of_pair, pairs}
use Rattle.bas_lex.specs.declared.number.Radix.{Radix}
use Rattle.bas_lex.specs.declared.number.Radix.TheVariants as radixes
use Rattle.bas_lex.specs.declared.sign_numbers.TheConstants.{PLUS, MINUS, TIMES, EQUALS, LESS, GREATER, NOT_EQUAL, LESS_OR_EQUAL, GREATER_OR_EQUAL, SHIFT_LEFT, SHIFT_RIGHT, SHIFT_RIGHT_LOGICAL, PLUS_EQUALS, MINUS_EQUALS, OPEN_ROUND, CLOSE_ROUND, COMMA, SEMICOLON, COLON, APOSTROPHE, TILDE, QUESTION, EXCLAMATION, DOLLAR, HASH, OPEN_SQUARE, CLOSE_SQUARE, OPEN_CURLY, CLOSE_CURLY, CARET}
use Rattle.bas_lex.specs.declared.symbol.TheConstants.{NO_SUFFIX}
use Rattle.bas_lex.specs.declared.symbol.SymKind.{SymKind}
use Rattle.bas_lex.specs.declared.symbol.SymKind.TheVariants as kinds
use Rattle.bv_token.specs.Names.{begins_name, is_in_name}
use Rattle.bas_lex.specs.Bytes.{quotation_mark, dollar_sign, percent_sign, ampersand, open_bracket, point, at_sign, Each, NotFirst}

-- A keyword's byte, other than REM and DATA, which have a Tail.
pub record IsSingle (n : ℕ) (bytes : List ℕ) : Type 0 where
  pub spelled : bytes ≡ n ∷ []
  pub keyword : IsSome (keyword_of_token n)
  pub not_rem : n ≢ REM
  pub not_data : n ≢ DATA

-- A keyword's two bytes.
pub record IsPair (n : ℕ) (bytes : List ℕ) : Type 0 where
  pub first : ℕ
  pub second : ℕ
  pub spelled : bytes ≡ first ∷ second ∷ []
  pub keyword : IsSome (keyword_of_pair pairs first second)
  pub number : n ≡ 256 * first + second

-- no suffix, `%` or `$`
abbrev pub IsSuffix : ℕ → Type 0
IsSuffix suffix = (suffix ≡ NO_SUFFIX) ⊎ ((suffix ≡ percent_sign) ⊎ (suffix ≡ dollar_sign))

-- the byte of a suffix, if there is one
abbrev pub suffix_bytes : ℕ → List ℕ
suffix_bytes suffix = if suffix == NO_SUFFIX then [] else suffix ∷ []

-- a bracket, or none
abbrev pub bracket_bytes : Bool → List ℕ
bracket_bytes true = open_bracket ∷ []
bracket_bytes false = []

-- What goes on with a name: letters, digits, `_` and pound signs, then at most one suffix, then a bracket or none.
pub record GoesOn (suffix : ℕ) (bracket : Bool) (bytes : List ℕ) : Type 0 where
  pub letters : List ℕ
  pub each : Each is_in_name letters
  pub is_suffix : IsSuffix suffix
  pub spelled : bytes ≡ letters ++ (suffix_bytes suffix ++ bracket_bytes bracket)

-- A name: a letter, `_` or the pound sign, and what goes on with it.
pub record IsPlainName (suffix : ℕ) (bracket : Bool) (bytes : List ℕ) : Type 0 where
  pub first : ℕ
  pub more : List ℕ
  pub begins : begins_name first ≡ true
  pub goes_on : GoesOn suffix bracket more
  pub spelled : bytes ≡ first ∷ more

-- The name `@%`.
abbrev pub IsSystemName : ℕ → Bool → List ℕ → Type 0
IsSystemName suffix bracket bytes = (suffix ≡ percent_sign) × (bracket ≡ false) × (bytes ≡ at_sign ∷ percent_sign ∷ [])

-- a name with this suffix and with or without a bracket
abbrev pub IsName : ℕ → Bool → List ℕ → Type 0
IsName suffix bracket bytes = IsPlainName suffix bracket bytes ⊎ IsSystemName suffix bracket bytes

-- the token of a call of a function or a procedure
abbrev pub call_token : Bool → ℕ
call_token true = FN
call_token false = PROC

-- A call: FN or PROC, and directly after it a name, which may begin with a digit.
pub record IsCall (function bracket : Bool) (bytes : List ℕ) : Type 0 where
  pub first : ℕ
  pub more : List ℕ
  pub suffix : ℕ
  pub begins : is_in_name first ≡ true
  pub goes_on : GoesOn suffix bracket more
  pub spelled : bytes ≡ call_token function ∷ first ∷ more

-- A label: a point, and a name without `$` and without a bracket.
pub record IsLabel (bytes : List ℕ) : Type 0 where
  pub name : List ℕ
  pub suffix : ℕ
  pub no_string : suffix ≢ dollar_sign
  pub is_name : IsName suffix false name
  pub spelled : bytes ≡ point ∷ name

-- what comes before the digits: nothing, `&` or `%`
abbrev pub radix_mark : Radix → List ℕ
radix_mark radixes.Decimal = []
radix_mark radixes.Hexadecimal = ampersand ∷ []
radix_mark radixes.Binary = percent_sign ∷ []

-- how many digits there are
abbrev pub base : Radix → ℕ
base radixes.Decimal = 10
base radixes.Hexadecimal = 16
base radixes.Binary = 2

-- values are below this: 2^31 for decimal digits, and else 2^32
abbrev pub value_bound : Radix → ℕ
value_bound radixes.Decimal = 2 ^ 31
value_bound radixes.Hexadecimal = 2 ^ 32
value_bound radixes.Binary = 2 ^ 32

-- A number: all the digits that are there, with a value below the bound, which is taken as a signed 32-bit number.
pub record IsNumber (radix : Radix) (value : ℤ) (bytes rest : List ℕ) : Type 0 where
  pub digits : List ℕ
  pub some : digits ≢ []
  pub each : Each (is_digit (base radix)) digits
  pub all : NotFirst (is_digit (base radix)) rest
  pub small : digits_value (base radix) digits < value_bound radix
  pub signed : value ≡ cast_signed w32 (digits_value (base radix) digits)
  pub spelled : bytes ≡ radix_mark radix ++ digits

-- a text with each quotation mark written twice
abbrev pub doubled : List ℕ → List ℕ
doubled text = flat_map (λ c. if c == quotation_mark then quotation_mark ∷ quotation_mark ∷ [] else c ∷ []) text

-- a string: a text between quotation marks
abbrev pub IsText : List ℕ → Type 0
IsText bytes = (text : List ℕ) × (bytes ≡ quotation_mark ∷ (doubled text ++ quotation_mark ∷ []))

-- a reference to the line of this number
pub record IsLineRef (number : ℕ) (bytes : List ℕ) : Type 0 where
  pub first : ℕ
  pub second : ℕ
  pub third : ℕ
  pub spelled : bytes ≡ LINE_REFERENCE ∷ first ∷ second ∷ third ∷ []
  pub refers : number ≡ referred first second third

-- the signs, which are numbered from 0 on in this order
unfoldable pub signs : List (List ℕ)
signs = words (codes "+ - * = < > <> <= >= << >> >>> += -= ( ) , ; : ' ~ ? ! $ # [ ] { } ^")

-- the sign of this number
abbrev pub IsSign : ℕ → List ℕ → Type 0
IsSign n bytes = slice_get signs n ≡ Some bytes

-- the signs with the names of their numbers
abbrev pub numbered_signs : List (ℕ × List ℕ)
numbered_signs =
    (PLUS, codes "+") ∷
    (MINUS, codes "-") ∷
    (TIMES, codes "*") ∷
    (EQUALS, codes "=") ∷
    (LESS, codes "<") ∷
    (GREATER, codes ">") ∷
    (NOT_EQUAL, codes "<>") ∷
    (LESS_OR_EQUAL, codes "<=") ∷
    (GREATER_OR_EQUAL, codes ">=") ∷
    (SHIFT_LEFT, codes "<<") ∷
    (SHIFT_RIGHT, codes ">>") ∷
    (SHIFT_RIGHT_LOGICAL, codes ">>>") ∷
    (PLUS_EQUALS, codes "+=") ∷
    (MINUS_EQUALS, codes "-=") ∷
    (OPEN_ROUND, codes "(") ∷
    (CLOSE_ROUND, codes ")") ∷
    (COMMA, codes ",") ∷
    (SEMICOLON, codes ";") ∷
    (COLON, codes ":") ∷
    (APOSTROPHE, codes "'") ∷
    (TILDE, codes "~") ∷
    (QUESTION, codes "?") ∷
    (EXCLAMATION, codes "!") ∷
    (DOLLAR, codes "$") ∷
    (HASH, codes "#") ∷
    (OPEN_SQUARE, codes "[") ∷
    (CLOSE_SQUARE, codes "]") ∷
    (OPEN_CURLY, codes "{") ∷
    (CLOSE_CURLY, codes "}") ∷
    (CARET, codes "^") ∷
    []

-- These bytes are one symbol of this kind, where the rest follows them, with the assembler on or off. A Tail
-- is none by itself, but follows REM and DATA.
abbrev pub IsSymbol : Bool → SymKind → List ℕ → List ℕ → Type 0
IsSymbol asm (kinds.Token n) bytes rest = IsSingle n bytes ⊎ IsPair n bytes
IsSymbol asm (kinds.Name suffix bracket) bytes rest = IsName suffix bracket bytes
IsSymbol asm (kinds.Call function bracket) bytes rest = IsCall function bracket bytes
IsSymbol asm kinds.Label bytes rest = (asm ≡ true) × IsLabel bytes
IsSymbol asm (kinds.Number value) bytes rest = (radix : Radix) × IsNumber radix value bytes rest
IsSymbol asm kinds.Text bytes rest = IsText bytes
IsSymbol asm (kinds.LineRef number) bytes rest = IsLineRef number bytes
IsSymbol asm (kinds.Mark n) bytes rest = IsSign n bytes
IsSymbol asm kinds.Tail bytes rest = ⊥
