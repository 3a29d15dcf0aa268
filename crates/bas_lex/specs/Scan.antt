-- What the reader's parts answer: the longest symbol of some kinds at the front of a text.
use Rattle.std.specs.Prelude.{nat_eq, nat_le, slice_get, if◌then◌else◌, ◌≡◌, ◌≢◌, ◌⊎◌, ℕ, ◌+◌, ◌^◌, ◌≤◌, min, Bool, true, false, ◌||◌, ◌==◌, List, [], ◌∷◌, ◌++◌, length, Option, Some, None}
use Rattle.std.specs.List.{starts_with}
use Rattle.std.specs.Str.Parse.{digits_value}
use Rattle.bas_lex.specs.declared.front.Front.{Front}
use Rattle.bas_lex.specs.declared.name.NameEnd.{NameEnd}
use Rattle.bas_lex.specs.declared.number.Radix.{Radix}
use Rattle.bv_num.specs.declared.value.DigitRun.{DigitRun}
use Rattle.bv_num.specs.Digits.{is_digit}
use Rattle.bas_lex.specs.declared.symbol.TheConstants.{NO_SUFFIX}
use Rattle.bas_lex.specs.declared.symbol.SymKind.{SymKind}
use Rattle.bas_lex.specs.declared.symbol.SymKind.TheVariants as kinds
use Rattle.bas_lex.specs.declared.text.Part.{Part}
use Rattle.bas_lex.specs.declared.text.Part.TheVariants as parts
use Rattle.bv_token.specs.Names.{is_in_name}
use Rattle.bas_lex.specs.Bytes.{quotation_mark, dollar_sign, percent_sign, open_bracket, Each, NotFirst}
use Rattle.bas_lex.specs.Kinds.{IsSuffix, suffix_bytes, bracket_bytes, IsPlainName, IsSystemName, IsName, IsCall, IsLabel, IsSingle, IsPair, IsNumber, base, doubled, IsText, IsLineRef, signs}
use Rattle.bas_lex.specs.Cut.{Begins, Longest}

-- the longest symbol at the front of a text, or that none begins there
abbrev pub Best : (SymKind → List ℕ → List ℕ → Type 0) → List ℕ → Option Front → Type 0
Best symbol text None = (kind : SymKind) (size : ℕ) → Begins symbol text kind size → ⊥
Best symbol text (Some front) = Longest symbol text front.kind front.size

-- the symbols of one kind: names that begin with a letter, `_` or the pound sign
abbrev pub Names : SymKind → List ℕ → List ℕ → Type 0
Names (kinds.Name suffix bracket) bytes rest = IsPlainName suffix bracket bytes
Names kind bytes rest = ⊥

-- the name `@%`
abbrev pub SystemNames : SymKind → List ℕ → List ℕ → Type 0
SystemNames (kinds.Name suffix bracket) bytes rest = IsSystemName suffix bracket bytes
SystemNames kind bytes rest = ⊥

-- a call, or its token alone
abbrev pub Calls : Bool → SymKind → List ℕ → List ℕ → Type 0
Calls function (kinds.Call is_function bracket) bytes rest = (is_function ≡ function) × IsCall function bracket bytes
Calls function (kinds.Token n) bytes rest = IsSingle n bytes
Calls function kind bytes rest = ⊥

-- labels, with the assembler on
abbrev pub Labels : Bool → SymKind → List ℕ → List ℕ → Type 0
Labels asm kinds.Label bytes rest = (asm ≡ true) × IsLabel bytes
Labels asm kind bytes rest = ⊥

-- numbers of one radix
abbrev pub Numbers : Radix → SymKind → List ℕ → List ℕ → Type 0
Numbers radix (kinds.Number value) bytes rest = IsNumber radix value bytes rest
Numbers radix kind bytes rest = ⊥

-- strings
abbrev pub Texts : SymKind → List ℕ → List ℕ → Type 0
Texts kinds.Text bytes rest = IsText bytes
Texts kind bytes rest = ⊥

-- references to lines
abbrev pub LineRefs : SymKind → List ℕ → List ℕ → Type 0
LineRefs (kinds.LineRef number) bytes rest = IsLineRef number bytes
LineRefs kind bytes rest = ⊥

-- keywords
abbrev pub Tokens : SymKind → List ℕ → List ℕ → Type 0
Tokens (kinds.Token n) bytes rest = IsSingle n bytes ⊎ IsPair n bytes
Tokens kind bytes rest = ⊥

-- the signs of a part of the table
abbrev pub SignsOf : List (List ℕ) → SymKind → List ℕ → List ℕ → Type 0
SignsOf table (kinds.Mark n) bytes rest = slice_get table n ≡ Some bytes
SignsOf table kind bytes rest = ⊥

-- signs
abbrev pub Signs : SymKind → List ℕ → List ℕ → Type 0
Signs = SignsOf signs

-- The text has a run of bytes that pass a test, and then a rest that begins with none.
pub record IsRun (test : ℕ → Bool) (text rest : List ℕ) : Type 0 where
  pub run : List ℕ
  pub each : Each test run
  pub split : text ≡ run ++ rest
  pub stops : NotFirst test rest

-- `%`
abbrev pub is_percent : ℕ → Bool
is_percent c = c == percent_sign

-- `%` or `$`
abbrev pub is_suffix : ℕ → Bool
is_suffix c = c == percent_sign || c == dollar_sign

-- an opening bracket
abbrev pub is_bracket : ℕ → Bool
is_bracket c = c == open_bracket

-- The text has this suffix first, and no other.
pub record SplitsSuffix (text : List ℕ) (suffix : ℕ) (rest : List ℕ) : Type 0 where
  pub is_suffix_byte : IsSuffix suffix
  pub split : text ≡ suffix_bytes suffix ++ rest
  pub bare : suffix ≡ NO_SUFFIX → NotFirst is_suffix text

-- The text has a bracket first, or none.
pub record SplitsBracket (text : List ℕ) (bracket : Bool) (rest : List ℕ) : Type 0 where
  pub split : text ≡ bracket_bytes bracket ++ rest
  pub bare : bracket ≡ false → NotFirst is_bracket text

-- The text has `%` first, or none.
abbrev pub SplitsPercent : List ℕ → List ℕ → Type 0
SplitsPercent text rest = (text ≡ percent_sign ∷ rest) ⊎ ((text ≡ rest) × NotFirst is_percent text)

-- The most that goes on with a name.
pub record EndsName (text : List ℕ) (end : NameEnd) : Type 0 where
  pub after_letters : List ℕ
  pub after_suffix : List ℕ
  pub rest : List ℕ
  pub letters : IsRun is_in_name text after_letters
  pub suffix : SplitsSuffix after_letters end.suffix after_suffix
  pub bracket : SplitsBracket after_suffix end.bracket rest
  pub size : end.size + length rest ≡ length text

-- A label's name at the front, with the rest after the longest one.
pub record EndsLabel (text rest : List ℕ) : Type 0 where
  pub name : List ℕ
  pub suffix : ℕ
  pub no_string : suffix ≢ dollar_sign
  pub is_name : IsName suffix false name
  pub split : text ≡ name ++ rest
  pub longest : (other rest' : List ℕ) (s : ℕ) → s ≢ dollar_sign → IsName s false other → text ≡ other ++ rest' → length other ≤ length name

-- no label's name is at the front
abbrev pub NoLabelName : List ℕ → Type 0
NoLabelName text = (name rest : List ℕ) (suffix : ℕ) → IsName suffix false name → text ≡ name ++ rest → ⊥

-- The digits that come first, their number, and their value, which counts only below 2^32.
pub record HasDigits (radix : Radix) (text : List ℕ) (digits : DigitRun) : Type 0 where
  pub rest : List ℕ
  pub run : IsRun (is_digit (base radix)) text rest
  pub value : digits.value ≡ min (digits_value (base radix) run.run) (2 ^ 32)
  pub count : digits.count ≡ length run.run

-- a quotation mark
abbrev pub is_quote : ℕ → Bool
is_quote c = c == quotation_mark

-- what comes first of a string's bytes after its first quotation mark
abbrev pub IsPart : List ℕ → Part → Type 0
IsPart text (parts.Doubled after) = text ≡ quotation_mark ∷ quotation_mark ∷ after.now
IsPart text parts.Closing = (rest : List ℕ) × (text ≡ quotation_mark ∷ rest) × NotFirst is_quote rest
IsPart text (parts.Other after) = (c : ℕ) × (text ≡ c ∷ after.now) × (c ≢ quotation_mark)
IsPart text parts.End = text ≡ []

-- The first bytes of a text, as many as the size says, end with the quotation mark that closes a string.
pub record Closes (text : List ℕ) (size : ℕ) : Type 0 where
  pub contents : List ℕ
  pub rest : List ℕ
  pub split : text ≡ doubled contents ++ quotation_mark ∷ rest
  pub size_is : size ≡ length (doubled contents) + 1

-- the last quotation mark that closes a string, or that none does
abbrev pub ClosesLast : List ℕ → Option ℕ → Type 0
ClosesLast text None = (size : ℕ) → Closes text size → ⊥
ClosesLast text (Some size) = Closes text size × ((other : ℕ) → Closes text other → other ≤ size)

-- the longer of two symbols at the front
abbrev pub longer_of : Option Front → Front → Option Front
longer_of None front = Some front
longer_of (Some old) front = if nat_le front.size old.size then Some old else Some front

-- what was found before, or the sign of this number where it is longer and is at the front
abbrev pub longer_sign : Option Front → ℕ → List ℕ → List ℕ → Option Front
longer_sign found number sign text =
    if starts_with nat_eq text sign then longer_of found (record { kind = kinds.Mark number; size = length sign }) else found
