-- What the words after a command give: names, and the values of options. This project's own.
use Rattle.std.specs.Prelude.{ℕ, Bool, true, not, ◌&&◌, ◌==◌, nat_lt, List, [], ◌∷◌, ◌++◌, length, Option, Some, None, bytes_eq, codes, if◌then◌else◌}
use Rattle.basv_words.specs.declared.setting.Setting.{Setting}
use Rattle.basv_words.specs.declared.setting.Setting.TheVariants as settings

-- A word that begins with a dash is no name, unless it is the dash alone.
abbrev pub is_name : List ℕ → Bool
is_name [] = true
is_name (c ∷ []) = true
is_name (c ∷ d ∷ rest) = not (c == 45)

-- the word of an option
abbrev pub word_of : Setting → List ℕ
word_of settings.Input = codes "--input"
word_of settings.Steps = codes "--steps"
word_of settings.Arena = codes "--arena"

-- what follows these bytes in a word that begins with them
abbrev pub rest_after : List ℕ → List ℕ → Option (List ℕ)
rest_after [] word = Some word
rest_after (p ∷ ps) [] = None
rest_after (p ∷ ps) (b ∷ bs) = if b == p then rest_after ps bs else None

-- a word asks for the next one as the value of an option, or has the value itself
pub data Asked : Type 0 where
  Awaits : (setting : Setting) → Asked
  Has : (setting : Setting) (value : List ℕ) → Asked

-- a value that a word itself has isn't empty
abbrev pub valued : Setting → Option (List ℕ) → Option Asked
valued setting None = None
valued setting (Some []) = None
valued setting (Some (b ∷ bs)) = Some (Has setting (b ∷ bs))

-- `--input`, or `--input=` and a value that isn't empty; and so for the other options
abbrev pub asked_as : Setting → List ℕ → Option Asked
asked_as setting word = if bytes_eq word (word_of setting) then Some (Awaits setting) else valued setting (rest_after (word_of setting ++ 61 ∷ []) word)

abbrev pub first_of : Option Asked → Option Asked → Option Asked
first_of None other = other
first_of (Some a) other = Some a

-- which option a word is, with its value or without
abbrev pub asked : List ℕ → Option Asked
asked word = first_of (asked_as settings.Input word) (first_of (asked_as settings.Steps word) (asked_as settings.Arena word))

-- The names and the values in the order in which they were given.
pub record Given : Type 0 where
  pub names : List (List ℕ)
  pub inputs : List (List ℕ)
  pub steps : List (List ℕ)
  pub arenas : List (List ℕ)

abbrev pub nothing : Given
nothing = record { names = []; inputs = []; steps = []; arenas = [] }

-- one more in front
abbrev pub with_name : List ℕ → Option Given → Option Given
with_name word None = None
with_name word (Some g) = Some (record g { names = word ∷ g.names })

abbrev pub with_value : Setting → List ℕ → Option Given → Option Given
with_value setting value None = None
with_value settings.Input value (Some g) = Some (record g { inputs = value ∷ g.inputs })
with_value settings.Steps value (Some g) = Some (record g { steps = value ∷ g.steps })
with_value settings.Arena value (Some g) = Some (record g { arenas = value ∷ g.arenas })

-- Where a word is: any word may come, or the value of an option comes, or all words from here on are names.
pub data Place : Type 0 where
  Open : Place
  Value : (setting : Setting) → Place
  Closed : Place

-- after a word that should be an option: what the words after it give where its value is to come, and where any word may
abbrev pub by_asked : Option Asked → (Setting → Option Given) → Option Given → Option Given
by_asked None value any = None
by_asked (Some (Awaits setting)) value any = value setting
by_asked (Some (Has setting word)) value any = with_value setting word any

-- What words give from a place on, if they may come there. A word `--` makes names of all words after it. The value of an
-- option doesn't begin with a dash, unless it is the dash alone.
abbrev pub read : Place → List (List ℕ) → Option Given
read Open [] = Some nothing
read (Value setting) [] = None
read Closed [] = Some nothing
read Open (word ∷ words) =
    if bytes_eq word (codes "--") then read Closed words
    else if is_name word then with_name word (read Open words)
    else by_asked (asked word) (λ setting. read (Value setting) words) (read Open words)
read (Value setting) (word ∷ words) = if is_name word then with_value setting word (read Open words) else None
read Closed (word ∷ words) = with_name word (read Closed words)

-- what was given before, and then
abbrev pub joined : Given → Given → Given
joined before later = record {
  names = before.names ++ later.names;
  inputs = before.inputs ++ later.inputs;
  steps = before.steps ++ later.steps;
  arenas = before.arenas ++ later.arenas;
}

-- no command takes more names than two, or an option twice
abbrev pub is_few : Given → Bool
is_few g = nat_lt (length g.names) 3 && (nat_lt (length g.inputs) 2 && (nat_lt (length g.steps) 2 && nat_lt (length g.arenas) 2))

abbrev pub few : Option Given → Option Given
few None = None
few (Some g) = if is_few g then Some g else None

-- what the words after a command give
abbrev pub given : List (List ℕ) → Option Given
given words = few (read Open words)
