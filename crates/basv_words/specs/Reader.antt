-- The commands that `clap` reads, and what is read of its matches. This project's own.
use Rattle.std.specs.Prelude.{ℕ, Bool, true, false, ◌||◌, List, [], ◌∷◌, ◌++◌, Option, Some, None, bytes_eq, codes, if◌then◌else◌}
use Rattle.clap.specs.Words.{App, Row, Rule, first_of, new_app, new_rule, with_rule}
use Rattle.basv_words.specs.declared.setting.Setting.{Setting}
use Rattle.basv_words.specs.declared.setting.Setting.TheVariants as settings
use Rattle.basv_words.specs.Given.{Given, word_of}

-- the option's name, which follows the two dashes
abbrev pub name_of : Setting → List ℕ
name_of settings.Input = codes "input"
name_of settings.Steps = codes "steps"
name_of settings.Arena = codes "arena"

-- a name that has to be there
abbrev pub name_rule : List ℕ → Rule
name_rule id = record (new_rule id) { required = true }

-- an option with a value
abbrev pub option_rule : List ℕ → Rule
option_rule name = record (new_rule name) { long = Some name }

-- a command without the words for help
abbrev pub start : App
start = let a = new_app (codes "basv") in record a { top = record a.top { disable_help_flag = true } }

abbrev pub with_options : App → App
with_options a = with_rule (with_rule (with_rule a (option_rule (name_of settings.Input))) (option_rule (name_of settings.Steps))) (option_rule (name_of settings.Arena))

abbrev pub with_options_if : Bool → App → App
with_options_if true a = with_options a
with_options_if false a = a

abbrev pub with_target_if : Bool → App → App
with_target_if true a = with_rule a (name_rule (codes "target"))
with_target_if false a = a

-- a command of one name or two, with options or without
abbrev pub app_for : Bool → Bool → App
app_for target options = with_options_if options (with_target_if target (with_rule start (name_rule (codes "source"))))

abbrev pub listed : Option (List ℕ) → List (List ℕ)
listed None = []
listed (Some value) = value ∷ []

-- what the matches have, where they have the first name
abbrev pub gathered_with : List Row → Option (List ℕ) → Option Given
gathered_with rows None = None
gathered_with rows (Some source) = Some (record {
  names = source ∷ listed (first_of (codes "target") rows);
  inputs = listed (first_of (codes "input") rows);
  steps = listed (first_of (codes "steps") rows);
  arenas = listed (first_of (codes "arena") rows);
})

abbrev pub gathered : List Row → Option Given
gathered rows = gathered_with rows (first_of (codes "source") rows)

-- the word gives an option an empty value
abbrev pub is_empty_value : List ℕ → Bool
is_empty_value word = bytes_eq word (word_of settings.Input ++ 61 ∷ []) || (bytes_eq word (word_of settings.Steps ++ 61 ∷ []) || bytes_eq word (word_of settings.Arena ++ 61 ∷ []))

-- a word before `--` does
abbrev pub has_empty_value : List (List ℕ) → Bool
has_empty_value [] = false
has_empty_value (word ∷ words) = if bytes_eq word (codes "--") then false else if is_empty_value word then true else has_empty_value words
