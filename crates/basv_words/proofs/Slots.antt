-- What a command may be given, and where `clap` finds it.
use Rattle.std.proofs.Common.{◌≡◌, ℕ, Bool, true, false, List, [], ◌∷◌, ◌++◌, Option, Some, None, refl, sym, ap, ◌∙◌, true≢false, if◌then◌else◌, ◌||◌, codes, append-nil, map}
use Rattle.std.specs.Option.{option_map, option_map_or}
use Rattle.std.specs.Prelude.{find, fold, option_and_then, slice_get}
use Rattle.std.specs.Str.{bytes_eq}
use Rattle.clap.specs.Walk.{Row, Rule, Text, arg_by_id, arg_by_index, arg_by_long, arg_by_short, at_row, more_values, first_of, has_row, used, without, with_default}
use Rattle.clap.specs.Simple.{App, Shape, built, is_simple}
use Rattle.clap.specs.Takes.{is_given}
use Rattle.clap.specs.Facts.{explicit_source}
use Rattle.clap.specs.Faults.{use_fault, default_fault, defaults_fault, given_default_fault, is_simple_and_free}
use Rattle.clap.specs.Kinds.{Kinds, or_else}
use Rattle.clap.specs.Values.{reading_of}
use Rattle.clap.specs.declared.builder.action.ArgAction.TheVariants.{Set}
use Rattle.clap.specs.declared.builder.value_parser.ValueParser.TheVariants as vp
use Rattle.clap.specs.declared.parser.matches.ValueSource.TheVariants.{CommandLine}
use Rattle.basv_words.specs.declared.setting.Setting.{Setting}
use Rattle.basv_words.specs.declared.setting.Setting.TheVariants as settings
use Rattle.basv_words.specs.Reader.{app_for, name_of}
use Rattle.basv_words.proofs.Asked.{choose, named_in}

-- a name, or the value of an option
pub data Slot : Type 0 where
  Source : Slot
  Target : Slot
  Choice : (setting : Setting) → Slot

abbrev pub id_of : Slot → Text
id_of Source = codes "source"
id_of Target = codes "target"
id_of (Choice setting) = name_of setting

abbrev pub long_for : Slot → Option Text
long_for (Choice setting) = Some (name_of setting)
long_for _ = None

abbrev pub index_for : Slot → Option ℕ
index_for Source = Some 1
index_for Target = Some 2
index_for (Choice setting) = None

abbrev pub is_needed : Slot → Bool
is_needed (Choice setting) = false
is_needed _ = true

-- the rule of a slot, as building leaves it
abbrev pub rule_at : Slot → Rule
rule_at s = record {
  id = id_of s;
  long = long_for s;
  aliases = [];
  short = None;
  short_aliases = [];
  index = index_for s;
  action = Some Set;
  range = Some (record { start_inclusive = 1; end_inclusive = 1 });
  value_names = 0;
  defaults = [];
  missing = [];
  trailing_var_arg = false;
  parser = Some vp.String;
  ignore_case = false;
  required = is_needed s;
  is_simple = true;
  is_free = true;
}

abbrev target_rules : Bool → List Rule
target_rules true = rule_at Target ∷ []
target_rules false = []

abbrev option_rules : Bool → List Rule
option_rules true = rule_at (Choice settings.Input) ∷ rule_at (Choice settings.Steps) ∷ rule_at (Choice settings.Arena) ∷ []
option_rules false = []

unfoldable pub rules_for : Bool → Bool → List Rule
rules_for target options = rule_at Source ∷ (target_rules target ++ option_rules options)

-- what the command takes
abbrev pub allows : Bool → Bool → Slot → Bool
allows target options Source = true
allows target options Target = target
allows target options (Choice setting) = options

-- the built command
abbrev pub shape_for : Bool → Bool → Shape
shape_for target options = record {
  name = codes "basv";
  aliases = [];
  rules = rules_for target options;
  is_plain = true;
  is_leaf = true;
  no_binary_name = false;
  disable_help_flag = true;
  disable_help_subcommand = true;
  disable_version_flag = false;
  propagate_version = false;
  has_version = false;
  has_long_version = false;
  args_override_self = false;
  arg_required_else_help = false;
  subcommand_required = false;
  subcommand_negates_reqs = false;
  is_built = true;
}

pub built_is : (target options : Bool) → ◌≡◌ {A = App} (built (app_for target options)) (record { top = shape_for target options; subs = [] })
unfolding rules_for
built_is true true = refl
built_is true false = refl
built_is false true = refl
built_is false false = refl

pub simple_is : (target options : Bool) → is_simple_and_free (app_for target options) ≡ true
simple_is true true = refl
simple_is true false = refl
simple_is false true = refl
simple_is false false = refl

pub plain_is : (target options : Bool) → is_simple (app_for target options) ≡ true
plain_is true true = refl
plain_is true false = refl
plain_is false true = refl
plain_is false false = refl

-- ---- where the rules are found

pub by_id : (target options : Bool) (s : Slot) → allows target options s ≡ true → arg_by_id (rules_for target options) (id_of s) ≡ Some (rule_at s)
unfolding rules_for
by_id target options Source is = refl
by_id true options Target is = refl
by_id false options Target is = absurd (true≢false (sym is))
by_id true true (Choice settings.Input) is = refl
by_id true true (Choice settings.Steps) is = refl
by_id true true (Choice settings.Arena) is = refl
by_id false true (Choice settings.Input) is = refl
by_id false true (Choice settings.Steps) is = refl
by_id false true (Choice settings.Arena) is = refl
by_id target false (Choice setting) is = absurd (true≢false (sym is))

pub at_first : (target options : Bool) → arg_by_index (rules_for target options) 1 ≡ Some (rule_at Source)
unfolding rules_for
at_first target options = refl

abbrev pub second : Bool → Option Rule
second true = Some (rule_at Target)
second false = None

pub at_second : (target options : Bool) → arg_by_index (rules_for target options) 2 ≡ second target
unfolding rules_for
at_second true options = refl
at_second false true = refl
at_second false false = refl

pub at_third : (target options : Bool) → arg_by_index (rules_for target options) 3 ≡ None
unfolding rules_for
at_third true true = refl
at_third true false = refl
at_third false true = refl
at_third false false = refl

pub by_short : (target options : Bool) (x : ℕ) → arg_by_short (rules_for target options) x ≡ None
unfolding rules_for
by_short true true x = refl
by_short true false x = refl
by_short false true x = refl
by_short false false x = refl

abbrev pub long_rule : Bool → Option Setting → Option Rule
long_rule true found = option_map (λ setting. rule_at (Choice setting)) found
long_rule false found = None

by_tests : (a b c : Bool) → (if a || false then Some (rule_at (Choice settings.Input)) else if b || false then Some (rule_at (Choice settings.Steps)) else if c || false then Some (rule_at (Choice settings.Arena)) else None)
    ≡ option_map (λ setting. rule_at (Choice setting)) (choose a b c)
by_tests true b c = refl
by_tests false true c = refl
by_tests false false true = refl
by_tests false false false = refl

pub by_long : (target options : Bool) (name : Text) → arg_by_long (rules_for target options) name ≡ long_rule options (named_in name)
unfolding rules_for
by_long true true name = by_tests (bytes_eq (codes "input") name) (bytes_eq (codes "steps") name) (bytes_eq (codes "arena") name)
by_long false true name = by_tests (bytes_eq (codes "input") name) (bytes_eq (codes "steps") name) (bytes_eq (codes "arena") name)
by_long true false name = refl
by_long false false name = refl

-- ---- what was used so far, and the rows of it

abbrev pub Use : Type 0
Use = Slot × Text

abbrev pub row_at : Slot → Text → Row
row_at s value = record {
  id = id_of s;
  values = value ∷ [];
  count = None;
  source = Some CommandLine;
  reading = reading_of vp.String;
}

abbrev pub rows_for : List Use → List Row
rows_for [] = []
rows_for (u ∷ us) = row_at u.0 u.1 ∷ rows_for us

-- the values that a slot was given
abbrev pub values_at : Slot → List Use → List Text
values_at s [] = []
values_at s (u ∷ us) = if bytes_eq (id_of u.0) (id_of s) then u.1 ∷ values_at s us else values_at s us

abbrev pub some : List Text → Bool
some [] = false
some (x ∷ xs) = true

abbrev pub head : List Text → Option Text
head [] = None
head (x ∷ xs) = Some x

pub rows_more : (us vs : List Use) → rows_for (us ++ vs) ≡ rows_for us ++ rows_for vs
rows_more [] vs = refl
rows_more (u ∷ us) vs = ap (λ rs. row_at u.0 u.1 ∷ rs) (rows_more us vs)

pub values_more : (s : Slot) (us vs : List Use) → values_at s (us ++ vs) ≡ values_at s us ++ values_at s vs
values_more s [] vs = refl
values_more s (u ∷ us) vs = go (bytes_eq (id_of u.0) (id_of s)) (values_more s us vs)
  where
    go : (b : Bool) → values_at s (us ++ vs) ≡ values_at s us ++ values_at s vs
        → (if b then u.1 ∷ values_at s (us ++ vs) else values_at s (us ++ vs)) ≡ (if b then u.1 ∷ values_at s us else values_at s us) ++ values_at s vs
    go true e = ap (λ vs. u.1 ∷ vs) e
    go false e = e

pub has_row_is : (s : Slot) (us : List Use) → has_row (id_of s) (rows_for us) ≡ some (values_at s us)
has_row_is s [] = refl
has_row_is s (u ∷ us) = go (bytes_eq (id_of u.0) (id_of s)) (has_row_is s us)
  where
    go : (b : Bool) → has_row (id_of s) (rows_for us) ≡ some (values_at s us) → (b || has_row (id_of s) (rows_for us)) ≡ some (if b then u.1 ∷ values_at s us else values_at s us)
    go true e = refl
    go false e = e

pub first_is : (s : Slot) (us : List Use) → first_of (id_of s) (rows_for us) ≡ head (values_at s us)
first_is s [] = refl
first_is s (u ∷ us) = go (bytes_eq (id_of u.0) (id_of s)) (find (λ r. bytes_eq r.id (id_of s)) (rows_for us)) (first_is s us)
  where
    go : (b : Bool) (o : Option Row) → option_and_then (λ r. slice_get r.values 0) o ≡ head (values_at s us)
        → option_and_then (λ (r : Row). slice_get r.values 0) (if b then Some (row_at u.0 u.1) else o) ≡ head (if b then u.1 ∷ values_at s us else values_at s us)
    go true o e = refl
    go false o e = e

pub given_is : (s : Slot) (us : List Use) → is_given (id_of s) (rows_for us) ≡ some (values_at s us)
given_is s [] = refl
given_is s (u ∷ us) = go (bytes_eq (id_of u.0) (id_of s)) (find (λ r. bytes_eq r.id (id_of s)) (rows_for us)) (given_is s us)
  where
    go : (b : Bool) (o : Option Row) → option_map_or (λ r. explicit_source r.source) o false ≡ some (values_at s us)
        → option_map_or (λ (r : Row). explicit_source r.source) (if b then Some (row_at u.0 u.1) else o) false ≡ some (if b then u.1 ∷ values_at s us else values_at s us)
    go true o e = refl
    go false o e = e

none_there : (s : Slot) (change : Row → List Row) (missing : List Row) (us : List Use) → some (values_at s us) ≡ false → at_row (id_of s) change missing (rows_for us) ≡ rows_for us ++ missing
none_there s change missing [] none = refl
none_there s change missing (u ∷ us) none = go (none_there s change missing us) (bytes_eq (id_of u.0) (id_of s)) none
  where
    go : (some (values_at s us) ≡ false → at_row (id_of s) change missing (rows_for us) ≡ rows_for us ++ missing) → (b : Bool) → some (if b then u.1 ∷ values_at s us else values_at s us) ≡ false
        → (if b then change (row_at u.0 u.1) ++ rows_for us else row_at u.0 u.1 ∷ at_row (id_of s) change missing (rows_for us)) ≡ row_at u.0 u.1 ∷ (rows_for us ++ missing)
    go more true none = absurd (true≢false none)
    go more false none = ap (λ rs. row_at u.0 u.1 ∷ rs) (more none)

-- a slot that is used for the first time
pub used_is : (s : Slot) (value : Text) (us : List Use) → some (values_at s us) ≡ false → used (rule_at s) (value ∷ []) (rows_for us) ≡ rows_for (us ++ (s, value) ∷ [])
used_is s value us none =
    let gone : without (id_of s) (rows_for us) ≡ rows_for us = none_there s (λ r. []) [] us none ∙ append-nil (rows_for us) in
    rw gone (none_there s (more_values CommandLine (value ∷ [])) (row_at s value ∷ []) us none ∙ sym (rows_more us ((s, value) ∷ [])))

abbrev pub repeats : Bool → Kinds
repeats true = Rattle.clap.specs.declared.error.kind.ErrorKind.TheVariants.ArgumentConflict ∷ []
repeats false = []

-- it is refused where the slot has a value already
pub use_is : (s : Slot) (value : Text) (us : List Use) → use_fault false (rule_at s) (value ∷ []) (rows_for us) ≡ repeats (some (values_at s us))
use_is s value us = go (has_row (id_of s) (rows_for us)) (some (values_at s us)) refl (has_row_is s us)
  where
    go : (b t : Bool) → has_row (id_of s) (rows_for us) ≡ b → b ≡ t → use_fault false (rule_at s) (value ∷ []) (rows_for us) ≡ repeats t
    go true true is same = rw is refl
    go true false is same = absurd (true≢false same)
    go false true is same = absurd (true≢false (sym same))
    go false false is same = rw is refl

abbrev pub slots_for : Bool → Bool → List Slot
slots_for true true = Source ∷ Target ∷ Choice settings.Input ∷ Choice settings.Steps ∷ Choice settings.Arena ∷ []
slots_for true false = Source ∷ Target ∷ []
slots_for false true = Source ∷ Choice settings.Input ∷ Choice settings.Steps ∷ Choice settings.Arena ∷ []
slots_for false false = Source ∷ []

pub rules_are : (target options : Bool) → rules_for target options ≡ map rule_at (slots_for target options)
unfolding rules_for
rules_are true true = refl
rules_are true false = refl
rules_are false true = refl
rules_are false false = refl

-- no rule has a default
no_default : (rows : List Row) (s : Slot) → (default_fault rows (rule_at s) ≡ []) × (with_default rows (rule_at s) ≡ rows)
no_default rows s = (fault (has_row (id_of s) rows), row (has_row (id_of s) rows))
  where
    fault : (b : Bool) → ◌≡◌ {A = Kinds} (if b || true then [] else given_default_fault (rule_at s) []) []
    fault true = refl
    fault false = refl

    row : (b : Bool) → (if b then rows else rows) ≡ rows
    row true = refl
    row false = refl

pub defaults_none : (rows : List Row) (ss : List Slot) → defaults_fault rows (map rule_at ss) ≡ []
unfolding defaults_fault
defaults_none rows [] = refl
defaults_none rows (s ∷ ss) = ap (λ ks. or_else ks (defaults_fault (with_default rows (rule_at s)) (map rule_at ss))) (no_default rows s).0 ∙ defaults_none (with_default rows (rule_at s)) ss

pub defaults_keep : (rows : List Row) (ss : List Slot) → fold with_default rows (map rule_at ss) ≡ rows
defaults_keep rows [] = refl
defaults_keep rows (s ∷ ss) = defaults_keep (with_default rows (rule_at s)) ss ∙ (no_default rows s).1
