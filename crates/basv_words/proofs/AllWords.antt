-- What `clap` says of all the words of a command: where it takes them, and what its matches then have.
use Rattle.std.proofs.Common.{◌≡◌, Bool, true, false, inl, inr, List, [], ◌∷◌, Option, Some, None, refl, sym, ap, ap₂, subst, ◌∙◌, true≢false, if◌then◌else◌, ◌||◌, ◌&&◌, codes, map, drop, string_bytes, String}
use Rattle.std.specs.Option.{option_map}
use Rattle.std.specs.Prelude.{fold}
use Rattle.std.specs.Str.{chars}
use Rattle.std.proofs.lemmas.Str.{IsUtf8-string_bytes, encodes-chars}
use Rattle.clap.specs.Walk.{Row, Rule, Text, Walk, answers_to, finished, idle, nothing_held, settled, walk, walk_from, walked, with_default}
use Rattle.clap.specs.Simple.{App, argument_words, entered, label_of, matches_of}
use Rattle.clap.specs.Takes.{is_given}
use Rattle.clap.specs.Faults.{built_fault, check_fault, defaults_fault, entered_fault, fault_of, level_fault, settle_fault, walk_fault}
use Rattle.clap.specs.Kinds.{HasKind, Kinds, or_else}
use Rattle.clap.specs.Values.{kind_of}
use Rattle.clap.specs.declared.error.Error.{Error}
use Rattle.clap.specs.declared.error.kind.ErrorKind.TheVariants.{OutOfMemory}
use Rattle.std.specs.Str.{bytes_eq}
use Rattle.std.proofs.lemmas.Slice.Eq.{bytes_eq-Decides}
use Rattle.basv_words.specs.declared.setting.Setting.{Setting}
use Rattle.basv_words.specs.declared.setting.Setting.TheVariants as settings
use Rattle.basv_words.specs.Given.{Asked, Awaits, Has, Closed, Given, Open, Value, asked, by_asked, is_name, read, with_name, with_value}
use Rattle.basv_words.specs.Reader.{app_for, gathered, has_empty_value, is_empty_value}
use Rattle.basv_words.specs.Taken.{if_taken, taken}
use Rattle.basv_words.proofs.Slots.{built_is, defaults_keep, defaults_none, rules_are, rules_for, shape_for, slots_for}
use Rattle.basv_words.proofs.Walks.{Nothing, is_nil, outcome}
use Rattle.basv_words.proofs.Due as dues
use Rattle.basv_words.proofs.Due.{First, given_of}
use Rattle.basv_words.proofs.Agrees.{AreTexts, agrees}

-- the words of the system are text
pub are_texts : {Z : Type 0} (words : List (String Z)) → AreTexts (map string_bytes words)
are_texts [] = tt
are_texts (word ∷ words) = (encodes-chars (string_bytes word) (IsUtf8-string_bytes word), are_texts words)

pub texts_drop : (words : List Text) → AreTexts words → AreTexts (drop 1 words)
texts_drop [] texts = tt
texts_drop (word ∷ words) texts = texts.1

-- what the matches have, where the words are taken
abbrev pub answer : Kinds → List Row → Option Given
answer kinds rows = if is_nil kinds then gathered rows else None

module _ (target options : Bool) where
  abbrev end_of : List Text → Rattle.clap.specs.Walk.Held
  end_of words = (walk (rules_for target options) [] nothing_held words).held

  check_is : (rows : List Row) → is_nil (check_fault (shape_for target options) rows false) ≡ (is_given (codes "source") rows && (if target then is_given (codes "target") rows else true))
  unfolding rules_for
  check_is rows = go target options (is_given (codes "source") rows) (is_given (codes "target") rows) refl refl
    where
      go : (t o a b : Bool) → is_given (codes "source") rows ≡ a → is_given (codes "target") rows ≡ b
          → is_nil (check_fault (shape_for t o) rows false) ≡ (is_given (codes "source") rows && (if t then is_given (codes "target") rows else true))
      go true true true true ea eb = rw (ea, eb) refl
      go true true true false ea eb = rw (ea, eb) refl
      go true true false b ea eb = rw ea refl
      go true false true true ea eb = rw (ea, eb) refl
      go true false true false ea eb = rw (ea, eb) refl
      go true false false b ea eb = rw ea refl
      go false true true b ea eb = rw ea refl
      go false true false b ea eb = rw ea refl
      go false false true b ea eb = rw ea refl
      go false false false b ea eb = rw ea refl

  finished_are : (words : List Text) → finished (rules_for target options) (end_of words) ≡ (settled (rules_for target options) (end_of words)).rows
  finished_are words = ap (fold with_default (settled (rules_for target options) (end_of words)).rows) (rules_are target options) ∙ defaults_keep (settled (rules_for target options) (end_of words)).rows (slots_for target options)

  abbrev level : List Text → Kinds
  level words = level_fault (shape_for target options) [] nothing_held words false []

  by_kinds : (walks settles : Kinds) (rows : List Row)
      → answer (or_else walks (or_else settles (check_fault (shape_for target options) rows false))) rows ≡ dues.finish target options (if is_nil (or_else walks settles) then Some rows else None)
  by_kinds (k ∷ ks) settles rows = refl
  by_kinds [] (k ∷ ks) rows = refl
  by_kinds [] [] rows = ap (λ b. if b then gathered rows else None) (check_is rows)

  level_is : (words : List Text) → answer (level words) (finished (rules_for target options) (end_of words)) ≡ dues.finish target options (outcome target options (walk_from nothing_held) words)
  unfolding outcome
  level_is words =
      let rules = rules_for target options in
      let shape = shape_for target options in
      let walks = walk_fault shape [] (walk_from nothing_held) words in
      let settles = settle_fault rules false (end_of words) in
      let rows = (settled rules (end_of words)).rows in
      let none : defaults_fault rows rules ≡ [] = ap (defaults_fault rows) (rules_are target options) ∙ defaults_none rows (slots_for target options) in
      ap₂ (λ ks final. answer (or_else walks (or_else settles (or_else ks (check_fault shape final false)))) final) none (finished_are words)
      ∙ by_kinds walks settles rows

  abbrev whole : App
  whole = record { top = shape_for target options; subs = [] }

  enters_none : (stop : Option (Text × List Text)) → entered whole stop ≡ None
  enters_none None = refl
  enters_none (Some p) = refl

  no_fault_below : (stop : Option (Text × List Text)) → entered_fault whole stop ≡ []
  no_fault_below None = refl
  no_fault_below (Some p) = refl

  built_level : (words : List Text) → built_fault whole nothing_held words ≡ level words
  built_level words =
      let stop = (walk (rules_for target options) [] nothing_held words).stopped in
      ap₂ (λ (e : Option (Text × List Row)) below. level_fault (shape_for target options) [] nothing_held words (Rattle.std.specs.Option.is_some e) below) (enters_none stop) (no_fault_below stop)

  no_name : (words : List Text) → argument_words (app_for target options) words ≡ drop 1 words
  no_name words = go target options
    where
      go : (t o : Bool) → argument_words (app_for t o) words ≡ drop 1 words
      go true true = refl
      go true false = refl
      go false true = refl
      go false false = refl

  -- `clap` reads the words as the definition does, but for an option with an empty value
  pub reads : (words : List Text) → AreTexts words → has_empty_value (drop 1 words) ≡ false
      → answer (fault_of (app_for target options) words) (matches_of (app_for target options) words) ≡ taken target options (drop 1 words)
  reads words texts none =
      ap₂ (λ (a : App) l. answer (built_fault a nothing_held l) (finished a.top.rules (walk a.top.rules (map label_of a.subs) nothing_held l).held)) (built_is target options) (no_name words)
      ∙ ap (λ ks. answer ks (finished (rules_for target options) (end_of (drop 1 words)))) (built_level (drop 1 words))
      ∙ level_is (drop 1 words)
      ∙ (agrees target options (drop 1 words) (texts_drop words texts)).open_is [] Nothing First (dues.within_none target options) tt (refl, refl) none
      ∙ from_nothing (read Open (drop 1 words))
    where
      from_nothing : (later : Option Given) → dues.due target options [] later ≡ if_taken target options later
      from_nothing None = refl
      from_nothing (Some g) = refl

-- an error for anything but want of memory
pub refused_kinds : (kinds : Kinds) (e : Error) → HasKind kinds e → (kind_of e ≡ OutOfMemory → ⊥) → is_nil kinds ≡ false
refused_kinds [] e (inl is) other = absurd (other is)
refused_kinds [] e (inr among) other = absurd among
refused_kinds (k ∷ ks) e has other = refl

-- ---- a word that gives an option an empty value

no_value_more : (s : Setting) (v : Text) → with_value s v None ≡ None
no_value_more settings.Input v = refl
no_value_more settings.Steps v = refl
no_value_more settings.Arena v = refl

abbrev GivesNone : List Text → Type 0
GivesNone words = (read Open words ≡ None) × ((s : Setting) → read (Value s) words ≡ None)

gives_none : (words : List Text) → has_empty_value words ≡ true → GivesNone words
gives_none [] has = absurd (true≢false (sym has))
gives_none (word ∷ words) has = go (gives_none words) (bytes_eq word (codes "--")) refl (is_empty_value word) refl has
  where
    one_of : (a b c : Bool) → bytes_eq word (codes "--input=") ≡ a → bytes_eq word (codes "--steps=") ≡ b → bytes_eq word (codes "--arena=") ≡ c → (a || (b || c)) ≡ true → GivesNone (word ∷ words)
    one_of true b c ea eb ec is = subst (λ w. GivesNone (w ∷ words)) (sym ((bytes_eq-Decides word (codes "--input=")).0 ea)) (refl, λ s. refl)
    one_of false true c ea eb ec is = subst (λ w. GivesNone (w ∷ words)) (sym ((bytes_eq-Decides word (codes "--steps=")).0 eb)) (refl, λ s. refl)
    one_of false false true ea eb ec is = subst (λ w. GivesNone (w ∷ words)) (sym ((bytes_eq-Decides word (codes "--arena=")).0 ec)) (refl, λ s. refl)
    one_of false false false ea eb ec is = absurd (true≢false (sym is))

    by_option : GivesNone words → (a : Option Asked) → by_asked a (λ s. read (Value s) words) (read Open words) ≡ None
    by_option more None = refl
    by_option more (Some (Awaits s)) = more.1 s
    by_option more (Some (Has s v)) = ap (with_value s v) more.0 ∙ no_value_more s v

    by_name : GivesNone words → (n : Bool) → (if n then with_name word (read Open words) else by_asked (asked word) (λ s. read (Value s) words) (read Open words)) ≡ None
    by_name more true = ap (with_name word) more.0
    by_name more false = by_option more (asked word)

    by_value : GivesNone words → (s : Setting) (n : Bool) → (if n then with_value s word (read Open words) else None) ≡ None
    by_value more s true = ap (with_value s word) more.0 ∙ no_value_more s word
    by_value more s false = refl

    go : (has_empty_value words ≡ true → GivesNone words) → (b : Bool) → bytes_eq word (codes "--") ≡ b → (t : Bool) → is_empty_value word ≡ t → (if bytes_eq word (codes "--") then false else if is_empty_value word then true else has_empty_value words) ≡ true → GivesNone (word ∷ words)
    go more true e t et has = absurd (true≢false (sym (sym (ap (λ b. if b then false else if is_empty_value word then true else has_empty_value words) e) ∙ has)))
    go more false e true et has = one_of (bytes_eq word (codes "--input=")) (bytes_eq word (codes "--steps=")) (bytes_eq word (codes "--arena=")) refl refl refl et
    go more false e false et has =
        let rest : has_empty_value words ≡ true = sym (ap₂ (λ b t. if b then false else if t then true else has_empty_value words) e et) ∙ has in
        let later = more rest in
        (ap (λ b. if b then read Closed words else if is_name word then with_name word (read Open words) else by_asked (asked word) (λ s. read (Value s) words) (read Open words)) e ∙ by_name later (is_name word), λ s. by_value later s (is_name word))

-- such words give nothing
pub empty_refused : (target options : Bool) (words : List Text) → has_empty_value words ≡ true → taken target options words ≡ None
empty_refused target options words has = ap (if_taken target options) (gives_none words has).0
