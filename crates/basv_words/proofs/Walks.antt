-- `clap`'s walk over the words of a command, step by step.
use Rattle.std.proofs.Common.{◌≡◌, ℕ, ◌==◌, Bool, true, false, not, List, [], ◌∷◌, ◌++◌, Option, Some, None, refl, sym, ap, ◌∙◌, true≢false, if◌then◌else◌, ◌&&◌, append-nil}
use Rattle.std.specs.Option.{option_map_or}
use Rattle.std.specs.Prelude.{fold}
use Rattle.std.specs.Str.{bytes_eq}
use Rattle.clap.specs.Lexer.{long_of, short_of}
use Rattle.clap.specs.Walk.{Held, Row, Text, Waiting, Walk, settled, used_by_id, walked}
use Rattle.clap.specs.Faults.{settle_fault, use_fault, turn_fault, walk_fault}
use Rattle.clap.specs.Kinds.{Kinds, or_else}
use Rattle.basv_words.specs.declared.setting.Setting.{Setting}
use Rattle.basv_words.specs.declared.setting.Setting.TheVariants as settings
use Rattle.basv_words.specs.Given.{is_name}
use Rattle.basv_words.specs.Reader.{name_of}
use Rattle.basv_words.proofs.Slots.{Slot, Use, allows, by_id, id_of, repeats, rows_for, rules_for, shape_for, some, use_is, used_is, values_at}

abbrev pub is_nil : Kinds → Bool
is_nil [] = true
is_nil (k ∷ ks) = false

-- the argument whose value was read last
pub data Pending : Type 0 where
  Nothing : Pending
  Full : (slot : Slot) (word : Text) → Pending

abbrev pub pend : Pending → Option (Text × List Text)
pend Nothing = None
pend (Full s v) = Some (id_of s, v ∷ [])

abbrev pub uses_of : Pending → List Use
uses_of Nothing = []
uses_of (Full s v) = (s, v) ∷ []

abbrev pub held : List Use → Option (Text × List Text) → Held
held us p = record { rows = rows_for us; pending = p; skip = 0 }

abbrev pub walk_at : List Use → Option (Text × List Text) → Waiting → ℕ → Bool → Walk
walk_at us p waiting k trailing = record { held = held us p; waiting = waiting; position = k; is_trailing = trailing; stopped = None }

-- the pending value is the first of its slot
abbrev pub is_first : Pending → List Use → Bool
is_first Nothing us = true
is_first (Full s v) us = not (some (values_at s us))

abbrev pub IsAllowed : Bool → Bool → Pending → Type 0
IsAllowed target options Nothing = Unit {0}
IsAllowed target options (Full s v) = allows target options s ≡ true

-- ---- a word that is no flag

pub record IsPlainWord (word : Text) : Type 0 where
  pub no_end : bytes_eq word (45 ∷ 45 ∷ []) ≡ false
  pub no_long : long_of word ≡ None
  pub no_short : short_of word ≡ None

pub plain_word_is : (word : Text) → is_name word ≡ true → IsPlainWord word
plain_word_is [] is = record { no_end = refl; no_long = refl; no_short = refl }
plain_word_is (c ∷ []) is = go (c == 45) refl
  where
    go : (b : Bool) → (c == 45) ≡ b → IsPlainWord (c ∷ [])
    go true e = record { no_end = rw e refl; no_long = rw e refl; no_short = rw e refl }
    go false e = record { no_end = rw e refl; no_long = rw e refl; no_short = rw e refl }
plain_word_is (c ∷ d ∷ rest) is = go (c == 45) refl is
  where
    go : (b : Bool) → (c == 45) ≡ b → not b ≡ true → IsPlainWord (c ∷ d ∷ rest)
    go true e is = absurd (true≢false (sym is))
    go false e is = record { no_end = rw e refl; no_long = rw e refl; no_short = rw e refl }

pub and_no : (b : Bool) → (b && false) ≡ false
and_no true = refl
and_no false = refl

is_id : (s : Setting) → bytes_eq (name_of s) (name_of s) ≡ true
is_id settings.Input = refl
is_id settings.Steps = refl
is_id settings.Arena = refl

pub nil_is : (ks : Kinds) → is_nil ks ≡ true → ks ≡ []
nil_is [] e = refl
nil_is (k ∷ ks) e = absurd (true≢false (sym e))

pub or_else_fails : (a b : Kinds) → is_nil a ≡ false → is_nil (or_else a b) ≡ false
or_else_fails [] b e = absurd (true≢false e)
or_else_fails (k ∷ ks) b e = refl

module _ (target options : Bool) where
  -- what the rest of the words comes to
  unfoldable pub outcome : Walk → List Text → Option (List Row)
  outcome w words =
      if is_nil (or_else (walk_fault (shape_for target options) [] w words) (settle_fault (rules_for target options) false (fold (walked (rules_for target options) []) w words).held))
      then Some (settled (rules_for target options) (fold (walked (rules_for target options) []) w words).held).rows else None

  pub outcome_end : (w : Walk) → outcome w [] ≡ (if is_nil (settle_fault (rules_for target options) false w.held) then Some (settled (rules_for target options) w.held).rows else None)
  unfolding outcome walk_fault
  outcome_end w = refl

  pub outcome_more : (w : Walk) (word : Text) (words : List Text) → turn_fault (shape_for target options) [] w word ≡ [] → outcome w (word ∷ words) ≡ outcome (walked (rules_for target options) [] w word) words
  unfolding outcome walk_fault
  outcome_more w word words none =
      let after = walked (rules_for target options) [] w word in
      ap (λ ks. if is_nil (or_else (or_else ks (walk_fault (shape_for target options) [] after words)) (settle_fault (rules_for target options) false (fold (walked (rules_for target options) []) after words).held))
      then Some (settled (rules_for target options) (fold (walked (rules_for target options) []) after words).held).rows else None) none

  pub outcome_stop : (w : Walk) (word : Text) (words : List Text) → is_nil (turn_fault (shape_for target options) [] w word) ≡ false → outcome w (word ∷ words) ≡ None
  unfolding outcome walk_fault
  outcome_stop w word words some = go (turn_fault (shape_for target options) [] w word) some
    where
      after : Walk
      after = walked (rules_for target options) [] w word

      go : (ks : Kinds) → is_nil ks ≡ false
          → ◌≡◌ {A = Option (List Row)} (if is_nil (or_else (or_else ks (walk_fault (shape_for target options) [] (walked (rules_for target options) [] w word) words))
          (settle_fault (rules_for target options) false (fold (walked (rules_for target options) []) (walked (rules_for target options) [] w word) words).held))
          then Some (settled (rules_for target options) (fold (walked (rules_for target options) []) (walked (rules_for target options) [] w word) words).held).rows else None) None
      go [] e = absurd (true≢false e)
      go (k ∷ ks) e = refl

  -- ---- the pending value is settled

  pub settle_is : (us : List Use) (p : Pending) → IsAllowed target options p → is_nil (settle_fault (rules_for target options) false (held us (pend p))) ≡ is_first p us
  settle_is us Nothing is = refl
  settle_is us (Full s v) is =
      ap (λ o. is_nil (option_map_or (λ a. use_fault false a (v ∷ []) (rows_for us)) o [])) (by_id target options s is)
      ∙ ap is_nil (use_is s v us) ∙ go (some (values_at s us))
    where
      go : (b : Bool) → is_nil (repeats b) ≡ not b
      go true = refl
      go false = refl

  pub settled_is : (us : List Use) (p : Pending) → IsAllowed target options p → is_first p us ≡ true → settled (rules_for target options) (held us (pend p)) ≡ held (us ++ uses_of p) None
  settled_is us Nothing is first = ap (λ l. held l None) (sym (append-nil us))
  settled_is us (Full s v) is first =
      ap (λ o. with_rows (used_by_id o (v ∷ []) (rows_for us))) (by_id target options s is)
      ∙ ap with_rows (used_is s v us (go (some (values_at s us)) first))
    where
      with_rows : List Row → Held
      with_rows rows = record { rows = rows; pending = None; skip = 0 }

      go : (b : Bool) → not b ≡ true → b ≡ false
      go true e = absurd (true≢false (sym e))
      go false e = refl
